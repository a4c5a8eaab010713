-- What each step makes of a token's word, by its parts (token(9) and lwkt_token.c; refusals and the generation are own).
use Rattle.std.specs.Prelude.{ℕ, ◌+◌, ◌-◌, ◌==◌, ◌&&◌, ◌||◌, nat_lt, Bool, true, false, if◌then◌else◌, Result, Ok, Err}
use Rattle.lwkt_base.specs.declared.faults.Fault.{Fault}
use Rattle.lwkt_base.specs.declared.faults.Fault.TheVariants.{Busy, Worn, NotHeld, NotLast, Limits}
use Rattle.lwkt_base.specs.declared.words.TokWord.{TokWord}
use Rattle.lwkt_base.specs.declared.limits.TheConstants.{LAST_GENERATION}
use Rattle.lwkt_base.specs.TokenWord.{word_of}

-- taken exclusively: the exclusive bit is set and the mark cleared
abbrev pub exclusive_taken : TokWord → Result ℕ Fault
exclusive_taken w = if w.generation == LAST_GENERATION then Err Worn else (if w.exclusive || nat_lt 0 w.count then Err Busy else Ok (word_of (record w { exclusive = true; mark = false })))

-- taken shared: one more is counted
abbrev pub shared_taken : Bool → TokWord → Result ℕ Fault
shared_taken alone w = if w.exclusive || (w.mark && alone) then Err Busy else (if w.count == 65535 then Err Limits else Ok (word_of (record w { count = w.count + 1 })))

-- a further reference of a holder: one more is counted, in either mode
abbrev pub gained : TokWord → Result ℕ Fault
gained w = if nat_lt 0 w.count || w.exclusive then (if w.count == 65535 then Err Limits else Ok (word_of (record w { count = w.count + 1 }))) else Err NotHeld

-- marked for an exclusive request
abbrev pub marked : TokWord → ℕ
marked w = word_of (record w { mark = true })

-- a reference back that doesn't end an exclusive holding: one less is counted
abbrev pub one_given : TokWord → Result ℕ Fault
one_given w = if w.count == 0 then Err NotHeld else Ok (word_of (record w { count = w.count - 1 }))

-- the next word, if an exclusive holding can end with its holder's next reference: the holder has none beyond the first
abbrev pub exclusive_ended : TokWord → ℕ → Result ℕ Fault
exclusive_ended w next = if w.exclusive then (if nat_lt 0 w.count then Err NotLast else Ok next) else Err NotHeld

-- the last exclusive reference back, with nothing written
abbrev pub clean_given : TokWord → Result ℕ Fault
clean_given w = exclusive_ended w (word_of (record w { exclusive = false }))

-- the last exclusive reference back, with a written row: the generation is one more
abbrev pub written_given : TokWord → Result ℕ Fault
written_given w = if w.generation == LAST_GENERATION then Err Worn else exclusive_ended w (word_of (record w { exclusive = false; generation = w.generation + 1 }))
