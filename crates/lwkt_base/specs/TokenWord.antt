use Rattle.std.specs.Prelude.{ℕ, ◌+◌, ◌*◌, ◌%◌, ◌<◌, ◌^◌, ◌==◌, ◌&&◌, ◌||◌, nat_lt, Bool, true, false, if◌then◌else◌}
use Rattle.lwkt_base.specs.declared.names.Mode.{Mode}
use Rattle.lwkt_base.specs.declared.names.Mode.TheVariants.{Exclusive, Shared}
use Rattle.lwkt_base.specs.declared.words.TokWord.{TokWord}
use Rattle.lwkt_base.specs.declared.words.Decision.{Decision}
use Rattle.lwkt_base.specs.declared.words.Decision.TheVariants.{Take, Held, Marked, Worn}
use Rattle.lwkt_base.specs.declared.limits.TheConstants.{LAST_GENERATION}

-- 1 for true, 0 for false
abbrev pub bit : Bool → ℕ
bit true = 1
bit false = 0

-- the count word of a token: the exclusive bit, the mark, the count, the generation (lwkt_token.c; the generation is own)
abbrev pub word_of : TokWord → ℕ
word_of w = bit w.exclusive + 2 * bit w.mark + 4 * w.count + 262144 * w.generation

-- the parts have room in their bits
abbrev pub Fits : TokWord → Type 0
Fits w = (w.count < 2 ^ 16) × (w.generation < 2 ^ 46)

-- what a word answers a processor that doesn't hold the token (token(9); the last generation and `alone` are own)
abbrev pub decision : TokWord → Mode → Bool → Decision
decision w Exclusive alone = if w.generation == LAST_GENERATION then Worn else (if w.exclusive || nat_lt 0 w.count then Held else Take (word_of (record w { exclusive = true; mark = false })))
decision w Shared alone = if w.exclusive then Held else (if w.mark && alone then Marked else Take (word_of (record w { count = w.count + 1 })))

-- a decision within the 64 bits of a word: what is added to a word that is full wraps (own)
abbrev pub in_word : Decision → Decision
in_word (Take next) = Take (next % 2 ^ 64)
in_word Held = Held
in_word Marked = Marked
in_word Worn = Worn
