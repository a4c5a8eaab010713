use Rattle.std.specs.Prelude.{ℕ, ◌+◌, List, [], ◌∷◌}
use Rattle.lwkt_base.specs.declared.names.CpuId.{CpuId}
use Rattle.lwkt_base.specs.declared.records.Rec.{Rec}
use Rattle.lwkt_core.specs.declared.events.Event.{Event}
use Rattle.lwkt_core.specs.declared.events.Event.TheVariants.{Send, TakeMsg, DropMsg, Reply, Reap, Abort}
use Rattle.lwkt_table.specs.declared.seats.Operation.{Operation}
use Rattle.lwkt_table.specs.declared.seats.Operation.TheVariants.{Load, Store, Exchange, Add, Or}
use Rattle.lwkt_table.specs.declared.seats.WordStep.{WordStep}
use Rattle.lwkt_table.specs.declared.seats.Deed.{Deed}
use Rattle.lwkt_msg.specs.Views.{named}

-- a step on a message's word, with the word that it found
abbrev pub word_step : ℕ → Operation → ℕ → WordStep
word_step m operation found = record { at = m; operation = operation; found = found }

-- a processor's look at the word of a message, and its event on one, with the record that it put there or found there
abbrev pub look_by : CpuId → WordStep → List Rec → Deed
look_by cpu step records = record { cpu = cpu; events = []; steps = step ∷ []; records = records }

abbrev pub deed_by : CpuId → Event → WordStep → List Rec → Deed
deed_by cpu event step records = record { cpu = cpu; events = event ∷ []; steps = step ∷ []; records = records }

-- the deed of each kind of step: a load that found this word, the load that hands a record out, and an exchange that found another
-- word
abbrev pub loads : CpuId → ℕ → ℕ → Deed
loads cpu m found = look_by cpu (word_step m Load found) []

abbrev pub hands_out : CpuId → ℕ → ℕ → Rec → Deed
hands_out cpu m found rec = look_by cpu (word_step m Load found) (rec ∷ [])

abbrev pub loses : CpuId → ℕ → ℕ → ℕ → ℕ → Deed
loses cpu m old new found = look_by cpu (word_step m (Exchange old new) found) []

-- a send to a processor in a round, by the store of this word, with the record that it put there; a take in a round; a reply; a
-- reap, by the store of this word; a drop; and a request to abort
abbrev pub sends : CpuId → ℕ → CpuId → ℕ → ℕ → Rec → Deed
sends cpu m to round word rec = deed_by cpu (Send cpu (named m) to round) (word_step m (Store word) word) (rec ∷ [])

abbrev pub takes : CpuId → ℕ → ℕ → ℕ → Rec → Deed
takes cpu m round found rec = deed_by cpu (TakeMsg cpu (named m) round) (word_step m (Exchange found (found + 1)) found) (rec ∷ [])

abbrev pub replies : CpuId → ℕ → ℕ → Rec → Deed
replies cpu m found rec = deed_by cpu (Reply cpu (named m)) (word_step m (Add 1) found) (rec ∷ [])

abbrev pub reaps : CpuId → ℕ → ℕ → Rec → Deed
reaps cpu m word rec = deed_by cpu (Reap cpu (named m)) (word_step m (Store word) word) (rec ∷ [])

abbrev pub drops : CpuId → ℕ → ℕ → ℕ → Rec → Deed
drops cpu m found new rec = deed_by cpu (DropMsg cpu (named m)) (word_step m (Exchange found new) found) (rec ∷ [])

abbrev pub requests : CpuId → ℕ → ℕ → Deed
requests cpu m found = deed_by cpu (Abort cpu (named m)) (word_step m (Or 4) found) []
