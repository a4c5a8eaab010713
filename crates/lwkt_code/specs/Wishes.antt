-- What a wish asks for (own, version 3).
use Rattle.std.specs.Prelude.{ℕ, ◌%◌, ◌^◌, min, List, map, Option, unwrap_or}
use Rattle.lwkt_base.specs.declared.asks.Ask.{Ask}
use Rattle.lwkt_base.specs.declared.asks.Ask.TheVariants.{Exit}
use Rattle.lwkt_base.specs.declared.steps.Part.{Part}
use Rattle.lwkt_base.specs.declared.steps.Part.TheVariants as parts
use Rattle.lwkt_base.specs.Step.{ask_of}
use Rattle.lwkt_code.specs.Terms.{Term}
use Rattle.lwkt_code.specs.declared.steps.Operand.{Operand}
use Rattle.lwkt_code.specs.declared.steps.Operand.TheVariants.{Token, Cell, Value, Record, Message, Target, Call, Flags, Code, Outcome}
use Rattle.lwkt_code.specs.declared.steps.Wish.{Wish}
use Rattle.lwkt_code.specs.Values.{value_of}

-- the name that an expression's number stands for; a number that is too large is 255, which names nothing
abbrev pub name_for : Term → List ℕ → ℕ
name_for e vars = min (value_of e vars) 255

-- the number of 32 bits that an expression stands for: its last 32 bits
abbrev pub short_for : Term → List ℕ → ℕ
short_for e vars = value_of e vars % 2 ^ 32

-- what an operand stands for
abbrev pub part_of : List ℕ → Operand → Part
part_of vars (Token tok) = parts.Token (record { 0 = name_for tok vars })
part_of vars (Cell tok cell) = parts.Cell (record { 0 = name_for tok vars }) (name_for cell vars)
part_of vars (Value x) = parts.Value (value_of x vars)
part_of vars (Record blob) = parts.Record blob
part_of vars (Message msg) = parts.Message (record { 0 = name_for msg vars })
part_of vars (Target cpu thread) = parts.Target (record { cpu = record { 0 = name_for cpu vars }; thread = name_for thread vars })
part_of vars (Call op arg) = parts.Call (record { arg = value_of arg vars; op = short_for op vars })
part_of vars (Flags flags) = parts.Flags flags
part_of vars (Code error) = parts.Code (short_for error vars)
part_of vars (Outcome result') = parts.Outcome (value_of result' vars)

-- the ask of a wish, if its operands are those of its kind
abbrev pub made : Wish → List ℕ → Option Ask
made wish vars = ask_of wish.verb (map (part_of vars) wish.operands)

-- what a wish asks for; a wish that makes no ask, as no program has one, wants to end
abbrev pub wished : Wish → List ℕ → Ask
wished wish vars = unwrap_or (made wish vars) Exit
