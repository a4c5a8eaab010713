-- The sentences of tokens, messages and threads (own).
use Rattle.std.specs.Prelude.{ℕ, ◌+◌, ◌-◌, ◌==◌, ◌&&◌, not, nat_lt, nat_le, List, [], ◌∷◌, ◌++◌, length, drop, codes, Bool, true, false, bytes_eq, if◌then◌else◌, Option, Some, None, is_some, unwrap_or, Result, Ok, Err}
use Rattle.lwkt_base.specs.declared.laws.Law.{Law}
use Rattle.lwkt_base.specs.declared.laws.Law.TheVariants.{Any, Sum, Order, Cap, Tally, Len}
use Rattle.lwkt_base.specs.declared.opening_specs.MsgSpec.{MsgSpec}
use Rattle.lwkt_base.specs.declared.opening_specs.TokSpec.{TokSpec}
use Rattle.lwkt_base.specs.declared.limits.TheConstants.{LAST_GENERATION, LAST_ROUND, MOST_REPEATS, RECORD_LIMIT}
use Rattle.lwkt_script.specs.Member.{law_of, allows}
use Rattle.lwkt_script.specs.Record.{may_guard}
use Rattle.lwkt_text.specs.declared.declarations.CellList.{CellList}
use Rattle.lwkt_text.specs.declared.declarations.Head.{Head}
use Rattle.lwkt_text.specs.declared.tables.Names.{Names}
use Rattle.lwkt_text.specs.declared.words.Word.{Word}
use Rattle.lwkt_text.specs.declared.wrongs.Wanted.TheVariants as wanted
use Rattle.lwkt_text.specs.declared.wrongs.What.TheVariants as whats
use Rattle.lwkt_text.specs.declared.wrongs.Wrong.{Wrong}
use Rattle.lwkt_text.specs.Looking.{text_at, is_at, demand_at, ends_at, decimal_number, number_at, bytes_at, optional, past_key, past, is_name}
use Rattle.lwkt_text.specs.Naming.{position, thread_id_at, thread_length}
use Rattle.lwkt_text.specs.Outcome.{◌>>=◌, ◌>>◌}

-- no cells
abbrev pub no_cells : CellList
no_cells = record { names = []; values = []; pending = [] }

-- a number is a cell, of the name that stands before it
abbrev pub cell_added : ℕ → CellList → CellList
cell_added n s = record { names = s.names ++ s.pending ∷ []; values = s.values ++ n ∷ []; pending = [] }

-- the name of the next cell, which none before has
abbrev pub name_added : Word → CellList → Result CellList Wrong
name_added w s = if is_some (position s.names w.text) then Err (record { at = w.at; what = whats.Twice }) else Ok (record s { pending = w.text })

-- a word that is no number: the name of the next cell, or `=` behind it
abbrev pub cell_named : Word → CellList → Result CellList Wrong
cell_named w s =
    if bytes_eq w.text (codes "=") && not (length s.pending == 0) then Ok s else (
    if is_name w.text && length s.pending == 0 then name_added w s else Err (record { at = w.at; what = whats.CellList }))

abbrev pub cell_by : Option ℕ → Word → CellList → Result CellList Wrong
cell_by (Some n) w s = Ok (cell_added n s)
cell_by None w s = cell_named w s

-- one more word of a list of cells
abbrev pub word_added : Word → CellList → Result CellList Wrong
word_added w s = cell_by (decimal_number w.text) w s

abbrev pub cells_added : CellList → List Word → Result CellList Wrong
cells_added s [] = Ok s
cells_added s (w ∷ ws) = word_added w s >>= λ t. cells_added t ws

-- the cells from word i on: numbers, each with a name and `=` before it or without
abbrev pub cells_at : List Word → ℕ → Result CellList Wrong
cells_at ws i = cells_added no_cells (drop i ws) >>= λ s. demand_at ws (length ws) (whats.Number 0 18446744073709551615) (length s.pending == 0) >> Ok s

-- the law that word 2 may be
abbrev pub law_said : List Word → Option Law
law_said ws = law_of (text_at ws 2)

abbrev pub law_end : List Word → ℕ
law_end ws = if is_some (law_said ws) then 3 else 2

-- whether a number stands behind the law
abbrev pub has_param : List Word → Bool
has_param ws = is_some (law_said ws) && is_some (decimal_number (text_at ws 3))

abbrev pub param_end : List Word → ℕ
param_end ws = if has_param ws then 4 else law_end ws

-- laws that ask nothing of their parameter, which is 0 where it is left out
abbrev pub asks_nothing : Law → Bool
asks_nothing Any = true
asks_nothing Sum = false
asks_nothing Order = true
asks_nothing Cap = false
asks_nothing Tally = false
asks_nothing Len = true

abbrev pub law_at : List Word → Law
law_at ws = unwrap_or (law_said ws) Any

abbrev pub param_of : List Word → Result ℕ Wrong
param_of ws = if has_param ws then number_at ws 3 0 18446744073709551615 else (demand_at ws (law_end ws) (whats.Number 0 18446744073709551615) (asks_nothing (law_at ws)) >> Ok 0)

-- where `record` may stand
abbrev pub guard_place : List Word → ℕ
guard_place ws = past_key ws (param_end ws) (codes "gen")

-- the record that a token's sentence says, if it says one
abbrev pub guard_of : List Word → Result (Option (List ℕ)) Wrong
guard_of ws = if is_at ws (guard_place ws) (codes "record") then (bytes_at ws (guard_place ws + 1) RECORD_LIMIT >>= λ blob. Ok (Some blob)) else Ok None

-- where `cells` may stand
abbrev pub cells_place : List Word → ℕ
cells_place ws = past_key ws (guard_place ws) (codes "record")

-- the cells that a token's sentence says
abbrev pub cells_in : List Word → Result CellList Wrong
cells_in ws = if is_at ws (cells_place ws) (codes "cells") then cells_at ws (cells_place ws + 1) else (ends_at ws (cells_place ws) >> Ok no_cells)

-- `token NAME LAW N gen N record BYTES cells ..`: the law is any where it is left out, the generation 0, and there are no cells and no
-- record
unfoldable pub token_of : List Word → Result TokSpec Wrong
token_of ws = do
  param ← param_of ws
  generation ← optional ws (param_end ws) (codes "gen") 0 LAST_GENERATION 0
  blob ← guard_of ws
  cells ← cells_in ws
  demand_at ws (length ws) whats.CellCount (allows (law_at ws) (length cells.values))
  demand_at ws (length ws) whats.Guard (may_guard (law_at ws) blob)
  Ok (record { cells = cells.values; law = law_at ws; param = param; generation = generation; blob = blob })

-- `message NAME of THREAD round N`: the round is 0 where it is left out
unfoldable pub message_of : Names → List Word → Result MsgSpec Wrong
message_of names ws = do
  demand_at ws 2 (whats.Word wanted.Of) (is_at ws 2 (codes "of"))
  origin ← thread_id_at names ws 3
  demand_at ws 3 whats.Origin (nat_lt origin.cpu.0 names.cpus && nat_le origin.thread 15)
  round ← optional ws (3 + thread_length ws 3) (codes "round") 0 LAST_ROUND 0
  ends_at ws (past_key ws (3 + thread_length ws 3) (codes "round"))
  Ok (record { round = round; origin = origin })

-- `thread NAME on N repeat N service`: the thread makes its steps once where `repeat` is left out
unfoldable pub head_of : Names → List Word → Result Head Wrong
head_of names ws = do
  demand_at ws 2 (whats.Word wanted.On) (is_at ws 2 (codes "on"))
  cpu ← number_at ws 3 0 (names.cpus - 1)
  repeat ← optional ws 4 (codes "repeat") 1 MOST_REPEATS 1
  ends_at ws (past ws (past_key ws 4 (codes "repeat")) (codes "service"))
  Ok (record { cpu = record { 0 = cpu }; repeat = repeat; service = is_at ws (past_key ws 4 (codes "repeat")) (codes "service") })
