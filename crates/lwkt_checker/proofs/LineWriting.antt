-- A line that is an event just as it is written has the event's value.
use Rattle.std.proofs.Common.{◌≡◌, ℕ, List, [], length, Some, refl, ap, sym, ◌∙◌, subst, arith, le-leb}
use Rattle.std.specs.Str.{IsAscii}
use Rattle.std.proofs.lemmas.List.{append-nil}
use Rattle.std.proofs.lemmas.Str.{is_utf8-from_IsUtf8, IsUtf8-from_ascii}
use Rattle.json.specs.Lex.{between, lex}
use Rattle.serde_json.specs.Read.{read}
use Rattle.lwkt_core.specs.declared.events.Event.{Event}
use Rattle.lwkt_trace.specs.Printed.{HasWords}
use Rattle.lwkt_trace.specs.Readback.{event_data}
use Rattle.lwkt_trace.specs.Written.{event_text}
use Rattle.lwkt_trace.proofs.Lexemes.{value_onto, text_is}
use Rattle.lwkt_trace.proofs.PartTexts.{event_spells}
use Rattle.lwkt_checker.specs.Line.{value_of}
use Rattle.lwkt_trace.specs.Recognised.{IsWritten}

-- the text of an event is a text of its value
text_read : (e : Event) → HasWords (event_data e) → read (event_text e) ≡ Some (event_data e)
unfolding lex
text_read e words =
    let is = event_spells e words in
    let shallow = is.shallow in
    let lexed : lex between (event_text e) ≡ value_onto is.value [] = ap (lex between) (sym (append-nil (event_text e))) ∙ is.reads [] refl in
    text_is (event_text e) is.value (event_data e) lexed (omega (arith, shallow)) is.is

pub written_value : (line : List ℕ) (e : Event) → IsWritten line e → value_of line ≡ Some (event_data e)
unfolding value_of
written_value line e is =
    let short = is.short in
    let ascii : IsAscii line = subst IsAscii (sym is.text) (event_spells e is.words).ascii in
    rw (le-leb (length line) 1048576 (omega (arith, short)), is_utf8-from_IsUtf8 line (IsUtf8-from_ascii line ascii)) (ap read is.text ∙ text_read e is.words)
