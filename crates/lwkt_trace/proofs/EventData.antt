-- An event's list is read as the event.
use Rattle.std.proofs.Common.{◌≡◌, ℕ, ◌≤◌, List, codes, None, refl, arith, le-leb}
use Rattle.serde_json.specs.Data.{string, array, item}
use Rattle.lwkt_core.specs.declared.events.Event.TheVariants.{Load, Take, Share, Again, Mark, GiveOne, GiveClean, GiveWritten, Read, Write, ReadBlob, WriteBlob, Send, TakeMsg, DropMsg, Reply, Reap, Abort}
use Rattle.lwkt_trace.specs.Words.{event_of, stated_at, whole_event, or_else, with_round, with_value, with_record}
use Rattle.lwkt_trace.specs.Readback.{number_data, blob_data, one_item, two_items, three_items, IsStatedBlob, EventsAreReadBack}
use Rattle.lwkt_trace.proofs.BlobTexts.{blob_read}

three : (word : List ℕ) (cpu place : ℕ) → cpu ≤ 255 → place ≤ 255 → event_of (array (item (string word) (item (number_data cpu) (one_item (number_data place))))) ≡ stated_at word cpu place
three word cpu place c p = rw (le-leb 0 cpu (omega arith), le-leb cpu 255 c, le-leb 0 place (omega arith), le-leb place 255 p) refl

four : (word : List ℕ) (cpu msg round : ℕ) → cpu ≤ 255 → msg ≤ 255
    → event_of (array (item (string word) (item (number_data cpu) (two_items (number_data msg) (number_data round))))) ≡ whole_event (or_else (with_round word cpu msg round) None)
four word cpu msg round c p = rw (le-leb 0 cpu (omega arith), le-leb cpu 255 c, le-leb 0 msg (omega arith), le-leb msg 255 p) refl

recorded : (word : List ℕ) (cpu tok : ℕ) (blob : List ℕ) → cpu ≤ 255 → tok ≤ 255 → IsStatedBlob blob
    → event_of (array (item (string word) (item (number_data cpu) (two_items (number_data tok) (blob_data blob))))) ≡ whole_event (with_record word cpu tok blob)
recorded word cpu tok blob c p is = rw (le-leb 0 cpu (omega arith), le-leb cpu 255 c, le-leb 0 tok (omega arith), le-leb tok 255 p, blob_read blob is) refl

five : (word : List ℕ) (cpu place part value : ℕ) → cpu ≤ 255 → place ≤ 255 → part ≤ 255
    → event_of (array (item (string word) (item (number_data cpu) (three_items (number_data place) (number_data part) (number_data value))))) ≡ whole_event (with_value word cpu place part value)
five word cpu place part value c p q = rw (le-leb 0 cpu (omega arith), le-leb cpu 255 c, le-leb 0 place (omega arith), le-leb place 255 p, le-leb 0 part (omega arith), le-leb part 255 q) refl

pub events_read_back : EventsAreReadBack
events_read_back (Load cpu tok) h = three (codes "load") cpu.0 tok.0 h.0 h.1
events_read_back (Take cpu tok) h = three (codes "take") cpu.0 tok.0 h.0 h.1
events_read_back (Share cpu tok) h = three (codes "share") cpu.0 tok.0 h.0 h.1
events_read_back (Again cpu tok) h = three (codes "again") cpu.0 tok.0 h.0 h.1
events_read_back (Mark cpu tok) h = three (codes "mark") cpu.0 tok.0 h.0 h.1
events_read_back (GiveOne cpu tok) h = three (codes "give_one") cpu.0 tok.0 h.0 h.1
events_read_back (GiveClean cpu tok) h = three (codes "give_clean") cpu.0 tok.0 h.0 h.1
events_read_back (GiveWritten cpu tok section) h = three (codes "give_written") cpu.0 tok.0 h.0 h.1
events_read_back (Read cpu tok cell value) h = five (codes "read") cpu.0 tok.0 cell value h.0.0 h.0.1 h.1
events_read_back (Write cpu tok cell value) h = five (codes "write") cpu.0 tok.0 cell value h.0.0 h.0.1 h.1
events_read_back (ReadBlob cpu tok blob) h = recorded (codes "read_record") cpu.0 tok.0 blob h.0.0 h.0.1 h.1
events_read_back (WriteBlob cpu tok blob) h = recorded (codes "write_record") cpu.0 tok.0 blob h.0.0 h.0.1 h.1
events_read_back (Send cpu msg to round) h = five (codes "send") cpu.0 msg.0 to.0 round h.0.0 h.0.1 h.1
events_read_back (TakeMsg cpu msg round) h = four (codes "take_msg") cpu.0 msg.0 round h.0 h.1
events_read_back (DropMsg cpu msg) h = three (codes "drop") cpu.0 msg.0 h.0 h.1
events_read_back (Reply cpu msg) h = three (codes "reply") cpu.0 msg.0 h.0 h.1
events_read_back (Reap cpu msg) h = three (codes "reap") cpu.0 msg.0 h.0 h.1
events_read_back (Abort cpu msg) h = three (codes "abort") cpu.0 msg.0 h.0 h.1
