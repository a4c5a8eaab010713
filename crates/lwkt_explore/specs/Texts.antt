-- What is written of a search (docs/EXPLORE.md). Each line is ended by a line feed, and numbers are plain decimal (own).
use Rattle.std.specs.Prelude.{ℕ, ◌+◌, ◌==◌, ◌&&◌, not, min, Bool, true, false, if◌then◌else◌, List, [], ◌∷◌, ◌++◌, Option, None, Some, String, bytes_eq, codes, drop, filter, get_or, length, map, string_bytes, sum}
use Rattle.std.specs.Fmt.{decimal}
use Rattle.std.specs.List.{flat_map}
use Rattle.std.specs.Option.{option_map_or}
use Rattle.std.specs.declared.alloc.Global.{Global}
use Rattle.lwkt_base.specs.declared.owners.MsgEnd.{MsgEnd}
use Rattle.lwkt_report.specs.Report.{line_feed, spaced_or_dash, numbered_lines, owner_text}
use Rattle.lwkt_told.specs.Called.{called}
use Rattle.lwkt_told.specs.Circles.{stuck_lines}
use Rattle.lwkt_told.specs.Told.{told_front}
use Rattle.lwkt_explore.specs.declared.extents.Bound.{Bound}
use Rattle.lwkt_explore.specs.declared.extents.Bound.TheVariants.{States, Turns, Memory, Refused, Stopped, Differs}
use Rattle.lwkt_explore.specs.declared.extents.Extent.{Extent}
use Rattle.lwkt_explore.specs.declared.extents.Extent.TheVariants.{Complete, Part, Sampled}
use Rattle.lwkt_explore.specs.declared.forms.Telling.{Telling}
use Rattle.lwkt_explore.specs.declared.losses.Lost.{Lost}
use Rattle.lwkt_explore.specs.declared.outcomes.Kind.{Kind}
use Rattle.lwkt_explore.specs.declared.outcomes.Kind.TheVariants.{Ended, Stuck, Cut}
use Rattle.lwkt_explore.specs.declared.outcomes.Outcome.{Outcome}
use Rattle.lwkt_explore.specs.declared.outcomes.Outcomes.{Outcomes}
use Rattle.lwkt_explore.specs.declared.searches.Found.{Found}
use Rattle.lwkt_explore.specs.declared.searches.Tried.{Tried}
use Rattle.lwkt_explore.specs.declared.searches.Tried.TheVariants.{States as TriedStates, Orders}

-- the processors of an order, each after a space, or ` -` for an order without turns
abbrev pub order_bytes : List ℕ → List ℕ
order_bytes order = spaced_or_dash decimal order

-- `1 state` or `5 states`: a number, and the noun for one or for another number of things
abbrev pub amount_text : ℕ → List ℕ → List ℕ → List ℕ
amount_text count one more = decimal count ++ codes " " ++ (if count == 1 then one else more)

abbrev pub kind_text : Kind → List ℕ
kind_text Ended = codes "ended"
kind_text Stuck = codes "stuck"
kind_text Cut = codes "cut"

-- how many of the random orders led to an outcome: `, once` or `, N times`; of a search nothing
abbrev pub count_text : Tried → ℕ → List ℕ
count_text (TriedStates states) count = []
count_text (Orders orders) count = if count == 1 then codes ", once" else codes ", " ++ decimal count ++ codes " times"

-- `why: WHY`, for a stuck outcome
abbrev pub why_line : Option (String Global) → List ℕ
why_line None = []
why_line (Some why) = codes "why: " ++ string_bytes why ++ line_feed

-- an outcome that was found, with how many of the orders led to it
abbrev pub Form : Type 0
Form = Outcome × ℕ

-- each outcome with its count, 0 if it has none
abbrev pub counted : List Outcome → List ℕ → List Form
counted [] counts = []
counted (outcome ∷ outcomes) [] = (outcome, 0) ∷ counted outcomes []
counted (outcome ∷ outcomes) (count ∷ counts) = (outcome, count) ∷ counted outcomes counts

abbrev pub is_kind : Kind → Kind → Bool
is_kind Ended Ended = true
is_kind Stuck Stuck = true
is_kind Cut Cut = true
is_kind _ _ = false

-- whether two outcomes are grouped: they are of one kind, and have the same token and thread lines
abbrev pub grouped_with : Outcome → Outcome → Bool
grouped_with one other = is_kind one.kind other.kind && bytes_eq (string_bytes one.settled) (string_bytes other.settled)

-- outcomes that are grouped: the first of them, and its other forms
abbrev pub Group : Type 0
Group = Form × List Form

-- outcomes by those that are grouped
abbrev pub groups : List Form → List Group
groups [] = []
groups (one ∷ others) = (one, filter (λ other. grouped_with one.0 other.0) others) ∷ filter (λ t. not (grouped_with one.0 t.0.0)) (groups others)

-- the outcomes from a place on that are grouped with one
abbrev pub later_forms : Outcome → ℕ → Outcomes → List Form
later_forms one place outcomes = filter (λ other. grouped_with one other.0) (counted (drop place outcomes.all.items) (drop place outcomes.counts.items))

-- an outcome of a place, with those behind it that are grouped with it
abbrev pub group_at : Outcome → ℕ → Outcomes → Group
group_at one place outcomes = ((one, get_or outcomes.counts.items place 0), later_forms one (place + 1) outcomes)

-- how many of the orders led to one of them, as far as 64 bits go
abbrev pub group_count : Group → ℕ
group_count (one, forms) = min 18446744073709551615 (one.1 + sum (map (λ (form : Form). form.1) forms))

-- whether two messages have the same line
abbrev pub looks_same : MsgEnd → MsgEnd → Bool
looks_same one other = one.round == other.round && bytes_eq (owner_text one.state) (owner_text other.state)

-- what a message is called: its number, or its name in a text
abbrev pub message_called : Option Telling → ℕ → List ℕ
message_called None message = codes "message " ++ decimal message
message_called (Some telling) message = called telling.names.now.messages message

-- the line of a message, without its end
abbrev pub place_text : Option Telling → ℕ → MsgEnd → List ℕ
place_text telling message end = message_called telling message ++ codes " round " ++ decimal end.round ++ codes " " ++ owner_text end.state

-- what stands before a message, by whether it is the first
abbrev pub between_text : Bool → List ℕ
between_text true = codes " "
between_text false = codes "; "

-- the lines of those messages, numbered from n, that have other ones
abbrev pub places_text : Option Telling → Bool → ℕ → List MsgEnd → List MsgEnd → List ℕ
places_text telling is_first n [] ends = []
places_text telling is_first n (own ∷ owns) [] = []
places_text telling is_first n (own ∷ owns) (end ∷ ends) =
    if looks_same own end then places_text telling is_first (n + 1) owns ends else between_text is_first ++ place_text telling n end ++ places_text telling false (n + 1) owns ends

-- `or MESSAGE; MESSAGE, order O`: the message lines of another form that differ from those of the first, and an order to it
abbrev pub or_line : Option Telling → Outcome → Outcome → List ℕ
or_line telling first form =
    codes "or" ++ places_text telling true 0 first.closing.messages.items form.closing.messages.items ++ codes ", order" ++ order_bytes form.order.items ++ line_feed

-- the lines of an outcome's report, in numbers or in the names of a text
abbrev pub report_lines : Option Telling → Outcome → List ℕ
report_lines None outcome = string_bytes outcome.text
report_lines (Some telling) outcome = told_front telling.names.now telling.script.now outcome.closing

-- why an outcome is stuck, in numbers or in the names of a text
abbrev pub why_lines : Option Telling → Outcome → List ℕ
why_lines None outcome = why_line outcome.why
why_lines (Some telling) outcome = if is_kind Stuck outcome.kind then stuck_lines telling.names.now telling.script.now outcome.closing.threads.items else []

-- `outcome N KIND, order O`, then the lines of its report, a line for each other form, and its why
abbrev pub outcome_lines : Option Telling → Tried → ℕ → Group → List ℕ
outcome_lines telling tried number t =
    codes "outcome " ++ decimal number ++ codes " " ++ kind_text t.0.0.kind ++ count_text tried (group_count t) ++ codes ", order" ++ order_bytes t.0.0.order.items ++ line_feed ++ report_lines telling t.0.0
    ++ flat_map (λ form. or_line telling t.0.0 form.0) t.1 ++ why_lines telling t.0.0

-- the outcomes of a kind, those that are grouped under the first of them
abbrev pub of_kind : Kind → Outcomes → List Group
of_kind kind outcomes = filter (λ t. is_kind kind t.0.0.kind) (groups (counted outcomes.all.items outcomes.counts.items))

-- the ended ones, then the stuck ones, then those that were cut
abbrev pub by_kind : Outcomes → List Group
by_kind outcomes = of_kind Ended outcomes ++ of_kind Stuck outcomes ++ of_kind Cut outcomes

-- how many states are lost, and the order to the first of them
abbrev pub lost_line : Lost → List ℕ
lost_line lost =
    codes "lost: " ++ amount_text lost.count (codes "state") (codes "states") ++ codes ", from which no end can be reached; " ++ (if lost.count == 1 then codes "after order" else codes "the first after order") ++ order_bytes lost.order.items ++ line_feed

-- `N states` or `N random orders`
abbrev pub tried_text : Tried → List ℕ
tried_text (TriedStates count) = amount_text count (codes "state") (codes "states")
tried_text (Orders count) = amount_text count (codes "random order") (codes "random orders")

-- what ended a search, in a word
abbrev pub bound_text : Bound → List ℕ
bound_text States = codes "states"
bound_text Turns = codes "turns"
bound_text Memory = codes "memory"
bound_text Refused = codes "memory"
bound_text Stopped = codes "time"
bound_text Differs = codes "a difference"

-- what to do then
abbrev pub advice_text : Bound → List ℕ
advice_text States = codes "--states gives more"
advice_text Turns = codes "--turns gives longer orders"
advice_text Memory = codes "--memory gives more"
advice_text Refused = codes "there is no more, and --random keeps none"
advice_text Stopped = codes "--seconds gives more"
advice_text Differs = codes "please report it"

-- `stopped by BOUND: N states kept; ADVICE`, where something ended the search
abbrev pub stop_line : Tried → Extent → List ℕ
stop_line tried Complete = []
stop_line tried (Part bound) = codes "stopped by " ++ bound_text bound ++ codes ": " ++ tried_text tried ++ codes " kept; " ++ advice_text bound ++ line_feed
stop_line tried Sampled = []

-- the lost states, if there are any, and what ended the search, if anything did
abbrev pub end_lines : Found → List ℕ
end_lines found = option_map_or lost_line found.lost [] ++ stop_line found.tried found.extent

-- whether every order was tried, and if not, why
abbrev pub extent_text : Extent → List ℕ
extent_text Complete = codes "complete"
extent_text (Part States) = codes "a part (states)"
extent_text (Part Turns) = codes "a part (turns)"
extent_text (Part Memory) = codes "a part (memory)"
extent_text (Part Refused) = codes "a part (memory)"
extent_text (Part Stopped) = codes "a part (stopped)"
extent_text (Part Differs) = codes "a part (differs)"
extent_text Sampled = codes "a part"

-- how many outcomes there are, those that are grouped as one, what was tried, and whether that is all
abbrev pub sum_line : Found → List ℕ
sum_line found =
    amount_text (length (by_kind found.outcomes)) (codes "outcome") (codes "outcomes") ++ codes "; " ++ tried_text found.tried ++ codes ", " ++ amount_text found.turns (codes "turn") (codes "turns") ++ codes "; " ++ extent_text found.extent ++ line_feed

-- the outcomes, numbered from 1, then the lost states and what ended the search, then the sum
unfoldable pub text_in : Option Telling → Found → List ℕ
text_in telling found =
    numbered_lines (outcome_lines telling found.tried) 1 (by_kind found.outcomes) ++ end_lines found ++ sum_line found

-- the same in numbers
abbrev pub text_of_found : Found → List ℕ
text_of_found found = text_in None found
