-- Lines of turns, one behind another.
use Rattle.std.proofs.Common.{Bool, ◌≡◌, ℕ, ◌+◌, ◌<◌, List, [], ◌∷◌, ◌++◌, length, drop, get_or, Option, refl, subst, sym, ◌∙◌, ap, None, string_bytes}
use Rattle.std.proofs.lemmas.List.{drop_more}
use Rattle.lwkt_refusals.specs.declared.pages.Page.{Page}
use Rattle.lwkt_refusals.specs.Pages.{GrowsBy}
use Rattle.lwkt_refusals.proofs.Growing.{grows_twice, grows_nothing}
use Rattle.lwkt_verdict.specs.declared.turns.Poll.{Poll}
use Rattle.lwkt_verdict.specs.declared.turns.Turn.{Turn}
use Rattle.lwkt_verdict.specs.Run.{poll_of}
use Rattle.lwkt_report.specs.declared.closings.Closing.{Closing}
use Rattle.lwkt_script.specs.declared.scripts.Script.{Script}
use Rattle.lwkt_text.specs.declared.tables.Names.{Names}
use Rattle.lwkt_told.specs.Told.{named_report}
use Rattle.lwkt_show.specs.declared.options.Options.{Options}
use Rattle.lwkt_show.specs.Lines.{is_shown, round_of, processor_of_turn, IsLineIfShown, range_first, range_last, round_length, choice_text, AreLines, AreTurnLines, AddsWords, Begins, AreLinesOf}

-- no lines
pub no_lines : (names : Option Names) (first last : ℕ) (order : Option (List ℕ)) (cpus : ℕ) (polls : List Poll) (n : ℕ) (page : Page) → AddsWords (AreLines names first last order cpus polls n []) page page
no_lines names first last order cpus polls n page = record { words = []; holds = refl; grows = grows_nothing page }

-- the lines of some turns behind what stands for one before them
pub one_before : (names : Option Names) (first last : ℕ) (order : Option (List ℕ)) (cpus : ℕ) (polls : List Poll) (n : ℕ) (turn : Turn) (turns : List Turn) (old mid new : Page)
    → AddsWords (IsLineIfShown names (is_shown first last n) n (round_of order cpus n) (processor_of_turn order cpus n) (poll_of polls turn)) old mid
    → AddsWords (AreLines names first last order cpus polls (n + 1) turns) mid new
    → AddsWords (AreLines names first last order cpus polls n (turn ∷ turns)) old new
one_before names first last order cpus polls n turn turns old mid new a b = record {
  words = a.words ++ b.words;
  holds = (a.words, b.words, refl, a.holds, b.holds);
  grows = grows_twice old mid new a.words b.words a.grows b.grows;
}

-- the lines from a turn of a list on
pub one_more : (names : Option Names) (first last : ℕ) (order : Option (List ℕ)) (cpus : ℕ) (polls : List Poll) (n : ℕ) (turn : Turn) (turns : List Turn) (old mid new : Page)
    → n < length turns
    → AddsWords (IsLineIfShown names (is_shown first last n) n (round_of order cpus n) (processor_of_turn order cpus n) (poll_of polls (get_or turns n turn))) old mid
    → AddsWords (AreLines names first last order cpus polls (n + 1) (drop (n + 1) turns)) mid new
    → AddsWords (AreLines names first last order cpus polls n (drop n turns)) old new
one_more names first last order cpus polls n turn turns old mid new inside a b =
    let Lines : List Turn → Type 0 = λ rest. AddsWords (AreLines names first last order cpus polls n rest) old new in
    subst Lines (sym (drop_more turns n turn inside)) (one_before names first last order cpus polls n (get_or turns n turn) (drop (n + 1) turns) old mid new a b)

-- the lines that are chosen, with which turns are left out behind them
pub shown_with : (names : Option Names) (options : Options) (order : Option (List ℕ)) (cpus : ℕ) (polls : List Poll) (turns : List Turn) (first last : ℕ) (old mid new : Page)
    → first ≡ range_first options.counted options.first (round_length cpus) → last ≡ range_last options.counted options.last (round_length cpus)
    → AddsWords (AreLines names first last order cpus polls 0 turns) old mid → GrowsBy mid new (choice_text first last (length turns)) → AddsWords (AreTurnLines names options order cpus polls turns) old new
shown_with names options order cpus polls turns first last old mid new is_first is_last a more = record {
  words = a.words ++ choice_text first last (length turns);
  holds = record { first = first; last = last; lines = a.words; is_first = is_first; is_last = is_last; are = a.holds; parts = refl };
  grows = grows_twice old mid new a.words (choice_text first last (length turns)) a.grows more;
}

-- what stands on a page that was empty before some words
pub begins : (Holds : List ℕ → Type 0) (old mid new : Page) (behind text : List ℕ) → string_bytes old.text ≡ [] → AddsWords Holds old mid → GrowsBy mid new behind → new.lost ≡ None → text ≡ string_bytes new.text → Begins Holds text
begins Holds old mid new behind text empty a more here is = record {
  front = a.words;
  rest = behind;
  holds = a.holds;
  is = is ∙ more.behind here ∙ ap (λ (front : List ℕ). front ++ behind) (a.grows.behind (more.kept here) ∙ ap (λ (front : List ℕ). front ++ a.words) empty);
}

-- a text that begins with lines, with the report behind it
pub shown_whole : (names : Option Names) (options : Options) (order : Option (List ℕ)) (script : Script) (polls : List Poll) (turns : List Turn) (closing : Closing) (front report text : List ℕ)
    → Begins (AreTurnLines names options order script.cpus polls turns) front → report ≡ named_report names script closing → text ≡ front ++ report → AreLinesOf names options order script polls turns closing text
shown_whole names options order script polls turns closing front report text b is_report is = record {
  front = b.front;
  behind = b.rest;
  shown = b.holds;
  parts = is ∙ ap (λ (xs : List ℕ). xs ++ report) b.is ∙ ap (λ (xs : List ℕ). b.front ++ b.rest ++ xs) is_report;
}

-- what stands for a turn, where it is said by other names
pub shown_as : (names : Option Names) (shown shown' : Bool) (number number' round round' cpu cpu' : ℕ) (poll poll' : Option Poll) (old new : Page)
    → shown ≡ shown' → number ≡ number' → round ≡ round' → cpu ≡ cpu' → poll ≡ poll'
    → AddsWords (IsLineIfShown names shown number round cpu poll) old new → AddsWords (IsLineIfShown names shown' number' round' cpu' poll') old new
shown_as names shown shown' number number' round round' cpu cpu' poll poll' old new is_shown' is_number is_round is_cpu is_poll a =
    let Shown : Bool → Type 0 = λ s. AddsWords (IsLineIfShown names s number round cpu poll) old new in
    let Number : ℕ → Type 0 = λ n. AddsWords (IsLineIfShown names shown' n round cpu poll) old new in
    let Round : ℕ → Type 0 = λ r. AddsWords (IsLineIfShown names shown' number' r cpu poll) old new in
    let Cpu : ℕ → Type 0 = λ c. AddsWords (IsLineIfShown names shown' number' round' c poll) old new in
    let Polled : Option Poll → Type 0 = λ p. AddsWords (IsLineIfShown names shown' number' round' cpu' p) old new in
    subst Polled is_poll (subst Cpu is_cpu (subst Round is_round (subst Number is_number (subst Shown is_shown' a))))
