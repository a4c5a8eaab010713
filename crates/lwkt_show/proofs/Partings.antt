-- What two turns that have the same line have in common.
use Rattle.std.proofs.Common.{inl, inr, ◌≡◌, ◌<◌, ◌^◌, ℕ, List, ◌∷◌, ◌++◌, Option, None, Some, IfSome, refl, sym, ap, ap₂, ◌∙◌, arith, codes, append_assoc, drop, get_or}
use Rattle.std.specs.Fmt.{decimal}
use Rattle.std.proofs.lemmas.List.{append_cancel_left}
use Rattle.lwkt_base.specs.declared.asks.Ask.{Ask}
use Rattle.lwkt_base.specs.declared.names.ThreadId.{ThreadId}
use Rattle.lwkt_verdict.specs.declared.turns.Poll.{Poll}
use Rattle.lwkt_show.specs.declared.stories.Came.{Came}
use Rattle.lwkt_show.specs.declared.stories.Step.{Step}
use Rattle.lwkt_show.specs.declared.walks.Way.{Way}
use Rattle.lwkt_show.specs.Apart.{AskAlike, PollAlike, LinesDecideTurns}
use Rattle.lwkt_show.specs.Lines.{IsIdle, IsDoing, came_text, poll_text, turn_text}
use Rattle.lwkt_show.specs.Words.{ask_word, ask_parts}
use Rattle.lwkt_show.proofs.AskTexts.{Unquoted, Inside, ask_front, ask_before, word_unquoted, front_inside, before_ask}
use Rattle.lwkt_show.proofs.Splits.{IsDigit, same_split, same_number}
use Rattle.lwkt_show.proofs.WayTexts.{Before}

-- texts behind texts, from the front on
grouped : (a b c d e f g h i : List ℕ) → (a ++ b) ++ (c ++ d) ++ (e ++ f) ++ g ++ h ++ i ≡ a ++ (b ++ (c ++ (d ++ (e ++ (f ++ (g ++ (h ++ i)))))))
grouped a b c d e f g h i = simp append_assoc

-- the line of a turn, from its front on
head_is : (number round cpu : ℕ) (doing events : List ℕ)
    → turn_text number round cpu ++ doing ++ events ++ codes "\n" ≡ codes "turn " ++ (decimal number ++ (codes ", round " ++ (decimal round ++ (codes ", processor " ++ (decimal cpu ++ (doing ++ (events ++ codes "\n")))))))
head_is number round cpu doing events = grouped (codes "turn ") (decimal number) (codes ", round ") (decimal round) (codes ", processor ") (decimal cpu) doing events (codes "\n")

-- a poll, from its front on
poll_is : (poll : Poll) (way : Way) (step : Step) (came : Came) (rest : List ℕ)
    → poll_text None poll way step came ++ rest ≡ codes ", thread " ++ (decimal poll.thread.cpu.0 ++ (codes "." ++ (decimal poll.thread.thread ++ (codes ", " ++ (ask_before poll.thread way step ++ (codes ": " ++ (ask_front poll.ask ++ (codes "]" ++ (codes ": " ++ (came_text None came poll.answer ++ rest))))))))))
poll_is poll way step came rest = simp append_assoc

-- the front of an ask, from its front on
front_is : (ask : Ask) → ask_front ask ≡ codes "[\"" ++ (ask_word ask ++ (codes "\"" ++ ask_parts ask))
front_is ask = simp append_assoc

-- the characters that end a number here are no digits
no_digit : (c : ℕ) → (c < 48) → IsDigit c → ⊥
no_digit c small digit = omega (arith, digit.0)

no_colon : IsDigit 58 → ⊥
no_colon digit = omega (arith, digit.1)

same_thread : (a b : ThreadId) → a.cpu.0 ≡ b.cpu.0 → a.thread ≡ b.thread → a ≡ b
same_thread a b cpu thread = ap₂ (λ (c n : ℕ). record { cpu = record { 0 = c }; thread = n }) cpu thread

-- asks with one front have one word
same_word : (a b : Ask) → ask_front a ≡ ask_front b → ask_word a ≡ ask_word b
same_word a b e =
    let more = append_cancel_left (codes "[\"") _ _ (sym (front_is a) ∙ e ∙ front_is b) in
    let stop : Unquoted 34 → ⊥ = λ unquoted. unquoted refl in
    (same_split Unquoted (ask_word a) (ask_word b) 34 34 (ask_parts a) (ask_parts b) (word_unquoted a) (word_unquoted b) stop stop more).0

-- polls that have the same text ask alike
polls_alike : (a b : Poll) (way way' : Way) (step step' : Step) (came came' : Came) (rest rest' : List ℕ)
    → (a.thread.cpu.0 < 2 ^ 64) × (a.thread.thread < 2 ^ 64) → (b.thread.cpu.0 < 2 ^ 64) × (b.thread.thread < 2 ^ 64)
    → poll_text None a way step came ++ rest ≡ poll_text None b way' step' came' ++ rest' → AskAlike a b
polls_alike a b way way' step step' came came' rest rest' small small' e =
    let whole = append_cancel_left (codes ", thread ") _ _ (sym (poll_is a way step came rest) ∙ e ∙ poll_is b way' step' came' rest') in
    let stop : IsDigit 46 → ⊥ = no_digit 46 (omega arith) in
    let comma : IsDigit 44 → ⊥ = no_digit 44 (omega arith) in
    let cpu = same_number a.thread.cpu.0 b.thread.cpu.0 46 46 _ _ small.0 small'.0 stop stop whole in
    let thread = same_number a.thread.thread b.thread.thread 44 44 _ _ small.1 small'.1 comma comma (append_cancel_left (codes ".") _ _ cpu.1) in
    let colon : Before 58 → ⊥ = λ before. before refl in
    let steps = same_split Before (ask_before a.thread way step) (ask_before b.thread way' step') 58 58 _ _ (before_ask a.thread way step) (before_ask b.thread way' step') colon colon (append_cancel_left (codes ", ") _ _ thread.1) in
    let end : Inside 93 → ⊥ = λ inside. inside refl in
    let asks = same_split Inside (ask_front a.ask) (ask_front b.ask) 93 93 _ _ (front_inside a.ask) (front_inside b.ask) end end (append_cancel_left (codes ": ") _ _ steps.1) in
    record {
      thread = same_thread a.thread b.thread cpu.0 thread.0;
      word = same_word a.ask b.ask asks.0;
      step = ap (λ (front : List ℕ). front ++ codes "]") asks.0;
    }

-- the words of a turn's doing begin with a character that is no digit
record Opens (words : List ℕ) : Type 0 where
  first : ℕ
  behind : List ℕ
  never : IsDigit first → ⊥
  is : words ≡ first ∷ behind

idle_opens : (words : List ℕ) → IsIdle words → Opens words
idle_opens words (inl is) = record { first = 58; behind = codes " no thread is left"; never = no_colon; is = is }
idle_opens words (inr why) = record { first = 58; behind = codes " no thread runs: " ++ why.0; never = no_colon; is = why.1 }

opens : (poll : Option Poll) (words : List ℕ) → IsDoing None poll words → Opens words
opens None words idle = idle_opens words idle
opens (Some poll) words doing_is = record { first = 44; behind = drop 1 (poll_text None poll doing_is.0 doing_is.1 doing_is.2); never = no_digit 44 (omega arith); is = doing_is.3 }

-- and with this one where there is no poll, and with that one where there is one
idle_first : (words rest : List ℕ) → IsIdle words → get_or (words ++ rest) 0 0 ≡ 58
idle_first words rest (inl is) = ap (λ (ws : List ℕ). get_or (ws ++ rest) 0 0) is
idle_first words rest (inr why) = ap (λ (ws : List ℕ). get_or (ws ++ rest) 0 0) why.1

poll_first : (poll : Poll) (words rest : List ℕ) → IsDoing None (Some poll) words → get_or (words ++ rest) 0 0 ≡ 44
poll_first poll words rest doing_is = ap (λ (ws : List ℕ). get_or (ws ++ rest) 0 0) doing_is.3

first_same : (xs ys : List ℕ) → xs ≡ ys → get_or xs 0 0 ≡ get_or ys 0 0
first_same xs ys e = ap (λ (l : List ℕ). get_or l 0 0) e

abbrev FitsPoll : Option Poll → Type 0
FitsPoll poll = IfSome poll (λ p. (p.thread.cpu.0 < 2 ^ 64) × (p.thread.thread < 2 ^ 64))

doing_alike : (p q : Option Poll) (words words' rest rest' : List ℕ) → FitsPoll p → FitsPoll q → IsDoing None p words → IsDoing None q words' → words ++ rest ≡ words' ++ rest' → PollAlike p q
doing_alike None None words words' rest rest' small small' a b e = tt
doing_alike None (Some q) words words' rest rest' small small' a b e =
    let is = idle_first words rest a in
    let other = poll_first q words' rest' b in
    let same = first_same _ _ e in
    absurd (omega arith)
doing_alike (Some p) None words words' rest rest' small small' a b e =
    let is = poll_first p words rest a in
    let other = idle_first words' rest' b in
    let same = first_same _ _ e in
    absurd (omega arith)
doing_alike (Some p) (Some q) words words' rest rest' small small' a b e =
    polls_alike p q a.0 b.0 a.1 b.1 a.2 b.2 rest rest' small small' (ap (λ (ws : List ℕ). ws ++ rest) (sym a.3) ∙ e ∙ ap (λ (ws : List ℕ). ws ++ rest') b.3)

-- processors behind which such words stand
same_cpu : (m n : ℕ) (words words' rest rest' : List ℕ) → m < 2 ^ 64 → n < 2 ^ 64 → Opens words → Opens words' → decimal m ++ (words ++ rest) ≡ decimal n ++ (words' ++ rest') → (m ≡ n) × (words ++ rest ≡ words' ++ rest')
same_cpu m n words words' rest rest' small small' a b e =
    let one : words ++ rest ≡ a.first ∷ (a.behind ++ rest) = ap (λ (ws : List ℕ). ws ++ rest) a.is in
    let other : words' ++ rest' ≡ b.first ∷ (b.behind ++ rest') = ap (λ (ws : List ℕ). ws ++ rest') b.is in
    let cut = same_number m n a.first b.first (a.behind ++ rest) (b.behind ++ rest') small small' a.never b.never (ap (λ (ws : List ℕ). decimal m ++ ws) (sym one) ∙ e ∙ ap (λ (ws : List ℕ). decimal n ++ ws) other) in
    (cut.0, one ∙ cut.1 ∙ sym other)

pub lines_apart : LinesDecideTurns
lines_apart one other line small small' a b =
    let rest : List ℕ = a.events ++ codes "\n" in
    let rest' : List ℕ = b.events ++ codes "\n" in
    let whole = append_cancel_left (codes "turn ") _ _ (sym (head_is one.number one.round one.cpu a.doing a.events) ∙ sym a.parts ∙ b.parts ∙ head_is other.number other.round other.cpu b.doing b.events) in
    let comma : IsDigit 44 → ⊥ = no_digit 44 (omega arith) in
    let number = same_number one.number other.number 44 44 _ _ small.number small'.number comma comma whole in
    let round = same_number one.round other.round 44 44 _ _ small.round small'.round comma comma (append_cancel_left (codes ", round ") _ _ number.1) in
    let cpu = same_cpu one.cpu other.cpu a.doing b.doing rest rest' small.cpu small'.cpu (opens one.poll a.doing a.doing_is) (opens other.poll b.doing b.doing_is) (append_cancel_left (codes ", processor ") _ _ round.1) in
    record {
      number = number.0;
      round = round.0;
      cpu = cpu.0;
      poll = doing_alike one.poll other.poll a.doing b.doing rest rest' small.poll small'.poll a.doing_is b.doing_is cpu.1;
    }
