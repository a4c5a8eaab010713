-- What can be taken of tokens that nobody holds, and what a mark refuses (token(9); that a mark refuses lone readers is own).
--
-- These are statements about plain machines. What they mean for threads: between two turns a processor holds the list of its running
-- thread, or nothing (`IsAtRest` of lwkt_cpu). So while no thread runs nobody holds a token, as here, and the list of each thread that
-- waits for its tokens is a list as here: of at most 32 references, to tokens that exist. A resume takes it by these events and these
-- decisions (`takes_all`, `Decides`, `is_alone`). If a word answers Worn, the thread doesn't wait: it ends by 20.
--
-- The hypotheses hold of each initial state (`openings_are_safe`, `openings_are_free`), and of the state of `MarksMayBeLeft`, in which a
-- list that fits is refused.
use Rattle.std.specs.Prelude.{◌≡◌, ◌≢◌, ◌⊎◌, ◌↔◌, ◌==◌, ℕ, ◌<◌, ◌≤◌, Bool, true, false, List, [], ◌∷◌, ◌++◌, length, All, Some, slice_get, IsSomeAnd}
use Rattle.lwkt_base.specs.declared.names.CpuId.{CpuId}
use Rattle.lwkt_base.specs.declared.names.Mode.{Mode}
use Rattle.lwkt_base.specs.declared.names.Mode.TheVariants.{Exclusive, Shared}
use Rattle.lwkt_base.specs.declared.names.Ref.{Ref}
use Rattle.lwkt_base.specs.declared.opening_specs.TokSpec.{TokSpec}
use Rattle.lwkt_base.specs.declared.opening_specs.MsgSpec.{MsgSpec}
use Rattle.lwkt_base.specs.declared.words.Decision.{Decision}
use Rattle.lwkt_base.specs.declared.words.Decision.TheVariants.{Take as TakeTo, Held as IsHeldBack, Marked, Worn}
use Rattle.lwkt_base.specs.declared.limits.TheConstants.{LAST_GENERATION, LIST_LIMIT}
use Rattle.lwkt_base.specs.Refs.{names, is_alone, first_mode}
use Rattle.lwkt_base.specs.Holding.{holding_of}
use Rattle.lwkt_base.specs.TokenWord.{decision}
use Rattle.lwkt_core.specs.declared.tokens.Token.{Token}
use Rattle.lwkt_core.specs.declared.events.Event.{Event}
use Rattle.lwkt_core.specs.declared.events.Event.TheVariants.{Take}
use Rattle.lwkt_core.specs.Tokens.{held_by, IsFree}
use Rattle.lwkt_core.specs.Machine.{Machine, IsSafe, Happens}
use Rattle.lwkt_core.specs.Opening.{opening, AreWithin, AllOpenLawfully}
use Rattle.lwkt_core.specs.Trace.{Run}
use Rattle.lwkt_core.specs.Picture.{picture_of}
use Rattle.lwkt_core.specs.Takings.{taking, taking_event, takes_all}
use Rattle.lwkt_core.specs.WordEvents.{word_after}

-- a theorem: nobody holds a token in an initial state
abbrev pub OpeningsAreFree : Type 0
OpeningsAreFree = (cpus : ℕ) (tokens : List TokSpec) (messages : List MsgSpec) → All IsFree (opening cpus tokens messages).tokens

-- a list fits a machine: its tokens exist, and it has at most 32 references (own)
abbrev pub FitsMachine : Machine → List Ref → Type 0
FitsMachine m refs = All (λ r. r.tok.0 < length m.tokens) refs × (length refs ≤ LIST_LIMIT)

-- no token whose first reference is exclusive is at the last generation (own)
abbrev pub IsUnworn : Machine → List Ref → Type 0
IsUnworn m refs = (i : ℕ) (tok : Token) → slice_get m.tokens i ≡ Some tok → first_mode refs i ≡ Some Exclusive → tok.generation < LAST_GENERATION

-- a processor holds exactly the references of a list
abbrev pub HoldsExactly : Machine → ℕ → List Ref → Type 0
HoldsExactly m cpu refs = (i : ℕ) (tok : Token) → slice_get m.tokens i ≡ Some tok → held_by tok cpu ≡ holding_of refs i

-- a theorem: where nobody holds a token, a processor can take a list whole, and then hold exactly it, exactly if the list fits and
-- is unworn (token(9); limit and last generation own)
abbrev pub FreeTokensCanBeTaken : Type 0
FreeTokensCanBeTaken = (m : Machine) (cpu : CpuId) (refs : List Ref) → IsSafe m → cpu.0 < m.cpus → All IsFree m.tokens
    → ((n : Machine) × (Run m (takes_all cpu [] refs) n × HoldsExactly n cpu.0 refs)) ↔ (FitsMachine m refs × IsUnworn m refs)

-- the word of a reference's token lets it be taken, and then becomes the word of the token after that; a further reference asks no
-- word
abbrev pub WordLets : Machine → CpuId → (ℕ → Bool) → List Ref → Ref → Type 0
WordLets m cpu alone front r = names front r.tok.0 ≡ false → IsSomeAnd (slice_get m.tokens r.tok.0) (λ tok. decision (picture_of tok) r.mode (alone r.tok.0) ≡ TakeTo (word_after tok (taking cpu r.tok r.mode)))

-- references are taken in order, those in front of them being held: each by its word, and by its event
abbrev pub TakesByWords : Machine → CpuId → (ℕ → Bool) → List Ref → List Ref → Machine → Type 0
TakesByWords m cpu alone front [] n = n ≡ m
TakesByWords m cpu alone front (r ∷ refs) n = (mid : Machine) × (WordLets m cpu alone front r × Happens m (taking_event cpu front r) mid × TakesByWords mid cpu alone (front ++ r ∷ []) refs n)

-- a processor that decides by the tokens' words takes a list whole, and then holds exactly it
abbrev pub GetsByWords : Machine → CpuId → List Ref → Type 0
GetsByWords m cpu refs = (n : Machine) × (TakesByWords m cpu (is_alone refs) [] refs n × HoldsExactly n cpu.0 refs)

-- the word of a token answers a list's first reference to it so
abbrev pub WordAnswers : Machine → List Ref → Decision → Type 0
WordAnswers m refs answer = (i : ℕ) × ((tok : Token) × ((mode : Mode) × ((slice_get m.tokens i ≡ Some tok) × (first_mode refs i ≡ Some mode) × (decision (picture_of tok) mode (is_alone refs i) ≡ answer))))

-- a theorem: where nobody holds a token, a processor that decides by the words takes a list that fits whole, or a word answers
-- Marked, or one answers Worn; and where it takes the list none answers so (token(9); last generation and lone readers own)
abbrev pub OnlyMarksRefuseFreeTokens : Type 0
OnlyMarksRefuseFreeTokens = (m : Machine) (cpu : CpuId) (refs : List Ref) → IsSafe m → cpu.0 < m.cpus → All IsFree m.tokens → FitsMachine m refs
    → (GetsByWords m cpu refs ⊎ (WordAnswers m refs Marked ⊎ WordAnswers m refs Worn)) × (GetsByWords m cpu refs → (¬ WordAnswers m refs Marked) × (¬ WordAnswers m refs Worn))

-- a list is a lone reader's at a mark: all its references are to one token, the first of them shared, and that token is marked (own)
abbrev pub IsLoneReaderAtMark : Machine → List Ref → Type 0
IsLoneReaderAtMark m refs = (i : ℕ) × ((tok : Token) × ((slice_get m.tokens i ≡ Some tok) × (first_mode refs i ≡ Some Shared) × (is_alone refs i ≡ true) × (tok.mark ≡ true)))

-- a theorem: where nobody holds a token, a word answers a list Marked exactly if the list is a lone reader's at a mark (own)
abbrev pub MarksRefuseLoneReaders : Type 0
MarksRefuseLoneReaders = (m : Machine) (refs : List Ref) → All IsFree m.tokens → WordAnswers m refs Marked ↔ IsLoneReaderAtMark m refs

-- a thread that waits for its list, on its processor
pub record Waiter : Type 0 where
  pub cpu : CpuId
  pub list : List Ref

-- a thread may wait in a machine: its processor exists, and its list fits and is unworn (else it ends by 20; own)
pub record MayWait (m : Machine) (w : Waiter) : Type 0 where
  pub here : w.cpu.0 < m.cpus
  pub fits : FitsMachine m w.list
  pub unworn : IsUnworn m w.list

-- a theorem: where nobody holds a token, threads that wait for their lists are in deadlock, since none gets its list by the words,
-- exactly if each is a lone reader at a mark (own)
abbrev pub TokensDeadlockAtMarksAlone : Type 0
TokensDeadlockAtMarksAlone = (m : Machine) (waiters : List Waiter) → IsSafe m → All IsFree m.tokens → All (MayWait m) waiters
    → All (λ w. ¬ GetsByWords m w.cpu w.list) waiters ↔ All (λ w. IsLoneReaderAtMark m w.list) waiters

-- a theorem: the word of a token that nobody holds never answers Held (token(9))
abbrev pub FreeWordsAreNotHeld : Type 0
FreeWordsAreNotHeld = (tok : Token) (mode : Mode) (alone : Bool) → IsFree tok → decision (picture_of tok) mode alone ≢ IsHeldBack

-- an event takes a token exclusively
abbrev pub takes_exclusively : ℕ → Event → Bool
takes_exclusively i (Take cpu tok) = tok.0 == i
takes_exclusively i e = false

-- a theorem: a mark stays in a run until somebody takes its token exclusively (lwkt_token.c)
abbrev pub MarksStayUntilTaken : Type 0
MarksStayUntilTaken = (m : Machine) (events : List Event) (n : Machine) (i : ℕ) (tok last : Token) → Run m events n → slice_get m.tokens i ≡ Some tok → slice_get n.tokens i ≡ Some last
    → All (λ e. takes_exclusively i e ≡ false) events → tok.mark ≡ true → last.mark ≡ true

-- a theorem: a mark of a token at its last generation stays in every run (own)
abbrev pub WornMarksStay : Type 0
WornMarksStay = (m : Machine) (events : List Event) (n : Machine) (i : ℕ) (tok last : Token) → IsSafe m → Run m events n → slice_get m.tokens i ≡ Some tok → slice_get n.tokens i ≡ Some last
    → tok.generation ≡ LAST_GENERATION → tok.mark ≡ true → (last.generation ≡ LAST_GENERATION) × (last.mark ≡ true)

-- a theorem: this occurs: a run from an initial state leaves tokens that nobody holds, and a list that fits, and whose only answer is
-- Marked (own)
abbrev pub MarksMayBeLeft : Type 0
MarksMayBeLeft = (tokens : List TokSpec) × ((events : List Event) × ((n : Machine) × ((refs : List Ref) × (AreWithin 2 tokens [] × AllOpenLawfully tokens
    × Run (opening 2 tokens []) events n × All IsFree n.tokens × FitsMachine n refs × IsUnworn n refs × WordAnswers n refs Marked))))
