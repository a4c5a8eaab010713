use Rattle.std.proofs.Common.{eqb, eq-eqb, ne_eqb, ◌≡◌, ◌≢◌, ⊎_elim, ℕ, suc, ◌+◌, ◌-◌, ◌<◌, ◌≤◌, Bool, true, false, cond, List, [], ◌∷◌, length, get_or, set, refl, ap, sym, ◌∙◌, subst, arith, All, None, Some, length-set, get_or-set_same, get_or-set_other}
use Rattle.std.specs.Prelude.{slice_index, slice_set, slice_get, bit_or, is_some}
use Rattle.std.proofs.lemmas.Bool.{eqb-true, cases_eq, false≢true}
use Rattle.std.proofs.lemmas.Option.{slice_get-get_or}
use Rattle.std.proofs.lemmas.List.Elements.{All-nil, All-cons, All-from_recursion}
use Rattle.std.specs.List.{AllByRecursion}
use Rattle.std.proofs.lemmas.List.Sums.{sum_by-cons, get_or-le-sum_by}
use Rattle.std.specs.List.{list_any}
use mathlib.Core.Option.{none}
use Rattle.std.proofs.lemmas.List.Folds.{list_any_at}
use Rattle.lwkt_base.specs.declared.names.CpuId.{CpuId}
use Rattle.lwkt_base.specs.declared.names.TokId.{TokId}
use Rattle.lwkt_base.specs.declared.names.Mode.{Mode}
use Rattle.lwkt_base.specs.declared.names.Mode.TheVariants.{Exclusive, Shared}
use Rattle.lwkt_base.specs.declared.laws.Law.{Law}
use Rattle.lwkt_base.specs.declared.laws.Law.TheVariants.{Any, Sum, Order, Cap, Tally, Len}
use Rattle.lwkt_base.specs.declared.holdings.Held.{Held}
use Rattle.lwkt_base.specs.declared.holdings.Held.TheVariants.{Nothing, Holds}
use Rattle.lwkt_base.specs.declared.words.Decision.TheVariants.{Take as Takes}
use Rattle.lwkt_base.specs.declared.limits.TheConstants.{CPU_LIMIT, LAST_GENERATION}
use Rattle.lwkt_base.specs.Holding.{references_in, is_exclusive, is_held, one_more, one_less}
use Rattle.lwkt_base.specs.Law.{Obeys}
use Rattle.lwkt_base.specs.TokenWord.{bit, word_of, decision}
use Rattle.lwkt_base.specs.declared.sections.Section.{Section}
use Rattle.lwkt_core.specs.declared.tokens.Token.{Token}
use Rattle.lwkt_core.specs.declared.events.Event.TheVariants.{Take, Share, Again, Mark, GiveOne, GiveClean, GiveWritten, Write, WriteBlob}
use Rattle.lwkt_core.specs.Tokens.{held_by, length_of, tally_of, IsFree, IsOpen, IsNotLastExclusive, IsSafeToken, token_after, tallies_after}
use Rattle.lwkt_core.specs.Picture.{count_of_held, picture_of}
use Rattle.lwkt_bank.specs.declared.views.Plan.{Plan}
use Rattle.lwkt_bank.specs.declared.views.Added.{Added}
use Rattle.lwkt_bank.specs.declared.views.TokenEntry.{TokenEntry}
use Rattle.lwkt_bank.specs.Views.{RecordOf, listed, wrote_record, amount, generation_in, seen, looked, taken, more, less, numbered, ended, read, stored, raised, one_section, one_generation}
use Rattle.lwkt_bank.specs.Rule.{Knows, IsOpeningRow, lies_in, in_slot}
use Rattle.lwkt_bank.proofs.WordMoves.{count_of_held-more, exclusive-more, count_of_held-less, exclusive-less, IsOpen-from_picture, picture-open, IsFree-from_picture, count-le, count-set, exclusive-set, exclusive-here, word-room, word-room-written, generation-word, or-marked, decided-exclusive, decided-shared}
use Rattle.lwkt_bank.proofs.ShowMoves.{IsOthers, Turns}

-- what a seat's processor sees of a token that it may step on
pub record Sight (cpus : ℕ) (plan : Plan) (tok : Token) (cpu : ℕ) (e : TokenEntry) (n : ℕ) (cells : ℕ → ℕ) : Type 0 where
  pub limit : cpus ≤ CPU_LIMIT
  pub here : cpu < cpus
  pub safe : IsSafeToken cpus tok
  pub few : (other : ℕ) → references_in (held_by tok other) ≤ 32
  pub law : tok.law ≡ plan.law
  pub param : tok.param ≡ plan.param
  pub long : length tok.row ≡ plan.cells
  pub count_word : n ≡ word_of (picture_of tok)
  pub row : (i : ℕ) → i < plan.cells → cells i ≡ slice_index tok.row i
  pub held : e.held ≡ held_by tok cpu
  pub opening : tok.generation ≡ plan.generation → IsOpeningRow plan tok.first
  pub knows : Knows tok e
  pub guard : is_some tok.blob ≡ is_some plan.blob
  pub opening_blob : tok.generation ≡ plan.generation → tok.first_blob ≡ plan.blob

-- a look at a generation keeps all but the generation, the known cells and the known record
pub seen-keeps : (e : TokenEntry) (g : ℕ) → ((seen e g).tok ≡ e.tok) × ((seen e g).held ≡ e.held) × ((seen e g).first ≡ e.first) × ((seen e g).row ≡ e.row) × ((seen e g).written ≡ e.written) × ((seen e g).added ≡ e.added) × ((seen e g).generation ≡ g) × ((seen e g).touched ≡ e.touched) × ((seen e g).first_blob ≡ e.first_blob) × ((seen e g).blob ≡ e.blob)
seen-keeps e g = go (eqb e.generation g) refl
  where
    go : (b : Bool) → eqb e.generation g ≡ b → ((cond b e (record e { generation = g; known = []; known_blob = [] })).tok ≡ e.tok) × ((cond b e (record e { generation = g; known = []; known_blob = [] })).held ≡ e.held) × ((cond b e (record e { generation = g; known = []; known_blob = [] })).first ≡ e.first) × ((cond b e (record e { generation = g; known = []; known_blob = [] })).row ≡ e.row) × ((cond b e (record e { generation = g; known = []; known_blob = [] })).written ≡ e.written) × ((cond b e (record e { generation = g; known = []; known_blob = [] })).added ≡ e.added) × ((cond b e (record e { generation = g; known = []; known_blob = [] })).generation ≡ g) × ((cond b e (record e { generation = g; known = []; known_blob = [] })).touched ≡ e.touched) × ((cond b e (record e { generation = g; known = []; known_blob = [] })).first_blob ≡ e.first_blob) × ((cond b e (record e { generation = g; known = []; known_blob = [] })).blob ≡ e.blob)
    go true is = (refl, refl, refl, refl, refl, refl, eqb-true e.generation g is, refl, refl, refl)
    go false is = (refl, refl, refl, refl, refl, refl, refl, refl, refl, refl)

-- the cells of a row with their numbers are those of the row
numbered_from : (whole rest : List ℕ) (i : ℕ) → ((k : ℕ) → slice_get whole (i + k) ≡ slice_get rest k) → AllByRecursion (λ c. slice_get whole c.at ≡ Some c.value) (numbered i rest)
numbered_from whole [] i same = tt
numbered_from whole (x ∷ xs) i same =
    (ap (slice_get whole) (omega arith) ∙ same 0, numbered_from whole xs (suc i) (λ k. ap (slice_get whole) (omega arith) ∙ same (suc k)))

pub numbered-true : (row : List ℕ) → All (λ c. slice_get row c.at ≡ Some c.value) (numbered 0 row)
numbered-true row = All-from_recursion (λ c. slice_get row c.at ≡ Some c.value) (numbered 0 row) (numbered_from row row 0 (λ k. ap (slice_get row) (omega arith)))

-- what is listed of a record is so
listed-true : (blob : RecordOf) → All (λ bytes. blob ≡ Some bytes) (listed blob)
listed-true None = All-nil (λ bytes. None ≡ Some bytes)
listed-true (Some bytes) = All-cons (λ other. Some bytes ≡ Some other) bytes [] refl (All-nil (λ other. Some bytes ≡ Some other))

-- nothing lies in the slot of a token that has a record and is held exclusively
pub lies_out : (blob : RecordOf) (held : Bool) → is_some blob ≡ true → held ≡ true → lies_in blob held ≡ none
lies_out None held has is = absurd (false≢true has)
lies_out (Some bytes) held has is = ap (lies_in (Some bytes)) is

-- what is known stays true after a look at the token's generation
Knows-seen : (tok : Token) (e : TokenEntry) (g : ℕ) → g ≡ tok.generation → Knows tok e → Knows tok (seen e g)
Knows-seen tok e g is knows = go (eqb e.generation g)
  where
    go : (b : Bool) → Knows tok (cond b e (record e { generation = g; known = []; known_blob = [] }))
    go true = knows
    go false = record { not_above = omega arith; cells = λ same. All-nil (λ c. slice_get tok.first c.at ≡ Some c.value); records = λ same. All-nil (λ bytes. tok.first_blob ≡ Some bytes); holder = λ held. let h = knows.holder held in (is, h.1, h.2, h.3, h.4) }

-- an exclusive holding is held
pub exclusive_held : (h : Held) → is_exclusive h ≡ true → is_held h ≡ true
exclusive_held Nothing is = is
exclusive_held (Holds mode further) is = refl

-- what a raise by one processor does to the tally of any, and to what is said to have been added
raise_adds : (tallies : List ℕ) (cpu : CpuId) (k a : ℕ) (added : List Added) → cpu.0 < length tallies → slice_index (set tallies cpu.0 (slice_index tallies cpu.0 + k)) a + amount a added ≡ slice_index tallies a + amount a (record { cpu = cpu; amount = k } ∷ added)
raise_adds tallies cpu k a added room =
    let whole = sum_by-cons (λ (x : Added). cond (eqb x.cpu.0 a) x.amount 0) (record { cpu = cpu; amount = k }) added in
    ⊎_elim
    (λ (same : cpu.0 ≡ a).
    let test = ap (λ b. cond b k 0) (eq-eqb cpu.0 a same) in
    let F : ℕ → Type 0 = λ x. slice_index (set tallies cpu.0 (slice_index tallies cpu.0 + k)) x ≡ slice_index tallies x + k in
    let grown = subst F same (get_or-set_same tallies cpu.0 (slice_index tallies cpu.0 + k) 0 room) in
    omega arith)
    (λ away.
    let test = ap (λ b. cond b k 0) (ne_eqb cpu.0 a away) in
    let kept = get_or-set_other tallies cpu.0 a (slice_index tallies cpu.0 + k) 0 (λ e. away (sym e)) in
    omega arith)
    (cases_eq cpu.0 a)

module _ (cpus : ℕ) (plan : Plan) (tok : Token) (cpu : CpuId) (e : TokenEntry) (n : ℕ) (cells : ℕ → ℕ) (sight : Sight cpus plan tok cpu.0 e n cells) where
  inside : cpu.0 < length tok.holders
  inside = let s = sight.safe.eight_holders in let l = sight.limit in let h = sight.here in omega arith

  count_fits : (picture_of tok).count < 65536
  count_fits = let c = count-le tok cpus sight.safe sight.few in omega arith

  -- the generation in the word is the token's
  pub generation_is : generation_in n ≡ tok.generation
  generation_is = ap generation_in sight.count_word ∙ generation-word (picture_of tok) count_fits

  -- the row and the record that a holder finds at a take obey the law
  pub first_lawful : Obeys plan.law plan.param tok.first (length_of tok.first_blob)
  first_lawful = let F : Law → Type 0 = λ l. Obeys l plan.param tok.first (length_of tok.first_blob) in let G : ℕ → Type 0 = λ p. Obeys tok.law p tok.first (length_of tok.first_blob) in subst F sight.law (subst G sight.param sight.safe.lawful)

  -- a step that changes only what this processor holds, and the mark
  turns_moved : (h : Held) (mark bit_after : Bool) (e' : TokenEntry) (word : ℕ) → list_any is_exclusive (set tok.holders cpu.0 h) ≡ bit_after → word ≡ word_of (picture_of (record tok { holders = set tok.holders cpu.0 h; mark = mark })) → e'.held ≡ h → e'.added ≡ e.added → e'.written ≡ e.written → Knows tok e'
      → Turns plan tok (record tok { holders = set tok.holders cpu.0 h; mark = mark }) cpu.0 e e' word cells (lies_in tok.blob bit_after)
  turns_moved h mark bit_after e' word after_is is held added written knows = record {
    slot = ap (lies_in tok.blob) after_is;
    guard = refl;
    same_first_blob = λ same. refl;
    law = refl;
    rises = omega arith;
    same_first = λ same. refl;
    param = refl;
    long = refl;
    count_word = is;
    row = sight.row;
    others = λ other away. get_or-set_other tok.holders cpu.0 other h Nothing away;
    held = held ∙ sym (get_or-set_same tok.holders cpu.0 h Nothing inside);
    tallies = λ a. ap (λ xs. tally_of tok a + amount a xs) (sym added);
    sections = ap (λ k. tok.generation + k) (sym written);
    known = record { not_above = knows.not_above; cells = knows.cells; records = knows.records; holder = knows.holder };
    others_known = λ d away theirs. record { not_above = theirs.not_above; cells = theirs.cells; records = theirs.records; holder = theirs.holder };
  }

  -- a look at the word
  pub turns_load : Turns plan tok tok cpu.0 e (looked e n) n cells (in_slot tok)
  turns_load =
      let kept = seen-keeps e (generation_in n) in
      record {
        law = refl;
        slot = refl;
        guard = refl;
        same_first_blob = λ same. refl;
        rises = omega arith;
        same_first = λ same. refl;
        param = refl;
        long = refl;
        count_word = sight.count_word;
        row = sight.row;
        others = λ other away. refl;
        held = kept.1 ∙ sight.held;
        tallies = λ a. ap (λ xs. tally_of tok a + amount a xs) (sym kept.5);
        sections = ap (λ k. tok.generation + k) (sym kept.4);
        known = Knows-seen tok e (generation_in n) generation_is sight.knows;
        others_known = λ d away theirs. theirs;
      }

  -- what is known of a token that was taken with its row
  Knows-taken : (mode : Mode) → tok.row ≡ tok.first → tok.blob ≡ tok.first_blob → Knows tok (taken e n mode tok.row tok.blob)
  Knows-taken mode settled settled_blob =
      let kept = seen-keeps e (generation_in n) in
      let k = Knows-seen tok e (generation_in n) generation_is sight.knows in
      record { not_above = k.not_above; cells = k.cells; records = λ same. let G : RecordOf → Type 0 = λ b. All (λ bytes. b ≡ Some bytes) (listed tok.blob) in subst G settled_blob (listed-true tok.blob); holder = λ held. (kept.6 ∙ generation_is, settled, refl, settled_blob, refl) }

  -- the entry of a token that was taken differs from the one before in what it says
  pub fresh : tok.row ≡ tok.first → e.generation ≡ generation_in n → All (λ c. slice_get tok.row c.at ≡ Some c.value) e.known
  fresh settled same = let F : List ℕ → Type 0 = λ r. All (λ c. slice_get r c.at ≡ Some c.value) e.known in subst F (sym settled) (sight.knows.cells (same ∙ generation_is))

  pub fresh_blob : tok.blob ≡ tok.first_blob → e.generation ≡ generation_in n → All (λ bytes. tok.blob ≡ Some bytes) e.known_blob
  fresh_blob settled same = let F : RecordOf → Type 0 = λ b. All (λ bytes. b ≡ Some bytes) e.known_blob in subst F (sym settled) (sight.knows.records (same ∙ generation_is))

  -- a take
  pub free_at : (alone : Bool) (next : ℕ) → decision (picture_of tok) Exclusive alone ≡ Takes next → IsFree tok × (tok.generation < LAST_GENERATION)
  free_at alone next takes =
      let d = decided-exclusive (picture_of tok) alone next takes in
      let g = sight.safe.in_range in
      let apart = d.0 in
      (IsFree-from_picture tok d.1 d.2, omega arith)

  pub settled_free : IsFree tok → tok.row ≡ tok.first
  settled_free free = sight.safe.settled (λ c. ap is_exclusive (free c))

  pub settled_blob_free : IsFree tok → tok.blob ≡ tok.first_blob
  settled_blob_free free = sight.safe.settled_blob (λ c. ap is_exclusive (free c))

  pub turns_take : (alone : Bool) (next : ℕ) → decision (picture_of tok) Exclusive alone ≡ Takes next → (t : TokId) → Turns plan tok (token_after tok (Take cpu t)) cpu.0 e (taken e n Exclusive tok.row tok.blob) next cells (lies_in tok.blob true)
  turns_take alone next takes t =
      let d = decided-exclusive (picture_of tok) alone next takes in
      let free = (free_at alone next takes).0 in
      let more_is : one_more (held_by tok cpu.0) Exclusive ≡ Holds Exclusive 0 = ap (λ h. one_more h Exclusive) (free cpu.0) in
      let kept = seen-keeps e (generation_in n) in
      let counts = count-set tok cpu.0 (one_more (held_by tok cpu.0) Exclusive) inside in
      let new_counted : count_of_held (one_more (held_by tok cpu.0) Exclusive) ≡ 0 = ap count_of_held more_is in
      let old_counted : count_of_held (held_by tok cpu.0) ≡ 0 = ap count_of_held (free cpu.0) in
      let bits = exclusive-here tok cpu.0 (one_more (held_by tok cpu.0) Exclusive) inside (ap is_exclusive more_is) in
      let same_bit = ap bit bits in
      let word : next ≡ word_of (picture_of (record tok { holders = set tok.holders cpu.0 (one_more (held_by tok cpu.0) Exclusive); mark = false })) = (let whole = d.3 in omega arith) in
      turns_moved (one_more (held_by tok cpu.0) Exclusive) false true (taken e n Exclusive tok.row tok.blob) next bits word (sym more_is) kept.5 kept.4 (Knows-taken Exclusive (settled_free free) (settled_blob_free free))

  -- a share
  pub open_at : (alone : Bool) (next : ℕ) → decision (picture_of tok) Shared alone ≡ Takes next → IsOpen tok
  open_at alone next takes = IsOpen-from_picture tok (decided-shared (picture_of tok) alone next takes).0

  pub turns_share : (alone : Bool) (next : ℕ) → decision (picture_of tok) Shared alone ≡ Takes next → e.held ≡ Nothing → (t : TokId) → Turns plan tok (token_after tok (Share cpu t)) cpu.0 e (taken e n Shared tok.row tok.blob) next cells (in_slot tok)
  turns_share alone next takes not_held t =
      let d = decided-shared (picture_of tok) alone next takes in
      let nothing : held_by tok cpu.0 ≡ Nothing = sym sight.held ∙ not_held in
      let more_is : one_more (held_by tok cpu.0) Shared ≡ Holds Shared 0 = ap (λ h. one_more h Shared) nothing in
      let kept = seen-keeps e (generation_in n) in
      let counts = count-set tok cpu.0 (one_more (held_by tok cpu.0) Shared) inside in
      let new_counted : count_of_held (one_more (held_by tok cpu.0) Shared) ≡ 1 = ap count_of_held more_is in
      let old_counted : count_of_held (held_by tok cpu.0) ≡ 0 = ap count_of_held nothing in
      let bits = exclusive-set tok cpu.0 (one_more (held_by tok cpu.0) Shared) inside (ap is_exclusive more_is ∙ sym (ap is_exclusive nothing)) in
      let same_bit = ap bit bits in
      let word : next ≡ word_of (picture_of (record tok { holders = set tok.holders cpu.0 (one_more (held_by tok cpu.0) Shared) })) = (let whole = d.1 in omega arith) in
      turns_moved (one_more (held_by tok cpu.0) Shared) tok.mark (picture_of tok).exclusive (taken e n Shared tok.row tok.blob) next bits word (sym more_is) kept.5 kept.4 (Knows-taken Shared (sight.safe.settled (open_at alone next takes)) (sight.safe.settled_blob (open_at alone next takes)))

  -- what a holder knows
  pub holds_it : is_held e.held ≡ true → is_held (held_by tok cpu.0) ≡ true
  holds_it is = ap is_held (sym sight.held) ∙ is

  -- a further reference
  pub turns_again : is_held e.held ≡ true → (t : TokId) → Turns plan tok (token_after tok (Again cpu t)) cpu.0 e (more e) (n + 4) cells (in_slot tok)
  turns_again is t =
      let h = one_more (held_by tok cpu.0) Shared in
      let counts = count-set tok cpu.0 h inside in
      let one = count_of_held-more (held_by tok cpu.0) (holds_it is) in
      let bits = exclusive-set tok cpu.0 h inside (exclusive-more (held_by tok cpu.0) (holds_it is)) in
      let same_bit = ap bit bits in
      let word : n + 4 ≡ word_of (picture_of (record tok { holders = set tok.holders cpu.0 h })) = (let whole = sight.count_word in omega arith) in
      turns_moved h tok.mark (picture_of tok).exclusive (more e) (n + 4) bits word (ap (λ x. one_more x Shared) sight.held) refl refl
      (record { not_above = sight.knows.not_above; cells = sight.knows.cells; records = sight.knows.records; holder = λ held. sight.knows.holder is })

  -- a reference given back that doesn't end an exclusive holding
  pub turns_give_one : IsNotLastExclusive e.held → is_held e.held ≡ true → (t : TokId) (word : ℕ) → word + 4 ≡ n → Turns plan tok (token_after tok (GiveOne cpu t)) cpu.0 e (less e) word cells (in_slot tok)
  turns_give_one may is t word less_is =
      let h = one_less (held_by tok cpu.0) in
      let may' : IsNotLastExclusive (held_by tok cpu.0) = subst IsNotLastExclusive sight.held may in
      let counts = count-set tok cpu.0 h inside in
      let one = count_of_held-less (held_by tok cpu.0) may' in
      let bits = exclusive-set tok cpu.0 h inside (exclusive-less (held_by tok cpu.0) may') in
      let same_bit = ap bit bits in
      let shown : word ≡ word_of (picture_of (record tok { holders = set tok.holders cpu.0 h })) = (let whole = sight.count_word in omega arith) in
      turns_moved h tok.mark (picture_of tok).exclusive (less e) word bits shown (ap one_less sight.held) refl refl
      (record { not_above = sight.knows.not_above; cells = sight.knows.cells; records = sight.knows.records; holder = λ held. sight.knows.holder is })

  -- a word that counts a reference that can be given back has room to go down
  pub room_less : IsNotLastExclusive e.held → 4 ≤ n
  room_less may =
      let may' : IsNotLastExclusive (held_by tok cpu.0) = subst IsNotLastExclusive sight.held may in
      let one = count_of_held-less (held_by tok cpu.0) may' in
      let most = get_or-le-sum_by count_of_held tok.holders cpu.0 Nothing inside in
      let whole = sight.count_word in omega arith

  pub room_more : n + 4 < 18446744073709551616
  room_more = let h = word-room tok cpus sight.safe sight.few in let whole = sight.count_word in omega arith

  -- a word that was marked
  pub marked_is : bit_or n 2 ≡ word_of (record (picture_of tok) { mark = true })
  marked_is = ap (λ x. bit_or x 2) sight.count_word ∙ or-marked (picture_of tok) count_fits

  -- the last reference of an exclusive holding: what its word was
  module _ (last : e.held ≡ Holds Exclusive 0) where
    held_last : held_by tok cpu.0 ≡ Holds Exclusive 0
    held_last = sym sight.held ∙ last

    gone : one_less (held_by tok cpu.0) ≡ Nothing
    gone = ap one_less held_last

    pub alone_last : (other : ℕ) → other ≢ cpu.0 → held_by tok other ≡ Nothing
    alone_last other away = sight.safe.compatible cpu.0 other (ap is_exclusive held_last) (λ same. away (sym same))

    freed : Token
    freed = record tok { holders = set tok.holders cpu.0 (one_less (held_by tok cpu.0)) }

    nobody : IsOpen (record tok { holders = set tok.holders cpu.0 (one_less (held_by tok cpu.0)) })
    nobody other = ⊎_elim
        (λ same. ap (λ o. is_exclusive (get_or (set tok.holders cpu.0 (one_less (held_by tok cpu.0))) o Nothing)) same ∙ ap is_exclusive (get_or-set_same tok.holders cpu.0 (one_less (held_by tok cpu.0)) Nothing inside ∙ gone))
        (λ away. ap is_exclusive (get_or-set_other tok.holders cpu.0 other (one_less (held_by tok cpu.0)) Nothing away ∙ alone_last other away))
        (cases_eq other cpu.0)

    -- the word without its exclusive bit
    word_freed : word_of (picture_of (record tok { holders = set tok.holders cpu.0 (one_less (held_by tok cpu.0)) })) + 1 ≡ n
    word_freed =
        let h = one_less (held_by tok cpu.0) in
        let counts = count-set tok cpu.0 h inside in
        let new_counted : count_of_held h ≡ 0 = ap count_of_held gone in
        let old_counted : count_of_held (held_by tok cpu.0) ≡ 0 = ap count_of_held held_last in
        let off = ap bit (picture-open (record tok { holders = set tok.holders cpu.0 h }) nobody) in
        let on = ap bit (list_any_at is_exclusive tok.holders cpu.0 Nothing inside (ap is_exclusive held_last)) in
        let whole = sight.count_word in omega arith

    pub room_clean : 1 ≤ n
    room_clean = let f = word_freed in omega arith

    pub room_written : n + one_generation < 18446744073709551616
    room_written = let h = word-room-written tok cpus sight.safe sight.few (sight.safe.not_worn cpu.0 (ap is_exclusive held_last)) in let whole = sight.count_word in omega arith

    pub turns_give_clean : (t : TokId) (word : ℕ) → word + 1 ≡ n → Turns plan tok (token_after tok (GiveClean cpu t)) cpu.0 e (less e) word cells (lies_in tok.blob false)
    turns_give_clean t word less_is =
        let h = one_less (held_by tok cpu.0) in
        let f = word_freed in
        turns_moved h tok.mark false (less e) word (picture-open (record tok { holders = set tok.holders cpu.0 h }) nobody) (omega arith) (ap one_less sight.held) refl refl
        (record { not_above = sight.knows.not_above; cells = sight.knows.cells; records = sight.knows.records; holder = λ held. sight.knows.holder (ap is_held last) })

    pub turns_give_written : (t : TokId) (section : Section) → Turns plan tok (token_after tok (GiveWritten cpu t section)) cpu.0 e (ended e) (n + one_section) cells (lies_in tok.blob false)
    turns_give_written t section =
        let h = one_less (held_by tok cpu.0) in
        let f = word_freed in
        let own = sight.knows.holder (ap is_held last) in
        let off : list_any is_exclusive (set tok.holders cpu.0 h) ≡ false = picture-open (record tok { holders = set tok.holders cpu.0 h }) nobody in
        record {
          law = refl;
          slot = ap (lies_in tok.blob) off;
          guard = refl;
          same_first_blob = λ same. absurd (omega arith);
          rises = omega arith;
          same_first = λ same. absurd (omega arith);
          param = refl;
          long = refl;
          count_word = omega arith;
          row = sight.row;
          others = λ other away. get_or-set_other tok.holders cpu.0 other h Nothing away;
          held = sym (get_or-set_same tok.holders cpu.0 h Nothing inside ∙ gone);
          tallies = λ a. refl;
          sections = omega arith;
          known = record {
            not_above = let k = sight.knows.not_above in omega arith;
            cells = λ same. let F : List ℕ → Type 0 = λ r. All (λ c. slice_get r c.at ≡ Some c.value) (numbered 0 e.row) in subst F own.2 (numbered-true e.row);
            records = λ same. let G : RecordOf → Type 0 = λ b. All (λ bytes. b ≡ Some bytes) (listed e.blob) in subst G own.4 (listed-true e.blob);
            holder = λ held. absurd (false≢true held);
          };
          others_known = λ d away theirs. record {
            not_above = let k = theirs.not_above in omega arith;
            cells = λ same. absurd (let k = theirs.not_above in omega arith);
            records = λ same. absurd (let k = theirs.not_above in omega arith);
            holder = λ held. absurd (not_held d away held);
          };
        }
      where
        not_held : (d : TokenEntry) → IsOthers tok cpu.0 d → is_held d.held ≡ true → ⊥
        not_held d away held = ⊎_elim
            (λ other. false≢true (sym (ap is_held (other.1.1 ∙ alone_last other.0 other.1.0)) ∙ held))
            (λ nothing. false≢true (sym (ap is_held nothing) ∙ held))
            away

  -- the mark
  pub turns_mark : (t : TokId) → Turns plan tok (token_after tok (Mark cpu t)) cpu.0 e e (word_of (record (picture_of tok) { mark = true })) cells (in_slot tok)
  turns_mark t = record {
    law = refl;
    slot = refl;
    guard = refl;
    same_first_blob = λ same. refl;
    rises = omega arith;
    same_first = λ same. refl;
    param = refl;
    long = refl;
    count_word = refl;
    row = sight.row;
    others = λ other away. refl;
    held = sight.held;
    tallies = λ a. refl;
    sections = refl;
    known = record { not_above = sight.knows.not_above; cells = sight.knows.cells; records = sight.knows.records; holder = sight.knows.holder };
    others_known = λ d away theirs. record { not_above = theirs.not_above; cells = theirs.cells; records = theirs.records; holder = theirs.holder };
  }

  -- a cell that is read
  pub turns_read : is_held e.held ≡ true → (cell : ℕ) → cell < plan.cells → Turns plan tok tok cpu.0 e (read e cell) n cells (in_slot tok)
  turns_read is cell within =
      let own = sight.knows.holder is in
      let long : length tok.first ≡ plan.cells = sight.safe.same_cells ∙ sight.long in
      let value : slice_get tok.first cell ≡ Some (slice_index e.first cell) = slice_get-get_or tok.first cell 0 (omega arith) ∙ ap (λ (r : List ℕ). Some (slice_index r cell)) (sym own.1) in
      record {
        law = refl;
        slot = refl;
        guard = refl;
        same_first_blob = λ same. refl;
        rises = omega arith;
        same_first = λ same. refl;
        param = refl;
        long = refl;
        count_word = sight.count_word;
        row = sight.row;
        others = λ other away. refl;
        held = sight.held;
        tallies = λ a. refl;
        sections = refl;
        known = record {
          not_above = sight.knows.not_above;
          cells = λ same. All-cons (λ c. slice_get tok.first c.at ≡ Some c.value) (record { at = cell; value = slice_index e.first cell }) e.known value (sight.knows.cells same);
          records = λ same. sight.knows.records same;
          holder = λ held. sight.knows.holder held;
        };
        others_known = λ d away theirs. theirs;
      }

  -- what another holds while this processor holds the token exclusively: nothing
  not_theirs : is_exclusive e.held ≡ true → (d : TokenEntry) → IsOthers tok cpu.0 d → is_held d.held ≡ true → ⊥
  not_theirs is d away held = ⊎_elim
      (λ other. false≢true (sym (ap is_held (other.1.1 ∙ sight.safe.compatible cpu.0 other.0 (ap is_exclusive (sym sight.held) ∙ is) (λ same. other.1.0 (sym same)))) ∙ held))
      (λ nothing. false≢true (sym (ap is_held nothing) ∙ held))
      away

  -- a value stored in a cell, under any law but Tally
  pub turns_write : is_exclusive e.held ≡ true → plan.law ≢ Tally → (t : TokId) (cell value : ℕ) → (cells' : ℕ → ℕ) → ((c : ℕ) → c < plan.cells → cells' c ≡ slice_index (slice_set tok.row cell value) c)
      → Turns plan tok (token_after tok (Write cpu t cell value)) cpu.0 e (stored e cell value) n cells' (in_slot tok)
  turns_write is untallied t cell value cells' shown =
      let own = sight.knows.holder (exclusive_held e.held is) in
      record {
        law = refl;
        slot = refl;
        guard = refl;
        same_first_blob = λ same. refl;
        rises = omega arith;
        same_first = λ same. refl;
        param = refl;
        long = length-set tok.row cell value;
        count_word = sight.count_word;
        row = shown;
        others = λ other away. refl;
        held = sight.held;
        tallies = λ a. ap (λ (ts : List ℕ). slice_index ts a + amount a e.added) (untouched tok.law (λ tally. untallied (sym sight.law ∙ tally)) tok.tallies cpu.0 (value - slice_index tok.row cell));
        sections = refl;
        known = record { not_above = sight.knows.not_above; cells = sight.knows.cells; records = sight.knows.records; holder = λ held. (own.0, own.1, ap (λ (r : List ℕ). slice_set r cell value) own.2, own.3, own.4) };
        others_known = λ d away theirs. record { not_above = theirs.not_above; cells = theirs.cells; records = theirs.records; holder = λ held. absurd (not_theirs is d away held) };
      }
    where
      untouched : (law : Law) → law ≢ Tally → (tallies : List ℕ) (c k : ℕ) → tallies_after law tallies c k ≡ tallies
      untouched Any apart tallies c k = refl
      untouched Sum apart tallies c k = refl
      untouched Order apart tallies c k = refl
      untouched Cap apart tallies c k = refl
      untouched Len apart tallies c k = refl
      untouched Tally apart tallies c k = absurd (apart refl)

  -- a value added to the cell of a Tally token
  pub turns_raise : is_exclusive e.held ≡ true → plan.law ≡ Tally → (t : TokId) (k : ℕ) → (cells' : ℕ → ℕ) → ((c : ℕ) → c < plan.cells → cells' c ≡ slice_index (slice_set tok.row 0 (slice_index e.row 0 + k)) c)
      → Turns plan tok (token_after tok (Write cpu t 0 (slice_index e.row 0 + k))) cpu.0 e (raised e cpu k) n cells' (in_slot tok)
  turns_raise is tally t k cells' shown =
      let own = sight.knows.holder (exclusive_held e.held is) in
      let old : slice_index e.row 0 ≡ slice_index tok.row 0 = ap (λ (r : List ℕ). slice_index r 0) own.2 in
      record {
        law = refl;
        slot = refl;
        guard = refl;
        same_first_blob = λ same. refl;
        rises = omega arith;
        same_first = λ same. refl;
        param = refl;
        long = length-set tok.row 0 (slice_index e.row 0 + k);
        count_word = sight.count_word;
        row = shown;
        others = λ other away. refl;
        held = sight.held;
        tallies = λ a.
            let F : Law → ℕ = λ l. slice_index (tallies_after l tok.tallies cpu.0 (slice_index e.row 0 + k - slice_index tok.row 0)) a in
            let by_law : F tok.law ≡ F Tally = ap F (sight.law ∙ tally) in
            let eight = sight.safe.eight_tallies in
            let l = sight.limit in
            let h = sight.here in
            let difference : slice_index e.row 0 + k - slice_index tok.row 0 ≡ k = omega arith in
            let G : ℕ → ℕ = λ d. slice_index (set tok.tallies cpu.0 (slice_index tok.tallies cpu.0 + d)) a in
            let sum_is = raise_adds tok.tallies cpu k a e.added (omega arith) in
            ap (λ x. x + amount a e.added) (by_law ∙ ap G difference) ∙ sum_is;
        sections = refl;
        known = record { not_above = sight.knows.not_above; cells = sight.knows.cells; records = sight.knows.records; holder = λ held. (own.0, own.1, ap (λ (r : List ℕ). slice_set r 0 (slice_index e.row 0 + k)) own.2, own.3, own.4) };
        others_known = λ d away theirs. record { not_above = theirs.not_above; cells = theirs.cells; records = theirs.records; holder = λ held. absurd (not_theirs is d away held) };
      }

  -- the bit of a token that this processor holds exclusively
  pub exclusive_on : is_exclusive e.held ≡ true → list_any is_exclusive tok.holders ≡ true
  exclusive_on is = list_any_at is_exclusive tok.holders cpu.0 Nothing inside (ap is_exclusive (sym sight.held) ∙ is)

  -- the record read, and written
  pub turns_read_blob : Turns plan tok tok cpu.0 e e n cells (in_slot tok)
  turns_read_blob = record {
    law = refl;
    slot = refl;
    guard = refl;
    same_first_blob = λ same. refl;
    rises = omega arith;
    same_first = λ same. refl;
    param = refl;
    long = refl;
    count_word = sight.count_word;
    row = sight.row;
    others = λ other away. refl;
    held = sight.held;
    tallies = λ a. refl;
    sections = refl;
    known = sight.knows;
    others_known = λ d away theirs. theirs;
  }

  pub turns_write_blob : is_exclusive e.held ≡ true → is_some e.blob ≡ true → (t : TokId) (bytes : List ℕ) → Turns plan tok (token_after tok (WriteBlob cpu t bytes)) cpu.0 e (wrote_record e bytes) n cells (in_slot tok)
  turns_write_blob is has t bytes =
      let own = sight.knows.holder (exclusive_held e.held is) in
      let has_it : is_some tok.blob ≡ true = ap is_some (sym own.4) ∙ has in
      let on : list_any is_exclusive tok.holders ≡ true = list_any_at is_exclusive tok.holders cpu.0 Nothing inside (ap is_exclusive (sym sight.held) ∙ is) in
      record {
        law = refl;
        slot = ap (lies_in (Some bytes)) on ∙ sym (lies_out tok.blob (list_any is_exclusive tok.holders) has_it on);
        guard = sym has_it;
        same_first_blob = λ same. refl;
        rises = omega arith;
        same_first = λ same. refl;
        param = refl;
        long = refl;
        count_word = sight.count_word;
        row = sight.row;
        others = λ other away. refl;
        held = sight.held;
        tallies = λ a. refl;
        sections = refl;
        known = record { not_above = sight.knows.not_above; cells = sight.knows.cells; records = sight.knows.records; holder = λ held. (own.0, own.1, own.2, own.3, refl) };
        others_known = λ d away theirs. record { not_above = theirs.not_above; cells = theirs.cells; records = theirs.records; holder = λ held. absurd (not_theirs is d away held) };
      }
