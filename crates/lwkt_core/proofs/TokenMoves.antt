use Rattle.std.proofs.Common.{eqb, eq-eqb, ◌&&◌, inl, inr, ◌≡◌, ◌≢◌, ◌<◌, ◌≤◌, ◌+◌, ◌-◌, ℕ, Bool, true, false, cond, List, [], ◌∷◌, Option, Some, length, get_or, set, refl, ap, sym, ◌∙◌, subst, arith, sum, length-set, get_or-set_same, get_or-set_other}
use Rattle.std.specs.Prelude.{slice_index}
use Rattle.std.specs.Option.{is_some}
use Rattle.std.proofs.lemmas.Bool.{eqb-true, cases_Bool, cases_eq, false≢true}
use Rattle.std.proofs.lemmas.List.Sums.{sum_by-set}
use Rattle.lwkt_base.specs.declared.names.Mode.{Mode}
use Rattle.lwkt_base.specs.declared.names.Mode.TheVariants.{Exclusive, Shared}
use Rattle.lwkt_base.specs.declared.laws.Law.{Law}
use Rattle.lwkt_base.specs.declared.laws.Law.TheVariants.{Any, Sum, Order, Cap, Tally, Len}
use Rattle.lwkt_base.specs.declared.holdings.Held.{Held}
use Rattle.lwkt_base.specs.declared.holdings.Held.TheVariants.{Nothing, Holds}
use Rattle.lwkt_base.specs.declared.limits.TheConstants.{CPU_LIMIT, LAST_GENERATION}
use Rattle.lwkt_base.specs.Holding.{references_in, is_exclusive, is_held, one_more, one_less}
use Rattle.lwkt_base.specs.Law.{Obeys, IsTallied}
use Rattle.lwkt_core.specs.declared.tokens.Token.{Token}
use Rattle.lwkt_core.specs.declared.events.Event.{Event}
use Rattle.lwkt_core.specs.declared.events.Event.TheVariants.{Load, Take, Share, Again, Mark, GiveOne, GiveClean, GiveWritten, Read, Write, ReadBlob, WriteBlob, Send, TakeMsg, DropMsg, Reply, Reap, Abort}
use Rattle.lwkt_core.specs.Events.{cpu_of, adds_reference}
use Rattle.lwkt_core.specs.Tokens.{held_by, IsFree, IsOpen, IsExclusiveHolder, IsSafeToken, length_of, IsNotLastExclusive, MayWrite, TokenNeeds, token_after, tallies_after, with_more}

-- the token with another holding of one processor, generation, first row and first record
abbrev pub moved : Token → ℕ → Held → ℕ → List ℕ → Option (List ℕ) → Token
moved tok cpu held generation first blob = record tok { holders = set tok.holders cpu held; generation = generation; first = first; first_blob = blob }

-- what a change of one processor's holding needs to leave a safe token safe
pub record MayMove (tok : Token) (cpu : ℕ) (held : Held) (generation : ℕ) (first : List ℕ) (blob : Option (List ℕ)) : Type 0 where
  pub alone : is_exclusive held ≡ true → (other : ℕ) → other ≢ cpu → held_by tok other ≡ Nothing
  pub apart : (other : ℕ) → other ≢ cpu → IsExclusiveHolder tok other → held ≡ Nothing
  pub same_cells : length first ≡ length tok.row
  pub settled : is_exclusive held ≡ false → ((other : ℕ) → other ≢ cpu → is_exclusive (held_by tok other) ≡ false) → tok.row ≡ first
  pub settled_blob : is_exclusive held ≡ false → ((other : ℕ) → other ≢ cpu → is_exclusive (held_by tok other) ≡ false) → tok.blob ≡ blob
  pub same_guard : is_some blob ≡ is_some tok.blob
  pub lawful : Obeys tok.law tok.param first (length_of blob)
  pub in_range : generation ≤ LAST_GENERATION
  pub not_worn : is_exclusive held ≡ true → generation < LAST_GENERATION
  pub others_not_worn : (other : ℕ) → other ≢ cpu → IsExclusiveHolder tok other → generation < LAST_GENERATION

held_moved_same : (tok : Token) (cpu : ℕ) (held : Held) (generation : ℕ) (first : List ℕ) (blob : Option (List ℕ)) → cpu < length tok.holders → held_by (moved tok cpu held generation first blob) cpu ≡ held
held_moved_same tok cpu held generation first blob there = get_or-set_same tok.holders cpu held Nothing there

held_moved_other : (tok : Token) (cpu : ℕ) (held : Held) (generation : ℕ) (first : List ℕ) (blob : Option (List ℕ)) (other : ℕ) → other ≢ cpu → held_by (moved tok cpu held generation first blob) other ≡ held_by tok other
held_moved_other tok cpu held generation first blob other apart = get_or-set_other tok.holders cpu other held Nothing apart

-- a change of one processor's holding leaves a safe token safe
pub IsSafeToken-moved : (cpus : ℕ) (tok : Token) (cpu : ℕ) (held : Held) (generation : ℕ) (first : List ℕ) (blob : Option (List ℕ)) → cpus ≤ CPU_LIMIT → cpu < cpus → IsSafeToken cpus tok → MayMove tok cpu held generation first blob → IsSafeToken cpus (moved tok cpu held generation first blob)
IsSafeToken-moved cpus tok cpu held generation first blob few here safe may = record {
  eight_holders = length-set tok.holders cpu held ∙ safe.eight_holders;
  eight_tallies = safe.eight_tallies;
  absent = λ other far. let differ : other ≢ cpu = (λ e. absurd (omega arith)) in ((held_moved_other tok cpu held generation first blob other differ ∙ (safe.absent other far).0), (safe.absent other far).1);
  few_cells = safe.few_cells;
  same_cells = may.same_cells;
  compatible = compatible;
  settled = λ opened. may.settled (sym (ap is_exclusive (held_moved_same tok cpu held generation first blob there)) ∙ opened cpu) (λ other differ. sym (ap is_exclusive (held_moved_other tok cpu held generation first blob other differ)) ∙ opened other);
  settled_blob = λ opened. may.settled_blob (sym (ap is_exclusive (held_moved_same tok cpu held generation first blob there)) ∙ opened cpu) (λ other differ. sym (ap is_exclusive (held_moved_other tok cpu held generation first blob other differ)) ∙ opened other);
  short = safe.short;
  same_guard = may.same_guard;
  lawful = may.lawful;
  tallied = safe.tallied;
  in_range = may.in_range;
  not_worn = λ one exclusive. elim (cases_eq one cpu) [
    | inl same ↦ may.not_worn (sym (ap is_exclusive (held_moved_same tok cpu held generation first blob there)) ∙ subst (λ p. IsExclusiveHolder (moved tok cpu held generation first blob) p) same exclusive)
    | inr differ ↦ may.others_not_worn one differ (sym (ap is_exclusive (held_moved_other tok cpu held generation first blob one differ)) ∙ exclusive)
  ];
}
  where
    there : cpu < length tok.holders
    there = let e = safe.eight_holders in omega arith

    new : Token
    new = moved tok cpu held generation first blob

    compatible : (one other : ℕ) → IsExclusiveHolder (moved tok cpu held generation first blob) one → one ≢ other → held_by (moved tok cpu held generation first blob) other ≡ Nothing
    compatible one other exclusive differ =
        elim (cases_eq one cpu) [
          | inl same ↦
              let h : is_exclusive held ≡ true = sym (ap is_exclusive (held_moved_same tok cpu held generation first blob there)) ∙ subst (λ p. IsExclusiveHolder (moved tok cpu held generation first blob) p) same exclusive in
              let away : other ≢ cpu = (λ e. differ (same ∙ sym e)) in
              held_moved_other tok cpu held generation first blob other away ∙ may.alone h other away
          | inr apart ↦
              let before : IsExclusiveHolder tok one = sym (ap is_exclusive (held_moved_other tok cpu held generation first blob one apart)) ∙ exclusive in
              elim (cases_eq other cpu) [
                | inl same ↦ ap (λ p. held_by (moved tok cpu held generation first blob) p) same ∙ held_moved_same tok cpu held generation first blob there ∙ may.apart one apart before
                | inr away ↦ held_moved_other tok cpu held generation first blob other away ∙ safe.compatible one other before differ
              ]
        ]

-- no processor but this one holds a token that this one holds exclusively
others_nothing : (cpus : ℕ) (tok : Token) (cpu : ℕ) → IsSafeToken cpus tok → IsExclusiveHolder tok cpu → (other : ℕ) → other ≢ cpu → held_by tok other ≡ Nothing
others_nothing cpus tok cpu safe exclusive other differ = safe.compatible cpu other exclusive (λ e. differ (sym e))

-- who holds nothing doesn't hold exclusively
not_exclusive : (held : Held) → held ≡ Nothing → is_exclusive held ≡ true → ⊥
not_exclusive held nothing exclusive = false≢true (sym (ap is_exclusive nothing) ∙ exclusive)

-- a shared holding is not exclusive, after one reference less too
less_keeps_shared : (held : Held) → is_exclusive held ≡ false → is_exclusive (one_less held) ≡ false
less_keeps_shared Nothing shared = refl
less_keeps_shared (Holds Exclusive further) shared = absurd (false≢true (sym shared))
less_keeps_shared (Holds Shared further) shared = less further (eqb further 0) refl
  where
    less : (n : ℕ) (b : Bool) → eqb n 0 ≡ b → is_exclusive (cond b Nothing (Holds Shared (n - 1))) ≡ false
    less n true e = refl
    less n false e = refl

-- a reference more keeps whether the holding is exclusive
more_keeps : (held : Held) (mode : Mode) → is_held held ≡ true → is_exclusive (one_more held mode) ≡ is_exclusive held
more_keeps Nothing mode held = absurd (false≢true held)
more_keeps (Holds Exclusive further) mode held = refl
more_keeps (Holds Shared further) mode held = refl

-- what is held is not nothing
held_not_nothing : (held : Held) → is_held held ≡ true → held ≡ Nothing → ⊥
held_not_nothing held is nothing = false≢true (sym (ap is_held nothing) ∙ is)

-- of an exclusive holding that isn't at its last reference one less is exclusive still
less_keeps_exclusive : (held : Held) → IsNotLastExclusive held → is_exclusive held ≡ true → is_exclusive (one_less held) ≡ true
less_keeps_exclusive Nothing may e = absurd may
less_keeps_exclusive (Holds Shared further) may e = absurd (false≢true e)
less_keeps_exclusive (Holds Exclusive further) may e = less further (eqb further 0) refl may
  where
    less : (n : ℕ) (b : Bool) → eqb n 0 ≡ b → 0 < n → is_exclusive (cond b Nothing (Holds Exclusive (n - 1))) ≡ true
    less n true e h = absurd (let z = eqb-true n 0 e in omega arith)
    less n false e h = refl

-- who can give one back holds the token
held_if_not_last : (held : Held) → IsNotLastExclusive held → is_held held ≡ true
held_if_not_last Nothing may = absurd may
held_if_not_last (Holds mode further) may = refl

-- what stays as it is while a holding changes
kept : (cpus : ℕ) (tok : Token) (cpu : ℕ) (held : Held) → IsSafeToken cpus tok → (is_exclusive held ≡ true → is_exclusive (held_by tok cpu) ≡ true) → (is_exclusive held ≡ false → is_exclusive (held_by tok cpu) ≡ false) → is_held (held_by tok cpu) ≡ true → MayMove tok cpu held tok.generation tok.first tok.first_blob
kept cpus tok cpu held safe was wasnt holds = record {
  alone = λ e other differ. others_nothing cpus tok cpu safe (was e) other differ;
  apart = λ other differ e. absurd (held_not_nothing (held_by tok cpu) holds (safe.compatible other cpu e differ));
  same_cells = safe.same_cells;
  settled = λ shared others. safe.settled (λ one. elim (cases_eq one cpu) [
    | inl same ↦ ap (λ p. is_exclusive (held_by tok p)) same ∙ wasnt shared
    | inr differ ↦ others one differ
  ]);
  settled_blob = λ shared others. safe.settled_blob (λ one. elim (cases_eq one cpu) [
    | inl same ↦ ap (λ p. is_exclusive (held_by tok p)) same ∙ wasnt shared
    | inr differ ↦ others one differ
  ]);
  same_guard = safe.same_guard;
  lawful = safe.lawful;
  in_range = safe.in_range;
  not_worn = λ e. safe.not_worn cpu (was e);
  others_not_worn = λ other differ e. safe.not_worn other e;
}

-- a first reference may be taken of a token that nobody holds in a way that excludes it
taken : (cpus : ℕ) (tok : Token) (cpu : ℕ) → IsSafeToken cpus tok → IsFree tok → tok.generation < LAST_GENERATION → MayMove tok cpu (Holds Exclusive 0) tok.generation tok.first tok.first_blob
taken cpus tok cpu safe free unworn = record {
  alone = λ e other differ. free other;
  apart = λ other differ e. absurd (not_exclusive (held_by tok other) (free other) e);
  same_cells = safe.same_cells;
  settled = λ shared. absurd (false≢true (sym shared));
  settled_blob = λ shared. absurd (false≢true (sym shared));
  same_guard = safe.same_guard;
  lawful = safe.lawful;
  in_range = safe.in_range;
  not_worn = λ e. unworn;
  others_not_worn = λ other differ e. unworn;
}

shared : (cpus : ℕ) (tok : Token) (cpu : ℕ) → IsSafeToken cpus tok → IsOpen tok → MayMove tok cpu (Holds Shared 0) tok.generation tok.first tok.first_blob
shared cpus tok cpu safe opened = record {
  alone = λ e. absurd (false≢true e);
  apart = λ other differ e. absurd (false≢true (sym (opened other) ∙ e));
  same_cells = safe.same_cells;
  settled = λ quiet others. safe.settled opened;
  settled_blob = λ quiet others. safe.settled_blob opened;
  same_guard = safe.same_guard;
  lawful = safe.lawful;
  in_range = safe.in_range;
  not_worn = λ e. absurd (false≢true e);
  others_not_worn = λ other differ e. safe.not_worn other e;
}

-- the last reference may be given back with this generation, first row and first record
ended : (cpus : ℕ) (tok : Token) (cpu : ℕ) (generation : ℕ) (first : List ℕ) (blob : Option (List ℕ)) → IsSafeToken cpus tok → IsExclusiveHolder tok cpu → tok.row ≡ first → tok.blob ≡ blob → Obeys tok.law tok.param first (length_of blob) → generation ≤ LAST_GENERATION → MayMove tok cpu Nothing generation first blob
ended cpus tok cpu generation first blob safe exclusive same same_blob lawful in_range = record {
  alone = λ e. absurd (false≢true e);
  apart = λ other differ e. refl;
  same_cells = ap length (sym same);
  settled = λ quiet others. same;
  settled_blob = λ quiet others. same_blob;
  same_guard = ap is_some (sym same_blob);
  lawful = lawful;
  in_range = in_range;
  not_worn = λ e. absurd (false≢true e);
  others_not_worn = λ other differ e. absurd (not_exclusive (held_by tok other) (others_nothing cpus tok cpu safe exclusive other differ) e);
}

-- the mark is free
IsSafeToken-marked : (cpus : ℕ) (tok : Token) (mark : Bool) → IsSafeToken cpus tok → IsSafeToken cpus (record tok { mark = mark })
IsSafeToken-marked cpus tok mark safe = record {
  eight_holders = safe.eight_holders;
  eight_tallies = safe.eight_tallies;
  absent = safe.absent;
  few_cells = safe.few_cells;
  same_cells = safe.same_cells;
  compatible = safe.compatible;
  settled = safe.settled;
  settled_blob = safe.settled_blob;
  short = safe.short;
  same_guard = safe.same_guard;
  lawful = safe.lawful;
  tallied = safe.tallied;
  in_range = safe.in_range;
  not_worn = safe.not_worn;
}

-- a cell that is raised by its law's leave keeps its sum
tallied_write : (law : Law) (param : ℕ) (row tallies : List ℕ) (cell cpu value : ℕ) → cell < length row → cpu < length tallies → MayWrite law (slice_index row cell) value → IsTallied law param row tallies → IsTallied law param (set row cell value) (tallies_after law tallies cpu (value - slice_index row cell))
tallied_write Any param row tallies cell cpu value inside here may tallied = tt
tallied_write Sum param row tallies cell cpu value inside here may tallied = tt
tallied_write Order param row tallies cell cpu value inside here may tallied = tt
tallied_write Cap param row tallies cell cpu value inside here may tallied = tt
tallied_write Len param row tallies cell cpu value inside here may tallied = tt
tallied_write Tally param row tallies cell cpu value inside here may tallied =
    let one : length row ≡ 1 = ap length tallied in
    let zero_cell : cell ≡ 0 = omega arith in
    let old : slice_index row cell ≡ param + sum tallies = ap (λ c. get_or row c 0) zero_cell ∙ ap (λ r. get_or r 0 0) tallied in
    let grown : sum (set tallies cpu (get_or tallies cpu 0 + (value - slice_index row cell))) + get_or tallies cpu 0 ≡ sum tallies + (get_or tallies cpu 0 + (value - slice_index row cell)) = sum_by-set (λ x. x) tallies cpu (get_or tallies cpu 0 + (value - slice_index row cell)) 0 here in
    let new : value ≡ param + sum (set tallies cpu (get_or tallies cpu 0 + (value - slice_index row cell))) = omega arith in
    ap (λ c. set row c value) zero_cell ∙ ap (λ r. set r 0 value) tallied ∙ ap (λ v. v ∷ []) new

-- the processors that aren't there have added nothing after a write either
absent_tally : (law : Law) (tallies : List ℕ) (cpu raised other : ℕ) → other ≢ cpu → get_or (tallies_after law tallies cpu raised) other 0 ≡ get_or tallies other 0
absent_tally Any tallies cpu raised other differ = refl
absent_tally Sum tallies cpu raised other differ = refl
absent_tally Order tallies cpu raised other differ = refl
absent_tally Cap tallies cpu raised other differ = refl
absent_tally Len tallies cpu raised other differ = refl
absent_tally Tally tallies cpu raised other differ = get_or-set_other tallies cpu other (get_or tallies cpu 0 + raised) 0 differ

length_tallies_after : (law : Law) (tallies : List ℕ) (cpu raised : ℕ) → length (tallies_after law tallies cpu raised) ≡ length tallies
length_tallies_after Any tallies cpu raised = refl
length_tallies_after Sum tallies cpu raised = refl
length_tallies_after Order tallies cpu raised = refl
length_tallies_after Cap tallies cpu raised = refl
length_tallies_after Len tallies cpu raised = refl
length_tallies_after Tally tallies cpu raised = length-set tallies cpu (get_or tallies cpu 0 + raised)

-- a store by the exclusive holder leaves the token safe
IsSafeToken-written : (cpus : ℕ) (tok : Token) (cpu cell value : ℕ) → cpus ≤ CPU_LIMIT → cpu < cpus → IsSafeToken cpus tok → IsExclusiveHolder tok cpu → cell < length tok.row → MayWrite tok.law (slice_index tok.row cell) value → IsSafeToken cpus (record tok { row = set tok.row cell value; tallies = tallies_after tok.law tok.tallies cpu (value - slice_index tok.row cell) })
IsSafeToken-written cpus tok cpu cell value few here safe exclusive inside may =
    let raised = value - slice_index tok.row cell in
    let there : cpu < length tok.tallies = (let e = safe.eight_tallies in omega arith) in
    let cells : length (set tok.row cell value) ≡ length tok.row = length-set tok.row cell value in
    record {
      eight_holders = safe.eight_holders;
      eight_tallies = length_tallies_after tok.law tok.tallies cpu raised ∙ safe.eight_tallies;
      absent = λ other far. ((safe.absent other far).0, absent_tally tok.law tok.tallies cpu raised other (λ e. absurd (omega arith)) ∙ (safe.absent other far).1);
      few_cells = let e = safe.few_cells in omega arith;
      same_cells = safe.same_cells ∙ sym cells;
      compatible = safe.compatible;
      settled = λ opened. absurd (false≢true (sym (opened cpu) ∙ exclusive));
      settled_blob = λ opened. absurd (false≢true (sym (opened cpu) ∙ exclusive));
      short = safe.short;
      same_guard = safe.same_guard;
      lawful = safe.lawful;
      tallied = tallied_write tok.law tok.param tok.row tok.tallies cell cpu value inside there may safe.tallied;
      in_range = safe.in_range;
      not_worn = safe.not_worn;
    }

-- a record that the exclusive holder stores leaves the token safe
IsSafeToken-stored : (cpus : ℕ) (tok : Token) (cpu : ℕ) (blob : List ℕ) → IsSafeToken cpus tok → IsExclusiveHolder tok cpu → is_some tok.blob ≡ true → length blob ≤ 64 → IsSafeToken cpus (record tok { blob = Some blob })
IsSafeToken-stored cpus tok cpu blob safe exclusive guards few = record {
  eight_holders = safe.eight_holders;
  eight_tallies = safe.eight_tallies;
  absent = safe.absent;
  few_cells = safe.few_cells;
  same_cells = safe.same_cells;
  compatible = safe.compatible;
  settled = λ opened. absurd (false≢true (sym (opened cpu) ∙ exclusive));
  settled_blob = λ opened. absurd (false≢true (sym (opened cpu) ∙ exclusive));
  short = few;
  same_guard = safe.same_guard ∙ guards;
  lawful = safe.lawful;
  tallied = safe.tallied;
  in_range = safe.in_range;
  not_worn = safe.not_worn;
}

-- each event that can happen to a safe token leaves it safe
pub IsSafeToken-after : (cpus : ℕ) (tok : Token) (e : Event) → cpus ≤ CPU_LIMIT → cpu_of e < cpus → IsSafeToken cpus tok → TokenNeeds tok e → IsSafeToken cpus (token_after tok e)
IsSafeToken-after cpus tok (Load cpu t) few here safe needs = safe
IsSafeToken-after cpus tok (Read cpu t cell value) few here safe needs = safe
IsSafeToken-after cpus tok (ReadBlob cpu t blob) few here safe needs = safe
IsSafeToken-after cpus tok (WriteBlob cpu t blob) few here safe needs = IsSafeToken-stored cpus tok cpu.0 blob safe needs.0 needs.1 needs.2
IsSafeToken-after cpus tok (Mark cpu t) few here safe needs = IsSafeToken-marked cpus tok true safe
IsSafeToken-after cpus tok (Take cpu t) few here safe needs =
    IsSafeToken-marked cpus (with_more tok cpu.0 Exclusive) false
    (let S : Held → Type 0 = λ held. IsSafeToken cpus (record tok { holders = set tok.holders cpu.0 held }) in
    subst S (sym (ap (λ held. one_more held Exclusive) (needs.0 cpu.0)))
    (IsSafeToken-moved cpus tok cpu.0 (Holds Exclusive 0) tok.generation tok.first tok.first_blob few here safe (taken cpus tok cpu.0 safe needs.0 needs.1)))
IsSafeToken-after cpus tok (Share cpu t) few here safe needs =
    let S : Held → Type 0 = λ held. IsSafeToken cpus (record tok { holders = set tok.holders cpu.0 held }) in
    subst S (sym (ap (λ held. one_more held Shared) needs.1))
    (IsSafeToken-moved cpus tok cpu.0 (Holds Shared 0) tok.generation tok.first tok.first_blob few here safe (shared cpus tok cpu.0 safe needs.0))
IsSafeToken-after cpus tok (Again cpu t) few here safe needs =
    let same = more_keeps (held_by tok cpu.0) Shared needs in
    IsSafeToken-moved cpus tok cpu.0 (one_more (held_by tok cpu.0) Shared) tok.generation tok.first tok.first_blob few here safe
    (kept cpus tok cpu.0 (one_more (held_by tok cpu.0) Shared) safe (λ e. sym same ∙ e) (λ e. sym same ∙ e) needs)
IsSafeToken-after cpus tok (GiveOne cpu t) few here safe needs =
    let old = held_by tok cpu.0 in
    IsSafeToken-moved cpus tok cpu.0 (one_less old) tok.generation tok.first tok.first_blob few here safe
    (kept cpus tok cpu.0 (one_less old) safe
    (λ e. elim (cases_Bool (is_exclusive old)) [ inl yes' ↦ yes' | inr shared' ↦ absurd (false≢true (sym (less_keeps_shared old shared') ∙ e)) ])
    (λ e. elim (cases_Bool (is_exclusive old)) [ inl exclusive ↦ absurd (false≢true (sym e ∙ less_keeps_exclusive old needs exclusive)) | inr shared' ↦ shared' ])
    (held_if_not_last old needs))
IsSafeToken-after cpus tok (GiveClean cpu t) few here safe needs =
    let S : Held → Type 0 = λ held. IsSafeToken cpus (record tok { holders = set tok.holders cpu.0 held }) in
    subst S (sym (ap one_less needs.0))
    (IsSafeToken-moved cpus tok cpu.0 Nothing tok.generation tok.first tok.first_blob few here safe
    (ended cpus tok cpu.0 tok.generation tok.first tok.first_blob safe (ap is_exclusive needs.0) needs.1.0 needs.1.1 safe.lawful safe.in_range))
IsSafeToken-after cpus tok (GiveWritten cpu t section) few here safe needs =
    let S : Held → Type 0 = λ held. IsSafeToken cpus (record tok { holders = set tok.holders cpu.0 held; generation = tok.generation + 1; first = tok.row; first_blob = tok.blob }) in
    let unworn = safe.not_worn cpu.0 (ap is_exclusive needs.0) in
    subst S (sym (ap one_less needs.0))
    (IsSafeToken-moved cpus tok cpu.0 Nothing (tok.generation + 1) tok.row tok.blob few here safe
    (ended cpus tok cpu.0 (tok.generation + 1) tok.row tok.blob safe (ap is_exclusive needs.0) refl refl needs.2 (omega arith)))
IsSafeToken-after cpus tok (Write cpu t cell value) few here safe needs = IsSafeToken-written cpus tok cpu.0 cell value few here safe needs.0 needs.1 needs.2
IsSafeToken-after cpus tok (Send cpu msg to round) few here safe needs = absurd needs
IsSafeToken-after cpus tok (TakeMsg cpu msg round) few here safe needs = absurd needs
IsSafeToken-after cpus tok (DropMsg cpu msg) few here safe needs = absurd needs
IsSafeToken-after cpus tok (Reply cpu msg) few here safe needs = absurd needs
IsSafeToken-after cpus tok (Reap cpu msg) few here safe needs = absurd needs
IsSafeToken-after cpus tok (Abort cpu msg) few here safe needs = absurd needs

-- one reference more, one less, or as many as before
references_more : (held : Held) (mode : Mode) → references_in (one_more held mode) ≡ references_in held + 1
references_more Nothing mode = refl
references_more (Holds first further) mode = refl

references_less : (held : Held) → references_in (one_less held) ≤ references_in held
references_less Nothing = omega arith
references_less (Holds mode further) = less further (eqb further 0)
  where
    less : (n : ℕ) (b : Bool) → references_in (cond b Nothing (Holds mode (n - 1))) ≤ n + 1
    less n true = omega arith
    less n false = omega arith

-- how many references of a processor an event adds at the most
abbrev pub added_by : Event → ℕ → ℕ
added_by e cpu = cond (adds_reference e && eqb (cpu_of e) cpu) 1 0

-- a holding that grew by at most one, seen by any processor
references_set : (tok : Token) (cpu : ℕ) (held : Held) (one : ℕ) → cpu < length tok.holders → references_in held ≤ references_in (held_by tok cpu) + 1 → references_in (get_or (set tok.holders cpu held) one Nothing) ≤ references_in (held_by tok one) + cond (eqb cpu one) 1 0
references_set tok cpu held one there most =
    elim (cases_eq one cpu) [
      | inl same ↦ subst (λ p. references_in (get_or (set tok.holders cpu held) p Nothing) ≤ references_in (held_by tok p) + cond (eqb cpu p) 1 0) (sym same)
          (at_cpu (get_or (set tok.holders cpu held) cpu Nothing) (eqb cpu cpu) (get_or-set_same tok.holders cpu held Nothing there) (eq-eqb cpu cpu refl))
      | inr differ ↦ (rw (get_or-set_other tok.holders cpu one held Nothing differ) (omega arith))
    ]
  where
    at_cpu : (new : Held) (here : Bool) → new ≡ held → here ≡ true → references_in new ≤ references_in (held_by tok cpu) + cond here 1 0
    at_cpu new here is yes' = rw (is, yes') most

references_set_less : (tok : Token) (cpu : ℕ) (held : Held) (one : ℕ) → cpu < length tok.holders → references_in held ≤ references_in (held_by tok cpu) → references_in (get_or (set tok.holders cpu held) one Nothing) ≤ references_in (held_by tok one)
references_set_less tok cpu held one there most =
    elim (cases_eq one cpu) [
      | inl same ↦ subst (λ p. references_in (get_or (set tok.holders cpu held) p Nothing) ≤ references_in (held_by tok p)) (sym same) (rw (get_or-set_same tok.holders cpu held Nothing there) most)
      | inr differ ↦ (rw (get_or-set_other tok.holders cpu one held Nothing differ) (omega arith))
    ]

-- an event adds at most one reference, and only of its own processor
pub references-after : (tok : Token) (e : Event) (one : ℕ) → cpu_of e < length tok.holders → references_in (held_by (token_after tok e) one) ≤ references_in (held_by tok one) + added_by e one
references-after tok (Load cpu t) one here = omega arith
references-after tok (Read cpu t cell value) one here = omega arith
references-after tok (Write cpu t cell value) one here = omega arith
references-after tok (ReadBlob cpu t blob) one here = omega arith
references-after tok (WriteBlob cpu t blob) one here = omega arith
references-after tok (Mark cpu t) one here = omega arith
references-after tok (Take cpu t) one here = references_set tok cpu.0 (one_more (held_by tok cpu.0) Exclusive) one here (let e = references_more (held_by tok cpu.0) Exclusive in omega arith)
references-after tok (Share cpu t) one here = references_set tok cpu.0 (one_more (held_by tok cpu.0) Shared) one here (let e = references_more (held_by tok cpu.0) Shared in omega arith)
references-after tok (Again cpu t) one here = references_set tok cpu.0 (one_more (held_by tok cpu.0) Shared) one here (let e = references_more (held_by tok cpu.0) Shared in omega arith)
references-after tok (GiveOne cpu t) one here = let h = references_set_less tok cpu.0 (one_less (held_by tok cpu.0)) one here (references_less (held_by tok cpu.0)) in omega arith
references-after tok (GiveClean cpu t) one here = let h = references_set_less tok cpu.0 (one_less (held_by tok cpu.0)) one here (references_less (held_by tok cpu.0)) in omega arith
references-after tok (GiveWritten cpu t section) one here = let h = references_set_less tok cpu.0 (one_less (held_by tok cpu.0)) one here (references_less (held_by tok cpu.0)) in omega arith
references-after tok (Send cpu msg to round) one here = omega arith
references-after tok (TakeMsg cpu msg round) one here = omega arith
references-after tok (DropMsg cpu msg) one here = omega arith
references-after tok (Reply cpu msg) one here = omega arith
references-after tok (Reap cpu msg) one here = omega arith
references-after tok (Abort cpu msg) one here = omega arith
