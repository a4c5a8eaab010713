-- The two queues of a port: what leaves them, and what comes.
use Rattle.std.proofs.Common.{◌≡◌, ℕ, Bool, true, false, List, [], ◌∷◌, ◌++◌, length, refl, ap, sym, ◌∙◌, subst, append_assoc, inl, inr, ⊎_elim, arith}
use Rattle.std.proofs.lemmas.List.{append-nil, append_cancel_right}
use Rattle.std.proofs.lemmas.List.Elements.{All-head, All-tail, All-nil, All-cons, All-append}
use Rattle.std.specs.Prelude.{◌⊎◌, All, if◌then◌else◌, Option, Some, None, MatchOption, slice_get, drop}
use Rattle.lwkt_lane.specs.declared.notes.Note.{Note}
use Rattle.lwkt_port.specs.declared.queues.Port.{Port}
use Rattle.lwkt_port.specs.Laws.{LeavingChains, NotesComeLast}
use Rattle.lwkt_port.specs.Queues.{urgent_of, ordinary_of, queue_of, IsPut, IsQueuedAs, IsQueued, LeavesInOrder, HasLeft, NamesMessage, Belongs, HasNamed}

-- what holds of all elements holds of the last ones
all_after : (P : Note → Type 0) (xs ys : List Note) → All P (xs ++ ys) → All P ys
all_after P [] ys all = all
all_after P (x ∷ xs) ys all = all_after P xs ys (All-tail P x (xs ++ ys) all)

none_after : (xs ys : List Note) → xs ++ ys ≡ [] → ys ≡ []
none_after [] ys is = is
none_after (x ∷ xs) ys is = absurd (let e : ◌≡◌ {A = List Note} (x ∷ (xs ++ ys)) [] = is in cc)

none_before : (xs ys : List Note) → xs ++ ys ≡ [] → xs ≡ []
none_before [] ys is = refl
none_before (x ∷ xs) ys is = absurd (let e : ◌≡◌ {A = List Note} (x ∷ (xs ++ ys)) [] = is in cc)

all_named : (n : ℕ) (class : Bool) (notes : List Note) → All (Belongs n class) notes → All (NamesMessage n) notes
all_named n class [] all = All-nil (NamesMessage n)
all_named n class (note ∷ notes) all = All-cons (NamesMessage n) note notes (All-head (Belongs n class) note notes all).0 (all_named n class notes (All-tail (Belongs n class) note notes all))

-- each note of a port names a message
pub named_each : (n : ℕ) (port : Port) → HasNamed n port → All (NamesMessage n) (queue_of port)
unfolding HasNamed
named_each n port named = All-append (NamesMessage n) (urgent_of port) (ordinary_of port) (all_named n true (urgent_of port) named.0) (all_named n false (ordinary_of port) named.1)

-- what is left of a port's notes is in order as it was
pub named_left : (n : ℕ) (port port' : Port) → LeavesInOrder port port' → HasNamed n port → HasNamed n port'
unfolding HasNamed
named_left n port port' left named =
    let U : List Note → Type 0 = All (Belongs n true) in
    let O : List Note → Type 0 = All (Belongs n false) in (
      all_after (Belongs n true) left.urgent (urgent_of port') (subst U left.urgent_is named.0),
      all_after (Belongs n false) left.ordinary (ordinary_of port') (subst O left.ordinary_is named.1),
    )

-- a port without notes
pub named_empty : (n : ℕ) (port : Port) → queue_of port ≡ [] → HasNamed n port
unfolding HasNamed
named_empty n port none =
    let U : List Note → Type 0 = All (Belongs n true) in
    let O : List Note → Type 0 = All (Belongs n false) in (
      subst U (sym (none_before (urgent_of port) (ordinary_of port) none)) (All-nil (Belongs n true)),
      subst O (sym (none_after (urgent_of port) (ordinary_of port) none)) (All-nil (Belongs n false)),
    )

-- a note that was put into a queue belongs to its class
named_put : (n : ℕ) (class : Bool) (note : Note) (notes notes' : List Note) (done : Bool) → note.urgent ≡ class → IsPut note notes notes' done → NamesMessage n note → All (Belongs n class) notes → All (Belongs n class) notes'
named_put n class note notes notes' true is put names all =
    let F : List Note → Type 0 = All (Belongs n class) in
    subst F (sym put.0) (All-append (Belongs n class) notes (note ∷ []) all (All-cons (Belongs n class) note [] (names, is) (All-nil (Belongs n class))))
named_put n class note notes notes' false is put names all = let F : List Note → Type 0 = All (Belongs n class) in subst F (sym put.0) all

urgent_put : (n : ℕ) (note : Note) (port port' : Port) (done : Bool) → note.urgent ≡ true → IsPut note (urgent_of port) (urgent_of port') done → ordinary_of port' ≡ ordinary_of port → NamesMessage n note → HasNamed n port → HasNamed n port'
unfolding HasNamed
urgent_put n note port port' done is put same names named =
    let O : List Note → Type 0 = All (Belongs n false) in
    (named_put n true note (urgent_of port) (urgent_of port') done is put names named.0, subst O (sym same) named.1)

ordinary_put : (n : ℕ) (note : Note) (port port' : Port) (done : Bool) → note.urgent ≡ false → IsPut note (ordinary_of port) (ordinary_of port') done → urgent_of port' ≡ urgent_of port → NamesMessage n note → HasNamed n port → HasNamed n port'
unfolding HasNamed
ordinary_put n note port port' done is put same names named =
    let U : List Note → Type 0 = All (Belongs n true) in
    (subst U (sym same) named.0, named_put n false note (ordinary_of port) (ordinary_of port') done is put names named.1)

queued_as : (class : Bool) (n : ℕ) (note : Note) (port port' : Port) (done : Bool) → note.urgent ≡ class → IsQueuedAs class note port port' done → NamesMessage n note → HasNamed n port → HasNamed n port'
queued_as true n note port port' true is queued names named = urgent_put n note port port' true is (queued.0, queued.1) queued.2 names named
queued_as false n note port port' true is queued names named = ordinary_put n note port port' true is (queued.0, queued.1) queued.2 names named
queued_as true n note port port' false is queued names named = let F : Port → Type 0 = HasNamed n in subst F (sym queued.0) named
queued_as false n note port port' false is queued names named = let F : Port → Type 0 = HasNamed n in subst F (sym queued.0) named

-- a port whose notes name messages, and that such a note was put into
pub queued_named : (n : ℕ) (note : Note) (port port' : Port) (done : Bool) → IsQueued note port port' done → NamesMessage n note → HasNamed n port → HasNamed n port'
queued_named n note port port' done queued names named = queued_as note.urgent n note port port' done refl queued names named

-- nothing left
pub leaves_none : (port : Port) → LeavesInOrder port port
leaves_none port = record { urgent = []; ordinary = []; urgent_is = refl; ordinary_is = refl; urgent_first = inl refl }

-- the first note of a port leaves it: an urgent one, or another where no urgent one is there
pub urgent_left : (port port' : Port) (note first : Note) (rest others : List Note) → queue_of port ≡ note ∷ rest → urgent_of port ≡ first ∷ others → urgent_of port' ≡ others → ordinary_of port' ≡ ordinary_of port → port'.closed ≡ port.closed → HasLeft rest port port'
urgent_left port port' note first rest others is front left same closed =
    let e : ◌≡◌ {A = List Note} (first ∷ (others ++ ordinary_of port)) (note ∷ rest) = ap (λ (q : List Note). q ++ ordinary_of port) (sym front) ∙ is in
    let tail : others ++ ordinary_of port ≡ rest = cc in
    let leaves : LeavesInOrder port port' = record {
      urgent = first ∷ [];
      ordinary = [];
      urgent_is = front ∙ ap (λ (q : List Note). first ∷ q) (sym left);
      ordinary_is = sym same;
      urgent_first = inl refl;
    } in
    ((λ i. left i ++ same i) ∙ tail, closed, leaves)

pub ordinary_left : (port port' : Port) (note first : Note) (rest others : List Note) → queue_of port ≡ note ∷ rest → urgent_of port ≡ [] → ordinary_of port ≡ first ∷ others → ordinary_of port' ≡ others → urgent_of port' ≡ urgent_of port → port'.closed ≡ port.closed → HasLeft rest port port'
ordinary_left port port' note first rest others is none front left same closed =
    let e : ◌≡◌ {A = List Note} (first ∷ others) (note ∷ rest) = sym front ∙ (ap (λ (q : List Note). q ++ ordinary_of port) (sym none) ∙ is) in
    let tail : others ≡ rest = cc in
    let leaves : LeavesInOrder port port' = record {
      urgent = [];
      ordinary = first ∷ [];
      urgent_is = sym same;
      ordinary_is = front ∙ ap (λ (q : List Note). first ∷ q) (sym left);
      urgent_first = inr (same ∙ none);
    } in
    ((λ i. (same ∙ none) i ++ left i) ∙ tail, closed, leaves)

some_of : (notes : List Note) → (length notes ≡ 0 → ⊥) → (first : Note) × (others : List Note) × (notes ≡ first ∷ others)
some_of [] is = absurd (is refl)
some_of (first ∷ others) is = (first, others, refl)

none_of : (notes : List Note) → length notes ≡ 0 → notes ≡ []
none_of [] is = refl
none_of (first ∷ others) is = absurd (let none : length (first ∷ others) ≡ 0 = is in omega arith)

pub urgent_off : (port port' : Port) → (length (urgent_of port) ≡ 0 → ⊥) → urgent_of port' ≡ drop 1 (urgent_of port) → ordinary_of port' ≡ ordinary_of port → port'.closed ≡ port.closed → (note : Note) (rest : List Note) → queue_of port ≡ note ∷ rest → HasLeft rest port port'
urgent_off port port' has off same closed note rest is =
    let s = some_of (urgent_of port) has in
    urgent_left port port' note s.0 rest s.1 is s.2 (off ∙ ap (λ (q : List Note). drop 1 q) s.2) same closed

pub ordinary_off : (port port' : Port) → length (urgent_of port) ≡ 0 → ordinary_of port' ≡ drop 1 (ordinary_of port) → urgent_of port' ≡ urgent_of port → port'.closed ≡ port.closed → (note : Note) (rest : List Note) → queue_of port ≡ note ∷ rest → HasLeft rest port port'
ordinary_off port port' has off same closed note rest is =
    let none = none_of (urgent_of port) has in
    let front : ordinary_of port ≡ note ∷ rest = ap (λ (q : List Note). q ++ ordinary_of port) (sym none) ∙ is in
    ordinary_left port port' note note rest rest is none front (off ∙ ap (λ (q : List Note). drop 1 q) front) same closed

-- the first of a port's notes is the first urgent one, if there is one
pub first_is : (urgent ordinary : List Note) (note : Note) → Some note ≡ slice_get urgent 0 → (rest : List Note) × (urgent ++ ordinary ≡ note ∷ rest)
first_is [] ordinary note is = absurd (let no : ◌≡◌ {A = Option Note} (Some note) None = is in cc)
first_is (first ∷ urgent) ordinary note is =
    let e : ◌≡◌ {A = Option Note} (Some note) (Some first) = is in
    let same : first ≡ note = cc in
    (urgent ++ ordinary, ap (λ (n : Note). n ∷ (urgent ++ ordinary)) same)

first_of : (notes : List Note) → MatchOption (slice_get notes 0) (notes ≡ []) (λ note. (rest : List Note) × (notes ≡ note ∷ rest))
first_of [] = refl
first_of (first ∷ others) = (others, refl)

-- where no note is urgent, it is the first of the others
pub other_is : (urgent ordinary : List Note) (found : Option Note) → None ≡ slice_get urgent 0 → found ≡ slice_get ordinary 0 → MatchOption found (urgent ++ ordinary ≡ []) (λ note. (rest : List Note) × (urgent ++ ordinary ≡ note ∷ rest))
other_is [] ordinary found none is =
    let F : Option Note → Type 0 = λ o. MatchOption o (ordinary ≡ []) (λ note. (rest : List Note) × (ordinary ≡ note ∷ rest)) in
    subst F (sym is) (first_of ordinary)
other_is (first ∷ urgent) ordinary found none is = absurd (let no : ◌≡◌ {A = Option Note} None (Some first) = none in cc)

-- notes left, and then more
pub leaving_chains : LeavingChains
leaving_chains a b c x y = record {
  urgent = x.urgent ++ y.urgent;
  ordinary = x.ordinary ++ y.ordinary;
  urgent_is = x.urgent_is ∙ ap (λ q. x.urgent ++ q) y.urgent_is ∙ sym (append_assoc x.urgent y.urgent (urgent_of c));
  ordinary_is = x.ordinary_is ∙ ap (λ q. x.ordinary ++ q) y.ordinary_is ∙ sym (append_assoc x.ordinary y.ordinary (ordinary_of c));
  urgent_first = ⊎_elim
      (λ (none : y.ordinary ≡ []). ⊎_elim
      (λ (first : x.ordinary ≡ []). let r : (x.ordinary ++ y.ordinary ≡ []) ⊎ (urgent_of c ≡ []) = inl (λ i. first i ++ none i) in r)
      (λ (first : urgent_of b ≡ []). let r : (x.ordinary ++ y.ordinary ≡ []) ⊎ (urgent_of c ≡ []) = inr (none_after y.urgent (urgent_of c) (sym y.urgent_is ∙ first)) in r)
      x.urgent_first)
      (λ (none : urgent_of c ≡ []). let r : (x.ordinary ++ y.ordinary ≡ []) ⊎ (urgent_of c ≡ []) = inr none in r)
      y.urgent_first;
}

-- the notes that left are those before the ones that stay
left_is : (port port' : Port) (urgent ordinary : List Note) → urgent_of port ≡ urgent ++ urgent_of port' → ordinary_of port ≡ ordinary ++ ordinary_of port' → (ordinary ≡ []) ⊎ (urgent_of port' ≡ []) → queue_of port ≡ (urgent ++ ordinary) ++ queue_of port'
left_is port port' urgent ordinary u o first =
    let u' : List Note = urgent_of port' in
    let o' : List Note = ordinary_of port' in
    let both : queue_of port ≡ (urgent ++ u') ++ (ordinary ++ o') = (λ i. u i ++ o i) in
    ⊎_elim
    (λ (none : ordinary ≡ []).
    let left : (urgent ++ u') ++ (ordinary ++ o') ≡ (urgent ++ u') ++ o' = ap (λ (q : List Note). (urgent ++ u') ++ (q ++ o')) none in
    let right : (urgent ++ ordinary) ++ (u' ++ o') ≡ urgent ++ (u' ++ o') = ap (λ (q : List Note). (urgent ++ q) ++ (u' ++ o')) none ∙ ap (λ (q : List Note). q ++ (u' ++ o')) (append-nil urgent) in
    both ∙ (left ∙ (append_assoc urgent u' o' ∙ sym right)))
    (λ (none : u' ≡ []).
    let left : (urgent ++ u') ++ (ordinary ++ o') ≡ urgent ++ (ordinary ++ o') = ap (λ (q : List Note). (urgent ++ q) ++ (ordinary ++ o')) none ∙ ap (λ (q : List Note). q ++ (ordinary ++ o')) (append-nil urgent) in
    let right : (urgent ++ ordinary) ++ (u' ++ o') ≡ (urgent ++ ordinary) ++ o' = ap (λ (q : List Note). (urgent ++ ordinary) ++ (q ++ o')) none in
    both ∙ (left ∙ (sym (append_assoc urgent ordinary o') ∙ sym right)))
    first

pub gone_is : (port port' : Port) (gone : List Note) (left : LeavesInOrder port port') → queue_of port ≡ gone ++ queue_of port' → gone ≡ left.urgent ++ left.ordinary
gone_is port port' gone left is = append_cancel_right gone (left.urgent ++ left.ordinary) (queue_of port') (sym is ∙ left_is port port' left.urgent left.ordinary left.urgent_is left.ordinary_is left.urgent_first)

-- a note that comes
comes_as : (class : Bool) (note : Note) (port port' : Port) → IsQueuedAs class note port port' true → queue_of port' ≡ (if class then urgent_of port ++ note ∷ ordinary_of port else queue_of port ++ note ∷ [])
comes_as true note port port' q = (λ i. q.0 i ++ q.2 i) ∙ append_assoc (urgent_of port) (note ∷ []) (ordinary_of port)
comes_as false note port port' q = (λ i. q.2 i ++ q.0 i) ∙ sym (append_assoc (urgent_of port) (ordinary_of port) (note ∷ []))

pub notes_come_last : NotesComeLast
notes_come_last note port port' q = comes_as note.urgent note port port' q
