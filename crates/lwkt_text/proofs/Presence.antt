-- Where nothing is wrong with claims, they name what is there.
use Rattle.std.proofs.Common.{◌≡◌, List, [], ◌∷◌, length, Option, Some, None, option_map, refl, sym, ◌∙◌, arith}
use Rattle.std.proofs.lemmas.List.Elements.{All-nil, All-cons}
use Rattle.std.specs.List.{filter_map, cons_option}
use Rattle.lwkt_script.specs.declared.scripts.Script.{Script}
use Rattle.lwkt_text.specs.declared.claims.Expectation.{Expectation}
use Rattle.lwkt_text.specs.declared.wrongs.Mention.{Mention}
use Rattle.lwkt_text.specs.declared.wrongs.Wrong.{Wrong}
use Rattle.lwkt_text.specs.Absence.{absence, absent_fact, NamesWhatIsThere}

map_none : (f : Mention → Wrong) (o : Option Mention) → option_map f o ≡ None → o ≡ None
map_none f None h = refl
map_none f (Some m) h = absurd (cc)

cons_none : (o : Option Wrong) (ws : List Wrong) → cons_option o ws ≡ [] → (o ≡ None) × (ws ≡ [])
cons_none None ws h = (refl, h)
cons_none (Some w) ws h = absurd (cc)

nothing_absent : (s : Script) (es : List Expectation) → filter_map (absence s) es ≡ [] → NamesWhatIsThere s es
nothing_absent s [] h = All-nil (λ e. absent_fact s e.claim ≡ None)
nothing_absent s (e ∷ es) h =
    let both : (absence s e ≡ None) × (filter_map (absence s) es ≡ []) = cons_none (absence s e) (filter_map (absence s) es) h in
    All-cons (λ e. absent_fact s e.claim ≡ None) e es (map_none _ (absent_fact s e.claim) both.0) (nothing_absent s es both.1)

empty : (ws : List Wrong) → length ws ≡ 0 → ws ≡ []
empty [] h = refl
empty (w ∷ ws) h = absurd (omega arith)

-- nothing is wrong with claims if none of what is wrong with them stands on this list
pub none_absent : (s : Script) (es : List Expectation) (ws : List Wrong) → ws ≡ filter_map (absence s) es → length ws ≡ 0 → NamesWhatIsThere s es
none_absent s es ws are none = nothing_absent s es (sym are ∙ empty ws none)
