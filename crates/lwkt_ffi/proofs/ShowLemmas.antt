use Rattle.std.proofs.Common.{Bool, ◌≡◌, ◌⊎◌, ℕ, List, [], ◌∷◌, codes, Option, Result, Ok, Err, inl, refl, ap, sym, subst, ◌∙◌, ⊎_elim, get_or, arith}
use Rattle.lwkt_base.specs.declared.faults.Fault.{Fault}
use Rattle.lwkt_base.specs.Fault.{no_memory}
use Rattle.lwkt_show.specs.declared.options.Counted.{Counted}
use Rattle.lwkt_show.specs.declared.options.Counted.TheVariants.{Turns, Rounds}
use Rattle.lwkt_show.specs.declared.options.Options.{Options}
use Rattle.lwkt_show.specs.declared.options.Rendering.{Rendering}
use Rattle.lwkt_show.specs.declared.options.Rendering.TheVariants.{Lines, Trace, Picture, Chains, Player, Timeline}
use Rattle.lwkt_text.specs.declared.inputs.Unread.TheVariants.{Memory}
use Rattle.lwkt_ffi.specs.declared.shows.Showing.{Showing}
use Rattle.lwkt_ffi.specs.Alongs.{AreAlong}
use Rattle.lwkt_ffi.specs.Answers.{Displays}
use Rattle.lwkt_ffi.specs.Arguments.{AreOptions, IsRendering, Say, range_word}

-- a call that is refused for want of memory shows nothing
pub unread_displays : (named : Bool) (options : Options) (order : Option (List ℕ)) (script whole : List ℕ) (result : Result Showing Fault) → result ≡ Err no_memory → Displays named options order script result whole
unread_displays named options order script whole result is =
    let F : Result Showing Fault → Type 0 = λ r. Displays named options order script r whole in
    subst F (sym is) (inl (Memory (record { made = tt }), (tt, refl)))

-- the word before an order is another one by its third letter
other_word : (word : List ℕ) (letter : ℕ) → codes "--order" ≡ word → get_or word 2 0 ≡ letter → (111 ≡ letter → ⊥) → ⊥
other_word word letter is third other = other (ap (λ (xs : List ℕ). get_or xs 2 0) is ∙ third)

no_range : (counted : Counted) → codes "--order" ≡ range_word counted → ⊥
no_range Turns is = other_word (codes "--turns") 116 is refl (λ same. absurd (omega arith))
no_range Rounds is = other_word (codes "--rounds") 114 is refl (λ same. absurd (omega arith))

no_rendering : (rendering : Rendering) → IsRendering (codes "--order") rendering → ⊥
no_rendering Lines is = is
no_rendering Trace is = other_word (codes "--trace") 116 is refl (λ same. absurd (omega arith))
no_rendering Picture is = other_word (codes "--svg") 115 is refl (λ same. absurd (omega arith))
no_rendering Chains is = other_word (codes "--chains") 99 is refl (λ same. absurd (omega arith))
no_rendering Player is = is
no_rendering Timeline is = is

no_say : (text : List ℕ) (rest : List (List ℕ)) (options : Options) → Say (codes "--order" ∷ text ∷ rest) options → ⊥
no_say text [] options is = no_range options.counted is.0.0
no_say text (word ∷ []) options is = ⊎_elim (λ rendering. no_rendering options.rendering rendering.0) (λ range. no_range options.counted range.0.0) is
no_say text (word ∷ next ∷ rest) options is = is

-- no arguments ask for a run in rounds and for one along an order
pub no_both : (words : List (List ℕ)) (a b : Options) (order : List ℕ) → AreOptions words a → AreAlong words b order → ⊥
no_both words a b order rounds along =
    let same : rounds.behind ≡ codes "--order" ∷ along.text ∷ along.behind = cc (rounds.are, along.are) in
    let F : List (List ℕ) → Type 0 = λ ws. Say ws a in
    no_say along.text along.behind a (subst F same rounds.say)
