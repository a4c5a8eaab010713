use Rattle.std.proofs.Common.{◌≡◌, ◌≤◌, [], length, ap, sym, ◌∙◌, arith, rules, Option, Some, None, Bool, false}
use Rattle.std.specs.Prelude.{slice_get}
use Rattle.lwkt_base.specs.declared.limits.TheConstants.{CPU_LIMIT}
use Rattle.lwkt_base.specs.Refs.{names}
use Rattle.lwkt_base.specs.TokenWord.{decision}
use Rattle.lwkt_core.specs.Machine.{machine}
use Rattle.lwkt_core.specs.Picture.{picture_of}
use Rattle.lwkt_core.proofs.PictureLemmas.{fit}
use Rattle.lwkt_plain.specs.Tokens.{refusal}
use Rattle.lwkt_plain.proofs.TokenSteps.{miss_is}
use Rattle.lwkt_plain.proofs.tokens.miss.Goals as goal

pub word_of-word-requires : goal.word_of-word-requires
word_of-word-requires c =
    let same : c.from-at.result ≡ c.args.r.tok.0 = search rules in
    let at : slice_get c.args.tokens.now c.args.r.tok.0 ≡ Some c.part-token.result.now = sym (ap (slice_get c.args.tokens.now) same) ∙ c.part-token.ensures in
    (fit (machine CPU_LIMIT c.args.tokens.now []) c.args.r.tok.0 c.part-token.result.now c.requires.safe at).0

pub returns : goal.returns
returns c = λ refs alone.
    let tok = c.part-token.result.now in
    let w = picture_of tok in
    let mode = c.args.r.mode in
    let same : c.from-at.result ≡ c.args.r.tok.0 = search rules in
    let at : slice_get c.args.tokens.now c.args.r.tok.0 ≡ Some tok = sym (ap (slice_get c.args.tokens.now) same) ∙ c.part-token.ensures in
    let fits = (fit (machine CPU_LIMIT c.args.tokens.now []) c.args.r.tok.0 tok c.requires.safe at).0 in
    let unnamed : names c.args.front.now c.args.r.tok.0 ≡ false = sym c.have.ensures ∙ c.if-have.false in
    let word = sym c.word_of-word.ensures in
    c.refusal.ensures w (decision w mode c.args.alone) word (c.decide.ensures w fits word)
    ∙ ap (λ (b : Bool). refusal w (decision w mode b)) (sym alone)
    ∙ sym (miss_is c.args.tokens.now refs c.args.front.now c.args.r tok at unnamed)
