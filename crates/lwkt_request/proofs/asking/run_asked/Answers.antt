use Rattle.std.proofs.Common.{◌≡◌, List, [], ◌∷◌, codes, map, rules, string_bytes, subst}
use Rattle.std.proofs.lemmas.Result.{IfOk-weaker}
use Rattle.clap.specs.Walk.{texts}
use Rattle.clap.specs.Words.{Text}
use Rattle.lwkt_request.specs.Answers.{IsCalled, IsParsed}
use Rattle.lwkt_request.specs.OldNames.{Call, old_run}
use Rattle.lwkt_request.proofs.asking.run_asked.Goals as goal

pub returns-in-Version : goal.returns-in-Version
returns-in-Version c =
    let words_are : texts c.as_slice-in-Version.result.now ≡ codes "--version" ∷ [] = search rules in
    IfOk-weaker c.parsed-in-Version.result _ (IsCalled (old_run (map string_bytes c.args.words.now))) (λ asked is.
    subst (λ (call : Call). IsCalled call asked) c.in-Version.ensures (subst (λ (words : List Text). IsParsed words asked) words_are is)) c.parsed-in-Version.ensures
