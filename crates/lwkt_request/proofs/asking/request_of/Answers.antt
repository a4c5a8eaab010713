use Rattle.std.proofs.Common.{◌≡◌, map, string_bytes}
use Rattle.std.proofs.lemmas.Result.{IfOk-weaker}
use Rattle.lwkt_request.specs.Answers.{asked_in}
use Rattle.lwkt_request.specs.Wishes.{wish_of}
use Rattle.lwkt_request.proofs.AskedLemmas.{asked_one}
use Rattle.lwkt_request.proofs.asking.request_of.Goals as goal

pub returns-clause-request : goal.returns-clause-request
returns-clause-request c =
    IfOk-weaker c.answer_to.result _ (λ asked. wish_of asked ≡ asked_in (map string_bytes c.args.words.now)) (λ asked is. asked_one (map string_bytes c.args.words.now) asked is) c.answer_to.ensures
