use Rattle.std.proofs.Common.{◌≡◌, ◌++◌, ◌+◌, ◌-◌, ◌<◌, codes, length, string_bytes, false}
use Rattle.std.specs.Prelude.{Some, None}
use Rattle.lwkt_told.specs.Called.{is_thread}
use Rattle.lwkt_told.specs.Circles.{calls_told, next_call, wait_told}
use Rattle.lwkt_told.proofs.CallLemmas.{calls_end, calls_on, written_all, written_on}
use Rattle.lwkt_told.proofs.circles.show_calls.Goals as goal

pub returns-in-None : goal.returns-in-None
returns-in-None c =
    let names = c.args.names.now in
    let next = next_call names c.args.script.now c.args.lines.now in
    let n = length c.args.lines.now in
    let k = c.loop-call._call in
    let below : k < n = c.loop-call-test.true in
    let is : next c.loop-call.now ≡ None = cc in
    written_all (string_bytes c.loop-call.out) (calls_told names next c.args.first (n - k) c.loop-call.now) (string_bytes c.args.out.now ++ calls_told names next c.args.first n c.args.first)
    (calls_end names next c.args.first c.loop-call.now k n below is) c.loop-call.invariant

pub loop-call-preserved : goal.loop-call-preserved
loop-call-preserved c =
    let names = c.args.names.now in
    let next = next_call names c.args.script.now c.args.lines.now in
    let n = length c.args.lines.now in
    let k = c.loop-call._call in
    let call = c.in-Some.call in
    let below : k < n = c.loop-call-test.true in
    let is : next c.loop-call.now ≡ Some call = cc in
    let other : is_thread call.target c.args.first ≡ false = cc in
    written_on (string_bytes c.loop-call.out) (string_bytes c.show_wait.new.out) (string_bytes c.push_str.new.out) (wait_told names c.loop-call.now call) (codes ", ") (calls_told names next c.args.first (n - (k + 1)) call.target)
    (calls_told names next c.args.first (n - k) c.loop-call.now) (string_bytes c.args.out.now ++ calls_told names next c.args.first n c.args.first)
    c.in_ok-show_wait-in-Some.ensures c.in_ok-push_str-in-Some.ensures (calls_on names next c.args.first c.loop-call.now call k n below is other) c.loop-call.invariant
