use Rattle.std.proofs.Common.{◌≡◌, ◌<◌, length, arith}
use Rattle.lwkt_search.proofs.IndexLemmas.{add_is}
use Rattle.lwkt_search.proofs.indexes.Index.add.Goals as goal

pub returns : goal.returns
returns c =
    let heads = c.args.self.now.heads.items in
    let links = c.args.self.now.links.items in
    let count : c.len.result ≡ length heads = omega arith in
    let place : c.len-place.result ≡ length links = omega arith in
    let there : c.bucket_of-bucket.result < c.len.result = c.bucket_of-bucket.ensures.there in
    add_is heads links c.push.new.list.items c.len.result c.bucket_of-bucket.result c.len-place.result c.index-before.result.now c.args.key count c.bucket_of-bucket.ensures.is there c.index-before.ensures place c.in_ok-push.ensures.items
