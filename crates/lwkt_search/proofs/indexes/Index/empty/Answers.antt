use Rattle.lwkt_search.proofs.IndexLemmas.{begin_index}
use Rattle.lwkt_search.proofs.indexes.Index.empty.Goals as goal

pub returns-clause-index : goal.returns-clause-index
returns-clause-index c = λ key. begin_index key c.in_ok-heads.heads.items c.new.result.items c.buckets_for.result c.in_ok-heads.ensures c.new.ensures.items c.buckets_for.ensures.some
