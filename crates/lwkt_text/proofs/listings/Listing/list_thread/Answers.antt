use Rattle.lwkt_text.proofs.ListedThreads.{new_thread_listed}
use Rattle.lwkt_text.proofs.listings.Listing.list_thread.Goals as goal

pub returns-in-Ok-clause-ok : goal.returns-in-Ok-clause-ok
returns-in-Ok-clause-ok c =
    new_thread_listed c.use_thread.result c.args.self.now.names.threads c.as_slice.result.now c.new_name.result c.in-Ok.field-0 c.args.words.now c.cpu_named.result c.args.self.now c.use_thread.new.self c.as_slice.ensures c.new_name.ensures c.in-Ok.is c.cpu_named.ensures.exact c.use_thread.ensures.ok
