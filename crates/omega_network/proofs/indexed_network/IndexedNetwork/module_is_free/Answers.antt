use Rattle.std.proofs.Common.{◌∙◌, ap}
use Rattle.std.specs.Prelude.{is_some, slice_get}
use Rattle.omega_network.specs.Networks.{replies_before}
use Rattle.omega_network.proofs.Indexing.{free_is}
use Rattle.omega_network.proofs.indexed_network.IndexedNetwork.module_is_free.Goals as goal

pub returns : goal.returns
returns c = free_is (replies_before c.args.self.now c.args.self.now.k c.args.m) c.has_reply.result
    (c.has_reply.ensures ∙ ap (λ d. is_some (slice_get (replies_before c.args.self.now d c.args.m) 0)) c.stages.ensures.stages)
