use Rattle.std.proofs.Common.{◌≡◌, ◌∙◌, ap}
use Rattle.std.specs.Prelude.{slice_get}
use Rattle.ring_network.specs.Networks.{NetworkLists, replies_before}
use Rattle.omega_network.proofs.Lemmas.{free_is}
use Rattle.ring_network.proofs.network.Network.module_is_free.Goals as goal

pub returns : goal.returns
returns c =
    let k : c.self.inside.k ≡ c.args.self.now.k = ap (λ (m : NetworkLists). m.k) c.self.view_is in
    free_is (replies_before c.args.self.now c.args.self.now.k c.args.m) c.reply_before.result c.is_none.result
    (c.reply_before.ensures ∙ ap (λ d. slice_get (replies_before c.args.self.now d c.args.m) 0) k) c.is_none.ensures
