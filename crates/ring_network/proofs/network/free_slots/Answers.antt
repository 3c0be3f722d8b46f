use Rattle.std.proofs.Common.{[], ◌∷◌, None, length, length-append, sym, ap, ◌∙◌, subst, arith}
use Rattle.std.specs.Prelude.{All, IsNone}
use Rattle.ring_network.proofs.Empty.{free_more}
use Rattle.ring_network.proofs.network.free_slots.Goals as goal

pub loop-preserved : goal.loop-preserved
loop-preserved g c = record {
  count = ap length c.in_ok-push.ensures.items ∙ length-append c.loop.slots.items (None ∷ []) ∙ (let had = c.loop.invariant.count in omega arith);
  free = subst (All IsNone) (sym c.in_ok-push.ensures.items) (free_more c.loop.slots.items c.loop.invariant.free);
}
