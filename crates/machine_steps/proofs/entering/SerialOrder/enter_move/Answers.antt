use Rattle.std.proofs.Common.{◌≤◌, ℕ, length, subst}
use Rattle.machine_steps.specs.Ordering.{group_in, move_tells}
use Rattle.machine_theory.specs.Order.{group_after}
use Rattle.machine_steps.proofs.entering.SerialOrder.enter_move.Goals as goal

pub join-requires-clause-few : goal.join-requires-clause-few
join-requires-clause-few c =
    subst (λ o. (p : ℕ) → length (group_after (group_in c.args.self.now.groups.items) (move_tells o) p) ≤ 64) c.in-Combined.is c.requires.few
