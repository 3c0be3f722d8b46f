use Rattle.std.proofs.Common.{◌≤◌, length, sym, subst}
use Rattle.machine_steps.specs.Draining.{drain_steps}
use Rattle.machine_steps.proofs.Drained.{drain_is_bounded}
use Rattle.machine_steps.proofs.machine.Machine.drain_observed.Goals as goal

pub drain_within-requires-clause-enough : goal.drain_within-requires-clause-enough
drain_within-requires-clause-enough g c =
    subst (λ n. length (drain_steps c.args.self.now) ≤ n) (sym c.drain_bound-bound.ensures) (drain_is_bounded c.args.self.now)
