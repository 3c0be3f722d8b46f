use Rattle.std.proofs.Common.{sym, ap, ◌∙◌}
use Rattle.machine_steps.specs.Machines.{MachineLists}
use Rattle.machine_steps.specs.Openings.{flat_state}
use Rattle.property_command.specs.Counterexamples.{breaks_state}
use Rattle.property_command.proofs.counterexample.check.Goals as goal

pub returns-then-branch-clause-counterexample : goal.returns-then-branch-clause-counterexample
returns-then-branch-clause-counterexample c =
    let x = c.in_ok-machine.ensures.round in
    record {
      round = x.0;
      broken = ap (λ (m : MachineLists). breaks_state c.args.property.now (flat_state m)) x.1
          ∙ (sym c.in_ok-is_broken.ensures ∙ c.if-branch.true);
    }
