use Rattle.std.proofs.Common.{◌≤◌, ◌++◌, sym, subst}
use Rattle.machine_steps.specs.Draining.{drain_steps}
use Rattle.machine_steps.specs.Machines.{MachineLists}
use Rattle.run_reports.specs.InMemory.{IsReplayInMemory}
use Rattle.run_command.specs.CountedMachines.{CountedModel, IsCountedLog}
use Rattle.run_command.proofs.Counting.{drain_fits}
use Rattle.run_command.proofs.counted.CountedMachine.drained.Goals as goal

pub drain_tallied-tally-requires : goal.drain_tallied-tally-requires
drain_tallied-tally-requires c =
    let i = c.self.inside in
    drain_fits i.machine.config i.tally i.count c.machine_is_well_formed.ensures.limits.stages c.self.invariant
    (subst (λ (x : CountedModel). x.count ≤ 4000000000) (sym c.self.view_is) c.requires)

pub returns : goal.returns
returns c = record {
  idle = c.drain_tallied-tally.ensures.idle;
  counted = λ log is.
      let here = subst (λ (x : CountedModel). IsCountedLog x log) (sym c.self.view_is) is in
      subst
      (λ (m : MachineLists). IsReplayInMemory log.opening (log.steps ++ drain_steps m) c.drain_tallied-tally.new.machine c.drain_tallied-tally.result)
      (sym here.machine) (c.drain_tallied-tally.ensures.counted log.opening log.steps
      (subst (λ (m : MachineLists). IsReplayInMemory log.opening log.steps m c.self.inside.tally) here.machine here.counted));
}
