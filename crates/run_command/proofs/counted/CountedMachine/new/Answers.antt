use Rattle.std.proofs.Common.{◌^◌, refl, sym, ap, ◌∙◌}
use Rattle.std.specs.Prelude.{replicate}
use Rattle.flat_machine.specs.declared.config.Config.{Config}
use Rattle.command_io.specs.Tallies.{nothing_shown}
use Rattle.run_command.proofs.Counting.{counted_none, noted_none}
use Rattle.run_command.proofs.counted.CountedMachine.new.Goals as goal

pub invariant_of-result : goal.invariant_of-result
invariant_of-result c =
    noted_none c.new-tally.result c.ok.result (record { shown = replicate c.processors.result nothing_shown; observed = 0 }) c.ok.ensures.value
    c.new-tally.ensures refl

pub returns-clause-log : goal.returns-clause-log
returns-clause-log c = record {
  opening = sym c.of-opening.ensures;
  machine = refl;
  count = refl;
  counted = counted_none c.args.machine c.new-tally.result c.ok.result c.processors.result c.ok.ensures.value c.new-tally.ensures
      (c.processors.ensures ∙ ap (λ (d : Config). 2 ^ d.k) c.config.ensures.config);
}
