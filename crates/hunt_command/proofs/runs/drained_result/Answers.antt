use Rattle.std.proofs.Common.{◌++◌, ◌^◌, ◌∙◌, sym, ap, arith}
use Rattle.flat_machine.specs.declared.config.Config.{Config}
use Rattle.machine_steps.specs.Draining.{drain_steps}
use Rattle.machine_steps.proofs.Lemmas.{run_home}
use Rattle.hunt_command.proofs.runs.drained_result.Goals as goal

pub drain_counted-requires : goal.drain_counted-requires
drain_counted-requires c =
    let before = c.requires.shown in let few = before.3 in let noted = before.4.tally.observed in omega (arith, few, noted)

pub result_text-requires-clause-home : goal.result_text-requires-clause-home
result_text-requires-clause-home c =
    let before = c.requires.shown in
    let after = c.in_ok-drain_counted.ensures.taken before.0 before.1 before.4 in
    run_home before.0 c.drain_counted.new.machine (before.1 ++ drain_steps c.args.machine) after.replay.run before.2

pub result_text-requires-clause-all : goal.result_text-requires-clause-all
result_text-requires-clause-all c =
    let before = c.requires.shown in
    let after = c.in_ok-drain_counted.ensures.taken before.0 before.1 before.4 in
    after.tally.all ∙ ap (λ (d : Config). 2 ^ d.k) (sym after.replay.run.config)

pub result_text-requires-2-clause-home : goal.result_text-requires-2-clause-home
result_text-requires-2-clause-home c =
    let before = c.requires.shown in
    let after = c.in_ok-drain_counted.ensures.taken before.0 before.1 before.4 in
    run_home before.0 c.drain_counted.new.machine (before.1 ++ drain_steps c.args.machine) after.replay.run before.2

pub result_text-requires-2-clause-all : goal.result_text-requires-2-clause-all
result_text-requires-2-clause-all c =
    let before = c.requires.shown in
    let after = c.in_ok-drain_counted.ensures.taken before.0 before.1 before.4 in
    after.tally.all ∙ ap (λ (d : Config). 2 ^ d.k) (sym after.replay.run.config)

pub returns-clause-result : goal.returns-clause-result
returns-clause-result c = λ opening steps replay_counted.
    record {
      machine = c.drain_counted.new.machine;
      idle = c.in_ok-drain_counted.ensures.idle;
      tally = c.drain_counted.new.tally;
      replay_counted = c.in_ok-drain_counted.ensures.taken opening steps replay_counted;
      is = c.in_ok-text.ensures;
      printed_is = c.in_ok-printed.ensures;
      exit = c.exit_status.ensures;
    }
