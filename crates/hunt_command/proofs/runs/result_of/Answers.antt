use Rattle.std.proofs.Common.{◌^◌, ◌∙◌, sym, ap, subst}
use Rattle.std.specs.Prelude.{option_map, replicate, string_bytes}
use Rattle.flat_machine.specs.declared.config.Config.{Config}
use Rattle.machine_steps.specs.Machines.{MachineLists}
use Rattle.command_io.specs.Tallies.{nothing_shown}
use Rattle.run_reports.specs.CountedReplays.{IsReplayCounted}
use Rattle.hunt_command.specs.Hunts.{IsDrainedTo}
use Rattle.hunt_command.proofs.RunsOfSchedules.{log_retaken, result_of_drain}
use Rattle.hunt_command.proofs.runs.result_of.Goals as goal

pub drained_result-requires : goal.drained_result-requires
drained_result-requires c =
    let m = c.in_ok-machine.machine in
    let log = c.observed_run.new.log in
    let kept = c.log_is_well_formed.ensures.kept in
    record {
      shown = (
        log.opening,
        log.steps,
        kept.home,
        kept.room,
        subst (λ (n : MachineLists). IsReplayCounted log.opening log.steps n c.observed_run.new.tally) (sym c.into_parts-machine.ensures.machine)
            (log_retaken m c.new-log.result log c.in_ok-tally.tally c.observed_run.new.tally c.new-log.ensures kept c.in_ok-end.ensures.asked.opening
            (c.in_ok-tally.ensures ∙ ap (λ n. record { shown = replicate n nothing_shown; observed = 0 })
            (c.processors.ensures ∙ ap (λ (d : Config). 2 ^ d.k) c.config.ensures.config)) c.in_ok-end.ensures.noted),
      );
    }

pub returns-clause-result : goal.returns-clause-result
returns-clause-result c =
    let m = c.in_ok-machine.machine in
    let log = c.observed_run.new.log in
    let kept = c.log_is_well_formed.ensures.kept in
    let machine = c.into_parts-machine.ensures.machine in
    let replay_counted = log_retaken m c.new-log.result log c.in_ok-tally.tally c.observed_run.new.tally c.new-log.ensures kept
    c.in_ok-end.ensures.asked.opening
    (c.in_ok-tally.ensures ∙ ap (λ n. record { shown = replicate n nothing_shown; observed = 0 })
    (c.processors.ensures ∙ ap (λ (d : Config). 2 ^ d.k) c.config.ensures.config)) c.in_ok-end.ensures.noted in
    let observed = option_map (λ words. words.now) c.args.observed in
    let text = string_bytes c.in_ok-text.text in
    let printed = string_bytes c.in_ok-text.printed in
    result_of_drain observed c.args.config c.args.image.now c.args.policy c.args.number m c.new-log.result log c.in_ok-end.end text printed
    c.in_ok-text.status
    c.in_ok-machine.ensures.opening c.new-log.ensures c.in_ok-end.ensures.asked
    (subst (λ (n : MachineLists). IsDrainedTo observed log.opening log.steps n c.in_ok-end.end text printed c.in_ok-text.status) machine
    (c.in_ok-text.ensures.result log.opening log.steps
    (subst (λ (n : MachineLists). IsReplayCounted log.opening log.steps n c.observed_run.new.tally) (sym machine) replay_counted)))
