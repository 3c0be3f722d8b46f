use Rattle.std.proofs.Common.{◌≡◌, List, [], ◌++◌, refl, sym, ◌∙◌, ap, subst}
use Rattle.flat_machine.specs.declared.config.Config.{Config}
use Rattle.machine_steps.specs.messages.Network.{IsEmptyNet, empty_net}
use Rattle.omega_network.specs.Networks.{net_of}
use Rattle.steps.specs.declared.step.Step.{Step}
use Rattle.machine_steps.specs.machine_theory.Theory as theory
use Rattle.machine_steps.specs.machine_theory.Processors.{ObservedCore}
use Rattle.machine_steps.specs.machine_theory.Steps.{machine_of_parts}
use Rattle.machine_steps.specs.Runs.{IsRun}
use Rattle.run_counts.specs.Counting.{noted_of}
use Rattle.run_counts.specs.Counts.{AreCounts}
use Rattle.run_counts.specs.Lines.{lines_of}
use Rattle.run_counts.specs.Rounds.{IsFewest}
use Rattle.machine_steps.specs.Answers.{answers_of}
use Rattle.trace_counts.specs.Longest.{AreLongest}
use Rattle.trace_commands.specs.SizeLines.{size_line}
use Rattle.trace_counts.proofs.stats.StatsTraceReport.text.Goals as goal

pub returns-clause-fault : goal.returns-clause-fault
unfolding machine_of_parts
returns-clause-fault c =
    let opening = c.in_ok-machine.machine in
    let opens = c.in_ok-machine.ensures.opening in
    let new = c.count_steps.new.machine in
    let k = c.config-k.result.k in
    let run : IsRun opening c.in_ok-all.all.items new =
    subst (λ (steps : List Step). IsRun opening steps new) c.as_slice.ensures.value c.in_ok-counts.ensures.run in
    let at_first : net_of opening.network ≡ empty_net = ap (λ (m : theory.Machine ObservedCore). m.net) (opens.machine (λ p. [])) in
    let nothing : IsEmptyNet (net_of opening.network) = subst IsEmptyNet (sym at_first) (λ d w. (refl, refl, refl)) in
    record {
      all = c.in_ok-all.all.items;
      home = c.in_ok-all.ensures.home;
      counted = record {
        opening = opening;
        opens = opens;
        machine = new;
        run = run;
        counts = c.in_ok-counts.counts;
        are = subst (λ (steps : List Step). AreCounts (noted_of (answers_of opening steps)) c.in_ok-counts.counts) c.as_slice.ensures.value
            c.in_ok-counts.ensures.counts;
        longest = c.in_ok-counts.longest;
        most = subst (λ (steps : List Step). AreLongest opening steps c.in_ok-counts.longest) c.as_slice.ensures.value
            (c.in_ok-counts.ensures.longest nothing);
        rounds = c.rounds_of-rounds.result;
        fewest = subst (λ (steps : List Step). IsFewest steps c.rounds_of-rounds.result) c.as_slice-2.ensures.value c.rounds_of-rounds.ensures;
        lines = c.in_ok-text.ensures ∙ ap (λ lines. size_line c.args.config ++ lines)
            (c.as_str.ensures.value ∙ c.in_ok-counted.ensures
            ∙ ap (λ (d : Config). lines_of d.k c.in_ok-counts.counts c.in_ok-counts.longest c.rounds_of-rounds.result)
            (c.config-k.ensures.config ∙ run.config ∙ opens.config));
        exit = c.exit_status.ensures;
      };
    }
