use Rattle.std.proofs.Common.{List, ◌∙◌, ap, subst}
use Rattle.steps.specs.declared.step.Step.{Step}
use Rattle.machine_steps.specs.Runs.{IsRun}
use Rattle.trace_lines.specs.StoryLines.{story_of}
use Rattle.trace_commands.specs.Stories.{story_steps_of}
use Rattle.trace_commands.proofs.story.StoryTraceReport.text.Goals as goal

pub returns-clause-fault : goal.returns-clause-fault
returns-clause-fault c =
    let opening = c.in_ok-machine.machine in
    let choice = c.args.self.now.choice in
    let rounds = c.args.self.now.rounds in
    record {
      all = c.in_ok-all.all.items;
      home = c.in_ok-all.ensures.home;
      contents_are = record {
        opening = opening;
        opens = c.in_ok-machine.ensures.opening;
        machine = c.story_text.new.machine;
        run = subst (λ (steps : List Step). IsRun opening steps c.story_text.new.machine) c.as_slice.ensures.value c.in_ok-text.ensures.run;
        are = c.in_ok-text.ensures.lines ∙ ap (λ (steps : List Step). story_of choice (story_steps_of rounds opening steps)) c.as_slice.ensures.value;
        exit = c.exit_status.ensures;
      };
    }
