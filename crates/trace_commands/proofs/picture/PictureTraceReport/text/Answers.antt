use Rattle.std.proofs.Common.{◌≡◌, List, ◌∙◌, ap, subst}
use Rattle.std.specs.Prelude.{length, string_bytes}
use Rattle.machine_views.specs.Views.{view_of}
use Rattle.steps.specs.declared.step.Step.{Step}
use Rattle.machine_steps.specs.Runs.{IsRun}
use Rattle.trace_commands.specs.Pictures.{first_of}
use Rattle.trace_commands.proofs.picture.PictureTraceReport.text.Goals as goal

pub returns-clause-fault : goal.returns-clause-fault
returns-clause-fault g c =
    let opening = c.in_ok-machine.machine in
    let taken : c.first.result.now ≡ first_of c.args.self.now.step c.in_ok-all.all.items =
    c.first.ensures ∙ ap (first_of c.args.self.now.step) c.as_slice.ensures.value in
    record {
      all = c.in_ok-all.all.items;
      home = c.in_ok-all.ensures.home;
      opening = opening;
      opens = c.in_ok-machine.ensures.opening;
      machine = c.picture_text.new.machine;
      run = subst (λ (steps : List Step). IsRun opening steps c.picture_text.new.machine)
          taken c.in_ok-text.ensures.run;
      drawn = subst (λ (steps : List Step). g.D.Draw.draws c.args.self.now.drawing (view_of c.picture_text.new.machine (length steps))
          (string_bytes c.in_ok-text.text)) taken c.in_ok-text.ensures.drawn;
      exit = c.exit_status.ensures;
    }
