use Rattle.std.proofs.Common.{List, take, slice_index_or, sym, subst}
use Rattle.std.specs.Prelude.{string_bytes}
use Rattle.std.proofs.lemmas.List.{take_more}
use Rattle.steps.specs.declared.step.Step.{Step}
use Rattle.steps.specs.declared.step.Step.TheVariants as step
use Rattle.page_command.proofs.ChangeLines.{HasLines, no_lines_yet, one_line}
use Rattle.page_command.proofs.step_changes.push_change_lines.Goals as goal

pub loop-step-init : goal.loop-step-init
loop-step-init c = no_lines_yet c.args.machine.now (string_bytes c.args.text.now)

pub loop-step-preserved : goal.loop-step-preserved
loop-step-preserved c =
    let steps = c.args.steps.now in
    let l = c.loop-step in
    subst (λ (done : List Step). HasLines c.args.machine.now done (string_bytes c.args.text.now) (string_bytes c.push_str.new.self) c.push_step.new.machine)
    (sym (take_more steps l.step-index (step.Turn 0) c.loop-step-test.true))
    (one_line c.answers_go_on.ensures.go_on c.args.machine.now l.machine c.push_step.new.machine (take l.step-index steps)
    (slice_index_or steps l.step-index (step.Turn 0)) (string_bytes c.args.text.now) (string_bytes l.text) (string_bytes c.push_step.new.text)
    (string_bytes c.push_str.new.self) l.invariant c.in_ok-push_step.ensures.taken c.in_ok-push_step.ensures.shown c.in_ok-push_str.ensures.bytes)
