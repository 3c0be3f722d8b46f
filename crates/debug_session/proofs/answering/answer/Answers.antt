use Rattle.std.proofs.Common.{◌∙◌, ap, ℕ, Bool, Ok}
use mathlib.Core.Path.{fun_ext}
use Rattle.debug_replies.specs.Stops.{is_faulted_at}
use Rattle.machine_steps.specs.Machines.{MachineLists}
use Rattle.machine_steps.specs.Runs.{flat_state}
use Rattle.debug_session.specs.Answers.{done_text, session}
use Rattle.debug_session.proofs.Sound.{step_is_small}
use Rattle.debug_session.proofs.answering.answer.Goals as goal

pub reply-requires : goal.reply-requires
reply-requires g c =
    let old = session c.args.log.now c.args.breaks.now in
    let new = session c.carry_out.new.log c.carry_out.new.breaks in
    let is = c.machine.ensures.kept.sound in
    let count = (c.flat_states_are_read.ensures.processors c.args.log.now.machine is).0 in
    record { named = λ p same. step_is_small (g.C.Runner.spec c.args.budget) old new c.args.command.now c.in-Ok.field-0 p is count c.in-Ok.ensures.acts same }

pub returns-in-Ok-clause-answers : goal.returns-in-Ok-clause-answers
returns-in-Ok-clause-answers g c = record {
  ending = Ok c.in-Ok.field-0;
  acts = c.in-Ok.ensures.acts;
  text_is =
      c.reply.ensures
      ∙ ap (λ (faulted : ℕ → Bool). done_text faulted (flat_state c.carry_out.new.log.machine) c.carry_out.new.breaks c.args.command.now)
      (fun_ext (λ p. c.of-before.ensures p ∙ ap (λ (m : MachineLists). is_faulted_at (flat_state m) p) c.machine.ensures.machine));
}
