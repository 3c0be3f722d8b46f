use Rattle.std.proofs.Common.{◌∙◌, sym, refl}
use Rattle.machine_steps.proofs.Lemmas.{outcome_there}
use Rattle.steps.specs.declared.step.Outcome.TheVariants.{Stalled}
use Rattle.machine_lock.proofs.locked_state.take.Goals as goal

pub returns-then-would_stall-clause-answered : goal.returns-then-would_stall-clause-answered
returns-then-would_stall-clause-answered c =
    let l = c.args.lending.now.log in
    let skipped = sym (c.machine.ensures.answers c.args.step c.requires.others) ∙ c.would_stall.ensures c.if-would_stall.true in
    record {
      outcome = Stalled;
      answer = sym (outcome_there l.opening l.machine l.steps c.lending_is_well_formed.ensures.kept.replay.run c.args.step ∙ skipped);
      opening = refl;
      config = refl;
      steps = refl;
      row = c.store_answer.ensures.row;
    }
