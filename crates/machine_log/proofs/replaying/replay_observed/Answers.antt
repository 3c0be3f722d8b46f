use Rattle.std.proofs.Common.{◌∙◌, ◌<◌, ◌-◌, ◌+◌, length, refl, sym, ap, subst, take, slice_index_or, arith}
use Rattle.std.proofs.lemmas.Bool.{true≢false}
use Rattle.std.proofs.lemmas.List.{take_more, take_all}
use Rattle.steps.specs.declared.step.Step.TheVariants as step
use Rattle.steps.specs.Answers.{is_stalled}
use Rattle.machine_steps.specs.Noting.{AreNoted}
use Rattle.machine_steps.specs.Runs.{IsReplay}
use Rattle.machine_steps.proofs.Lemmas.{noted_more, replay_begins, replay_more, serialized}
use Rattle.machine_log.proofs.replaying.replay_observed.Goals as goal

pub loop-place-init : goal.loop-place-init
loop-place-init g c = record {
  replay = replay_begins c.args.machine.now;
  observed = refl;
  room = λ left all. subst (g.N.StepObserver.has_room c.args.observer.now) (omega (arith, all)) c.requires.room;
  sound = c.machine_is_well_formed.ensures;
}

pub observe-requires : goal.observe-requires
observe-requires g c =
    let l = c.loop-place in
    let within : l.place < length c.args.steps.now = c.loop-place-test.true in
    let left = length c.args.steps.now - (l.place + 1) in record { room = (left, l.invariant.room (left + 1) (omega (arith, within))) }

pub loop-place-preserved : goal.loop-place-preserved
loop-place-preserved g c =
    let steps = c.args.steps.now in
    let l = c.loop-place in
    let place = l.place in
    let within : place < length steps = c.loop-place-test.true in
    let a = c.apply-outcome.ensures in
    let more = sym (take_more steps place (step.Turn 0) within) in
    let s = slice_index_or steps place (step.Turn 0) in
    record {
      replay =
          subst (λ done. IsReplay c.args.machine.now done c.apply-outcome.new.self) more
          (replay_more c.args.machine.now l.machine c.apply-outcome.new.self (take place steps) s c.apply-outcome.result l.invariant.replay a.step
          (λ e. true≢false (sym (ap is_stalled e) ∙ sym c.is_stalled.ensures ∙ c.if-is_stalled.false)));
      observed =
          subst (λ done. AreNoted g.N.StepObserver.observed c.args.machine.now done c.args.observer.now c.observe.new.self) more
          (noted_more g.N.StepObserver.observed c.args.machine.now l.machine c.apply-outcome.new.self
          (take place steps) s c.apply-outcome.result c.args.observer.now l.observer
          c.observe.new.self l.invariant.replay.run a.step l.invariant.observed c.in_ok-observe.ensures.observed);
      room = λ left all. c.in_ok-observe.ensures.room left (l.invariant.room (left + 1) (omega (arith, all)));
      sound = a.sound;
    }

pub returns-clause-serialized : goal.returns-clause-serialized
returns-clause-serialized g c idle =
    let i = c.loop-place.invariant in
    let replay = subst (λ done. IsReplay c.args.machine.now done c.loop-place.machine)
    (take_all c.loop-place.place c.args.steps.now c.loop-place-test.false) i.replay in
    serialized c.args.machine.now c.args.steps.now c.loop-place.machine c.machine_is_well_formed.ensures idle i.sound replay.run
