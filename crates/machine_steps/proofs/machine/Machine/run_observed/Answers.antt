use Rattle.std.proofs.Common.{◌<◌, ◌-◌, ◌+◌, length, refl, sym, subst, take, slice_index_or, arith}
use Rattle.std.proofs.lemmas.List.{take_more, take_all}
use Rattle.steps.specs.declared.step.Step.TheVariants as step
use Rattle.machine_steps.specs.Noting.{AreNoted}
use Rattle.machine_steps.specs.Runs.{IsRun}
use Rattle.machine_steps.proofs.Noting.{noted_more}
use Rattle.machine_steps.proofs.Running.{run_begins, run_more, serialized}
use Rattle.machine_steps.proofs.machine.Machine.run_observed.Goals as goal

pub loop-step-init : goal.loop-step-init
loop-step-init g c = record {
  run = run_begins c.args.self.now;
  observed = refl;
  room = λ left all. subst (g.N.StepObserver.has_room c.args.observer.now) (omega (arith, all)) c.requires.room;
}

pub take-requires : goal.take-requires
take-requires g c =
    let l = c.loop-step in
    let within : l.step-index < length c.args.steps.now = c.loop-step-test.true in
    let left = length c.args.steps.now - (l.step-index + 1) in record { room = (left, l.invariant.room (left + 1) (omega (arith, within))) }

pub loop-step-preserved : goal.loop-step-preserved
loop-step-preserved g c =
    let m = c.args.self.now in
    let steps = c.args.steps.now in
    let l = c.loop-step in
    let done = take l.step-index steps in
    let s = slice_index_or steps l.step-index (step.Turn 0) in
    let more = sym (take_more steps l.step-index (step.Turn 0) c.loop-step-test.true) in
    let new = c.take.new.machine in
    let after = c.take.new.observer in
    let taken = c.in_ok-take.ensures in
    let outcome = c.in_ok-take.field-0 in
    record {
      run = subst (λ xs. IsRun m xs new) more (run_more m l.self new done s outcome l.invariant.run taken.step);
      observed =
          subst (λ xs. AreNoted g.N.StepObserver.observed m xs c.args.observer.now after) more
          (noted_more g.N.StepObserver.observed m l.self new done s outcome c.args.observer.now l.observer after l.invariant.run taken.step l.invariant.observed
          taken.observed);
      room = λ left all. taken.room left (l.invariant.room (left + 1) (omega (arith, all)));
    }

pub returns-clause-run : goal.returns-clause-run
returns-clause-run g c = subst (λ done. IsRun c.args.self.now done c.loop-step.self)
    (take_all c.loop-step.step-index c.args.steps.now c.loop-step-test.false) c.loop-step.invariant.run

pub returns-clause-serialized : goal.returns-clause-serialized
returns-clause-serialized g c idle =
    serialized c.args.self.now c.args.steps.now c.loop-step.self c.machine_is_well_formed.ensures idle c.machine_is_well_formed-2.ensures
    (returns-clause-run g c)

pub returns-clause-observed : goal.returns-clause-observed
returns-clause-observed g c = subst (λ done. AreNoted g.N.StepObserver.observed c.args.self.now done c.args.observer.now c.loop-step.observer)
    (take_all c.loop-step.step-index c.args.steps.now c.loop-step-test.false) c.loop-step.invariant.observed
