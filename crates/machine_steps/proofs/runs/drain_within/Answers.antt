use Rattle.std.proofs.Common.{◌≡◌, ◌∙◌, ◌<◌, ◌-◌, ◌+◌, sym, subst, arith}
use Rattle.machine_steps.specs.Draining.{IsDrained}
use Rattle.machine_steps.proofs.Noting.{noting_begins, noting_goes_on, noting_is_over, noting_stops}
use Rattle.machine_steps.proofs.runs.drain_within.Goals as goal

pub loop-moves-init : goal.loop-moves-init
loop-moves-init g c = record {
  home = noting_begins g.N.StepObserver.observed c.args.machine.now c.args.observer.now c.machine_is_well_formed.ensures;
  room = λ left all. subst (g.N.StepObserver.has_room c.args.observer.now) (omega (arith, all)) c.requires.room;
}

pub returns-in_default : goal.returns-in_default
returns-in_default g c =
    let l = c.loop-moves in
    let ended =
    noting_stops g.N.StepObserver.observed c.args.machine.now c.args.observer.now l.moves l.machine l.last l.observer l.invariant.home
    (sym c.drain_step.ensures.next ∙ c.in_default.is) (c.drain_step.ensures.none.0 c.in_default.is) in
    record { drained = ended.drained; home = ended.home; replay = ended.replay; observed = ended.observed }

pub take-requires : goal.take-requires
take-requires g c =
    let l = c.loop-moves in
    let within : l.moves < c.args.bound = c.loop-moves-test.true in
    let left = c.args.bound - (l.moves + 1) in record { room = (left, l.invariant.room (left + 1) (omega (arith, within))) }

pub loop-moves-preserved : goal.loop-moves-preserved
loop-moves-preserved g c =
    let l = c.loop-moves in
    let within : l.moves < c.args.bound = c.loop-moves-test.true in
    let few = c.requires.few in
    let last = c.in_ok-last.last in
    let taken = c.in_ok-last.ensures in
    record {
      home =
          noting_goes_on g.N.StepObserver.observed c.args.machine.now c.args.observer.now l.moves l.machine l.last l.observer l.invariant.home c.in-Some.step
          last
          c.take.new.machine c.take.new.observer c.take.ensures.sound (omega (arith, within, few)) (sym c.drain_step.ensures.next ∙ c.in-Some.is)
          c.in-Some.ensures.goes_on taken.step taken.observed;
      room = λ left all. taken.room left (l.invariant.room (left + 1) (omega (arith, all)));
    }

pub returns : goal.returns
returns g c =
    let l = c.loop-moves in
    let over : l.moves ≡ c.args.bound = omega (arith, c.loop-moves-test.false, l.auto.moves-end) in
    let enough = c.requires.enough in
    let ended =
    noting_is_over g.N.StepObserver.observed c.args.machine.now c.args.observer.now l.moves l.machine l.last l.observer l.invariant.home
    c.machine_is_well_formed.ensures
    (omega (arith, over, enough)) in
    record {
      drained = subst (λ n. IsDrained c.args.machine.now n l.machine) over ended.drained;
      home = ended.home;
      replay = ended.replay;
      observed = ended.observed;
    }
