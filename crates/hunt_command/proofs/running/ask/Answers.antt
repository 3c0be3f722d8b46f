use Rattle.std.proofs.Common.{◌≡◌, ◌<◌, ◌+◌, ◌-◌, ◌⊎◌, inl, inr, ◌∙◌, length, refl, sym, ap, subst, arith}
use Rattle.machine_steps.specs.Standing.{HasRunning}
use Rattle.schedules.specs.Sweeps.{IsFault, IsStop}
use Rattle.schedules.proofs.Lemmas.{has_running}
use Rattle.hunt_command.proofs.Asking.{IsAsking, asking_begins, asks_on, budget_used, over_at_once, run_over}
use Rattle.hunt_command.proofs.Counting.{noted_on, room_on}
use Rattle.hunt_command.proofs.running.ask.Goals as goal

pub returns-then-not-any_runs-clause-asked : goal.returns-then-not-any_runs-clause-asked
returns-then-not-any_runs-clause-asked g c =
    let log = c.args.log.now.log in
    over_at_once c.args.schedule.now c.args.limit log c.requires.few c.reserved_log_is_well_formed.ensures.replay
    (λ runs.
    let there = subst HasRunning (sym c.machine.ensures.machine)
    (has_running log.opening log.machine log.steps c.reserved_log_is_well_formed.ensures.replay runs) in
    let yes = c.any_runs.ensures.1 there in let other = c.if-not-any_runs.true in let is = c.if-not-any_runs.ensures in cc)

pub loop-schedule-init : goal.loop-schedule-init
loop-schedule-init g c =
    record {
      config = refl;
      room = refl;
      asking = asking_begins c.args.schedule.now c.args.limit c.args.log.now.log c.requires.own c.requires.few c.reserved_log_is_well_formed.ensures.replay
          (subst HasRunning c.machine.ensures.machine (c.any_runs.ensures.0 (let other = c.if-not-any_runs.false in let is = c.if-not-any_runs.ensures in
          cc)));
      noted = λ all. all;
      noting = λ left all. subst (g.N.StepObserver.has_room c.args.observer.now)
          (let same = c.requires.noting.1 in let is : c.requires.noting.0 ≡ left = omega (arith, same, all) in is) c.requires.noting.2;
    }

pub returns-in_default-clause-asked : goal.returns-in_default-clause-asked
returns-in_default-clause-asked g c =
    budget_used c.args.schedule.now c.args.limit c.args.log.now.log c.loop-schedule.log.log c.loop-schedule.schedule c.loop-schedule.invariant.asking
    (inr (c.next.ensures.over c.in_default.is))

pub loop-schedule-preserved : goal.loop-schedule-preserved
loop-schedule-preserved g c =
    let i = c.loop-schedule.invariant in
    let old = c.args.log.now.log in
    let l = c.loop-schedule.log.log in
    let o = c.step-outcome.result in
    let room : length l.steps < c.args.limit = (let there = ap length c.steps.ensures.steps in omega (arith, there, c.loop-schedule-test.true)) in
    record {
      config = c.step-outcome.ensures.taken.step.config ∙ i.config;
      room = c.step-outcome.ensures.capacity_left ∙ i.room;
      asking = asks_on c.args.schedule.now c.args.limit old l c.step-outcome.new.self.log c.in-Some.step c.next.new.self o
          (subst (IsAsking c.args.schedule.now c.args.limit old l) c.in-Some.ensures.next i.asking) room c.step-outcome.ensures.taken
          c.machine-in-loop-schedule.ensures.replay
          (subst (λ m. (IsFault o → ⊥) × ((IsStop o → ⊥) ⊎ HasRunning m)) c.machine-in-loop-schedule.ensures.machine (c.if-is_over.ensures.not refl));
      noted = λ first. noted_on g.N.StepObserver.observed old l c.step-outcome.new.self.log c.in-Some.step o c.args.observer.now c.loop-schedule.observer
          c.observe_unless_stalled.new.observer i.asking.opening i.asking.replay c.step-outcome.ensures.taken c.in_ok-observe_unless_stalled.ensures.noted
          c.in_ok-observe_unless_stalled.ensures.stalled (i.noted first);
      noting = room_on g.N.StepObserver.has_room l c.step-outcome.new.self.log c.in-Some.step o c.loop-schedule.observer c.observe_unless_stalled.new.observer
          c.args.limit
          c.step-outcome.ensures.taken c.in_ok-observe_unless_stalled.ensures.room c.in_ok-observe_unless_stalled.ensures.stalled i.noting;
    }

pub observe_unless_stalled-requires : goal.observe_unless_stalled-requires
observe_unless_stalled-requires g c =
    let l = c.loop-schedule.log.log in
    let room : length l.steps < c.args.limit = (let there = ap length c.steps.ensures.steps in omega (arith, there, c.loop-schedule-test.true)) in
    let left = c.args.limit - (length l.steps + 1) in
    record { room = (left, c.loop-schedule.invariant.noting (left + 1) (omega (arith, room))) }

pub returns-then-is_over-clause-noted : goal.returns-then-is_over-clause-noted
returns-then-is_over-clause-noted g c first =
    let i = c.loop-schedule.invariant in
    noted_on g.N.StepObserver.observed c.args.log.now.log c.loop-schedule.log.log c.step-outcome.new.self.log c.in-Some.step c.step-outcome.result
    c.args.observer.now
    c.loop-schedule.observer c.observe_unless_stalled.new.observer i.asking.opening i.asking.replay c.step-outcome.ensures.taken
    c.in_ok-observe_unless_stalled.ensures.noted c.in_ok-observe_unless_stalled.ensures.stalled (i.noted first)

pub returns-then-is_over-clause-asked : goal.returns-then-is_over-clause-asked
returns-then-is_over-clause-asked g c =
    let i = c.loop-schedule.invariant in
    let old = c.args.log.now.log in
    let l = c.loop-schedule.log.log in
    let o = c.step-outcome.result in
    let room : length l.steps < c.args.limit = (let there = ap length c.steps.ensures.steps in omega (arith, there, c.loop-schedule-test.true)) in
    run_over c.args.schedule.now c.args.limit old l c.step-outcome.new.self.log c.in-Some.step c.next.new.self o
    (subst (IsAsking c.args.schedule.now c.args.limit old l) c.in-Some.ensures.next i.asking) room c.step-outcome.ensures.taken
    c.machine-in-loop-schedule.ensures.replay
    (subst (λ m. IsFault o ⊎ (HasRunning m → ⊥)) c.machine-in-loop-schedule.ensures.machine (c.if-is_over.ensures.over refl))

pub returns-clause-asked : goal.returns-clause-asked
returns-clause-asked g c =
    budget_used c.args.schedule.now c.args.limit c.args.log.now.log c.loop-schedule.log.log c.loop-schedule.schedule c.loop-schedule.invariant.asking
    (inl (let there = ap length c.steps.ensures.steps in omega (arith, there, c.loop-schedule-test.false)))
