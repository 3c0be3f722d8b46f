-- The console bytes that a call stores in a pass are sent or held.
use Rattle.std.proofs.Common.{◌≡◌, ℕ, ◌+◌, ◌≤◌, Bool, true, false, List, [], ◌∷◌, ◌++◌, length, length-append}
use Rattle.std.proofs.Common.{refl, sym, ap, ◌∙◌, subst, append_assoc, arith, eq-eqb, ◌⊎◌, inl, inr}
use Rattle.std.specs.Prelude.{suc, ◌↔◌, OnErr, All, map, Option, Some, None, Result, Ok, Err, IfOk, OnOk, is_ok, if◌then◌else◌}
use Rattle.std.specs.Result.{result_ok}
use Rattle.std.proofs.lemmas.List.{append-nil, map-append}
use Rattle.flat_machine.specs.declared.event.Event.{Event}
use Rattle.flat_machine.specs.declared.event.Retired as retirement
use Rattle.flat_machine.specs.declared.setting.Setting.{Setting}
use Rattle.flat_machine.specs.State.{Processor}
use Rattle.steps.specs.declared.step.Step.{Step}
use Rattle.steps.specs.declared.step.Step.TheVariants as step
use Rattle.steps.specs.declared.step.Outcome.{Outcome}
use Rattle.steps.specs.Answers.{is_stalled}
use Rattle.steps.specs.declared.step.Outcome.TheVariants.{Retired, Issued, Stopped, Moved, Combined, Served, Answered, Poked, Stalled}
use Rattle.flat_machine.specs.declared.config.Config.{Config}
use Rattle.console_monitor.specs.Ends.{held_of, put_of, sent_by}
use Rattle.console_monitor.specs.declared.monitor.End.{End}
use Rattle.machine_log.specs.declared.refusal.LockRefusal.{LockRefusal}
use Rattle.machine_log.specs.declared.refusal.LockRefusal.TheVariants.{Unnamed}
use Rattle.machine_lock.specs.declared.row.PassEvent.{PassEvent}
use Rattle.steps.specs.Kinds.{is_network, is_within}
use Rattle.steps.proofs.Lemmas.{network_no_turn}
use Rattle.machine_lock.specs.Lists.{given_to, shown_at, is_net, is_stop}
use Rattle.machine_lock.specs.declared.locked_state.Round.{Round}
use Rattle.machine_lock.specs.declared.locked_state.Rounds.{Rounds}
use Rattle.machine_lock.specs.declared.row.PassState.{PassState}
use Rattle.machine_lock.specs.Rows.{with_answer, with_retirements}
use Rattle.machine_lock.specs.Passes.{MachineLists, Held, held, Moment, moment, UnderLock, HasAnswered, IsTurned, IsAsked}
use Rattle.machine_lock.specs.Passes.{has_stalled, idle_of, is_answered, is_waiting, leaves_waiting}
use Rattle.machine_lock.specs.Passes.{TurnAndStep, GoesOnWith, HaveGone, HaveWaited, HasGoneOn, IsReturned, LoanState}
use Rattle.hart.specs.LocalRuns.{EndsAt, IsQuiet, RetirementList}
use Rattle.hart.specs.declared.run.LocalEnd.{LocalEnd}
use Rattle.hart.specs.declared.run.LocalEnd.TheVariants.{Out, Most, Other}
use Rattle.processor_threads.specs.Consoles.{console_bytes, console_of, byte_of, end_queue, given_by}
use Rattle.processor_threads.specs.Rounds.{stops as stops_of}
use Rattle.processor_threads.specs.Rounds.{end_after, fault_of_round, one_round, result_of, unless_fault, AreWithin, IsApplied, NetAnswered}
use Rattle.processor_threads.specs.declared.fault.RunFault.{RunFault}
use Rattle.processor_threads.specs.declared.handle.RoundsDone.{RoundsDone}
use Rattle.processor_threads.specs.Endings.{EndsWithStop}

abbrev events : List PassEvent → List Event
events ns = map (λ n. n.event) ns

console_bytes-append : (xs ys : List Event) → console_bytes (xs ++ ys) ≡ console_bytes xs ++ console_bytes ys
console_bytes-append [] ys = refl
console_bytes-append (x ∷ xs) ys =
    ap (λ bs. given_by x ++ bs) (console_bytes-append xs ys) ∙ sym (append_assoc (given_by x) (console_bytes xs) (console_bytes ys))

-- The console bytes of what is stored, and then of what is given, are those of the one, then those of the other.
more : (ns given : List PassEvent) → console_bytes (events (ns ++ given)) ≡ console_bytes (events ns) ++ console_bytes (events given)
more ns given = ap console_bytes (map-append (λ n. n.event) ns given) ∙ console_bytes-append (events ns) (events given)

shown_byte : (place : ℕ) (o : Outcome) → console_bytes (events (shown_at place o)) ≡ held_of (byte_of o)
shown_byte place (Retired retired) = append-nil (held_of retired.out)
shown_byte place (Stopped cause) = refl
shown_byte place Issued = refl
shown_byte place Moved = refl
shown_byte place (Combined first second) = refl
shown_byte place (Served leader) = refl
shown_byte place (Answered to) = refl
shown_byte place Poked = refl
shown_byte place Stalled = refl

own : (p place : ℕ) (o : Outcome) → given_to p place (step.Turn p) o ≡ shown_at place o
own p place o = ap (λ (b : Bool). if b then shown_at place o else []) (eq-eqb p p refl)

-- If no byte was held, a turn holds the byte that it gives.
pub turned : (opening : MachineLists) (old new : Moment) (o : Outcome) (put : List ℕ) → HasAnswered opening old (step.Turn old.pass.processor) o new →
    console_of old.pass ≡ put ++ [] → console_of new.pass ≡ put ++ held_of (byte_of o)
turned opening old new o put t e =
    let place = length old.log in
    ap console_of t.pass ∙ more old.pass.row.pass_events (given_to old.pass.processor place (step.Turn old.pass.processor) o)
    ∙ (λ i. (e ∙ append-nil put) i ++ (ap (λ ns. console_bytes (events ns)) (own old.pass.processor place o) ∙ shown_byte place o) i)

-- A turn that stops the processor ends its list with the stop.
pub stops : (opening : MachineLists) (old new : Moment) (o : Outcome) → HasAnswered opening old (step.Turn old.pass.processor) o new → is_stop o ≡ true →
    EndsWithStop new.pass
stops from old new (Stopped cause) t e = record {
  before = old.pass.row.pass_events;
  place = length old.log;
  cause = cause;
  is = ap (λ (h : Held). h.row.pass_events) t.pass ∙ ap (λ ns. old.pass.row.pass_events ++ ns) (own old.pass.processor (length old.log) (Stopped cause));
}
stops from old new (Retired retired) t e = absurd (cc)
stops from old new Issued t e = absurd (cc)
stops from old new Moved t e = absurd (cc)
stops from old new (Combined first second) t e = absurd (cc)
stops from old new (Served leader) t e = absurd (cc)
stops from old new (Answered to) t e = absurd (cc)
stops from old new Poked t e = absurd (cc)
stops from old new Stalled t e = absurd (cc)

-- While the core is lent, a turn gives nothing.
turn_given : (lent : Option ℕ) (opening : MachineLists) (old new : Moment) (o : Outcome) (put : List ℕ) → IsTurned lent opening old o new →
    console_of old.pass ≡ put ++ [] → console_of new.pass ≡ put ++ held_of (byte_of o)
turn_given None opening old new o put t e = turned opening old new o put t e
turn_given (Some most) opening old new o put t e = ap (λ (m : Moment). console_of m.pass) t.1 ∙ e ∙ ap (λ o. put ++ held_of (byte_of o)) (sym t.0)

-- And it does not stop the processor.
turn_stops : (lent : Option ℕ) (opening : MachineLists) (old new : Moment) (o : Outcome) → IsTurned lent opening old o new → is_stop o ≡ true →
    EndsWithStop new.pass
turn_stops None from old new o t e = stops from old new o t e
turn_stops (Some most) from old new o t e = let no : false ≡ true = ap is_stop (sym t.0) ∙ e in absurd (cc)

-- ---- local instructions

-- what retired instructions gave the console
abbrev given_by_all : List retirement.Retired → List ℕ
given_by_all [] = []
given_by_all (retired ∷ later) = held_of retired.out ++ given_by_all later

given_by_all-append : (xs ys : List retirement.Retired) → given_by_all (xs ++ ys) ≡ given_by_all xs ++ given_by_all ys
given_by_all-append [] ys = refl
given_by_all-append (x ∷ xs) ys =
    ap (λ bs. held_of x.out ++ bs) (given_by_all-append xs ys) ∙ sym (append_assoc (held_of x.out) (given_by_all xs) (given_by_all ys))

-- A pass that stores retirements has what their instructions gave the console.
with_retirements_given : (p : ℕ) (r : PassState) (place : ℕ) (taken : List retirement.Retired) →
    console_of (held p (with_retirements p r place taken)) ≡ console_of (held p r) ++ given_by_all taken
with_retirements_given p r place [] = sym (append-nil (console_of (held p r)))
with_retirements_given p r place (retired ∷ later) =
    with_retirements_given p (with_answer p r (step.Turn p) (Retired retired) place) (suc place) later
    ∙ ap (λ bs. bs ++ given_by_all later)
    (more r.pass_events (given_to p place (step.Turn p) (Retired retired))
    ∙ ap (λ bs. console_bytes (events r.pass_events) ++ bs)
    (ap (λ ns. console_bytes (events ns)) (own p place (Retired retired)) ∙ shown_byte place (Retired retired)))
    ∙ append_assoc (console_of (held p r)) (held_of retired.out) (given_by_all later)

quiet : (taken : List retirement.Retired) → All IsQuiet taken → given_by_all taken ≡ []
quiet [] all = refl
quiet (retired ∷ later) all =
    let first : retired.out ≡ None = all 0 retired (omega arith) in
    (λ i. held_of (first i) ++ given_by_all later) ∙ quiet later (λ k d less. all (suc k) d (omega (arith, less)))

-- what a run of local instructions that ended in this way gave the console
abbrev given_at : LocalEnd → List ℕ
given_at (Out byte) = byte ∷ []
given_at Most = []
given_at Other = []

run_given : (end : LocalEnd) (s : Setting) (code : List ℕ) (taken : List retirement.Retired) (p : Processor) (list : RetirementList) →
    EndsAt end s code taken p list → given_by_all taken ≡ given_at end
run_given (Out byte) s code taken p list ends =
    ap given_by_all ends.taken_are
    ∙ given_by_all-append ends.earlier (ends.last ∷ [])
    ∙ (λ i. quiet ends.earlier ends.quiet i ++ append-nil (held_of ends.last.out) i)
    ∙ ap held_of ends.gives
run_given Most s code taken p list ends = quiet taken ends.0
run_given Other s code taken p list ends = quiet taken ends.0

-- After a loan that has run once is back, the pass has what the run gave.
module _ (opening : MachineLists) (old new : Moment) (loan gone : LoanState) (end : LocalEnd) (none : loan.retired ≡ [])
    (run : HasGoneOn opening.code loan gone end) (back : IsReturned opening old gone.retired new) where
  returned : console_of new.pass ≡ console_of old.pass ++ given_at end
  returned =
      let taken : gone.retired ≡ run.run.taken = run.run.listed ∙ ap (λ rs. rs ++ run.run.taken) none in
      ap console_of back.pass
      ∙ with_retirements_given old.pass.processor old.pass.row (length old.log) gone.retired
      ∙ ap (λ bs. console_of old.pass ++ bs) (ap given_by_all taken ∙ run_given end _ opening.code run.run.taken _ _ run.run.ends)

  -- If that is a byte, and no byte was held, the byte is held.
  pub byte_held : (byte : ℕ) (e : End) → end ≡ Out byte → e.held ≡ None → console_of old.pass ≡ sent_by e →
      console_of new.pass ≡ sent_by (record e { held = Some byte })
  byte_held byte e out nothing sent =
      returned
      ∙ (λ i. (sent ∙ ap (λ held. put_of e.sender ++ held_of held) nothing ∙ append-nil (put_of e.sender)) i ++ given_at (out i))

  -- Otherwise it is nothing.
  pub nothing_given : (end ≡ Most) ⊎ (end ≡ Other) → console_of new.pass ≡ console_of old.pass
  nothing_given (inl most) = returned ∙ ap (λ x. console_of old.pass ++ given_at x) most ∙ append-nil (console_of old.pass)
  nothing_given (inr other) = returned ∙ ap (λ x. console_of old.pass ++ given_at x) other ∙ append-nil (console_of old.pass)

-- ---- steps of the network

of_network : (c : Config) (s : Step) → (is_net c s ≡ false → ⊥) → is_network s ≡ true
of_network c s = by (is_network s) (is_within c.k s)
  where
    by : (net within : Bool) → ((if net then within else false) ≡ false → ⊥) → net ≡ true
    by true within e = refl
    by false within e = absurd (e refl)

-- A step of the network gives the console nothing.
pub netted : (opening : MachineLists) (old new : Moment) (s : Step) (o : Outcome) → (is_net opening.config s ≡ false → ⊥) → HasAnswered opening old s o new →
    console_of new.pass ≡ console_of old.pass
netted opening old new s o net t =
    ap console_of t.pass
    ∙ ap (λ ns. console_bytes (events (old.pass.row.pass_events ++ ns)))
    (ap (λ (b : Bool). if b then shown_at (length old.log) o else []) (network_no_turn old.pass.processor s (of_network opening.config s net)))
    ∙ ap (λ ns. console_bytes (events ns)) (append-nil old.pass.row.pass_events)

-- ---- a turn, and then a step of the network

-- What is asked for after the turn gives the console nothing.
asked : (opening : MachineLists) (turn : Outcome) (old new : Moment) (s : Step) (net : Option (Result Outcome LockRefusal)) →
    IsAsked opening turn old s net new → console_of new.pass ≡ console_of old.pass
asked opening turn old new s None a = ap (λ (m : Moment). console_of m.pass) a.1
asked opening turn old new s (Some (Ok o)) a = let yes = a.1 in netted opening old new s o (λ no. absurd (cc)) a.2
asked opening turn old new s (Some (Err e)) a = ap (λ (m : Moment). console_of m.pass) a.3

-- If no byte was held, a round holds the byte that its turn gives.
turned_round : (opening : MachineLists) (old new : Moment) (o : Outcome) (s : Step) (net : Option (Result Outcome LockRefusal)) (put : List ℕ) →
    TurnAndStep opening old o s net new → console_of old.pass ≡ put ++ [] → console_of new.pass ≡ put ++ held_of (byte_of o)
turned_round opening old new o s net put t e =
    asked opening o t.between new s net t.net_is ∙ turn_given old.pass.row.lent opening old t.between o put t.turn_is e

-- After a turn that stops the processor, nothing is asked for.
none_asked : (opening : MachineLists) (turn : Outcome) (old new : Moment) (s : Step) (net : Option (Result Outcome LockRefusal)) →
    IsAsked opening turn old s net new → is_stop turn ≡ true → new ≡ old
none_asked opening turn old new s None a stop = a.1
none_asked opening turn old new s (Some (Ok o)) a stop = let no = a.0 in absurd (cc)
none_asked opening turn old new s (Some (Err e)) a stop = let no = a.0 in absurd (cc)

-- So a round whose turn stops the processor ends its list with the stop.
stops_round : (opening : MachineLists) (old new : Moment) (o : Outcome) (s : Step) (net : Option (Result Outcome LockRefusal)) →
    TurnAndStep opening old o s net new → is_stop o ≡ true → EndsWithStop new.pass
stops_round opening old new o s net t stop =
    subst (λ (m : Moment). EndsWithStop m.pass) (sym (none_asked opening o t.between new s net t.net_is stop))
    (turn_stops old.pass.row.lent opening old t.between o t.turn_is stop)

-- ---- the answer to a round

-- If nothing was held before, what was given is sent or held after the answer is applied.
applied : (opening : MachineLists) (old new : Moment) (answer : Result Round LockRefusal) (s : Step) (end : End) →
    GoesOnWith opening old answer s new → end.held ≡ None → console_of old.pass ≡ sent_by end → console_of new.pass ≡ sent_by (end_after answer end)
applied opening old new (Ok r) s end on none sent =
    turned_round opening old new r.turn s r.net (put_of end.sender) on (sent ∙ ap (λ held. put_of end.sender ++ held_of held) none)
applied opening old new (Err refusal) s end on none sent = ap (λ (m : Moment). console_of m.pass) on ∙ sent

-- A round that stops the processor ends its list with the stop.
applied_stop : (opening : MachineLists) (old new : Moment) (answer : Result Round LockRefusal) (s : Step) →
    GoesOnWith opening old answer s new → stops_of answer ≡ true → EndsWithStop new.pass
applied_stop opening old new (Ok r) s on stop = stops_round opening old new r.turn s r.net on stop
applied_stop opening old new (Err refusal) s on stop = absurd (cc)

-- ---- rounds after which the processor waits

first_of : (a b : Bool) → (if a then b else false) ≡ true → a ≡ true
first_of true b e = refl
first_of false b e = absurd (cc)

-- Such a turn gives nothing.
waiting_gives : (o : Outcome) → is_waiting o ≡ true → byte_of o ≡ None
waiting_gives Issued e = refl
waiting_gives Stalled e = refl
waiting_gives (Retired retired) e = absurd (cc)
waiting_gives (Stopped cause) e = absurd (cc)
waiting_gives Moved e = absurd (cc)
waiting_gives (Combined first second) e = absurd (cc)
waiting_gives (Served leader) e = absurd (cc)
waiting_gives (Answered to) e = absurd (cc)
waiting_gives Poked e = absurd (cc)

wait_given : (opening : MachineLists) (old new : Moment) (answer : Result Round LockRefusal) (s : Step) → leaves_waiting answer ≡ true →
    GoesOnWith opening old answer s new → console_of new.pass ≡ console_of old.pass
wait_given opening old new (Ok r) s waits on =
    turned_round opening old new r.turn s r.net (console_of old.pass) on (sym (append-nil (console_of old.pass)))
    ∙ ap (λ o. console_of old.pass ++ held_of o) (waiting_gives r.turn (first_of (is_waiting r.turn) (is_answered r.net) waits))
    ∙ append-nil (console_of old.pass)
wait_given opening old new (Err refusal) s waits on = ap (λ (m : Moment). console_of m.pass) on

waits_given : (opening : MachineLists) (old new : Moment) (steps : List Step) (idle : ℕ) → HaveWaited opening old steps idle new →
    console_of new.pass ≡ console_of old.pass
waits_given opening old new [] idle w = ap (λ (m : Moment). console_of m.pass) w.1
waits_given opening old new (s ∷ steps) idle w =
    waits_given opening w.1 new steps w.2 w.6 ∙ wait_given opening old w.1 w.0 s w.3 w.5

-- No more rounds are idle than there are.
at_most_one : (b : Bool) (n : ℕ) → n ≤ 1 → (if b then n else 0) ≤ 1
at_most_one true n less = less
at_most_one false n less = omega arith

idle_few : (answer : Result Round LockRefusal) → idle_of answer ≤ 1
idle_few (Ok r) = at_most_one (is_stalled r.turn) _ (at_most_one (has_stalled r.net) 1 (omega arith))
idle_few (Err refusal) = omega arith

waits_few : (opening : MachineLists) (old new : Moment) (steps : List Step) (idle : ℕ) → HaveWaited opening old steps idle new → idle ≤ length steps
waits_few opening old new [] idle w = let none = w.0 in omega (arith, none)
waits_few opening old new (s ∷ steps) idle w =
    let sum = w.4 in
    let one = idle_few w.0 in
    let rest = waits_few opening w.1 new steps w.2 w.6 in
    omega (arith, sum, one, rest)

-- ---- the answer to rounds

faultless : (fault : Option RunFault) (done has_answered : RoundsDone) → unless_fault fault done ≡ Ok has_answered → has_answered ≡ done
faultless None done has_answered e = cc
faultless (Some f) done has_answered e = absurd (cc)

if_done : (P : RoundsDone → Type 0) (fault : Option RunFault) (done : RoundsDone) → P done → IfOk (unless_fault fault done) P
if_done P None done h = h
if_done P (Some f) done h = tt

end_queues : (answer : Result Round LockRefusal) (end : End) → end_queue (end_after answer end) ≡ end_queue end
end_queues (Ok r) end = refl
end_queues (Err refusal) end = refl

module _ (opening : MachineLists) (old new : Moment) (steps : List Step) (r : Rounds) (gone : HaveGone opening old steps r new) where
  -- If nothing was held before, what was given is sent or held after the answer is applied.
  given_all : (end : End) → end.held ≡ None → console_of old.pass ≡ sent_by end → console_of new.pass ≡ sent_by (end_after r.answer end)
  given_all end none sent =
      applied opening gone.between new r.answer gone.last end gone.round none
      (waits_given opening old gone.between gone.earlier gone.idle_earlier gone.waited ∙ sent)

  -- If the result says that the processor has stopped, the pass ends with its stop.
  stops_all : (done : RoundsDone) → result_of r ≡ Ok done → done.stopped ≡ true → EndsWithStop new.pass
  stops_all done e stop =
      let same = faultless (fault_of_round r.answer) _ done e in
      applied_stop opening gone.between new r.answer gone.last gone.round (sym (ap (λ (d : RoundsDone). d.stopped) same) ∙ stop)

  -- At least one round was taken, and no more than there are steps.
  within_all : IfOk (result_of r) (λ done. AreWithin done (length steps))
  within_all =
      let all : length steps ≡ length gone.earlier + length (gone.last ∷ gone.later) = ap length gone.steps_are
      ∙ length-append gone.earlier (gone.last ∷ gone.later) in
      let count = gone.count in
      let idle = gone.idle in
      let few = waits_few opening old gone.between gone.earlier gone.idle_earlier gone.waited in
      let one = idle_few r.answer in
      if_done (λ done. AreWithin done (length steps)) (fault_of_round r.answer) _
      (record { some = omega (arith, count); few = omega (arith, count, all); idle = omega (arith, count, idle, few, one) })

module _ (opening : MachineLists) (old new : Moment) (steps : List Step) (r : Rounds) (gone : HaveGone opening old steps r new) (end : End) (waits : Bool)
    (result : Result RoundsDone RunFault) (end' : End) (waits' : Bool) (is : IsApplied r end waits result end' waits') where
  -- If no byte was held, and what the pass gave the console was sent, it is sent or held after the answer too.
  pub applied_all : end.held ≡ None → console_of old.pass ≡ sent_by end → console_of new.pass ≡ sent_by end'
  applied_all none sent = given_all opening old new steps r gone end none sent ∙ ap sent_by (sym is.end_is)

  -- If the result says that the processor has stopped, the pass ends with its stop.
  pub applied_end : (done : RoundsDone) → result ≡ Ok done → done.stopped ≡ true → EndsWithStop new.pass
  applied_end done e stop = stops_all opening old new steps r gone done (sym is.result_is ∙ e) stop

  -- If the result is no fault, at least one round was done, and no more than there are steps.
  pub applied_count : IfOk result (λ done. AreWithin done (length steps))
  applied_count = subst (λ x. IfOk x (λ done. AreWithin done (length steps))) (sym is.result_is) (within_all opening old new steps r gone)

-- An end still has the same queue after an answer is applied to it.
pub applied_queues : (r : Rounds) (end : End) (waits : Bool) (result : Result RoundsDone RunFault) (end' : End) (waits' : Bool) →
    IsApplied r end waits result end' waits' → end_queue end' ≡ end_queue end
applied_queues r end waits result end' waits' is = ap end_queue is.end_is ∙ end_queues r.answer end

-- ---- a step of the network alone

-- What a call with a step of the network ensures of the pass, if answered or refused, holds of its result.
pub net_answered : (opening : MachineLists) (first : List Step) (old new : Held) (s : Step) (answer : Result Outcome LockRefusal) →
    IfOk answer (λ o. UnderLock first old new (λ from to. HasAnswered opening from s o to)) → OnErr answer (new ≡ old) →
    NetAnswered answer opening first old s new
net_answered opening first old new s (Ok o) has_answered same = has_answered
net_answered opening first old new s (Err refusal) has_answered same = same

-- Such a call gives the console nothing.
pub net_gives : (opening : MachineLists) (first : List Step) (old new : Held) (s : Step) (answer : Result Outcome LockRefusal) →
    ((answer ≡ Err Unnamed) ↔ (is_net opening.config s ≡ false)) → NetAnswered answer opening first old s new → console_of new ≡ console_of old
net_gives opening first old new s (Ok o) named has_answered =
    netted opening (moment has_answered.log old) (moment has_answered.log_after new) s o (λ no. let bad = named.1 no in absurd (cc)) has_answered.does
net_gives opening first old new s (Err refusal) named same = ap console_of same

-- One round, if it has no fault, is within any number of rounds from 1 on.
pub one_within : (fault : Option RunFault) (most : ℕ) → 1 ≤ most → IfOk (one_round fault) (λ done. AreWithin done most)
one_within None most some = record { some = omega arith; few = some; idle = omega arith }
one_within (Some fault) most some = tt

-- One round with no turn does not stop the processor.
pub one_goes_on : (fault : Option RunFault) (done : RoundsDone) → one_round fault ≡ Ok done → done.stopped ≡ true → ⊥
one_goes_on None done e stop = cc
one_goes_on (Some fault) done e stop = cc

-- ---- what a call has answered

module _ {A E : Type 0} where
  -- If an answer is `Ok` with x, what holds of the value of an `Ok` answer holds of x.
  pub answered : (answer : Result A E) (P : A → Type 0) (x : A) → IfOk answer P → Some x ≡ result_ok answer → P x
  answered (Ok y) P x h e = let same : x ≡ y = cc in subst P (sym same) h
  answered (Err refusal) P x h e = absurd (cc)

  -- If an answer is `Ok`, what holds on `Ok` holds.
  pub was_answered : (answer : Result A E) (T : Type 0) → OnOk answer T → true ≡ is_ok answer → T
  was_answered (Ok y) T h e = h
  was_answered (Err refusal) T h e = absurd (cc)

  pub was_refused : (answer : Result A E) (T : Type 0) → OnErr answer T → false ≡ is_ok answer → T
  was_refused (Ok y) T h e = absurd (cc)
  was_refused (Err refusal) T h e = h
