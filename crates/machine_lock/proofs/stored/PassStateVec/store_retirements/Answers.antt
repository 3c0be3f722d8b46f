use Rattle.std.proofs.Common.{◌≡◌, ℕ, zero, suc, ◌+◌, ◌<◌, ◌≤◌, Bool, true, false, List, [], ◌∷◌, length, drop, get_or, refl, ap, ◌∙◌, arith, length-append}
use Rattle.std.specs.Prelude.{if◌then◌else◌}
use Rattle.flat_machine.specs.declared.event.Retired.{Retired}
use Rattle.steps.specs.declared.step.Step.TheVariants as step
use Rattle.steps.specs.declared.step.Outcome.TheVariants as outcome
use Rattle.machine_lock.specs.declared.row.PassEvent.{PassEvent}
use Rattle.machine_lock.specs.declared.row.PassState.{PassState}
use Rattle.steps.specs.Kinds.{is_turn_of}
use Rattle.machine_lock.specs.Lists.{given_to, shown_at}
use Rattle.machine_lock.specs.Rows.{with_answer, with_retirements}
use Rattle.machine_lock.specs.Passes.{row_of}
use Rattle.machine_lock.proofs.stored.PassStateVec.store_retirements.Goals as goal

-- A turn of p that retires an instruction gives one event at most.
given_one : (p place : ℕ) (retired : Retired) → length (given_to p place (step.Turn p) (outcome.Retired retired)) ≤ 1
given_one p place retired = at (is_turn_of p (step.Turn p))
  where
    at : (b : Bool) → length (let none : List PassEvent = [] in if b then shown_at place (outcome.Retired retired) else none) ≤ 1
    at true = omega arith
    at false = omega arith

-- After the next of the instructions is stored, those after it are left to store.
next_answer : (p : ℕ) (r : PassState) (place : ℕ) (taken : List Retired) (k : ℕ) (d : Retired) → k < length taken →
    with_retirements p (with_answer p r (step.Turn p) (outcome.Retired (get_or taken k d)) place) (suc place) (drop (suc k) taken)
    ≡ with_retirements p r place (drop k taken)
next_answer p r place [] k d less = absurd (omega arith)
next_answer p r place (x ∷ taken) zero d less = refl
next_answer p r place (x ∷ taken) (suc k) d less = next_answer p r place taken k d (omega arith)

pub store_answer-requires-clause-room : goal.store_answer-requires-clause-room
store_answer-requires-clause-room c p own =
    let i = c.loop-retired.invariant in
    let capacity = i.2 in
    let many = i.3 in
    let less = c.loop-retired-test.true in
    let room = c.requires.room in
    omega (arith, capacity, many, less, room)

pub store_answer-requires-clause-steps : goal.store_answer-requires-clause-steps
store_answer-requires-clause-steps c =
    let i = c.loop-retired.invariant in
    let steps = i.4 in
    let less = c.loop-retired-test.true in
    let few = c.requires.steps in
    omega (arith, steps, less, few)

pub loop-retired-preserved : goal.loop-retired-preserved
loop-retired-preserved c =
    let i = c.loop-retired.invariant in
    let t = c.store_answer.ensures in
    let p = c.args.processor in
    let at = c.loop-retired.retired-index in
    let place = c.loop-retired.place in
    let r : PassState = row_of c.loop-retired.self in
    let all = c.args.retired.now in
    let item = c.retired-item.result in
    let more : at + 1 ≡ suc at = omega arith in
    let next : place + 1 ≡ suc place = omega arith in
    let row = t.row ∙ ap (λ x. with_answer p r (step.Turn p) (outcome.Retired x) place) c.retired-item.is in
    let pass_events = ap length (ap (λ (x : PassState). x.pass_events) t.row)
    ∙ length-append r.pass_events (given_to p place (step.Turn p) (outcome.Retired item)) in
    let one = given_one p place item in
    let before = c.loop-retired.self.pass_events.ok.0 in
    let behind = c.store_answer.new.self.pass_events.ok.0 in
    let many = i.3 in
    let count = ap (λ (x : PassState). x.steps) t.row in
    let steps = i.4 in
    let places = i.1 in (
      ap (λ x. with_retirements p x (place + 1) (drop (at + 1) all)) row
          ∙ (λ n. with_retirements p (with_answer p r (step.Turn p) (outcome.Retired (get_or all at item)) place) (next n) (drop (more n) all))
          ∙ next_answer p r place all at item c.loop-retired-test.true ∙ i.0,
      omega (arith, places),
      t.capacity ∙ i.2,
      omega (arith, pass_events, one, before, behind, many),
      omega (arith, count, steps),
    )
