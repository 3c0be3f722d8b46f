-- What is entered of the steps asked for.
use Rattle.std.proofs.Common.{◌≡◌, ℕ, zero, suc, ◌+◌, ◌<◌, ◌≤◌, Bool, true, false, List, [], ◌∷◌, ◌++◌, length, take, Some, refl, sym, ap, ◌∙◌, subst, arith}
use Rattle.std.specs.Prelude.{slice_get, slice_index_or, if◌then◌else◌}
use Rattle.std.proofs.lemmas.List.{length-append, take_more}
use Rattle.std.proofs.lemmas.Option.{get_or_from_slice_get}
use Rattle.steps.specs.declared.step.Step.{Step}
use Rattle.steps.specs.declared.step.Step.TheVariants as step
use Rattle.steps.specs.declared.step.Outcome.{Outcome}
use Rattle.steps.specs.declared.step.Outcome.TheVariants.{Stalled}
use Rattle.steps.specs.Answers.{is_stalled}
use Rattle.machine_steps.specs.Machines.{MachineLists}
use Rattle.machine_steps.specs.Runs.{IsReplay, answer_after}
use Rattle.machine_steps.proofs.Lemmas.{outcome_there, stalled_is}
use Rattle.machine_log.specs.Logs.{Log, entered, HasTaken}
use Rattle.machine_log.proofs.Lemmas.{entered_moving}
use Rattle.schedules.specs.Rounds.{round}
use Rattle.schedules.specs.Sweeps.{entered_of, rounds}

-- ---- one step

-- A step adds at most one to the steps, and removes none.
entered_count : (steps : List Step) (s : Step) (o : Outcome) → (length steps ≤ length (entered steps s o)) × (length (entered steps s o) ≤ length steps + 1)
entered_count steps s o = by (is_stalled o)
  where
    by : (b : Bool) → (length steps ≤ length (if b then steps else steps ++ s ∷ [])) × (length (if b then steps else steps ++ s ∷ []) ≤ length steps + 1)
    by true = (omega arith, omega arith)
    by false = let more : length (steps ++ s ∷ []) ≡ length steps + 1 = length-append steps (s ∷ []) in (omega (arith, more), omega (arith, more))

-- Asking for a step adds at most one step.
pub at_most_one : (steps steps' : List Step) (s : Step) (o : Outcome) → steps' ≡ entered steps s o → length steps' ≤ length steps + 1
at_most_one steps steps' s o is = subst (λ xs. length xs ≤ length steps + 1) (sym is) (entered_count steps s o).1

pub is_entered : (steps steps' : List Step) (s : Step) (o : Outcome) → steps' ≡ entered steps s o → (o ≡ Stalled → ⊥) → length steps < length steps'
is_entered steps steps' s o is moves =
    let more : length steps' ≡ length steps + 1 = ap length (is ∙ entered_moving steps s o moves) ∙ length-append steps (s ∷ []) in omega (arith, more)

-- If a log takes a step, its new steps are what is entered of that one step.
pub one_asked : (old new : Log) (s : Step) (o : Outcome) → IsReplay old.opening old.steps old.machine → HasTaken old s o new →
    new.steps ≡ entered_of old.opening old.steps (s ∷ [])
unfolding entered_of
one_asked old new s o r t = t.steps ∙ ap (entered old.steps s) (t.step.step.outcome ∙ sym (outcome_there old.opening old.machine old.steps r.run s))

-- ---- one after another

-- Asking for two lists joined is asking for the first and then for the second.
pub asked_append : (m : MachineLists) (done xs ys : List Step) → entered_of m done (xs ++ ys) ≡ entered_of m (entered_of m done xs) ys
unfolding entered_of
asked_append m done [] ys = refl
asked_append m done (x ∷ xs) ys = asked_append m (entered done x (answer_after m done x)) xs ys

-- Asking for steps removes none.
pub longer : (m : MachineLists) (done asked : List Step) → length done ≤ length (entered_of m done asked)
unfolding entered_of
longer m done [] = omega arith
longer m done (s ∷ ss) =
    let one = (entered_count done s (answer_after m done s)).0 in
    let more = longer m (entered done s (answer_after m done s)) ss in omega (arith, one, more)

-- If nothing is entered, each of the steps asked for stalls.
pub each_stalls : (m : MachineLists) (done asked : List Step) → length (entered_of m done asked) ≤ length done → (i : ℕ) (s : Step) →
    slice_get asked i ≡ Some s → answer_after m done s ≡ Stalled
unfolding entered_of
each_stalls m done [] none i s there = absurd (cc)
each_stalls m done (x ∷ xs) none i s there =
    by (is_stalled (answer_after m done x)) refl none i there (λ j short at. each_stalls m done xs short j s at)
  where
    by : (b : Bool) → is_stalled (answer_after m done x) ≡ b → length (entered_of m (if b then done else done ++ x ∷ []) xs) ≤ length done → (i : ℕ) →
        slice_get (x ∷ xs) i ≡ Some s →
        ((j : ℕ) → length (entered_of m done xs) ≤ length done → slice_get xs j ≡ Some s → answer_after m done s ≡ Stalled) → answer_after m done s ≡ Stalled
    by false e short i at later =
        let one : length (done ++ x ∷ []) ≡ length done + 1 = length-append done (x ∷ []) in
        let more = longer m (done ++ x ∷ []) xs in absurd (omega (arith, one, more, short))
    by true e short zero at later = (let same : x ≡ s = cc in ap (answer_after m done) (sym same) ∙ stalled_is (answer_after m done x) e)
    by true e short (suc i) at later = later i short at

-- ---- rounds

-- one more step of the round
pub next_asked : (old l : Log) (k i : ℕ) (s : Step) (steps' : List Step) → l.opening ≡ old.opening → i < length (round k) → slice_get (round k) i ≡ Some s →
    l.steps ≡ entered_of old.opening old.steps (take i (round k)) →
    steps' ≡ entered_of l.opening l.steps (s ∷ []) → steps' ≡ entered_of old.opening old.steps (take (i + 1) (round k))
next_asked old l k i s steps' opens within there before is =
    let all : List Step = round k in
    let here : slice_index_or all i (step.Turn 0) ≡ s = get_or_from_slice_get all i s (step.Turn 0) there in
    is
    ∙ ap (λ m. entered_of m l.steps (s ∷ [])) opens
    ∙ ap (λ xs. entered_of old.opening xs (s ∷ [])) before
    ∙ sym (asked_append old.opening old.steps (take i all) (s ∷ []))
    ∙ ap (λ x. entered_of old.opening old.steps (take i all ++ x ∷ [])) (sym here)
    ∙ ap (entered_of old.opening old.steps) (sym (take_more all i (step.Turn 0) within))

-- Asking for no step changes nothing.
pub none_asked : (m : MachineLists) (done : List Step) → done ≡ entered_of m done []
unfolding entered_of
none_asked m done = refl

-- whole rounds, and then a part of one
module _ (opening : MachineLists) (old middle new : List Step) (k whole part : ℕ) (before : middle ≡ entered_of opening old (rounds k whole)) (more : new
    ≡ entered_of opening middle (take part (round k))) where
  -- Asking for whole rounds and then for a part of one is asking for both together.
  pub rounds_more : new ≡ entered_of opening old (rounds k whole ++ take part (round k))
  rounds_more = more ∙ ap (λ xs. entered_of opening xs (take part (round k))) before ∙ sym (asked_append opening old (rounds k whole) (take part (round k)))

  -- If the part is a whole round, there is one more round.
  pub round_more : take part (round k) ≡ round k → new ≡ entered_of opening old (rounds k (suc whole))
  round_more all = rounds_more ∙ ap (λ xs. entered_of opening old (rounds k whole ++ xs)) all
