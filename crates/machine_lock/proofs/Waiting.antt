-- Rounds after which a processor waits, and one more after them.
use Rattle.std.proofs.Common.{◌≡◌, ℕ, zero, suc, ◌+◌, ◌-◌, ◌≤◌, ◌<◌, List, [], ◌∷◌, ◌++◌, length}
use Rattle.std.proofs.Common.{take, drop, true, false, Bool, refl, sym, ap, ◌∙◌, subst, arith}
use Rattle.std.specs.Prelude.{Option, Result, Ok, Err, IfOk, OnErr, None, Some, is_some, slice_get, if◌then◌else◌}
use Rattle.std.proofs.lemmas.List.{append-nil}
use Rattle.std.proofs.Math.Seq.{take-add}
use Rattle.flat_machine.specs.declared.config.Config.{Config}
use Rattle.steps.specs.Answers.{is_stalled}
use Rattle.machine_steps.specs.Machines.{MachineLists}
use Rattle.machine_steps.specs.Runs.{answer_after}
use Rattle.machine_log.specs.Logs.{entered}
use Rattle.steps.specs.declared.step.Step.{Step}
use Rattle.steps.specs.declared.step.Step.TheVariants.{Turn}
use Rattle.steps.specs.declared.step.Outcome.{Outcome}
use Rattle.steps.specs.declared.step.Outcome.TheVariants.{Stalled}
use Rattle.machine_log.specs.declared.refusal.LockRefusal.{LockRefusal}
use Rattle.machine_lock.specs.declared.locked_state.Round.{Round}
use Rattle.machine_lock.specs.declared.locked_state.Rounds.{Rounds}
use Rattle.machine_lock.specs.declared.row.PassEvent.{PassEvent}
use Rattle.machine_lock.specs.declared.row.PassState.{PassState}
use Rattle.steps.specs.Kinds.{is_network, is_turn_of, is_within}
use Rattle.machine_lock.specs.Lists.{is_net}
use Rattle.machine_lock.specs.Rows.{answer, row, with_answer, Follows}
use Rattle.machine_lock.specs.Passes.{Held, held, Moment, moment, TurnAndStep, GoesOnWith, HaveGone, HaveWaited}
use Rattle.machine_lock.specs.Passes.{HasAnswered, IsTurned, LockedStateModel, UnderLock}
use Rattle.machine_lock.specs.Passes.{has_stalled, idle_of, leaves_waiting}

-- What is not some is none.
pub is_none : (l : Option ℕ) → is_some l ≡ false → l ≡ None
is_none None e = refl
is_none (Some most) e = absurd (cc)

-- A step of the network that the machine has is one of the network.
pub of_net : (c : Config) (s : Step) → is_net c s ≡ true → is_network s ≡ true
of_net c s = by (is_network s) (is_within c.k s)
  where
    by : (net within : Bool) → (if net then within else false) ≡ true → net ≡ true
    by true within e = refl
    by false within e = absurd (cc)

-- ---- the parts of a list

-- A list is what is before a place, what is there, and what is after it.
parts : (xs : List Step) (n : ℕ) (x : Step) → slice_get xs n ≡ Some x → xs ≡ take n xs ++ x ∷ drop (suc n) xs
parts [] n x e = absurd (cc)
parts (y ∷ xs) zero x e = let same : y ≡ x = cc in λ i. same i ∷ xs
parts (y ∷ xs) (suc n) x e = ap (λ l. y ∷ l) (parts xs n x e)

-- The first n + 1 are the first n and the one after them.
one_more : (xs : List Step) (n : ℕ) (x : Step) → slice_get xs n ≡ Some x → take (suc n) xs ≡ take n xs ++ x ∷ []
one_more [] n x e = absurd (cc)
one_more (y ∷ xs) zero x e = let same : y ≡ x = cc in λ i. same i ∷ []
one_more (y ∷ xs) (suc n) x e = ap (λ l. y ∷ l) (one_more xs n x e)

count : (xs : List Step) (n : ℕ) → n ≤ length xs → length (take n xs) ≡ n
count xs zero less = refl
count [] (suc n) less = absurd (omega (arith, less))
count (y ∷ xs) (suc n) less = ap suc (count xs n (omega (arith, less)))

none_after : (xs : List Step) (n : ℕ) → n ≡ length xs → drop n xs ≡ []
none_after [] zero e = refl
none_after [] (suc n) e = absurd (omega (arith, e))
none_after (y ∷ xs) zero e = absurd (omega (arith, e))
none_after (y ∷ xs) (suc n) e = none_after xs n (omega (arith, e))

whole : (xs : List Step) → take (length xs) xs ≡ xs
whole [] = refl
whole (x ∷ xs) = ap (λ l. x ∷ l) (whole xs)

-- The rest of a list from a place on is all that is left there.
rest_after : (xs : List Step) (n : ℕ) → take (length xs - n) (drop n xs) ≡ drop n xs
rest_after [] zero = refl
rest_after [] (suc n) = ap (λ m. take m []) (let none : 0 - suc n ≡ 0 = omega arith in none)
rest_after (x ∷ xs) zero = ap (λ m. take m (x ∷ xs)) (let all : length (x ∷ xs) - 0 ≡ length (x ∷ xs) = omega arith in all) ∙ whole (x ∷ xs)
rest_after (x ∷ xs) (suc n) = ap (λ m. take m (drop n xs)) (let less : length (x ∷ xs) - suc n ≡ length xs - n = omega arith in less) ∙ rest_after xs n

within : (xs : List Step) (n q : ℕ) → q < length (drop n xs) → n + q < length xs
within xs zero q less = let all : q < length xs = less in omega (arith, all)
within [] (suc n) q less = absurd (omega (arith, less))
within (x ∷ xs) (suc n) q less = let below = within xs n q less in omega (arith, below)

-- A place among the steps after the first n is, n places later, a place among all steps.
pub within_both : (xs : List Step) (n q : ℕ) → q < length (take (length xs - n) (drop n xs)) → n + q < length xs
within_both xs n q less = within xs n q (subst (λ l. q < length l) (rest_after xs n) less)

-- ---- answers that stalled

nothing : (b : Bool) (none : List PassEvent) → none ≡ [] → (if b then none else []) ≡ []
nothing true none e = e
nothing false none e = refl

-- An answer that stalled is stored as the last one, and changes nothing else.
with_stall : (p : ℕ) (r : PassState) (s : Step) (place : ℕ) → with_answer p r s Stalled place ≡ row r.pass_events r.steps (Some (answer s Stalled place)) r.lent
with_stall p r s place =
    let none = ap (λ ns. r.pass_events ++ ns) (nothing (is_turn_of p s) [] refl) ∙ append-nil r.pass_events in
    let steps : r.steps + 0 ≡ r.steps = omega arith in
    λ i. row (none i) (steps i) (Some (answer s Stalled place)) r.lent

module _ (opening : MachineLists) (old : Moment) where
  -- the moment after a step that stalls
  abbrev stalled : Step → Moment
  stalled s = moment old.log (held old.pass.processor (with_answer old.pass.processor old.pass.row s Stalled (length old.log)))

  stalls : (s : Step) → answer_after opening old.log s ≡ Stalled → Follows old.pass.row.last (length old.log) → HasAnswered opening old s Stalled (stalled s)
  stalls s e follows = record { answer = sym e; log = refl; follows = follows; pass = refl }

  -- An answer after a step that stalled leaves the pass as it would without that step.
  after_stall : (new : Moment) (s : Step) (o : Outcome) (t : HasAnswered opening old s o new) (before : Step) → HasAnswered opening (stalled before) s o new
  after_stall new s o t before = record {
    answer = t.answer;
    log = t.log;
    follows = (let none : length old.log + 0 ≤ length old.log = omega arith in none);
    pass = t.pass
        ∙ ap (λ r. held old.pass.processor (with_answer old.pass.processor r s o (length old.log)))
        (sym (with_stall old.pass.processor old.pass.row before (length old.log)));
  }

-- ---- rounds

at_most_one : (b : Bool) (n : ℕ) → n ≤ 1 → (if b then n else 0) ≤ 1
at_most_one true n less = less
at_most_one false n less = omega arith

-- A round counts as idle at most once.
pub idle_few : (answer : Result Round LockRefusal) → idle_of answer ≤ 1
idle_few (Ok r) = at_most_one (is_stalled r.turn) _ (at_most_one (has_stalled r.net) 1 (omega arith))
idle_few (Err refusal) = omega arith

-- A refused round leaves all as it was.
pub locked_state_same : (answer : Result Round LockRefusal) (a b : Held) (x y : LockedStateModel) → OnErr answer ((a ≡ b) × (x ≡ y)) →
    OnErr answer (moment x.log.steps a ≡ moment y.log.steps b)
locked_state_same (Ok r) a b x y same = tt
locked_state_same (Err refusal) a b x y same = λ i. moment (same.1 i).log.steps (same.0 i)

module _ (opening : MachineLists) where
  -- A round that was taken, or was refused and changed nothing, goes on with its answer.
  pub goes_on : (old new : Moment) (answer : Result Round LockRefusal) (s : Step) → IfOk answer (λ r. TurnAndStep opening old r.turn s r.net new) →
      OnErr answer (new ≡ old) → GoesOnWith opening old answer s new
  goes_on old new (Ok r) s has_answered same = has_answered
  goes_on old new (Err refusal) s has_answered same = same

  waited_more : (old between new : Moment) (earlier : List Step) (idle : ℕ) (s : Step) (answer : Result Round LockRefusal) →
      HaveWaited opening old earlier idle between → leaves_waiting answer ≡ true → GoesOnWith opening between answer s new →
      HaveWaited opening old (earlier ++ s ∷ []) (idle + idle_of answer) new
  waited_more old between new [] idle s answer w waits on =
      let none = w.0 in
      let sum : idle + idle_of answer ≡ idle_of answer + 0 = omega (arith, none) in
      (answer, new, 0, waits, sum, subst (λ h. GoesOnWith opening h answer s new) w.1 on, (refl, refl))
  waited_more old between new (x ∷ earlier) idle s answer w waits on =
      let first = idle_of w.0 in
      let rest = w.2 in
      let more = idle_of answer in
      let before : idle ≡ first + rest = w.4 in
      let sum : idle + more ≡ first + (rest + more) = omega (arith, before) in
      (w.0, w.1, rest + more, w.3, sum, w.5, waited_more w.1 between new earlier rest s answer w.6 waits on)

  -- If rounds leave the processor waiting, and others after them do, all of them together do.
  waited_on : (old between new : Moment) (earlier later : List Step) (i j : ℕ) → HaveWaited opening old earlier i between →
      HaveWaited opening between later j new → HaveWaited opening old (earlier ++ later) (i + j) new
  waited_on old between new [] later i j w on =
      let none = w.0 in
      let sum : j ≡ i + j = omega (arith, none) in
      subst (λ n. HaveWaited opening old later n new) sum (subst (λ h. HaveWaited opening h later j new) w.1 on)
  waited_on old between new (s ∷ earlier) later i j w on =
      let first = idle_of w.0 in
      let rest = w.2 in
      let before : i ≡ first + rest = w.4 in
      let sum : i + j ≡ first + (rest + j) = omega (arith, before) in
      (w.0, w.1, rest + j, w.3, sum, w.5, waited_on w.1 between new earlier later rest j w.6 on)

  -- If rounds with the first n steps left the processor waiting, and then those with the next m, so did those
  -- with the first n + m. The idle rounds add up.
  pub waited_both : (old between new : Moment) (steps : List Step) (n m i j : ℕ) → HaveWaited opening old (take n steps) i between →
      HaveWaited opening between (take m (take (length steps - n) (drop n steps))) j new → HaveWaited opening old (take (n + m) steps) (i + j) new
  waited_both old between new steps n m i j w on =
      subst (λ l. HaveWaited opening old l (i + j) new) (sym (take-add n m steps))
      (waited_on old between new (take n steps) (take m (drop n steps)) i j w
      (subst (λ l. HaveWaited opening between (take m l) j new) (rest_after steps n) on))

  -- a round whose turn and step of the network stall
  abbrev idle_round : Result Round LockRefusal
  idle_round = Ok (record { turn = Stalled; net = Some (Ok Stalled) })

  -- If only the last of some steps of the network that stall is stored, the pass is as after idle rounds with them all.
  pub idle_rounds_are_skipped : (old new : Moment) (steps : List Step) (n : ℕ) (s : Step) → old.pass.row.lent ≡ None →
      answer_after opening old.log (Turn old.pass.processor) ≡ Stalled →
      ((k : ℕ) (x : Step) → k < suc n → slice_get steps k ≡ Some x → is_net opening.config x ≡ true) →
      ((k : ℕ) (x : Step) → k < suc n → slice_get steps k ≡ Some x → answer_after opening old.log x ≡ Stalled) →
      slice_get steps n ≡ Some s → HasAnswered opening old s Stalled new → HaveWaited opening old (take (suc n) steps) (suc n) new
  idle_rounds_are_skipped old new [] n s home turn moves skipped here t = absurd (cc)
  idle_rounds_are_skipped old new (x ∷ later) zero s home turn moves skipped here t =
      let same : x ≡ s = cc in
      let turned = stalled opening old (Turn old.pass.processor) in
      let has_answered = subst (λ y. HasAnswered opening turned y Stalled new) (sym same) (after_stall opening old new s Stalled t (Turn old.pass.processor)) in
      let round : GoesOnWith opening old idle_round x new = record {
        between = turned;
        turn_is = subst (λ lent. IsTurned lent opening old Stalled turned) (sym home) (stalls opening old (Turn old.pass.processor) turn t.follows);
        net_is = (refl, moves 0 x (omega arith) refl, has_answered);
      } in
      (idle_round, new, 0, refl, refl, round, (refl, refl))
  idle_rounds_are_skipped old new (x ∷ later) (suc n) s home turn moves skipped here t =
      let turned = stalled opening old (Turn old.pass.processor) in
      let t' = after_stall opening old new s Stalled t (Turn old.pass.processor) in
      let moved = stalled opening turned x in
      let round : GoesOnWith opening old idle_round x moved = record {
        between = turned;
        turn_is = subst (λ lent. IsTurned lent opening old Stalled turned) (sym home) (stalls opening old (Turn old.pass.processor) turn t.follows);
        net_is = (refl, moves 0 x (omega arith) refl, stalls opening turned x (skipped 0 x (omega arith) refl) t'.follows);
      } in
      let sum : suc (suc n) ≡ 1 + suc n = omega arith in (
        idle_round,
        moved,
        suc n,
        refl,
        sum,
        round,
        idle_rounds_are_skipped moved new later n s home turn (λ k y less at. moves (suc k) y (omega (arith, less)) at)
            (λ k y less at. skipped (suc k) y (omega (arith, less)) at) here (after_stall opening turned new s Stalled t' x),
      )

  module _ (old between new : Moment) (steps : List Step) (n idle : ℕ) (s : Step) (answer : Result Round LockRefusal)
      (waited : HaveWaited opening old (take n steps) idle between)
      (here : slice_get steps n ≡ Some s) (on : GoesOnWith opening between answer s new) where
    -- If the round leaves the processor waiting, all rounds so far do.
    pub waits_again : leaves_waiting answer ≡ true → HaveWaited opening old (take (n + 1) steps) (idle + idle_of answer) new
    waits_again waits =
        subst (λ l. HaveWaited opening old l (idle + idle_of answer) new)
        (sym (one_more steps n s here) ∙ ap (λ m. take m steps) (let next : suc n ≡ n + 1 = omega arith in next))
        (waited_more old between new (take n steps) idle s answer waited waits on)

    -- If the round does not leave the processor waiting, or no step is left, the rounds are over.
    pub are_over : n < length steps → (leaves_waiting answer ≡ true → n + 1 ≡ length steps) →
        HaveGone opening old steps (record { gone = n + 1; idle = idle + idle_of answer; answer = answer }) new
    are_over less over = record {
      earlier = take n steps;
      last = s;
      later = drop (suc n) steps;
      steps_are = parts steps n s here;
      count = (let many = count steps n (omega (arith, less)) in omega (arith, many));
      between = between;
      idle_earlier = idle;
      waited = waited;
      round = on;
      idle = refl;
      over = λ waits. none_after steps (suc n) (let all = over waits in omega (arith, all));
    }

-- ---- what a call does under the lock

module _ (first : List Step) (old new : Held) (log log_after : List Step) (begins : log ≡ first ++ drop (length first) log) where
  pub under_lock : (Does : Moment → Moment → Type 0) → Does (moment log old) (moment log_after new) → UnderLock first old new Does
  under_lock Does does = record { log = log; log_after = log_after; begins = begins; does = does }

  pub under_lock_ok : {A : Type 0} {E : Type 0} (answer : Result A E) (Does : A → Moment → Moment → Type 0) →
      IfOk answer (λ x. Does x (moment log old) (moment log_after new)) → IfOk answer (λ x. UnderLock first old new (Does x))
  under_lock_ok (Ok x) Does does = under_lock (Does x) does
  under_lock_ok (Err e) Does does = tt
