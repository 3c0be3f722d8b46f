-- The turns of each processor in an epoch.
use Rattle.std.proofs.Common.{◌≡◌, ℕ, zero, suc, ◌+◌, ◌-◌, ◌*◌, ◌%◌, ◌^◌, ◌<◌, Bool, true, false, List, [], ◌∷◌, ◌++◌}
use Rattle.std.proofs.Common.{take, drop, refl, sym, ap, ap₂, ◌∙◌, arith}
use Rattle.std.specs.Prelude.{◌==◌, insert, nat_lt, if◌then◌else◌}
use Rattle.std.specs.List.{sum_by}
use Rattle.std.proofs.lemmas.Bool.{eqb-false, eqb-true, le-ltb, lt-ltb, ltb-false, ltb-true, ne_eqb}
use Rattle.std.proofs.lemmas.List.{take-append-drop}
use Rattle.std.proofs.lemmas.List.Sums.{sum_by-append, sum_by-cons}
use Rattle.schedules.specs.Choices.{next_state}
use Rattle.random_schedules.specs.declared.epoch.Segment.{Segment}
use Rattle.random_schedules.specs.Epochs.{EpochModel, change_count, epoch_from, lowered, segment, segment_if, shuffled, turns_each, with_changes}
use Rattle.random_schedules.specs.Laws.{turns_for, turns_in}

by_test : {X : Type 0} (b : Bool) → (b ≡ true → X) → (b ≡ false → X) → X
by_test true f g = f refl
by_test false f g = g refl

-- A segment has no more turns of a processor if it is cut.
cut_in_two : (p q one other : ℕ) → turns_for p (segment q (one + other)) ≡ turns_for p (segment q one) + turns_for p (segment q other)
cut_in_two p q one other = by (q == p)
  where
    by : (b : Bool) → (if b then one + other else 0) ≡ (if b then one else 0) + (if b then other else 0)
    by true = refl
    by false = refl

turns_if : (p q turns : ℕ) → turns_in p (segment_if q turns) ≡ turns_for p (segment q turns)
turns_if p q zero = by (q == p)
  where
    by : (b : Bool) → (let none : ℕ = 0 in none) ≡ (if b then 0 else 0)
    by true = refl
    by false = refl
turns_if p q (suc n) =
    ap (λ b. turns_in p (if b then [] else segment q (suc n) ∷ [])) (ne_eqb (suc n) 0 (λ e. absurd (omega (arith, e))))
    ∙ sum_by-cons (turns_for p) (segment q (suc n)) []
    ∙ (let one : turns_for p (segment q (suc n)) + 0 ≡ turns_for p (segment q (suc n)) = omega arith in one)

abbrev lowered_if : (place : ℕ) → Segment → List Segment → Bool → List Segment
lowered_if place s ss b =
    if b then segment s.processor (place + 1) ∷ ss ++ segment_if s.processor (s.turns - (place + 1)) else s ∷ lowered (place - s.turns) ss

cut_is_fair : (p place : ℕ) (s : Segment) (ss : List Segment) → nat_lt place s.turns ≡ true →
    turns_in p (lowered_if place s ss true) ≡ turns_in p (s ∷ ss)
cut_is_fair p place s ss is =
    sum_by-cons (turns_for p) (segment s.processor (place + 1)) (ss ++ segment_if s.processor rest)
    ∙ ap (λ n. turns_for p (segment s.processor (place + 1)) + n)
    (sum_by-append (turns_for p) ss (segment_if s.processor rest) ∙ ap (λ n. turns_in p ss + n) (turns_if p s.processor rest))
    ∙ (let whole = cut_in_two p s.processor (place + 1) rest in
    let less = ltb-true place s.turns is in
    let all : place + 1 + rest ≡ s.turns = omega (arith, less) in
    let same : turns_for p (segment s.processor (place + 1 + rest)) ≡ turns_for p s = ap (λ n. turns_for p (segment s.processor n)) all in
    let other = sum_by-cons (turns_for p) s ss in
    omega (arith, whole, same, other))
  where
    rest : ℕ
    rest = s.turns - (place + 1)

-- A change of priority leaves each processor its turns.
lowered_is_fair : (p place : ℕ) (xs : List Segment) → turns_in p (lowered place xs) ≡ turns_in p xs
unfolding lowered
lowered_is_fair p place [] = refl
lowered_is_fair p place (s ∷ ss) =
    by_test (nat_lt place s.turns)
    (λ is. ap (λ b. turns_in p (lowered_if place s ss b)) is ∙ cut_is_fair p place s ss is)
    (λ is. ap (λ b. turns_in p (lowered_if place s ss b)) is
    ∙ sum_by-cons (turns_for p) s (lowered (place - s.turns) ss)
    ∙ ap (λ n. turns_for p s + n) (lowered_is_fair p (place - s.turns) ss)
    ∙ sym (sum_by-cons (turns_for p) s ss))

changes_are_fair : (p turns count : ℕ) (e : EpochModel) → turns_in p (with_changes turns count e).segments ≡ turns_in p e.segments
unfolding with_changes
changes_are_fair p turns zero e = refl
changes_are_fair p turns (suc n) e =
    let f : EpochModel = with_changes turns n e in
    lowered_is_fair p (next_state f.state % turns) f.segments ∙ changes_are_fair p turns n e

inserted : (p i : ℕ) (xs : List Segment) (s : Segment) → turns_in p (insert xs i s) ≡ turns_in p xs + turns_for p s
inserted p i xs s =
    sum_by-append (turns_for p) (take i xs) (s ∷ drop i xs)
    ∙ (let both : sum_by (turns_for p) (take i xs ++ drop i xs) ≡ sum_by (turns_for p) (take i xs) + sum_by (turns_for p) (drop i xs) =
    sum_by-append (turns_for p) (take i xs) (drop i xs) in
    let all : sum_by (turns_for p) (take i xs ++ drop i xs) ≡ sum_by (turns_for p) xs = ap (sum_by (turns_for p)) (take-append-drop i xs) in
    let one : sum_by (turns_for p) (s ∷ drop i xs) ≡ turns_for p s + sum_by (turns_for p) (drop i xs) =
    sum_by-cons (turns_for p) s (drop i xs) in
    omega (arith, both, all, one))

-- Before its segment is inserted, a processor has no turns.
shuffled_is_fair : (p turns state count : ℕ) → turns_in p (shuffled turns state count).segments ≡ (if nat_lt p count then turns else 0)
unfolding shuffled
shuffled_is_fair p turns x zero = sym (ap (λ b. if b then turns else 0) (le-ltb p 0 (omega arith)))
shuffled_is_fair p turns x (suc q) =
    let e : EpochModel = shuffled turns x q in
    inserted p (next_state e.state % (q + 1)) e.segments (segment q turns)
    ∙ ap (λ n. n + turns_for p (segment q turns)) (shuffled_is_fair p turns x q)
    ∙ by_test (q == p) same other
  where
    same : q == p ≡ true → (if nat_lt p q then turns else 0) + turns_for p (segment q turns) ≡ (if nat_lt p (suc q) then turns else 0)
    same is =
        let are = eqb-true q p is in
        ap₂ (λ a b. (if a then turns else 0) + (if b then turns else 0)) (le-ltb p q (omega (arith, are))) is
        ∙ (let plain : 0 + turns ≡ turns = omega arith in plain)
        ∙ sym (ap (λ a. if a then turns else 0) (lt-ltb p (suc q) (omega (arith, are))))

    other : q == p ≡ false → (if nat_lt p q then turns else 0) + turns_for p (segment q turns) ≡ (if nat_lt p (suc q) then turns else 0)
    other is =
        ap (λ b. (if nat_lt p q then turns else 0) + (if b then turns else 0)) is
        ∙ by_test (nat_lt p q)
        (λ less. ap (λ a. (if a then turns else 0) + 0) less ∙ (let plain : turns + 0 ≡ turns = omega arith in plain)
        ∙ sym (ap (λ a. if a then turns else 0) (lt-ltb p (suc q) (let below = ltb-true p q less in omega (arith, below)))))
        (λ more. ap (λ a. (if a then turns else 0) + 0) more
        ∙ sym (ap (λ a. if a then turns else 0) (le-ltb p (suc q)
        (let from = ltb-false p q more in let apart = eqb-false q p is in omega (arith, from, apart)))))

-- In an epoch each processor has as many turns as the run's number says.
pub epoch_is_fair : (k depth number state p : ℕ) → p < 2 ^ k → turns_in p (epoch_from k depth number state).segments ≡ turns_each number
unfolding epoch_from
epoch_is_fair k depth number x p there =
    changes_are_fair p (turns_each number * 2 ^ k) (change_count depth) (shuffled (turns_each number) x (2 ^ k))
    ∙ shuffled_is_fair p (turns_each number) x (2 ^ k)
    ∙ ap (λ b. if b then turns_each number else 0) (lt-ltb p (2 ^ k) there)
