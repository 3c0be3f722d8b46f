-- The steps that a run enters depend only on the machine's configuration, the image and the limit of steps.
use Rattle.std.proofs.Common.{◌≡◌, ℕ, zero, suc, ◌+◌, ◌-◌, ◌<◌, ◌≤◌, ◌⊎◌, inl, inr, List, [], ◌∷◌}
use Rattle.std.proofs.Common.{◌++◌, take, drop, refl, sym, ap, ◌∙◌, subst, arith, append_assoc}
use Rattle.std.proofs.lemmas.Bool.{cases_lt, cases_eq}
use Rattle.std.proofs.lemmas.List.{append-nil, take-append-drop}
use Rattle.flat_machine.specs.declared.config.Config.{Config}
use Rattle.machine_steps.specs.elf_image.Images.{ImageContents}
use Rattle.steps.specs.declared.step.Step.{Step}
use Rattle.machine_steps.specs.Machines.{MachineLists}
use Rattle.machine_steps.specs.Runs.{IsReplay}
use Rattle.machine_log.specs.Logs.{Log}
use Rattle.schedules.specs.Rounds.{round}
use Rattle.schedules.specs.Sweeps.{EndsAt, IsWholeRun, entered_of, rounds}
use Rattle.schedules.specs.declared.sweeping.SweepEnd.{SweepEnd}
use Rattle.schedules.specs.declared.sweeping.SweepEnd.TheVariants.{Over, Budget}
use Rattle.schedules.proofs.Alike.{GoesOnFrom, HasEnded, WasAskedFor, goes_on}
use Rattle.schedules.proofs.NoPoke.{no_poke_asked}

-- ---- of two sweeps, one continues the other

-- the steps of whole rounds and a part of one
abbrev asked : (k whole part : ℕ) → List Step
asked k whole part = rounds k whole ++ take part (round k)

take_grows : (i j : ℕ) (xs : List Step) → i ≤ j → GoesOnFrom (take i xs) (take j xs)
take_grows zero j xs less = (take j xs, refl)
take_grows (suc i) zero xs less = absurd (omega (arith, less))
take_grows (suc i) (suc j) [] less = ([], refl)
take_grows (suc i) (suc j) (x ∷ xs) less = let r = take_grows i j xs (omega (arith, less)) in (r.0, ap (λ ys. x ∷ ys) r.1)

rounds_split : (k a n m : ℕ) → m ≡ a + n → rounds k m ≡ rounds k a ++ rounds k n
rounds_split k a zero m is = ap (rounds k) (let same : m ≡ a = omega (arith, is) in same) ∙ sym (append-nil (rounds k a))
rounds_split k a (suc n) m is =
    ap (rounds k) (let same : m ≡ suc (a + n) = omega (arith, is) in same) ∙ ap (λ xs. xs ++ round k) (rounds_split k a n (a + n) refl)
    ∙ append_assoc (rounds k a) (rounds k n) (round k)

first_round : (k n : ℕ) → rounds k (suc n) ≡ round k ++ rounds k n
first_round k n = rounds_split k 1 n (suc n) (omega arith)

one_goes_on : (k w p w' p' : ℕ) → (w < w') ⊎ ((w ≡ w') × (p ≤ p')) → GoesOnFrom (asked k w p) (asked k w' p')
one_goes_on k w p w' p' (inl less) =
    let n = w' - suc w in
    let count : w' ≡ w + suc n = omega (arith, less) in
    let more : List Step = rounds k n ++ take p' (round k) in
    let all : List Step = round k in (
      drop p all ++ more,
      ap (λ xs. xs ++ take p' all) (rounds_split k w (suc n) w' count ∙ ap (λ xs. rounds k w ++ xs) (first_round k n))
          ∙ append_assoc (rounds k w) (all ++ rounds k n) (take p' all)
          ∙ ap (λ xs. rounds k w ++ xs) (append_assoc all (rounds k n) (take p' all))
          ∙ ap (λ xs. rounds k w ++ (xs ++ more)) (sym (take-append-drop p all))
          ∙ ap (λ xs. rounds k w ++ xs) (append_assoc (take p all) (drop p all) more)
          ∙ sym (append_assoc (rounds k w) (take p all) (drop p all ++ more)),
    )
one_goes_on k w p w' p' (inr same) =
    let r = take_grows p p' (round k) same.1 in
    (r.0, ap (λ v. rounds k v ++ take p' (round k)) (sym same.0) ∙ ap (λ xs. rounds k w ++ xs) r.1 ∙ sym (append_assoc (rounds k w) (take p (round k)) r.0))

either_goes_on : (k w p w' p' : ℕ) → GoesOnFrom (asked k w p) (asked k w' p') ⊎ GoesOnFrom (asked k w' p') (asked k w p)
either_goes_on k w p w' p' = by (cases_lt w w') (cases_eq w w') (cases_lt p p')
  where
    by : (w < w') ⊎ (w' ≤ w) → (w ≡ w') ⊎ (w ≡ w' → ⊥) → (p < p') ⊎ (p' ≤ p) →
        GoesOnFrom (asked k w p) (asked k w' p') ⊎ GoesOnFrom (asked k w' p') (asked k w p)
    by (inl less) _ _ = inl (one_goes_on k w p w' p' (inl less))
    by (inr more) (inr other) _ = inr (one_goes_on k w' p' w p (inl (omega (arith, more, other))))
    by (inr more) (inl same) (inl less) = inl (one_goes_on k w p w' p' (inr (same, omega (arith, less))))
    by (inr more) (inl same) (inr less) = inr (one_goes_on k w' p' w p (inr (sym same, less)))

-- ---- two runs

asked_for : (c : Config) (image : ImageContents) (most : ℕ) (e : SweepEnd) (l : Log) (w : IsWholeRun c image most e l) →
    WasAskedFor c image (0 + most) (asked c.k w.swept.followed.whole w.swept.followed.part) w.swept.middle l
asked_for c image most e l w =
    let f = w.swept.followed in
    record {
      opens = w.opens;
      own = no_poke_asked c.k f.whole f.part;
      steps = f.steps ∙ ap (λ (d : Config). entered_of l.opening [] (asked d.k f.whole f.part)) w.opens.config;
      replay = subst (λ m. IsReplay m w.swept.middle.steps w.swept.middle.machine) f.opening f.replay;
      few = f.few;
      first = f.first;
      drained = w.swept.steps;
    }

has_ended : (m : MachineLists) (limit : ℕ) (steps rest : List Step) (e : SweepEnd) → EndsAt m 0 limit steps e → HasEnded limit m steps rest
has_ended m limit steps rest Over over = inl over
has_ended m limit steps rest Budget used = inr (inl used.0)

-- Two runs of one image enter the same steps.
pub one_log : (c : Config) (image : ImageContents) (most : ℕ) (end other : SweepEnd) (a b : Log) → IsWholeRun c image most end a →
    IsWholeRun c image most other b → a.steps ≡ b.steps
one_log c image most end other a b one two =
    goes_on (asked_for c image most end a one) (asked_for c image most other b two)
    (either_goes_on c.k one.swept.followed.whole one.swept.followed.part two.swept.followed.whole two.swept.followed.part)
    (λ rest is. has_ended a.opening (0 + most) one.swept.middle.steps rest end one.swept.followed.ends)
    (λ rest is. has_ended b.opening (0 + most) two.swept.middle.steps rest other two.swept.followed.ends)
