-- The steps that are left of the named ones.
use Rattle.std.proofs.Common.{◌≡◌, ℕ, zero, suc, ◌+◌, ◌-◌, ◌≤◌, ◌<◌, List, [], ◌∷◌, length, take, drop, min, max, refl, sym, ap, ◌∙◌, arith, length-drop}
use Rattle.std.specs.Prelude.{◌↔◌}
use Rattle.std.proofs.lemmas.List.{drop-take, length-take}
use Rattle.steps.specs.declared.step.Step.{Step}
use Rattle.processor_threads.specs.Rounds.{HasUsed, IsFilled}

take_few : (n m : ℕ) (l : List Step) → n ≤ m → take n (take m l) ≡ take n l
take_few zero m l less = refl
take_few (suc n) zero l less = absurd (omega (arith, less))
take_few (suc n) (suc m) [] less = refl
take_few (suc n) (suc m) (x ∷ l) less = ap (λ k. x ∷ k) (take_few n m l (omega (arith, less)))

take_all : (n : ℕ) (l : List Step) → length l ≤ n → take n l ≡ l
take_all zero [] less = refl
take_all zero (x ∷ l) less = absurd (omega (arith, less))
take_all (suc n) [] less = refl
take_all (suc n) (x ∷ l) less = ap (λ k. x ∷ k) (take_all n l (omega (arith, less)))

drop_none : (m : ℕ) → drop {A = Step} m [] ≡ []
drop_none zero = refl
drop_none (suc m) = refl

pub drop_more : (n m : ℕ) (l : List Step) → drop (n + m) l ≡ drop m (drop n l)
drop_more zero m l = ap (λ k. drop k l) (let same : 0 + m ≡ m = omega arith in same)
drop_more (suc n) m [] = drop_none (suc n + m) ∙ sym (drop_none m)
drop_more (suc n) m (x ∷ l) = ap (λ k. drop k (x ∷ l)) (let same : suc n + m ≡ suc (n + m) = omega arith in same) ∙ drop_more n m l

nothing : (l : List Step) → length l ≡ 0 → l ≡ []
nothing [] e = refl
nothing (x ∷ l) e = absurd (omega (arith, e))

module _ (steps : List Step) (used named : ℕ) (within : used ≤ named) where
  abbrev left : List Step
  left = drop used (take named steps)

  left_is : left ≡ take (named - used) (drop used steps)
  left_is = let sum : named ≡ used + (named - used) = omega (arith, within) in ap (λ n. drop used (take n steps)) sum ∙ drop-take used (named - used) steps

  pub left_few : length left + used ≤ named
  left_few =
      let taken : length left ≡ min (named - used) (length (drop used steps)) = ap length left_is ∙ length-take (named - used) (drop used steps) in
      omega (arith, taken, within)

  -- If the list has all named steps, those used and those left are together as many as are named.
  pub left_many : named ≤ length steps → length left + used ≡ named
  left_many all =
      let taken : length left ≡ min (named - used) (length (drop used steps)) = ap length left_is ∙ length-take (named - used) (drop used steps) in
      let rest = length-drop used steps in
      omega (arith, taken, rest, within, all)

  -- If more steps are left than are wanted, those taken are as many of the first as are wanted.
  pub first_left : (most end : ℕ) → most < named - used → end ≡ used + most → take (end - used) (drop used steps) ≡ take most left
  first_left most end less e =
      ap (λ n. take n (drop used steps)) (let same : end - used ≡ most = omega (arith, e) in same)
      ∙ sym (take_few most (named - used) (drop used steps) (omega (arith, less))) ∙ ap (take most) (sym left_is)

  -- If no more steps are left than are wanted, those taken are all that are left.
  pub all_left : (most : ℕ) → named - used ≤ most → take (named - used) (drop used steps) ≡ take most left
  all_left most less =
      let few = left_few in
      sym left_is ∙ sym (take_all most left (omega (arith, few, less, within)))

  -- If the list has all named steps, all of these are used exactly if none is left.
  pub none_left : named ≤ length steps → (used ≡ named) ↔ (left ≡ [])
  none_left all =
      let many = left_many all in (
        λ same. nothing left (omega (arith, many, same)),
        λ none. (let empty : length left ≡ 0 = ap length none in omega (arith, many, empty)),
      )

-- ---- steps that are named

-- If some steps are left, they are filled as they are.
pub filled_kept : (count : ℕ) (old : List Step) → (old ≡ [] → ⊥) → IsFilled count old old
filled_kept count [] some = absurd (some refl)
filled_kept count (x ∷ old) some = refl

-- If no step is left, as many new ones as were asked for, at least one and at most 512, fill the buffer.
pub filled_new : (count : ℕ) (old new : List Step) → old ≡ [] → length new ≡ max 1 (min count 512) → IsFilled count old new
filled_new count [] new none many = many
filled_new count (x ∷ old) new none many = absurd (cc)

-- ---- what is used of steps that are named

named_some : (count : ℕ) (old new : List Step) → IsFilled count old new → 1 ≤ length new
named_some count [] new filled = omega (arith, filled)
named_some count (x ∷ old) new filled = let same = ap length filled in omega (arith, same)

-- Of steps that were filled, the first ones up to a number above 0 are at least one.
pub some_named : (count : ℕ) (old new : List Step) (most : ℕ) → IsFilled count old new → 1 ≤ most → 1 ≤ length (take most new)
some_named count old new most filled some =
    let all = named_some count old new filled in let taken = length-take most new in omega (arith, all, some, taken)

-- The first steps up to a number are no more than that number.
pub few_named : (most : ℕ) (new : List Step) → length (take most new) ≤ most
few_named most new = let taken = length-take most new in omega (arith, taken)

-- The first steps up to a number are no more than all steps.
pub few_left : (most : ℕ) (new : List Step) → length (take most new) ≤ length new
few_left most new = let taken = length-take most new in omega (arith, taken)

-- If some of the filled steps are dropped from the front, these are used and the others are left.
pub has_used : (count done : ℕ) (old new : List Step) → IsFilled count old new → done ≤ length new → HasUsed done old (drop done new)
has_used count done [] new filled few = let rest = length-drop done new in omega (arith, filled, few, rest)
has_used count done (x ∷ old) new filled few = let rest = length-drop done new in let same = ap length filled in omega (arith, same, few, rest)
