-- Rounds counted step by step are the fewest.
use Rattle.std.proofs.Common.{◌≡◌, ℕ, suc, ◌+◌, ◌≤◌, Bool, true, false, List, [], ◌∷◌, ◌++◌, length, Option, Some, None, refl, sym, ap, ◌∙◌, subst, arith}
use Rattle.std.specs.Prelude.{filter, if◌then◌else◌}
use Rattle.std.proofs.lemmas.List.{length-append}
use Rattle.steps.specs.declared.step.Step.{Step}
use Rattle.run_counts.specs.declared.rounds.Begun.{Begun}
use Rattle.run_counts.specs.Rounds.{AreOfRounds, IsFewest, IsOfRound, begun_at, begun_from, begun_with, comes_before, goes_on, is_asked, none_begun, steps_of}

-- ---- how many are begun by steps that are asked for

-- one round more, unless the step goes on with the last one
more_by : Bool → ℕ → ℕ
more_by true n = n
more_by false n = suc n

-- the rounds that these steps begin
rounds_from : Option Step → List Step → ℕ
rounds_from last [] = 0
rounds_from last (s ∷ ss) = more_by (goes_on last s) (rounds_from (Some s) ss)

-- ---- this many rounds take the steps

-- the steps after a first one: those of its round, and the other rounds
record Split : Type 0 where
  first : List Step
  others : List (List Step)

split_by : Bool → Step → Split → Split
split_by true s t = record { first = s ∷ t.first; others = t.others }
split_by false s t = record { first = []; others = (s ∷ t.first) ∷ t.others }

split : Step → List Step → Split
split s [] = record { first = []; others = [] }
split s (t ∷ ss) = split_by (comes_before s t) t (split t ss)

-- The first step and the steps split after it are rounds, and the steps begin as many rounds as the others are.
record AreSplit (s : Step) (ss : List Step) (t : Split) : Type 0 where
  round : IsOfRound (s ∷ t.first)
  each : AreOfRounds t.others
  all : t.first ++ steps_of t.others ≡ ss
  many : length t.others ≡ rounds_from (Some s) ss

are_by : (s t : Step) (ss : List Step) (b : Bool) (rest : Split) → comes_before s t ≡ b → AreSplit t ss rest → AreSplit s (t ∷ ss) (split_by b t rest)
unfolding rounds_from split_by more_by
are_by s t ss true rest is are = record {
  round = (is, are.round);
  each = are.each;
  all = ap (λ xs. t ∷ xs) are.all;
  many = are.many ∙ ap (λ b. more_by b (rounds_from (Some t) ss)) (sym is);
}
are_by s t ss false rest is are = record {
  round = (tt, tt);
  each = (are.round, are.each);
  all = ap (λ xs. t ∷ xs) are.all;
  many = ap suc are.many ∙ ap (λ b. more_by b (rounds_from (Some t) ss)) (sym is);
}

are_split : (s : Step) (ss : List Step) → AreSplit s ss (split s ss)
unfolding split rounds_from
are_split s [] = record { round = (tt, tt); each = tt; all = refl; many = refl }
are_split s (t ∷ ss) = are_by s t ss (comes_before s t) (split t ss) refl (are_split t ss)

-- ---- and no fewer

-- A step begins one round at most.
one_at_most : (b : Bool) (n : ℕ) → more_by b n ≤ suc n
unfolding more_by
one_at_most true n = omega arith
one_at_most false n = omega arith

least_from : (s : Step) (round : List Step) (rounds : List (List Step)) → IsOfRound (s ∷ round) → AreOfRounds rounds →
    rounds_from (Some s) (round ++ steps_of rounds) ≤ length rounds
unfolding rounds_from more_by
least_from s (t ∷ round) rounds is each =
    subst (λ b. more_by b (rounds_from (Some t) (round ++ steps_of rounds)) ≤ length rounds) (sym is.0) (least_from t round rounds is.1 each)
least_from s [] [] is each = omega arith
least_from s [] ([] ∷ rounds) is each = (let rest = least_from s [] rounds is each.1 in omega (arith, rest))
least_from s [] ((t ∷ round) ∷ rounds) is each =
    let rest = least_from t round rounds each.0 each.1 in
    let one = one_at_most (comes_before s t) (rounds_from (Some t) (round ++ steps_of rounds)) in
    omega (arith, rest, one)

least : (rounds : List (List Step)) → AreOfRounds rounds → rounds_from None (steps_of rounds) ≤ length rounds
unfolding rounds_from more_by
least [] each = omega arith
least ([] ∷ rounds) each = (let rest = least rounds each.1 in omega (arith, rest))
least ((s ∷ round) ∷ rounds) each = (let rest = least_from s round rounds each.0 each.1 in omega (arith, rest))

fewest_of : (steps asked : List Step) → filter is_asked steps ≡ asked → IsFewest steps (rounds_from None asked)
unfolding rounds_from more_by
fewest_of steps [] is = record {
  rounds = [];
  are = record { each = tt; all = sym is };
  many = refl;
  least = λ others are. omega arith;
}
fewest_of steps (s ∷ ss) is = (let t = split s ss in let are = are_split s ss in record {
  rounds = (s ∷ t.first) ∷ t.others;
  are = record { each = (are.round, are.each); all = ap (λ xs. s ∷ xs) are.all ∙ sym is };
  many = ap suc are.many;
  least = λ others theirs. subst (λ xs. rounds_from None xs ≤ length others) (theirs.all ∙ is) (least others theirs.each);
})

-- ---- step by step

counted_by : (b : Bool) (r : Begun) (s : Step) (ss : List Step) → is_asked s ≡ b →
    ((r' : Begun) → (begun_from r' ss).count ≡ r'.count + rounds_from r'.last (filter is_asked ss)) →
    (begun_from (if b then begun_with r s else r) ss).count ≡ r.count + rounds_from r.last (if b then s ∷ filter is_asked ss else filter is_asked ss)
unfolding rounds_from more_by
counted_by false r s ss is rest = rest r
counted_by true r s ss is rest = rest (begun_with r s) ∙ by (goes_on r.last s) (rounds_from (Some s) (filter is_asked ss))
  where
    by : (b : Bool) (n : ℕ) → (if b then r.count else r.count + 1) + n ≡ r.count + more_by b n
    by true n = refl
    by false n = omega arith

counted : (r : Begun) (ss : List Step) → (begun_from r ss).count ≡ r.count + rounds_from r.last (filter is_asked ss)
unfolding begun_from rounds_from
counted r [] = omega arith
counted r (s ∷ ss) = counted_by (is_asked s) r s ss refl (λ r'. counted r' ss)

begun_more : (r : Begun) (xs : List Step) (x : Step) → begun_from r (xs ++ x ∷ []) ≡ begun_at (begun_from r xs) x
unfolding begun_from
begun_more r [] x = refl
begun_more r (y ∷ ys) x = begun_more (begun_at r y) ys x

-- A step begins one round at most.
pub one_more : (r : Begun) (s : Step) → (begun_at r s).count ≤ r.count + 1
one_more r s = by (is_asked s) (goes_on r.last s)
  where
    by : (b c : Bool) → (if b then record { count = if c then r.count else r.count + 1; last = Some s } else r).count ≤ r.count + 1
    by true true = omega arith
    by true false = omega arith
    by false c = omega arith

-- These steps began these rounds, at most one round a step.
pub record AreBegun (steps : List Step) (r : Begun) : Type 0 where
  -- they are those that the steps begin, from none on
  pub is : r ≡ begun_from none_begun steps
  -- they are no more than the steps
  pub few : r.count ≤ length steps

-- No steps begin no rounds.
pub none_are : AreBegun [] none_begun
unfolding begun_from
none_are = record { is = refl; few = omega arith }

-- If some steps began these rounds, they and one more step began the rounds after that step.
pub more_are : (xs : List Step) (x : Step) (r r' : Begun) → AreBegun xs r → r' ≡ begun_at r x → AreBegun (xs ++ x ∷ []) r'
more_are xs x r r' are next = record {
  is = next ∙ ap (λ (b : Begun). begun_at b x) are.is ∙ sym (begun_more none_begun xs x);
  few = (let one = one_more r x in let old = are.few in let all = length-append xs (x ∷ []) in
      subst (λ (b : Begun). b.count ≤ length (xs ++ x ∷ [])) (sym next) (omega (arith, one, old, all)));
}

-- As many rounds as the steps began can take the steps, and no fewer can.
pub are_fewest : (steps : List Step) (r : Begun) → AreBegun steps r → IsFewest steps r.count
are_fewest steps r are =
    subst (IsFewest steps) (sym (ap (λ (b : Begun). b.count) are.is ∙ counted none_begun steps ∙ omega arith))
    (fewest_of steps (filter is_asked steps) refl)
