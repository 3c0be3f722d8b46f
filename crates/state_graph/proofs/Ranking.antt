-- A state that is ready can be ranked after all others, and ranked states stay right.
use Rattle.std.proofs.Common.{◌≡◌, ◌≢◌, ◌⊎◌, inl, inr, ℕ, ◌+◌, ◌<◌, ◌≤◌, zero, suc, Bool, true, false}
use Rattle.std.proofs.Common.{cond, nat_lt, List, [], ◌∷◌, length, refl, sym, ap, subst, ◌∙◌, arith}
use Rattle.std.specs.Prelude.{◌==◌, count_by, slice_set, slice_index, slice_index_or}
use Rattle.std.proofs.lemmas.Bool.Decides.{nat_tests}
use Rattle.std.proofs.lemmas.Bool.{cases_eq, lt-ltb, le-ltb}
use Rattle.std.proofs.lemmas.List.Sums.{sum_by-cons}
use Rattle.std.proofs.lemmas.List.{length-set, get_or-set_same, get_or-set_other}
use Rattle.state_graph.specs.declared.ranks.Rule.{Rule}
use Rattle.state_graph.specs.declared.ranks.Rule.TheVariants as rule
use Rattle.state_graph.specs.Ranks.{no_rank, rank_at, unranked, IsReady, IsReadyAt, AreRanksSoFar, IsPassed}

-- ---- how many states have no rank

abbrev weight : Bool → ℕ
weight b = cond b 0 1

counted_one : (r : ℕ) → no_rank ≤ r → weight (nat_lt r no_rank) ≡ 1
counted_one r h = ap weight (le-ltb r no_rank h)

counted_none : (r : ℕ) → r < no_rank → weight (nat_lt r no_rank) ≡ 0
counted_none r h = ap weight (lt-ltb r no_rank h)

-- The number of states with `no_rank` is the number of those without a rank, if no number is greater.
pub unranked_counted : (ranks : List ℕ) → ((i : ℕ) → slice_index ranks i ≤ no_rank) →
    count_by (λ r. r == no_rank) ranks ≡ unranked ranks
unranked_counted [] small = refl
unranked_counted (r ∷ ranks) small =
    let rest = unranked_counted ranks (λ i. small (suc i)) in
    let here = tested r (small 0) in
    sum_by-cons (λ r. cond (r == no_rank) 1 0) r ranks ∙ omega (arith, rest, here)
  where
    tested : (r : ℕ) → r ≤ no_rank → ◌≡◌ {A = ℕ} (cond (r == no_rank) 1 0) (weight (nat_lt r no_rank))
    tested r l = grind (arith, nat_tests)

-- At most all states have no rank.
unranked_few : (ranks : List ℕ) → unranked ranks ≤ length ranks
unranked_few [] = omega arith
unranked_few (r ∷ ranks) = let h = unranked_few ranks in by (nat_lt r no_rank) h
  where
    by : (b : Bool) → unranked ranks ≤ length ranks → cond b 0 1 + unranked ranks ≤ suc (length ranks)
    by true h = omega (arith, h)
    by false h = omega (arith, h)

-- If a state is ranked, one state fewer has no rank.
unranked_set : (ranks : List ℕ) (i r : ℕ) → i < length ranks → no_rank ≤ rank_at ranks i → r < no_rank →
    unranked (slice_set ranks i r) + 1 ≡ unranked ranks
unranked_set [] i r l none real = absurd (omega (arith, l))
unranked_set (x ∷ ranks) zero r l none real = let a = counted_one x none in let b = counted_none r real in omega (arith, a, b)
unranked_set (x ∷ ranks) (suc i) r l none real = let h = unranked_set ranks i r (omega (arith, l)) none real in omega (arith, h)

-- ---- new ranks that keep the old ones

module _ (old new : List ℕ) (stays : (i : ℕ) → rank_at old i < no_rank → rank_at new i ≡ rank_at old i)
    (successors : List ℕ) (rank : ℕ) (few : rank ≤ no_rank) where
  less : (i : ℕ) → rank_at old i < rank → rank_at new i < rank
  less i l = subst (λ r. r < rank) (sym (stays i (omega (arith, l, few)))) l

  -- What is ready stays ready.
  ready_stays : (r : Rule) → IsReady r successors old rank → IsReady r successors new rank
  ready_stays rule.Each below = λ t among. less t (below t among)
  ready_stays rule.One (inl none) = inl none
  ready_stays rule.One (inr h) = inr (h.0, h.1, less h.0 h.2)

-- Here all ranks are less than a number.
module _ (ranks : List ℕ) (next : ℕ) (all_less : (i : ℕ) → rank_at ranks i < no_rank → rank_at ranks i < next)
    (successors : List ℕ) where
  -- A state that is ready can have that number as its rank.
  ready_next : (r : Rule) → IsReady r successors ranks no_rank → IsReady r successors ranks next
  ready_next rule.Each below = λ t among. all_less t (below t among)
  ready_next rule.One (inl none) = inl none
  ready_next rule.One (inr h) = inr (h.0, h.1, all_less h.0 h.2)

-- ---- one more state has a rank

module _ (r : Rule) (moves : List (List ℕ)) (few : length moves ≤ no_rank) where
  module _ (ranks : List ℕ) (next at : ℕ) (h : AreRanksSoFar r moves ranks next) (there : at < length moves) (none : no_rank ≤ rank_at ranks at)
      (ready : IsReadyAt r moves ranks at no_rank) where
    abbrev put : List ℕ
    put = slice_set ranks at next

    within : at < length ranks
    within = omega (arith, there, h.all)

    some : 0 < unranked ranks
    some = positive ranks at within none
      where
        positive : (xs : List ℕ) (i : ℕ) → i < length xs → no_rank ≤ rank_at xs i → 0 < unranked xs
        positive [] i l e = absurd (omega (arith, l))
        positive (x ∷ xs) zero l e = let a = counted_one x e in omega (arith, a)
        positive (x ∷ xs) (suc i) l e = let p = positive xs i (omega (arith, l)) e in omega (arith, p)

    -- The next number can be a rank.
    pub next_real : next < no_rank
    next_real = omega (arith, some, h.room, few)

    here : rank_at put at ≡ next
    here = get_or-set_same ranks at next no_rank within

    other : (i : ℕ) → i ≢ at → rank_at put i ≡ rank_at ranks i
    other i ne = get_or-set_other ranks at i next no_rank ne

    stays : (i : ℕ) → rank_at ranks i < no_rank → rank_at put i ≡ rank_at ranks i
    stays i l = other i (λ same. let e : rank_at ranks i ≡ rank_at ranks at = ap (rank_at ranks) same in omega (arith, l, e, none))

    -- One state fewer has no rank.
    one_fewer : unranked put + 1 ≡ unranked ranks
    one_fewer = unranked_set ranks at next within none next_real

    -- The ranks with that of the state among them are ranks so far.
    pub ranked_on : AreRanksSoFar r moves put (next + 1)
    ranked_on = record {
      all = length-set ranks at next ∙ h.all;
      sound = λ i l real. by_place i l real (cases_eq i at);
      less = λ i real. under i real (cases_eq i at);
      room = omega (arith, one_fewer, h.room);
    }
      where
        by_place : (i : ℕ) → i < length moves → rank_at put i < no_rank → (i ≡ at) ⊎ (i ≢ at) → IsReadyAt r moves put i (rank_at put i)
        by_place i l real (inl same) =
            let now : IsReady r (slice_index_or moves at []) put next =
            ready_stays ranks put stays (slice_index_or moves at []) next (omega (arith, next_real)) r
            (ready_next ranks next h.less (slice_index_or moves at []) r ready) in
            let rank : rank_at put i ≡ next = ap (rank_at put) same ∙ here in
            subst (λ (z : ℕ × ℕ). IsReadyAt r moves put z.0 z.1) (λ j. (sym same j, sym rank j)) now
        by_place i l real (inr ne) =
            let before : rank_at ranks i < no_rank = subst (λ v. v < no_rank) (other i ne) real in
            let now = ready_stays ranks put stays (slice_index_or moves i []) (rank_at ranks i) (omega (arith, before)) r (h.sound i l before) in
            subst (IsReadyAt r moves put i) (sym (other i ne)) now

        under : (i : ℕ) → rank_at put i < no_rank → (i ≡ at) ⊎ (i ≢ at) → rank_at put i < next + 1
        under i real (inl same) = let rank : rank_at put i ≡ next = ap (rank_at put) same ∙ here in omega (arith, rank)
        under i real (inr ne) =
            let before : rank_at ranks i < no_rank = subst (λ v. v < no_rank) (other i ne) real in
            let l = h.less i before in
            let e = other i ne in
            omega (arith, l, e)

  -- ---- a pass

  module _ (old ranks : List ℕ) (at : ℕ) (is_found : Bool) (h : IsPassed r moves old ranks (at + 1) is_found) where
    no_more : unranked ranks ≤ unranked old
    no_more = by is_found refl
      where
        by : (b : Bool) → is_found ≡ b → unranked ranks ≤ unranked old
        by true e = let f = h.fewer e in omega (arith, f)
        by false e = let s : unranked ranks ≡ unranked old = ap unranked (h.same e) in omega (arith, s)

    -- A pass that ranks a state has found one.
    pub found_one : (next : ℕ) → AreRanksSoFar r moves ranks next → at < length moves → no_rank ≤ rank_at ranks at →
        IsReadyAt r moves ranks at no_rank → IsPassed r moves old (slice_set ranks at next) at true
    found_one next so_far there none ready =
        let one = one_fewer ranks next at so_far there none ready in
        record { fewer = λ e. omega (arith, one, no_more); same = λ e. absurd (cc); none = λ e. absurd (cc) }

  -- At first no state has a rank.
  pub none_ranked : (ranks : List ℕ) → length ranks ≡ length moves → ((i : ℕ) → no_rank ≤ rank_at ranks i) →
      AreRanksSoFar r moves ranks 0
  none_ranked ranks all none = record {
    all = all;
    sound = λ i l real. let h = none i in absurd (omega (arith, h, real));
    less = λ i real. let h = none i in absurd (omega (arith, h, real));
    room = let h = unranked_few ranks in omega (arith, h, all);
  }
