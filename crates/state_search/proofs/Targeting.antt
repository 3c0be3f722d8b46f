-- The targets of a row, and how they are found.
use Rattle.std.proofs.Common.{◌≡◌, ◌⊎◌, inl, inr, ℕ, ◌+◌, ◌<◌, ◌≤◌, List, [], ◌∷◌, ◌++◌, Option, Some, None, length}
use Rattle.std.proofs.Common.{refl, sym, ap, subst, ◌∙◌, arith, length-append}
use Rattle.std.specs.Prelude.{IfSome, slice_get, slice_index_or}
use Rattle.std.proofs.lemmas.Bool.{cases_lt}
use Rattle.std.proofs.lemmas.List.{get_or_append_left, get_or_push}
use Rattle.state_store.specs.local_reduction.Closing.{MacroState}
use Rattle.state_store.specs.local_reduction.Exchanging.{IsMoveOfAny}
use Rattle.state_store.specs.local_reduction.Forgetting.{kept_by}
use Rattle.state_graph.specs.Fairness.{no_move, target_in}
use Rattle.state_graph.specs.Ranks.{successors_at}
use Rattle.state_store.specs.declared.state_tables.Extent.{Extent}
use Rattle.state_store.specs.Moves.{Spinning}
use Rattle.state_store.specs.StateTables.{HasGrown, TableLists, setting_at, means, IsRow}
use Rattle.state_store.proofs.Lemmas.{found_at, means_kept, row_kept}
use Rattle.state_search.specs.Ends.{AreRows}
use Rattle.state_search.specs.Search.{state_at}
use Rattle.state_search.specs.Targets.{AreTargets, AreTargetsOf, IsTarget}

module _ (e : Extent) (code classes : List ℕ) (t : TableLists) (rows : List (List ℕ)) where
  -- No processor has a target yet.
  pub none_yet : (s : MacroState) → AreTargetsOf e code classes t rows s [] 0
  none_yet s = record { all = refl; each = λ k less. absurd (omega (arith, less)) }

  -- One more target is that of the next processor.
  pub one_more : (s : MacroState) (list : List ℕ) (count target : ℕ) → AreTargetsOf e code classes t rows s list count →
      IsTarget e code classes t rows s count target → AreTargetsOf e code classes t rows s (list ++ target ∷ []) (count + 1)
  one_more s list count target are is = record {
    all = let long = length-append list (target ∷ []) in let had = are.all in omega (arith, long, had);
    each = λ k less. by k less (cases_lt k count);
  }
    where
      by : (k : ℕ) → k < count + 1 → (k < count) ⊎ (count ≤ k) → IsTarget e code classes t rows s k (target_in (list ++ target ∷ []) k)
      by k less (inl lower) =
          subst (IsTarget e code classes t rows s k) (sym (get_or_append_left list (target ∷ []) no_move k (let had = are.all in omega (arith, lower, had))))
          (are.each k lower)
      by k less (inr past) =
          let here : k ≡ count = omega (arith, less, past) in
          let at : target_in (list ++ target ∷ []) count ≡ target = get_or_push list target no_move count are.all in
          subst (λ (j : ℕ). IsTarget e code classes t rows s j (target_in (list ++ target ∷ []) j)) (sym here)
          (subst (IsTarget e code classes t rows s count) (sym at) is)

  -- The rows stay rows as the tables grow.
  pub rows_kept : (u : TableLists) → HasGrown t u → AreRows e t rows → AreRows e u rows
  rows_kept u kept are i less = row_kept e t u (slice_index_or rows i []) kept (are i less)

  -- A target in the grown tables is a target in the old ones.
  pub target_kept : (u : TableLists) → HasGrown t u → AreRows e t rows → (s : MacroState) (k target : ℕ) → IsTarget e code classes u rows s k target →
      IsTarget e code classes t rows s k target
  target_kept u kept are s k target is = record {
    none = is.none;
    within = is.within;
    leads = λ lower.
        subst (λ (z : MacroState). IsMoveOfAny (setting_at e) code (kept_by t.live) classes s k z)
        (sym (means_kept e t u (slice_index_or rows target []) kept (are target (is.within lower))))
        (subst (λ live. IsMoveOfAny (setting_at e) code (kept_by live) classes s k (state_at e u rows target)) kept.live (is.leads lower));
  }

  -- If a move leads to a row, and the row is found, its place is the target.
  pub moved_to : (u : TableLists) → HasGrown t u → AreRows e t rows → (s : MacroState) (k : ℕ) (row : List ℕ) →
      IsRow e u row × IsMoveOfAny (setting_at e) code (kept_by u.live) classes s k (means e u row) → (found : Option ℕ) →
      IfSome found (λ i. i < no_move) → IfSome found (λ i. i < length rows) → IfSome found (λ i. slice_index_or rows i [] ≡ row) →
      IfSome found (IsTarget e code classes t rows s k)
  moved_to u kept are s k row moved None small within is = tt
  moved_to u kept are s k row moved (Some i) small within is =
      target_kept u kept are s k i (record {
        none = λ past. absurd (omega (arith, past, small));
        within = λ lower. within;
        leads = λ lower. subst (λ r. IsMoveOfAny (setting_at e) code (kept_by u.live) classes s k (means e u r)) (sym is) moved.1;
      })

  -- Targets in the grown tables are targets in the old ones.
  pub targets_kept : (u : TableLists) → HasGrown t u → AreRows e t rows → (s : MacroState) (list : List ℕ) (count : ℕ) →
      AreTargetsOf e code classes u rows s list count → AreTargetsOf e code classes t rows s list count
  targets_kept u kept are s list count h = record {
    all = h.all;
    each = λ k less. target_kept u kept are s k (target_in list k) (h.each k less);
  }

  -- No row has targets yet.
  pub none_targeted : AreTargets e code classes t rows [] 0
  none_targeted = record { all = refl; calm = λ i less. absurd (omega (arith, less)); each = λ i less. absurd (omega (arith, less)) }

  -- One more row has its targets.
  pub one_targeted : (targets : List (List ℕ)) (list : List ℕ) (count : ℕ) → AreTargets e code classes t rows targets count →
      (Spinning e code (state_at e t rows count) → ⊥) → AreTargetsOf e code classes t rows (state_at e t rows count) list e.processors →
      AreTargets e code classes t rows (targets ++ list ∷ []) (count + 1)
  one_targeted targets list count are calm of = record {
    all = let long = length-append targets (list ∷ []) in let had = are.all in omega (arith, long, had);
    calm = λ i less. elim (cases_lt i count) [
      | inl lower ↦ are.calm i lower
      | inr past ↦ subst (λ j. Spinning e code (state_at e t rows j) → ⊥) (omega (arith, less, past)) calm
    ];
    each = λ i less. by i less (cases_lt i count);
  }
    where
      by : (i : ℕ) → i < count + 1 → (i < count) ⊎ (count ≤ i) →
          AreTargetsOf e code classes t rows (state_at e t rows i) (successors_at (targets ++ list ∷ []) i) e.processors
      by i less (inl lower) =
          subst (λ l. AreTargetsOf e code classes t rows (state_at e t rows i) l e.processors)
          (sym (get_or_append_left targets (list ∷ []) [] i (let had = are.all in omega (arith, lower, had)))) (are.each i lower)
      by i less (inr past) =
          let here : count ≡ i = omega (arith, less, past) in
          subst (λ (j : ℕ). AreTargetsOf e code classes t rows (state_at e t rows j) (successors_at (targets ++ list ∷ []) j) e.processors) here
          (subst (λ l. AreTargetsOf e code classes t rows (state_at e t rows count) l e.processors) (sym (get_or_push targets list [] count are.all)) of)

  -- What is found of a row in grown tables holds of the row at its place in the old ones.
  pub found_row : (u : TableLists) → HasGrown t u → AreRows e t rows → (i : ℕ) (row list : List ℕ) → slice_get rows i ≡ Some row →
      (Spinning e code (means e u row) → ⊥) → AreTargetsOf e code classes u rows (means e u row) list e.processors →
      (Spinning e code (state_at e t rows i) → ⊥) × AreTargetsOf e code classes t rows (state_at e t rows i) list e.processors
  found_row u kept are i row list e' calm of =
      let there = found_at rows i row [] e' in
      let is : means e u row ≡ state_at e t rows i =
      sym (ap (means e t) there.1 ∙ means_kept e t u row kept (subst (IsRow e t) there.1 (are i there.0))) in (
        subst (λ s. Spinning e code s → ⊥) is calm,
        subst (λ s. AreTargetsOf e code classes t rows s list e.processors) is
            (targets_kept u kept are (means e u row) list e.processors of),
      )
