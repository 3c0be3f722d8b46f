-- Fair ranks of the targets of rows are ranks by which every fair schedule ends; a fair lasso of them is one by which
-- some fair schedule never ends.
use Rattle.std.proofs.Common.{◌≡◌, ◌⊎◌, inl, inr, ℕ, ◌<◌, ◌≤◌, List, [], ◌∷◌, Option, Some, None, length, refl, sym, ap, subst, ◌∙◌, arith}
use Rattle.std.proofs.lemmas.Bool.{cases_lt}
use Rattle.std.specs.Prelude.{IfSome}
use Rattle.std.proofs.lemmas.Option.{slice_get_past}
use Rattle.std.proofs.lemmas.List.{get_or_past}
use Rattle.std.proofs.lemmas.List.FromFn.{length-map-range_with_len}
use Rattle.flat_machine.specs.declared.setting.Setting.{Setting}
use Rattle.local_reduction.specs.LocalStates.{IsReference, LocalState}
use Rattle.local_reduction.specs.Closing.{IsMove, MacroState, MayMove}
use Rattle.local_reduction.specs.Forgetting.{kept_by}
use Rattle.local_reduction.specs.Termination.{IsWalk}
use Rattle.state_graph.specs.declared.certificate.FairCertificate.{FairCertificate}
use Rattle.state_graph.specs.declared.certificate.FairCertificate.TheVariants as certificate
use Rattle.state_graph.specs.declared.lasso.Lasso.{Lasso}
use Rattle.state_graph.specs.Certificates.{IsFairCertificate}
use Rattle.state_graph.specs.Fairness.{AreFairRanks, MayLead, helper_at, no_move, target_at, target_in}
use Rattle.state_graph.specs.Lassos.{IsFairLasso, place_after}
use Rattle.state_graph.specs.Ranks.{no_rank, rank_at, successors_at}
use Rattle.state_search.specs.state_store.declared.state_tables.Extent.{Extent}
use Rattle.state_search.specs.state_store.StateTables.{TableLists, setting_at}
use Rattle.state_search.specs.Search.{state_at}
use Rattle.state_search.specs.Targets.{AreTargets}
use Rattle.exploration.specs.Fairness.{HaveFairLasso, HaveFairRanks, IsFairnessAt, fairness_by}

-- A move by the setting of its own processor alone is a move.
own_move : (at : ℕ → Setting) (code : List ℕ) (kept : LocalState → LocalState) (s t : MacroState) (k : ℕ) → IsMove (λ i. at k) code kept s k t →
    IsMove at code kept s k t
own_move at code kept s t k h = record {
  local_state = h.local_state;
  there = h.there;
  runs = h.runs;
  word = h.word;
  change = h.change;
  after = h.after;
  turn = h.turn;
  count = h.count;
  at_reference = h.at_reference;
  leaves = h.leaves;
}

-- A processor that makes a move may move.
may_of : (at : ℕ → Setting) (code : List ℕ) (kept : LocalState → LocalState) (s t : MacroState) (k : ℕ) → IsMove at code kept s k t → MayMove at code s k
may_of at code kept s t k h = record {
  local_state = h.local_state;
  there = h.there;
  runs = h.runs;
  refers = subst IsReference (sym h.turn) tt;
}

module _ (e : Extent) (code classes : List ℕ) (t : TableLists) (rows targets : List (List ℕ))
    (are : AreTargets e code classes t rows targets (length rows)) where
  -- Only processors of the machine may move.
  within : (i k : ℕ) → MayMove (setting_at e) code (state_at e t rows i) k → k < e.processors
  within i k w = by (cases_lt k e.processors)
    where
      by : (k < e.processors) ⊎ (e.processors ≤ k) → k < e.processors
      by (inl less) = less
      by (inr past) =
          let long : length (state_at e t rows i).local_states ≡ e.processors = length-map-range_with_len _ 0 e.processors in
          let none = slice_get_past (state_at e t rows i).local_states k (omega (arith, long, past)) in
          let both = sym w.there ∙ none in
          absurd (cc)

  module _ (i : ℕ) (less : i < length rows) where
    moved : (k : ℕ) → MayMove (setting_at e) code (state_at e t rows i) k → target_at targets i k < no_move
    moved k w = by (cases_lt (target_at targets i k) no_move)
      where
        by : (target_at targets i k < no_move) ⊎ (no_move ≤ target_at targets i k) → target_at targets i k < no_move
        by (inl lower) = lower
        by (inr past) = absurd (((are.each i less).each k (within i k w)).none past w)

    -- Only processors of the machine have targets.
    target_there : (k : ℕ) → target_at targets i k < no_move → k < e.processors
    target_there k lower = by (cases_lt k e.processors)
      where
        by : (k < e.processors) ⊎ (e.processors ≤ k) → k < e.processors
        by (inl less) = less
        by (inr far) =
            let none = get_or_past (successors_at targets i) k no_move (omega (arith, (are.each i less).all, far)) in
            absurd (omega (arith, none, lower))

    move_of : (k : ℕ) → k < e.processors → target_at targets i k < no_move →
        IsMove (setting_at e) code (kept_by t.live) (state_at e t rows i) k (state_at e t rows (target_at targets i k))
    move_of k there lower = own_move (setting_at e) code (kept_by t.live) (state_at e t rows i) (state_at e t rows (target_at targets i k)) k
        (((are.each i less).each k there).leads lower k refl)

  -- ---- ranks

  module _ (ranks helpers : List ℕ) (fair : AreFairRanks targets ranks helpers) where
    fair_at : (i k : ℕ) → i < length rows → target_at targets i k < no_move →
        (target_at targets i (helper_at helpers i) < no_move) × MayLead ranks helpers (rank_at ranks i) (helper_at helpers i) k (target_at targets i k)
    fair_at i k less lower = fair i (subst (λ n. i < n) (sym are.all) less) k lower

    -- Fair ranks of the targets are ranks by which every fair schedule ends.
    fairly_ranked : HaveFairRanks e code t rows
    fairly_ranked = record {
      ranks = ranks;
      helpers = helpers;
      are = λ i less. record {
        spins = are.calm i less;
        moves = λ k w.
            let lower = (fair_at i k less (moved i less k w)).0 in
            may_of (setting_at e) code (kept_by t.live) (state_at e t rows i) (state_at e t rows (target_at targets i (helper_at helpers i)))
            (helper_at helpers i)
            (move_of i less (helper_at helpers i) (target_there i less (helper_at helpers i) lower) lower);
        leads = λ k w.
            let lower = moved i less k w in
            record {
              next = target_at targets i k;
              within = ((are.each i less).each k (within i k w)).within lower;
              move = move_of i less k (within i k w) lower;
              lesser = (fair_at i k less lower).1;
            };
      };
    }

  -- ---- lassos

  module _ (few : length rows ≤ no_rank) where
    -- No move leads from where there is no row.
    outside : (i : ℕ) (movers : List ℕ) → length rows ≤ i → length rows ≤ place_after targets i movers
    outside i [] past = past
    outside i (k ∷ movers) past =
        let all : length targets ≡ length rows = are.all in
        let none : successors_at targets i ≡ [] = get_or_past targets i [] (omega (arith, all, past)) in
        let no : target_at targets i k ≡ no_move = ap (λ list. target_in list k) none ∙ get_or_past [] k no_move (omega arith) in
        outside (target_at targets i k) movers (omega (arith, few, no))

    inside : (i : ℕ) (movers : List ℕ) → place_after targets i movers < length rows → i < length rows
    inside i movers there = by (cases_lt i (length rows))
      where
        by : (i < length rows) ⊎ (length rows ≤ i) → i < length rows
        by (inl less) = less
        by (inr past) = let far = outside i movers past in absurd (omega (arith, far, there))

    -- Moves that lead to a row are a walk to its state.
    walk : (movers : List ℕ) (i : ℕ) → place_after targets i movers < length rows →
        IsWalk (setting_at e) code (kept_by t.live) (state_at e t rows i) movers (state_at e t rows (place_after targets i movers))
    walk [] i there = refl
    walk (k ∷ movers) i there =
        let less = inside i (k ∷ movers) there in
        let within = inside (target_at targets i k) movers there in
        let lower : target_at targets i k < no_move = omega (arith, within, few) in (
          are.calm i less,
          state_at e t rows (target_at targets i k),
          move_of i less k (target_there i less k lower) lower,
          walk movers (target_at targets i k) there,
        )

    -- A fair lasso of the targets is one of the rows.
    fair_lasso : (lasso : Lasso) → IsFairLasso targets lasso.stem.items lasso.cycle.items → HaveFairLasso e code t rows lasso
    fair_lasso lasso round = record {
      state = state_at e t rows place;
      stem = walk lasso.stem.items 0 there;
      cycle = record {
        some = round.some;
        back = subst (λ p. IsWalk (setting_at e) code (kept_by t.live) (state_at e t rows place) lasso.cycle.items (state_at e t rows p)) round.back
            (walk lasso.cycle.items place (subst (λ p. p < length rows) (sym round.back) there));
        fair = λ k w. round.fair k (moved place there k w);
      };
    }
      where
        place : ℕ
        place = place_after targets 0 lasso.stem.items

        there : place_after targets 0 lasso.stem.items < length rows
        there = subst (λ n. place_after targets 0 lasso.stem.items < n) are.all round.there

    -- What is found shows what is said of fair schedules.
    pub certified : (found : Option FairCertificate) → IfSome found (IsFairCertificate targets) → IsFairnessAt e code t rows (fairness_by found)
    certified None h = tt
    certified (Some (certificate.Ranks ranks)) h = fairly_ranked ranks.ranks.items ranks.helpers.items h
    certified (Some (certificate.Lasso lasso)) h = fair_lasso lasso h
