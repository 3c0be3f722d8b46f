-- If a walk leads to a fair cycle, some fair schedule never ends.
use Rattle.std.proofs.Common.{◌≡◌, ◌⊎◌, inl, inr, ℕ, ◌+◌, ◌<◌, zero, suc, List, [], ◌∷◌, length, refl, sym, ap, subst, ◌∙◌, arith}
use Rattle.std.specs.Prelude.{slice_get, slice_index_or}
use Rattle.std.proofs.lemmas.Bool.{cases_eq}
use Rattle.flat_machine.specs.declared.setting.Setting.{Setting}
use Rattle.flat_machine.specs.State.{FlatState}
use Rattle.flat_machine.proofs.Lemmas.{set_other}
use Rattle.local_reduction.specs.LocalStates.{LocalState}
use Rattle.local_reduction.specs.Closing.{HasSpinner, IsForgetful, IsMove, MacroState, MayMove, ReachesMacroState}
use Rattle.local_reduction.specs.Termination.{IsEndlessBy, IsFairCycle, IsWalk, mover_of}
use Rattle.local_reduction.proofs.FairWays.{IsFairWay, way_endless}

-- ---- the movers

-- The stem has its processors at their places.
in_stem : (stem cycle : List ℕ) (k i : ℕ) → i < length stem → slice_index_or stem i k ≡ k → mover_of stem cycle i ≡ k
in_stem [] cycle k i less is = absurd (omega (arith, less))
in_stem (j ∷ stem) cycle k zero less is = is
in_stem (j ∷ stem) cycle k (suc i) less is = in_stem stem cycle k i (omega (arith, less)) is

-- After the stem, the cycle has its processors at their places.
in_cycle : (c : ℕ) (cs : List ℕ) (k i : ℕ) → i < length (c ∷ cs) → slice_index_or (c ∷ cs) i k ≡ k → mover_of [] (c ∷ cs) i ≡ k
in_cycle c cs k zero less is = is
in_cycle c cs k (suc i) less is = in_stem cs (c ∷ cs) k i (omega (arith, less)) is

module _ (at : ℕ → Setting) (code : List ℕ) (kept : LocalState → LocalState) where
  -- A move leaves each other processor as it is.
  may_on : (s t : MacroState) (j k : ℕ) → IsMove at code kept s j t → (k ≡ j → ⊥) → MayMove at code s k → MayMove at code t k
  may_on s t j k move other w = record {
    local_state = w.local_state;
    there = ap (λ (u : MacroState). slice_get u.local_states k) move.leaves ∙ (set_other s.local_states j k _ other ∙ w.there);
    runs = w.runs;
    refers = w.refers;
  }

  module _ (t : MacroState) (c : ℕ) (cs : List ℕ) (round : IsFairCycle at code kept t (c ∷ cs)) where
    -- A state from which a walk leads to the cycle.
    record Place : Type 0 where
      pub state : MacroState
      pub ahead : List ℕ
      pub walk : IsWalk at code kept state ahead t

    -- The next move from a state, with the walk that is ahead then.
    record Step (s : MacroState) (ahead : List ℕ) : Type 0 where
      pub calm : HasSpinner at code s → ⊥
      pub next : Place
      pub move : IsMove at code kept s (mover_of ahead (c ∷ cs) 0) next.state
      pub later : (i : ℕ) → mover_of ahead (c ∷ cs) (suc i) ≡ mover_of next.ahead (c ∷ cs) i

    step_of : (s : MacroState) (ahead : List ℕ) → IsWalk at code kept s ahead t → Step s ahead
    step_of s (k ∷ ks) walk = record {
      calm = walk.0;
      next = record { state = walk.1; ahead = ks; walk = walk.3 };
      move = walk.2;
      later = λ i. refl;
    }
    step_of s [] same = record {
      calm = subst (λ u. HasSpinner at code u → ⊥) (sym same) back.0;
      next = record { state = back.1; ahead = cs; walk = back.3 };
      move = subst (λ u. IsMove at code kept u c back.1) (sym same) back.2;
      later = λ i. refl;
    }
      where
        back : IsWalk at code kept t (c ∷ cs) t
        back = round.back

    step : (p : Place) → Step p.state p.ahead
    step p = step_of p.state p.ahead p.walk

    -- the place after this many moves
    after : Place → ℕ → Place
    after p zero = p
    after p (suc i) = (step (after p i)).next

    shifted : (p : Place) (i : ℕ) → after (step p).next i ≡ after p (suc i)
    unfolding step after
    shifted p zero = refl
    shifted p (suc i) = ap (λ q. (step q).next) (shifted p i)

    -- The movers after some moves are those of the walk that is ahead then.
    movers_on : (i d : ℕ) (p : Place) → mover_of p.ahead (c ∷ cs) (i + d) ≡ mover_of (after p i).ahead (c ∷ cs) d
    unfolding after
    movers_on zero d p = let here : 0 + d ≡ d = omega arith in ap (mover_of p.ahead (c ∷ cs)) here
    movers_on (suc i) d p =
        let next : suc i + d ≡ suc (i + d) = omega arith in
        ap (mover_of p.ahead (c ∷ cs)) next
        ∙ ((step p).later (i + d) ∙ (movers_on i d (step p).next ∙ ap (λ (q : Place). mover_of q.ahead (c ∷ cs) d) (shifted p i)))

    -- A processor that may move where the cycle begins moves in it.
    moves_in_cycle : (k : ℕ) → MayMove at code t k → (d : ℕ) × (mover_of [] (c ∷ cs) d ≡ k)
    moves_in_cycle k w = let x = round.fair k w in (x.0, in_cycle c cs k x.0 x.1 x.2)

    -- A processor that may move moves later.
    moves_later : (ahead : List ℕ) (s : MacroState) → IsWalk at code kept s ahead t → (k : ℕ) → MayMove at code s k →
        (d : ℕ) × (mover_of ahead (c ∷ cs) d ≡ k)
    moves_later [] s same k w = moves_in_cycle k (subst (λ u. MayMove at code u k) same w)
    moves_later (j ∷ ahead) s walk k w = by (moves_later ahead walk.1 walk.3 k) (cases_eq k j)
      where
        by : (MayMove at code walk.1 k → (d : ℕ) × (mover_of ahead (c ∷ cs) d ≡ k)) → (k ≡ j) ⊎ (k ≡ j → ⊥) →
            (d : ℕ) × (mover_of (j ∷ ahead) (c ∷ cs) d ≡ k)
        by again (inl mine) = (0, sym mine)
        by again (inr other) = let x = again (may_on s walk.1 j k walk.2 other w) in (suc x.0, x.1)

    fair_way : (p : Place) → IsFairWay at code kept (λ i. (after p i).state) (mover_of p.ahead (c ∷ cs))
    unfolding after step
    fair_way p = record {
      calm = λ i. (step (after p i)).calm;
      move = λ i.
          let same : i ≡ i + 0 = omega arith in
          subst (λ k. IsMove at code kept (after p i).state k (after p (suc i)).state)
          (sym (ap (mover_of p.ahead (c ∷ cs)) same ∙ movers_on i 0 p)) (step (after p i)).move;
      fair = λ i k w.
          let x = moves_later (after p i).ahead (after p i).state (after p i).walk k w in
          (x.0, movers_on i x.0 p ∙ x.1);
    }

-- If a walk leads from the state that the flat machine reaches to a fair cycle, some fair schedule never ends, and its
-- references are those of the walk, and then those of the cycle, again and again.
pub cycles_endless : (at : ℕ → Setting) (code : List ℕ) (kept : LocalState → LocalState) (m : FlatState) (consoles : ℕ → List ℕ) (s : MacroState)
    (stem : List ℕ) (t : MacroState) (cycle : List ℕ) → IsForgetful at code kept → ReachesMacroState at code kept m consoles s →
    IsWalk at code kept s stem t → IsFairCycle at code kept t cycle → IsEndlessBy m stem cycle
unfolding after
cycles_endless at code kept m consoles s stem t [] f reaches walk round = let some = round.some in absurd (omega (arith, some))
cycles_endless at code kept m consoles s stem t (c ∷ cs) f reaches walk round =
    way_endless at code kept (λ i. (after at code kept t c cs round first i).state) (mover_of stem (c ∷ cs)) m consoles f reaches
    (fair_way at code kept t c cs round first)
  where
    first : Place at code kept t c cs round
    first = record { state = s; ahead = stem; walk = walk }
