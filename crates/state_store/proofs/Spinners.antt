-- A processor spins in the state of a row exactly if one of the row's local states goes on.
use Rattle.std.proofs.Common.{◌≡◌, ◌⊎◌, inl, inr, ℕ, ◌+◌, ◌-◌, ◌<◌, List, refl, sym, subst, arith}
use Rattle.std.specs.Prelude.{slice_index}
use Rattle.flat_machine.specs.declared.setting.Setting.{Setting}
use Rattle.local_reduction.specs.LocalStates.{LocalState, IsReference, GoesOn}
use Rattle.local_reduction.specs.Closing.{IsForgetful}
use Rattle.local_reduction.specs.Forgetting.{kept_by}
use Rattle.local_reduction.proofs.Lemmas.{goes_alike, reference_same}
use Rattle.state_store.specs.declared.state_tables.Extent.{Extent}
use Rattle.state_store.specs.Placed.{Placed, IsGoingOn}
use Rattle.state_store.specs.Moves.{Spinning}
use Rattle.state_store.specs.StateTables.{TableLists, placed_at, setting_at, own_setting, means, IsRow}
use Rattle.state_store.proofs.Listed.{listed_is, listed_there, up_to}

module _ (e : Extent) (code : List ℕ) (t : TableLists) (row : List ℕ) (h : IsRow e t row) (forgets : IsForgetful (setting_at e) code (kept_by t.live)) where
  abbrev at : ℕ → Placed
  at p = placed_at t (slice_index row p)

  other_setting : (p : ℕ) (a : LocalState) (s u : Setting) → s.processors ≡ u.processors → s.shared_words ≡ u.shared_words →
      GoesOn s code a.processor → GoesOn u code a.processor
  other_setting p a s u processors words on = (
    on.0,
    λ refers. on.1 (subst IsReference
        (reference_same u s (record { processors = sym processors; shared_words = sym words }) code a.processor refers) refers),
  )

  -- If the local state of a processor goes on, some processor of the state spins.
  pub spins_if : (p : ℕ) → p < e.processors → IsGoingOn code (placed_at t (slice_index row p)) → Spinning e code (means e t row)
  spins_if p few on = record {
    processor = p;
    local_state = kept_by t.live (at p).local_state;
    there = listed_there (λ q. kept_by t.live (placed_at t (slice_index row q)).local_state) e.processors p few;
    goes_on = goes_alike (setting_at e) code (kept_by t.live) forgets p (at p).local_state (kept_by t.live (at p).local_state)
        (sym (forgets.once (at p).local_state))
        (other_setting p (at p).local_state (own_setting e p) (setting_at e p) refl refl
        (subst (λ s. GoesOn s code (at p).local_state.processor) (h.own p few) on));
  }

  -- If some processor of the state spins, the local state of a processor goes on.
  pub spins_only_if : Spinning e code (means e t row) → (p : ℕ) × (p < e.processors) × IsGoingOn code (placed_at t (slice_index row p))
  spins_only_if spins =
      let p = spins.processor in
      let found = listed_is (λ q. kept_by t.live (placed_at t (slice_index row q)).local_state) e.processors p spins.local_state spins.there in (
        p,
        found.0,
        subst (λ s. GoesOn s code (at p).local_state.processor) (sym (h.own p found.0))
            (other_setting p (at p).local_state (setting_at e p) (own_setting e p) refl refl
            (goes_alike (setting_at e) code (kept_by t.live) forgets p (kept_by t.live (at p).local_state) (at p).local_state
            (forgets.once (at p).local_state)
            (subst (λ (a : LocalState). GoesOn (setting_at e p) code a.processor) (sym found.1) spins.goes_on))),
      )

  -- None of the first `count` processors goes on.
  abbrev pub NoneGoesOn : ℕ → Type 0
  NoneGoesOn count = (q : ℕ) → q < count → IsGoingOn code (placed_at t (slice_index row q)) → ⊥

  -- If none of the first p processors goes on, nor the next, none of the first p + 1 does.
  pub none_more : (p : ℕ) → NoneGoesOn p → (IsGoingOn code (placed_at t (slice_index row p)) → ⊥) → NoneGoesOn (p + 1)
  none_more p none own q below on = by (up_to q p below)
    where
      by : (q < p) ⊎ (q ≡ p) → ⊥
      by (inl less) = none q less on
      by (inr same) = own (subst (λ i. IsGoingOn code (placed_at t (slice_index row i))) same on)

  -- If none of the first p processors goes on, and the next has the number of the last, none of the first p + 1 does.
  pub none_repeated : (p : ℕ) → NoneGoesOn p → (0 < p) × (slice_index row p ≡ slice_index row (p - 1)) → NoneGoesOn (p + 1)
  none_repeated p none same =
      none_more p none (λ on.
      let some = same.0 in
      none (p - 1) (omega (arith, some)) (subst (λ i. IsGoingOn code (placed_at t i)) same.1 on))
