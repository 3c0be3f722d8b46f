-- The switches of a network after one is replaced.
use Rattle.std.proofs.Common.{◌≡◌, ℕ, ◌+◌, ◌*◌, ◌<◌, List, length, ◌⊎◌, inl, inr, sym, ap, ◌∙◌, get_or-set_same, get_or-set_other}
use Rattle.std.proofs.lemmas.Bool.{cases_eq}
use Rattle.ring_network.specs.Switches.{SwitchLists, empty_switch}
use Rattle.omega_network.specs.Networks.{half}
use Rattle.omega_network.proofs.Lemmas.{one_place, place_within}
use Rattle.ring_network.specs.Networks.{NetworkLists, switch_at}
use Rattle.ring_network.specs.Changes.{with_switch}

module _ (n : NetworkLists) (s i : ℕ) (t : SwitchLists) (stage : s < n.k) (number : i < half n.k) (all : length n.switches ≡ n.k * half n.k) where
  -- The switch that was put in is read at its stage and number.
  pub switch_put : switch_at (with_switch n s i t) s i ≡ t
  switch_put = get_or-set_same n.switches (s * half n.k + i) t (empty_switch 0 0 0 0) (place_within n.k s i (length n.switches) stage number all)

  -- Every other switch is read as before.
  pub switch_kept : (s' i' : ℕ) → i' < half n.k → (s' ≡ s → i' ≡ i → ⊥) → switch_at (with_switch n s i t) s' i' ≡ switch_at n s' i'
  switch_kept s' i' l away =
      get_or-set_other n.switches (s * half n.k + i) (s' * half n.k + i') t (empty_switch 0 0 0 0)
      (λ e. let p = one_place (half n.k) s s' i i' number l e in away p.0 p.1)

  -- If the two outputs or inputs of the new switch are read as before, so are those of all switches.
  pub read_kept : {X : Type 0} (f : SwitchLists → ℕ → List X) → ((v : ℕ) → v < 2 → f t v ≡ f (switch_at n s i) v)
      → (s' i' v : ℕ) → i' < half n.k → v < 2 → f (switch_at (with_switch n s i t) s' i') v ≡ f (switch_at n s' i') v
  read_kept {X} f same s' i' v l m = go (cases_eq s' s) (cases_eq i' i)
    where
      go : (s' ≡ s) ⊎ (s' ≡ s → ⊥) → (i' ≡ i) ⊎ (i' ≡ i → ⊥) → f (switch_at (with_switch n s i t) s' i') v ≡ f (switch_at n s' i') v
      go (inl a) (inl b) =
          (λ j. f (switch_at (with_switch n s i t) (a j) (b j)) v) ∙ ap (λ u. f u v) switch_put ∙ same v m ∙ (λ j. f (switch_at n (sym a j) (sym b j)) v)
      go (inl a) (inr b) = ap (λ u. f u v) (switch_kept s' i' l (λ _ e. b e))
      go (inr a) _ = ap (λ u. f u v) (switch_kept s' i' l (λ e _. a e))
