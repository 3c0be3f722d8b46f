-- The seconds of records keep their free cells, and each is the second of one record.
use Rattle.std.proofs.Common.{◌≡◌, ℕ, ◌<◌, List, [], ◌∷◌, ◌++◌, ◌⊎◌, inl, inr, sym, ap, ◌∙◌, subst}
use Rattle.messages.specs.declared.message.Record.{Record}
use Rattle.messages.specs.Places.{ApartBy, In, put2}
use Rattle.messages.proofs.Lemmas.{ApartBy-push, In-append, In-put2, each_put2}
use Rattle.combining_switch.specs.Pools.{IsFree, PoolLists}
use Rattle.omega_network.specs.Networks.{AreSeconds, second_of}

-- If queues change and the cells of the seconds stay free, the condition on seconds still holds.
pub queues_changed : (pool pool' : PoolLists) (R : ℕ → ℕ → List Record) → AreSeconds pool R → pool.cells ≡ pool'.cells →
    ((s w : ℕ) (e : Record) → In e (R s w) → IsFree pool e.second → IsFree pool' e.second) → AreSeconds pool' R
queues_changed pool pool' R is cells free = record {
  cells = λ s w e m. subst (λ n. e.second < n) cells (is.cells s w e m);
  free = λ s w e m. free s w e m (is.free s w e m);
  apart = is.apart;
  once = is.once;
}

-- some records of an output are dropped
module _ (R : ℕ → ℕ → List Record) (s w : ℕ) (es : List Record) (of_them : (e : Record) → In e es → In e (R s w)) where
  -- A record that is left after others are dropped was in the network before.
  pub was_there : (s' w' : ℕ) (f : Record) → In f (put2 R s w es s' w') → In f (R s' w')
  was_there s' w' f m = go (In-put2 R s w es s' w' f m)
    where
      go : ((s' ≡ s) × (w' ≡ w) × In f es) ⊎ ((s' ≡ s → w' ≡ w → ⊥) × In f (R s' w')) → In f (R s' w')
      go (inl h) = let there : In f (R s w) = of_them f h.2 in subst (λ v. In f (R s' v)) (sym h.1) (subst (λ t. In f (R t w)) (sym h.0) there)
      go (inr h) = h.1

  -- If records are dropped, the seconds of the others still have free cells, and each is the second of one record.
  pub records_dropped : (pool : PoolLists) → AreSeconds pool R → ApartBy second_of es → AreSeconds pool (put2 R s w es)
  records_dropped pool is apart = record {
    cells = λ s' w' f m. is.cells s' w' f (was_there s' w' f m);
    free = λ s' w' f m. is.free s' w' f (was_there s' w' f m);
    apart = each_put2 (ApartBy second_of) R s w es apart is.apart;
    once = λ s' w' t v f g m o. is.once s' w' t v f g (was_there s' w' f m) (was_there t v g o);
  }

-- The record was in the network before, or is the new one at its place.
data Found (R : ℕ → ℕ → List Record) (s w : ℕ) (e : Record) (s' w' : ℕ) (f : Record) : Type 0 where
  is_old : In f (R s' w') → Found R s w e s' w' f
  is_new : s' ≡ s → w' ≡ w → f ≡ e → Found R s w e s' w' f

module _ (R : ℕ → ℕ → List Record) (s w : ℕ) (e : Record) where
  found : (s' w' : ℕ) (f : Record) → In f (put2 R s w (R s w ++ e ∷ []) s' w') → Found R s w e s' w' f
  found s' w' f m = go (In-put2 R s w (R s w ++ e ∷ []) s' w' f m)
    where
      there : s' ≡ s → w' ≡ w → In f (R s w) ⊎ In f (e ∷ []) → Found R s w e s' w' f
      there a b (inl o) = is_old (subst (λ v. In f (R s' v)) (sym b) (subst (λ t. In f (R t w)) (sym a) o))
      there a b (inr (inl n)) = is_new a b n
      there a b (inr (inr n)) = absurd n

      go : ((s' ≡ s) × (w' ≡ w) × In f (R s w ++ e ∷ [])) ⊎ ((s' ≡ s → w' ≡ w → ⊥) × In f (R s' w')) → Found R s w e s' w' f
      go (inl h) = there h.0 h.1 (In-append f (R s w) (e ∷ []) h.2)
      go (inr h) = is_old h.1

  -- If a record is added whose second has a free cell and is that of no other record, the condition on seconds still
  -- holds.
  pub record_added : (pool : PoolLists) → AreSeconds pool R → e.second < pool.cells → IsFree pool e.second →
      ((s' w' : ℕ) (f : Record) → In f (R s' w') → f.second ≡ e.second → ⊥) → AreSeconds pool (put2 R s w (R s w ++ e ∷ []))
  record_added pool is below free none = record {
    cells = λ s' w' f m. elim (found s' w' f m) [
      | is_old o ↦ is.cells s' w' f o
      | is_new a b n ↦ subst (λ (g : Record). g.second < pool.cells) (sym n) below
    ];
    free = λ s' w' f m. elim (found s' w' f m) [
      | is_old o ↦ is.free s' w' f o
      | is_new a b n ↦ subst (λ (g : Record). IsFree pool g.second) (sym n) free
    ];
    apart = each_put2 (ApartBy second_of) R s w (R s w ++ e ∷ []) (ApartBy-push second_of (R s w) e (is.apart s w) (λ f m q. none s w f m q)) is.apart;
    once = λ s' w' t v f g m o same. both s' w' t v f g same (found s' w' f m) (found t v g o);
  }
    where
      both : (s' w' t v : ℕ) (f g : Record) → f.second ≡ g.second → Found R s w e s' w' f → Found R s w e t v g → (s' ≡ t) × (w' ≡ v)
      both s' w' t v f g same (is_old m) (is_old o) = is.once s' w' t v f g m o same
      both s' w' t v f g same (is_old m) (is_new a b n) = absurd (none s' w' f m (same ∙ ap second_of n))
      both s' w' t v f g same (is_new a b n) (is_old o) = absurd (none t v g o (sym same ∙ ap second_of n))
      both s' w' t v f g same (is_new a b n) (is_new a' b' n') = (a ∙ sym a', b ∙ sym b')
