-- The records of a leader, after one buffer changes.
use Rattle.std.proofs.Common.{◌≡◌, ℕ, suc, Bool, true, false, cond, not, List, [], ◌∷◌, ◌++◌, ◌==◌}
use Rattle.std.proofs.Common.{inl, inr, refl, sym, ap, ◌∙◌, eq-eqb, eqb-true, ne_eqb, append-nil}
use Rattle.std.proofs.lemmas.List.Elements.{filter-append}
use Rattle.messages.specs.declared.message.Record.{Record}
use Rattle.messages.specs.Places.{put2, In}
use Rattle.messages.specs.Queues.{records_of, records_but}
use Rattle.messages.specs.Network.{records_on}
use Rattle.messages.proofs.Lemmas.{In-filter, at_put2, filter_none, put2_other, put2_same}

pub In-records_on : (path : ℕ → ℕ → ℕ) (records : ℕ → ℕ → List Record) (q s : ℕ) (x : Record) → In x (records_on path records q s)
    → In x (records s (path q (suc s))) × (x.leader ≡ q)
In-records_on path records q s x m = let h = In-filter (λ (e : Record). e.leader == q) x (records s (path q (suc s))) m in (h.0, eqb-true x.leader q h.1)

-- A processor that leads no record at a stage has none on its path there.
pub records_none : (path : ℕ → ℕ → ℕ) (records : ℕ → ℕ → List Record) (q s : ℕ) → ((w : ℕ) (z : Record) → In z (records s w) → z.leader ≡ q → ⊥)
    → records_on path records q s ≡ []
records_none path records q s h =
    filter_none (λ (y : Record). y.leader == q) (records s (path q (suc s))) (λ x m e. h (path q (suc s)) x m (eqb-true x.leader q e))

-- If the records at one stage change, those on a path at another stage are as before.
pub records_other_stage : (path : ℕ → ℕ → ℕ) (records : ℕ → ℕ → List Record) (s w : ℕ) (xs : List Record) (q t : ℕ) → (t ≡ s → ⊥)
    → records_on path (put2 records s w xs) q t ≡ records_on path records q t
records_other_stage path records s w xs q t n = ap (records_of q) (put2_other records s w xs t (path q (suc t)) (λ a b. n a))

-- A change of one buffer that keeps q's records there keeps q's records on its path.
pub records_kept : (path : ℕ → ℕ → ℕ) (records : ℕ → ℕ → List Record) (s w : ℕ) (xs : List Record) (q t : ℕ) → records_of q xs ≡ records_of q (records s w)
    → records_on path (put2 records s w xs) q t ≡ records_on path records q t
records_kept path records s w xs q t e = elim (at_put2 records s w xs t (path q (suc t))) [
  | inl h ↦ ap (records_of q) h.2 ∙ e ∙ ap (records_of q) (λ i. records (sym h.0 i) (sym h.1 i))
  | inr h ↦ ap (records_of q) h.1
]

-- If an output gets one more record, those on the path of a processor that does not lead it are as before.
pub records_push_other : (path : ℕ → ℕ → ℕ) (records : ℕ → ℕ → List Record) (s w : ℕ) (z : Record) (q t : ℕ) → (q ≡ z.leader → ⊥)
    → records_on path (put2 records s w (records s w ++ z ∷ [])) q t ≡ records_on path records q t
records_push_other path records s w z q t n = records_kept path records s w (records s w ++ z ∷ []) q t
    (filter-append (λ (y : Record). y.leader == q) (records s w) (z ∷ [])
    ∙ ap (λ b. records_of q (records s w) ++ cond b (z ∷ []) []) (ne_eqb z.leader q (λ e. n (sym e))) ∙ append-nil _)

-- If the output on a leader's path gets one more record of that leader, it is the last on the path there.
pub records_push_same : (path : ℕ → ℕ → ℕ) (records : ℕ → ℕ → List Record) (s w : ℕ) (z : Record) → path z.leader (suc s) ≡ w
    → records_on path (put2 records s w (records s w ++ z ∷ [])) z.leader s ≡ records_on path records z.leader s ++ z ∷ []
records_push_same path records s w z on =
    let keep = records_of z.leader in
    ap (λ v. keep (put2 records s w (records s w ++ z ∷ []) s v)) on
    ∙ ap keep (put2_same records s w (records s w ++ z ∷ []))
    ∙ filter-append (λ (y : Record). y.leader == z.leader) (records s w) (z ∷ [])
    ∙ ap (λ b. keep (records s w) ++ cond b (z ∷ []) []) (eq-eqb z.leader z.leader refl)
    ∙ ap (λ v. keep (records s v) ++ z ∷ []) (sym on)

filter_both : (q p : ℕ) (xs : List Record) → (q ≡ p → ⊥) → records_of q (records_but p xs) ≡ records_of q xs
filter_both q p [] n = refl
filter_both q p (x ∷ xs) n = go (filter_both q p xs n) (x.leader == p) refl
  where
    go : records_of q (records_but p xs) ≡ records_of q xs → (b : Bool) → (x.leader == p) ≡ b
        → records_of q (cond (not b) (x ∷ records_but p xs) (records_but p xs)) ≡ cond (x.leader == q) (x ∷ records_of q xs) (records_of q xs)
    go rec true e = rec ∙ sym (ap (λ b. cond b (x ∷ records_of q xs) (records_of q xs)) (ne_eqb x.leader q (λ f. n (sym f ∙ eqb-true x.leader p e))))
    go rec false e = ap (λ r. cond (x.leader == q) (x ∷ r) r) rec

-- If an output loses p's records, those on the path of another processor are as before.
pub records_drop_other : (path : ℕ → ℕ → ℕ) (records : ℕ → ℕ → List Record) (s w p q t : ℕ) → (q ≡ p → ⊥)
    → records_on path (put2 records s w (records_but p (records s w))) q t ≡ records_on path records q t
records_drop_other path records s w p q t n = records_kept path records s w (records_but p (records s w)) q t (filter_both q p (records s w) n)

-- A processor has the same records at a stage on two paths that have the same wire after that stage.
pub records_path : (path path' : ℕ → ℕ → ℕ) (records : ℕ → ℕ → List Record) (q s : ℕ) → path' q (suc s) ≡ path q (suc s)
    → records_on path' records q s ≡ records_on path records q s
records_path path path' records q s e = ap (λ w. records_of q (records s w)) e
