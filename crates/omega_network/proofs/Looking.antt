-- The sets are right after a change, once each wire that may have changed was looked at.
use Rattle.std.proofs.Common.{◌≡◌, ℕ, ◌^◌, ◌<◌, ◌≤◌, ◌⊎◌, inl, inr, List, sym, ap, ◌∙◌, subst, arith, pow_mono}
use Rattle.std.specs.Prelude.{is_some, slice_get}
use Rattle.std.proofs.lemmas.Bool.{cases_eq}
use Rattle.omega_network.specs.Index.{IsKnown, IsLookedAt, Knows}

-- A wire of a network of at most six stages is below 64.
pub few_wires : (k w : ℕ) → k ≤ 6 → w < 2 ^ k → w < 64
few_wires k w few within = (let most : 2 ^ k ≤ 2 ^ 6 = pow_mono few in omega (arith, within, most))

module _ {X : Type 0} (k : ℕ) (before after : ℕ → ℕ → List X) where
  -- If a place has the same messages as before, the sets are right there if they were.
  same_known : (sets : List ℕ) (d w : ℕ) → after d w ≡ before d w → IsKnown before sets d w → IsKnown after sets d w
  same_known sets d w same is = is ∙ ap (λ xs. is_some (slice_get xs 0)) (sym same)

  -- After a place was looked at, the sets are right there, and elsewhere if they were.
  here : (sets sets' : List ℕ) (d' w' d w : ℕ) → IsLookedAt k after d' w' sets sets' → ((d ≡ d' → w ≡ w' → ⊥) → IsKnown after sets d w) →
      IsKnown after sets' d w
  here sets sets' d' w' d w look others = by (cases_eq d d') (cases_eq w w')
    where
      by : (d ≡ d') ⊎ (d ≡ d' → ⊥) → (w ≡ w') ⊎ (w ≡ w' → ⊥) → IsKnown after sets' d w
      by (inl a) (inl e) = subst (λ n. IsKnown after sets' n w) (sym a) (subst (λ n. IsKnown after sets' d' n) (sym e) look.seen)
      by (inl a) (inr n) = look.kept d w (others (λ _ b. n b))
      by (inr n) _ = look.kept d w (others (λ b _. n b))

  -- If messages changed on at most one wire, the sets are right once this wire was looked at.
  pub one_look : (sets sets' : List ℕ) (d1 w1 : ℕ) → Knows k before sets → ((d w : ℕ) → (d ≡ d1 → w ≡ w1 → ⊥) → after d w ≡ before d w) →
      IsLookedAt k after d1 w1 sets sets' → Knows k after sets'
  one_look sets sets' d1 w1 knows same look = record {
    there = λ d w deep wire. here sets sets' d1 w1 d w look (λ away. same_known sets d w (same d w away) (knows.there d w deep wire));
    few = λ d w past. look.few d w past (knows.few d w past);
  }

  -- If messages changed on at most three wires, the sets are right once these were looked at, one after another.
  pub three_looks : (sets sets1 sets2 sets3 : List ℕ) (d1 w1 d2 w2 d3 w3 : ℕ) → Knows k before sets
      → ((d w : ℕ) → (d ≡ d1 → w ≡ w1 → ⊥) → (d ≡ d2 → w ≡ w2 → ⊥) → (d ≡ d3 → w ≡ w3 → ⊥) → after d w ≡ before d w)
      → IsLookedAt k after d1 w1 sets sets1 → IsLookedAt k after d2 w2 sets1 sets2 → IsLookedAt k after d3 w3 sets2 sets3 → Knows k after sets3
  three_looks sets sets1 sets2 sets3 d1 w1 d2 w2 d3 w3 knows same one two three = record {
    there = λ d w deep wire.
        here sets2 sets3 d3 w3 d w three
        (λ away3. here sets1 sets2 d2 w2 d w two (λ away2. here sets sets1 d1 w1 d w one
        (λ away1. same_known sets d w (same d w away1 away2 away3) (knows.there d w deep wire))));
    few = λ d w past. three.few d w past (two.few d w past (one.few d w past (knows.few d w past)));
  }

  -- If no message changed, the sets are still right.
  pub no_look : (sets : List ℕ) → after ≡ before → Knows k before sets → Knows k after sets
  no_look sets same knows = subst (λ messages. Knows k messages sets) (sym same) knows
