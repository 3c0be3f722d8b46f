-- Sets after a wire is added or removed.
use Rattle.std.proofs.Common.{◌≡◌, ℕ, ◌<◌, ◌≤◌, ◌*◌, ◌%◌, ◌^◌, ◌/◌, true, false, ◌⊎◌, inl, inr, sym, ap, ◌∙◌, arith, bit_and, bit_or, eq-eqb}
use Rattle.std.specs.Prelude.{◌==◌, if◌then◌else◌}
use Rattle.std.specs.Int.{bit_at, bit_not, w64}
use Rattle.std.proofs.lemmas.Bool.{cases_eq, cases_lt, ne_eqb}
use Rattle.std.proofs.lemmas.Nat.Bits.{bit_at_set_same, bit_at_set_other, bit_at_clear_same, bit_at_clear_other}
use Rattle.std.proofs.lemmas.Nat.Bits.{bit_at_above, bit_at-zero, bit_at_and, shr_and_one}
use Rattle.omega_wires.specs.Members.{members}

-- The set of the number 0 has no wire.
pub empty_has_none : (w : ℕ) → members 0 w ≡ false
unfolding members
empty_has_none w = ap (λ b. b == 1) (bit_at-zero w)

-- A wire is in the set exactly if its bit, shifted to the lowest place, is one.
pub bit_is_member : (n w : ℕ) → (bit_and (n / 2 ^ w) 1 == 1) ≡ members n w
unfolding members
bit_is_member n w = ap (λ b. b == 1) (shr_and_one n w)

module _ (n k : ℕ) (within : k < 64) where
  -- After bit k is set, the set has wire k, and each other wire as before.
  pub member_came : (w : ℕ) → members (bit_or n (1 * 2 ^ k % 2 ^ 64)) w ≡ (if w == k then true else members n w)
  unfolding members
  member_came w = go (cases_eq w k)
    where
      go : (w ≡ k) ⊎ (w ≡ k → ⊥) → (bit_at (bit_or n (1 * 2 ^ k % 2 ^ 64)) w == 1) ≡ (if w == k then true else (bit_at n w == 1))
      go (inl e) = ap (λ v. bit_at (bit_or n (1 * 2 ^ k % 2 ^ 64)) v == 1) e ∙ ap (λ b. b == 1) (bit_at_set_same w64 n k within)
          ∙ sym (ap (λ b. if b then true else (bit_at n w == 1)) (eq-eqb w k e))
      go (inr apart) = ap (λ b. b == 1) (bit_at_set_other w64 n k within w apart) ∙ sym (ap (λ b. if b then true else (bit_at n w == 1)) (ne_eqb w k apart))

  -- After bit k is cleared, the set does not have wire k, and has each other wire as before.
  pub member_went : n < 2 ^ 64 → (w : ℕ) → members (bit_and n (bit_not w64 (1 * 2 ^ k % 2 ^ 64))) w ≡ (if w == k then false else members n w)
  unfolding members
  member_went fits w = go (cases_eq w k) (cases_lt w 64)
    where
      go : (w ≡ k) ⊎ (w ≡ k → ⊥) → (w < 64) ⊎ (64 ≤ w) →
          (bit_at (bit_and n (bit_not w64 (1 * 2 ^ k % 2 ^ 64))) w == 1) ≡ (if w == k then false else (bit_at n w == 1))
      go (inl e) _ = ap (λ v. bit_at (bit_and n (bit_not w64 (1 * 2 ^ k % 2 ^ 64))) v == 1) e ∙ ap (λ b. b == 1) (bit_at_clear_same w64 n k within)
          ∙ sym (ap (λ b. if b then false else (bit_at n w == 1)) (eq-eqb w k e))
      go (inr apart) (inl low) =
          ap (λ b. b == 1) (bit_at_clear_other w64 n k within w low apart) ∙ sym (ap (λ b. if b then false else (bit_at n w == 1)) (ne_eqb w k apart))
      go (inr apart) (inr high) =
          let there : bit_at n w ≡ 0 = bit_at_above n 64 w fits high in
          let none : bit_at (bit_and n (bit_not w64 (1 * 2 ^ k % 2 ^ 64))) w ≡ bit_at n w =
          omega (arith, there, bit_at_and n (bit_not w64 (1 * 2 ^ k % 2 ^ 64)) w) in
          ap (λ b. b == 1) none ∙ sym (ap (λ b. if b then false else (bit_at n w == 1)) (ne_eqb w k apart))
