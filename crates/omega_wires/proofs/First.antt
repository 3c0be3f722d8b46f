-- The first wire of a set from a given wire on.
use Rattle.std.proofs.Common.{◌≡◌, ℕ, ◌+◌, ◌<◌, ◌≤◌, ◌-◌, ◌/◌, ◌%◌, ◌^◌, ◌⊎◌, inl, inr, sym, ap, ◌∙◌, arith}
use Rattle.std.specs.Prelude.{◌==◌}
use Rattle.std.specs.Int.{bit_at, trailing_zeros, w64}
use Rattle.std.proofs.lemmas.Nat.Bits.{bit_at-trailing_zeros, bit_at_above, bit_at-zero}
use Rattle.std.proofs.lemmas.Bool.{cases_lt}
use Rattle.std.proofs.lemmas.Nat.{pow-add}
use Rattle.std.proofs.Math.Nat.{div-div-eq-div-mul, div-le_self}
use Rattle.omega_wires.specs.Members.{members, HasNoneIn, IsFirst}

-- The bits of a number from bit a on are those of its quotient by 2^a.
bit_of_rest : (n a i : ℕ) → bit_at (n / 2 ^ a) i ≡ bit_at n (a + i)
bit_of_rest n a i = ap (λ q. q % 2) (div-div-eq-div-mul n (2 ^ a) (2 ^ i) ∙ ap (λ d. n / d) (sym (pow-add 2 a i)))

-- The bit of a wire from a on is a bit of the quotient by 2^a.
bit_there : (n a w : ℕ) → a ≤ w → bit_at (n / 2 ^ a) (w - a) ≡ bit_at n w
bit_there n a w behind = bit_of_rest n a (w - a) ∙ ap (bit_at n) (omega (arith, behind))

module _ (n a : ℕ) (fits : n < 2 ^ 64) where
  small : n / 2 ^ a < 2 ^ 64
  small = (let less = div-le_self n (2 ^ a) in omega (arith, less, fits))

  -- If n has no bit set from bit a on, its set has no wire from a on.
  pub none_of_rest : n / 2 ^ a ≡ 0 → HasNoneIn (members n) a 64
  unfolding members
  none_of_rest empty w behind few = ap (λ b. b == 1) (sym (bit_there n a w behind) ∙ ap (λ r. bit_at r (w - a)) empty ∙ bit_at-zero (w - a))

  -- If n has a bit set from bit a on, the lowest of them is the set's first wire from a on.
  pub first_of_rest : (n / 2 ^ a ≡ 0 → ⊥) → IsFirst (members n) a (a + trailing_zeros w64 (n / 2 ^ a))
  unfolding members
  first_of_rest some = record {
    after = omega arith;
    few = few;
    member = ap (λ b. b == 1) is;
    first = λ w behind before. ap (λ b. b == 1) (sym (bit_there n a w behind) ∙ lowest.2 (w - a) (omega (arith, behind, before)));
  }
    where
      t : ℕ
      t = trailing_zeros w64 (n / 2 ^ a)

      lowest : (t < 64) × (bit_at (n / 2 ^ a) t ≡ 1) × ((i : ℕ) → i < t → bit_at (n / 2 ^ a) i ≡ 0)
      lowest = bit_at-trailing_zeros w64 (n / 2 ^ a) (omega (arith, some)) small

      is : bit_at n (a + t) ≡ 1
      is = sym (bit_of_rest n a t) ∙ lowest.1

      few : a + t < 64
      few = by (cases_lt (a + t) 64)
        where
          by : (a + t < 64) ⊎ (64 ≤ a + t) → a + t < 64
          by (inl low) = low
          by (inr high) = let none = bit_at_above n 64 (a + t) fits high in absurd (omega (arith, none, is))
