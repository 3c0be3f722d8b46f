-- A word with some of its bytes replaced, by masks.
use Rattle.std.proofs.Common.{◌≡◌, ℕ, ◌+◌, ◌-◌, ◌*◌, ◌/◌, ◌%◌, ◌^◌, ◌<◌, ◌≤◌, sym, ap, ◌∙◌, arith, add-zero}
use Rattle.std.specs.Int.Bits.{bit_and, bit_xor}
use Rattle.std.proofs.lemmas.Nat.{and_block, and_mask, div-add-mod', xor_block, xor_comm, mod_below, pow_pos, pow-add, shr-shr, shl_whole, shr_below}
use Rattle.std.proofs.lemmas.Nat.Bits.{and_high}
use Rattle.std.proofs.Math.Nat.{mod-eq_of_lt}

-- Masking a number by a mask of two parts masks each of its parts.
and_split : (n k m s : ℕ) → s < 2 ^ k → bit_and n (m * 2 ^ k + s) ≡ bit_and (n / 2 ^ k) m * 2 ^ k + bit_and (n % 2 ^ k) s
and_split n k m s h =
    ap (λ x. bit_and x (m * 2 ^ k + s)) (sym (div-add-mod' n (2 ^ k)))
    ∙ and_block k (n / 2 ^ k) m (n % 2 ^ k) s (mod_below n (2 ^ k) (pow_pos k)) h

-- ones in all places but the k from j on, where m more places follow
outside : (p q J : ℕ) → 0 < J → (q + 1) * (p + 1) * J - 1 - p * J ≡ q * (p + 1) * J + (J - 1)
outside p q J h = omega arith

ones_outside : (j k m : ℕ) → 2 ^ (m + k + j) - 1 - (2 ^ k - 1) * 2 ^ j ≡ (2 ^ (m + k) - 2 ^ k) * 2 ^ j + (2 ^ j - 1)
ones_outside j k m =
    let P : ℕ = 2 ^ k - 1 in
    let Q : ℕ = 2 ^ m - 1 in
    let k_is : 2 ^ k ≡ P + 1 = omega (arith, pow_pos k) in
    let m_is : 2 ^ m ≡ Q + 1 = omega (arith, pow_pos m) in
    let mk : 2 ^ (m + k) ≡ (Q + 1) * (P + 1) = pow-add 2 m k ∙ ap (λ x. x * 2 ^ k) m_is ∙ ap (λ x. (Q + 1) * x) k_is in
    let all : 2 ^ (m + k + j) ≡ (Q + 1) * (P + 1) * 2 ^ j = pow-add 2 (m + k) j ∙ ap (λ x. x * 2 ^ j) mk in
    let high : 2 ^ (m + k) - 2 ^ k ≡ Q * (P + 1) = omega arith in
    ap (λ x. x - 1 - P * 2 ^ j) all ∙ outside P Q (2 ^ j) (pow_pos j) ∙ ap (λ x. x * 2 ^ j + (2 ^ j - 1)) (sym high)

-- A mask clears the k bits from j on, and leaves the parts above and below.
cleared : (j k m x : ℕ) → x < 2 ^ (m + k + j) → bit_and x (2 ^ (m + k + j) - 1 - (2 ^ k - 1) * 2 ^ j) ≡ x / 2 ^ (j + k) * 2 ^ k * 2 ^ j + x % 2 ^ j
cleared j k m x h =
    let below : x / 2 ^ j / 2 ^ k < 2 ^ m = shr_below (x / 2 ^ j) m k (shr_below x (m + k) j h) in
    let low : bit_and (x % 2 ^ j) (2 ^ j - 1) ≡ x % 2 ^ j = and_mask (x % 2 ^ j) j ∙ mod-eq_of_lt (mod_below x (2 ^ j) (pow_pos j)) in
    let high : bit_and (x / 2 ^ j) (2 ^ (m + k) - 2 ^ k) ≡ x / 2 ^ (j + k) * 2 ^ k =
    and_high (x / 2 ^ j) m k ∙ ap (λ y. y * 2 ^ k) (mod-eq_of_lt below ∙ shr-shr x j k) in
    ap (bit_and x) (ones_outside j k m) ∙ and_split x j (2 ^ (m + k) - 2 ^ k) (2 ^ j - 1) (omega (arith, pow_pos j))
    ∙ ap (λ y. y * 2 ^ j + bit_and (x % 2 ^ j) (2 ^ j - 1)) high ∙ ap (λ y. x / 2 ^ (j + k) * 2 ^ k * 2 ^ j + y) low

-- An exclusive or puts a value into the middle of three parts if the middle is zero.
put : (j k h v low : ℕ) → v < 2 ^ k → low < 2 ^ j → bit_xor (h * 2 ^ k * 2 ^ j + low) (v * 2 ^ j) ≡ h * 2 ^ k * 2 ^ j + v * 2 ^ j + low
put j k h v low small fits =
    let mid : bit_xor (h * 2 ^ k) v ≡ h * 2 ^ k + v =
    let split : bit_xor (h * 2 ^ k + 0) (0 * 2 ^ k + v) ≡ bit_xor h 0 * 2 ^ k + bit_xor 0 v = xor_block k h 0 0 v (pow_pos k) small in
    let value : 0 * 2 ^ k + v ≡ v = omega arith in
    let high : h * 2 ^ k + 0 ≡ h * 2 ^ k = omega arith in
    ap (λ x. bit_xor x v) (sym high) ∙ ap (bit_xor (h * 2 ^ k + 0)) (sym value) ∙ split ∙ ap (λ x. x * 2 ^ k + v) (xor_comm h 0) in
    let both : bit_xor (h * 2 ^ k * 2 ^ j + low) (v * 2 ^ j) ≡ bit_xor (h * 2 ^ k) v * 2 ^ j + bit_xor low 0 =
    ap (bit_xor (h * 2 ^ k * 2 ^ j + low)) (sym (add-zero (v * 2 ^ j))) ∙ xor_block j (h * 2 ^ k) v low 0 fits (pow_pos j) in
    let end : bit_xor low 0 ≡ low = xor_comm low 0 in
    both ∙ ap (λ x. x * 2 ^ j + bit_xor low 0) mid ∙ omega (arith, end)

-- Masks and division give the same word.
pub masked : (j k m x v : ℕ) → x < 2 ^ (m + k + j) →
    bit_xor (bit_and x (2 ^ (m + k + j) - 1 - (2 ^ k - 1) * 2 ^ j)) (v % 2 ^ k * 2 ^ j) ≡ x / 2 ^ (j + k) * 2 ^ (j + k) + v % 2 ^ k * 2 ^ j + x % 2 ^ j
masked j k m x v h =
    let whole : x / 2 ^ (j + k) * 2 ^ k * 2 ^ j ≡ x / 2 ^ (j + k) * 2 ^ (j + k) = omega (arith, pow-add 2 j k, ap (λ y. x / 2 ^ (j + k) * y) (pow-add 2 j k)) in
    ap (λ y. bit_xor y (v % 2 ^ k * 2 ^ j)) (cleared j k m x h)
    ∙ put j k (x / 2 ^ (j + k)) (v % 2 ^ k) (x % 2 ^ j) (mod_below v (2 ^ k) (pow_pos k)) (mod_below x (2 ^ j) (pow_pos j))
    ∙ ap (λ y. y + v % 2 ^ k * 2 ^ j + x % 2 ^ j) whole

-- The shifted value stays within the word.
pub shifted : (j k a : ℕ) → j + k ≤ 32 → a < 2 ^ k → a * 2 ^ j % 2 ^ 32 ≡ a * 2 ^ j
shifted j k a h small = shl_whole a k j 32 small (omega arith)
