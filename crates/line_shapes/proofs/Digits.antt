-- The numbers that digits spell.
use Rattle.std.proofs.Common.{◌<◌, ◌≤◌, ◌+◌, ◌*◌, ◌^◌, ℕ, arith, lit<}
use Rattle.std.proofs.Math.Nat.{pow-le-pow_right}
use Rattle.std.proofs.lemmas.Grind.{pow_more}

-- The number of fewer than eight digits has room for one more.
pub one_more_digit : (n i d : ℕ) → n < 16 ^ i → i < 8 → d < 16 → n * 16 + d < 16 ^ (i + 1)
one_more_digit n i d small few digit = rw (pow_more 16 i) (omega arith)

fits : (n i : ℕ) → n < 16 ^ i → i ≤ 8 → n < 2 ^ 32
fits n i small few =
    let most : 16 ^ i ≤ 16 ^ 8 = pow-le-pow_right {n = 16} (lit< tt) few in
    omega arith

-- So it fits 32 bits with one more digit.
pub room : (n i d : ℕ) → n < 16 ^ i → i < 8 → d < 16 → n * 16 + d < 2 ^ 32
room n i d small few digit = fits (n * 16 + d) (i + 1) (one_more_digit n i d small few digit) (omega arith)

-- ---- decimal digits

one_more_decimal : (n i d : ℕ) → n < 10 ^ i → d < 10 → n * 10 + d < 10 ^ (i + 1)
one_more_decimal n i d small digit = rw (pow_more 10 i) (omega arith)

decimal_fits : (n i : ℕ) → n < 10 ^ i → i ≤ 9 → n < 2 ^ 32
decimal_fits n i small few =
    let most : 10 ^ i ≤ 10 ^ 9 = pow-le-pow_right {n = 10} (lit< tt) few in
    omega arith

-- A number of fewer than nine decimal digits fits 32 bits with one more digit.
pub decimal_room : (n i d : ℕ) → n < 10 ^ i → i < 9 → d < 10 → n * 10 + d < 2 ^ 32
decimal_room n i d small few digit = decimal_fits (n * 10 + d) (i + 1) (one_more_decimal n i d small digit) (omega arith)
