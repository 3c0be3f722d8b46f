-- The wires of a set, by the bits of a number.
use Rattle.std.specs.Prelude.{◌≡◌, ◌==◌, ◌<◌, ◌≤◌, ℕ, Bool, true, false}
use Rattle.std.specs.Int.{bit_at}

-- whether a wire's bit is one
unfoldable pub members : (bits : ℕ) → (wire : ℕ) → Bool
members bits w = bit_at bits w == 1

-- The set has no wire from one wire on, up to another.
abbrev pub HasNoneIn : (ℕ → Bool) → (from to : ℕ) → Type 0
HasNoneIn s from to = (w : ℕ) → from ≤ w → w < to → s w ≡ false

-- The wire is the first of the set from this one on.
pub record IsFirst (s : ℕ → Bool) (from w : ℕ) : Type 0 where
  pub after : from ≤ w
  pub few : w < 64
  pub member : s w ≡ true
  pub first : HasNoneIn s from w
