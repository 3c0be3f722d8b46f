-- From one wire of a row to the next.
use Rattle.std.proofs.Common.{◌≡◌, ℕ, ◌+◌, ◌-◌, ◌*◌, ◌<◌, ◌≤◌, Bool, false, ◌⊎◌, inl, inr, Option, Some, None, sym, ◌∙◌, subst, arith}
use Rattle.std.specs.Prelude.{IfSome}
use Rattle.std.proofs.Math.Nat.{mul-le-mul_right}
use Rattle.std.proofs.lemmas.Bool.{cases_lt, true≢false}
use Rattle.machine_steps.specs.Machines.{MachineLists}
use Rattle.omega_wires.specs.Members.{HasNoneIn, IsFirst}
use Rattle.schedules.specs.Skips.{AreQuiet, IsQuiet}

module _ (m : MachineLists) (base wires wire : ℕ) (set : ℕ → Bool) (few : (w : ℕ) → wires ≤ w → set w ≡ false) (quiet : (w : ℕ) → w < wires → set w ≡ false →
    IsQuiet m (base + w)) where
  up_to : (to : ℕ) → to ≤ wires → HasNoneIn set wire to → AreQuiet m (base + wire) (base + to)
  up_to to within none place from before =
      let same : base + (place - base) ≡ place = omega (arith, from) in
      subst (IsQuiet m) same (quiet (place - base) (omega (arith, before, within, from))
      (none (place - base) (omega (arith, from)) (omega (arith, before, from))))

  inside : (w : ℕ) → IsFirst set wire w → w < wires
  inside w f = by (cases_lt w wires)
    where
      by : (w < wires) ⊎ (wires ≤ w) → w < wires
      by (inl less) = less
      by (inr past) = absurd (true≢false (sym f.member ∙ few w past))

  -- The first wire of the set from a wire on is in the row.
  pub found_inside : (o : Option ℕ) → IfSome o (IsFirst set wire) → IfSome o (λ w. w < wires)
  found_inside None f = f
  found_inside (Some w) f = inside w f

  -- The steps up to the first wire of the set stall.
  pub first_found : (o : Option ℕ) → IfSome o (IsFirst set wire) → IfSome o (λ w. AreQuiet m (base + wire) (base + w))
  first_found None f = f
  first_found (Some w) f = let less = inside w f in up_to w (omega (arith, less)) f.first

  -- If the set has no wire from a wire on, the rest of the row's steps stall.
  pub none_found : (end : ℕ) → end ≡ base + wires → wires ≤ 64 → HasNoneIn set wire 64 → AreQuiet m (base + wire) end
  none_found end is most none =
      subst (AreQuiet m (base + wire)) (sym is) (up_to wires (omega arith) (λ w from before. none w from (omega (arith, before, most))))

-- The first wire of a set from a wire on is not before it.
pub found_ahead : (set : ℕ → Bool) (wire : ℕ) (o : Option ℕ) → IfSome o (IsFirst set wire) → IfSome o (λ w. wire ≤ w)
found_ahead set wire None f = f
found_ahead set wire (Some w) f = f.after

-- After the last row there are no more steps.
pub past_rows : (wires rows row wire : ℕ) → rows ≤ row → wires * rows ≤ row * wires + wire
past_rows wires rows row wire past =
    let least : rows * wires ≤ row * wires = mul-le-mul_right wires past in
    omega (arith, least)

-- A row begins as many places after the row before it as there are wires.
pub row_ends : (row wires : ℕ) → (row + 1) * wires ≡ row * wires + wires
row_ends row wires = omega arith
