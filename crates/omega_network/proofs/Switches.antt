-- The numbers of queues and switches, and the switches after one is replaced.
use Rattle.std.proofs.Common.{◌≡◌, ℕ, zero, suc, ◌+◌, ◌-◌, ◌*◌, ◌/◌, ◌%◌, ◌^◌, ◌<◌, ◌≤◌, length, sym, ap, ◌∙◌}
use Rattle.std.proofs.Common.{arith, get_or-set_same, lit≤, get_or-set_other, mul-le-mul_right, pow-suc}
use Rattle.std.specs.Prelude.{slice_set}
use Rattle.std.proofs.lemmas.Nat.{mod-mul-add, div-mul-add}
use Rattle.combining_switch.specs.Pools.{PoolLists}
use Rattle.combining_switch.specs.Switches.{SwitchState}
use Rattle.omega_network.specs.Networks.{NetworkLists, half, no_switch, place, switch_at}

abbrev pub with_pool : NetworkLists → PoolLists → NetworkLists
with_pool n pool = record { k = n.k; c = n.c; b = n.b; r = n.r; pool = pool; switches = n.switches }

abbrev pub with_switch : NetworkLists → (stage number : ℕ) → SwitchState → NetworkLists
with_switch n s i t = record { k = n.k; c = n.c; b = n.b; r = n.r; pool = n.pool; switches = slice_set n.switches (s * half n.k + i) t }

-- ---- numbers

-- With at least one stage, there are twice as many wires as switches in a stage.
pub two_halves : (k s : ℕ) → s < k → 2 ^ k ≡ half k * 2
two_halves zero s l = absurd (omega arith)
two_halves (suc k) s l = pow-suc 2 k ∙ ap (λ n. 2 ^ n * 2) (less k)
  where
    less : (k : ℕ) → k ≡ suc k - 1
    less k = omega arith

-- Two places in rows of n columns are the same if their numbers, counted row by row, are the same.
pub one_place : (n d d' w w' : ℕ) → w < n → w' < n → d' * n + w' ≡ d * n + w → (d' ≡ d) × (w' ≡ w)
one_place n d d' w w' l m e = (
  sym (div-mul-add d' n w' m) ∙ (λ i. e i / n) ∙ div-mul-add d n w l,
  sym (mod-mul-add d' n w' m) ∙ (λ i. e i % n) ∙ mod-mul-add d n w l,
)

-- The number of the queues at a depth on a wire is below the number of all queues.
pub queue_within : (k d w n : ℕ) → d ≤ k → w < 2 ^ k → n ≡ suc k * 2 ^ k → place k d w < n
queue_within k d w n l m e =
    let up : suc d * 2 ^ k ≤ suc k * 2 ^ k = mul-le-mul_right (2 ^ k) (omega arith) in
    omega arith

-- The number of a switch among all is below the number of all switches.
pub place_within : (k s i n : ℕ) → s < k → i < half k → n ≡ k * half k → s * half k + i < n
place_within k s i n l m e =
    let up : suc s * half k ≤ k * half k = mul-le-mul_right (half k) l in
    omega arith

-- Half of the number of a wire after a stage is the number, among all switches, of the one that the wire comes from.
pub place_is : (k s w : ℕ) → s < k → (s * 2 ^ k + w) / 2 ≡ s * half k + w / 2
place_is k s w l =
    let e : s * 2 ^ k ≡ s * (half k * 2) = ap (λ n. s * n) (two_halves k s l) in
    let f : s * (half k * 2) ≡ s * half k * 2 = omega arith in
    omega (arith, e, f)

-- Half of a wire is the number of a switch in a stage.
pub half_of_wire : (k s w : ℕ) → s < k → w < 2 ^ k → w / 2 < half k
half_of_wire k s w l m = let e = two_halves k s l in omega arith

-- Up to six stages have at most 64 wires.
pub few_wires : (k : ℕ) → k ≤ 6 → 1 * 2 ^ k % 256 ≤ 64
few_wires zero l = lit≤ tt
few_wires (suc zero) l = lit≤ tt
few_wires (suc (suc zero)) l = lit≤ tt
few_wires (suc (suc (suc zero))) l = lit≤ tt
few_wires (suc (suc (suc (suc zero)))) l = lit≤ tt
few_wires (suc (suc (suc (suc (suc zero))))) l = lit≤ tt
few_wires (suc (suc (suc (suc (suc (suc zero)))))) l = lit≤ tt
few_wires (suc (suc (suc (suc (suc (suc (suc k))))))) l = absurd (omega arith)

-- ---- one switch replaced

module _ (n : NetworkLists) (s i : ℕ) (t : SwitchState) (stage : s < n.k) (number : i < half n.k) (all : length n.switches ≡ n.k * half n.k) where
  -- The switch that was put in is read at its stage and number.
  pub switch_put : switch_at (with_switch n s i t) s i ≡ t
  switch_put = get_or-set_same n.switches (s * half n.k + i) t no_switch (place_within n.k s i (length n.switches) stage number all)

  -- Every other switch is read as before.
  pub switch_kept : (s' i' : ℕ) → i' < half n.k → (s' ≡ s → i' ≡ i → ⊥) → switch_at (with_switch n s i t) s' i' ≡ switch_at n s' i'
  switch_kept s' i' l away =
      get_or-set_other n.switches (s * half n.k + i) (s' * half n.k + i') t no_switch
      (λ e. let p = one_place (half n.k) s s' i i' number l e in away p.0 p.1)
