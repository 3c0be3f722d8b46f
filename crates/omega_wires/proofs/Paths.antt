-- The laws of the wiring.
use Rattle.std.proofs.Common.{◌≡◌, ℕ, zero, suc, ◌+◌, ◌-◌, ◌*◌, ◌/◌, ◌%◌, ◌^◌, ◌<◌, ◌≤◌, refl, sym}
use Rattle.std.proofs.Common.{ap, ap₂, ◌∙◌, subst, arith, pow-suc, pow-add, pow_pos, mul-le-mul_right}
use Rattle.std.proofs.Common.{mod-eq_of_lt, mul_comm, mul_assoc, inl, inr, bit_and}
use Rattle.std.proofs.lemmas.Nat.{div-mul-add, mod-mul-add, mod-pow-add, mod_below, shr_below, shr-shr, div-add-mod', and_mask}
use Rattle.std.proofs.Math.Pow.{pow_mono}
use Rattle.std.proofs.lemmas.Bool.{cases_lt}
use Rattle.omega_wires.specs.Laws.{RotationsAreInverse, RotationsStayOnWires, PathsThatMeetStayTogether, RepliesEndAtTheirLeader}
use Rattle.omega_wires.specs.Wires.{bit, rotated_left, rotated_right, wire_after, wire_before, path, way_back}

-- Before stage 0 a message is on its processor's wire.
pub path_zero : (k p m : ℕ) → path k p m 0 ≡ p
unfolding path
path_zero k p m = refl

-- A message's wire after a stage is the one to which the stage takes its wire before it.
pub path_suc : (k p m s : ℕ) → path k p m (suc s) ≡ wire_after k s (path k p m s) m
unfolding path
path_suc k p m s = refl

-- A rotation to the left moves the first bit of a wire to the end. H is half of 2 ^ k.
rotated_is : (k H top L : ℕ) → 2 ^ k ≡ 2 * H → L < H → rotated_left k (top * H + L) ≡ 2 * L + top
rotated_is k H top L e l =
    let low : 2 * L < 2 ^ k = omega arith in
    let is : 2 * (top * H + L) ≡ top * 2 ^ k + 2 * L = (let f : top * 2 ^ k ≡ top * (2 * H) = ap (λ n. top * n) e in omega arith) in
    ap (λ n. n % 2 ^ k + n / 2 ^ k) is ∙ ap₂ (λ a b. a + b) (mod-mul-add top (2 ^ k) (2 * L) low) (div-mul-add top (2 ^ k) (2 * L) low)

half_of : (L b : ℕ) → b < 2 → (2 * L + b) / 2 ≡ L
half_of L b l = ap (λ n. (n + b) / 2) (mul_comm 2 L) ∙ div-mul-add L 2 b l

odd_of : (L b : ℕ) → b < 2 → (2 * L + b) % 2 ≡ b
odd_of L b l = ap (λ n. (n + b) % 2) (mul_comm 2 L) ∙ mod-mul-add L 2 b l

bit-lt : (i m : ℕ) → bit i m < 2
bit-lt i m = mod_below (m / 2 ^ i) 2 (omega arith)

-- The wire on p's path before stage s, by its first bit and the rest; t more bits of p are still to be replaced.
first_bit : (p s t Q : ℕ) → Q < 2 ^ s → ((p % 2 ^ (suc t)) * 2 ^ s + Q ≡ bit t p * (2 ^ t * 2 ^ s) + ((p % 2 ^ t) * 2 ^ s + Q))
    × ((p % 2 ^ t) * 2 ^ s + Q < 2 ^ t * 2 ^ s)
first_bit p s t Q q =
    let e : p % 2 ^ (suc t) ≡ bit t p * 2 ^ t + p % 2 ^ t = ap (λ n. p % 2 ^ n) (one_more t) ∙ mod-pow-add p 1 t in
    let l : p % 2 ^ t < 2 ^ t = mod_below p (2 ^ t) (pow_pos t) in
    let r : suc (p % 2 ^ t) * 2 ^ s ≤ 2 ^ t * 2 ^ s = mul-le-mul_right (2 ^ s) l in
    (ap (λ n. n * 2 ^ s + Q) e ∙ omega (arith, mul_assoc (bit t p) (2 ^ t) (2 ^ s)), omega arith)
  where
    one_more : (t : ℕ) → suc t ≡ 1 + t
    one_more t = omega arith

half_count : (k s t : ℕ) → s + suc t ≡ k → 2 ^ k ≡ 2 * (2 ^ t * 2 ^ s)
half_count k s t e =
    let i : k ≡ suc (t + s) = omega arith in
    ap (λ n. 2 ^ n) i ∙ twice (t + s) ∙ ap (λ n. 2 * n) (pow-add 2 t s)
  where
    twice : (n : ℕ) → 2 ^ suc n ≡ 2 * 2 ^ n
    twice n = omega (arith, pow-suc 2 n)

after_is : (k s t top L m : ℕ) → s + suc t ≡ k → L < 2 ^ t * 2 ^ s → top < 2 → wire_after k s (top * (2 ^ t * 2 ^ s) + L) m ≡ 2 * L + bit (k - 1 - s) m
unfolding wire_after
after_is k s t top L m e l b = ap (λ n. 2 * (n / 2) + bit (k - 1 - s) m) (rotated_is k (2 ^ t * 2 ^ s) top L (half_count k s t e) l)
    ∙ ap (λ n. 2 * n + bit (k - 1 - s) m) (half_of L top b)

pub record Shape (k p m s t : ℕ) : Type 0 where
  -- the lowest s bits of the wire before stage s, as a number
  pub low : ℕ
  -- The number is below 2^s.
  pub small : low < 2 ^ s
  -- The other bits of the wire are the lowest t + 1 bits of the processor's number.
  pub is : path k p m s ≡ (p % 2 ^ suc t) * 2 ^ s + low

shape : (k p m : ℕ) → p < 2 ^ k → (s t : ℕ) → s + suc t ≡ k → Shape k p m s t
unfolding path
shape k p m h zero t e =
    let i : suc t ≡ k = omega arith in
    record { low = 0; small = omega arith; is = sym (ap (λ n. (p % 2 ^ n) * 1 + 0) i ∙ ap (λ n. n * 1 + 0) (mod-eq_of_lt h) ∙ omega arith) }
shape k p m h (suc s) t e =
    let g = shape k p m h s (suc t) (omega arith) in
    let f = first_bit p s (suc t) g.low g.small in
    let L : ℕ = (p % 2 ^ suc t) * 2 ^ s + g.low in
    let b : ℕ = bit (k - 1 - s) m in
    let now : wire_after k s (path k p m s) m ≡ 2 * L + b =
    ap (λ w. wire_after k s w m) (g.is ∙ f.0) ∙ after_is k s (suc t) (bit (suc t) p) L m (omega arith) f.1 (bit-lt (suc t) p) in
    let two : 2 ^ suc s ≡ 2 ^ s * 2 = pow-suc 2 s in
    record {
      low = 2 * g.low + b;
      small = (let c = bit-lt (k - 1 - s) m in let d = g.small in omega arith);
      is = now ∙ regroup (p % 2 ^ suc t) (2 ^ s) g.low b ∙ ap (λ n. (p % 2 ^ suc t) * n + (2 * g.low + b)) (sym two);
    }
  where
    regroup : (a c q b : ℕ) → 2 * (a * c + q) + b ≡ a * (c * 2) + (2 * q + b)
    regroup a c q b = omega arith

-- A stage takes a reply on its leader's path from the wire after it to the wire before it.
pub before_path : (k p m s : ℕ) → s < k → p < 2 ^ k → wire_before k s (path k p m (suc s)) p ≡ path k p m s
unfolding wire_before
before_path k p m s l h =
    let t : ℕ = k - 1 - s in
    let e : s + suc t ≡ k = omega arith in
    let g = shape k p m h s t e in
    let f = first_bit p s t g.low g.small in
    let L : ℕ = (p % 2 ^ t) * 2 ^ s + g.low in
    let next : path k p m (suc s) ≡ 2 * L + bit t m =
    path_suc k p m s ∙ ap (λ w. wire_after k s w m) (g.is ∙ f.0) ∙ after_is k s t (bit t p) L m e f.1 (bit-lt t p) in
    let half : path k p m (suc s) / 2 ≡ L = ap (λ w. w / 2) next ∙ half_of L (bit t m) (bit-lt t m) in
    let i : k - 1 ≡ t + s = omega arith in
    ap (λ n. rotated_right k (2 * n + bit t p)) half
    ∙ ap₂ (λ a b. a + b * 2 ^ (k - 1)) (half_of L (bit t p) (bit-lt t p)) (odd_of L (bit t p) (bit-lt t p))
    ∙ ap (λ n. L + bit t p * n) (ap (λ n. 2 ^ n) i ∙ pow-add 2 t s)
    ∙ turned L (bit t p * (2 ^ t * 2 ^ s))
    ∙ sym (g.is ∙ f.0)
  where
    turned : (a b : ℕ) → a + b ≡ b + a
    turned a b = omega arith

-- Each place of a path is a wire of the network.
pub path_lt : (k p m s : ℕ) → s ≤ k → p < 2 ^ k → path k p m s < 2 ^ k
path_lt k p m zero l h = subst (λ n. n < 2 ^ k) (sym (path_zero k p m)) h
path_lt k p m (suc s) l h =
    let t : ℕ = k - 1 - s in
    let e : s + suc t ≡ k = omega arith in
    let g = shape k p m h s t e in
    let f = first_bit p s t g.low g.small in
    let L : ℕ = (p % 2 ^ t) * 2 ^ s + g.low in
    let next : path k p m (suc s) ≡ 2 * L + bit (k - 1 - s) m =
    path_suc k p m s ∙ ap (λ w. wire_after k s w m) (g.is ∙ f.0) ∙ after_is k s t (bit t p) L m e f.1 (bit-lt t p) in
    let b = bit-lt (k - 1 - s) m in
    let half = half_count k s t e in
    let low = f.1 in
    omega arith

-- The low bits of a wire on a path are the high bits of the module's number.
low_is : (k p m : ℕ) → p < 2 ^ k → m < 2 ^ k → (s t : ℕ) → s + suc t ≡ k → path k p m s ≡ (p % 2 ^ suc t) * 2 ^ s + m / 2 ^ suc t
unfolding path
low_is k p m h b zero t e =
    let i : suc t ≡ k = omega arith in
    sym (ap (λ n. (p % 2 ^ n) * 1 + m / 2 ^ n) i ∙ ap₂ (λ a c. a * 1 + c) (mod-eq_of_lt h) (div_zero m (2 ^ k) b) ∙ omega arith)
  where
    nought : (a n : ℕ) → 0 * n + a ≡ a
    nought a n = omega arith

    div_zero : (a n : ℕ) → a < n → a / n ≡ 0
    div_zero a n l = sym (ap (λ v. v / n) (nought a n)) ∙ div-mul-add 0 n a l
low_is k p m h b (suc s) t e =
    let g = low_is k p m h b s (suc t) (omega arith) in
    let q : m / 2 ^ suc (suc t) < 2 ^ s = shr_below m s (suc (suc t)) (subst (λ n. m < 2 ^ n) (sym (omega arith)) b) in
    let f = first_bit p s (suc t) (m / 2 ^ suc (suc t)) q in
    let L : ℕ = (p % 2 ^ suc t) * 2 ^ s + m / 2 ^ suc (suc t) in
    let i : k - 1 - s ≡ suc t = omega arith in
    let now : wire_after k s (path k p m s) m ≡ 2 * L + bit (suc t) m =
    ap (λ w. wire_after k s w m) (g ∙ f.0) ∙ after_is k s (suc t) (bit (suc t) p) L m (omega arith) f.1 (bit-lt (suc t) p) ∙ ap (λ n. 2 * L + bit n m) i in
    now ∙ regroup (p % 2 ^ suc t) (2 ^ s) (m / 2 ^ suc (suc t)) (bit (suc t) m)
    ∙ ap₂ (λ a c. (p % 2 ^ suc t) * a + c) (sym (pow-suc 2 s)) (two_of m (suc t))
  where
    regroup : (a c q b : ℕ) → 2 * (a * c + q) + b ≡ a * (c * 2) + (2 * q + b)
    regroup a c q b = omega arith

    one_more : (t : ℕ) → suc t ≡ t + 1
    one_more t = omega arith

    two_of : (m t : ℕ) → 2 * (m / 2 ^ suc t) + bit t m ≡ m / 2 ^ t
    two_of m t = ap (λ n. 2 * n + bit t m) (ap (λ n. m / 2 ^ n) (one_more t) ∙ sym (shr-shr m t 1)) ∙ ap (λ n. n + bit t m) (mul_comm 2 (m / 2 ^ t / 2))
        ∙ div-add-mod' (m / 2 ^ t) 2

-- Each path ends at its module.
pub path_end : (k p m : ℕ) → p < 2 ^ k → m < 2 ^ k → path k p m k ≡ m
path_end zero p m h b = path_zero 0 p m ∙ omega arith
path_end (suc s) p m h b =
    let g = low_is (suc s) p m h b s 0 (omega arith) in
    let q : m / 2 ^ 1 < 2 ^ s = shr_below m s 1 (subst (λ n. m < 2 ^ n) (one_more s) b) in
    let f = first_bit p s 0 (m / 2 ^ 1) q in
    let L : ℕ = (p % 2 ^ 0) * 2 ^ s + m / 2 ^ 1 in
    let l : L ≡ m / 2 = (let z : p % 1 < 1 = mod_below p 1 (omega arith) in let y : p % 1 ≡ 0 = omega arith in ap (λ n. n * 2 ^ s + m / 2) y ∙ omega arith) in
    let i : suc s - 1 - s ≡ 0 = omega arith in
    path_suc (suc s) p m s ∙ ap (λ w. wire_after (suc s) s w m) (g ∙ f.0) ∙ after_is (suc s) s 0 (bit 0 p) L m (omega arith) f.1 (bit-lt 0 p)
    ∙ ap₂ (λ a n. 2 * a + bit n m) l i ∙ last m
  where
    one_more : (s : ℕ) → suc s ≡ s + 1
    one_more s = omega arith

    last : (m : ℕ) → 2 * (m / 2) + (m / 1) % 2 ≡ m
    last m = let a : m / 1 ≡ m = omega arith in ap (λ n. 2 * (m / 2) + n % 2) a ∙ omega arith

-- ---- rotations

-- The rotations of a wire, by its highest bit and the rest, and by its lowest bit and the rest.
rotations : (k L top : ℕ) → L < 2 ^ k → top < 2 →
    (rotated_left (suc k) (top * 2 ^ k + L) ≡ 2 * L + top) × (rotated_right (suc k) (2 * L + top) ≡ top * 2 ^ k + L)
rotations k L top l b = (
  rotated_is (suc k) (2 ^ k) top L (pow-suc 2 k ∙ mul_comm (2 ^ k) 2) l,
  ap₂ (λ a c. a + c * 2 ^ (suc k - 1)) (half_of L top b) (odd_of L top b) ∙ ap (λ n. L + top * 2 ^ n) (one_less k) ∙ turned L (top * 2 ^ k),
)
  where
    turned : (a b : ℕ) → a + b ≡ b + a
    turned a b = omega arith

    one_less : (k : ℕ) → suc k - 1 ≡ k
    one_less k = omega arith

-- A number below 2 ^ (k + 1) is its highest bit and the rest.
by_highest : (k wire : ℕ) → wire < 2 ^ suc k → (wire / 2 ^ k < 2) × (wire % 2 ^ k < 2 ^ k) × (wire ≡ (wire / 2 ^ k) * 2 ^ k + wire % 2 ^ k)
by_highest k wire h = (
  shr_below wire 1 k (subst (λ n. wire < 2 ^ n) (one_more k) h),
  mod_below wire (2 ^ k) (pow_pos k),
  sym (div-add-mod' wire (2 ^ k)),
)
  where
    one_more : (k : ℕ) → suc k ≡ 1 + k
    one_more k = omega arith

-- A number below 2 ^ (k + 1) is its lowest bit and the rest.
by_lowest : (k wire : ℕ) → wire < 2 ^ suc k → (wire % 2 < 2) × (wire / 2 < 2 ^ k) × (wire ≡ 2 * (wire / 2) + wire % 2)
by_lowest k wire h = (
  mod_below wire 2 (omega arith),
  shr_below wire k 1 (subst (λ n. wire < 2 ^ n) (one_more k) h),
  sym (ap (λ n. n + wire % 2) (mul_comm 2 (wire / 2)) ∙ div-add-mod' wire 2),
)
  where
    one_more : (k : ℕ) → suc k ≡ k + 1
    one_more k = omega arith

no_wires : (k wire : ℕ) → wire < 2 ^ 0 → wire ≡ 0
no_wires k wire h = omega arith

-- On the wires of the network, the two rotations undo each other.
pub inverse : RotationsAreInverse
inverse zero wire h =
    let e : wire ≡ 0 = no_wires 0 wire h in
    (ap (λ w. rotated_right 0 (rotated_left 0 w)) e ∙ sym e, ap (λ w. rotated_left 0 (rotated_right 0 w)) e ∙ sym e)
inverse (suc k) wire h =
    let a = by_highest k wire h in
    let b = by_lowest k wire h in
    let f = rotations k (wire % 2 ^ k) (wire / 2 ^ k) a.1 a.0 in
    let g = rotations k (wire / 2) (wire % 2) b.1 b.0 in (
      ap (λ w. rotated_right (suc k) (rotated_left (suc k) w)) a.2 ∙ ap (rotated_right (suc k)) f.0 ∙ f.1 ∙ sym a.2,
      ap (λ w. rotated_left (suc k) (rotated_right (suc k) w)) b.2 ∙ ap (rotated_left (suc k)) g.1 ∙ g.0 ∙ sym b.2,
    )

-- Rotations of a wire, to the left and to the right, are wires.
pub rotations_small : RotationsStayOnWires
rotations_small zero wire h =
    let e : wire ≡ 0 = no_wires 0 wire h in
    (subst (λ w. rotated_left 0 w < 2 ^ 0) (sym e) (omega arith), subst (λ w. rotated_right 0 w < 2 ^ 0) (sym e) (omega arith))
rotations_small (suc k) wire h =
    let a = by_highest k wire h in
    let b = by_lowest k wire h in
    let f = rotations k (wire % 2 ^ k) (wire / 2 ^ k) a.1 a.0 in
    let g = rotations k (wire / 2) (wire % 2) b.1 b.0 in
    let n : 2 ^ suc k ≡ 2 ^ k * 2 = pow-suc 2 k in (
      subst (λ w. w < 2 ^ suc k) (sym (ap (rotated_left (suc k)) a.2 ∙ f.0)) (two n a.1 a.0),
      subst (λ w. w < 2 ^ suc k) (sym (ap (rotated_right (suc k)) b.2 ∙ g.1)) (one n b.1 b.0),
    )
  where
    two : {n m L t : ℕ} → n ≡ m * 2 → L < m → t < 2 → 2 * L + t < n
    two e l b = omega arith

    one : {n m L t : ℕ} → n ≡ m * 2 → L < m → t < 2 → t * m + L < n
    one {n = n} {m = m} {L = L} {t = t} e l b = by_bit n m L t e l b
      where
        by_bit : (n m L t : ℕ) → n ≡ m * 2 → L < m → t < 2 → t * m + L < n
        by_bit n m L zero e l b = omega arith
        by_bit n m L (suc zero) e l b = omega arith
        by_bit n m L (suc (suc t)) e l b = absurd (omega arith)

-- ---- whole paths

-- After s stages the wire has the low bits of the processor's number, followed by the high bits of the module's.
pub path_is : (k p m s : ℕ) → p < 2 ^ k → m < 2 ^ k → s ≤ k → path k p m s ≡ (p % 2 ^ (k - s)) * 2 ^ s + m / 2 ^ (k - s)
path_is k p m s h b l = elim (cases_lt s k) [
  | inl less ↦ (let t : ℕ = k - 1 - s in
      let i : suc t ≡ k - s = omega arith in
      low_is k p m h b s t (omega arith) ∙ ap (λ n. (p % 2 ^ n) * 2 ^ s + m / 2 ^ n) i)
  | inr more ↦ (let i : s ≡ k = omega arith in
      let z : k - s ≡ 0 = omega arith in
      ap (path k p m) i ∙ path_end k p m h b ∙ last p m (2 ^ s) ∙ ap (λ n. (p % 2 ^ n) * 2 ^ s + m / 2 ^ n) (sym z))
]
  where
    last : (p m n : ℕ) → m ≡ (p % 2 ^ 0) * n + m / 2 ^ 0
    last p m n = let a : p % 1 ≡ 0 = (let c : p % 1 < 1 = mod_below p 1 (omega arith) in omega arith) in
        let d : m / 1 ≡ m = omega arith in
        sym (ap₂ (λ i j. i * n + j) a d ∙ none n m)
      where
        none : (n m : ℕ) → 0 * n + m ≡ m
        none n m = omega arith

-- If two paths to one module meet before a stage, they stay together from there on.
pub meet : PathsThatMeetStayTogether
unfolding path
meet k p q m s zero e = let z : s + 0 ≡ s = omega arith in ap (path k p m) z ∙ e ∙ ap (path k q m) (sym z)
meet k p q m s (suc more) e =
    let z : s + suc more ≡ suc (s + more) = omega arith in
    ap (path k p m) z ∙ ap (λ w. wire_after k (s + more) w m) (meet k p q m s more e) ∙ ap (path k q m) (sym z)

way_back_is : (k p m : ℕ) → p < 2 ^ k → m < 2 ^ k → (stages : ℕ) → stages ≤ k → way_back k p m stages ≡ path k p m (k - stages)
unfolding way_back
way_back_is k p m h b zero l = let e : k ≡ k - 0 = omega arith in sym (path_end k p m h b) ∙ ap (path k p m) e
way_back_is k p m h b (suc i) l =
    let e : k - i ≡ suc (k - suc i) = omega arith in
    ap (λ w. wire_before k (k - suc i) w p) (way_back_is k p m h b i (omega arith) ∙ ap (path k p m) e)
    ∙ before_path k p m (k - suc i) (omega arith) h

-- A reply passes the wires of its leader's path in reverse, and ends on the leader's wire.
pub go_back : RepliesEndAtTheirLeader
go_back k p m h b =
    let z : k - k ≡ 0 = omega arith in
    (way_back_is k p m h b, way_back_is k p m h b k (omega arith) ∙ ap (path k p m) z ∙ path_zero k p m)

-- ---- by shifts of a byte

-- A network of at most 6 stages has at most 64 wires.
pub sixty_four : (k : ℕ) → k ≤ 6 → 2 ^ k ≤ 64
sixty_four k l = pow_mono l

bits_moved : (k p s : ℕ) → k ≤ 6 → s ≤ k → (p % 2 ^ (k - s)) * 2 ^ s < 64
bits_moved k p s six l =
    let n : k - s + s ≡ k = omega arith in
    let a : p % 2 ^ (k - s) < 2 ^ (k - s) = mod_below p (2 ^ (k - s)) (pow_pos (k - s)) in
    let b : suc (p % 2 ^ (k - s)) * 2 ^ s ≤ 2 ^ (k - s) * 2 ^ s = mul-le-mul_right (2 ^ s) a in
    let c : 2 ^ (k - s) * 2 ^ s ≡ 2 ^ k = sym (pow-add 2 (k - s) s) ∙ ap (λ i. 2 ^ i) n in
    let d : 2 ^ k ≤ 64 = sixty_four k six in
    let e : 0 < 2 ^ s = pow_pos s in
    omega arith

-- In a network of at most 6 stages, shifts of a byte compute the wire on the path.
pub path_by_shifts : (k p m s : ℕ) → k ≤ 6 → s ≤ k → p < 2 ^ k → m < 2 ^ k → (p % 2 ^ (k - s)) * 2 ^ s % 256 + m / 2 ^ (k - s) ≡ path k p m s
path_by_shifts k p m s six l h b =
    ap (λ n. n + m / 2 ^ (k - s)) (mod-eq_of_lt (let a = bits_moved k p s six l in omega arith)) ∙ sym (path_is k p m s h b l)

-- In a network of at most 6 stages, what shifts of a byte compute is a wire.
pub path_below : (k p m s : ℕ) → k ≤ 6 → s ≤ k → p < 2 ^ k → m < 2 ^ k → (p % 2 ^ (k - s)) * 2 ^ s % 256 + m / 2 ^ (k - s) < 2 ^ k
path_below k p m s six l h b = subst (λ n. n < 2 ^ k) (sym (path_by_shifts k p m s six l h b)) (path_lt k p m s l h)

-- In a network of at most 6 stages, shifts of a byte rotate a wire to the right.
pub right_by_shifts : (k wire : ℕ) → k ≤ 6 → wire < 2 ^ k → wire / 2 + bit_and wire 1 * 2 ^ k % 256 / 2 ≡ rotated_right k wire
right_by_shifts k wire six h = ap (λ b. wire / 2 + b * 2 ^ k % 256 / 2) (and_mask wire 1) ∙ ap (λ n. wire / 2 + n) (go k wire six h)
  where
    one_less : (k : ℕ) → k ≡ suc k - 1
    one_less k = omega arith

    half : (n : ℕ) → n < 128 → n * 2 % 256 / 2 ≡ n
    half n l = omega arith

    small : (b m : ℕ) → b < 2 → m ≤ 32 → b * m < 128
    small zero m l s = omega arith
    small (suc zero) m l s = omega arith
    small (suc (suc b)) m l s = absurd (omega arith)

    go : (k wire : ℕ) → k ≤ 6 → wire < 2 ^ k → wire % 2 * 2 ^ k % 256 / 2 ≡ wire % 2 * 2 ^ (k - 1)
    go zero wire six h = let e : wire ≡ 0 = no_wires 0 wire h in ap (λ w. w % 2 * 1 % 256 / 2) e ∙ ap (λ w. w % 2 * 1) (sym e)
    go (suc k) wire six h =
        let d : 2 ^ k ≤ 32 = pow_mono {i = k} {j = 5} (omega arith) in
        ap (λ n. wire % 2 * n % 256 / 2) (pow-suc 2 k)
        ∙ ap (λ n. n % 256 / 2) (sym (mul_assoc (wire % 2) (2 ^ k) 2))
        ∙ half (wire % 2 * 2 ^ k) (small (wire % 2) (2 ^ k) (mod_below wire 2 (omega arith)) d)
        ∙ ap (λ n. wire % 2 * 2 ^ n) (one_less k)
