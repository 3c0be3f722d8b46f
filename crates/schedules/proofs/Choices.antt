-- The step at each place of the list of choices.
use Rattle.std.proofs.Common.{◌≡◌, ℕ, zero, suc, ◌+◌, ◌-◌, ◌*◌, ◌<◌, ◌≤◌, ◌⊎◌, inl, inr, ⊎_elim, List, [], ◌∷◌, ◌++◌}
use Rattle.std.proofs.Common.{length, Some, refl, sym, ap, ap₂, ◌∙◌, subst, arith, add-zero, zero-add, length-append}
use Rattle.std.specs.Prelude.{◌^◌, ◌/◌, ◌%◌, ◌&&◌, nat_lt, slice_get, true}
use Rattle.std.proofs.lemmas.Bool.{and_from, and_parts, lt-ltb, ltb-true, true≢false}
use Rattle.std.specs.Option.{option_map}
use Rattle.std.specs.List.{range_with_len}
use mathlib.Core.Logic.{dite}
use native.Mathlib.Decide.{ℕ_discrete}
use Rattle.std.proofs.Math.Nat.{add-mul, suc-mul, zero-mul}
use Rattle.std.proofs.lemmas.Option.{slice_get-map, slice_get_within}
use Rattle.std.proofs.lemmas.List.FromFn.{length-map-range_with_len}
use Rattle.steps.specs.declared.step.Step.{Step}
use Rattle.steps.specs.declared.step.Step.TheVariants.{Turn, Up, Serve, Down, Poke}
use Rattle.schedules.specs.Choices.{by_wire, by_stage, choices, IsOfNetwork}

-- ---- a list after another

get-front : (xs ys : List Step) (i : ℕ) (s : Step) → slice_get xs i ≡ Some s → slice_get (xs ++ ys) i ≡ Some s
get-front [] ys i s e = absurd (cc)
get-front (x ∷ xs) ys zero s e = e
get-front (x ∷ xs) ys (suc i) s e = get-front xs ys i s e

get-after : (xs ys : List Step) (i j : ℕ) (s : Step) → i ≡ length xs + j → slice_get ys j ≡ Some s → slice_get (xs ++ ys) i ≡ Some s
get-after [] ys i j s is e = let same : i ≡ j = omega arith in ap (slice_get ys) same ∙ e
get-after (x ∷ xs) ys zero j s is e = absurd (omega arith)
get-after (x ∷ xs) ys (suc i) j s is e = get-after xs ys i j s (omega arith) e

either_part : (xs ys : List Step) (i : ℕ) (s : Step) → slice_get (xs ++ ys) i ≡ Some s → (slice_get xs i ≡ Some s) ⊎ ((j : ℕ) × (slice_get ys j ≡ Some s))
either_part [] ys i s e = inr (i, e)
either_part (x ∷ xs) ys zero s e = inl e
either_part (x ∷ xs) ys (suc i) s e = either_part xs ys i s e

-- ---- a row

get-range : (a n i : ℕ) → i < n → slice_get (range_with_len a n) i ≡ Some (a + i)
get-range a zero i h = absurd (omega arith)
get-range a (suc n) zero h = ap Some (sym (add-zero a))
get-range a (suc n) (suc i) h = get-range (a + 1) n i (omega arith) ∙ ap Some (let e : a + 1 + i ≡ a + suc i = omega arith in e)

module _ (k : ℕ) where
  length-by_wire : (step : ℕ → Step) → length (by_wire k step) ≡ 2 ^ k
  length-by_wire step = length-map-range_with_len step 0 (2 ^ k)

  wire_at : (step : ℕ → Step) (wire : ℕ) → wire < 2 ^ k → slice_get (by_wire k step) wire ≡ Some (step wire)
  wire_at step wire within =
      slice_get-map step (range_with_len 0 (2 ^ k)) wire ∙ ap (option_map step) (get-range 0 (2 ^ k) wire within ∙ ap Some (zero-add wire))

  wire_there : (step : ℕ → Step) (i : ℕ) (s : Step) → slice_get (by_wire k step) i ≡ Some s → (i < 2 ^ k) × (step i ≡ s)
  wire_there step i s e =
      let inside = slice_get_within (by_wire k step) i s e in
      let all = length-by_wire step in
      let within : i < 2 ^ k = omega arith in
      (within, let same : Some (step i) ≡ Some s = sym (wire_at step i within) ∙ e in cc)

  -- ---- rows by stage

  length-by_stage : (stages : ℕ) (step : ℕ → ℕ → Step) → length (by_stage k stages step) ≡ stages * 2 ^ k
  length-by_stage zero step = sym (zero-mul (2 ^ k))
  length-by_stage (suc n) step =
      length-append (by_stage k n step) (by_wire k (step n)) ∙ ap₂ (λ a b. a + b) (length-by_stage n step) (length-by_wire (step n)) ∙ sym (suc-mul n (2 ^ k))

  stage_at : (stages : ℕ) (step : ℕ → ℕ → Step) (row wire : ℕ) → row < stages → wire < 2 ^ k
      → slice_get (by_stage k stages step) (row * 2 ^ k + wire) ≡ Some (step row wire)
  stage_at zero step row wire less within = absurd (omega arith)
  stage_at (suc n) step row wire less within =
      let i = row * 2 ^ k + wire in
      dite (ℕ_discrete row n)
      (λ e. get-after (by_stage k n step) (by_wire k (step n)) i wire (step row wire)
      (ap (λ r. r * 2 ^ k + wire) e ∙ ap (λ l. l + wire) (sym (length-by_stage n step)))
      (wire_at (step n) wire within ∙ ap (λ r. Some (step r wire)) (sym e)))
      (λ other. get-front (by_stage k n step) (by_wire k (step n)) i (step row wire) (stage_at n step row wire (omega arith) within))

  stage_there : (stages : ℕ) (step : ℕ → ℕ → Step) (i : ℕ) (s : Step) → slice_get (by_stage k stages step) i ≡ Some s
      → (row : ℕ) × (wire : ℕ) × (row < stages) × (wire < 2 ^ k) × (step row wire ≡ s)
  stage_there zero step i s e = absurd (cc)
  stage_there (suc n) step i s e = ⊎_elim
      (λ (f : slice_get (by_stage k n step) i ≡ Some s). let (row, wire, less, within, is) = stage_there n step i s f in (row, wire, omega arith, within, is))
      (λ (b : (j : ℕ) × (slice_get (by_wire k (step n)) j ≡ Some s)). let t = wire_there (step n) b.0 s b.1 in (n, b.0, omega arith, t.0, t.1))
      (either_part (by_stage k n step) (by_wire k (step n)) i s e)

  -- ---- the list

  -- The list has 2 k + 1 rows of a step for each wire.
  pub count : length (choices k) ≡ 2 * k * 2 ^ k + 2 ^ k
  unfolding choices
  count =
      let ups = by_stage k k Up in let serves = by_wire k Serve in let downs = by_stage k k Down in
      let a = length-append (ups ++ serves) downs in let b = length-append ups serves in
      let c = length-by_stage k Up in let d = length-by_wire Serve in let e = length-by_stage k Down in
      let both : 2 * k ≡ k + k = omega arith in
      let twice : 2 * k * 2 ^ k ≡ k * 2 ^ k + k * 2 ^ k = ap (λ n. n * 2 ^ k) both ∙ add-mul k k (2 ^ k) in
      omega arith

  -- Row s, below row k, has the moves up of requests before stage s.
  pub up_at : (row wire : ℕ) → row < k → wire < 2 ^ k → slice_get (choices k) (row * 2 ^ k + wire) ≡ Some (Up row wire)
  unfolding choices
  up_at row wire less within =
      let ups = by_stage k k Up in let serves = by_wire k Serve in let downs = by_stage k k Down in
      let i = row * 2 ^ k + wire in
      get-front (ups ++ serves) downs i (Up row wire) (get-front ups serves i (Up row wire) (stage_at k Up row wire less within))

  -- Row k has the services.
  pub serve_at : (row wire : ℕ) → row ≡ k → wire < 2 ^ k → slice_get (choices k) (row * 2 ^ k + wire) ≡ Some (Serve wire)
  unfolding choices
  serve_at row wire is within =
      let ups = by_stage k k Up in let serves = by_wire k Serve in let downs = by_stage k k Down in
      let i = row * 2 ^ k + wire in
      get-front (ups ++ serves) downs i (Serve wire) (get-after ups serves i wire (Serve wire)
      (ap (λ r. r * 2 ^ k + wire) is ∙ ap (λ l. l + wire) (sym (length-by_stage k Up))) (wire_at Serve wire within))

  -- Row k + 1 + s has the moves down of replies after stage s.
  pub down_at : (row wire : ℕ) → k < row → row < 2 * k + 1 → wire < 2 ^ k → slice_get (choices k) (row * 2 ^ k + wire) ≡ Some (Down (row - (k + 1)) wire)
  unfolding choices
  down_at row wire more less within =
      let ups = by_stage k k Up in let serves = by_wire k Serve in let downs = by_stage k k Down in
      let stage : ℕ = row - (k + 1) in
      let a = length-append ups serves in
      let b = length-by_stage k Up in let c = length-by_wire Serve in
      let sum : row ≡ suc k + stage = omega arith in
      let parts : row * 2 ^ k ≡ k * 2 ^ k + 2 ^ k + stage * 2 ^ k =
      ap (λ n. n * 2 ^ k) sum ∙ add-mul (suc k) stage (2 ^ k) ∙ ap (λ n. n + stage * 2 ^ k) (suc-mul k (2 ^ k)) in
      get-after (ups ++ serves) downs (row * 2 ^ k + wire) (stage * 2 ^ k + wire) (Down stage wire) (omega arith)
      (stage_at k Down stage wire (omega arith) within)

  -- ---- the laws

  inside : (stage wire : ℕ) → stage < k → wire < 2 ^ k → (nat_lt stage k && nat_lt wire (2 ^ k)) ≡ true
  inside stage wire less within = and_from (nat_lt stage k) (nat_lt wire (2 ^ k)) (lt-ltb stage k less) (lt-ltb wire (2 ^ k) within)

  -- Each step of the list moves a message of the network, or is a service by one of its modules.
  pub are_named : (place : ℕ) (s : Step) → slice_get (choices k) place ≡ Some s → IsOfNetwork k s
  unfolding choices
  are_named place s e =
      let ups = by_stage k k Up in let serves = by_wire k Serve in let downs = by_stage k k Down in
      ⊎_elim
      (λ (f : slice_get (ups ++ serves) place ≡ Some s). ⊎_elim
      (λ (g : slice_get ups place ≡ Some s). let (row, wire, less, within, is) = stage_there k Up place s g in
      subst (IsOfNetwork k) is (refl, inside row wire less within))
      (λ (g : (j : ℕ) × (slice_get serves j ≡ Some s)). let t = wire_there Serve g.0 s g.1 in subst (IsOfNetwork k) t.1 (refl, lt-ltb g.0 (2 ^ k) t.0))
      (either_part ups serves place s f))
      (λ (f : (j : ℕ) × (slice_get downs j ≡ Some s)). let (row, wire, less, within, is) = stage_there k Down f.0 s f.1 in
      subst (IsOfNetwork k) is (refl, inside row wire less within))
      (either_part (ups ++ serves) downs place s e)

  both : (stage wire : ℕ) → (nat_lt stage k && nat_lt wire (2 ^ k)) ≡ true → (stage < k) × (wire < 2 ^ k)
  both stage wire within =
      let parts = and_parts (nat_lt stage k) (nat_lt wire (2 ^ k)) within in (ltb-true stage k parts.0, ltb-true wire (2 ^ k) parts.1)

  -- Each step that moves a message of the network, and each service by a module, is in the list.
  pub are_all : (s : Step) → IsOfNetwork k s → (place : ℕ) × (slice_get (choices k) place ≡ Some s)
  are_all (Up stage wire) (net, within) = let h = both stage wire within in (stage * 2 ^ k + wire, up_at stage wire h.0 h.1)
  are_all (Serve wire) (net, within) = (k * 2 ^ k + wire, serve_at k wire refl (ltb-true wire (2 ^ k) within))
  are_all (Down stage wire) (net, within) =
      let h = both stage wire within in
      let h0 = h.0 in
      let same : k + 1 + stage - (k + 1) ≡ stage = omega arith in
      ((k + 1 + stage) * 2 ^ k + wire, down_at (k + 1 + stage) wire (omega arith) (omega arith) h.1 ∙ ap (λ s. Some (Down s wire)) same)
  are_all (Turn p) (net, within) = absurd (true≢false (sym net))
  are_all (Poke poke) (net, within) = absurd (true≢false (sym net))

-- A number modulo the list's length is a place of the list.
pub in_the_list : (k j x : ℕ) → j ≡ k → k ≤ 6 → x % (2 * j * (1 * 2 ^ k % 4294967296) + 1 * 2 ^ k % 4294967296) < 2 * k * 2 ^ k + 2 ^ k
in_the_list zero j x is few = omega arith
in_the_list (suc zero) j x is few = omega arith
in_the_list (suc (suc zero)) j x is few = omega arith
in_the_list (suc (suc (suc zero))) j x is few = omega arith
in_the_list (suc (suc (suc (suc zero)))) j x is few = omega arith
in_the_list (suc (suc (suc (suc (suc zero))))) j x is few = omega arith
in_the_list (suc (suc (suc (suc (suc (suc zero)))))) j x is few = omega arith
in_the_list (suc (suc (suc (suc (suc (suc (suc n))))))) j x is few = absurd (omega arith)

-- Each place of the list is in one of its rows.
pub in_a_row : (k x : ℕ) → k ≤ 6 → x < 2 * k * 2 ^ k + 2 ^ k → x / (1 * 2 ^ k % 4294967296) < 2 * k + 1
in_a_row zero x few inside = omega arith
in_a_row (suc zero) x few inside = omega arith
in_a_row (suc (suc zero)) x few inside = omega arith
in_a_row (suc (suc (suc zero))) x few inside = omega arith
in_a_row (suc (suc (suc (suc zero)))) x few inside = omega arith
in_a_row (suc (suc (suc (suc (suc zero))))) x few inside = omega arith
in_a_row (suc (suc (suc (suc (suc (suc zero)))))) x few inside = omega arith
in_a_row (suc (suc (suc (suc (suc (suc (suc n))))))) x few inside = absurd (omega arith)
