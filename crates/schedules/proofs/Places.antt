-- The step at each place of a round.
use Rattle.std.proofs.Common.{◌≡◌, ℕ, zero, suc, ◌+◌, ◌-◌, ◌*◌, ◌<◌, ◌≤◌, length, Some, refl, sym}
use Rattle.std.proofs.Common.{ap, ap₂, ◌∙◌, arith, add-zero, zero-add, true, false, eqb, eq-eqb}
use Rattle.std.proofs.lemmas.Bool.{ne_eqb, le-leb, lt-leb}
use Rattle.std.specs.Prelude.{◌/◌, ◌%◌, ◌^◌, ◌==◌, nat_le, if◌then◌else◌, map, slice_get}
use Rattle.std.specs.Option.{option_map}
use Rattle.std.specs.List.{range_with_len}
use Rattle.std.proofs.lemmas.Nat.{div-mul-add, mod-mul-add, mul-add-lt}
use Rattle.std.proofs.lemmas.Option.{slice_get-map}
use Rattle.std.proofs.lemmas.List.FromFn.{length-map-range_with_len}
use Rattle.steps.specs.declared.step.Step.{Step}
use Rattle.steps.specs.declared.step.Step.TheVariants.{Turn, Up, Serve, Down}
use Rattle.schedules.specs.Rounds.{round}

-- the step at a wire of a row: the turns, the moves up from the last stage, the services, and the moves down from the first
abbrev pub in_row : (k row wire : ℕ) → Step
in_row k row wire =
    if row == 0 then Turn wire else
    if nat_le row k then Up (k - row) wire else
    if row == k + 1 then Serve wire else
    Down (row - (k + 2)) wire

abbrev pub there : (k place : ℕ) → Step
there k place = in_row k (place / 2 ^ k) (place % 2 ^ k)

-- Each round is the list of these steps, by computation.
round_is : (k : ℕ) → k ≤ 6 → round k ≡ map (there k) (range_with_len 0 (2 ^ k * (2 * k + 2)))
unfolding round
round_is zero few = refl
round_is (suc zero) few = refl
round_is (suc (suc zero)) few = refl
round_is (suc (suc (suc zero))) few = refl
round_is (suc (suc (suc (suc zero)))) few = refl
round_is (suc (suc (suc (suc (suc zero))))) few = refl
round_is (suc (suc (suc (suc (suc (suc zero)))))) few = refl
round_is (suc (suc (suc (suc (suc (suc (suc n))))))) few = absurd (omega arith)

get-range : (a n i : ℕ) → i < n → slice_get (range_with_len a n) i ≡ Some (a + i)
get-range a zero i h = absurd (omega arith)
get-range a (suc n) zero h = ap Some (sym (add-zero a))
get-range a (suc n) (suc i) h = get-range (a + 1) n i (omega arith) ∙ ap Some (let e : a + 1 + i ≡ a + suc i = omega arith in e)

pub round_at : (k place : ℕ) → k ≤ 6 → place < 2 ^ k * (2 * k + 2) → slice_get (round k) place ≡ Some (there k place)
round_at k place few within =
    let all : ℕ = 2 ^ k * (2 * k + 2) in
    ap (λ steps. slice_get steps place) (round_is k few)
    ∙ slice_get-map (there k) (range_with_len 0 all) place
    ∙ ap (option_map (there k)) (get-range 0 all place within ∙ ap Some (zero-add place))

-- A round of a network of k stages has 2 k + 2 rows of a step for each wire.
pub round_length : (k : ℕ) → k ≤ 6 → length (round k) ≡ 2 ^ k * (2 * k + 2)
round_length k few = ap length (round_is k few) ∙ length-map-range_with_len (there k) 0 (2 ^ k * (2 * k + 2))

-- ---- rows and wires

turn_in : (k row wire : ℕ) → row ≡ 0 → in_row k row wire ≡ Turn wire
turn_in k row wire is = let first : eqb row 0 ≡ true = eq-eqb row 0 is in rw first refl

up_in : (k row wire : ℕ) → 0 < row → row ≤ k → in_row k row wire ≡ Up (k - row) wire
up_in k row wire some within =
    let first : eqb row 0 ≡ false = ne_eqb row 0 (λ e. omega arith) in
    let second : nat_le row k ≡ true = le-leb row k within in
    rw (first, second) refl

serve_in : (k row wire : ℕ) → row ≡ k + 1 → in_row k row wire ≡ Serve wire
serve_in k row wire is =
    let first : eqb row 0 ≡ false = ne_eqb row 0 (λ e. omega arith) in
    let second : nat_le row k ≡ false = lt-leb row k (omega arith) in
    let third : eqb row (k + 1) ≡ true = eq-eqb row (k + 1) is in
    rw (first, second, third) refl

down_in : (k row wire : ℕ) → k + 1 < row → in_row k row wire ≡ Down (row - (k + 2)) wire
down_in k row wire behind =
    let first : eqb row 0 ≡ false = ne_eqb row 0 (λ e. omega arith) in
    let second : nat_le row k ≡ false = lt-leb row k (omega arith) in
    let third : eqb row (k + 1) ≡ false = ne_eqb row (k + 1) (λ e. omega arith) in
    rw (first, second, third) refl

module _ (k row wire : ℕ) (few : k ≤ 6) (at_most : row < 2 * k + 2) (within : wire < 2 ^ k) where
  at_wire : (s : Step) → in_row k row wire ≡ s → slice_get (round k) (row * 2 ^ k + wire) ≡ Some s
  at_wire s is =
      round_at k (row * 2 ^ k + wire) few (mul-add-lt row (2 ^ k) wire (2 * k + 2) at_most within)
      ∙ ap Some (ap₂ (in_row k) (div-mul-add row (2 ^ k) wire within) (mod-mul-add row (2 ^ k) wire within) ∙ is)

  -- Row 0 has the turns.
  pub turn_at : row ≡ 0 → slice_get (round k) (row * 2 ^ k + wire) ≡ Some (Turn wire)
  turn_at is = at_wire (Turn wire) (turn_in k row wire is)

  -- A row from 1 to k has the moves up of requests before stage k - row.
  pub up_at : 0 < row → row ≤ k → slice_get (round k) (row * 2 ^ k + wire) ≡ Some (Up (k - row) wire)
  up_at some up = at_wire (Up (k - row) wire) (up_in k row wire some up)

  -- Row k + 1 has the services.
  pub serve_at : row ≡ k + 1 → slice_get (round k) (row * 2 ^ k + wire) ≡ Some (Serve wire)
  serve_at is = at_wire (Serve wire) (serve_in k row wire is)

  -- A row after row k + 1 has the moves down of replies after stage row - (k + 2).
  pub down_at : k + 1 < row → slice_get (round k) (row * 2 ^ k + wire) ≡ Some (Down (row - (k + 2)) wire)
  down_at behind = at_wire (Down (row - (k + 2)) wire) (down_in k row wire behind)
