-- A processor that turns alone bring back to where it was goes the same way for ever.
use Rattle.std.proofs.Common.{◌≡◌, ◌⊎◌, inl, inr, ℕ, ◌+◌, ◌-◌, ◌<◌, ◌≤◌, true, zero, suc, List, refl, sym, ap, subst, ◌∙◌, arith, []}
use Rattle.std.proofs.lemmas.Bool.{cases_lt}
use Rattle.flat_machine.specs.declared.setting.Setting.{Setting}
use Rattle.flat_machine.specs.State.{is_running}
use Rattle.local_reduction.specs.LocalStates.{LocalState, alone_once, alone, GoesOn, GoesOnFor}
use Rattle.local_reduction.specs.Closing.{local_state_of}
use Rattle.local_reduction.specs.Exchanging.{Asks, AskNot, NeverAsks}
use Rattle.local_reduction.specs.Laws.{WhatComesBackSpins, WhatComesBackNeverAsks}
use Rattle.local_reduction.proofs.Spinning.{alone_processor}
use Rattle.local_reduction.proofs.OneTurn.{Stands, standing_once}
use Rattle.local_reduction.proofs.Numbers.{reference_asks_not}

module _ (s : Setting) (code : List ℕ) where
  -- Turns alone after other turns alone are all of them together.
  pub alone_both : (n j m : ℕ) (a : LocalState) → m ≡ n + j → alone m s code a ≡ alone j s code (alone n s code a)
  alone_both zero j m a e = let same : m ≡ j = omega (arith, e) in ap (λ i. alone i s code a) same
  alone_both (suc n) j zero a e = absurd (omega (arith, e))
  alone_both (suc n) j (suc m) a e = alone_both n j m (alone_once s code a) (omega (arith, e))

  -- What holds on the whole way back to where it began holds for ever.
  for_ever : (P : LocalState → Type 0) (n : ℕ) (a : LocalState) → ((m : ℕ) → m < suc n → P (alone m s code a)) → alone (suc n) s code a ≡ a →
      (fuel m : ℕ) → m ≤ fuel → P (alone m s code a)
  for_ever P n a all back zero m low = all m (omega (arith, low))
  for_ever P n a all back (suc fuel) m low =
      by (λ j less. for_ever P n a all back fuel j less) (cases_lt m (suc n))
    where
      by : ((j : ℕ) → j ≤ fuel → P (alone j s code a)) → (m < suc n) ⊎ (suc n ≤ m) → P (alone m s code a)
      by again (inl less) = all m less
      by again (inr past) =
          subst P (sym (alone_both (suc n) (m - suc n) m a (omega (arith, past)) ∙ ap (alone (m - suc n) s code) back))
          (again (m - suc n) (omega (arith, low, past)))

  goes_at : (n : ℕ) (a : LocalState) → GoesOnFor n s code a → (m : ℕ) → m < n → GoesOn s code (alone m s code a).processor
  goes_at zero a h m less = absurd (omega (arith, less))
  goes_at (suc n) a h zero less = h.0
  goes_at (suc n) a h (suc m) less = goes_at n (alone_once s code a) h.1 m (omega (arith, less))

  abbrev AsksNow : LocalState → Type 0
  AsksNow a = is_running a.processor.status ≡ true → Asks code a.processor → ⊥

  asks_at : (n : ℕ) (a : LocalState) → AskNot n s code a → (m : ℕ) → m < n → AsksNow (alone m s code a)
  asks_at zero a h m less = absurd (omega (arith, less))
  asks_at (suc n) a h zero less = h.0
  asks_at (suc n) a h (suc m) less = asks_at n (alone_once s code a) h.1 m (omega (arith, less))

  never : (a : LocalState) → ((m : ℕ) → AsksNow (alone m s code a)) → NeverAsks s code a
  never a h zero = tt
  never a h (suc n) = (h 0, never (alone_once s code a) (λ m. h (suc m)) n)

  -- A processor that has stopped, or is about to refer to a word, never asks for its own number.
  pub stands_quiet : (a : LocalState) → Stands s code a.processor → NeverAsks s code a
  stands_quiet a stands zero = tt
  stands_quiet a stands (suc n) =
      let rest = stands_quiet a stands n in (
        λ runs. reference_asks_not s code a.processor (stands runs),
        subst (AskNot n s code) (sym (standing_once s code a stands)) rest,
      )

  -- A processor that asks neither in this many turns nor ever after them never asks.
  pub never_from : (n : ℕ) (a : LocalState) → AskNot n s code a → NeverAsks s code (alone n s code a) → NeverAsks s code a
  never_from zero a h later = later
  never_from (suc n) a h later = by (never_from n (alone_once s code a) h.1 later)
    where
      by : NeverAsks s code (alone_once s code a) → NeverAsks s code a
      by rest zero = tt
      by rest (suc m) = (h.0, rest m)

  -- If a processor goes on for this many turns, and then once more, it goes on for one turn more.
  pub goes_on_more : (n : ℕ) (a : LocalState) → GoesOnFor n s code a → GoesOn s code (alone n s code a).processor → GoesOnFor (suc n) s code a
  goes_on_more zero a h last = (last, tt)
  goes_on_more (suc n) a h last = (h.0, goes_on_more n (alone_once s code a) h.1 last)

-- If turns alone, in each of which it goes on, bring a processor back to where it was, it spins.
pub comes_back : WhatComesBackSpins
comes_back s code a count goes back = λ n.
    subst (GoesOn s code) (alone_processor n s code a (local_state_of a.processor []) refl)
    (for_ever s code (λ (b : LocalState). GoesOn s code b.processor) count a (goes_at s code (suc count) a goes) back n n (omega arith))

-- If turns alone, in none of which it asks for its own number, bring a processor back to where it was, it never asks.
pub comes_back_quiet : WhatComesBackNeverAsks
comes_back_quiet s code a count asks back =
    never s code a (λ m. for_ever s code (AsksNow s code) count a (asks_at s code (suc count) a asks) back m m (omega arith))
