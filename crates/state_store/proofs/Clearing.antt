-- Clearing a register that is not live does not change what is kept.
use Rattle.std.proofs.Common.{◌≡◌, ◌⊎◌, inl, inr, ℕ, ◌+◌, ◌%◌, ◌<◌, ◌≤◌, zero, suc, Bool, true, false, true≢false, not, ◌||◌, ◌==◌, cond, List, [], ◌∷◌}
use Rattle.std.proofs.Common.{refl, sym, ap, subst, ◌∙◌, arith, ne_eqb, eq-eqb}
use Rattle.std.specs.Prelude.{slice_index, slice_set}
use Rattle.std.proofs.lemmas.Bool.{cases_lt, leb-false}
use Rattle.std.proofs.lemmas.List.{get_or-set_other}
use Rattle.flat_machine.specs.State.{Processor}
use Rattle.flat_machine.specs.Flat.{with_poked_register}
use Rattle.hart.specs.State.{CoreState}
use Rattle.local_reduction.specs.Live.{is_live}
use Rattle.local_reduction.specs.Forgetting.{DeadAreNotKept, only}
use Rattle.state_store.specs.Placed.{Placed, IsBare, IsSame}
use Rattle.state_store.proofs.Listed.{up_to}

-- the local state with this core and this console
abbrev pub placed_with : CoreState → List ℕ → Placed
placed_with c console = record { setting = c.setting; local_state = record { processor = c.state; console = console } }

poked : (r : ℕ) (p : Processor) → r < 32 → with_poked_register r 0 p ≡ record p { registers = slice_set p.registers r 0 }
poked r p low =
    ap (λ b. cond b (record p { pc = 0 }) (record p { registers = slice_set p.registers r 0 })) (ne_eqb r 32 (λ same. absurd (omega (arith, low, same))))

-- The registers below `done` that are not live are cleared.
pub record IsCleared (live : List (List Bool)) (first : Placed) (pc : ℕ) (c : CoreState) (console : List ℕ) (done : ℕ) : Type 0 where
  pub same : IsSame live (placed_with c console) first
  pub pc_is : c.state.pc ≡ pc
  -- The registers from 1 on that are below `done` and not live hold 0.
  pub bare : (r : ℕ) → 0 < r → r < done → is_live live pc r ≡ false → slice_index c.state.registers r ≡ 0

-- Below register 1 there is no register to clear.
pub none_cleared : (live : List (List Bool)) (first : Placed) (pc : ℕ) (c : CoreState) (console : List ℕ) →
    IsSame live (placed_with c console) first → c.state.pc ≡ pc → IsCleared live first pc c console 1
none_cleared live first pc c console same pc_is =
    record { same = same; pc_is = pc_is; bare = λ r some low. absurd (omega (arith, some, low)) }

-- A live register need not be cleared.
pub kept_on : (live : List (List Bool)) (first : Placed) (pc r : ℕ) (c : CoreState) (console : List ℕ) → is_live live pc r ≡ true →
    IsCleared live first pc c console r → IsCleared live first pc c console (r + 1)
kept_on live first pc r c console alive h = record {
  same = h.same;
  pc_is = h.pc_is;
  bare = λ q some low dead. by q some dead (up_to q r low);
}
  where
    by : (q : ℕ) → 0 < q → is_live live pc q ≡ false → (q < r) ⊎ (q ≡ r) → slice_index c.state.registers q ≡ 0
    by q some dead (inl below) = h.bare q some below dead
    by q some dead (inr here) = absurd (true≢false (sym alive ∙ (ap (is_live live pc) (sym here) ∙ dead)))

zeroed : (xs : List ℕ) (r : ℕ) → slice_index (slice_set xs r 0) r ≡ 0
zeroed [] r = refl
zeroed (x ∷ xs) zero = refl
zeroed (x ∷ xs) (suc r) = zeroed xs r

-- Setting a register that is not live to 0 clears the registers below the next one.
pub cleared_on : DeadAreNotKept → (live : List (List Bool)) (first : Placed) (pc r : ℕ) (old new : CoreState) (console : List ℕ) → r < 32 →
    is_live live pc r ≡ false → new ≡ record old { state = with_poked_register r 0 old.state } → IsCleared live first pc old console r →
    IsCleared live first pc new console (r + 1)
cleared_on law live first pc r old new console low dead is h =
    subst (λ c. IsCleared live first pc c console (r + 1)) (sym (is ∙ (λ i. record { setting = old.setting; state = poked r old.state low i })))
    (record {
      same = record {
        setting = h.same.setting;
        kept = law live (placed_with old console).local_state r 0 (subst (λ at. is_live live at r ≡ false) (sym h.pc_is) dead) ∙ h.same.kept;
      };
      pc_is = h.pc_is;
      bare = λ q some below still. by q some still (up_to q r below);
    })
  where
    by : (q : ℕ) → 0 < q → is_live live pc q ≡ false → (q < r) ⊎ (q ≡ r) → slice_index (slice_set old.state.registers r 0) q ≡ 0
    by q some still (inl below) =
        get_or-set_other old.state.registers r q 0 0 (λ same. omega (arith, below, same)) ∙ h.bare q some below still
    by q some still (inr here) = ap (slice_index (slice_set old.state.registers r 0)) here ∙ zeroed old.state.registers r

-- ---- all that are not live are cleared

or_left : (a b : Bool) → (a || b) ≡ false → a ≡ false
or_left true b h = h
or_left false b h = refl

or_right : (a b : Bool) → (a || b) ≡ false → b ≡ false
or_right true b h = absurd (true≢false h)
or_right false b h = h

-- A number that is not live is one of registers 1 to 31.
dead_is_register : (live : List (List Bool)) (pc r : ℕ) → is_live live pc r ≡ false → (0 < r) × (r < 32)
dead_is_register live pc r dead =
    let first = or_left _ _ dead in
    let zero_not = or_right (not (pc % 4 == 0)) (r == 0) (or_left _ _ first) in
    let low = leb-false 32 r (or_right _ _ first) in
    (by (cases_lt 0 r) zero_not, low)
  where
    by : (0 < r) ⊎ (r ≤ 0) → (r == 0) ≡ false → 0 < r
    by (inl some) none = some
    by (inr past) none = let here : r ≡ 0 = omega (arith, past) in absurd (true≢false (sym (eq-eqb r 0 here) ∙ none))

-- Keeping only a set of places changes nothing if all other places are zero.
only_same : (set : ℕ → Bool) (xs : List ℕ) → ((r : ℕ) → set r ≡ false → slice_index xs r ≡ 0) → only set xs ≡ xs
only_same set [] h = refl
only_same set (x ∷ xs) h =
    let rest = only_same (λ r. set (suc r)) xs (λ r. h (suc r)) in
    λ i. by (set 0) (h 0) i ∷ rest i
  where
    by : (b : Bool) → (b ≡ false → x ≡ 0) → cond b x 0 ≡ x
    by true none = refl
    by false none = sym (none refl)

-- Once all 32 registers are done, those that are not live hold 0.
pub all_bare : (live : List (List Bool)) (first : Placed) (pc : ℕ) (c : CoreState) (console : List ℕ) (done : ℕ) → 32 ≤ done →
    IsCleared live first pc c console done → IsBare live (placed_with c console)
all_bare live first pc c console done far h =
    only_same (is_live live c.state.pc) c.state.registers
    (λ r dead.
    let moved : is_live live pc r ≡ false = subst (λ at. is_live live at r ≡ false) h.pc_is dead in
    let where_is = dead_is_register live pc r moved in
    let low = where_is.1 in
    h.bare r where_is.0 (omega (arith, low, far)) moved)
