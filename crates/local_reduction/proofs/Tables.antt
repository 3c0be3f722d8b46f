-- A table that has what each instruction needs, checked register by register and word by word.
use Rattle.std.proofs.Common.{◌≡◌, ◌⊎◌, inl, inr, ℕ, ◌+◌, ◌*◌, ◌<◌, ◌≤◌, ◌/◌, ◌%◌, ◌^◌, Bool, true, cond}
use Rattle.std.proofs.Common.{List, Result, Ok, Err, sym, ap, subst, ◌∙◌, arith, ◌||◌, eqb, ne_eqb}
use Rattle.std.specs.Prelude.{not, nat_le}
use Rattle.std.proofs.lemmas.Bool.{cases_lt, cases_eq, le-leb}
use Rattle.rv_table.specs.Rows.{insn_of}
use Rattle.rv_table.specs.declared.insn.Insn.{Insn}
use Rattle.flat_machine.specs.declared.fault.Fault.{Fault}
use Rattle.flat_machine.specs.declared.fault.Fault.TheVariants.{FetchOutsideCode}
use Rattle.flat_machine.specs.Memory.{number_at}
use Rattle.flat_machine.specs.Turns.{fetched, found}
use Rattle.local_reduction.specs.Live.{is_live, is_needed, HasAllLive, HasAllLiveAt}
use Rattle.local_reduction.proofs.Forgetting.{or_first, or_last}

-- The registers below this number that the instruction needs are live.
abbrev pub HasLiveBelow : (live : List (List Bool)) → (pc : ℕ) → Insn → (count : ℕ) → Type 0
HasLiveBelow live pc i count = (r : ℕ) → r < count → is_needed live pc i r ≡ true → is_live live pc r ≡ true

-- What the instructions in this many words of code need is live.
abbrev pub HasLiveInWords : (code : List ℕ) → (live : List (List Bool)) → (count : ℕ) → Type 0
HasLiveInWords code live count = (word : ℕ) → word < count → HasAllLiveAt code live (65536 + 4 * word)

same_insn : (x : Result Insn Fault) (i j : Insn) → x ≡ Ok i → x ≡ Ok j → i ≡ j
same_insn x i j e f = let both : Ok i ≡ Ok j = sym e ∙ f in cc

high_is_live : (live : List (List Bool)) (pc r : ℕ) → 32 ≤ r → is_live live pc r ≡ true
high_is_live live pc r high =
    or_first (not (eqb (pc % 4) 0) || eqb r 0 || nat_le 32 r) _ (or_last (not (eqb (pc % 4) 0) || eqb r 0) (nat_le 32 r) (le-leb 32 r high))

-- If the registers below 32 that an instruction needs are live at its pc, all that is needed there is live.
pub all_at : (code : List ℕ) (live : List (List Bool)) (pc : ℕ) (i : Insn) → fetched code pc ≡ Ok i → HasLiveBelow live pc i 32 → HasAllLiveAt code live pc
all_at code live pc i is below j r fetches needed = by (cases_lt r 32)
  where
    same : i ≡ j
    same = same_insn (fetched code pc) i j is fetches

    by : (r < 32) ⊎ (32 ≤ r) → is_live live pc r ≡ true
    by (inl low) = below r low (subst (λ k. is_needed live pc k r ≡ true) (sym same) needed)
    by (inr high) = high_is_live live pc r high

odd_is_live : (live : List (List Bool)) (pc r : ℕ) → (pc % 4 ≡ 0 → ⊥) → is_live live pc r ≡ true
odd_is_live live pc r odd =
    or_first (not (eqb (pc % 4) 0) || eqb r 0 || nat_le 32 r) _
    (or_first (not (eqb (pc % 4) 0) || eqb r 0) _ (or_first (not (eqb (pc % 4) 0)) _ (ap not (ne_eqb (pc % 4) 0 odd))))

-- An instruction is fetched from code alone.
inside : (code : List ℕ) (pc : ℕ) (i : Insn) → fetched code pc ≡ Ok i → pc / 2 ^ 16 ≡ 1
unfolding fetched
inside code pc i is = by (cases_eq (pc / 2 ^ 16) 1)
  where
    by : (pc / 2 ^ 16 ≡ 1) ⊎ (pc / 2 ^ 16 ≡ 1 → ⊥) → pc / 2 ^ 16 ≡ 1
    by (inl e) = e
    by (inr ne) =
        let refused : fetched code pc ≡ Err FetchOutsideCode =
        ap (λ b. cond (not b) (Err FetchOutsideCode) (found (insn_of (number_at code (pc % 2 ^ 16) 4)))) (ne_eqb (pc / 2 ^ 16) 1 ne) in
        let both : Ok i ≡ Err FetchOutsideCode = sym is ∙ refused in
        absurd (cc)

-- If all that is needed is live at each of the 16384 words of code, all that the code needs is live.
pub all_live : (code : List ℕ) (live : List (List Bool)) → HasLiveInWords code live 16384 → HasAllLive code live
all_live code live words pc i r fetches needed = by (cases_eq (pc % 4) 0)
  where
    within : pc / 65536 ≡ 1
    within = inside code pc i fetches

    place : pc % 4 ≡ 0 → pc ≡ 65536 + 4 * (pc % 65536 / 4)
    place even = omega (arith, even, within)

    by : (pc % 4 ≡ 0) ⊎ (pc % 4 ≡ 0 → ⊥) → is_live live pc r ≡ true
    by (inl even) = subst (λ at. HasAllLiveAt code live at) (sym (place even)) (words (pc % 65536 / 4) (omega arith)) i r fetches needed
    by (inr odd) = odd_is_live live pc r odd
