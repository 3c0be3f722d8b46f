-- A turn that does not ask for the processor's own number is the same for any number.
use Rattle.std.proofs.Common.{◌≡◌, ◌⊎◌, inl, inr, ℕ, ◌%◌, Bool, true, false, cond, zero, suc, List, [], Result, Ok, Err, refl, sym, ap, subst, ◌∙◌, eqb}
use Rattle.std.proofs.lemmas.Bool.{eqb-true}
use Rattle.rv_table.specs.declared.insn.Insn.{Insn}
use Rattle.rv_table.specs.declared.insn.Insn.TheVariants.{Op, OpImm, Shift, Load, Store, Branch, Upper, Jal, Jalr, Fence, Ecall, Ebreak, Amo}
use Rattle.rv_table.specs.declared.operation.UpperOp.TheVariants.{Lui, Auipc}
use Rattle.flat_machine.specs.declared.setting.Setting.{Setting}
use Rattle.flat_machine.specs.declared.fault.Fault.{Fault}
use Rattle.flat_machine.specs.declared.fault.Fault.TheVariants.{UnknownCall}
use Rattle.flat_machine.specs.declared.effect.Effect.{Effect}
use Rattle.flat_machine.specs.declared.effect.Effect.TheVariants as does
use Rattle.flat_machine.specs.State.{Processor, is_running}
use Rattle.flat_machine.specs.Effects.{effect_of, call_of, register_of}
use Rattle.flat_machine.specs.Memory.{region_of}
use Rattle.flat_machine.specs.Turns.{performed, turn_by, turn_of, fetched}
use Rattle.local_reduction.specs.LocalStates.{LocalState, alone_by, alone_once, alone, IsReference, GoesOn, Spins, IsAtReference}
use Rattle.local_reduction.specs.Closing.{local_state_of}
use Rattle.local_reduction.specs.Exchanging.{Asks, AskNot, NeverAsks, IsBeside}
use Rattle.local_reduction.proofs.Spinning.{alone_processor}

-- s and t are the settings of two processors of one machine.
module _ (s t : Setting) (b : IsBeside s t) where
  region_same : (size address : ℕ) (writes : Bool) → region_of s size address writes ≡ region_of t size address writes
  unfolding region_of
  region_same size address writes = rw b.shared_words refl

  performed_same : (code : List ℕ) (p : Processor) (i : Insn) (e : Effect) → performed s code p i e ≡ performed t code p i e
  performed_same code p i (does.Write rd value) = refl
  performed_same code p i (does.Jump rd value target) = refl
  performed_same code p i does.Pass = refl
  performed_same code p i (does.Load op rd address) = rw region_same refl
  performed_same code p i (does.Store op address value) = rw region_same refl
  performed_same code p i (does.Amo op rd address value) = rw region_same refl
  performed_same code p i (does.Print byte) = refl
  performed_same code p i (does.Halt byte) = refl
  performed_same code p i (does.Fail fault) = refl

  call_same : (a7 a0 : ℕ) → (a7 ≡ 2 → ⊥) → call_of s a7 a0 ≡ call_of t a7 a0
  unfolding call_of
  call_same a7 a0 h = by (eqb a7 2) refl
    where
      by : (c : Bool) → eqb a7 2 ≡ c → call_of s a7 a0 ≡ call_of t a7 a0
      by true e = absurd (h (eqb-true a7 2 e))
      by false e = rw e (rw b.processors refl)

  effect_same : (p : Processor) (i : Insn) → (i ≡ Ecall → register_of p.registers 17 ≡ 2 → ⊥) → effect_of s p.pc p.registers i ≡ effect_of t p.pc p.registers i
  unfolding effect_of
  effect_same p (Op op rd rs1 rs2) h = refl
  effect_same p (OpImm op rd rs1 imm) h = refl
  effect_same p (Shift op rd rs1 amount) h = refl
  effect_same p (Load op rd rs1 imm) h = refl
  effect_same p (Store op rs1 rs2 imm) h = refl
  effect_same p (Branch op rs1 rs2 offset) h = refl
  effect_same p (Upper Lui rd upper) h = refl
  effect_same p (Upper Auipc rd upper) h = refl
  effect_same p (Jal rd offset) h = refl
  effect_same p (Jalr rd rs1 imm) h = refl
  effect_same p (Fence rd rs1 ordering) h = refl
  effect_same p Ecall h = call_same (register_of p.registers 17) (register_of p.registers 10) (h refl)
  effect_same p Ebreak h = refl
  effect_same p (Amo op rd rs1 rs2 aq rl) h = refl

  by_same : (code : List ℕ) (p : Processor) (f : Result Insn Fault) → (f ≡ Ok Ecall → register_of p.registers 17 ≡ 2 → ⊥) →
      turn_by s code p f ≡ turn_by t code p f
  by_same code p (Ok i) h =
      performed_same code p i (effect_of s p.pc p.registers i) ∙ ap (performed t code p i) (effect_same p i (λ e. h (ap Ok e)))
  by_same code p (Err fault) h = refl

  -- A turn that does not ask for the number is the same with both.
  pub turn_same : (code : List ℕ) (p : Processor) → (Asks code p → ⊥) → turn_of s code p ≡ turn_of t code p
  turn_same code p h = by_same code p (fetched code p.pc) (λ e r. h (e, r))

-- ---- references

call_no_reference : (s : Setting) (code : List ℕ) (p : Processor) (i : Insn) (a7 a0 : ℕ) → IsReference (performed s code p i (call_of s a7 a0)) → ⊥
unfolding call_of
call_no_reference s code p i a7 a0 = by (eqb a7 0) (eqb a7 1) (eqb a7 2) (eqb a7 3)
  where
    by : (c0 c1 c2 c3 : Bool) →
        IsReference (performed s code p i (cond c0 (does.Halt (a0 % 256)) (cond c1 (does.Print (a0 % 256)) (cond c2 (does.Write 10 s.number) (cond c3
        (does.Write 10 s.processors) (does.Fail UnknownCall)))))) → ⊥
    by true c1 c2 c3 h = h
    by false true c2 c3 h = h
    by false false true c3 h = h
    by false false false true h = h
    by false false false false h = h

-- If the next turn is a reference, it does not ask for the number.
pub reference_asks_not : (s : Setting) (code : List ℕ) (p : Processor) → IsReference (turn_of s code p) → Asks code p → ⊥
unfolding effect_of
reference_asks_not s code p h asks =
    call_no_reference s code p Ecall (register_of p.registers 17) (register_of p.registers 10)
    (subst (λ f. IsReference (turn_by s code p f)) asks.0 h)

-- ---- turns alone

module _ (s t : Setting) (b : IsBeside s t) (code : List ℕ) where
  once_same : (a : LocalState) → (is_running a.processor.status ≡ true → Asks code a.processor → ⊥) → alone_once s code a ≡ alone_once t code a
  once_same a h = by (is_running a.processor.status) refl
    where
      by : (c : Bool) → is_running a.processor.status ≡ c →
          cond c (alone_by a (turn_of s code a.processor)) a ≡ cond c (alone_by a (turn_of t code a.processor)) a
      by true e = ap (alone_by a) (turn_same s t b code a.processor (h e))
      by false e = refl

  -- Turns alone of which none asks for the number lead to the same local state with both.
  pub alone_same : (n : ℕ) (a : LocalState) → AskNot n s code a → alone n s code a ≡ alone n t code a
  alone_same zero a h = refl
  alone_same (suc n) a h =
      alone_same n (alone_once s code a) h.1 ∙ ap (alone n t code) (once_same a h.0)

  -- A reference is the same turn with both numbers.
  pub reference_same : (p : Processor) → IsReference (turn_of s code p) → turn_of s code p ≡ turn_of t code p
  reference_same p h = turn_same s t b code p (reference_asks_not s code p h)

-- A processor that goes on with one number goes on with the other.
goes_same : (s t : Setting) → IsBeside s t → (code : List ℕ) (p : Processor) → GoesOn s code p → GoesOn t code p
goes_same s t b code p h = (
  h.0,
  λ refers. h.1 (subst IsReference
      (reference_same t s (record { processors = sym b.processors; shared_words = sym b.shared_words }) code p refers) refers),
)

module _ (s t : Setting) (b : IsBeside s t) (code : List ℕ) where
  -- A processor that spins with one number, and never asks for it, spins with the other.
  spins_same : (a : LocalState) → NeverAsks s code a → Spins s code a.processor → Spins t code a.processor
  spins_same a quiet h = λ n.
      subst (GoesOn t code)
      (alone_processor n s code (local_state_of a.processor []) a refl
      ∙ (ap (λ (c : LocalState). c.processor) (alone_same s t b code n a (quiet n))
      ∙ alone_processor n t code a (local_state_of a.processor []) refl))
      (goes_same s t b code (alone n s code (local_state_of a.processor [])).processor (h n))

  -- A processor that is at its reference with one number, and never asks for it, is at its reference with the other.
  pub at_reference_same : (a : LocalState) → NeverAsks s code a → IsAtReference s code a.processor → IsAtReference t code a.processor
  at_reference_same a quiet h runs = by (h runs)
    where
      by : IsReference (turn_of s code a.processor) ⊎ Spins s code a.processor → IsReference (turn_of t code a.processor) ⊎ Spins t code a.processor
      by (inl refers) = inl (subst IsReference (reference_same s t b code a.processor refers) refers)
      by (inr spins) = inr (spins_same a quiet spins)

-- A processor that never asks does not ask after some turns alone.
pub never_later : (n : ℕ) (s : Setting) (code : List ℕ) (a : LocalState) → NeverAsks s code a → NeverAsks s code (alone n s code a)
never_later zero s code a quiet = quiet
never_later (suc n) s code a quiet = never_later n s code (alone_once s code a) (λ m. (quiet (suc m)).1)

-- If neither n turns alone nor the turn after them ask for the number, n + 1 turns do not.
pub ask_not_more : (n : ℕ) (s : Setting) (code : List ℕ) (a : LocalState) → AskNot n s code a →
    (is_running (alone n s code a).processor.status ≡ true → Asks code (alone n s code a).processor → ⊥) → AskNot (suc n) s code a
ask_not_more zero s code a h last = (last, tt)
ask_not_more (suc n) s code a h last = (h.0, ask_not_more n s code (alone_once s code a) h.1 last)
