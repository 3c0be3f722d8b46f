-- A reference's function means the turn's change of the word.
use Rattle.std.proofs.Common.{◌≡◌, ℕ, ◌*◌, ◌%◌, ◌^◌, ◌<◌, Bool, true, false, cond, eqb, List, Result, Ok, Err, refl, sym, ◌∙◌, subst}
use Rattle.rv_table.specs.declared.insn.Insn.{Insn}
use Rattle.rv_table.specs.declared.insn.Insn.TheVariants.{Op, OpImm, Shift, Load, Store, Branch, Upper, Jal, Jalr, Fence, Ecall, Ebreak, Amo}
use Rattle.rv_table.specs.declared.operation.UpperOp.TheVariants.{Lui, Auipc}
use Rattle.phi_algebra.specs.declared.phi.Phi.{Phi}
use Rattle.phi_algebra.specs.Functions.{IsInRange, apply}
use Rattle.hart.specs.Table.{amo_phi, load_phi, store_phi}
use Rattle.hart.proofs.Lemmas.{amo_small, store_meaning, whole_change}
use Rattle.flat_machine.specs.declared.effect.Effect.{Effect}
use Rattle.flat_machine.specs.declared.effect.Effect.TheVariants as does
use Rattle.flat_machine.specs.declared.effect.Region.{Region}
use Rattle.flat_machine.specs.declared.effect.Region.TheVariants as region
use Rattle.flat_machine.specs.declared.event.Cause.TheVariants as cause
use Rattle.flat_machine.specs.declared.event.Retired.{Retired}
use Rattle.flat_machine.specs.declared.fault.Fault.{Fault}
use Rattle.flat_machine.specs.declared.fault.Fault.TheVariants.{TargetNotAligned, UnknownCall}
use Rattle.flat_machine.specs.declared.setting.Setting.{Setting}
use Rattle.flat_machine.specs.Effects.{call_of, effect_of, register_of}
use Rattle.flat_machine.specs.Laws.{AreBelow, HasWords}
use Rattle.flat_machine.specs.Memory.{region_of}
use Rattle.flat_machine.specs.Operations.{amo_value, is_taken, load_size, loaded, store_size}
use Rattle.flat_machine.specs.State.{Processor}
use Rattle.flat_machine.specs.Turns.{Turn, Retires, Reaches, Stops, accessed, fetched, gone_to, performed, retired_writing, turn_by, turn_of}
use Rattle.flat_machine.specs.Words.{extended, part_of, plus, with_part}
use Rattle.flat_machine.proofs.Lemmas.{register_small, shared_region, store_inside}
use Rattle.machine_ports.specs.Ports.{phi_of_effect, phi_of_insn, reference_phi}
use Rattle.machine_ports.proofs.Functions.{amo_means, amo_range, load_means, load_range, store_range}

-- If the turn is a reference, the function is in range and means the change, and the machine has the word.
Means : Setting → Phi → Turn → Type 0
Means s phi (Retires after retired) = Unit {0}
Means s phi (Reaches word change after) = IsInRange phi × ((x : ℕ) → x < 2 ^ 32 → apply phi x ≡ change x) × (word < s.shared_words)
Means s phi (Stops cause) = Unit {0}

-- ---- effects

-- If the instruction stores a value, the value is a word.
StoresWord : Effect → Type 0
StoresWord (does.Store op address value) = value < 2 ^ 32
StoresWord (does.Amo op rd address value) = value < 2 ^ 32
StoresWord _ = Unit {0}

call_stores : (s : Setting) (a7 a0 : ℕ) → StoresWord (call_of s a7 a0)
unfolding StoresWord call_of
call_stores s a7 a0 = by_call (eqb a7 0) (eqb a7 1) (eqb a7 2) (eqb a7 3)
  where
    by_call : (halt print own all : Bool) →
        StoresWord (cond halt (does.Halt (a0 % 256)) (cond print (does.Print (a0 % 256))
        (cond own (does.Write 10 s.number) (cond all (does.Write 10 s.processors) (does.Fail UnknownCall)))))
    by_call true print own all = tt
    by_call false true own all = tt
    by_call false false true all = tt
    by_call false false false true = tt
    by_call false false false false = tt

branch_stores : (taken : Bool) (target : ℕ) → StoresWord (cond taken (does.Jump 0 0 target) does.Pass)
unfolding StoresWord
branch_stores true target = tt
branch_stores false target = tt

effect_stores : (s : Setting) (pc : ℕ) (registers : List ℕ) (i : Insn) → AreBelow (2 ^ 32) registers → StoresWord (effect_of s pc registers i)
unfolding StoresWord effect_of
effect_stores s pc registers (Op op rd rs1 rs2) all = tt
effect_stores s pc registers (OpImm op rd rs1 imm) all = tt
effect_stores s pc registers (Shift op rd rs1 amount) all = tt
effect_stores s pc registers (Load op rd rs1 imm) all = tt
effect_stores s pc registers (Store op rs1 rs2 imm) all = register_small registers rs2 all
effect_stores s pc registers (Branch op rs1 rs2 offset) all =
    branch_stores (is_taken op (register_of registers rs1) (register_of registers rs2)) (plus pc (extended 13 (2 * offset)))
effect_stores s pc registers (Upper Lui rd upper) all = tt
effect_stores s pc registers (Upper Auipc rd upper) all = tt
effect_stores s pc registers (Jal rd offset) all = tt
effect_stores s pc registers (Jalr rd rs1 imm) all = tt
effect_stores s pc registers (Fence rd rs1 ordering) all = tt
effect_stores s pc registers Ecall all = call_stores s (register_of registers 17) (register_of registers 10)
effect_stores s pc registers Ebreak all = tt
effect_stores s pc registers (Amo op rd rs1 rs2 aq rl) all = register_small registers rs2 all

-- ---- turns

module _ (s : Setting) (code : List ℕ) (p : Processor) (i : Insn) where
  module _ (size address rd : ℕ) (value change : ℕ → ℕ) (writes : Bool) (phi : Phi) where
    -- the shared word after an access
    new_word : ℕ → ℕ
    new_word x = cond writes (with_part size (address % 4) x (change (part_of size (address % 4) x))) x

    accessed_means : (address % size ≡ 0 → IsInRange phi) → (address % size ≡ 0 → (x : ℕ) → x < 2 ^ 32 → apply phi x ≡ new_word x) →
        (r : Result Region Fault) → region_of s size address writes ≡ r → Means s phi (accessed code p i size address rd value change writes r)
    unfolding Means new_word
    accessed_means range means (Ok (region.Shared word)) at =
        let there = shared_region s size address writes word at in
        (range there.0, means there.0, there.1)
    accessed_means range means (Ok (region.Local place)) at = tt
    accessed_means range means (Ok (region.Code place)) at = tt
    accessed_means range means (Err fault) at = tt

  jump_means : (phi : Phi) (rd value target : ℕ) (b : Bool) →
      Means s phi (cond b (Retires (gone_to target rd value p) (retired_writing p.pc i rd value)) (Stops (cause.Fault TargetNotAligned)))
  unfolding Means
  jump_means phi rd value target true = tt
  jump_means phi rd value target false = tt

  performed_means : (e : Effect) → StoresWord e → Means s (phi_of_effect e) (performed s code p i e)
  unfolding Means StoresWord new_word
  performed_means (does.Write rd value) small = tt
  performed_means (does.Jump rd value target) small = jump_means (phi_of_effect (does.Jump rd value target)) rd value target (eqb (target % 4) 0)
  performed_means does.Pass small = tt
  performed_means (does.Load op rd address) small =
      accessed_means (load_size op) address rd (loaded op) (λ old. old) false load_phi (λ aligned. load_range) (λ aligned. load_means)
      (region_of s (load_size op) address false) refl
  performed_means (does.Store op address value) small =
      accessed_means (store_size op) address 0 (λ old. 0) (λ old. value) true (store_phi (store_size op) (address % 4) value)
      (λ aligned. store_range (store_size op) (address % 4) value (store_inside op address aligned))
      (λ aligned x h. store_meaning (store_size op) (address % 4) value x (store_inside op address aligned) h)
      (region_of s (store_size op) address true) refl
  performed_means (does.Amo op rd address value) small =
      accessed_means 4 address rd (λ old. old) (λ old. amo_value op old value) true (amo_phi op value)
      (λ aligned. amo_range op value small)
      (λ aligned x h. amo_means op value x small h ∙ sym
      (whole_change (λ old. amo_value op old value) (address % 4) x aligned h (amo_small op x value h small)))
      (region_of s 4 address true) refl
  performed_means (does.Print byte) small = tt
  performed_means (does.Halt byte) small = tt
  performed_means (does.Fail fault) small = tt

turn_means : (s : Setting) (code : List ℕ) (p : Processor) (r : Result Insn Fault) → HasWords p → Means s (phi_of_insn s p r) (turn_by s code p r)
unfolding Means
turn_means s code p (Ok i) h = performed_means s code p i (effect_of s p.pc p.registers i) (effect_stores s p.pc p.registers i h.registers)
turn_means s code p (Err fault) h = tt

-- If a processor's next turn refers to a word, the function of the reference is in range and means the turn's change of
-- the word, and the machine has that word.
pub reference_means : (s : Setting) (code : List ℕ) (p : Processor) (word : ℕ) (change : ℕ → ℕ) (after : ℕ → Processor × Retired) →
    HasWords p → turn_of s code p ≡ Reaches word change after →
    IsInRange (reference_phi s code p) × ((x : ℕ) → x < 2 ^ 32 → apply (reference_phi s code p) x ≡ change x) × (word < s.shared_words)
unfolding Means reference_phi
reference_means s code p word change after h reaches = subst (Means s (phi_of_insn s p (fetched code p.pc))) reaches (turn_means s code p (fetched code p.pc) h)

-- ---- each fact alone

module _ (s : Setting) (code : List ℕ) (p : Processor) (word : ℕ) (change : ℕ → ℕ) (after : ℕ →
    Processor × Retired) (h : HasWords p) (reaches : turn_of s code p ≡ Reaches word change after) where
  -- The function of the reference is in range.
  pub reference_in_range : IsInRange (reference_phi s code p)
  reference_in_range = (reference_means s code p word change after h reaches).0

  -- The function of the reference means the turn's change of the word.
  pub reference_means_change : (x : ℕ) → x < 2 ^ 32 → apply (reference_phi s code p) x ≡ change x
  reference_means_change = (reference_means s code p word change after h reaches).1

  -- The machine has the word of the reference.
  pub reference_is_there : word < s.shared_words
  reference_is_there = (reference_means s code p word change after h reaches).2
