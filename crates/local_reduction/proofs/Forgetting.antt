-- Nothing asks for the contents of registers that are not live: a turn goes the same way without them.
use Rattle.std.proofs.Common.{◌≡◌, ◌≢◌, ℕ, ◌*◌, ◌/◌, ◌%◌, Bool, true, false, cond, ◌||◌, List, [], Some}
use Rattle.std.proofs.Common.{Result, Ok, Err, refl, sym, ap, subst, ◌∙◌, eqb, eq-eqb, ne_eqb}
use Rattle.std.specs.Prelude.{not, ◌&&◌, slice_set}
use Rattle.rv_table.specs.declared.insn.Insn.{Insn}
use Rattle.rv_table.specs.declared.insn.Insn.TheVariants.{Op, OpImm, Shift, Load, Store, Branch, Upper, Jal, Jalr, Fence, Ecall, Ebreak, Amo}
use Rattle.rv_table.specs.declared.operation.UpperOp.TheVariants.{Lui, Auipc}
use Rattle.flat_machine.specs.declared.setting.Setting.{Setting}
use Rattle.flat_machine.specs.declared.fault.Fault.{Fault}
use Rattle.flat_machine.specs.declared.fault.Fault.TheVariants.{TargetNotAligned, UnknownCall}
use Rattle.flat_machine.specs.declared.event.Cause.{Cause}
use Rattle.flat_machine.specs.declared.event.Cause.TheVariants as cause
use Rattle.flat_machine.specs.declared.effect.Region.{Region}
use Rattle.flat_machine.specs.declared.effect.Region.TheVariants as region
use Rattle.flat_machine.specs.declared.effect.Effect.{Effect}
use Rattle.flat_machine.specs.declared.effect.Effect.TheVariants as does
use Rattle.flat_machine.specs.State.{is_running}
use Rattle.flat_machine.specs.Words.{plus, extended, part_of}
use Rattle.flat_machine.specs.Memory.{number_at, with_number, region_of}
use Rattle.flat_machine.specs.Operations.{register_value, immediate_value, shift_value, is_taken, load_size, loaded, store_size, amo_value}
use Rattle.flat_machine.specs.Effects.{register_of, with_register, call_of, effect_of}
use Rattle.flat_machine.specs.Turns.{Retires, Stops, retired_writing, gone_to, fetched, accessed, performed, turn_by, turn_of}
use Rattle.local_reduction.specs.LocalStates.{LocalState, with_byte, stopped_by}
use Rattle.local_reduction.specs.Closing.{IsAlike, IsForgetful, if_running}
use Rattle.local_reduction.specs.Laws.{StoppedAreForgotten}
use Rattle.local_reduction.specs.Live.{is_live, is_passed, is_needed, HasAllLive, HasAllLiveAt}
use Rattle.local_reduction.specs.Forgetting.{only, with_live, kept_by}
use Rattle.local_reduction.proofs.Registers.{read_same, only_only, only_written, only_cleared}

-- ---- tests

-- A disjunction holds if its first part does.
pub or_first : (a b : Bool) → a ≡ true → (a || b) ≡ true
or_first a b e = ap (λ x. x || b) e

-- A disjunction holds if its last part does.
pub or_last : (a b : Bool) → b ≡ true → (a || b) ≡ true
or_last true b e = refl
or_last false b e = e

pub zero_is_live : (live : List (List Bool)) (pc : ℕ) → is_live live pc 0 ≡ true
zero_is_live live pc =
    or_first (not (eqb (pc % 4) 0) || true || false) _ (or_first (not (eqb (pc % 4) 0) || true) false (or_last (not (eqb (pc % 4) 0)) true refl))

passed : (live : List (List Bool)) (target rd r : ℕ) → r ≢ rd → is_live live target r ≡ true → is_passed live target rd r ≡ true
passed live target rd r ne e = ap (λ b. not b && is_live live target r) (ne_eqb r rd ne) ∙ e

-- ---- effects

module _ (s : Setting) (live : List (List Bool)) (pc : ℕ) (registers : List ℕ) where
  -- What is live at a target is live at pc, except for a register that is written.
  abbrev Carried : (rd target : ℕ) → Type 0
  Carried rd target = (r : ℕ) → r ≢ rd → is_live live target r ≡ true → is_live live pc r ≡ true

  abbrev Goes : Effect → Type 0
  Goes (does.Write rd value) = Carried rd (plus pc 4)
  Goes (does.Jump rd value target) = Carried rd target
  Goes does.Pass = Carried 0 (plus pc 4)
  Goes (does.Load op rd address) = Carried rd (plus pc 4)
  Goes (does.Store op address value) = Carried 0 (plus pc 4)
  Goes (does.Amo op rd address value) = Carried rd (plus pc 4)
  Goes (does.Print byte) = Carried 0 (plus pc 4)
  Goes (does.Halt byte) = Unit {0}
  Goes (does.Fail fault) = Unit {0}

  module _ (i : Insn) where
    abbrev HasNeeds : Type 0
    HasNeeds = (r : ℕ) → is_needed live pc i r ≡ true → is_live live pc r ≡ true

  reads : (r : ℕ) → is_live live pc r ≡ true → register_of (only (is_live live pc) registers) r ≡ register_of registers r
  reads r e = read_same (is_live live pc) registers r e

  itself : (r : ℕ) → eqb r r ≡ true
  itself r = eq-eqb r r refl

  effect_same : (i : Insn) → HasNeeds i → effect_of s pc (only (is_live live pc) registers) i ≡ effect_of s pc registers i
  unfolding effect_of is_needed
  effect_same (Op op rd rs1 rs2) h =
      let first = reads rs1 (h rs1 (or_first (eqb rs1 rs1 || eqb rs1 rs2) _ (or_first (eqb rs1 rs1) _ (itself rs1)))) in
      let second = reads rs2 (h rs2 (or_first (eqb rs2 rs1 || eqb rs2 rs2) _ (or_last (eqb rs2 rs1) _ (itself rs2)))) in
      λ j. does.Write rd (register_value op (first j) (second j))
  effect_same (OpImm op rd rs1 imm) h =
      let first = reads rs1 (h rs1 (or_first (eqb rs1 rs1) _ (itself rs1))) in
      λ j. does.Write rd (immediate_value op (first j) (extended 12 imm))
  effect_same (Shift op rd rs1 amount) h =
      let first = reads rs1 (h rs1 (or_first (eqb rs1 rs1) _ (itself rs1))) in
      λ j. does.Write rd (shift_value op (first j) amount)
  effect_same (Load op rd rs1 imm) h =
      let first = reads rs1 (h rs1 (or_first (eqb rs1 rs1) _ (itself rs1))) in
      λ j. does.Load op rd (plus (first j) (extended 12 imm))
  effect_same (Store op rs1 rs2 imm) h =
      let first = reads rs1 (h rs1 (or_first (eqb rs1 rs1 || eqb rs1 rs2) _ (or_first (eqb rs1 rs1) _ (itself rs1)))) in
      let second = reads rs2 (h rs2 (or_first (eqb rs2 rs1 || eqb rs2 rs2) _ (or_last (eqb rs2 rs1) _ (itself rs2)))) in
      λ j. does.Store op (plus (first j) (extended 12 imm)) (second j)
  effect_same (Branch op rs1 rs2 offset) h =
      let first = reads rs1 (h rs1 (or_first (eqb rs1 rs1 || eqb rs1 rs2 || _) _ (or_first (eqb rs1 rs1 || eqb rs1 rs2) _
      (or_first (eqb rs1 rs1) _ (itself rs1))))) in
      let second = reads rs2 (h rs2 (or_first (eqb rs2 rs1 || eqb rs2 rs2 || _) _ (or_first (eqb rs2 rs1 || eqb rs2 rs2) _
      (or_last (eqb rs2 rs1) _ (itself rs2))))) in
      λ j. cond (is_taken op (first j) (second j)) (does.Jump 0 0 (plus pc (extended 13 (2 * offset)))) does.Pass
  effect_same (Upper Lui rd upper) h = refl
  effect_same (Upper Auipc rd upper) h = refl
  effect_same (Jal rd offset) h = refl
  effect_same (Jalr rd rs1 imm) h =
      let first = reads rs1 (h rs1 refl) in
      λ j. does.Jump rd (plus pc 4) (plus (first j) (extended 12 imm) / 2 * 2)
  effect_same (Fence rd rs1 ordering) h = refl
  effect_same Ecall h =
      let number = reads 17 (h 17 refl) in
      let argument = reads 10 (h 10 refl) in
      λ j. call_of s (number j) (argument j)
  effect_same Ebreak h = refl
  effect_same (Amo op rd rs1 rs2 aq rl) h =
      let first = reads rs1 (h rs1 (or_first (eqb rs1 rs1 || eqb rs1 rs2) _ (or_first (eqb rs1 rs1) _ (itself rs1)))) in
      let second = reads rs2 (h rs2 (or_first (eqb rs2 rs1 || eqb rs2 rs2) _ (or_last (eqb rs2 rs1) _ (itself rs2)))) in
      λ j. does.Amo op rd (first j) (second j)

  called : (a b c d : Bool) (halt print number processors : ℕ) (fault : Fault) → Carried 10 (plus pc 4) → Carried 0 (plus pc 4) →
      Goes (cond a (does.Halt halt) (cond b (does.Print print) (cond c (does.Write 10 number) (cond d (does.Write 10 processors) (does.Fail fault)))))
  called true b c d halt print number processors fault h z = tt
  called false true c d halt print number processors fault h z = z
  called false false true d halt print number processors fault h z = h
  called false false false true halt print number processors fault h z = h
  called false false false false halt print number processors fault h z = tt

  branched : (b : Bool) (target : ℕ) → Carried 0 target → Carried 0 (plus pc 4) → Goes (cond b (does.Jump 0 0 target) does.Pass)
  branched true target h z = h
  branched false target h z = z

  goes : (i : Insn) → HasNeeds i → Goes (effect_of s pc registers i)
  unfolding effect_of call_of is_needed
  goes (Op op rd rs1 rs2) h =
      λ r ne e. h r (or_last (eqb r rs1 || eqb r rs2) _ (passed live (plus pc 4) rd r ne e))
  goes (OpImm op rd rs1 imm) h = λ r ne e. h r (or_last (eqb r rs1) _ (passed live (plus pc 4) rd r ne e))
  goes (Shift op rd rs1 amount) h = λ r ne e. h r (or_last (eqb r rs1) _ (passed live (plus pc 4) rd r ne e))
  goes (Load op rd rs1 imm) h = λ r ne e. h r (or_last (eqb r rs1) _ (passed live (plus pc 4) rd r ne e))
  goes (Store op rs1 rs2 imm) h = λ r ne e. h r (or_last (eqb r rs1 || eqb r rs2) _ e)
  goes (Branch op rs1 rs2 offset) h =
      branched (is_taken op (register_of registers rs1) (register_of registers rs2)) (plus pc (extended 13 (2 * offset)))
      (λ r ne e. h r (or_last (eqb r rs1 || eqb r rs2 || is_live live (plus pc 4) r) _ e))
      (λ r ne e. h r (or_first (eqb r rs1 || eqb r rs2 || is_live live (plus pc 4) r) _ (or_last (eqb r rs1 || eqb r rs2) _ e)))
  goes (Upper Lui rd upper) h = λ r ne e. h r (passed live (plus pc 4) rd r ne e)
  goes (Upper Auipc rd upper) h = λ r ne e. h r (passed live (plus pc 4) rd r ne e)
  goes (Jal rd offset) h = λ r ne e. h r (passed live (plus pc (extended 21 (2 * offset))) rd r ne e)
  goes (Jalr rd rs1 imm) h = λ r ne e. h r refl
  goes (Fence rd rs1 ordering) h = λ r ne e. h r e
  goes Ecall h =
      called (eqb (register_of registers 17) 0) (eqb (register_of registers 17) 1) (eqb (register_of registers 17) 2) (eqb (register_of registers 17) 3)
      (register_of registers 10 % 256) (register_of registers 10 % 256) s.number s.processors UnknownCall
      (λ r ne e. h r (or_last (eqb r 17 || eqb r 10) _ e)) (λ r ne e. h r (or_last (eqb r 17 || eqb r 10) _ e))
  goes Ebreak h = tt
  goes (Amo op rd rs1 rs2 aq rl) h =
      λ r ne e. h r (or_last (eqb r rs1 || eqb r rs2) _ (passed live (plus pc 4) rd r ne e))

-- ---- turns

-- the local state with the same status, elsewhere and with other contents
abbrev standing : LocalState → (pc : ℕ) → (registers local console : List ℕ) → LocalState
standing a pc registers local console =
    record { processor = record { pc = pc; registers = registers; local = local; status = a.processor.status }; console = console }

module _ (s : Setting) (code : List ℕ) (live : List (List Bool)) (a : LocalState) (i : Insn) where
  gone_same : (rd target value : ℕ) (local console : List ℕ) → Carried s live a.processor.pc a.processor.registers rd target →
      kept_by live (standing a target (with_register (only (is_live live a.processor.pc) a.processor.registers) rd value) local console)
      ≡ kept_by live (standing a target (with_register a.processor.registers rd value) local console)
  gone_same rd target value local console h =
      ap (λ rs. if_running (standing a target rs local console))
      (only_written (is_live live target) (is_live live a.processor.pc) a.processor.registers rd value (zero_is_live live a.processor.pc) h)

  module _ (size address rd : ℕ) (value change : ℕ → ℕ) (writes : Bool)
      (h : Carried s live a.processor.pc a.processor.registers rd (plus a.processor.pc 4)) where
    reached : (x : Result Region Fault) → IsAlike (kept_by live) (with_live live a) a
        (accessed code (with_live live a).processor i size address rd value change writes x) (accessed code a.processor i size address rd value change writes x)
    reached (Ok (region.Shared word)) =
        (refl, refl, λ x. gone_same rd (plus a.processor.pc 4) (value (part_of size (address % 4) x)) a.processor.local a.console h)
    reached (Ok (region.Local place)) =
        let old = number_at a.processor.local place size in
        gone_same rd (plus a.processor.pc 4) (value old) (cond writes (with_number a.processor.local place size (change old)) a.processor.local) a.console h
    reached (Ok (region.Code place)) = gone_same rd (plus a.processor.pc 4) (value (number_at code place size)) a.processor.local a.console h
    reached (Err fault) = refl

  alike : (e : Effect) → Goes s live a.processor.pc a.processor.registers e →
      IsAlike (kept_by live) (with_live live a) a (performed s code (with_live live a).processor i e) (performed s code a.processor i e)
  alike (does.Write rd value) h = gone_same rd (plus a.processor.pc 4) value a.processor.local a.console h
  alike (does.Jump rd value target) h = by (eqb (target % 4) 0)
    where
      by : (b : Bool) → IsAlike (kept_by live) (with_live live a) a
          (cond b (Retires (gone_to target rd value (with_live live a).processor) (retired_writing a.processor.pc i rd value))
          (Stops (cause.Fault TargetNotAligned)))
          (cond b (Retires (gone_to target rd value a.processor) (retired_writing a.processor.pc i rd value)) (Stops (cause.Fault TargetNotAligned)))
      by true = gone_same rd target value a.processor.local a.console h
      by false = refl
  alike does.Pass h = gone_same 0 (plus a.processor.pc 4) 0 a.processor.local a.console h
  alike (does.Load op rd address) h =
      reached (load_size op) address rd (loaded op) (λ old. old) false h (region_of s (load_size op) address false)
  alike (does.Store op address value) h =
      reached (store_size op) address 0 (λ old. 0) (λ old. value) true h (region_of s (store_size op) address true)
  alike (does.Amo op rd address value) h =
      reached 4 address rd (λ old. old) (λ old. amo_value op old value) true h (region_of s 4 address true)
  alike (does.Print byte) h = gone_same 0 (plus a.processor.pc 4) 0 a.processor.local (with_byte a.console (Some byte)) h
  alike (does.Halt byte) h = refl
  alike (does.Fail fault) h = refl

turn_alike : (s : Setting) (code : List ℕ) (live : List (List Bool)) (a : LocalState) → HasAllLiveAt code live a.processor.pc →
    (x : Result Insn Fault) → fetched code a.processor.pc ≡ x →
    IsAlike (kept_by live) (with_live live a) a (turn_by s code (with_live live a).processor x) (turn_by s code a.processor x)
turn_alike s code live a right (Ok i) e =
    subst (λ effect. IsAlike (kept_by live) (with_live live a) a (performed s code (with_live live a).processor i effect)
    (performed s code a.processor i (effect_of s a.processor.pc a.processor.registers i)))
    (sym (effect_same s live a.processor.pc a.processor.registers i (λ r needed. right i r e needed)))
    (alike s code live a i (effect_of s a.processor.pc a.processor.registers i)
    (goes s live a.processor.pc a.processor.registers i (λ r needed. right i r e needed)))
turn_alike s code live a right (Err fault) e = refl

-- ---- local states

abbrev emptied : LocalState → LocalState
emptied a = record a { processor = record a.processor { registers = []; local = [] } }

stopped_kept : (live : List (List Bool)) (b : Bool) (a : LocalState) (c : Cause) →
    kept_by live (stopped_by (cond b (with_live live a) (emptied a)) c) ≡ kept_by live (stopped_by a c)
stopped_kept live true a (cause.Halt byte) = refl
stopped_kept live true a (cause.Fault fault) = refl
stopped_kept live false a (cause.Halt byte) = refl
stopped_kept live false a (cause.Fault fault) = refl

once_kept : (live : List (List Bool)) (b : Bool) (a : LocalState) → is_running a.processor.status ≡ b →
    kept_by live (cond b (with_live live a) (emptied a)) ≡ kept_by live a
once_kept live true a e =
    ap (λ rs. if_running (standing a a.processor.pc rs a.processor.local a.console))
    (only_only (is_live live a.processor.pc) (is_live live a.processor.pc) a.processor.registers (λ r h. h))
once_kept live false a e =
    ap (λ r. cond r (emptied a) (emptied a)) e ∙ sym (ap (λ r. cond r (with_live live a) (emptied a)) e)

-- What is written to a register that is not live is not kept.
pub dead_not_kept : (live : List (List Bool)) (a : LocalState) (r value : ℕ) → is_live live a.processor.pc r ≡ false →
    kept_by live (record a { processor = record a.processor { registers = slice_set a.processor.registers r value } }) ≡ kept_by live a
dead_not_kept live a r value dead =
    ap (λ rs. if_running (standing a a.processor.pc rs a.processor.local a.console))
    (only_cleared (is_live live a.processor.pc) a.processor.registers r value dead)

-- If all that code needs is live, nothing ever asks again for what is not kept of a local state.
pub dead_forgotten : StoppedAreForgotten → (at : ℕ → Setting) (code : List ℕ) (live : List (List Bool)) → HasAllLive code live →
    IsForgetful at code (kept_by live)
dead_forgotten stopped at code live right = record {
  running = λ a. (stopped at code).running (with_live live a);
  turn = λ k a runs.
      let same : kept_by live a ≡ with_live live a = ap (λ r. cond r (with_live live a) (emptied a)) runs in
      subst (λ b. IsAlike (kept_by live) b a (turn_of (at k) code b.processor) (turn_of (at k) code a.processor)) (sym same)
      (turn_alike (at k) code live a (right a.processor.pc) (fetched code a.processor.pc) refl);
  stopped = λ a c. stopped_kept live (is_running a.processor.status) a c;
  once = λ a. once_kept live (is_running a.processor.status) a refl;
}
