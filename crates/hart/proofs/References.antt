-- References to shared words: they are aligned, and the part of all four bytes is the whole word.
use Rattle.std.proofs.Common.{◌≡◌, ℕ, ◌+◌, ◌%◌, ◌^◌, ◌<◌, ◌≤◌, ◌∙◌, List, Some, Result, Ok, Err, refl, arith, Bool, true, false, eqb, cond, rules}
use Rattle.std.specs.Prelude.{not}
use Rattle.rv_table.specs.declared.insn.Insn.{Insn}
use Rattle.rv_table.specs.declared.operation.AmoOp.{AmoOp}
use Rattle.rv_table.specs.declared.operation.LoadOp.{LoadOp}
use Rattle.rv_table.specs.declared.operation.LoadOp.TheVariants.{Lb, Lh, Lw, Lbu, Lhu}
use Rattle.flat_machine.specs.declared.effect.Effect.TheVariants as does
use Rattle.flat_machine.specs.declared.effect.Region.{Region}
use Rattle.flat_machine.specs.declared.effect.Region.TheVariants as region
use Rattle.flat_machine.specs.declared.fault.Fault.{Fault}
use Rattle.flat_machine.specs.declared.fault.Fault.TheVariants.{AddressNotAligned}
use Rattle.flat_machine.specs.declared.setting.Setting.{Setting}
use Rattle.flat_machine.specs.Memory.{region_of}
use Rattle.flat_machine.specs.Operations.{load_size, loaded, amo_value}
use Rattle.flat_machine.specs.State.{Processor}
use Rattle.flat_machine.specs.Turns.{performed, accessed, gone_to, next_pc, retired_writing}
use Rattle.flat_machine.specs.Words.{part_of, with_part}
use Rattle.hart.specs.Deciding.{IsReference, after_reply}

whole_part : (x : ℕ) → x < 2 ^ 32 → part_of 4 0 x ≡ x
unfolding part_of
whole_part x h = omega arith

whole_with : (x y : ℕ) → x < 2 ^ 32 → y < 2 ^ 32 → with_part 4 0 x y ≡ y
unfolding with_part
whole_with x y hx hy = omega arith

module _ (code : List ℕ) (p : Processor) (insn : Insn) (size address rd : ℕ) (value change : ℕ → ℕ) (writes : Bool) where
  no_fault : (b : Bool) (rest : Result Region Fault) →
      IsReference (accessed code p insn size address rd value change writes (cond (not b) (Err AddressNotAligned) rest)) → b ≡ true
  no_fault true rest h = refl
  no_fault false rest h = absurd h

  aligned : (s : Setting) → IsReference (accessed code p insn size address rd value change writes (region_of s size address writes)) → address % size ≡ 0
  unfolding region_of
  aligned s h =
      let e : eqb (address % size) 0 ≡ true = no_fault (eqb (address % size) 0) _ h in
      search rules

  -- what a reference does after its reply
  leaves : (reply : ℕ) (r : Result Region Fault) → IsReference (accessed code p insn size address rd value change writes r) →
      let old = part_of size (address % 4) reply in
      after_reply (accessed code p insn size address rd value change writes r) reply
      ≡ Some (gone_to (next_pc p) rd (value old) p, retired_writing p.pc insn rd (value old))
  leaves reply (Ok (region.Shared word)) h = refl
  leaves reply (Ok (region.Local place)) h = absurd h
  leaves reply (Ok (region.Code place)) h = absurd h
  leaves reply (Err fault) h = absurd h

-- If a load refers to a shared word, its bytes lie within that word.
pub load_fits : (s : Setting) (code : List ℕ) (p : Processor) (insn : Insn) (op : LoadOp) (rd address : ℕ) →
    IsReference (performed s code p insn (does.Load op rd address)) → address % 4 + load_size op ≤ 4
load_fits s code p insn Lb rd address h = omega arith
load_fits s code p insn Lh rd address h = omega (arith, aligned code p insn 2 address rd (loaded Lh) (λ old. old) false s h)
load_fits s code p insn Lw rd address h = omega (arith, aligned code p insn 4 address rd (loaded Lw) (λ old. old) false s h)
load_fits s code p insn Lbu rd address h = omega arith
load_fits s code p insn Lhu rd address h = omega (arith, aligned code p insn 2 address rd (loaded Lhu) (λ old. old) false s h)

amo_aligned : (s : Setting) (code : List ℕ) (p : Processor) (insn : Insn) (op : AmoOp) (rd address value : ℕ) →
    IsReference (performed s code p insn (does.Amo op rd address value)) → address % 4 ≡ 0
amo_aligned s code p insn op rd address value h = aligned code p insn 4 address rd (λ old. old) (λ old. amo_value op old value) true s h

-- Changing the part of all four bytes changes the whole word.
pub whole_change : (change : ℕ → ℕ) (offset x : ℕ) → offset ≡ 0 → x < 2 ^ 32 → change x < 2 ^ 32 → with_part 4 offset x (change (part_of 4 offset x)) ≡ change x
whole_change change offset x at h small =
    let part : part_of 4 0 x ≡ x = whole_part x h in
    let new : with_part 4 0 x (change x) ≡ change x = whole_with x (change x) h small in
    rw (at, part) new

-- After the reply to an atomic operation, the processor has the reply in rd and is at the next instruction.
pub amo_leaves : (s : Setting) (code : List ℕ) (p : Processor) (insn : Insn) (op : AmoOp) (rd address value reply : ℕ) → reply < 2 ^ 32 →
    IsReference (performed s code p insn (does.Amo op rd address value)) →
    after_reply (performed s code p insn (does.Amo op rd address value)) reply ≡ Some (gone_to (next_pc p) rd reply p, retired_writing p.pc insn rd reply)
amo_leaves s code p insn op rd address value reply small h =
    let at : address % 4 ≡ 0 = amo_aligned s code p insn op rd address value h in
    let part : part_of 4 (address % 4) reply ≡ reply = rw at (whole_part reply small) in
    leaves code p insn 4 address rd (λ old. old) (λ old. amo_value op old value) true reply (region_of s 4 address true) h ∙ rw part refl
