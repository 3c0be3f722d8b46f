-- The effect of each instruction, given pc and the registers: one line for each shape.
use Rattle.std.specs.Prelude.{ℕ, ◌*◌, ◌/◌, ◌%◌, ◌^◌, Bool, ◌==◌, List, slice_index, slice_set, if◌then◌else◌}
use Rattle.rv_table.specs.declared.insn.Insn.{Insn}
use Rattle.rv_table.specs.declared.insn.Insn.TheVariants.{Op, OpImm, Shift, Load, Store, Branch, Upper, Jal, Jalr}
use Rattle.rv_table.specs.declared.insn.Insn.TheVariants.{Fence, Ecall, Ebreak, Amo}
use Rattle.rv_table.specs.declared.operation.UpperOp.TheVariants.{Lui, Auipc}
use Rattle.flat_machine.specs.declared.fault.Fault.TheVariants.{UnknownCall, Breakpoint}
use Rattle.flat_machine.specs.declared.effect.Effect.{Effect}
use Rattle.flat_machine.specs.declared.effect.Effect.TheVariants as does
use Rattle.flat_machine.specs.declared.setting.Setting.{Setting}
use Rattle.flat_machine.specs.Words.{plus, extended}
use Rattle.flat_machine.specs.Operations.{register_value, immediate_value, shift_value, is_taken}

-- register 0 reads as 0, and a write to it is dropped (manual, "Programmers' Model for Base Integer ISA")
unfoldable pub register_of : List ℕ → ℕ → ℕ
register_of registers r = if r == 0 then 0 else slice_index registers r

unfoldable pub with_register : List ℕ → ℕ → ℕ → List ℕ
with_register registers r value = if r == 0 then registers else slice_set registers r value

-- the effect of the environment call in a7 (register 17), with a0 (register 10): 0 halts with the low byte of a0, 1
-- prints that byte, 2 gives the processor's own number, 3 the number of processors
unfoldable pub call_of : Setting → (a7 a0 : ℕ) → Effect
call_of s a7 a0 =
    if a7 == 0 then does.Halt (a0 % 256) else
    if a7 == 1 then does.Print (a0 % 256) else
    if a7 == 2 then does.Write 10 s.number else
    if a7 == 3 then does.Write 10 s.processors else
    does.Fail UnknownCall

module _ (s : Setting) (pc : ℕ) (registers : List ℕ) where
  unfoldable pub effect_of : Insn → Effect
  effect_of (Op op rd rs1 rs2) =
      does.Write rd (register_value op (register_of registers rs1) (register_of registers rs2))
  effect_of (OpImm op rd rs1 imm) = does.Write rd (immediate_value op (register_of registers rs1) (extended 12 imm))
  effect_of (Shift op rd rs1 amount) = does.Write rd (shift_value op (register_of registers rs1) amount)
  effect_of (Load op rd rs1 imm) = does.Load op rd (plus (register_of registers rs1) (extended 12 imm))
  effect_of (Store op rs1 rs2 imm) =
      does.Store op (plus (register_of registers rs1) (extended 12 imm)) (register_of registers rs2)
  effect_of (Branch op rs1 rs2 offset) =
      if is_taken op (register_of registers rs1) (register_of registers rs2)
      then does.Jump 0 0 (plus pc (extended 13 (2 * offset))) else does.Pass
  effect_of (Upper Lui rd upper) = does.Write rd (upper * 2 ^ 12)
  effect_of (Upper Auipc rd upper) = does.Write rd (plus pc (upper * 2 ^ 12))
  effect_of (Jal rd offset) = does.Jump rd (plus pc 4) (plus pc (extended 21 (2 * offset)))
  effect_of (Jalr rd rs1 imm) = does.Jump rd (plus pc 4) (plus (register_of registers rs1) (extended 12 imm) / 2 * 2)
  effect_of (Fence rd rs1 ordering) = does.Pass
  effect_of Ecall = call_of s (register_of registers 17) (register_of registers 10)
  effect_of Ebreak = does.Fail Breakpoint
  effect_of (Amo op rd rs1 rs2 aq rl) = does.Amo op rd (register_of registers rs1) (register_of registers rs2)
