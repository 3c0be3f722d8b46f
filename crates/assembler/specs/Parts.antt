-- What `%hi` and `%lo` of a label do in a processor.
use Rattle.std.specs.Prelude.{◌≡◌, ℕ, ◌*◌, ◌^◌, List, Ok}
use Rattle.rv_table.specs.declared.insn.Insn.TheVariants.{OpImm, Load, Store, Upper}
use Rattle.rv_table.specs.declared.operation.UpperOp.TheVariants.{Lui}
use Rattle.rv_table.specs.declared.operation.ImmediateOp.TheVariants.{Addi}
use Rattle.rv_table.specs.declared.operation.LoadOp.{LoadOp}
use Rattle.rv_table.specs.declared.operation.StoreOp.{StoreOp}
use Rattle.flat_machine.specs.declared.effect.Effect.TheVariants as does
use Rattle.flat_machine.specs.declared.setting.Setting.{Setting}
use Rattle.flat_machine.specs.Effects.{effect_of, register_of}
use Rattle.asm_lines.specs.Statements.{label, op_imm, load, store, upper}
use Rattle.assembler.specs.Meaning.{Labels, insn_at}

-- The immediates that `%hi` and `%lo` of a label give, at any address, make its value: LUI with the first and then ADDI
-- with the second leave it in a register, and after LUI, a load or a store with the second refers to it.
pub record MakeValue (labels : Labels) (name : List ℕ) (value : ℕ) : Type 0 where
  pub high : ℕ
  pub low : ℕ
  pub lui : (at rd : ℕ) → insn_at labels at (upper Lui rd (label name)) ≡ Ok (Upper Lui rd high)
  pub addi : (at rd rs1 : ℕ) → insn_at labels at (op_imm Addi rd rs1 (label name)) ≡ Ok (OpImm Addi rd rs1 low)
  pub load_from : (op : LoadOp) (at rd rs1 : ℕ) →
      insn_at labels at (load op rd rs1 (label name)) ≡ Ok (Load op rd rs1 low)
  pub store_to : (op : StoreOp) (at rs1 rs2 : ℕ) →
      insn_at labels at (store op rs1 rs2 (label name)) ≡ Ok (Store op rs1 rs2 low)
  pub left : (s : Setting) (pc rd : ℕ) (registers : List ℕ) →
      effect_of s pc registers (Upper Lui rd high) ≡ does.Write rd (high * 2 ^ 12)
  pub added : (s : Setting) (pc rd rs1 : ℕ) (registers : List ℕ) → register_of registers rs1 ≡ high * 2 ^ 12
      → effect_of s pc registers (OpImm Addi rd rs1 low) ≡ does.Write rd value
  pub loaded : (s : Setting) (pc rd rs1 : ℕ) (op : LoadOp) (registers : List ℕ) →
      register_of registers rs1 ≡ high * 2 ^ 12
      → effect_of s pc registers (Load op rd rs1 low) ≡ does.Load op rd value
  pub stored : (s : Setting) (pc rs1 rs2 : ℕ) (op : StoreOp) (registers : List ℕ) →
      register_of registers rs1 ≡ high * 2 ^ 12
      → effect_of s pc registers (Store op rs1 rs2 low) ≡ does.Store op value (register_of registers rs2)
