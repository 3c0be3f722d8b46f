-- Instructions compute words from words.
use Rattle.std.proofs.Common.{ℕ, ◌*◌, ◌%◌, ◌^◌, ◌<◌, Bool, true, false, cond, eqb, ltb, List, ℤ, pos, negsuc, ◌*ℤ◌, sym, subst, arith}
use Rattle.std.specs.Prelude.{slice_index}
use Rattle.std.specs.Int.{w32, cast_signed, cast_unsigned, int_shr}
use Rattle.std.proofs.lemmas.Int.{of_z-to_z}
use Rattle.std.proofs.lemmas.Nat.{xor_lt, or_lt, and_le_l, shr_le}
use Rattle.rv_table.specs.Rows.{InRange}
use Rattle.rv_table.specs.declared.insn.Insn.{Insn}
use Rattle.rv_table.specs.declared.insn.Insn.TheVariants.{Op, OpImm, Shift, Load, Store, Branch, Upper, Jal, Jalr, Fence, Ecall, Ebreak, Amo}
use Rattle.rv_table.specs.declared.operation.RegisterOp.{RegisterOp}
use Rattle.rv_table.specs.declared.operation.RegisterOp.TheVariants as reg
use Rattle.rv_table.specs.declared.operation.ImmediateOp.{ImmediateOp}
use Rattle.rv_table.specs.declared.operation.ImmediateOp.TheVariants.{Addi, Slti, Sltiu, Xori, Ori, Andi}
use Rattle.rv_table.specs.declared.operation.ShiftOp.{ShiftOp}
use Rattle.rv_table.specs.declared.operation.ShiftOp.TheVariants.{Slli, Srli, Srai}
use Rattle.rv_table.specs.declared.operation.LoadOp.{LoadOp}
use Rattle.rv_table.specs.declared.operation.LoadOp.TheVariants.{Lb, Lh, Lw, Lbu, Lhu}
use Rattle.rv_table.specs.declared.operation.UpperOp.TheVariants.{Lui, Auipc}
use Rattle.flat_machine.specs.declared.effect.Effect.TheVariants as does
use Rattle.flat_machine.specs.declared.fault.Fault.TheVariants.{UnknownCall}
use Rattle.flat_machine.specs.declared.setting.Setting.{Setting}
use Rattle.flat_machine.specs.Effects.{call_of, effect_of, register_of}
use Rattle.flat_machine.specs.Laws.{AreBelow, AsksForWords}
use Rattle.flat_machine.specs.Operations.{immediate_value, is_taken, load_size, loaded, register_value, shift_value}
use Rattle.flat_machine.specs.Words.{extended, flag, is_below, minus, plus}
use Rattle.flat_machine.proofs.Products.{mixed_product_fits, signed_product_fits, upper_of_naturals_small, upper_small}
use Rattle.flat_machine.proofs.Quotients.{natural_quotient_small, natural_remainder_small, quotient_small, remainder_small}

-- ---- operations

-- A sum modulo 2^32 is a word.
pub sum_small : (a b : ℕ) → plus a b < 2 ^ 32
unfolding plus
sum_small a b = omega arith

difference_small : (a b : ℕ) → minus a b < 2 ^ 32
unfolding minus
difference_small a b = omega arith

flag_small : (b : Bool) → flag b < 2 ^ 32
flag_small true = omega arith
flag_small false = omega arith

-- An arithmetic shift to the right takes words to words.
shifted_small : (z : ℤ) (k : ℕ) → cast_unsigned w32 z < 2 ^ 32 → cast_unsigned w32 (int_shr z k) < 2 ^ 32
shifted_small (pos n) k h = omega (arith, shr_le n k)
shifted_small (negsuc n) k h = omega arith

arithmetic_small : (a k : ℕ) → a < 2 ^ 32 → cast_unsigned w32 (int_shr (cast_signed w32 a) k) < 2 ^ 32
arithmetic_small a k h = shifted_small (cast_signed w32 a) k (subst (λ (n : ℕ). n < 2 ^ 32) (sym (of_z-to_z w32 a h)) h)

-- A field of 12 bits, sign-extended, is a word.
extended_small : (field : ℕ) → field < 2 ^ 12 → extended 12 field < 2 ^ 32
unfolding extended
extended_small field h = grind arith

pub register_value_small : (op : RegisterOp) (a b : ℕ) → a < 2 ^ 32 → b < 2 ^ 32 → register_value op a b < 2 ^ 32
unfolding register_value
register_value_small reg.Add a b h g = sum_small a b
register_value_small reg.Sub a b h g = difference_small a b
register_value_small reg.Sll a b h g = omega arith
register_value_small reg.Slt a b h g = flag_small (is_below a b)
register_value_small reg.Sltu a b h g = flag_small (ltb a b)
register_value_small reg.Xor a b h g = xor_lt 32 a b h g
register_value_small reg.Srl a b h g = omega (arith, shr_le a (b % 32))
register_value_small reg.Sra a b h g = arithmetic_small a (b % 32) h
register_value_small reg.Or a b h g = or_lt 32 a b h g
register_value_small reg.And a b h g = omega (arith, and_le_l a b)
register_value_small reg.Mul a b h g = omega arith
register_value_small reg.Mulh a b h g = upper_small (cast_signed w32 a *ℤ cast_signed w32 b) (signed_product_fits a b h g)
register_value_small reg.Mulhsu a b h g = upper_small (cast_signed w32 a *ℤ pos b) (mixed_product_fits a b h g)
register_value_small reg.Mulhu a b h g = upper_of_naturals_small a b h g
register_value_small reg.Div a b h g = quotient_small a b h
register_value_small reg.Divu a b h g = natural_quotient_small a b h
register_value_small reg.Rem a b h g = remainder_small a b h
register_value_small reg.Remu a b h g = natural_remainder_small a b h

pub immediate_value_small : (op : ImmediateOp) (a i : ℕ) → a < 2 ^ 32 → i < 2 ^ 32 → immediate_value op a i < 2 ^ 32
unfolding immediate_value
immediate_value_small Addi a i h g = sum_small a i
immediate_value_small Slti a i h g = flag_small (is_below a i)
immediate_value_small Sltiu a i h g = flag_small (ltb a i)
immediate_value_small Xori a i h g = xor_lt 32 a i h g
immediate_value_small Ori a i h g = or_lt 32 a i h g
immediate_value_small Andi a i h g = omega (arith, and_le_l a i)

pub shift_value_small : (op : ShiftOp) (a i : ℕ) → a < 2 ^ 32 → shift_value op a i < 2 ^ 32
unfolding shift_value
shift_value_small Slli a i h = omega arith
shift_value_small Srli a i h = omega (arith, shr_le a i)
shift_value_small Srai a i h = arithmetic_small a i h

-- A load makes a word of the bytes that it reads.
pub loaded_small : (op : LoadOp) (old : ℕ) → old < 2 ^ (8 * load_size op) → loaded op old < 2 ^ 32
unfolding loaded extended
loaded_small Lb old h = grind arith
loaded_small Lh old h = grind arith
loaded_small Lw old h = h
loaded_small Lbu old h = omega arith
loaded_small Lhu old h = omega arith

-- ---- effects

-- A register's value is a word if all registers hold words.
pub register_small : (registers : List ℕ) (r : ℕ) → AreBelow (2 ^ 32) registers → register_of registers r < 2 ^ 32
unfolding register_of
register_small registers r all = by_register (eqb r 0)
  where
    by_register : (b : Bool) → cond b 0 (slice_index registers r) < 2 ^ 32
    by_register true = omega arith
    by_register false = all r

call_asks : (s : Setting) (a7 a0 : ℕ) → s.number < 2 ^ 32 → s.processors < 2 ^ 32 → AsksForWords (call_of s a7 a0)
unfolding call_of
call_asks s a7 a0 number count = by_call (eqb a7 0) (eqb a7 1) (eqb a7 2) (eqb a7 3)
  where
    by_call : (halt print own all : Bool) →
        AsksForWords (cond halt (does.Halt (a0 % 256))
        (cond print (does.Print (a0 % 256)) (cond own (does.Write 10 s.number) (cond all (does.Write 10 s.processors) (does.Fail UnknownCall)))))
    by_call true print own all = omega arith
    by_call false true own all = omega arith
    by_call false false true all = number
    by_call false false false true = count
    by_call false false false false = tt

jump_asks : (taken : Bool) (pc offset : ℕ) → AsksForWords (cond taken (does.Jump 0 0 (plus pc (extended 13 (2 * offset)))) does.Pass)
jump_asks true pc offset = (omega arith, sum_small pc (extended 13 (2 * offset)))
jump_asks false pc offset = tt

-- An instruction asks for words if the registers hold words and its operands fit their fields.
pub effect_asks : (s : Setting) (pc : ℕ) (registers : List ℕ) (i : Insn) → s.number < 2 ^ 32 → s.processors < 2 ^ 32 → AreBelow (2 ^ 32) registers → InRange i →
    AsksForWords (effect_of s pc registers i)
unfolding effect_of
effect_asks s pc registers (Op op rd rs1 rs2) number count all fits =
    register_value_small op _ _ (register_small registers rs1 all) (register_small registers rs2 all)
effect_asks s pc registers (OpImm op rd rs1 imm) number count all fits =
    immediate_value_small op _ _ (register_small registers rs1 all) (extended_small imm fits.2)
effect_asks s pc registers (Shift op rd rs1 amount) number count all fits = shift_value_small op _ amount (register_small registers rs1 all)
effect_asks s pc registers (Load op rd rs1 imm) number count all fits = sum_small _ _
effect_asks s pc registers (Store op rs1 rs2 imm) number count all fits = (sum_small _ _, register_small registers rs2 all)
effect_asks s pc registers (Branch op rs1 rs2 offset) number count all fits =
    jump_asks (is_taken op (register_of registers rs1) (register_of registers rs2)) pc offset
effect_asks s pc registers (Upper Lui rd upper) number count all fits = omega (arith, fits.1)
effect_asks s pc registers (Upper Auipc rd upper) number count all fits = sum_small _ _
effect_asks s pc registers (Jal rd offset) number count all fits = (sum_small _ _, sum_small _ _)
effect_asks s pc registers (Jalr rd rs1 imm) number count all fits =
    let sum = sum_small (register_of registers rs1) (extended 12 imm) in
    (sum_small _ _, omega arith)
effect_asks s pc registers (Fence rd rs1 ordering) number count all fits = tt
effect_asks s pc registers Ecall number count all fits = call_asks s (register_of registers 17) (register_of registers 10) number count
effect_asks s pc registers Ebreak number count all fits = tt
effect_asks s pc registers (Amo op rd rs1 rs2 aq rl) number count all fits = (register_small registers rs1 all, register_small registers rs2 all)
