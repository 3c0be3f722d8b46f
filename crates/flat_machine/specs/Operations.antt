-- What the operations of each shape compute: one line for each row of the table.
--
-- Source: the manual's "Integer Computational Instructions", "Multiplication Operations", "Division Operations",
-- "Conditional Branches", "Load and Store Instructions" and "Atomic Memory Operations". `a` is x[rs1], `b` is x[rs2],
-- `i` the extended immediate or the shift amount.
use Rattle.std.specs.Prelude.{ℕ, ◌-◌, ◌*◌, ◌/◌, ◌%◌, ◌^◌, pos, ◌*ℤ◌, Bool, ◌==◌, not, bit_and, bit_or, bit_xor, nat_lt}
use Rattle.std.specs.Prelude.{if◌then◌else◌}
use Rattle.std.specs.Int.{w32, cast_unsigned, int_shr}
use Rattle.rv_table.specs.declared.operation.RegisterOp.{RegisterOp}
use Rattle.rv_table.specs.declared.operation.RegisterOp.TheVariants as reg
use Rattle.rv_table.specs.declared.operation.ImmediateOp.{ImmediateOp}
use Rattle.rv_table.specs.declared.operation.ImmediateOp.TheVariants.{Addi, Slti, Sltiu, Xori, Ori, Andi}
use Rattle.rv_table.specs.declared.operation.ShiftOp.{ShiftOp}
use Rattle.rv_table.specs.declared.operation.ShiftOp.TheVariants.{Slli, Srli, Srai}
use Rattle.rv_table.specs.declared.operation.LoadOp.{LoadOp}
use Rattle.rv_table.specs.declared.operation.LoadOp.TheVariants.{Lb, Lh, Lw, Lbu, Lhu}
use Rattle.rv_table.specs.declared.operation.StoreOp.{StoreOp}
use Rattle.rv_table.specs.declared.operation.StoreOp.TheVariants.{Sb, Sh, Sw}
use Rattle.rv_table.specs.declared.operation.BranchOp.{BranchOp}
use Rattle.rv_table.specs.declared.operation.BranchOp.TheVariants.{Beq, Bne, Blt, Bge, Bltu, Bgeu}
use Rattle.rv_table.specs.declared.operation.AmoOp.{AmoOp}
use Rattle.rv_table.specs.declared.operation.AmoOp.TheVariants as amo
use Rattle.flat_machine.specs.Words.{plus, minus, signed, upper, quotient, remainder, extended, is_below, flag}

-- the value of rd, from two registers
unfoldable pub register_value : RegisterOp → (a b : ℕ) → ℕ
register_value reg.Add a b = plus a b
register_value reg.Sub a b = minus a b
register_value reg.Sll a b = a * 2 ^ (b % 32) % 2 ^ 32
register_value reg.Slt a b = flag (is_below a b)
register_value reg.Sltu a b = flag (nat_lt a b)
register_value reg.Xor a b = bit_xor a b
register_value reg.Srl a b = a / 2 ^ (b % 32)
register_value reg.Sra a b = cast_unsigned w32 (int_shr (signed a) (b % 32))
register_value reg.Or a b = bit_or a b
register_value reg.And a b = bit_and a b
register_value reg.Mul a b = a * b % 2 ^ 32
register_value reg.Mulh a b = upper (signed a *ℤ signed b)
register_value reg.Mulhsu a b = upper (signed a *ℤ pos b)
register_value reg.Mulhu a b = a * b / 2 ^ 32
register_value reg.Div a b = quotient a b
register_value reg.Divu a b = if b == 0 then 2 ^ 32 - 1 else a / b
register_value reg.Rem a b = remainder a b
register_value reg.Remu a b = if b == 0 then a else a % b

-- the value of rd, from a register and an immediate
unfoldable pub immediate_value : ImmediateOp → (a i : ℕ) → ℕ
immediate_value Addi a i = plus a i
immediate_value Slti a i = flag (is_below a i)
immediate_value Sltiu a i = flag (nat_lt a i)
immediate_value Xori a i = bit_xor a i
immediate_value Ori a i = bit_or a i
immediate_value Andi a i = bit_and a i

-- the value of rd, from a register and a shift amount
unfoldable pub shift_value : ShiftOp → (a i : ℕ) → ℕ
shift_value Slli a i = a * 2 ^ i % 2 ^ 32
shift_value Srli a i = a / 2 ^ i
shift_value Srai a i = cast_unsigned w32 (int_shr (signed a) i)

-- whether a branch is taken
unfoldable pub is_taken : BranchOp → (a b : ℕ) → Bool
is_taken Beq a b = a == b
is_taken Bne a b = not (a == b)
is_taken Blt a b = is_below a b
is_taken Bge a b = not (is_below a b)
is_taken Bltu a b = nat_lt a b
is_taken Bgeu a b = not (nat_lt a b)

-- how many bytes a load reads
abbrev pub load_size : LoadOp → ℕ
load_size Lb = 1
load_size Lh = 2
load_size Lw = 4
load_size Lbu = 1
load_size Lhu = 2

-- the value of rd, from the number that those bytes make
unfoldable pub loaded : LoadOp → ℕ → ℕ
loaded Lb old = extended 8 old
loaded Lh old = extended 16 old
loaded Lw old = old
loaded Lbu old = old
loaded Lhu old = old

-- how many bytes a store writes
abbrev pub store_size : StoreOp → ℕ
store_size Sb = 1
store_size Sh = 2
store_size Sw = 4

-- the word after an AMO, from the word before it and x[rs2]
unfoldable pub amo_value : AmoOp → (old b : ℕ) → ℕ
amo_value amo.Add old b = plus old b
amo_value amo.Swap old b = b
amo_value amo.Xor old b = bit_xor old b
amo_value amo.Or old b = bit_or old b
amo_value amo.And old b = bit_and old b
amo_value amo.Min old b = if is_below old b then old else b
amo_value amo.Max old b = if is_below old b then b else old
amo_value amo.Minu old b = if nat_lt old b then old else b
amo_value amo.Maxu old b = if nat_lt old b then b else old
