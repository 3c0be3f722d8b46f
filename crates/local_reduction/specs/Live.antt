-- Which registers are live: they may be read before they are written.
use Rattle.std.specs.Prelude.{◌≡◌, ℕ, ◌*◌, ◌/◌, ◌%◌, ◌^◌, Bool, true, false, ◌==◌, ◌&&◌, ◌||◌, not, nat_le, List, []}
use Rattle.std.specs.Prelude.{Ok, slice_index_or}
use Rattle.rv_table.specs.declared.insn.Insn.{Insn}
use Rattle.rv_table.specs.declared.insn.Insn.TheVariants.{Op, OpImm, Shift, Load, Store, Branch, Upper, Jal, Jalr}
use Rattle.rv_table.specs.declared.insn.Insn.TheVariants.{Fence, Ecall, Ebreak, Amo}
use Rattle.flat_machine.specs.Words.{plus, extended}
use Rattle.flat_machine.specs.Turns.{fetched}

-- whether a register is live at pc, by a table that has the live registers of each word of code; a register that the
-- table lacks is live, and so are all registers if pc is not divisible by 4
abbrev pub is_live : (live : List (List Bool)) → (pc r : ℕ) → Bool
is_live live pc r = not (pc % 4 == 0) || r == 0 || nat_le 32 r
    || slice_index_or (slice_index_or live (pc % 2 ^ 16 / 4) []) r true

-- whether the register is live at a target, and is not the one written before it
abbrev pub is_passed : (live : List (List Bool)) → (target rd r : ℕ) → Bool
is_passed live target rd r = not (r == rd) && is_live live target r

-- Whether an instruction at pc, or one after it, may read the register before it is written: one line for each shape.
-- The target of a jump to an address in a register is not known, so such a jump needs all registers.
module _ (live : List (List Bool)) (pc : ℕ) where
  unfoldable pub is_needed : Insn → (r : ℕ) → Bool
  is_needed (Op op rd rs1 rs2) r = r == rs1 || r == rs2 || is_passed live (plus pc 4) rd r
  is_needed (OpImm op rd rs1 imm) r = r == rs1 || is_passed live (plus pc 4) rd r
  is_needed (Shift op rd rs1 amount) r = r == rs1 || is_passed live (plus pc 4) rd r
  is_needed (Load op rd rs1 imm) r = r == rs1 || is_passed live (plus pc 4) rd r
  is_needed (Store op rs1 rs2 imm) r = r == rs1 || r == rs2 || is_live live (plus pc 4) r
  is_needed (Branch op rs1 rs2 offset) r =
      r == rs1 || r == rs2 || is_live live (plus pc 4) r || is_live live (plus pc (extended 13 (2 * offset))) r
  is_needed (Upper op rd upper) r = is_passed live (plus pc 4) rd r
  is_needed (Jal rd offset) r = is_passed live (plus pc (extended 21 (2 * offset))) rd r
  is_needed (Jalr rd rs1 imm) r = true
  is_needed (Fence rd rs1 ordering) r = is_live live (plus pc 4) r
  is_needed Ecall r = r == 17 || r == 10 || is_live live (plus pc 4) r
  is_needed Ebreak r = false
  is_needed (Amo op rd rs1 rs2 aq rl) r = r == rs1 || r == rs2 || is_passed live (plus pc 4) rd r

-- What the instruction at pc needs is live there.
abbrev pub HasAllLiveAt : (code : List ℕ) → (live : List (List Bool)) → (pc : ℕ) → Type 0
HasAllLiveAt code live pc = (i : Insn) (r : ℕ) → fetched code pc ≡ Ok i → is_needed live pc i r ≡ true →
    is_live live pc r ≡ true

-- What each instruction needs is live there.
abbrev pub HasAllLive : (code : List ℕ) → (live : List (List Bool)) → Type 0
HasAllLive code live = (pc : ℕ) → HasAllLiveAt code live pc
