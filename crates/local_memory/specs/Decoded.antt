-- Code decoded in advance.
use Rattle.std.specs.Prelude.{◌≡◌, ℕ, ◌<◌, ◌*◌, List, length, Option, Some, slice_get}
use Rattle.rv_table.specs.declared.insn.Insn.{Insn}
use Rattle.rv_table.specs.Rows.{insn_of}
use Rattle.flat_machine.specs.Memory.{number_at}

-- The list has, in order, what each of the first `words` words spells.
pub record AreDecoded (bytes : List ℕ) (insns : List (Option Insn)) (words : ℕ) : Type 0 where
  pub count : length insns ≡ words
  pub each : (k : ℕ) → k < words → slice_get insns k ≡ Some (insn_of (number_at bytes (4 * k) 4))
