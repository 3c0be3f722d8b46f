-- The fault of a line.
use Rattle.std.specs.Prelude.{Option, Some, None, Result, Ok, Err}
use Rattle.assembler.specs.declared.fault.AsmFault.{AsmFault}
use Rattle.asm_lines.specs.Statements.{Said}
use Rattle.assembler.specs.Faults.{◌>>=◌}
use Rattle.assembler.specs.Meaning.{Labels, Place, place_said, piece_of}

-- the fault of a result, if it is one
abbrev pub fault_in : {A : Type 0} → Result A AsmFault → Option AsmFault
fault_in (Ok x) = None
fault_in (Err f) = Some f

-- the fault of a line that says this at its place
abbrev pub said_fault : Labels → Place → Said → Option AsmFault
said_fault labels at said = fault_in (place_said at said >>= piece_of labels)
