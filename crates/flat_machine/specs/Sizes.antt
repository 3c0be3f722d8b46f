-- The sizes of an access.
use Rattle.std.specs.Prelude.{ℕ}
use Rattle.flat_machine.specs.declared.size.Size.{Size}
use Rattle.flat_machine.specs.declared.size.Size.TheVariants.{Byte, Half, Word}

abbrev pub bytes_of : Size → ℕ
bytes_of Byte = 1
bytes_of Half = 2
bytes_of Word = 4
