use Rattle.std.proofs.Common.{◌≡◌}
use Rattle.std.specs.Prelude.{string_bytes}
use Rattle.asm_commands.specs.CodeLines.{lines_of}
use Rattle.asm_commands.proofs.code_lines.listing.Given as goal

abbrev pub invariant-loop-index : goal.invariant-loop-index
invariant-loop-index l = string_bytes l.text ≡ lines_of l.comments l.code l.index
