use Rattle.std.proofs.Common.{take, length, ◌∙◌, arith}
use Rattle.std.proofs.lemmas.List.{length-take-le}
use Rattle.trace_file.proofs.Refused.{header_wrong}
use Rattle.trace_file.proofs.read.read_header.Goals as goal

pub returns-in_default-clause-refused : goal.returns-in_default-clause-refused
returns-in_default-clause-refused g c =
    let size = c.in_ok-size.size in
    let bytes = c.fill_header.new.bytes in
    let filled = c.in_ok-size.ensures.ok in
    header_wrong _ _ (take size bytes) (length-take-le size bytes (omega (arith, filled.0, c.fill_header.array_long)) ∙ filled.1) filled.2
    c.in_default.ensures.none
