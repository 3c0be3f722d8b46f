use Rattle.std.proofs.Common.{ℕ, ◌<◌, rules}
use Rattle.std.specs.Prelude.{slice_index}
use Rattle.trace_file.specs.Reading.{fields_in}
use Rattle.trace_file.proofs.Numbers.{field_bytes-fields_in}
use Rattle.trace_file.proofs.fields.Fields.in_bytes.Goals as goal

pub returns-clause-bytes : goal.returns-clause-bytes
unfolding fields_in
returns-clause-bytes c =
    let bytes = c.args.bytes.now in
    let small : (p : ℕ) → slice_index bytes p < 256 = search rules in
    rw (c.from_le_bytes.ensures, c.from_le_bytes-2.ensures) (field_bytes-fields_in bytes c.requires small)

pub returns-clause-fields : goal.returns-clause-fields
unfolding fields_in
returns-clause-fields c = rw (c.from_le_bytes.ensures, c.from_le_bytes-2.ensures)
