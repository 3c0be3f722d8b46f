use Rattle.hart.proofs.Bytes.{all_written, read}
use Rattle.hart.proofs.function_laws.parts_are_bytes.Goals as goal

pub returns-clause-read : goal.returns-clause-read
returns-clause-read c = read

pub returns-clause-written : goal.returns-clause-written
returns-clause-written c = all_written
