use Rattle.trace_file.proofs.Uniqueness.{one_trace}
use Rattle.trace_file.proofs.laws.bytes_spell_one_trace.Goals as goal

pub returns : goal.returns
returns c = one_trace
