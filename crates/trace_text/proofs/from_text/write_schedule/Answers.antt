use Rattle.std.proofs.Common.{subst, sym, ap₂}
use Rattle.trace_file.specs.Traces.{IsTrace, trace_of}
use Rattle.trace_text.proofs.from_text.write_schedule.Goals as goal

pub write_trace-requires-clause-trace : goal.write_trace-requires-clause-trace
write_trace-requires-clause-trace g c =
    subst IsTrace (sym (ap₂ trace_of c.config.ensures c.steps.ensures.steps)) c.steps.ensures.trace
