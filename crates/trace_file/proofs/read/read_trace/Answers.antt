use Rattle.trace_file.proofs.Written.{if_err}
use Rattle.trace_file.proofs.Refused.{body_refused, end_refused}
use Rattle.trace_file.proofs.read.read_trace.Goals as goal

pub returns-in_err-steps-clause-refused : goal.returns-in_err-steps-clause-refused
returns-in_err-steps-clause-refused g c =
    let header = c.in_ok-header.ensures.ok in
    if_err c.from_residual-in_err-steps.result c.in_err-steps.field-0.0 _ c.from_residual-in_err-steps.ensures.1
    (body_refused c.in_ok-header.header header.0 _ _ _ _ header.1 c.in_err-steps.ensures.refused)

pub returns-in_err-read_end-clause-refused : goal.returns-in_err-read_end-clause-refused
returns-in_err-read_end-clause-refused g c =
    let header = c.in_ok-header.ensures.ok in
    if_err c.from_residual-in_err-read_end.result c.in_err-read_end.field-0.0 _ c.from_residual-in_err-read_end.ensures.1
    (end_refused c.in_ok-header.header header.0 _ _ _ _ _ _ header.1 c.in_ok-steps.ensures.ok c.in_err-read_end.ensures.refused)
