use Rattle.std.proofs.Common.{◌∙◌, ◌==◌, arith}
use Rattle.trace_text.proofs.Cutting.{cut_first, uncut}
use Rattle.trace_text.proofs.LineByLine.{if_err, line_refused, next_said}
use Rattle.trace_text.proofs.read.add_lines.Goals as goal

pub loop-line-preserved : goal.loop-line-preserved
loop-line-preserved c =
    let h = c.in-Some.ensures.parts in
    let shorter = c.in-Some.ensures.shorter in
    let inv = c.loop-line.invariant in
    let rest = c.loop-line.rest.now in (
      inv.0
          ∙ next_said c.loop-line.count c.loop-line.said _ rest c.in-Some.line.now _ (cut_first (λ b. b == 10) _ _ _ h.0 h.1 h.2)
          c.in_ok-add_line.ensures.said,
      omega (arith, inv.1, shorter),
    )

pub returns-in_err-add_line-clause-refused : goal.returns-in_err-add_line-clause-refused
returns-in_err-add_line-clause-refused c =
    let h = c.in-Some.ensures.parts in
    let rest = c.loop-line.rest.now in
    if_err _ _ _ c.from_residual.ensures.1
    (line_refused c.loop-line.count c.loop-line.said rest c.in-Some.line.now _ _ _ (cut_first (λ b. b == 10) _ _ _ h.0 h.1 h.2)
    c.loop-line.invariant.0 c.in_err-add_line.ensures.refused)

pub returns-in_err-add_line-2-clause-refused : goal.returns-in_err-add_line-2-clause-refused
returns-in_err-add_line-2-clause-refused c =
    let rest = c.loop-line.rest.now in
    if_err _ _ _ c.from_residual-in_err-add_line-2.ensures.1
    (line_refused c.loop-line.count c.loop-line.said rest rest _ _ _ (uncut (λ b. b == 10) _ c.in_default.ensures.parts)
    c.loop-line.invariant.0 c.in_err-add_line-2.ensures.refused)

pub returns-clause-said : goal.returns-clause-said
returns-clause-said c =
    let rest = c.loop-line.rest.now in
    c.loop-line.invariant.0
    ∙ next_said c.loop-line.count c.loop-line.said _ rest rest _ (uncut (λ b. b == 10) _ c.in_default.ensures.parts) c.in_ok-add_line-2.ensures.said
