use Rattle.std.proofs.Common.{rules, ◌==◌}
use Rattle.word_faults.specs.Spans.{span_of, operand_spans}
use Rattle.word_faults.proofs.OperandSpans.{rest_shorter, operands_more, operands_all}
use Rattle.word_faults.proofs.parts.Parts.operands.Goals as goal

pub loop-operand-smaller : goal.loop-operand-smaller
loop-operand-smaller c =
    rest_shorter (λ b. b == 44) (span_of c.loop-operand.rest) (span_of c.in-Some.operand, span_of c.in-Some.behind) c.in-Some.ensures.value

pub loop-operand-preserved : goal.loop-operand-preserved
loop-operand-preserved c =
    operands_more c.loop-operand.operands.items c.push.new.self.items c.trim.result (span_of c.loop-operand.rest)
    (span_of c.in-Some.operand, span_of c.in-Some.behind) (operand_spans (span_of c.args.self.now.rest)) (search rules) c.in-Some.ensures.parts
    c.in-Some.ensures.value c.trim.ensures c.loop-operand.invariant

pub returns : goal.returns
returns c =
    operands_all c.loop-operand.operands.items c.push-2.new.self.items c.trim-2.result (span_of c.loop-operand.rest)
    (operand_spans (span_of c.args.self.now.rest)) (search rules) c.in_default.ensures.parts c.trim-2.ensures c.loop-operand.invariant
