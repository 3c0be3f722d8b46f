use Rattle.std.proofs.Common.{rules, arith, sym}
use Rattle.std.proofs.lemmas.Result.{err_from_is_err_and}
use Rattle.assembler.proofs.Words.{words_more, words_fault, words_done}
use Rattle.std.specs.Prelude.{pos}
use Rattle.asm_lines.specs.declared.statement.Value.{Value}
use Rattle.asm_lines.specs.declared.statement.Value.TheVariants.{Number}
use Rattle.assembler.proofs.emit.emit_words.Goals as goal

nothing : Value
nothing = Number (pos 0)

pub returns-in_err-number-clause-err : goal.returns-in_err-number-clause-err
unfolding nothing
returns-in_err-number-clause-err c =
    let p = err_from_is_err_and c.from_residual.result c.from_residual.ensures.1 in
    rw (p.1, p.2) (λ not_memory. words_fault c.args.labels.now c.args.values.now c.loop-value.value-index nothing c.args.out.now c.loop-value.out
    _ (omega arith) c.loop-value.invariant (sym c.in_err-number.ensures))

pub loop-value-preserved : goal.loop-value-preserved
unfolding nothing
loop-value-preserved c = words_more c.args.labels.now c.args.values.now c.loop-value.value-index nothing c.args.out.now c.loop-value.out
    _ c.extend_from_slice.new.self (omega arith) c.loop-value.invariant (sym c.in_ok-number.ensures) (search rules)

pub returns-clause-ok : goal.returns-clause-ok
unfolding nothing
returns-clause-ok c =
    words_done c.args.labels.now c.args.values.now c.loop-value.value-index nothing c.args.out.now c.loop-value.out (omega arith) c.loop-value.invariant
