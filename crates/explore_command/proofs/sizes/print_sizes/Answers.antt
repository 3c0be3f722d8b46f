use Rattle.std.proofs.Common.{◌+◌, sym, subst}
use Rattle.std.proofs.lemmas.Result.{err_from_is_err_and}
use Rattle.explore_command.specs.Explorations.{problem_of}
use Rattle.command_io.specs.ErrorOutputs.{errors_to}
use Rattle.command_io.specs.Links.{output}
use Rattle.explore_command.specs.Sizes.{PrintsFirst}
use Rattle.explore_command.proofs.AllSizes.{none_printed, printed_more, not_printed}
use Rattle.explore_command.proofs.sizes.print_sizes.Goals as goal

pub loop-k-init : goal.loop-k-init
loop-k-init g c = record { printed = none_printed _ _ _ _ _; works = c.requires.prints }

pub loop-k-preserved : goal.loop-k-preserved
loop-k-preserved g c = record {
  printed = subst (λ n. PrintsFirst (problem_of c.args.config c.args.image.now c.args.asked) (c.loop-k.k + 1)
      (output g.W.Write.contents g.W.Link.has_failed c.args.out.now c.print_size.new.out) (errors_to g.E.Write.contents c.args.err.now c.print_size.new.err) n)
      (sym c.greater-status.ensures)
      (printed_more _ _ _ _ _ _ _ _ _ _ _ _ _ _ c.loop-k.invariant.printed c.in_ok-exit.ensures.printed);
  works = c.in_ok-exit.ensures.works;
}

pub returns-in_err-exit-clause-refused : goal.returns-in_err-exit-clause-refused
returns-in_err-exit-clause-refused g c =
    let p = err_from_is_err_and c.from_residual.result c.from_residual.ensures.1 in
    rw (p.1, p.2)
    (not_printed (problem_of c.args.config c.args.image.now c.args.asked) g.E.Write.contents c.args.err.now c.parts_make_a_beginning.ensures.rest c.loop-k.k
    (g.W.Write.contents c.args.out.now) (g.W.Write.contents c.loop-k.out) (g.W.Write.contents c.print_size.new.out) _ _ _
    c.loop-k.err c.print_size.new.err c.loop-k.status _
    c.loop-k-test.true c.loop-k.invariant.printed c.in_err-exit.ensures.refused)
