use Rattle.std.proofs.Common.{◌≡◌, false}
use Rattle.explore_command.specs.Explorations.{problem_of}
use Rattle.command_io.specs.ErrorOutputs.{errors_to}
use Rattle.command_io.specs.Links.{output}
use Rattle.explore_command.specs.Sizes.{PrintsFirst}
use Rattle.explore_command.proofs.sizes.print_sizes.Given as goal

abbrev pub invariant-loop-k : goal.invariant-loop-k
invariant-loop-k g l = record {
  printed : PrintsFirst (problem_of l.config l.image l.asked) l.k (output g.W.Write.contents g.W.Link.has_failed l.fn.out l.out)
      (errors_to g.E.Write.contents l.fn.err l.err) l.status;
  works : g.W.Link.has_failed l.out ≡ false;
}
