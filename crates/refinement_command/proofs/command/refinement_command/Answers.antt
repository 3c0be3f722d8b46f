use Rattle.std.proofs.Common.{List, inl, subst}
use Rattle.command_io.specs.Links.{input, output}
use Rattle.command_io.specs.Printing.{Prints}
use Rattle.exploration.specs.local_reduction.Results.{FinalResult}
use Rattle.refinement_command.specs.Comparisons.{AreCompared, IsNotCompared, comparison_of}
use Rattle.refinement_command.proofs.Refining.{not_printed, prints}
use Rattle.refinement_command.proofs.command.refinement_command.Goals as goal

pub returns-in-Err-clause-fault : goal.returns-in-Err-clause-fault
returns-in-Err-clause-fault g c = λ high. record {
  refusal = c.in-Err.fault;
  tells = c.report_fault.ensures.fault;
  cause = inl c.in-Err.ensures.refused;
  reported = c.report_fault.ensures.reported;
}

pub returns-in-Ok-print_comparison-clause-printed : goal.returns-in-Ok-print_comparison-clause-printed
returns-in-Ok-print_comparison-clause-printed g c = λ low.
    let marks = c.args.words.now in
    let results = c.in-Ok.results.items in
    let status = c.in-Ok-print_comparison.status in
    let old = g.W.Write.contents c.args.out.now in
    let new = g.W.Write.contents c.print_comparison.new.out in
    prints (comparison_of c.args.config c.args.limit marks
    (input g.R.Read.remaining g.R.Link.has_failed c.args.program.now c.results_of.new.file)
    (input g.S.Read.remaining g.S.Link.has_failed c.args.specification.now c.results_of-2.new.file))
    c.in_ok-others.others.items results c.in-Ok.ensures.found c.in_ok-others.ensures.found
    (c.no_part_is_missing_if_each_result_is_matched.ensures.matched marks c.in_ok-others.others.items results) status old new
    (subst (λ (os : List FinalResult). Prints (AreCompared marks os results status) old new) c.as_slice-2.ensures.value
    (subst (λ (rs : List FinalResult). Prints (AreCompared marks c.as_slice-2.result.now rs status) old new) c.as_slice.ensures.value
    c.in-Ok-print_comparison.ensures.printed))

pub returns-clause-fault : goal.returns-clause-fault
returns-clause-fault g c = λ high.
    let marks = c.args.words.now in
    let results = c.in-Ok.results.items in
    let fault = c.in-Err-print_comparison.fault in
    let out = output g.W.Write.contents g.W.Link.has_failed c.args.out.now c.print_comparison.new.out in
    record {
      refusal = fault;
      tells = c.report_fault-in-Err-print_comparison.ensures.fault;
      cause = not_printed (comparison_of c.args.config c.args.limit marks
          (input g.R.Read.remaining g.R.Link.has_failed c.args.program.now c.results_of.new.file)
          (input g.S.Read.remaining g.S.Link.has_failed c.args.specification.now c.results_of-2.new.file))
          c.in_ok-others.others.items results c.in-Ok.ensures.found c.in_ok-others.ensures.found
          (c.no_part_is_missing_if_each_result_is_matched.ensures.matched marks c.in_ok-others.others.items results) out fault
          (subst (λ (os : List FinalResult). IsNotCompared marks os results out fault) c.as_slice-2.ensures.value
          (subst (λ (rs : List FinalResult). IsNotCompared marks c.as_slice-2.result.now rs out fault) c.as_slice.ensures.value
          c.in-Err-print_comparison.ensures.refused));
      reported = c.report_fault-in-Err-print_comparison.ensures.reported;
    }
