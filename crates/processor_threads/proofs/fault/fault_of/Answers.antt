use Rattle.std.proofs.Common.{sym, ap, ◌∷◌, [], ◌∙◌, take, slice_index_or}
use Rattle.std.proofs.lemmas.List.{take_more}
use Rattle.std.specs.Prelude.{None}
use Rattle.processor_threads.specs.Faults.{fault_of}
use Rattle.processor_threads.proofs.Reported.{fault_of-last}
use Rattle.processor_threads.proofs.fault.fault_of.Goals as goal

pub loop-end-preserved : goal.loop-end-preserved
loop-end-preserved c =
    let ends = c.args.ends.now in
    let i = c.loop-end.end-index in
    let end = slice_index_or ends i None in
    c.graver_of-reported.ensures
    ∙ ap (λ reported. fault_of (reported ∷ end ∷ [])) c.loop-end.invariant
    ∙ sym (fault_of-last end (take i ends))
    ∙ ap fault_of (sym (take_more ends i None c.loop-end-test.true))
