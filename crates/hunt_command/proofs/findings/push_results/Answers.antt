use Rattle.std.proofs.Common.{◌≡◌, ◌++◌, ◌∙◌, Some, sym, ap, subst, append_assoc, string_bytes, take}
use Rattle.std.specs.Prelude.{slice_get}
use Rattle.hunt_command.specs.Findings.{FindingState, FindingsState, findings_lines}
use Rattle.hunt_command.proofs.Noting.{entry_in, first_of, lines_of, lines_step, printed_in, runs_in, text_in}
use Rattle.hunt_command.proofs.findings.push_results.Goals as goal

pub loop-place-preserved : goal.loop-place-preserved
loop-place-preserved c =
    let counted = c.in-Some.counted.now in
    let one : FindingState = record {
      text = string_bytes c.in-Some.field-0-0.now;
      printed = string_bytes counted.printed;
      runs = counted.runs;
      first = counted.first;
    } in
    let there = subst (λ (s : FindingsState). slice_get s.found c.loop-place.place ≡ Some one) c.findings.view_is
    (entry_in text_in printed_in runs_in first_of c.findings.inside.found.entries c.loop-place.place c.in-Some.field-0-0.now counted
    (sym c.in-Some.ensures.entry)) in
    let old = string_bytes c.args.text.now in
    let before = findings_lines (take c.loop-place.place c.args.findings.now.found) in
    c.in_ok-push_result.ensures
    ∙ ap (λ lines. lines ++ lines_of one) c.loop-place.invariant
    ∙ append_assoc old before (lines_of one)
    ∙ ap (λ lines. old ++ lines) (sym (lines_step c.args.findings.now.found c.loop-place.place one there))
