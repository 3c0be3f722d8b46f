use native.Mathlib.Numerals.{unary_clauses}
use Rattle.std.proofs.Common.{◌++◌, ◌∙◌, List, ℕ, Some, ap, append_assoc, string_bytes}
use Rattle.machine_steps.specs.machine_theory.Processors.{word_at}
use Rattle.hunt_command.specs.Lines.{observed_lines}
use Rattle.observed_results.specs.Lines.{observed_line}
use Rattle.hunt_command.proofs.lines.push_chosen.Goals as goal

pub loop-number-preserved : goal.loop-number-preserved
loop-number-preserved c =
    let m = c.args.machine.now in
    let number = c.loop-number.number in
    let line = observed_line c.args.words.now number (word_at m.config.k m.modules number) in
    simp unary_clauses (c.in_ok-push_if_observed.ensures ∙ ap (λ (t : List ℕ). t ++ line) c.loop-number.invariant
    ∙ append_assoc (string_bytes c.args.text.now) (observed_lines (Some c.args.words.now) m number) line)
