use Rattle.std.proofs.Common.{◌≡◌}
use Rattle.std.specs.Prelude.{string_bytes}
use Rattle.observed_results.specs.Lines.{first_parts}
use Rattle.observed_results.proofs.parts.parts_text.Given as goal

abbrev pub invariant-loop-place : goal.invariant-loop-place
invariant-loop-place l = string_bytes l.text ≡ first_parts l.parts.texts l.place
