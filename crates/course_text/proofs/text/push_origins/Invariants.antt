use Rattle.std.proofs.Common.{◌≡◌, ◌++◌}
use Rattle.std.specs.Prelude.{replicate}
use Rattle.course_text.proofs.text.push_origins.Given as goal

abbrev pub invariant-loop : goal.invariant-loop
invariant-loop l = l.origins.items ≡ l.initial.origins.items ++ replicate l.counter l.number
