use Rattle.std.proofs.Common.{◌≡◌, ◌++◌, take, Bor, List, ℕ}
use Rattle.std.specs.List.{flat_map}
use Rattle.course_text.specs.Templates.{after_comma}
use Rattle.course_text.proofs.templates.push_operands.Given as goal

abbrev pub invariant-loop-operand : goal.invariant-loop-operand
invariant-loop-operand l =
    l.text.items ≡ l.initial.text.items ++ flat_map (λ (o : Bor (List ℕ)). after_comma o.now) (take l.operand-index l.operand-items)
