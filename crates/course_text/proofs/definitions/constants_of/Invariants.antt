use Rattle.std.proofs.Common.{◌≡◌, drop}
use Rattle.std.specs.Prelude.{fold}
use Rattle.course_text.specs.Constants.{constant_values, constants_of, with_line}
use Rattle.course_text.specs.Views.{nows}
use Rattle.course_text.proofs.definitions.constants_of.Given as goal

abbrev pub invariant-loop-line : goal.invariant-loop-line
invariant-loop-line l = fold with_line (constant_values l.constants) (nows (drop l.line-index l.lines)) ≡ constants_of (nows l.lines)
