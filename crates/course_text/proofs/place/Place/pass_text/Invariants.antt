use Rattle.std.proofs.Common.{◌≡◌, drop}
use Rattle.std.specs.Prelude.{fold}
use Rattle.course_text.specs.Places.{after}
use Rattle.course_text.specs.Views.{nows}
use Rattle.course_text.proofs.place.Place.pass_text.Given as goal

abbrev pub invariant-loop-line : goal.invariant-loop-line
invariant-loop-line l = fold after l.self (nows (drop l.line-index l.line-items)) ≡ fold after l.initial.self (nows l.line-items)
