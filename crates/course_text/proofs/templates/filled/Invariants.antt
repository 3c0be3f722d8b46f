use Rattle.std.proofs.Common.{◌≡◌, take}
use Rattle.std.specs.List.{flat_map}
use Rattle.course_text.specs.Templates.{piece}
use Rattle.course_text.specs.Views.{nows}
use Rattle.course_text.proofs.templates.filled.Given as goal

abbrev pub invariant-loop-byte : goal.invariant-loop-byte
invariant-loop-byte l = l.text.items ≡ flat_map (piece (nows l.words)) (take l.byte-index l.byte-items)
