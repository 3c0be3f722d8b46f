use Rattle.std.proofs.Common.{◌≡◌, ◌++◌}
use Rattle.std.specs.Prelude.{string_bytes}
use Rattle.machine_picture.specs.Pages.{texts_below}
use Rattle.machine_picture.specs.WholePictures.{wire_into}
use Rattle.machine_picture.proofs.whole.push_wires_into.Given as goal

abbrev pub invariant-loop-row : goal.invariant-loop-row
invariant-loop-row l =
    string_bytes l.text ≡ string_bytes l.initial.text ++ texts_below (wire_into l.cells l.before) l.row
