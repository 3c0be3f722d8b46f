use Rattle.std.proofs.Common.{◌≡◌, ◌++◌}
use Rattle.std.specs.Prelude.{string_bytes}
use Rattle.machine_picture.specs.Pages.{texts_below}
use Rattle.machine_picture.specs.WholePictures.{wires_into}
use Rattle.machine_picture.proofs.whole.push_wires.Given as goal

abbrev pub invariant-loop-before : goal.invariant-loop-before
invariant-loop-before l =
    string_bytes l.text ≡ string_bytes l.initial.text ++ texts_below (wires_into l.cells) l.before
