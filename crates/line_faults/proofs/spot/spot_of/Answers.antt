use Rattle.std.proofs.lemmas.Result.{IfOk-weaker}
use Rattle.assembler.specs.Meaning.{address}
use Rattle.line_faults.specs.Places.{label_values, place_of}
use Rattle.word_faults.specs.Views.{spot_span}
use Rattle.line_faults.proofs.Standing.{named_stands}
use Rattle.line_faults.proofs.spot.spot_of.Goals as goal

pub returns-clause-stands : goal.returns-clause-stands
returns-clause-stands c =
    let labels = label_values c.args.around.now.labels.now in
    let at = address (place_of c.args.around.now.cursor.now) in
    IfOk-weaker c.spot_within.result _ _ (
    λ spot named. named_stands labels at c.args.line.now c.args.fault _ (spot_span spot) c.of.ensures named
    ) c.spot_within.ensures.named
