use Rattle.line_faults.specs.Places.{first_lines, label_values, place_of}
use Rattle.line_faults.specs.word_faults.Views.{spot_span}
use Rattle.fault_lists.proofs.Found.{at_of, named_of}
use Rattle.fault_lists.proofs.faults.found_at.Goals as goal

pub returns-clause-at : goal.returns-clause-at
returns-clause-at c =
    at_of c.args.line.now (spot_span c.in_ok-spot.spot) _ _ c.in_ok-spot.ensures.stands c.fault_at.ensures.column c.fault_at.ensures.word

pub returns-clause-named : goal.returns-clause-named
returns-clause-named c =
    named_of (label_values c.args.around.now.labels.now) (first_lines c.args.around.now.cursor.now) (place_of c.args.around.now.cursor.now) c.args.line.now
    c.args.fault
    (spot_span c.in_ok-spot.spot) c.fault_at.result c.fault_at.ensures.fault c.in_ok-spot.ensures.named c.fault_at.ensures.column c.fault_at.ensures.word
    c.in_ok-spot.spot.hint c.fault_at.ensures.hint c.in_ok-spot.ensures.advised
