use Rattle.observed_results.proofs.PartLaws.{parts_complete, parts_once, parts_sound}
use Rattle.observed_results.proofs.laws.observed_parts_are_those_of_results.Goals as goal

pub returns-clause-sound : goal.returns-clause-sound
returns-clause-sound c = λ results marks text inside. parts_sound marks results text inside

pub returns-clause-complete : goal.returns-clause-complete
returns-clause-complete c = λ results marks r inside. parts_complete marks results r inside

pub returns-clause-once : goal.returns-clause-once
returns-clause-once c = λ results marks i j text h k. parts_once marks results i j text h k
