use Rattle.observed_results.proofs.Filtering.{filtered_complete, filtered_numbered, filtered_once, filtered_sound}
use Rattle.observed_results.proofs.laws.filtered_parts_are_those_of_results_that_satisfy.Goals as goal

pub returns-clause-sound : goal.returns-clause-sound
returns-clause-sound c = λ results marks condition text inside. filtered_sound marks condition results text inside

pub returns-clause-complete : goal.returns-clause-complete
returns-clause-complete c = λ results marks condition r inside e. filtered_complete marks condition results r inside e

pub returns-clause-once : goal.returns-clause-once
returns-clause-once c = λ results marks condition i j text h k. filtered_once marks condition results i j text h k

pub returns-clause-numbered : goal.returns-clause-numbered
returns-clause-numbered c = λ results marks condition text inside. filtered_numbered marks condition results text inside
