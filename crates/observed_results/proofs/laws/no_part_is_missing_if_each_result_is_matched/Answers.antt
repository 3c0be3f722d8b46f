use Rattle.observed_results.proofs.Matching.{none_missing}
use Rattle.observed_results.proofs.laws.no_part_is_missing_if_each_result_is_matched.Goals as goal

pub returns : goal.returns
returns c = record { matched = none_missing }
