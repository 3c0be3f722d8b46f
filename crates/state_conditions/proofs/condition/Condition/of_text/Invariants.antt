use Rattle.std.proofs.Common.{◌≡◌, ◌++◌, ◌==◌, length}
use Rattle.std.specs.Prelude.{option_map}
use Rattle.std.specs.List.{slice_split}
use denote.Text.{Utf8}
use denote.Shadow.{shadow}
use Rattle.state_conditions.specs.Texts.{all_read, condition_in, conjunction_in}
use Rattle.state_conditions.proofs.condition.Condition.of_text.Given as goal

abbrev pub invariant-loop-alternative : goal.invariant-loop-alternative
invariant-loop-alternative l = record {
  text : shadow (Utf8 l.rest);
  read : condition_in l.names l.shared_words l.text
      ≡ option_map (λ more. l.alternatives.items ++ more) (all_read (conjunction_in l.names l.shared_words) (slice_split (λ b. b == 124) l.rest));
}

abbrev pub decreases-loop-alternative : goal.decreases-loop-alternative
decreases-loop-alternative l = length l.rest
