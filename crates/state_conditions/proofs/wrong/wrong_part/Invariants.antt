use Rattle.std.proofs.Common.{◌≡◌, ◌==◌, length}
use Rattle.std.specs.List.{slice_split}
use denote.Text.{Utf8}
use denote.Shadow.{shadow}
use Rattle.state_conditions.specs.Texts.{first_wrong_part, wrong_part_in}
use Rattle.state_conditions.proofs.wrong.wrong_part.Given as goal

abbrev pub invariant-loop-alternative : goal.invariant-loop-alternative
invariant-loop-alternative l = record {
  text : shadow (Utf8 l.rest);
  found : wrong_part_in l.names l.shared_words l.text ≡ first_wrong_part l.names l.shared_words (slice_split (λ b. b == 124) l.rest);
}

abbrev pub decreases-loop-alternative : goal.decreases-loop-alternative
decreases-loop-alternative l = length l.rest
