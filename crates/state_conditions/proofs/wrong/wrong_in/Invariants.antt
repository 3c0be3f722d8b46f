use Rattle.std.proofs.Common.{◌≡◌, ◌==◌, length}
use Rattle.std.specs.Prelude.{find}
use Rattle.std.specs.List.{slice_split}
use denote.Text.{Utf8}
use denote.Shadow.{shadow}
use Rattle.state_conditions.specs.Texts.{is_wrong, wrong_part_of}
use Rattle.state_conditions.proofs.wrong.wrong_in.Given as goal

abbrev pub invariant-loop-part : goal.invariant-loop-part
invariant-loop-part l = record {
  text : shadow (Utf8 l.rest);
  found : wrong_part_of l.names l.shared_words l.text ≡ find (is_wrong l.names l.shared_words) (slice_split (λ b. b == 38) l.rest);
}

abbrev pub decreases-loop-part : goal.decreases-loop-part
decreases-loop-part l = length l.rest
