use Rattle.std.proofs.Common.{◌≡◌, ◌++◌, ◌==◌, length}
use Rattle.std.specs.Prelude.{option_map}
use Rattle.std.specs.List.{slice_split}
use denote.Text.{Utf8}
use denote.Shadow.{shadow}
use Rattle.state_conditions.specs.Texts.{all_read, conjunction_in, part_in, words_of}
use Rattle.state_conditions.proofs.reading.conjunction_of.Given as goal

abbrev pub invariant-loop-part : goal.invariant-loop-part
invariant-loop-part l = record {
  text : shadow (Utf8 l.rest);
  read : conjunction_in l.names l.shared_words l.text
      ≡ option_map (λ more. l.parts.items ++ more) (all_read (λ part. part_in l.names l.shared_words (words_of part)) (slice_split (λ b. b == 38) l.rest));
}

abbrev pub decreases-loop-part : goal.decreases-loop-part
decreases-loop-part l = length l.rest
