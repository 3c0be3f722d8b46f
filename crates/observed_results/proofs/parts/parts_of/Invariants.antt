use Rattle.std.proofs.Common.{◌≡◌, take}
use Rattle.observed_results.specs.Lines.{observed_parts}
use Rattle.observed_results.specs.Parts.{AreFirsts}
use Rattle.observed_results.proofs.parts.parts_of.Given as goal

abbrev pub invariant-loop-place : goal.invariant-loop-place
invariant-loop-place l = record {
  texts : l.parts.texts ≡ observed_parts l.words (take l.place l.results);
  firsts : AreFirsts l.words l.results l.parts.texts l.parts.places;
}
