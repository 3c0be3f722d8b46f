use Rattle.std.proofs.Common.{◌≡◌, ◌↔◌, ◌⊎◌, ℕ, ◌<◌, ◌≤◌, true, length}
use Rattle.observed_results.specs.Lists.{observes}
use Rattle.observed_results.proofs.observed.mark_range.Given as goal

abbrev pub invariant-loop-word : goal.invariant-loop-word
invariant-loop-word l = record {
  marked : (word : ℕ) → (observes l.marks.items word ≡ true)
      ↔ ((observes l.initial.marks.items word ≡ true) ⊎ ((l.first ≤ word) × (word < l.word)));
  all : length l.marks.items ≡ length l.initial.marks.items;
}
