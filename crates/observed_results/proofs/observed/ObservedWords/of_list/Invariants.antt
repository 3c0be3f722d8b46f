use Rattle.std.proofs.Common.{◌≡◌, ◌↔◌, ◌⊎◌, ℕ, true, length}
use denote.Text.{Utf8}
use denote.Shadow.{shadow}
use Rattle.observed_results.specs.Lists.{IsWordList, Lists, observes}
use Rattle.observed_results.proofs.observed.ObservedWords.of_list.Given as goal

abbrev pub invariant-loop-item : goal.invariant-loop-item
invariant-loop-item l = record {
  text : shadow (Utf8 l.rest);
  all : length l.marks.items ≡ l.words;
  list : IsWordList l.words l.list ↔ IsWordList l.words l.rest;
  named : (word : ℕ) → ((observes l.marks.items word ≡ true) ⊎ Lists l.rest word) ↔ Lists l.list word;
}

abbrev pub decreases-loop-item : goal.decreases-loop-item
decreases-loop-item l = length l.rest
