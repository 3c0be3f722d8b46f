use Rattle.std.proofs.Common.{◌≡◌, ◌↔◌, ◌++◌, length}
use Rattle.std.specs.Prelude.{All}
use denote.Text.{Utf8}
use denote.Shadow.{shadow}
use Rattle.study_command.specs.Lists.{IsItem, items_of, numbers_of}
use Rattle.study_command.proofs.lists.numbers_in.Given as goal

abbrev pub invariant-loop-item : goal.invariant-loop-item
invariant-loop-item l = record {
  text : shadow (Utf8 l.rest);
  list : All (IsItem l.low l.high) (items_of l.list) ↔ All (IsItem l.low l.high) (items_of l.rest);
  named : l.numbers.items ++ numbers_of l.rest ≡ numbers_of l.list;
}

abbrev pub decreases-loop-item : goal.decreases-loop-item
decreases-loop-item l = length l.rest
