use Rattle.std.proofs.Common.{◌≡◌, ◌++◌, take}
use Rattle.study_rows.specs.Sizes.{sizes_with_b}
use Rattle.study_rows.proofs.size.push_with_b.Given as goal

abbrev pub invariant-loop-r : goal.invariant-loop-r
invariant-loop-r l = l.sizes.items ≡ l.initial.sizes.items ++ sizes_with_b l.k (take l.r-index l.rs) l.b
