use Rattle.std.proofs.Common.{◌≡◌, ◌++◌, take}
use Rattle.study_rows.specs.Sizes.{sizes_with_k}
use Rattle.study_rows.proofs.size.push_with_k.Given as goal

abbrev pub invariant-loop-b : goal.invariant-loop-b
invariant-loop-b l = l.sizes.items ≡ l.initial.sizes.items ++ sizes_with_k (take l.b-index l.bs) l.rs l.k
