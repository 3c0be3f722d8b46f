use Rattle.std.proofs.Common.{◌≡◌, take}
use Rattle.study_rows.specs.Sizes.{sizes_of}
use Rattle.study_rows.proofs.size.sizes_of.Given as goal

abbrev pub invariant-loop-k : goal.invariant-loop-k
invariant-loop-k l = l.sizes.items ≡ sizes_of (take l.k-index l.ks) l.bs l.rs
