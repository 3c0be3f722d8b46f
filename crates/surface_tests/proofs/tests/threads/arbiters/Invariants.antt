use Rattle.std.proofs.Common.{◌≡◌, vec_len}
use Rattle.surface_tests.proofs.tests.threads.arbiters.Given as goal

abbrev pub invariant-loop-p : goal.invariant-loop-p
invariant-loop-p l = vec_len l.arbiters ≡ l.p
