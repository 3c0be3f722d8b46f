use Rattle.std.proofs.Common.{ℕ, ◌<◌, ◌≤◌, ◌⊎◌, inl, inr, Contains, length, arith}
use Rattle.std.proofs.lemmas.Bool.{cases_lt}
use Rattle.std.proofs.lemmas.List.{get_or_past}
use Rattle.state_graph.specs.Fairness.{no_move, target_in}
use Rattle.state_graph.proofs.lasso.have_all_moved.Goals as goal

pub returns : goal.returns
returns c = λ is k. by k (cases_lt k (length c.args.list.now))
  where
    by : (k : ℕ) → (k < length c.args.list.now) ⊎ (length c.args.list.now ≤ k) → target_in c.args.list.now k < no_move →
        Contains c.args.movers.now k
    by k (inl less) = let far = c.loop-k-test.false in c.loop-k.invariant k (omega (arith, less, far))
    by k (inr past) = λ lower. let none = get_or_past c.args.list.now k no_move past in absurd (omega (arith, none, lower))
