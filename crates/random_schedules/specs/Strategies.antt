-- Names of strategies.
use Rattle.std.specs.Prelude.{◌≡◌, ℕ, List, codes}
use Rattle.random_schedules.specs.declared.strategy.Strategy.{Strategy}
use Rattle.random_schedules.specs.declared.strategy.Strategy.TheVariants.{Random, Pct, SweepLike}

abbrev pub name_of : Strategy → List ℕ
name_of Random = codes "random"
name_of (Pct depth) = codes "pct"
name_of SweepLike = codes "sweep-like"

-- If the strategy goes by priorities, it looks for bugs of this depth.
abbrev pub IsOfDepth : (depth : ℕ) → Strategy → Type 0
IsOfDepth d Random = Unit {0}
IsOfDepth d (Pct depth) = depth ≡ d
IsOfDepth d SweepLike = Unit {0}
