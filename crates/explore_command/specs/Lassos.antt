-- The lines of a lasso.
use Rattle.std.specs.Prelude.{ℕ, ◌++◌, Bool, true, false, codes, List, [], ◌∷◌}
use Rattle.std.specs.Fmt.{decimal}
use Rattle.command_io.specs.Digits.{line_feed}
use Rattle.exploration.specs.declared.outcome.Fairness.{Fairness}
use Rattle.exploration.specs.declared.outcome.Fairness.TheVariants as fairness

-- each processor, after a blank
abbrev pub movers_text : List ℕ → List ℕ
movers_text [] = []
movers_text (k ∷ movers) = codes " " ++ decimal k ++ movers_text movers

-- `stem P P ..`
abbrev pub stem_line : (movers : List ℕ) → List ℕ
stem_line movers = codes "stem" ++ movers_text movers ++ line_feed

-- `cycle P P ..`
abbrev pub cycle_line : (movers : List ℕ) → List ℕ
cycle_line movers = codes "cycle" ++ movers_text movers ++ line_feed

-- the line that some fair schedule never ends, and those of its lasso
abbrev pub lasso_lines : (stem cycle : List ℕ) → List ℕ
lasso_lines stem cycle = codes "some fair schedule never ends\n" ++ stem_line stem ++ cycle_line cycle

-- the lines on fair schedules, if they are asked for
abbrev pub fairness_text : (asked : Bool) → Fairness → List ℕ
fairness_text false f = []
fairness_text true fairness.Ends = codes "every fair schedule ends\n"
fairness_text true (fairness.Endless lasso) = lasso_lines lasso.stem.items lasso.cycle.items
fairness_text true fairness.Unknown = codes "some fair schedule may never end\n"
