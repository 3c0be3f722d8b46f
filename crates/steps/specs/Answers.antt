-- Which outcomes are stalls.
use Rattle.std.specs.Prelude.{Bool, true, false}
use Rattle.steps.specs.declared.step.Outcome.{Outcome}
use Rattle.steps.specs.declared.step.Outcome.TheVariants.{Retired, Issued, Stopped, Moved, Combined, Served, Answered}
use Rattle.steps.specs.declared.step.Outcome.TheVariants.{Poked, Stalled}

abbrev pub is_stalled : Outcome → Bool
is_stalled Stalled = true
is_stalled (Retired retired) = false
is_stalled Issued = false
is_stalled (Stopped cause) = false
is_stalled Moved = false
is_stalled (Combined first second) = false
is_stalled (Served leader) = false
is_stalled (Answered to) = false
is_stalled Poked = false
