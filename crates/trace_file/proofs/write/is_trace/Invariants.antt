use Rattle.std.proofs.Common.{◌≡◌, ℕ, ◌<◌, true}
use Rattle.std.specs.Prelude.{slice_index_or}
use Rattle.steps.specs.declared.step.Step.{Step}
use Rattle.trace_file.specs.Records.{has_record}
use Rattle.trace_file.proofs.write.is_trace.Given as goal

-- The steps so far have records.
abbrev pub invariant-loop-step : goal.invariant-loop-step
invariant-loop-step l = (i : ℕ) (d : Step) → i < l.step-index → has_record l.config.k (slice_index_or l.steps i d) ≡ true
