-- A sweep and its drain are steps without pokes.
use Rattle.std.proofs.Common.{◌≡◌, ℕ, Bool, true, List, ◌++◌, ap, ◌∙◌, subst, append_assoc}
use Rattle.steps.specs.declared.step.Step.{Step}
use Rattle.machine_steps.specs.Draining.{drain_steps}
use Rattle.machine_steps.specs.Laws.{ReplaysAreCut}
use Rattle.machine_steps.specs.Machines.{MachineLists}
use Rattle.machine_steps.specs.Runs.{IsReplay}
use Rattle.machine_log.specs.Logs.{Log}
use Rattle.steps.specs.Kinds.{no_poke}
use Rattle.steps.proofs.Lemmas.{no_poke_both}
use Rattle.debug_session.specs.Runs.{HasDriven}
use Rattle.debug_session.specs.Sweeps.{HasContinued}

-- A sweep and its drain take the log on by steps without pokes, after which no reference is open.
pub has_run : ReplaysAreCut → ((m : MachineLists) → no_poke (drain_steps m) ≡ true) → (breaks : List Bool) (budget : ℕ) (old new : Log) →
    HasContinued breaks budget old new → IsReplay old.opening old.steps old.machine →
    IsReplay new.opening new.steps new.machine → HasDriven old new
has_run cut own breaks budget old new c before after =
    let drained : List Step = drain_steps c.middle.machine in
    let steps = c.steps ∙ ap (λ xs. xs ++ drained) c.swept.steps ∙ append_assoc old.steps c.swept.more drained in
    record {
      opening = c.opening;
      more = c.swept.more ++ drained;
      steps = steps;
      no_pokes = no_poke_both c.swept.more drained c.swept.no_pokes (own c.middle.machine);
      replay =
          cut old.opening old.machine new.machine old.steps (c.swept.more ++ drained) before
          (subst (λ xs. IsReplay old.opening xs new.machine) steps (subst (λ n. IsReplay n new.steps new.machine) c.opening after));
      idle = c.idle;
    }
