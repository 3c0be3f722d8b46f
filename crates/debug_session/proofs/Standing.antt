-- The machine of a log, and the one that its steps leave, are in the same state.
use Rattle.std.proofs.Common.{◌≡◌, ℕ, ◌^◌, ◌<◌, Bool, List, [], sym, ap, ◌∙◌, subst}
use Rattle.flat_machine.specs.declared.config.Config.{Config}
use Rattle.flat_machine.specs.State.{Processor}
use Rattle.machine_steps.specs.machine_theory.Theory as theory
use Rattle.steps.specs.declared.step.Step.{Step}
use Rattle.machine_steps.specs.machine_theory.Processors.{ObservedCore, open_at}
use Rattle.machine_steps.specs.machine_theory.Steps.{machine_of_parts}
use Rattle.machine_steps.specs.Machines.{MachineLists}
use Rattle.machine_steps.specs.Runs.{IsReplay}
use Rattle.machine_steps.specs.Standing.{HasRunning, processor_of}
use Rattle.schedules.specs.Sweeps.{RunsAfter}
use Rattle.debug_replies.specs.Breaking.{is_break}
use Rattle.debug_session.specs.Breaks.{AreFlagged, IsAtBreak, StandsAtBreak, machine_after, processor_after}

module _ (opening m : MachineLists) (steps : List Step) (r : IsReplay opening steps m) where
  processor_is : (p : ℕ) → processor_of m p ≡ processor_after opening steps p
  unfolding machine_of_parts
  processor_is p = ap (λ (M : theory.Machine ObservedCore). (M.core p).state) (r.run.after (λ q. []))

  open_is : (p : ℕ) → open_at m.ports p ≡ (machine_after opening steps).is_open p
  unfolding machine_of_parts
  open_is p = ap (λ (M : theory.Machine ObservedCore). M.is_open p) (r.run.after (λ q. []))

  size : m.config.k ≡ opening.config.k
  size = ap (λ (c : Config). c.k) r.run.config

  -- If a processor runs after the log's steps, one runs in the log's machine.
  pub has_running : RunsAfter opening steps → HasRunning m
  has_running (p, within, runs) = (p, subst (λ (k : ℕ). p < 2 ^ k) (sym size) within, ap (λ (q : Processor). q.status) (processor_is p) ∙ runs)

  module _ (breaks flags : List Bool) (start : ℕ) (noted : AreFlagged opening start flags steps) (p : ℕ) where
    -- If a processor is at a break after the log's steps, it is at one in the log's machine.
    pub at_break : StandsAtBreak opening breaks start steps p → IsAtBreak m breaks flags p
    at_break s = record {
      there = subst (λ (k : ℕ). p < 2 ^ k) (sym size) s.there;
      running = ap (λ (q : Processor). q.status) (processor_is p) ∙ s.running;
      shut = open_is p ∙ s.shut;
      retired = (noted p s.there).1 s.retired;
      at_break = ap (λ (q : Processor). is_break breaks q.pc) (processor_is p) ∙ s.at_break;
    }

    -- If a processor is at a break in the log's machine, it is at one after the log's steps.
    pub stands_there : IsAtBreak m breaks flags p → StandsAtBreak opening breaks start steps p
    stands_there s =
        let there = subst (λ (k : ℕ). p < 2 ^ k) size s.there in
        record {
          there = there;
          running = sym (ap (λ (q : Processor). q.status) (processor_is p)) ∙ s.running;
          shut = sym (open_is p) ∙ s.shut;
          retired = (noted p there).0 s.retired;
          at_break = sym (ap (λ (q : Processor). is_break breaks q.pc) (processor_is p)) ∙ s.at_break;
        }
