-- Which processors a split reply answers.
use Rattle.std.specs.Prelude.{◌≡◌, ℕ, suc, map, slice_get, Some}
use Rattle.messages.specs.declared.message.Record.{Record}
use Rattle.messages.specs.declared.message.Reply.{Reply}
use Rattle.messages.specs.Queues.{records_of}
use Rattle.messages.specs.Seconds.{seconds_of}
use Rattle.omega_network.specs.Networks.{net_of}
use Rattle.steps.specs.declared.step.Step.{Step}
use Rattle.steps.specs.declared.step.Step.TheVariants as step
use Rattle.steps.specs.declared.step.Outcome.{Outcome}
use Rattle.steps.specs.declared.step.Outcome.TheVariants.{Answered}
use Rattle.machine_steps.specs.Machines.{MachineLists}

-- If a step splits a reply, its outcome names the seconds of all records of the reply's leader, in the order of their
-- combinations.
abbrev pub AnswersAllSeconds : MachineLists → Step → Outcome → Type 0
AnswersAllSeconds m (step.Down s w) (Answered to) = (x : Reply) →
    slice_get ((net_of m.network).replies (suc s) w) 0 ≡ Some x →
    seconds_of to ≡ map (λ (e : Record). e.second) (records_of x.leader ((net_of m.network).records s w))
AnswersAllSeconds m _ _ = Unit {0}
