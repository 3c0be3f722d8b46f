-- What `ultra stats --queues` prints: the lengths of queues at the ends of rounds.
use Rattle.std.specs.Prelude.{◌≡◌, ℕ, zero, suc, ◌+◌, ◌^◌, Bool, ◌||◌, nat_lt, List, [], ◌∷◌, ◌++◌, if◌then◌else◌}
use Rattle.flat_machine.specs.declared.config.Config.{Config}
use Rattle.elf_image.specs.Images.{ImageContents}
use Rattle.steps.specs.declared.step.Step.{Step}
use Rattle.machine_steps.specs.messages.Network.{Net}
use Rattle.machine_steps.specs.machine_theory.Theory as theory
use Rattle.machine_steps.specs.machine_theory.Processors.{ObservedCore}
use Rattle.machine_steps.specs.machine_theory.Steps.{after}
use Rattle.machine_steps.specs.Machines.{MachineLists, machine_of}
use Rattle.machine_steps.specs.Runs.{IsOpening}
use Rattle.run_counts.specs.declared.longest.Held.{Held}
use Rattle.run_counts.specs.declared.longest.Held.TheVariants.{Requests, Records, Replies}
use Rattle.run_counts.specs.declared.queue_lengths.LengthsFormat.{LengthsFormat}
use Rattle.run_counts.specs.declared.queue_lengths.LengthsFormat.TheVariants as format
use Rattle.run_counts.specs.declared.queue_lengths.StageLengths.{StageLengths}
use Rattle.run_counts.specs.declared.rounds.Begun.{Begun}
use Rattle.run_counts.specs.QueueLengths.{lengths_text}
use Rattle.run_counts.specs.Rounds.{begun_at, begun_from, none_begun}
use Rattle.trace_commands.specs.Explained.{IsDrainedWithSteps}
use Rattle.trace_counts.specs.Longest.{count_of, net_after}
use Rattle.trace_counts.specs.Stats.{AreStatsLines}

-- ---- a network

-- the sum of the counts at the first wires
abbrev pub total_of : (number : ℕ → ℕ) → (wires : ℕ) → ℕ
total_of number zero = 0
total_of number (suc w) = total_of number w + number w

-- how many messages or records all wires of a stage have
abbrev pub total_at : (k : ℕ) → Net → Held → (stage : ℕ) → ℕ
total_at k net held s = total_of (count_of held net s) (2 ^ k)

-- the lengths at a stage, at the end of this round
abbrev pub stage_lengths : (k : ℕ) → Net → (round stage : ℕ) → StageLengths
stage_lengths k net r s = record {
  round = r;
  stage = s;
  requests = total_at k net Requests s;
  records = total_at k net Records s;
  replies = total_at k net Replies s;
}

-- whether anything waits
abbrev pub holds_any : StageLengths → Bool
holds_any l = nat_lt 0 l.requests || nat_lt 0 l.records || nat_lt 0 l.replies

-- these lengths, if anything waits
abbrev pub waiting : StageLengths → List StageLengths
waiting l = if holds_any l then l ∷ [] else []

-- the lengths at the first stages, of those at which anything waits
abbrev pub lengths_at : (k : ℕ) → Net → (round stages : ℕ) → List StageLengths
lengths_at k net r zero = []
lengths_at k net r (suc s) = lengths_at k net r s ++ waiting (stage_lengths k net r s)

-- ---- a run

-- the lengths at the end of a round, if it ends: if the round of the next step is another one
abbrev pub lengths_before : (k : ℕ) → Net → (round next : ℕ) → List StageLengths
lengths_before k net r next = if nat_lt r next then lengths_at k net r k else []

-- the lengths at the ends of all rounds after which the steps begin another
unfoldable pub lengths_between : Config → (code : List ℕ) → Begun → theory.Machine ObservedCore → List Step
    → List StageLengths
lengths_between c code r M [] = []
lengths_between c code r M (s ∷ ss) =
    lengths_before c.k M.net r.count (begun_at r s).count ++ lengths_between c code (begun_at r s) (after c code M s) ss

-- the same, from this machine and the first round
abbrev pub lengths_between_of : MachineLists → List Step → List StageLengths
lengths_between_of m steps = lengths_between m.config m.code none_begun (machine_of m (λ p. [])) steps

-- the lengths at the ends of all rounds that the steps begin; the last of these ends with the steps
abbrev pub queue_lengths : MachineLists → List Step → List StageLengths
queue_lengths m steps =
    lengths_between_of m steps
    ++ lengths_at m.config.k (net_after m steps) (begun_from none_begun steps).count m.config.k

-- ---- what is printed

-- The machine of this size that opens on the image takes the steps of a trace and those of a drain, and this is the
-- text of the lengths at the ends of the rounds.
pub record AreQueueLines (f : LengthsFormat) (c : Config) (image : ImageContents) (steps : List Step)
    (lines : List ℕ) : Type 0 where
  pub all : List Step
  pub home : IsDrainedWithSteps c image steps all
  pub opening : MachineLists
  pub opens : IsOpening c image opening
  pub are : lines ≡ lengths_text f c.k (queue_lengths opening all)

-- These are the lines that count the steps, and then those of the lengths.
pub record AreQueueStats (c : Config) (image : ImageContents) (steps : List Step) (text : List ℕ)
    (status : ℕ) : Type 0 where
  pub counts : List ℕ
  pub counted : AreStatsLines c image steps counts status
  pub lengths : List ℕ
  pub taken : AreQueueLines format.Lines c image steps lengths
  pub is : text ≡ counts ++ lengths

-- This is the table of the lengths. The exit status is that of the lines which count the steps.
pub record IsQueueTable (c : Config) (image : ImageContents) (steps : List Step) (text : List ℕ)
    (status : ℕ) : Type 0 where
  pub counts : List ℕ
  pub counted : AreStatsLines c image steps counts status
  pub table : AreQueueLines format.Csv c image steps text
