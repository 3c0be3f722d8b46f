-- The longest queues of the network during a run.
use Rattle.std.specs.Prelude.{◌≡◌, ◌≤◌, ◌<◌, ◌^◌, ℕ, zero, suc, List, [], length, max, nat_lt, take, if◌then◌else◌}
use Rattle.machine_steps.specs.messages.Network.{Net}
use Rattle.run_counts.specs.Longest.{at_stage, with_longest}
use Rattle.run_counts.specs.declared.longest.Held.{Held}
use Rattle.run_counts.specs.declared.longest.Held.TheVariants.{Requests, Records, Replies}
use Rattle.run_counts.specs.declared.longest.Longest.{Longest}
use Rattle.steps.specs.declared.step.Step.{Step}
use Rattle.steps.specs.declared.step.Step.TheVariants as step
use Rattle.machine_steps.specs.Machines.{MachineLists, machine_of}
use Rattle.machine_steps.specs.Runs.{all_after}

-- how many messages or records are at a wire of a stage: requests and records in the queue and the wait buffer of the
-- output after the stage, replies in the queue of the input before it
abbrev pub count_of : Held → Net → (stage wire : ℕ) → ℕ
count_of Requests net s w = length (net.requests (suc s) w)
count_of Records net s w = length (net.records s w)
count_of Replies net s w = length (net.replies s w)

-- the network after these steps
abbrev pub net_after : (opening : MachineLists) → (steps : List Step) → Net
net_after m steps = (all_after m.config m.code (machine_of m (λ p. [])) steps).net

-- After some number of the steps, from none to all, one wire of the stage has this count.
pub record IsMet (opening : MachineLists) (steps : List Step) (held : Held) (stage most : ℕ) : Type 0 where
  pub passed : ℕ
  pub there : passed ≤ length steps
  pub wire : ℕ
  pub small : wire < 2 ^ opening.config.k
  pub is : count_of held (net_after opening (take passed steps)) stage wire ≡ most

-- This is the greatest count at a wire of the stage, after any number of the steps.
pub record IsMost (opening : MachineLists) (steps : List Step) (held : Held) (stage most : ℕ) : Type 0 where
  pub bound : (passed : ℕ) → passed ≤ length steps → (w : ℕ) → w < 2 ^ opening.config.k →
      count_of held (net_after opening (take passed steps)) stage w ≤ most
  pub met : IsMet opening steps held stage most

-- These are the greatest counts of requests, records and replies at each stage.
abbrev pub AreLongest : (opening : MachineLists) → (steps : List Step) → Longest → Type 0
AreLongest m steps t = (held : Held) (s : ℕ) → s < m.config.k → IsMost m steps held s (at_stage t held s)

-- ---- the longest queues, step by step

-- the maximum of a number and of the counts at the first wires
abbrev pub most_of : (number : ℕ → ℕ) → (wires before : ℕ) → ℕ
most_of number zero before = before
most_of number (suc w) before = max (most_of number w before) (number w)

-- the longest queues, with the number of one stage raised to the counts of the network now
abbrev pub raised : (k : ℕ) → Net → Held → (stage : ℕ) → Longest → Longest
raised k net held s t = if nat_lt s k
    then with_longest t held s (most_of (count_of held net s) (2 ^ k) (at_stage t held s)) else t

-- the longest queues after a step, given the network after it: a request's move can add requests or records at its
-- stage, and a reply's move can add replies
abbrev pub longest_after : (k : ℕ) → Net → Step → Longest → Longest
longest_after k net (step.Up s w) t = raised k net Records s (raised k net Requests s t)
longest_after k net (step.Down s w) t = raised k net Replies s t
longest_after k net _ t = t
