-- The lengths of queues at the ends of the rounds of steps that a machine takes one after another.
use Rattle.std.proofs.Common.{◌≡◌, ℕ, ◌+◌, ◌≤◌, List, [], ◌∷◌, ◌++◌, length, sym, ap, ap₂, ◌∙◌, append_assoc, arith}
use Rattle.std.proofs.lemmas.List.{append-nil, length-append}
use Rattle.flat_machine.specs.declared.config.Config.{Config}
use Rattle.omega_network.specs.Networks.{net_of}
use Rattle.steps.specs.declared.step.Step.{Step}
use Rattle.steps.specs.declared.step.Outcome.{Outcome}
use Rattle.machine_steps.specs.messages.Network.{Net}
use Rattle.machine_steps.specs.machine_theory.Theory as theory
use Rattle.machine_steps.specs.machine_theory.Processors.{ObservedCore}
use Rattle.machine_steps.specs.machine_theory.Steps.{after}
use Rattle.machine_steps.specs.Answers.{AnswersBegin, AnswersGoOn}
use Rattle.machine_steps.specs.Machines.{IsStep, MachineLists, machine_of}
use Rattle.machine_steps.specs.Runs.{IsRun, all_after}
use Rattle.run_counts.specs.declared.queue_lengths.StageLengths.{StageLengths}
use Rattle.run_counts.specs.declared.rounds.Begun.{Begun}
use Rattle.run_counts.specs.Rounds.{begun_at, begun_from, none_begun}
use Rattle.trace_counts.specs.Longest.{net_after}
use Rattle.trace_counts.specs.QueueLengths.{lengths_at, lengths_before, lengths_between, lengths_between_of, queue_lengths}
use Rattle.trace_counts.proofs.Passing.{stands}
use Rattle.trace_commands.proofs.Lemmas.{next_begun, none_at_first}

-- The round that a step ends, if it is taken next, ends last.
next_lengths : (c : Config) (code : List ℕ) (r : Begun) (M : theory.Machine ObservedCore) (done : List Step) (s : Step) →
    lengths_between c code r M (done ++ s ∷ [])
    ≡ lengths_between c code r M done
    ++ lengths_before c.k (all_after c code M done).net (begun_from r done).count (begun_at (begun_from r done) s).count
unfolding lengths_between all_after begun_from
next_lengths c code r M [] s = append-nil (lengths_before c.k M.net r.count (begun_at r s).count)
next_lengths c code r M (x ∷ done) s =
    let r' = begun_at r x in
    let M' = after c code M x in
    let first = lengths_before c.k M.net r.count r'.count in
    ap (λ (ls : List StageLengths). first ++ ls) (next_lengths c code r' M' done s)
    ∙ sym (append_assoc first (lengths_between c code r' M' done)
    (lengths_before c.k (all_after c code M' done).net (begun_from r' done).count (begun_at (begun_from r' done) s).count))

-- The machine has taken these steps, these rounds are begun, and these are the lengths at the ends of all but the last.
pub record AreLengthsSoFar (old : MachineLists) (done : List Step) (m : MachineLists) (lengths : List StageLengths) (b : Begun) : Type 0 where
  pub run : IsRun old done m
  pub are : lengths ≡ lengths_between_of old done
  pub begun : b ≡ begun_from none_begun done
  pub few : b.count ≤ length done

-- Before the first step no round has ended.
pub none_so_far : AnswersBegin → (m : MachineLists) (lengths : List StageLengths) → lengths ≡ [] → AreLengthsSoFar m [] m lengths none_begun
unfolding lengths_between
none_so_far begin m lengths none = record {
  run = (begin m).0;
  are = none;
  begun = none_at_first;
  few = omega arith;
}

module _ (old m : MachineLists) (done : List Step) (lengths : List StageLengths) (b : Begun) (t : AreLengthsSoFar old done m lengths b) where
  -- the lengths so far
  abbrev so_far : List StageLengths
  so_far = lengths_between_of old done

  -- If the machine takes one step more, and the lengths before it are added if a round ends, these are the lengths of all steps.
  pub one_more_length : AnswersGoOn → (s : Step) (o : Outcome) (new : MachineLists) (lengths' : List StageLengths) (b' : Begun) → IsStep m s o new →
      b' ≡ begun_at b s → b'.count ≤ b.count + 1 → lengths' ≡ lengths ++ lengths_before m.config.k (net_of m.network) b.count b'.count →
      AreLengthsSoFar old (done ++ s ∷ []) new lengths' b'
  one_more_length go_on s o new lengths' b' is next one added = record {
    run = (go_on old m new done s o t.run is).0;
    are =
        added
        ∙ ap₂ (λ (ls : List StageLengths) (c : Config). ls ++ lengths_before c.k (net_of m.network) b.count b'.count) t.are t.run.config
        ∙ ap₂ (λ (net : Net) (n : ℕ). so_far ++ lengths_before old.config.k net b.count n) (sym (stands old m done t.run))
        (ap (λ (x : Begun). x.count) next)
        ∙ ap (λ (x : Begun). so_far ++ lengths_before old.config.k (net_after old done) x.count (begun_at x s).count) t.begun
        ∙ sym (next_lengths old.config old.code none_begun (machine_of old (λ p. [])) done s);
    begun = next ∙ ap (λ (x : Begun). begun_at x s) t.begun ∙ sym (next_begun none_begun done s);
    few = (let before = t.few in let all_of = length-append done (s ∷ []) in omega (arith, before, one, all_of));
  }

  -- With the lengths at the end of the last round these are those at the ends of all rounds.
  pub all_lengths : (lengths' : List StageLengths) → lengths' ≡ lengths ++ lengths_at m.config.k (net_of m.network) b.count m.config.k →
      lengths' ≡ queue_lengths old done
  all_lengths lengths' added =
      added
      ∙ ap₂ (λ (ls : List StageLengths) (c : Config). ls ++ lengths_at c.k (net_of m.network) b.count c.k) t.are t.run.config
      ∙ ap₂ (λ (net : Net) (x : Begun). so_far ++ lengths_at old.config.k net x.count old.config.k) (sym (stands old m done t.run)) t.begun
