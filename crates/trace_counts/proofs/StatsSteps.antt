-- The counts and the longest queues of steps that a machine takes one after another.
use Rattle.std.proofs.Common.{◌≡◌, ℕ, ◌+◌, ◌≤◌, List, [], ◌∷◌, ◌++◌, length, refl, sym, ap, ◌∙◌, subst}
use Rattle.std.proofs.lemmas.List.{length-append}
use Rattle.steps.specs.declared.step.Step.{Step}
use Rattle.steps.specs.declared.step.Outcome.{Outcome}
use Rattle.machine_steps.specs.Machines.{MachineLists, IsStep}
use Rattle.machine_steps.specs.Runs.{IsRun}
use Rattle.steps.specs.Answered.{Answer, answer}
use Rattle.machine_steps.specs.Answers.{AnswersBegin, AnswersGoOn, answers_of}
use Rattle.steps.specs.Groups.{GroupsGoOn, groups_after, groups_of, no_groups}
use Rattle.run_counts.specs.Counting.{NotesGoOn, observe, noted_of, size_of}
use Rattle.run_counts.specs.Counts.{AreCounts, CountsGoOn, CountsState, counts_after, no_counts}
use Rattle.run_counts.specs.Longest.{no_longest}
use Rattle.run_counts.specs.declared.longest.Held.TheVariants.{Requests, Records, Replies}
use Rattle.run_counts.specs.declared.longest.Longest.{Longest}
use Rattle.machine_steps.specs.messages.Network.{IsEmptyNet}
use Rattle.omega_network.specs.Networks.{net_of}
use Rattle.flat_machine.specs.declared.config.Config.{Config}
use Rattle.trace_counts.specs.Longest.{AreLongest, longest_after}
use Rattle.trace_counts.proofs.Passing.{HaveSix, longest_on, none_longest, sizes_on}

-- The machine has taken these steps, the counts are of what they did, the groups are those after them, and these are the longest queues.
pub record AreCounted (old : MachineLists) (done : List Step) (m : MachineLists) (counts : CountsState) (groups : List (List ℕ))
    (longest : Longest) : Type 0 where
  pub run : IsRun old done m
  pub are : AreCounts (noted_of (answers_of old done)) counts
  pub standing : groups ≡ groups_of (answers_of old done)
  pub count : counts.observed ≡ length done
  pub six : HaveSix longest
  pub most : IsEmptyNet (net_of old.network) → AreLongest old done longest

six_zeros : HaveSix no_longest
six_zeros Requests = refl
six_zeros Records = refl
six_zeros Replies = refl

-- Before the first step, counts of zero, no groups and longest queues of length 0 are those of the steps taken.
pub none_counted : AnswersBegin → GroupsGoOn → NotesGoOn → CountsGoOn → (m : MachineLists) (counts : CountsState) (groups : List (List ℕ))
    (longest : Longest) → counts ≡ no_counts → groups ≡ no_groups → longest ≡ no_longest → m.config.k ≤ 6 → AreCounted m [] m counts groups longest
none_counted begin grouped observed counted m counts groups longest none empty short few =
    let nothing : noted_of (answers_of m []) ≡ [] = ap noted_of (begin m).1 ∙ observed.none in
    record {
      run = (begin m).0;
      are = subst (λ xs. AreCounts xs counts) (sym nothing) (subst (λ t. AreCounts [] t) (sym none) counted.none);
      standing = empty ∙ sym (ap groups_of (begin m).1 ∙ grouped.none);
      count = ap (λ (t : CountsState). t.observed) none;
      six = subst HaveSix (sym short) six_zeros;
      most = λ nothing. subst (AreLongest m []) (sym short) (none_longest m few nothing);
    }

module _ (go_on : AnswersGoOn) (grouped : GroupsGoOn) (observed : NotesGoOn) (counted : CountsGoOn) (old : MachineLists) (done : List Step)
    (m : MachineLists) (counts : CountsState) (groups : List (List ℕ)) (longest : Longest) (t : AreCounted old done m counts groups longest)
    (few : old.config.k ≤ 6) where
  -- If the machine takes one step more, and it is counted, all counts are those of all steps taken.
  pub one_counted : (s : Step) (o : Outcome) (size : ℕ) (new : MachineLists) (counts' : CountsState) (groups' : List (List ℕ)) (longest' : Longest) →
      IsStep m s o new → size ≡ size_of groups o → counts' ≡ counts_after counts (observe s o size) → groups' ≡ groups_after groups s o →
      longest' ≡ longest_after new.config.k (net_of new.network) s longest → AreCounted old (done ++ s ∷ []) new counts' groups' longest'
  one_counted s o size new counts' groups' longest' is sized count more looked =
      let contents_are : List Answer = answers_of old done in
      let next = go_on old m new done s o t.run is in
      let here : observe s o (size_of (groups_of contents_are) o)
      ≡ observe s o size = ap (λ n. observe s o n) (sym (sized ∙ ap (λ gs. size_of gs o) t.standing)) in
      let all : noted_of (answers_of old (done ++ s ∷ [])) ≡ noted_of contents_are ++ observe s o size ∷ [] =
      ap noted_of next.1 ∙ observed.more contents_are (answer s o) ∙ ap (λ x. noted_of contents_are ++ x ∷ []) here in
      record {
        run = next.0;
        are = subst (λ xs. AreCounts xs counts') (sym all)
            (subst (λ u. AreCounts (noted_of contents_are ++ observe s o size ∷ []) u) (sym count)
            (counted.more (noted_of contents_are) counts (observe s o size) t.are));
        standing = more ∙ ap (λ gs. groups_after gs s o) t.standing ∙ sym (ap groups_of next.1 ∙ grouped.more contents_are (answer s o));
        count = ap (λ (u : CountsState). u.observed) count ∙ ap (λ n. n + 1) t.count ∙ sym (length-append done (s ∷ []));
        six = subst HaveSix (sym same) (sizes_on old m new done o t.run few longest t.six s);
        most = λ nothing. subst (AreLongest old (done ++ s ∷ [])) (sym same) (longest_on old m new done o t.run few longest t.six (t.most nothing) s is next.0);
      }
    where
      same : longest' ≡ longest_after old.config.k (net_of new.network) s longest
      same = looked ∙ ap (λ (c : Config). longest_after c.k (net_of new.network) s longest) (go_on old m new done s o t.run is).0.config
