-- The lines of steps that a machine takes one after another.
use Rattle.std.proofs.Common.{◌≡◌, ℕ, suc, ◌+◌, ◌≤◌, Bool, List, [], ◌∷◌, ◌++◌, length, Option, refl, sym, ap, ap₂, ◌∙◌, arith}
use Rattle.std.proofs.lemmas.List.{length-append}
use Rattle.flat_machine.specs.declared.config.Config.{Config}
use Rattle.machine_steps.specs.omega_network.Networks.{net_of}
use Rattle.steps.specs.declared.step.Step.{Step}
use Rattle.steps.specs.declared.step.Outcome.{Outcome}
use Rattle.machine_views.specs.Subjects.{processors_of, subject_of}
use Rattle.machine_views.specs.Values.{values_of}
use Rattle.machine_steps.specs.machine_theory.Theory as theory
use Rattle.machine_steps.specs.machine_theory.Processors.{ObservedCore, word_at}
use Rattle.machine_steps.specs.machine_theory.Steps.{after, machine_of_parts, outcome_of}
use Rattle.machine_steps.specs.Answers.{AnswersBegin, AnswersGoOn}
use Rattle.machine_steps.specs.Machines.{IsStep, MachineLists, machine_of}
use Rattle.machine_steps.specs.Runs.{IsRun, all_after}
use Rattle.machine_steps.proofs.Lemmas.{outcome_there}
use Rattle.trace_lines.specs.declared.choice.Choice.{Choice}
use Rattle.trace_lines.specs.declared.subject.Subject.{Subject}
use Rattle.trace_lines.specs.declared.values.Values.{Values}
use Rattle.trace_lines.specs.StoryLines.{StoriesGoOn, StoryState, no_lines, story_step, with_line, with_lines}
use Rattle.run_counts.specs.declared.rounds.Begun.{Begun}
use Rattle.run_counts.specs.Rounds.{begun_at, begun_from, none_begun}
use Rattle.trace_commands.specs.Stories.{round_of, story_step_on, story_steps_from, story_steps_of, subject_on, values_on}

-- ---- what is story_step

-- A step that is taken next comes last.
next_step : (rounds : Bool) (c : Config) (code : List ℕ) (r : Begun) (M : theory.Machine ObservedCore) (done : List Step) (s : Step) →
    story_steps_from rounds c code r M (done ++ s ∷ [])
    ≡ story_steps_from rounds c code r M done ++ story_step_on rounds c code (begun_from r done) (all_after c code M done) s ∷ []
unfolding story_steps_from all_after begun_from
next_step rounds c code r M [] s = refl
next_step rounds c code r M (x ∷ done) s =
    ap (λ xs. story_step_on rounds c code r M x ∷ xs) (next_step rounds c code (begun_at r x) (after c code M x) done s)

-- The rounds begun by a step that is taken next are begun last.
pub next_begun : (r : Begun) (done : List Step) (s : Step) → begun_from r (done ++ s ∷ []) ≡ begun_at (begun_from r done) s
unfolding begun_from
next_begun r [] s = refl
next_begun r (x ∷ done) s = next_begun (begun_at r x) done s

-- Before the first step no round is begun.
pub none_at_first : none_begun ≡ begun_from none_begun []
unfolding begun_from
none_at_first = refl

-- A step that is taken next is taken last.
next_after : (c : Config) (code : List ℕ) (M : theory.Machine ObservedCore) (done : List Step) (s : Step) →
    all_after c code M (done ++ s ∷ []) ≡ after c code (all_after c code M done) s
unfolding all_after
next_after c code M [] s = refl
next_after c code M (x ∷ done) s = next_after c code (after c code M x) done s

counted_from : (rounds : Bool) (c : Config) (code : List ℕ) (r : Begun) (M : theory.Machine ObservedCore) (steps : List Step) →
    length (story_steps_from rounds c code r M steps) ≡ length steps
unfolding story_steps_from
counted_from rounds c code r M [] = refl
counted_from rounds c code r M (s ∷ steps) = ap suc (counted_from rounds c code (begun_at r s) (after c code M s) steps)

-- A machine that takes no steps has no story.
pub no_step : (rounds : Bool) (m : MachineLists) → story_steps_of rounds m [] ≡ []
unfolding story_steps_of story_steps_from
no_step rounds m = refl

-- As many steps are story_step as are taken.
pub all_counted : (rounds : Bool) (m : MachineLists) (steps : List Step) → length (story_steps_of rounds m steps) ≡ length steps
unfolding story_steps_of
all_counted rounds m steps = counted_from rounds m.config m.code none_begun (machine_of m (λ p. [])) steps

-- the subject of a step on a machine
abbrev pub subject_at : Config → (code : List ℕ) → MachineLists → Step → Subject
subject_at c code m s = subject_of c code (net_of m.network) (processors_of m) s

-- the values that a step about this word tells on the machine after it
abbrev pub values_at : MachineLists → (word : Option ℕ) → Step → Outcome → Values
values_at m word s o = values_of m.config (net_of m.network) (word_at m.config.k m.modules) word s o

module _ (old m : MachineLists) (done : List Step) (r : IsRun old done m) (s : Step) where
  abbrev M : theory.Machine ObservedCore
  M = all_after old.config old.code (machine_of old (λ p. [])) done

  -- A step is about the same on a machine after a run and on the theory's machine after its steps.
  subject_there : subject_on old.config old.code M s ≡ subject_at m.config m.code m s
  unfolding machine_of_parts
  subject_there =
      ap (λ N. subject_on old.config old.code N s) (sym (r.after (λ p. [])))
      ∙ ap₂ (λ c code. subject_at c code m s) (sym r.config) (sym r.code)

  -- A step tells the same values on the machine after it and on the theory's.
  values_there : (new : MachineLists) → IsRun old (done ++ s ∷ []) new → (word : Option ℕ) (o : Outcome) →
      values_on old.config (after old.config old.code M s) word s o ≡ values_at new word s o
  unfolding machine_of_parts
  values_there new run word o =
      ap (λ N. values_on old.config N word s o)
      (sym (next_after old.config old.code (machine_of old (λ p. [])) done s) ∙ sym (run.after (λ p. [])))
      ∙ ap (λ c. values_of c (net_of new.network) (word_at new.config.k new.modules) word s o) (sym run.config)

  -- A step that a machine takes next comes last in its story, by the machine before it and the machine after it.
  pub one_step_more : (rounds : Bool) (o : Outcome) (new : MachineLists) (b : Begun) → b ≡ begun_from none_begun done →
      o ≡ outcome_of m.config m.code (machine_of m (λ p. [])) s → IsRun old (done ++ s ∷ []) new →
      story_steps_of rounds old (done ++ s ∷ []) ≡ story_steps_of rounds old done
      ++ story_step s o (subject_at m.config m.code m s) (values_at new (subject_at m.config m.code m s).word s o) (round_of rounds b s) ∷ []
  unfolding story_steps_of
  one_step_more rounds o new b begun is run =
      let front = story_steps_from rounds old.config old.code none_begun (machine_of old (λ p. [])) done in
      let N = after old.config old.code M s in
      let here = subject_at m.config m.code m s in
      next_step rounds old.config old.code none_begun (machine_of old (λ p. [])) done s
      ∙ ap₂ (λ out (subject : Subject). front
      ++ story_step s out subject (values_on old.config N subject.word s out) (round_of rounds (begun_from none_begun done) s) ∷ [])
      (outcome_there old m done r s ∙ sym is) subject_there
      ∙ ap₂ (λ values (x : Begun). front ++ story_step s o here values (round_of rounds x s) ∷ []) (values_there new run here.word o) (sym begun)

-- ---- the lines

-- The machine has taken these steps, these are their chosen lines, and these rounds are begun.
pub record IsStorySoFar (choice : Choice) (rounds : Bool) (old : MachineLists) (done : List Step) (m : MachineLists) (lines : StoryState)
    (b : Begun) : Type 0 where
  pub run : IsRun old done m
  pub are : lines ≡ with_lines (no_lines choice) (story_steps_of rounds old done)
  pub begun : b ≡ begun_from none_begun done
  pub few : b.count ≤ length done

-- Before the first step there are no lines and no rounds.
pub at_first : AnswersBegin → (choice : Choice) (rounds : Bool) (m : MachineLists) (lines : StoryState) → lines ≡ no_lines choice →
    IsStorySoFar choice rounds m [] m lines none_begun
at_first begin choice rounds m lines none = record {
  run = (begin m).0;
  are = none ∙ sym (ap (with_lines (no_lines choice)) (no_step rounds m));
  begun = none_at_first;
  few = omega arith;
}

module _ (goes_on : StoriesGoOn) (choice : Choice) (rounds : Bool) (old m : MachineLists) (done : List Step) (lines : StoryState) (b : Begun)
    (t : IsStorySoFar choice rounds old done m lines b) where
  -- The lines number the steps.
  pub numbered : lines.known.number ≡ length done
  numbered =
      ap (λ (l : StoryState). l.known.number) t.are ∙ goes_on.number choice (story_steps_of rounds old done) ∙ all_counted rounds old done

  -- If the machine takes one step more, and its line is added, these are the lines of all steps, with their rounds.
  pub one_more : AnswersGoOn → (s : Step) (o : Outcome) (subject : Subject) (values : Values) (round : Option ℕ) (new : MachineLists) (lines' :
      StoryState) (b' : Begun) → IsStep m s o new → subject ≡ subject_at m.config m.code m s → values ≡ values_at new subject.word s o →
      round ≡ round_of rounds b s → lines' ≡ with_line lines (story_step s o subject values round) → b' ≡ begun_at b s → b'.count ≤ b.count + 1 →
      IsStorySoFar choice rounds old (done ++ s ∷ []) new lines' b'
  one_more go_on s o subject values round new lines' b' is about all its line next one = record {
    run = run;
    are =
        line
        ∙ ap₂ (λ l (x : Subject). with_line l (story_step s o x values round)) t.are about
        ∙ ap₂ (λ v (n : Option ℕ). with_line (with_lines (no_lines choice) (story_steps_of rounds old done)) (story_step s o here v n))
        (all ∙ ap (λ (x : Subject). values_at new x.word s o) about) its
        ∙ sym (goes_on.more (no_lines choice) (story_steps_of rounds old done) (story_step s o here (values_at new here.word s o) (round_of rounds b s)))
        ∙ ap (with_lines (no_lines choice)) (sym (one_step_more old m done t.run s rounds o new b t.begun is.step.outcome run));
    begun = next ∙ ap (λ (x : Begun). begun_at x s) t.begun ∙ sym (next_begun none_begun done s);
    few = (let before = t.few in let all_of = length-append done (s ∷ []) in omega (arith, before, one, all_of));
  }
    where
      here : Subject
      here = subject_at m.config m.code m s

      run : IsRun old (done ++ s ∷ []) new
      run = (go_on old m new done s o t.run is).0
