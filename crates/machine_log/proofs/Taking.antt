-- Steps that are taken and entered, one after another.
use Rattle.std.proofs.Common.{◌≡◌, ℕ, ◌+◌, ◌≤◌, Bool, true, false, List, [], ◌∷◌, ◌++◌, length, refl, sym, ap, ◌∙◌, subst, arith}
use Rattle.std.specs.Prelude.{min, map, if◌then◌else◌}
use Rattle.std.proofs.lemmas.Bool.{true≢false}
use Rattle.std.proofs.lemmas.List.{length-append, append-nil, append_assoc, map-append}
use Rattle.flat_machine.specs.declared.event.Event.{Event}
use Rattle.flat_machine.specs.declared.poke.Poke.{Poke}
use Rattle.flat_machine.specs.declared.poke.Entry.{Entry}
use Rattle.flat_machine.specs.declared.poke.Entry.TheVariants as entry
use Rattle.flat_machine.specs.State.{FlatState}
use Rattle.flat_machine.specs.Flat.{flat_step, flat_run}
use Rattle.steps.specs.declared.step.Step.{Step}
use Rattle.steps.specs.declared.step.Step.TheVariants as step
use Rattle.steps.specs.declared.step.Outcome.{Outcome}
use Rattle.steps.specs.declared.step.Outcome.TheVariants.{Poked, Stalled}
use Rattle.steps.specs.Answers.{is_stalled}
use Rattle.machine_steps.specs.Machines.{MachineLists, machine_of, AreHome, IsIdle, IsMachine, IsStep}
use Rattle.machine_theory.specs.Processors.{is_lawful_poke}
use Rattle.machine_steps.specs.Runs.{flat_state, IsReplay}
use Rattle.machine_steps.specs.Whole.{IsPoked}
use Rattle.machine_steps.proofs.Lemmas.{replay_begins, replay_joined, replay_kept, replay_more, run_home, stalled_is}
use Rattle.machine_log.specs.Logs.{Log, entered, IsWellFormed, IsEntered, ArePoked, places_of}

-- ---- stalls

-- An outcome that is not stalled is not `Stalled`.
pub moving_is : (o : Outcome) → is_stalled o ≡ false → o ≡ Stalled → ⊥
moving_is o moves e = true≢false (sym (ap is_stalled e) ∙ moves)

-- A step that does not stall is entered.
pub entered_moving : (steps : List Step) (s : Step) (o : Outcome) → (o ≡ Stalled → ⊥) → entered steps s o ≡ steps ++ s ∷ []
entered_moving steps s o moves = by (is_stalled o) refl
  where
    by : (b : Bool) → is_stalled o ≡ b → (if b then steps else steps ++ s ∷ []) ≡ steps ++ s ∷ []
    by true e = absurd (moves (stalled_is o e))
    by false e = refl

-- A step that stalls is not entered.
pub entered_stalled : (steps : List Step) (s : Step) (o : Outcome) → is_stalled o ≡ true → entered steps s o ≡ steps
entered_stalled steps s o stalls = ap (λ b. if b then steps else steps ++ s ∷ []) stalls

-- ---- one step, and one after another

pub entered_none : (m : MachineLists) (steps : List Step) (most : ℕ) → IsMachine m → IsEntered m steps most m steps
entered_none m steps most is = record { sound = is; more = []; is = sym (append-nil steps); count = omega arith; replay = λ opening r. r }

-- A step that a machine takes enters at most one step: none if it stalls.
pub entered_one : (m new : MachineLists) (steps : List Step) (s : Step) (o : Outcome) → IsMachine new → IsStep m s o new →
    (o ≡ Stalled → (shown : ℕ → List Event) → machine_of new shown ≡ machine_of m shown) →
    IsEntered m steps 1 new (entered steps s o)
entered_one m new steps s o is st kept = by (is_stalled o) refl
  where
    by : (b : Bool) → is_stalled o ≡ b → IsEntered m steps 1 new (if b then steps else steps ++ s ∷ [])
    by true e = record {
      sound = is;
      more = [];
      is = sym (append-nil steps);
      count = omega arith;
      replay = λ opening r. replay_kept opening m new steps s o r st (kept (stalled_is o e));
    }
    by false e =
        record { sound = is; more = s ∷ []; is = refl; count = omega arith; replay = λ opening r. replay_more opening m new steps s o r st (moving_is o e) }

pub entered_join : (m0 m1 m2 : MachineLists) (steps0 steps1 steps2 : List Step) (a b most : ℕ) → IsEntered m0 steps0 a m1 steps1 →
    IsEntered m1 steps1 b m2 steps2 → a + b ≤ most → IsEntered m0 steps0 most m2 steps2
entered_join m0 m1 m2 steps0 steps1 steps2 a b most first second few = record {
  sound = second.sound;
  more = first.more ++ second.more;
  is = second.is ∙ ap (λ xs. xs ++ second.more) first.is ∙ append_assoc steps0 first.more second.more;
  count = (let l = length-append first.more second.more in let x = first.count in let y = second.count in omega (arith, l, x, y, few));
  replay = λ opening r. second.replay opening (first.replay opening r);
}

pub entered_most : (m new : MachineLists) (steps steps' : List Step) (a b : ℕ) → IsEntered m steps a new steps' → a ≤ b → IsEntered m steps b new steps'
entered_most m new steps steps' a b e few =
    record { sound = e.sound; more = e.more; is = e.is; count = (let x = e.count in omega (arith, x, few)); replay = e.replay }

-- Steps that a machine has taken one after another, and that end the list, are entered.
pub entered_all : (m new : MachineLists) (steps more steps' : List Step) (most : ℕ) → IsMachine new → steps' ≡ steps ++ more → length more ≤ most →
    IsReplay m more new → IsEntered m steps most new steps'
entered_all m new steps more steps' most is behind few replay = record {
  sound = is;
  more = more;
  is = behind;
  count = few;
  replay = λ opening r. subst (λ xs. IsReplay opening xs new) (sym behind) (replay_joined opening m new steps more r replay);
}

-- Entering at most n steps makes the list at most n longer.
pub entered_length : (m new : MachineLists) (steps steps' : List Step) (most : ℕ) → IsEntered m steps most new steps' → length steps' ≤ length steps + most
entered_length m new steps steps' most e =
    let all : length steps' ≡ length steps + length e.more = ap length e.is ∙ length-append steps e.more in
    let few = e.count in omega (arith, all, few)

-- A new log is well formed.
pub kept_new : (opening m : MachineLists) (steps : List Step) → IsMachine m → IsIdle m → AreHome m → opening ≡ m → steps ≡ [] →
    IsWellFormed (record { opening = opening; steps = steps; machine = m })
kept_new opening m steps is idle home same none =
    subst (λ (o : MachineLists). IsWellFormed (record { opening = o; steps = steps; machine = m })) (sym same)
    (subst (λ xs. IsWellFormed (record { opening = m; steps = xs; machine = m })) (sym none)
    (record { opens = is; idle = idle; home = home; sound = is; replay = replay_begins m; room = omega arith }))

-- A well-formed log is still well formed after steps are entered for which there is room.
pub kept_after : (l : Log) (new : MachineLists) (steps' : List Step) (most : ℕ) → IsWellFormed l → IsEntered l.machine l.steps most new steps' →
    length steps' ≤ 4194304 → IsWellFormed (record { opening = l.opening; steps = steps'; machine = new })
kept_after l new steps' most k e room =
    record { opens = k.opens; idle = k.idle; home = k.home; sound = e.sound; replay = e.replay l.opening k.replay; room = room }

-- No core is away in the machine of a well-formed log.
pub kept_home : (l : Log) → IsWellFormed l → AreHome l.machine
kept_home l k = run_home l.opening l.machine l.steps k.replay.run k.home

-- ---- pokes

flat_more : (F : FlatState) (xs : List Entry) (e : Entry) → flat_run F (xs ++ e ∷ []) ≡ flat_step (flat_run F xs) e
flat_more F [] e = refl
flat_more F (x ∷ xs) e = flat_more (flat_step F x) xs e

-- If no reference is open, a machine that has written no pokes is as it was.
pub poked_none : (m : MachineLists) (steps : List Step) → IsMachine m → IsIdle m → ArePoked m steps [] m steps
poked_none m steps is idle = record { is = sym (append-nil steps); replay = replay_begins m; idle = idle; flat = refl; entered = entered_none m steps 0 is }

module _ (old m new : MachineLists) (steps steps' steps2 : List Step) (done : List Poke) (q : Poke) (o : Outcome) (d : ArePoked old steps done m steps') where
  -- If one more lawful poke is written and entered, the pokes written are those before, followed by this one.
  pub poked_more : is_lawful_poke old.config q ≡ true → IsStep m (step.Poke q) o new → IsPoked m q o new → steps2 ≡ entered steps' (step.Poke q) o →
      IsEntered m steps' 1 new steps2 → ArePoked old steps (done ++ q ∷ []) new steps2
  poked_more lawful st w is e =
      let lawful_here : is_lawful_poke m.config q ≡ true = ap (λ c. is_lawful_poke c q) d.replay.run.config ∙ lawful in
      let does : o ≡ Poked = w.answer ∙ ap (λ b. if b then Poked else Stalled) lawful_here in
      let one : (xs : List Poke) → map step.Poke (xs ++ q ∷ []) ≡ map step.Poke xs ++ step.Poke q ∷ [] = (λ xs. map-append step.Poke xs (q ∷ [])) in
      record {
        is = is ∙ ap (entered steps' (step.Poke q)) does ∙ ap (λ xs. xs ++ step.Poke q ∷ []) d.is ∙ append_assoc steps (map step.Poke done) (step.Poke q ∷ [])
            ∙ ap (λ xs. steps ++ xs) (sym (one done));
        replay =
            subst (λ xs. IsReplay old xs new) (sym (one done))
            (replay_more old m new (map step.Poke done) (step.Poke q) o d.replay st (λ stalls. let no : Poked ≡ Stalled = sym does ∙ stalls in cc));
        idle = w.idle;
        flat =
            w.flat ∙ ap (λ b. if b then flat_step (flat_state m) (entry.Poke q) else flat_state m) lawful_here
            ∙ ap (λ F. flat_step F (entry.Poke q)) d.flat
            ∙ sym (flat_more (flat_state old) (map entry.Poke done) (entry.Poke q))
            ∙ ap (flat_run (flat_state old)) (sym (map-append entry.Poke done (q ∷ [])));
        entered =
            entered_join old m new steps steps' steps2 (length done) 1 (length (done ++ q ∷ [])) d.entered e (let n = length-append done (q ∷ []) in
            omega (arith, n));
      }

-- ---- places

-- Steps that are entered take the places that they need, and leave the others.
pub places_kept : (steps steps' : List Step) (capacity capacity' most : ℕ) → length steps' ≤ length steps + most → most ≤ places_of capacity steps →
    capacity' ≡ capacity →
    length steps ≤ min capacity 4194304 → length steps' + places_of capacity' steps' ≡ length steps + places_of capacity steps
places_kept steps steps' capacity capacity' most few room same within =
    let fits : length steps' ≤ min capacity 4194304 = omega (arith, few, room, within) in
    ap (λ n. length steps' + places_of n steps') same ∙ omega (arith, fits, within)
