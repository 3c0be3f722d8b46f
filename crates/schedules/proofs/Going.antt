-- A round advances: by a step asked for, by steps skipped, and from part to part.
use Rattle.std.proofs.Common.{◌≡◌, ℕ, ◌+◌, ◌*◌, ◌^◌, ◌<◌, ◌≤◌, ◌⊎◌, Bool, true, false, length, take, Option, Some, None, refl, sym, ap, ◌∙◌, subst, arith}
use Rattle.flat_machine.specs.declared.config.Config.{Config}
use Rattle.steps.specs.declared.step.Step.{Step}
use Rattle.steps.specs.declared.step.Outcome.{Outcome}
use Rattle.std.specs.Prelude.{slice_get}
use Rattle.machine_steps.specs.Machines.{MachineLists, IsMachine}
use Rattle.machine_steps.specs.Runs.{IsReplay}
use Rattle.machine_log.specs.Logs.{Log, HasTaken}
use Rattle.schedules.specs.Rounds.{round}
use Rattle.schedules.specs.Skips.{AreQuiet, IsNext}
use Rattle.machine_steps.specs.Standing.{HasRunning}
use Rattle.schedules.specs.Sweeps.{HasGone, IsFault, IsInRound, IsStop, WasAskedRound, entered_of}
use Rattle.schedules.proofs.Asking.{at_most_one, longer, none_asked, one_asked}
use Rattle.schedules.proofs.Ending.{IsUnder, first_begins, none_faulted, runs_after}
use Rattle.steps.specs.Kinds.{is_poke}
use Rattle.schedules.proofs.NoPoke.{step_of_round}
use Rattle.schedules.proofs.RoundEnds.{full_round, round_over, step_first, step_over, step_under, whole_round}
use Rattle.std.proofs.Math.Nat.{mul-le-mul_right}
use Rattle.schedules.proofs.Places.{round_length}
use Rattle.schedules.proofs.Rows.{row_ends}
use Rattle.schedules.proofs.Skipping.{next_is_asked, skipped_to}

under_of : (limit : ℕ) (start : Log) (i : ℕ) (l : Log) → IsInRound limit start i l → IsUnder start.opening (length start.steps) l.steps
under_of limit start i l b = record { running = b.running; sound = b.sound }

size_of : (limit : ℕ) (start : Log) (i : ℕ) (l : Log) → IsInRound limit start i l → l.machine.config.k ≡ start.machine.config.k
size_of limit start i l b = ap (λ (d : Config). d.k) b.config

-- ---- a step asked for

module _ (limit : ℕ) (start l new : Log) (i j : ℕ) (s : Step) (o : Outcome) (b : IsInRound limit start i l) (n : IsNext l.machine i s j)
    (taken : HasTaken l s o new) (replayed : IsReplay new.opening new.steps new.machine) (inside : length l.steps < limit) where
  own : is_poke s ≡ false
  own = step_of_round l.machine.config.k n.place s n.there

  asked : new.steps ≡ entered_of start.opening start.steps (take j (round start.machine.config.k))
  asked = next_is_asked start l b.opening (size_of limit start i l b) b.replay i j s new.steps n b.steps (one_asked l new s o b.replay taken)

  few : length new.steps ≤ limit
  few = let one = at_most_one l.steps new.steps s o taken.steps in omega (arith, one, inside)

  -- If the step is not a fault, and stops no processor or leaves one running, the round goes on at the next place.
  pub step_goes_on : (IsFault o → ⊥) × ((IsStop o → ⊥) ⊎ HasRunning new.machine) → IsInRound limit start j new
  step_goes_on plain =
      let under = step_under start l new s o b.opening b.replay own taken (under_of limit start i l b) replayed plain in
      record {
        opening = taken.opening ∙ b.opening;
        config = taken.step.config ∙ b.config;
        replay = replayed;
        steps = asked;
        few = few;
        first = step_first start l new s o b.opening b.replay own taken (under_of limit start i l b) b.first;
        running = under.running;
        sound = under.sound;
      }

  -- If the step is a fault, or leaves no processor running, the round ends there, and the sweep is over.
  pub step_ends : IsFault o ⊎ (HasRunning new.machine → ⊥) → WasAskedRound limit start true new
  step_ends over =
      round_over limit start new j (taken.opening ∙ b.opening) replayed asked few
      (step_first start l new s o b.opening b.replay own taken (under_of limit start i l b) b.first) true refl
      (step_over start l new s o b.opening b.replay own taken (under_of limit start i l b) replayed
      (subst (λ xs. length start.steps ≤ length xs) (sym b.steps) (longer start.opening start.steps (take i (round start.machine.config.k)))) over)

-- ---- steps skipped

pub quiet_goes_on : (limit : ℕ) (start l : Log) (i j : ℕ) → IsInRound limit start i l → i ≤ j → j ≤ length (round start.machine.config.k) →
    AreQuiet l.machine i j → IsInRound limit start j l
quiet_goes_on limit start l i j b ahead within quiet = record {
  opening = b.opening;
  config = b.config;
  replay = b.replay;
  steps = skipped_to start l b.opening (size_of limit start i l b) b.replay i j ahead within quiet b.steps;
  few = b.few;
  first = b.first;
  running = b.running;
  sound = b.sound;
}

-- If there is no room, the round ends.
pub full_ends : (limit : ℕ) (start l : Log) (i : ℕ) → IsInRound limit start i l → length start.steps < limit → limit ≤ length l.steps →
    WasAskedRound limit start false l
full_ends limit start l i b room full =
    full_round limit start l i b.opening b.replay b.steps b.few b.first (under_of limit start i l b) false refl room full

-- ---- a row

-- The wire found is in the row, and the steps from a wire up to it stall.
abbrev IsFound : (number : ℕ → ℕ) → MachineLists → (k wire next : ℕ) → Type 0
IsFound number m k wire next = (wire ≤ next) × (next < 2 ^ k) × AreQuiet m (number k * 2 ^ k + wire) (number k * 2 ^ k + next)

-- The step at that wire is the next one of the round.
pub row_step : (number : ℕ → ℕ) (seen m : MachineLists) (k wire next : ℕ) (s : Step) → seen ≡ m → m.config.k ≡ k →
    IsFound number seen seen.config.k wire next → (next < 2 ^ k → slice_get (round k) (number k * 2 ^ k + next) ≡ Some s) →
    (next < 2 ^ k) × IsNext m (number k * 2 ^ k + wire) s (number k * 2 ^ k + (next + 1))
row_step number seen m k wire next s same size first there =
    let found : IsFound number m k wire next = subst (λ n. IsFound number m n wire next) size
    (subst (λ (x : MachineLists). IsFound number x x.config.k wire next) same first) in
    let ahead = found.0 in (
      found.1,
      record {
        place = number k * 2 ^ k + next;
        there = subst (λ n. slice_get (round n) (number k * 2 ^ k + next) ≡ Some s) (sym size) (there found.1);
        reached = omega (arith, ahead);
        next = omega arith;
        quiet = found.2;
      },
    )

-- If the steps of a row from a wire on stall on the machine seen, they stall on the machine.
pub quiet_here : (number : ℕ → ℕ) (seen m : MachineLists) (k wire : ℕ) → seen ≡ m → m.config.k ≡ k →
    AreQuiet seen (number seen.config.k * 2 ^ seen.config.k + wire) ((number seen.config.k + 1) * 2 ^ seen.config.k) →
    AreQuiet m (number k * 2 ^ k + wire) ((number k + 1) * 2 ^ k)
quiet_here number seen m k wire same size quiet =
    subst (λ n. AreQuiet m (number n * 2 ^ n + wire) ((number n + 1) * 2 ^ n)) size
    (subst (λ (x : MachineLists). AreQuiet x (number x.config.k * 2 ^ x.config.k + wire) ((number x.config.k + 1) * 2 ^ x.config.k)) same quiet)

row_is_within : (k number : ℕ) → k ≤ 6 → number < 2 * k + 2 → (number + 1) * 2 ^ k ≤ length (round k)
row_is_within k number few less =
    let most : (number + 1) * 2 ^ k ≤ (2 * k + 2) * 2 ^ k = mul-le-mul_right (2 ^ k) (omega (arith, less)) in
    let all = round_length k few in
    omega (arith, most, all)

-- If the rest of a row stalls, the round advances to the next row.
pub row_goes_on : (limit k number wire : ℕ) (start l : Log) → k ≤ 6 → number < 2 * k + 2 → wire ≤ 2 ^ k → l.machine.config.k ≡ k →
    IsInRound limit start (number * 2 ^ k + wire) l → AreQuiet l.machine (number * 2 ^ k + wire) ((number + 1) * 2 ^ k) →
    IsInRound limit start ((number + 1) * 2 ^ k) l
row_goes_on limit k number wire start l few less within size b quiet =
    quiet_goes_on limit start l (number * 2 ^ k + wire) ((number + 1) * 2 ^ k) b (let end = row_ends number (2 ^ k) in omega (arith, end, within))
    (subst (λ n. (number + 1) * 2 ^ k ≤ length (round n)) (sym size ∙ size_of limit start (number * 2 ^ k + wire) l b) (row_is_within k number few less))
    quiet

-- ---- from part to part

-- A round whose log does not change has advanced from a place to itself.
pub gone_nowhere : (limit i : ℕ) (l : Log) → HasGone limit i i l None l
gone_nowhere limit i l = record { config = refl; on = λ e start b. b; ended = λ is_over e start room b. absurd (cc) }

-- A round that has advanced from one place to another, and from there to a third, has advanced from the first to the third.
pub gone_on : (limit i j k : ℕ) (old mid new : Log) (end : Option Bool) → HasGone limit i j old None mid → HasGone limit j k mid end new →
    HasGone limit i k old end new
gone_on limit i j k old mid new end first second = record {
  config = second.config ∙ first.config;
  on = λ e start b. second.on e start (first.on refl start b);
  ended = λ is_over e start room b. second.ended is_over e start room (first.on refl start b);
}

-- Advances from i to j and from i' to j' are the same if the places are.
pub gone_at : {limit i j i' j' : ℕ} {old new : Log} {end : Option Bool} → HasGone limit i j old end new → i ≡ i' → j ≡ j' → HasGone limit i' j' old end new
gone_at {limit} {i} {j} {i'} {j'} {old} {new} {end} gone same same' =
    subst (λ n. HasGone limit n j' old end new) same (subst (λ n. HasGone limit i n old end new) same' gone)

-- A round that has ended has ended, whatever place it was to reach.
pub ended_before : {limit i j j' : ℕ} {old new : Log} {is_over : Bool} → HasGone limit i j old (Some is_over) new → HasGone limit i j' old (Some is_over) new
ended_before gone = record { config = gone.config; on = λ e. absurd (cc); ended = gone.ended }

abbrev pub stages_of : Log → ℕ
stages_of l = l.machine.config.k

-- A machine seen has as many stages as its own configuration says.
pub same_stages : {d : Config} {m n : MachineLists} → d ≡ m.config → m ≡ n → d.k ≡ n.config.k
same_stages config machine = ap (λ (d : Config). d.k) (config ∙ ap (λ (m : MachineLists). m.config) machine)

-- A round advances from where it is, on a machine with the same number of stages.
pub then_gone : (limit i : ℕ) (from to : ℕ → ℕ) (old l new : Log) (end : Option Bool) → HasGone limit i (from (stages_of old)) old None l →
    HasGone limit (from (stages_of l)) (to (stages_of l)) l end new → HasGone limit i (to (stages_of old)) old end new
then_gone limit i from to old l new end before gone =
    let k = stages_of old in
    gone_on limit i (from k) (to k) old l new end before
    (subst (λ n. HasGone limit (from n) (to n) l end new) (ap (λ (d : Config). d.k) before.config) gone)

-- A round advances by one row.
pub row_gone : (limit from row number : ℕ) (old l new : Log) (end : Option Bool) → number ≡ row → HasGone limit from (row * 2 ^ stages_of old) old None l →
    HasGone limit (number * 2 ^ stages_of l) ((number + 1) * 2 ^ stages_of l) l end new → HasGone limit from ((row + 1) * 2 ^ stages_of old) old end new
row_gone limit from row number old l new end same before gone =
    then_gone limit from (λ n. row * 2 ^ n) (λ n. (row + 1) * 2 ^ n) old l new end before
    (subst (λ r. HasGone limit (r * 2 ^ stages_of l) ((r + 1) * 2 ^ stages_of l) l end new) same gone)

-- ---- a whole round

module _ (limit : ℕ) (old new : Log) (room : length old.steps < limit) (is : IsMachine old.machine) (running : HasRunning old.machine)
    (replay : IsReplay old.opening old.steps old.machine) where
  begins : IsInRound limit old 0 old
  begins = record {
    opening = refl;
    config = refl;
    replay = replay;
    steps = none_asked old.opening old.steps;
    few = omega (arith, room);
    first = first_begins old.opening (length old.steps) old.steps (omega arith);
    running = runs_after old.opening old.machine old.steps replay running;
    sound = none_faulted old.opening (length old.steps) old.steps (omega arith);
  }

  -- A round that has ended was asked for, and the sweep is over if the end says so.
  pub round_ends : (to : ℕ) (end : Option Bool) (is_over : Bool) → HasGone limit 0 to old end new → end ≡ Some is_over → WasAskedRound limit old is_over new
  round_ends to end is_over gone e = gone.ended is_over e old room begins

  -- A round that has reached its last place was asked for, and the sweep is not over.
  pub round_is_through : (to : ℕ) → HasGone limit 0 to old None new → length (round old.machine.config.k) ≤ to → WasAskedRound limit old false new
  round_is_through to gone all =
      let b = gone.on refl old begins in
      whole_round limit old new to b.opening b.replay b.steps b.few b.first (under_of limit old to new b) false refl is running replay all
