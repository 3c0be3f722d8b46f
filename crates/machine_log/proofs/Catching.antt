-- The turns of a core that comes back.
use Rattle.std.proofs.Common.{◌≡◌, ℕ, ◌+◌, ◌^◌, ◌<◌, ◌≤◌, false, List, [], ◌∷◌, ◌++◌, length, map, Option, Some}
use Rattle.std.proofs.Common.{None, ◌⊎◌, inl, inr, refl, sym, ap, ◌∙◌, subst, get_or-set_same, arith}
use Rattle.std.specs.Prelude.{slice_set}
use Rattle.std.proofs.lemmas.Bool.{cases_eq, true≢false}
use Rattle.std.proofs.lemmas.List.{length-append, length-replicate}
use mathlib.Core.Path.{fun_ext}
use Rattle.flat_machine.specs.declared.config.Config.{Config}
use Rattle.flat_machine.specs.declared.event.Event.{Event}
use Rattle.flat_machine.specs.declared.event.Event.TheVariants as event
use Rattle.flat_machine.specs.declared.event.Retired as retirement
use Rattle.flat_machine.specs.declared.setting.Setting.{Setting}
use Rattle.flat_machine.specs.Laws.{AreBelow, HasWords, LeavesWords}
use Rattle.flat_machine.specs.State.{Processor}
use Rattle.flat_machine.proofs.Lemmas.{turn_words}
use Rattle.hart.specs.State.{CoreState}
use Rattle.steps.specs.declared.step.Step.{Step}
use Rattle.steps.specs.declared.step.Step.TheVariants as step
use Rattle.steps.specs.declared.step.Outcome.TheVariants as outcome
use Rattle.machine_steps.specs.messages.Places.{put}
use Rattle.machine_steps.proofs.Lemmas.messages.{put_other, put_same}
use Rattle.machine_steps.proofs.Lemmas.{away_shut, core_put, count_small, home_running, put_is_machine, outcome_there}
use Rattle.machine_steps.specs.machine_ports.Ports.{PortState, is_away}
use Rattle.machine_theory.specs.Theory as theory
use Rattle.machine_theory.specs.Processors.{ObservedCore, no_port, open_at, port_at, setting_of, observed_at}
use Rattle.machine_theory.specs.Steps.{after, machine_of_parts, outcome_of}
use Rattle.machine_steps.specs.Machines.{MachineLists, IsMachine, machine_of, with_core_at}
use Rattle.machine_steps.proofs.Lemmas.machine_ports.{retires_stays}
use Rattle.machine_steps.specs.Laws.{ReplaysAreJoined}
use Rattle.machine_steps.specs.Runs.{NoneStalls, all_after, events_of, IsReplay}
use Rattle.machine_theory.specs.Laws.{LocalTurnsCatchUp}
use Rattle.machine_theory.specs.Loans.{after_all, answers_of, outcomes_of, turns_of, with_core}
use Rattle.hart.specs.LocalRuns.{TakesLocal}
use Rattle.machine_log.specs.Lendings.{AreAnswered, IsLending, lent_at, whole, with_lent, LendingLog}
use Rattle.machine_log.specs.declared.lent.Lent.{Lent}
use Rattle.machine_log.proofs.Backing.{promise_less}
use Rattle.machine_log.proofs.Changing.{IsAway, as_long, back_port, lends_so, whole_set}

-- ---- words stay in range

words_kept : (c : Config) (p : ℕ) (code : List ℕ) (before after : Processor) (taken : List retirement.Retired) → c.k ≤ 6 → p < 2 ^ c.k → AreBelow 256 code →
    HasWords before → TakesLocal (setting_of c p) code before taken after → HasWords after
words_kept c p code before after [] few within bytes words is = subst HasWords (sym is) words
words_kept c p code before after (retired ∷ later) few within bytes words (next, one, more) =
    let small = count_small c.k few in
    let left = subst LeavesWords one.turn (turn_words (setting_of c p) code before (omega (arith, small, within)) (omega (arith, small)) bytes words) in
    words_kept c p code next after later few within bytes left more

-- ---- many steps

all_same : (c : Config) (code : List ℕ) (ss : List Step) (M : theory.Machine ObservedCore) → after_all c code M ss ≡ all_after c code M ss
unfolding all_after theory.machine_after after
all_same c code [] M = refl
all_same c code (s ∷ ss) M = all_same c code ss (after c code M s)

-- Steps that retire instructions do not stall.
none_stalls : (c : Config) (code : List ℕ) (ss : List Step) (M : theory.Machine ObservedCore) (taken : List retirement.Retired) →
    answers_of c code M ss ≡ outcomes_of taken →
    NoneStalls c code M ss
none_stalls c code [] M taken e = tt
none_stalls c code (s ∷ ss) M [] e = absurd (cc)
none_stalls c code (s ∷ ss) M (retired ∷ later) e =
    let first : outcome_of c code M s ≡ outcome.Retired retired = cc in
    let rest : answers_of c code (after c code M s) ss ≡ outcomes_of later = cc in
    ((λ stalls. let no : outcome.Retired retired ≡ outcome.Stalled = sym first ∙ stalls in absurd (cc)), none_stalls c code ss (after c code M s) later rest)

module _ (catches : LocalTurnsCatchUp) (V : MachineLists) (is : IsMachine V) (p : ℕ) (within : p < 2 ^ V.config.k) (shut : open_at V.ports p ≡ false)
    (core : CoreState) (taken : List retirement.Retired)
    (local : TakesLocal (setting_of V.config p) V.code (port_at V.ports p).core.state taken core.state) where
  abbrev turns : List Step
  turns = turns_of p (length taken)

  module _ (shown : ℕ → List Event) where
    abbrev M : theory.Machine ObservedCore
    M = machine_of V shown

    -- the core after the instructions, with their events
    abbrev gone : ObservedCore
    gone = record { state = core.state; events = shown p ++ map event.Retired taken }

    caught : (answers_of V.config V.code M turns ≡ outcomes_of taken) × (after_all V.config V.code M turns ≡ with_core M p gone)
    unfolding machine_of_parts
    caught = catches V.config V.code M p taken core.state within shut local

    after_is : all_after V.config V.code M turns ≡ with_core M p gone
    after_is = sym (all_same V.config V.code turns M) ∙ caught.1

    -- the events shown after the core is put in
    abbrev later : ℕ → List Event
    later = events_of (with_core M p gone)

    stands : (q : ℕ) → (q ≡ p) ⊎ (q ≡ p → ⊥) →
        put {X = ObservedCore} (observed_at V.ports later) p (record { state = core.state; events = later p }) q
        ≡ put {X = ObservedCore} (observed_at V.ports shown) p gone q
    unfolding machine_of_parts
    stands q (inl same) =
        ap (put {X = ObservedCore} (observed_at V.ports later) p (record { state = core.state; events = later p })) same
        ∙ put_same (observed_at V.ports later) p (record { state = core.state; events = later p })
        ∙ ap (λ (g : ObservedCore). record { state = core.state; events = g.events }) (put_same (observed_at V.ports shown) p gone)
        ∙ sym (put_same (observed_at V.ports shown) p gone) ∙ ap (put {X = ObservedCore} (observed_at V.ports shown) p gone) (sym same)
    stands q (inr other) =
        put_other (observed_at V.ports later) p (record { state = core.state; events = later p }) q other
        ∙ ap (λ (g : ObservedCore). record { state = (port_at V.ports q).core.state; events = g.events }) (put_other (observed_at V.ports shown) p gone q other)
        ∙ sym (put_other (observed_at V.ports shown) p gone q other)

    there : machine_of (with_core_at V p core) later ≡ with_core M p gone
    unfolding machine_of_parts
    there = core_put V is p within core later
        ∙ ap (λ (f : ℕ → ObservedCore). record { net = M.net; mem = M.mem; core = f; is_open = M.is_open }) (fun_ext (λ q. stands q (cases_eq q p)))

    pub run_there : machine_of (with_core_at V p core) (events_of (all_after V.config V.code M turns)) ≡ all_after V.config V.code M turns
    run_there = ap (λ (N : theory.Machine ObservedCore). machine_of (with_core_at V p core) (events_of N)) after_is ∙ there ∙ sym after_is

  pub turns_replay : IsReplay V turns (with_core_at V p core)
  turns_replay = record {
    run = record { config = refl; image = refl; code = refl; after = run_there };
    moved = none_stalls V.config V.code turns (machine_of V (λ q. [])) taken (caught (λ q. [])).0;
  }

  pub turns_answered : answers_of V.config V.code (machine_of V (λ q. [])) turns ≡ outcomes_of taken
  turns_answered = (caught (λ q. [])).0

-- ---- one turn after another

module _ (catches : LocalTurnsCatchUp) (joined : ReplaysAreJoined) (opening : MachineLists) where
  pub each_answers : (V : MachineLists) (steps : List Step) (p : ℕ) (setting : Setting) (last : Processor) (taken : List retirement.Retired) → IsMachine V →
      p < 2 ^ V.config.k → open_at V.ports p ≡ false → setting ≡ (port_at V.ports p).core.setting → IsReplay opening steps V →
      TakesLocal (setting_of V.config p) V.code (port_at V.ports p).core.state taken last → AreAnswered opening steps p taken
  each_answers V steps p setting last [] is within shut same replay local = tt
  each_answers V steps p setting last (retired ∷ later) is within shut same replay (next, one, more) =
      let core : CoreState = record { setting = setting; state = next } in
      let first : TakesLocal (setting_of V.config p) V.code (port_at V.ports p).core.state (retired ∷ []) next = (next, one, refl) in
      let fact = turns_answered catches V is p within shut core (retired ∷ []) first in
      let here : outcome_of V.config V.code (machine_of V (λ q. [])) (step.Turn p) ≡ outcome.Retired retired = cc in
      let words = words_kept V.config p V.code (port_at V.ports p).core.state next (retired ∷ []) is.limits.stages within is.code (is.ports.words p) first in
      let runs = home_running V.config V.ports is.ports p one.runs in
      let stays = retires_stays (setting_of V.config p) V.code (port_at V.ports p).core.state next retired one.turn ∙ runs in
      let sound = put_is_machine V is p within core shut same words (λ away. absurd (true≢false (sym away ∙ stays))) in
      let inside = subst (λ n. p < n) (sym is.ports.all) within in
      let there = get_or-set_same V.ports p (record (port_at V.ports p) { core = core }) no_port inside in
      let after = joined opening V (with_core_at V p core) steps (step.Turn p ∷ []) replay
      (turns_replay catches V is p within shut core (retired ∷ []) first) in (
        outcome_there opening V steps replay.run (step.Turn p) ∙ here,
        each_answers (with_core_at V p core) (steps ++ step.Turn p ∷ []) p setting last later sound within
            (ap (λ (x : PortState). x.is_open) there ∙ shut) (ap (λ (x : PortState). x.core.setting) (sym there)) after
            (subst (λ s. TakesLocal (setting_of V.config p) V.code s later last) (ap (λ (x : PortState). x.core.state) (sym there)) more),
      )

-- ---- a core that has come back

-- Processor p's core, which was lent like this, comes back as it is after these instructions.
pub record ComesBack (opening m : MachineLists) (steps : List Step) (capacity : ℕ) (lent : List (Option Lent)) (p : ℕ) (l : Lent) (core : CoreState)
    (taken : List retirement.Retired) : Type 0 where
  pub catches : LocalTurnsCatchUp
  -- a replay followed by a replay is a replay
  pub joined : ReplaysAreJoined
  pub is : IsLending opening m steps capacity lent
  -- the core of p is away, and was lent as l says
  pub away : IsAway m lent p l
  -- the core that comes back has the setting with which it was lent
  pub setting : core.setting ≡ l.core.setting
  pub home : is_away core.state ≡ false
  pub local : TakesLocal l.core.setting m.code l.core.state taken core.state
  -- it has taken no more instructions than were promised
  pub few : length taken ≤ l.most

-- If a call finds the core away, and it has taken these instructions, it comes back.
pub comes_back : {opening m : MachineLists} {steps : List Step} {capacity : ℕ} {lent : List (Option Lent)} {p : ℕ} {l : Lent} {core : CoreState}
    {taken : List retirement.Retired} {x : LendingLog} → LocalTurnsCatchUp → ReplaysAreJoined → IsLending opening m steps capacity lent → IsAway m lent p l →
    record { log = record { opening = opening; steps = steps; machine = whole m lent }; lent = lent } ≡ x → core.setting ≡ l.core.setting →
    is_away core.state ≡ false → TakesLocal l.core.setting x.log.machine.code l.core.state taken core.state → length taken ≤ l.most →
    ComesBack opening m steps capacity lent p l core taken
comes_back {l = l} {core = core} {taken = taken} catches joined is away view setting home local few = record {
  catches = catches;
  joined = joined;
  is = is;
  away = away;
  setting = setting;
  home = home;
  local = subst (λ (y : LendingLog). TakesLocal l.core.setting y.log.machine.code l.core.state taken core.state) (sym view) local;
  few = few;
}

module _ {opening m : MachineLists} {steps : List Step} {capacity : ℕ} {lent : List (Option Lent)} {p : ℕ} {l : Lent} {core : CoreState}
    {taken : List retirement.Retired} (b : ComesBack opening m steps capacity lent p l core taken) where
  abbrev V : MachineLists
  V = whole m lent

  turns' : List Step
  turns' = turns_of p (length taken)

  long : length lent ≡ length m.ports
  long = as_long opening m steps capacity lent b.is p b.away.within core None

  port_is : port_at V.ports p ≡ with_lent (port_at m.ports p) (Some l)
  port_is = back_port m lent p long ∙ ap (with_lent (port_at m.ports p)) b.away.known

  setting_is : l.core.setting ≡ setting_of m.config p
  setting_is = (b.is.away p l b.away.known).setting

  shut : open_at V.ports p ≡ false
  shut = ap (λ (x : PortState). x.is_open) port_is ∙ away_shut m b.is.sound p b.away.within (b.is.away p l b.away.known).away

  local_there : TakesLocal (setting_of m.config p) m.code (port_at V.ports p).core.state taken core.state
  local_there = subst (λ (x : Setting × Processor). TakesLocal x.0 m.code x.1 taken core.state)
      (λ i. (setting_is i, sym (ap (λ (x : PortState). x.core.state) port_is) i)) b.local

  -- The words of the core that comes back are in range.
  pub core_words : HasWords core.state
  core_words = words_kept m.config p m.code l.core.state core.state taken b.is.sound.limits.stages b.away.within b.is.sound.code
      (b.is.away p l b.away.known).words
      (subst (λ s. TakesLocal s m.code l.core.state taken core.state) setting_is b.local)

  -- A turn for each instruction leads the machine with all cores back to the one with this core at p.
  pub back_replay : IsReplay V (turns_of p (length taken)) (with_core_at V p core)
  back_replay = turns_replay b.catches V b.is.kept.sound p b.away.within shut core taken local_there

  -- After the steps of the log, a turn for each instruction retires it.
  pub back_answered : AreAnswered opening steps p taken
  back_answered =
      each_answers b.catches b.joined opening V steps p core.setting core.state taken b.is.kept.sound b.away.within shut
      (b.setting ∙ setting_is ∙ sym (b.is.kept.sound.ports.settings p b.away.within)) b.is.kept.replay local_there

  back_sound : IsMachine (with_core_at V p core)
  back_sound = put_is_machine V b.is.kept.sound p b.away.within core shut (b.setting ∙ setting_is ∙ sym (b.is.kept.sound.ports.settings p b.away.within))
      core_words
      (λ away. absurd (true≢false (sym away ∙ b.home)))

  entered : length (steps ++ turns_of p (length taken)) ≡ length steps + length taken
  entered = length-append steps (turns_of p (length taken)) ∙ ap (λ n. length steps + n) (length-replicate (length taken) _)

  -- If the core is put in, the machine with all cores back has it at p.
  pub whole_returned : (m' : MachineLists) → m' ≡ with_core_at m p core → whole m' (slice_set lent p None) ≡ with_core_at V p core
  whole_returned m' same = ap (λ x. whole x (slice_set lent p None)) same ∙ whole_set m lent long p core None

  -- If the core is put in and a turn is entered for each instruction, the log still lends, with one core less.
  pub returned : (m' : MachineLists) (steps' : List Step) (capacity' : ℕ) → m' ≡ with_core_at m p core → IsMachine m' →
      steps' ≡ steps ++ turns_of p (length taken) → capacity' ≡ capacity → length steps ≤ capacity →
      IsLending opening m' steps' capacity' (slice_set lent p None)
  returned m' steps' capacity' same sound s c fits =
      let less = promise_less lent p l b.away.known in
      let capacity_left = b.is.capacity_left in
      let room = b.is.room in
      let few = b.few in
      let count : length steps' ≡ length steps + length taken = ap length s ∙ entered in
      subst (λ x. IsLending opening x steps' capacity' (slice_set lent p None)) (sym same)
      (lends_so opening m steps capacity lent b.is p b.away.within core None steps' capacity' (subst IsMachine same sound) (record {
        opens = b.is.kept.opens;
        idle = b.is.kept.idle;
        home = b.is.kept.home;
        sound = back_sound;
        replay = subst (λ xs. IsReplay opening xs (with_core_at V p core)) (sym s)
            (b.joined opening V (with_core_at V p core) steps (turns_of p (length taken)) b.is.kept.replay back_replay);
        room = omega (arith, count, less, room, few);
      })
      (λ k f. absurd (cc)) (omega (arith, count, less, capacity_left, few, c, fits)) (omega (arith, count, less, room, few)))
