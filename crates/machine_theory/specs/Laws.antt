-- The laws of cores that are away.
use Rattle.std.specs.Prelude.{◌≡◌, ℕ, ◌^◌, ◌<◌, false, List, ◌++◌, length}
use Rattle.machine_ports.specs.flat_machine.declared.config.Config.{Config}
use Rattle.machine_ports.specs.flat_machine.declared.event.Retired as retirement
use Rattle.machine_ports.specs.flat_machine.State.{Processor}
use Rattle.serialization.specs.network_theory.Roles.{Role}
use Rattle.serialization.specs.Steadiness.{Steady}
use Rattle.machine_theory.specs.Theory as theory
use Rattle.machine_theory.specs.Processors.{ObservedCore, program, setting_of, sizes_of}
use Rattle.machine_theory.specs.Steps.{outcome_of, after}
use Rattle.steps.specs.declared.step.Step.{Step}
use Rattle.steps.specs.declared.step.Step.TheVariants as step
use Rattle.steps.specs.declared.step.Outcome.TheVariants as outcome
use Rattle.machine_ports.specs.hart.LocalRuns.{TakesLocal}
use Rattle.machine_theory.specs.Loans.{with_core, with_cores, without, gone_on, IsOfOthers, AreOfOthers}
use Rattle.machine_theory.specs.Loans.{AreOfAllOthers, turns_of, after_all, answers_of, outcomes_of}

-- ---- cores put in a place

-- Of two cores put in one place, the last counts.
abbrev pub LastCoreCounts : Type 0
LastCoreCounts = (M : theory.Machine ObservedCore) (p : ℕ) (first second : ObservedCore) →
    with_core (with_core M p first) p second ≡ with_core M p second

-- A machine is as before if the core that is there already is put in its place.
abbrev pub CoresStayPut : Type 0
CoresStayPut = (M : theory.Machine ObservedCore) (p : ℕ) → with_core M p (M.core p) ≡ M

-- A steady machine is still steady with another core of a processor that has no reference open: no message stands for
-- it.
abbrev pub MachinesStaySteady : Type 0
MachinesStaySteady = (c : Config) (code : List ℕ) (M : theory.Machine ObservedCore) (role : ℕ →
    Role) (p : ℕ) (core : ObservedCore) →
    Steady (sizes_of c) (program c code) M role → M.is_open p ≡ false →
    Steady (sizes_of c) (program c code) (with_core M p core) role

-- ---- steps of others

-- The outcome of a step of others, and what it leaves of all else, do not depend on processor p's core.
abbrev pub OthersDoNotNotice : Type 0
OthersDoNotNotice = (c : Config) (code : List ℕ) (M : theory.Machine ObservedCore) (p : ℕ) (core : ObservedCore)
    (s : Step) → IsOfOthers p s →
    (outcome_of c code (with_core M p core) s ≡ outcome_of c code M s)
    × (after c code (with_core M p core) s ≡ with_core (after c code M s) p core)

-- The same holds of a list of steps of others.
abbrev pub RunsDoNotNotice : Type 0
RunsDoNotNotice = (c : Config) (code : List ℕ) (M : theory.Machine ObservedCore) (p : ℕ) (core : ObservedCore)
    (ss : List Step) → AreOfOthers p ss →
    (answers_of c code (with_core M p core) ss ≡ answers_of c code M ss)
    × (after_all c code (with_core M p core) ss ≡ with_core (after_all c code M ss) p core)

-- The same holds for several cores at once.
abbrev pub RunsDoNotNoticeSeveral : Type 0
RunsDoNotNoticeSeveral =
    (c : Config) (code : List ℕ) (M : theory.Machine ObservedCore) (cores : List (ℕ × ObservedCore)) (ss : List Step) →
    AreOfAllOthers cores ss →
    (answers_of c code (with_cores M cores) ss ≡ answers_of c code M ss)
    × (after_all c code (with_cores M cores) ss ≡ with_cores (after_all c code M ss) cores)

-- Steps of others leave p's core as it is, and leave p open if and only if it was.
abbrev pub CoresAreKept : Type 0
CoresAreKept = (c : Config) (code : List ℕ) (M : theory.Machine ObservedCore) (p : ℕ) (ss : List Step) →
    AreOfOthers p ss →
    ((after_all c code M ss).core p ≡ M.core p) × ((after_all c code M ss).is_open p ≡ M.is_open p)

-- ---- turns of a core that is away, and of one that has come back

-- While a core is away, a turn of its processor stalls, and changes nothing.
abbrev pub AwayCoresRest : Type 0
AwayCoresRest = (c : Config) (code : List ℕ) (M : theory.Machine ObservedCore) (p : ℕ) → M.is_open p ≡ false →
    (outcome_of c code (without M p) (step.Turn p) ≡ outcome.Stalled)
    × (after c code (without M p) (step.Turn p) ≡ without M p)

-- If a processor has no reference open and its next instructions are local, as many of its turns retire them, and leave
-- the core that they leave.
abbrev pub LocalTurnsCatchUp : Type 0
LocalTurnsCatchUp = (c : Config) (code : List ℕ) (M : theory.Machine ObservedCore) (p : ℕ)
    (taken : List retirement.Retired) (last : Processor) →
    p < 2 ^ c.k → M.is_open p ≡ false → TakesLocal (setting_of c p) code (M.core p).state taken last →
    (answers_of c code M (turns_of p (length taken)) ≡ outcomes_of taken)
    × (after_all c code M (turns_of p (length taken)) ≡ with_core M p (gone_on (M.core p) taken last))

-- ---- a loan

-- While the core of a processor without an open reference is away, the machine takes steps, and the core takes
-- instructions. With the core put back, the machine is the one that takes these steps and then the processor's turns,
-- with the same outcomes.
abbrev pub LoansAreRuns : Type 0
LoansAreRuns = (c : Config) (code : List ℕ) (M : theory.Machine ObservedCore) (p : ℕ) (ss : List Step)
    (taken : List retirement.Retired) (last : Processor) →
    p < 2 ^ c.k → M.is_open p ≡ false → AreOfOthers p ss →
    TakesLocal (setting_of c p) code (M.core p).state taken last →
    (after_all c code M (ss ++ turns_of p (length taken))
    ≡ with_core (after_all c code (without M p) ss) p (gone_on (M.core p) taken last))
    × (answers_of c code M (ss ++ turns_of p (length taken)) ≡ answers_of c code (without M p) ss ++ outcomes_of taken)
