-- A machine with another core of one of its processors, or with none.
use Rattle.std.specs.Prelude.{ℕ}
use Rattle.serialization.specs.messages.Places.{put}
use Rattle.machine_theory.specs.Theory as theory
use Rattle.machine_theory.specs.Processors.{ObservedCore, no_processor}

-- the machine with another core of processor p
abbrev pub with_core : {Core : Type 0} → theory.Machine Core → (p : ℕ) → Core → theory.Machine Core
with_core M p core = record { net = M.net; mem = M.mem; core = put M.core p core; is_open = M.is_open }

-- what is read of a core that is away: a processor that does not run, with the events that it had shown
abbrev pub away : ObservedCore → ObservedCore
away g = record { state = no_processor; events = g.events }

-- the machine while the core of processor p is away
abbrev pub without : theory.Machine ObservedCore → (p : ℕ) → theory.Machine ObservedCore
without M p = with_core M p (away (M.core p))
