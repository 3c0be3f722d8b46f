use Rattle.serialization.specs.Draining.{drain_bound}
use Rattle.serialization.proofs.Draining.{bound, distances_are, drain_is}
use Rattle.serialization.proofs.Drained.{drain_ends, drain_is_short, idle_names_none}
use Rattle.serialization.proofs.machine_laws.drain.Goals as goal

pub returns-clause-distances : goal.returns-clause-distances
returns-clause-distances row c z P M role ok = distances_are z P M role ok

pub returns-clause-bounded : goal.returns-clause-bounded
returns-clause-bounded row c z P M role f ok d = bound z P M role ok f d

pub returns-clause-next : goal.returns-clause-next
returns-clause-next row c z P M role ok room = drain_is z P M role ok room

pub returns-clause-none : goal.returns-clause-none
returns-clause-none row c z P M role ok no_open = idle_names_none z P M role ok no_open

pub returns-clause-end : goal.returns-clause-end
returns-clause-end row c z P M role ok room = (λ p l. drain_ends z P M role ok room p, drain_is_short z P (drain_bound z) M)
