-- The definitions of the serial order, with the entries of the flat machine.
use Rattle.std.specs.Prelude.{ℕ, List}
use Rattle.machine_ports.specs.flat_machine.declared.poke.Entry.{Entry}
use Rattle.serialization.specs.Order as order
use Rattle.machine_theory.specs.Theory.{Outcome, Result, entries}

abbrev pub group_after : (ℕ → List ℕ) → Outcome → ℕ → List ℕ
group_after group o = order.group_after group o

abbrev pub Passed : Type 0 → Type 0
Passed Core = order.Passed Core Entry

abbrev pub segment : (ℕ → List ℕ) → Outcome → List Entry
segment group o = order.segment entries group o

abbrev pub passed_by : {Core : Type 0} → Passed Core → Result Core → Passed Core
passed_by h r = order.passed_by entries h r
