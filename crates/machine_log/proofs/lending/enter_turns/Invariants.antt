use Rattle.std.proofs.Common.{◌≡◌, ◌+◌, ◌++◌, vec_len}
use Rattle.std.specs.Prelude.{vec_capacity}
use Rattle.machine_theory.specs.Loans.{turns_of}
use Rattle.machine_log.proofs.lending.enter_turns.Given as goal

abbrev pub invariant-loop : goal.invariant-loop
invariant-loop l = (l.steps.items ≡ l.fn.steps.items ++ turns_of l.fn.p l.counter) × (vec_capacity l.steps ≡ vec_capacity l.fn.steps)
    × (vec_len l.steps ≡ vec_len l.fn.steps + l.counter)
