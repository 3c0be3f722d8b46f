use Rattle.std.proofs.Common.{◌≡◌, ◌≤◌, None, replicate, vec_len}
use Rattle.std.specs.Prelude.{vec_capacity}
use Rattle.machine_log.proofs.lending.Lending.new.Given as goal

abbrev pub invariant-loop : goal.invariant-loop
invariant-loop l =
    (l.lent.items ≡ replicate l.counter None) × (vec_len l.lent ≡ l.counter) × (l.count ≤ vec_capacity l.lent) × (l.logged ≡ l.fn.logged)
    × (vec_len l.spares ≡ l.counter) × (l.count ≤ vec_capacity l.spares)
