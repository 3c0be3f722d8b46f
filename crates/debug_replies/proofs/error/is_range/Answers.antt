use Rattle.std.proofs.Common.{◌≡◌, ◌+◌, ◌∙◌, arith, sym, refl, nat_le, true}
use Rattle.std.proofs.lemmas.Bool.{le-leb}
use Rattle.machine_steps.specs.Runs.{flat_state}
use Rattle.debug_replies.proofs.Ranges.{one_is_not}
use Rattle.debug_replies.specs.Errors.{is_range}
use Rattle.debug_replies.proofs.error.is_range.Goals as goal

pub returns-then-not-is_reached : goal.returns-then-not-is_reached
unfolding is_range
returns-then-not-is_reached c =
    let below : nat_le (c.args.address + c.args.count) 4294967296 ≡ true = le-leb _ _ (omega (arith, c.if-from.false, c.from.ensures, c.from-2.ensures)) in
    let none = one_is_not (flat_state c.args.machine.now) c.args.writes c.args.address c.loop-i.i c.args.count c.loop-i-test.true
    (sym c.is_reached.ensures ∙ c.if-not-is_reached.true) in
    rw (below, none) refl

pub returns : goal.returns
unfolding is_range
returns c =
    let all : c.loop-i.i ≡ c.args.count = omega (arith, c.loop-i-test.false, c.loop-i.auto.i-end) in
    let below : nat_le (c.args.address + c.args.count) 4294967296 ≡ true = le-leb _ _ (omega (arith, c.if-from.false, c.from.ensures, c.from-2.ensures)) in
    rw (below, sym all) (sym c.loop-i.invariant)
