use Rattle.std.proofs.Common.{◌+◌, ◌/◌, ◌^◌, subst, arith}
use Rattle.std.specs.Int.{trailing_zeros, w64}
use Rattle.omega_wires.specs.Members.{HasNoneIn, IsFirst, members}
use Rattle.omega_wires.proofs.First.{first_of_rest, none_of_rest}
use Rattle.omega_wires.proofs.wire_set.WireSet.first_from.Goals as goal

pub returns-then-wire-ge64-clause-none : goal.returns-then-wire-ge64-clause-none
returns-then-wire-ge64-clause-none c none w behind few = absurd (omega (arith, behind, few, c.if-wire-ge64.true))

pub returns-then-rest-eq0-clause-none : goal.returns-then-rest-eq0-clause-none
returns-then-rest-eq0-clause-none c none =
    subst (λ s. HasNoneIn (members s) c.args.wire 64) c.self.view_is (none_of_rest c.self.inside.bits c.args.wire c.self.invariant c.if-rest-eq0.true)

pub returns-clause-first : goal.returns-clause-first
returns-clause-first c = subst (λ s. IsFirst (members s) c.args.wire (c.args.wire + trailing_zeros w64 (c.self.inside.bits / 2 ^ c.args.wire))) c.self.view_is
    (first_of_rest c.self.inside.bits c.args.wire c.self.invariant c.if-rest-eq0.false)
