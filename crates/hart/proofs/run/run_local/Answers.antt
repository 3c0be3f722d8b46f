use Rattle.std.proofs.Common.{arith, sym, subst}
use Rattle.hart.specs.LocalRuns.{HasTaken}
use Rattle.hart.proofs.Going.{not_gone, gone_on, one_more, ended, full}
use Rattle.hart.proofs.run.run_local.Goals as goal

pub loop-place-init : goal.loop-place-init
loop-place-init c = record { gone = not_gone _ _ _; count = sym c.len-place.ensures.value; few = c.len-place.ensures.few }

pub take_next-requires : goal.take_next-requires
take_next-requires c =
    let at = c.loop-place.invariant in
    let most = at.gone.most in
    omega (arith, at.count, most, c.most-place-end.ensures, c.loop-place-test.true)

pub returns-in-Some : goal.returns-in-Some
returns-in-Some c =
    let at = c.loop-place.invariant in
    let most = at.gone.most in
    ended _ _ _ _ _ _ _ at.gone c.in-Some.end (omega (arith, at.count, most, c.most-place-end.ensures, c.loop-place-test.true))
    (subst (HasTaken _ _ _ _ _) c.in-Some.is c.take_next.ensures)

pub loop-place-preserved : goal.loop-place-preserved
loop-place-preserved c =
    let at = c.loop-place.invariant in
    let goes_on = subst (HasTaken _ _ _ _ _) c.in_default.is c.take_next.ensures in
    let more = one_more _ _ _ _ _ _ _ at.gone goes_on in
    record {
      gone = gone_on _ _ _ _ _ _ _ at.gone goes_on;
      count = omega (arith, at.count, more);
      few = omega (arith, c.most-place-end.ensures, c.loop-place-test.true);
    }

pub returns : goal.returns
returns c =
    let at = c.loop-place.invariant in
    let most = at.gone.most in
    full _ _ _ _ _ at.gone (omega (arith, at.count, at.few, most, c.most-place-end.ensures, c.loop-place-test.false))
