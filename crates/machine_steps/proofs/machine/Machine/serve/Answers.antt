use Rattle.std.proofs.Common.{refl, arith}
use Rattle.machine_steps.proofs.Handling.{same_by, step_by, serve_unnamed, request_place, serve_there}
use Rattle.machine_steps.proofs.Naming.{taken_unnamed}
use Rattle.machine_steps.proofs.machine.Machine.serve.Goals as goal

pub returns-then-place-len : goal.returns-then-place-len
returns-then-place-len c =
    same_by c.self.view_is (serve_unnamed _ c.self.invariant c.args.m (omega (arith, c.if-place-len.true, c.from-place.ensures, c.len.ensures)))

pub execute-requires-clause-place : goal.execute-requires-clause-place
execute-requires-clause-place c = request_place _ c.self.invariant c.args.m c.from-place.result c.from-place.ensures (let all = c.self.invariant.modules.all in
    omega (arith, all, c.if-place-len.false, c.from-place.ensures, c.len.ensures)) c.index_mut.result.now c.index_mut.ensures.value

pub execute-requires-clause-leader : goal.execute-requires-clause-leader
execute-requires-clause-leader c = taken_unnamed _ c.self.invariant c.args.m

pub invariant_of-self : goal.invariant_of-self
invariant_of-self c = (serve_there _ c.self.invariant c.args.m c.from-place.result c.from-place.ensures (let all = c.self.invariant.modules.all in
    omega (arith, all, c.if-place-len.false, c.from-place.ensures, c.len.ensures)) c.index_mut.result.now c.index_mut.ensures.value c.execute.new.memory
    c.execute.result c.execute.new.network c.execute.ensures.executed c.execute.ensures.full c.execute.ensures.sizes).1

pub returns : goal.returns
returns c = step_by c.self.view_is refl (serve_there _ c.self.invariant c.args.m c.from-place.result c.from-place.ensures
    (let all = c.self.invariant.modules.all in omega (arith, all, c.if-place-len.false, c.from-place.ensures, c.len.ensures)) c.index_mut.result.now
    c.index_mut.ensures.value c.execute.new.memory c.execute.result c.execute.new.network c.execute.ensures.executed c.execute.ensures.full
    c.execute.ensures.sizes).0
