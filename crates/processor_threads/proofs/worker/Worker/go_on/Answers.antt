use Rattle.std.proofs.Common.{◌≡◌, ◌≤◌, length, get_or, Some, sym, ◌∙◌, subst, arith}
use Rattle.std.specs.Prelude.{IfOk, IfSome, Ok, Err, slice_get}
use Rattle.steps.specs.declared.step.Step.TheVariants.{Turn}
use Rattle.processor_threads.specs.Rounds.{AreWithin, AsksNet, GoesThrough, HasUsed, IsTried, thread}
use Rattle.processor_threads.proofs.Buffering.{few_left, few_named, has_used, some_named}
use Rattle.processor_threads.proofs.Rounding.{first_alone, first_there, goes_with_byte, goes_without_byte, left_one, no_byte, used_one}
use Rattle.processor_threads.proofs.Sending.{one_goes_on, one_within}
use Rattle.processor_threads.proofs.worker.Worker.go_on.Goals as goal

pub returns-then-is_some-clause-goes : goal.returns-then-is_some-clause-goes
returns-then-is_some-clause-goes g c =
    let handle = c.args.self.now.handle in
    let put = c.put in
    let net = c.net-fault in
    let named = c.fill.new.self in
    let s = get_or c.steps.result.now 0 (Turn 0) in
    let some = some_named _ _ named 1 c.fill.ensures (omega arith) in
    let at = first_there c.steps.result.now (Turn 0) (subst (λ l. 1 ≤ length l) (sym c.steps.ensures) some) in
    let first_is = first_alone named s (subst (λ l. slice_get l 0 ≡ Some s) c.steps.ensures at) in
    let tried = subst (λ e. IfSome handle.end.held (λ byte. IsTried byte handle.end e)) (sym net.ensures.end) put.ensures.tried in
    let asked = subst (λ h. AsksNet g.N.Run.opening g.N.Run.first h s net.result net.new.self.pass) put.ensures.pass net.ensures.net in
    record {
      count = _;
      named = named;
      filled = c.fill.ensures;
      goes = goes_with_byte g.N.Run.opening g.N.Run.first handle.end.held (thread handle.pass handle.end handle.waits)
          (thread net.new.self.pass net.new.self.end net.new.self.waits) named c.args.most c.one_round.result s net.result
          (sym c.is_some.ensures ∙ c.if-is_some.true) tried first_is asked (net.ensures.waits ∙ put.ensures.waits) c.one_round.ensures;
      used = used_one net.result named c.advance.new.self c.one_round.result c.one_round.ensures c.advance.ensures;
    }

pub returns-then-is_some-clause-stopped : goal.returns-then-is_some-clause-stopped
returns-then-is_some-clause-stopped g c = λ done e stop. absurd (one_goes_on c.net-fault.result done (sym c.one_round.ensures ∙ e) stop)

pub returns-then-is_some-clause-rounds : goal.returns-then-is_some-clause-rounds
returns-then-is_some-clause-rounds g c =
    subst (λ r. IfOk r (λ done. AreWithin done c.args.most)) (sym c.one_round.ensures) (one_within c.net-fault.result c.args.most c.requires.some)

pub returns-then-is_some-clause-left : goal.returns-then-is_some-clause-left
returns-then-is_some-clause-left g c =
    let named = c.fill.new.self in
    let some = some_named _ _ named 1 c.fill.ensures (omega arith) in
    let all = few_left 1 named in
    left_one c.net-fault.result _ c.args.buffer.now named c.advance.new.self c.one_round.result c.one_round.ensures c.advance.ensures c.fill.ensures
    (omega (arith, some, all))

pub returns-in-Ok-clause-goes : goal.returns-in-Ok-clause-goes
returns-in-Ok-clause-goes g c =
    let handle = c.args.self.now.handle in
    let ran = c.rounds in
    let named = c.fill-2.new.self in
    let old = thread handle.pass handle.end handle.waits in
    let new = thread ran.new.self.pass ran.new.self.end ran.new.self.waits in
    record {
      count = _;
      named = named;
      filled = c.fill-2.ensures;
      goes = goes_without_byte g.N.Run.opening g.N.Run.first handle.end.held old new named c.args.most (Ok c.in-Ok.done)
          (no_byte handle.end.held (sym c.is_some.ensures ∙ c.if-is_some.false))
          (subst (λ l. GoesThrough g.N.Run.opening g.N.Run.first handle.waits old l (Ok c.in-Ok.done) new) c.steps-steps.ensures c.in-Ok.ensures.goes);
      used = c.advance-in-Ok.ensures;
    }

pub returns-in-Ok-clause-rounds : goal.returns-in-Ok-clause-rounds
returns-in-Ok-clause-rounds g c =
    let w = c.in-Ok.ensures.rounds in
    let few = few_named c.args.most c.fill-2.new.self in
    let same = c.steps-steps.ensures in
    let all = subst (λ l. AreWithin c.in-Ok.done (length l)) same w in
    let less = all.few in
    record { some = w.some; few = omega (arith, less, few); idle = w.idle }

pub returns-in-Ok-clause-left : goal.returns-in-Ok-clause-left
returns-in-Ok-clause-left g c =
    let named = c.fill-2.new.self in
    let all = subst (λ l. AreWithin c.in-Ok.done (length l)) c.steps-steps.ensures c.in-Ok.ensures.rounds in
    let less = all.few in
    let few = few_left c.args.most named in
    subst (λ l. HasUsed c.in-Ok.done.rounds c.args.buffer.now l) (sym c.advance-in-Ok.ensures)
    (has_used _ c.in-Ok.done.rounds c.args.buffer.now named c.fill-2.ensures (omega (arith, less, few)))

pub returns-in-Err-clause-goes : goal.returns-in-Err-clause-goes
returns-in-Err-clause-goes g c =
    let handle = c.args.self.now.handle in
    let ran = c.rounds in
    let named = c.fill-2.new.self in
    let old = thread handle.pass handle.end handle.waits in
    let new = thread ran.new.self.pass ran.new.self.end ran.new.self.waits in
    record {
      count = _;
      named = named;
      filled = c.fill-2.ensures;
      goes = goes_without_byte g.N.Run.opening g.N.Run.first handle.end.held old new named c.args.most (Err c.in-Err.fault)
          (no_byte handle.end.held (sym c.is_some.ensures ∙ c.if-is_some.false))
          (subst (λ l. GoesThrough g.N.Run.opening g.N.Run.first handle.waits old l (Err c.in-Err.fault) new) c.steps-steps.ensures c.in-Err.ensures.goes);
      used = tt;
    }
