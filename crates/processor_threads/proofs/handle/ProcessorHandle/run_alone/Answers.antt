use Rattle.std.proofs.Common.{◌∙◌}
use Rattle.processor_threads.specs.Rounds.{thread}
use Rattle.processor_threads.proofs.Rounding.{alone_with_rounds}
use Rattle.processor_threads.proofs.Sending.{answered, applied_all, applied_count, applied_end, applied_queues, byte_held, nothing_given, was_answered}
use Rattle.processor_threads.proofs.handle.ProcessorHandle.run_alone.Goals as goal

pub invariant_of-self-in-Out : goal.invariant_of-self-in-Out
invariant_of-self-in-Out g c =
    let old = c.args.self.now in
    let back = was_answered c.give_back.result _ c.give_back.ensures.back c.in-Some.ensures.variant in
    record {
      sent = byte_held _ _ _ c.args.loan c.run_local.new.self c.run_local.result c.requires.none c.run_local.ensures back.does
          c.in-Out.byte old.end c.in-Out.is c.requires.held old.sent;
    }

pub invariant_of-self-in-Most : goal.invariant_of-self-in-Most
invariant_of-self-in-Most g c =
    let old = c.args.self.now in
    let rounds = c.in-Some-ok.rounds in
    let has_answered = answered c.end_loan.result _ rounds c.end_loan.ensures.answered c.in-Some-ok.ensures.value in
    let gone = has_answered.does in
    let same = nothing_given _ _ gone.between c.args.loan c.run_local.new.self c.run_local.result c.requires.none c.run_local.ensures gone.back
    c.in-Most.is in
    let is = c.apply_answer in
    record {
      sent = applied_all _ gone.between _ c.args.steps.now rounds gone.rounds_are old.end old.waits is.result is.new.end is.new.waits is.ensures
          c.requires.held (same ∙ old.sent);
    }

pub returns-in-Some-ok : goal.returns-in-Some-ok
returns-in-Some-ok g c =
    let old = c.args.self.now in
    let rounds = c.in-Some-ok.rounds in
    let has_answered = answered c.end_loan.result _ rounds c.end_loan.ensures.answered c.in-Some-ok.ensures.value in
    let gone = has_answered.does in
    let is = c.apply_answer in
    record {
      runs = alone_with_rounds _ _ c.args.loan c.run_local.new.self (thread old.pass old.end old.waits)
          (thread c.end_loan.new.pass is.new.end is.new.waits) c.args.steps.now is.result c.run_local.result rounds c.in-Most.is c.run_local.ensures
          has_answered
          is.ensures;
      stopped = applied_end _ gone.between _ c.args.steps.now rounds gone.rounds_are old.end old.waits is.result is.new.end is.new.waits is.ensures;
      rounds = applied_count _ gone.between _ c.args.steps.now rounds gone.rounds_are old.end old.waits is.result is.new.end is.new.waits is.ensures;
      processor = c.end_loan.ensures.processor;
      queue = applied_queues rounds old.end old.waits is.result is.new.end is.new.waits is.ensures;
    }
