use Rattle.processor_threads.proofs.Sending.{applied_all, applied_count, applied_end, applied_queues}
use Rattle.processor_threads.proofs.handle.ProcessorHandle.turns.Goals as goal

pub invariant_of-self : goal.invariant_of-self
invariant_of-self g c =
    let old = c.args.self.now in
    let asked = c.rounds-rounds in
    let is = c.apply_answer in
    record {
      sent = applied_all _ _ _ c.args.steps.now asked.result asked.ensures.answered.does old.end old.waits is.result is.new.end is.new.waits is.ensures
          c.requires.held old.sent;
    }

pub returns : goal.returns
returns g c =
    let old = c.args.self.now in
    let asked = c.rounds-rounds in
    let is = c.apply_answer in
    let gone = asked.ensures.answered.does in
    record {
      turns = record { rounds = asked.result; gone = asked.ensures.answered; applied = is.ensures };
      stopped = applied_end _ _ _ c.args.steps.now asked.result gone old.end old.waits is.result is.new.end is.new.waits is.ensures;
      rounds = applied_count _ _ _ c.args.steps.now asked.result gone old.end old.waits is.result is.new.end is.new.waits is.ensures;
      processor = asked.ensures.processor;
      queue = applied_queues asked.result old.end old.waits is.result is.new.end is.new.waits is.ensures;
    }
