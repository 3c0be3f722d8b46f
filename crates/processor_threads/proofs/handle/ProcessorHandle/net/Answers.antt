use Rattle.std.proofs.Common.{◌∙◌}
use Rattle.processor_threads.proofs.Sending.{net_gives, net_answered}
use Rattle.processor_threads.proofs.handle.ProcessorHandle.net.Goals as goal

pub invariant_of-self : goal.invariant_of-self
invariant_of-self g c =
    let old = c.args.self.now in
    let asked = c.net in
    let has_answered = net_answered g.N.Run.opening g.N.Run.first old.pass asked.new.pass c.args.step asked.result asked.ensures.answered asked.ensures.err in
    record { sent = net_gives g.N.Run.opening g.N.Run.first old.pass asked.new.pass c.args.step asked.result asked.ensures.unnamed has_answered ∙ old.sent }

pub returns-clause-net : goal.returns-clause-net
returns-clause-net g c =
    let asked = c.net in
    record {
      answer = asked.result;
      unnamed = asked.ensures.unnamed;
      has_answered = net_answered g.N.Run.opening g.N.Run.first c.args.self.now.pass asked.new.pass c.args.step asked.result asked.ensures.answered
          asked.ensures.err;
      fault_is = c.fault_of_net.ensures;
    }
