use Rattle.std.proofs.Common.{◌≡◌, ◌≤◌, ◌+◌, ◌-◌, ◌*◌, [], false, List, length}
use Rattle.processor_threads.specs.Consoles.{end_queue}
use Rattle.processor_threads.specs.Rounds.{HaveGoneOn, begin, thread}
use Rattle.processor_threads.specs.declared.handle.RoundsDone.{RoundsDone}
use Rattle.processor_threads.proofs.worker.Worker.rounds.Given as goal

abbrev pub invariant-loop-tally : goal.invariant-loop-tally
invariant-loop-tally g l = record {
  processor : l.self.handle.pass.processor ≡ l.initial.self.handle.pass.processor;
  queue : end_queue l.self.handle.end ≡ end_queue l.initial.self.handle.end;
  turns : l.self.turns ≤ l.gone;
  counted : l.tally.counted ≤ l.context.budget;
  room : l.gone + length l.buffer ≤ 512 * l.tally.counted;
  fresh : l.buffer ≡ [] → l.tally.idle ≡ false;
  reported : l.reported.rounds ≤ l.gone;
  gone_on : (calls : List RoundsDone) × HaveGoneOn g.N.Run.opening g.N.Run.first l.context.budget
      (begin (thread l.initial.self.handle.pass l.initial.self.handle.end l.initial.self.handle.waits)) calls
      (record { holds = thread l.self.handle.pass l.self.handle.end l.self.handle.waits; left = l.buffer; tally = l.tally });
}

abbrev pub decreases-loop-tally : goal.decreases-loop-tally
decreases-loop-tally g l = (l.context.budget - l.tally.counted) * 513 + length l.buffer
