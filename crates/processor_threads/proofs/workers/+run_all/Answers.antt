use Rattle.std.proofs.Common.{List, sym, ap, ◌∙◌, subst}
use Rattle.std.specs.Prelude.{Option}
use Rattle.console_monitor.specs.declared.monitor.End.{End}
use Rattle.machine_lock.specs.Passes.{Held}
use Rattle.processor_threads.specs.declared.fault.RunFault.{RunFault}
use Rattle.processor_threads.specs.Consoles.{end_queue}
use Rattle.processor_threads.specs.Endings.{AllComeBack, ComesBack}
use Rattle.processor_threads.proofs.Rows.{one_more}
use Rattle.processor_threads.proofs.workers.+run_all.Goals.{in-Ok, in-Err}
use Rattle.processor_threads.proofs.workers.+run_all.Goals as goal

pub returns-clause-back : goal.returns-clause-back
returns-clause-back g t c =
    let old = c.in-Some.worker.handle in
    let new = c.match-started.back in
    let front = c.pop.new.self in
    let now = c.run_all.new.workers in
    let came : ComesBack old.pass old.end new.handle.pass new.handle.end new.fault = elim c.match-started.branch [
      | in-Ok w ↦ (let same = w.in-Ok.ensures.ok in let e = w.join-back.ensures in
          rw w.back-is (record {
            processor = e.processor ∙ ap (λ (h : Held). h.processor) same.0;
            queue = e.queue ∙ ap end_queue same.1;
            stopped = e.stopped;
          }))
      | in-Err w ↦ rw w.back-is w.in-Err.ensures.err
    ] in
    let all = one_more front.passes.items front.ends.items old.pass old.end now.passes.items now.ends.items new.handle.pass new.handle.end
    now.faults.items new.fault c.run_all.ensures.back came new.handle.sent in
    subst (λ (x : List Held × List End × List Held × List End × List (Option RunFault)). AllComeBack x.0 x.1 x.2 x.3 x.4)
    (λ i. (
      sym c.in-Some.ensures.pass i,
      sym c.in-Some.ensures.end i,
      sym c.push_reserved.ensures.pass i,
      sym c.push_reserved.ensures.end i,
      sym c.push_reserved.ensures.fault i,
    )) all
