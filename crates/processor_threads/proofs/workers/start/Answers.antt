use Rattle.std.proofs.Crossing.{crosses}
use denote.Param.Send.{sendable}
use Rattle.machine_lock.proofs.Lemmas.{Shared-sync}
use Rattle.processor_threads.proofs.context.RunContext.TheSendSync as context
use Rattle.processor_threads.proofs.worker.Worker.TheSendSync as worker
use Rattle.processor_threads.proofs.workers.start.Goals as goal

pub spawn_with-requires-send-F : goal.spawn_with-requires-send-F
spawn_with-requires-send-F g c κs within =
    let n = c.type_bounds.send-N in
    let a = c.type_bounds.send-A in
    let gate = c.type_bounds.sync-G in
    let rt = c.type_bounds.sync-R in
    search (crosses, sendable, Shared-sync, context.the_sync, worker.the_send) depth 20
