use Rattle.machine_views.specs.Views.{processor_view}
use Rattle.machine_views.proofs.Rows.{one_more}
use Rattle.machine_views.proofs.processors.processor_views.Goals as goal

pub loop-p-preserved : goal.loop-p-preserved
loop-p-preserved c =
    one_more (processor_view c.args.machine.now) c.loop-p.p c.loop-p.processors.items c.push.new.self.items c.processor_view.result
    c.loop-p.invariant c.processor_view.ensures c.in_ok-push.ensures.items
