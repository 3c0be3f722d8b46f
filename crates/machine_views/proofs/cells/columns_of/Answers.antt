use Rattle.machine_views.specs.Cells.{column_of}
use Rattle.machine_views.proofs.Rows.{one_more}
use Rattle.machine_views.proofs.cells.columns_of.Goals as goal

pub loop-column-preserved : goal.loop-column-preserved
loop-column-preserved c =
    one_more (column_of c.args.names.now c.args.view.now) c.loop-column.column c.loop-column.columns.items c.push.new.self.items c.in_ok-column_of.field-0
    c.loop-column.invariant c.in_ok-column_of.ensures c.in_ok-push.ensures.items
