use Rattle.machine_views.specs.Cells.{cell_of}
use Rattle.machine_views.proofs.Rows.{one_more}
use Rattle.machine_views.proofs.cells.column_of.Goals as goal

pub loop-row-preserved : goal.loop-row-preserved
loop-row-preserved c =
    one_more (cell_of c.args.names.now c.args.view.now c.args.column) c.loop-row.row c.loop-row.cells.items c.push.new.self.items c.in_ok-cell_of.field-0
    c.loop-row.invariant c.in_ok-cell_of.ensures c.in_ok-push.ensures.items
