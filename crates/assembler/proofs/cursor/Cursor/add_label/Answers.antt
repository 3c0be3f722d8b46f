use Rattle.std.proofs.Common.{sym, ◌∙◌}
use Rattle.assembler.proofs.Labels.{label_added}
use Rattle.assembler.proofs.cursor.Cursor.add_label.Goals as goal

pub returns-clause-ok : goal.returns-clause-ok
returns-clause-ok c = rw c.in-Some.is (sym c.contains_key.ensures ∙ c.if-contains_key.false)

pub returns-clause-after : goal.returns-clause-after
returns-clause-after c = rw c.in-Some.is
    (label_added _ _ _ _ c.address.result c.in-Some.name.now c.args.self.now.labels c.insert.new.self c.in_ok-insert.ensures.updates c.address.ensures)
