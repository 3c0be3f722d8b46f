use Rattle.std.proofs.Common.{◌≡◌, ◌∙◌, ℕ, Option, ap}
use Rattle.std.specs.Prelude.{unwrap_or}
use Rattle.line_faults.specs.Places.{first_lines}
use Rattle.line_faults.proofs.OneMore.{label_added, line_added}
use Rattle.line_faults.proofs.cursor.Cursor.add_label.Goals as goal

pub returns-clause-place : goal.returns-clause-place
returns-clause-place c = rw c.in-Some.is (
    label_added _ _ _ _ c.address.result _ c.in-Some.name.now c.args.self.now.labels c.insert.new.self c.in_ok-insert.ensures.updates c.address.ensures
    )

pub returns-clause-lines : goal.returns-clause-lines
returns-clause-lines c =
    let first : c.unwrap_or.result ≡ unwrap_or (first_lines c.args.self.now c.in-Some.name.now) c.args.number =
    c.unwrap_or.ensures ∙ ap (λ (line : Option ℕ). unwrap_or line c.args.number) c.line_of.ensures in
    rw c.in-Some.is (
    line_added c.in-Some.name.now c.args.number c.args.self.now.labels c.insert.new.self _ c.in_ok-insert.ensures.updates first
    )
