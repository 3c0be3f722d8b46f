use Rattle.std.proofs.Common.{◌≡◌, Some, subst, sym}
use Rattle.std.specs.Prelude.{slice_get}
use Rattle.hunt_command.specs.Findings.{FindingsState, firsts}
use Rattle.hunt_command.proofs.Noting.{first_in, first_of, printed_in, runs_in, text_in}
use Rattle.hunt_command.proofs.findings.Findings.first_at.Goals as goal

pub returns : goal.returns
returns c =
    subst (λ (s : FindingsState). slice_get (firsts s.found) c.args.place ≡ Some c.in-Some.counted.now.first) c.self.view_is
    (first_in text_in printed_in runs_in first_of c.self.inside.found.entries c.args.place c.in-Some.field-0-0.now c.in-Some.counted.now
    (sym c.in-Some.ensures.entry))
