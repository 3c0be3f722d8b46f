use Rattle.std.proofs.Common.{[], sym, ap, ◌∙◌}
use Rattle.machine_steps.specs.Machines.{machine_of}
use Rattle.page_command.specs.Laws.{ChangesLeadToViews, ViewsAreOfMachines, opening_view}
use Rattle.page_command.specs.Views.{View}
use Rattle.page_command.proofs.Leading.{all_lead, view_first, view_there}
use Rattle.page_command.proofs.OpeningViews.{opening_shown}
use Rattle.page_command.proofs.laws.changes_lead_to_views.Goals as goal

there : ViewsAreOfMachines
there opening machine steps run part = ap (λ (V : View). V part) (view_there opening machine steps run)

lead : ChangesLeadToViews
lead m is steps count part within =
    all_lead m.config m.code (machine_of m (λ p. [])) steps count (opening_view m)
    (λ x inside. opening_shown m is x inside ∙ ap (λ (V : View). V x) (sym (view_first m)))
    part within

pub returns-clause-opening : goal.returns-clause-opening
returns-clause-opening c = opening_shown

pub returns-clause-steps : goal.returns-clause-steps
returns-clause-steps c = lead

pub returns-clause-machines : goal.returns-clause-machines
returns-clause-machines c = there
