use Rattle.std.proofs.Common.{◌≡◌, ◌++◌, false, [], sym, ap, ◌∙◌}
use Rattle.std.specs.Prelude.{if◌then◌else◌, string_bytes}
use Rattle.flat_machine.specs.declared.config.Config.{Config}
use Rattle.omega_network.specs.Networks.{net_of}
use Rattle.steps.specs.Kinds.{is_within}
use Rattle.machine_steps.specs.machine_theory.Processors.{open_at}
use Rattle.machine_views.specs.Subjects.{processors_of}
use Rattle.page_command.specs.Steps.{actor_of, parts_within}
use Rattle.page_command.specs.Views.{view_at}
use Rattle.page_command.proofs.Lists.{no_text, text_to}
use Rattle.page_command.proofs.step_changes.push_step.Goals as goal

pub returns-else-is_within-clause-shown : goal.returns-else-is_within-clause-shown
returns-else-is_within-clause-shown c =
    let m = c.args.machine.now in
    let n = c.apply.new.self in
    let s = c.args.step in
    let p = actor_of s in
    let old = string_bytes c.args.text.now in
    let outside : is_within m.config.k s ≡ false =
    ap (λ (d : Config). is_within d.k s) (sym c.config.ensures.config) ∙ sym c.is_within.ensures ∙ c.if-is_within.false in
    no_text (view_at n) old ∙ ap (λ b. old ++ text_to (view_at n) (if b then parts_within m.config.k (net_of m.network)
    (processors_of m p).registers (processors_of n p).registers (open_at m.ports p) (open_at n.ports p) s else [])) (sym outside)
