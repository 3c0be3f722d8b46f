use Rattle.std.proofs.Common.{◌∙◌, subst}
use Rattle.state_store.specs.Placed.{HasRetired}
use Rattle.state_store.proofs.Remembering.{after_reference_is}
use Rattle.state_store.proofs.state_tables.StateTables.make_reference.Goals as goal

pub returns-clause-after : goal.returns-clause-after
returns-clause-after c =
    after_reference_is _ _ _ _ _ _ _ _
    (subst (λ a. HasRetired c.args.code.now c.args.before a c.retire.new.self) (c.in-Ok.ensures ∙ c.local_state.ensures) c.in-Ok-retire.ensures.retired)
    c.in_ok-run_to_reference.ensures.gone c.in_ok-run_to_reference.ensures.still c.in_ok-run_to_reference.ensures.quiet c.in_ok-after.ensures.there
    c.in_ok-after.ensures.same
