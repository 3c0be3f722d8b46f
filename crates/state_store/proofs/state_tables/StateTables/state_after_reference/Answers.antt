use Rattle.std.proofs.Common.{sym, subst, ◌∙◌, arith}
use Rattle.state_store.specs.StateTables.{IsAfterReference}
use Rattle.state_store.proofs.Remembering.{local_states_kept, local_states_remembered}
use Rattle.state_store.proofs.state_tables.StateTables.state_after_reference.Goals as goal

pub returns-in-Some-clause-after : goal.returns-in-Some-clause-after
returns-in-Some-clause-after c = (c.requires.known c.args.number c.args.word c.args.before c.in-Some.after (sym c.get.ensures ∙ c.in-Some.is)).1

pub returns-clause-known : goal.returns-clause-known
returns-clause-known c =
    let kept = c.in_ok-after.ensures.kept in
    local_states_remembered c.args.quietly c.args.code.now c.make_reference.new.self c.args.transition_cache.now c.remember.new.self c.args.number c.args.word
    c.args.before
    c.in_ok-after.after
    (local_states_kept c.args.quietly c.args.code.now c.args.self.now c.make_reference.new.self c.args.transition_cache.now kept c.requires.known)
    c.remember.ensures
    (omega (arith, c.requires.there, kept.local_states))
    (subst (λ a. IsAfterReference c.args.quietly c.args.code.now c.args.before a c.make_reference.new.self c.in_ok-after.after)
    (sym (kept.same_local_state c.args.number c.requires.there))
    c.in_ok-after.ensures.after)
