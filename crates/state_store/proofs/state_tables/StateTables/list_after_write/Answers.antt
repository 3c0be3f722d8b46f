use Rattle.std.proofs.Common.{sym, ap, ◌∙◌, arith}
use Rattle.std.specs.Prelude.{slice_set}
use Rattle.state_store.proofs.Remembering.{lists_kept, lists_noted}
use Rattle.state_store.proofs.state_tables.StateTables.list_after_write.Goals as goal

pub returns-in-Some-clause-there : goal.returns-in-Some-clause-there
returns-in-Some-clause-there c =
    (c.requires.known c.args.number c.args.word c.args.value c.in-Some.written (sym c.get.ensures ∙ c.in-Some.is)).1

pub returns-in-Some-clause-written : goal.returns-in-Some-clause-written
returns-in-Some-clause-written c =
    (c.requires.known c.args.number c.args.word c.args.value c.in-Some.written (sym c.get.ensures ∙ c.in-Some.is)).2

pub returns-clause-known : goal.returns-clause-known
returns-clause-known c =
    let kept = c.in_ok-written.ensures.kept in
    lists_noted c.write_word.new.self c.args.transition_cache.now c.remember.new.self c.args.number c.args.word c.args.value c.in_ok-written.written
    (lists_kept c.args.self.now c.write_word.new.self c.args.transition_cache.now kept c.requires.known) c.remember.ensures
    (omega (arith, c.requires.there, kept.words)) c.in_ok-written.ensures.there
    (c.in_ok-written.ensures.written ∙ ap (λ xs. slice_set xs c.args.word c.args.value) (sym (kept.same_words c.args.number c.requires.there)))
