use Rattle.std.proofs.Common.{◌≡◌, [], ◌++◌, ◌∙◌, true, drop, ap, sym, subst, arith}
use Rattle.std.proofs.lemmas.List.{drop_all}
use Rattle.steps.specs.Kinds.{no_poke}
use Rattle.schedules.specs.Choices.{choices}
use Rattle.random_schedules.specs.Schedules.{schedule, turns_from}
use Rattle.random_schedules.proofs.Turns.{no_poke_schedule}
use Rattle.random_schedules.proofs.schedule.Schedule.new.Goals as goal

pub returns-clause-schedule : goal.returns-clause-schedule
unfolding schedule
returns-clause-schedule c =
    let none : drop c.choice_count.result (choices c.args.k) ≡ [] =
    drop_all c.choice_count.result (choices c.args.k) (let is = c.choice_count.ensures.all in omega (arith, is)) in
    ap (λ xs. xs ++ turns_from c.args.strategy c.args.k c.args.number c.new.result c.args.turns) none
    ∙ ap (λ x. turns_from c.args.strategy c.args.k c.args.number x c.args.turns) c.new.ensures

pub returns-clause-own : goal.returns-clause-own
returns-clause-own c =
    subst (λ xs. no_poke xs ≡ true) (sym (returns-clause-schedule c)) (no_poke_schedule c.args.strategy c.args.k c.args.number c.args.turns)
