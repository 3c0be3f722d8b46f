use Rattle.std.proofs.Common.{◌++◌, ◌∙◌, sym, ap, arith}
use Rattle.schedules.specs.Choices.{choices}
use Rattle.random_schedules.specs.Schedules.{turns_from}
use Rattle.random_schedules.proofs.Turns.{drop_at, turn_next}
use Rattle.random_schedules.proofs.schedule.Schedule.next.Goals as goal

pub choice_at-requires-clause-place : goal.choice_at-requires-clause-place
choice_at-requires-clause-place c = (let count = c.choice_count.ensures.count in let inside = c.if-place-choice_count.true in omega (arith, count, inside))

pub returns-then-place-choice_count-clause-next : goal.returns-then-place-choice_count-clause-next
returns-then-place-choice_count-clause-next c =
    let i = c.self.inside in
    sym c.self.view_is
    ∙ ap (λ xs. xs ++ turns_from i.strategy i.k i.number i.course i.turns) (drop_at (choices i.k) i.place c.choice_at.result c.choice_at.ensures)

pub returns-clause-next : goal.returns-clause-next
returns-clause-next c =
    let i = c.self.inside in
    let all = c.choice_count.ensures.all in
    let past = c.if-place-choice_count.false in
    let some = c.if-self-eq0.false in
    sym c.self.view_is
    ∙ turn_next i.strategy i.k i.number i.course c.next_turn-moves.new.self c.next_turn-moves.result i.turns i.place c.place_after-self-inside.result
    (omega (arith, all, past)) (λ none. absurd (omega (arith, some, none))) c.next_turn-moves.ensures c.place_after-self-inside.ensures
