use Rattle.std.proofs.Common.{All, [], ◌∷◌, sym, subst, arith}
use Rattle.std.proofs.lemmas.List.Elements.{All-append, All-cons}
use Rattle.hunt_command.specs.declared.ahead.Taken.{Taken}
use Rattle.hunt_command.specs.Taken.{IsTaken}
use Rattle.hunt_command.proofs.ahead.take_runs.Goals as goal

pub loop-preserved : goal.loop-preserved
loop-preserved c =
    let taken : Taken = record { place = c.fetch_add-place.result; result = c.in-Ok.result } in
    let one : IsTaken c.args.hunt c.args.config c.args.image.now taken = (c.in-Ok.ensures.result, c.in-Ok.ensures.low) in
    subst (All (IsTaken c.args.hunt c.args.config c.args.image.now)) (sym c.in-Ok-push.ensures.items)
    (All-append (IsTaken c.args.hunt c.args.config c.args.image.now) c.loop.all.items (taken ∷ []) c.loop.invariant
    (All-cons (IsTaken c.args.hunt c.args.config c.args.image.now) taken [] one (λ k d less. absurd (omega (arith, less)))))
