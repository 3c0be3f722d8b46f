use Rattle.std.proofs.Common.{subst}
use Rattle.state_store.specs.Moves.{IsNext}
use Rattle.state_store.specs.StateTables.{means}
use Rattle.state_search.proofs.Targeting.{moved_to}
use Rattle.state_search.proofs.targets.target_of.Goals as goal

pub returns-in-Some-clause-target : goal.returns-in-Some-clause-target
returns-in-Some-clause-target g c =
    let e = c.args.extent in
    let t = c.args.state_tables.now in
    let s = means e t c.args.row in
    let next = subst (IsNext e c.args.code.now c.args.classes.now c.next.new.self s c.args.p) c.in-Some.is c.in_ok-next.ensures.next in
    moved_to e c.args.code.now c.args.classes.now t c.args.rows.now.keys c.next.new.self c.in_ok-next.ensures.kept c.requires.rows s c.args.p
    c.in-Some.next next c.place_in.result c.place_in.ensures.small c.place_in.ensures.within c.place_in.ensures.is
