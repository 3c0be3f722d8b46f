use Rattle.std.proofs.Common.{◌≤◌, length, rules, arith}
use Rattle.state_search.specs.Refusals.{HasFound}
use Rattle.property_search.proofs.judging.judge_part.Goals as goal

pub judge_space-requires : goal.judge_space-requires
judge_space-requires g c =
    let has : HasFound c.args.refusal = search rules in
    let few : length c.args.found.now.rows.keys ≤ 4294967295 = search rules in (
      omega arith,
      (
        c.requires.live has,
        (
          c.requires.rows has,
          (
            c.requires.classes,
            (c.requires.room, (c.requires.narrow, (few, ((c.requires.known has).0, (c.requires.known has).1)))),
          ),
        ),
      ),
    )
