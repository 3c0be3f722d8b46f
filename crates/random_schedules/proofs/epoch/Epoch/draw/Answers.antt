use Rattle.std.proofs.Common.{◌≡◌, ◌≤◌, ◌^◌, sym, subst, arith}
use Rattle.std.specs.Prelude.{◌*◌, ◌%◌}
use Rattle.std.proofs.Math.Pow.{pow_mono}
use Rattle.std.proofs.lemmas.Nat.{one_shl}
use Rattle.random_schedules.specs.Epochs.{epoch_from}
use Rattle.random_schedules.proofs.epoch.Epoch.draw.Goals as goal

pub shuffle-requires : goal.shuffle-requires
shuffle-requires c =
    let few = c.requires in
    subst (λ n. n ≤ 64) (sym (one_shl c.args.k 8 (omega (arith, few)))) (pow_mono {i = c.args.k} {j = 6} few)

pub change_priorities-requires-clause-room : goal.change_priorities-requires-clause-room
change_priorities-requires-clause-room c =
    (let count = c.shuffle.ensures.count in
    let changes = c.change_count.ensures.few in
    let few = c.requires in
    let is = one_shl c.args.k 8 (omega (arith, few)) in
    let most : 2 ^ c.args.k ≤ 64 = pow_mono {i = c.args.k} {j = 6} few in
    omega (arith, count, changes, is, most))

pub returns : goal.returns
unfolding epoch_from
returns c =
    let few = c.requires in
    let is : 1 * 2 ^ c.args.k % 2 ^ 8 ≡ 2 ^ c.args.k = one_shl c.args.k 8 (omega (arith, few)) in
    let drawn = c.shuffle.ensures.shuffled in
    let turns = c.turns_each-turns.ensures.turns in
    let from = c.from.ensures in
    let count = c.change_count.ensures.count in
    let changed = c.change_priorities.ensures in
    cc
