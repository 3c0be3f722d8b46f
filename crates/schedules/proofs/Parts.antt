-- The parts of a round, one after another: the turns, the moves up, the services and the moves down.
use Rattle.std.proofs.Common.{◌≡◌, ℕ, ◌+◌, ◌-◌, ◌*◌, ◌^◌, ◌<◌, ◌≤◌, Bool, length, Option, None, refl, ap, arith}
use Rattle.flat_machine.specs.declared.config.Config.{Config}
use Rattle.machine_log.specs.Logs.{Log}
use Rattle.schedules.specs.Rounds.{round}
use Rattle.schedules.specs.Sweeps.{HasGone}
use Rattle.schedules.proofs.Going.{gone_at, row_gone, stages_of, then_gone}
use Rattle.schedules.proofs.Places.{round_length}

-- A round that has advanced through row 0 has advanced through the turns.
pub turns_gone : {limit : ℕ} {old new : Log} {end : Option Bool} → HasGone limit (0 * 2 ^ stages_of old) ((0 + 1) * 2 ^ stages_of old) old end new →
    HasGone limit 0 (1 * 2 ^ stages_of old) old end new
turns_gone gone = gone_at gone (omega arith) (omega arith)

-- A round that has advanced through the turns, and then through the moves up, has advanced through both.
pub ups_gone : {limit : ℕ} {old l new : Log} {end : Option Bool} → HasGone limit 0 (1 * 2 ^ stages_of old) old None l →
    HasGone limit (1 * 2 ^ stages_of l) ((stages_of l + 1) * 2 ^ stages_of l) l end new → HasGone limit 0 ((stages_of old + 1) * 2 ^ stages_of old) old end new
ups_gone {limit} {old} {l} {new} {end} = then_gone limit 0 (λ n. 1 * 2 ^ n) (λ n. (n + 1) * 2 ^ n) old l new end

-- A round that has advanced through turns and moves up, and then through the services, has advanced through them all.
pub services_gone : {limit : ℕ} {old l new : Log} {end : Option Bool} → HasGone limit 0 ((stages_of old + 1) * 2 ^ stages_of old) old None l →
    HasGone limit ((stages_of l + 1) * 2 ^ stages_of l) ((stages_of l + 1 + 1) * 2 ^ stages_of l) l end new →
    HasGone limit 0 ((stages_of old + 2) * 2 ^ stages_of old) old end new
services_gone {limit} {old} {l} {new} {end} before gone =
    gone_at (then_gone limit 0 (λ n. (n + 1) * 2 ^ n) (λ n. (n + 1 + 1) * 2 ^ n) old l new end before gone) refl (ap (λ n. n * 2 ^ stages_of old) (omega arith))

-- A round that has advanced so far, and then through the moves down, has advanced through all its steps.
pub all_gone : {limit : ℕ} {old l new : Log} {end : Option Bool} → stages_of old ≤ 6 → HasGone limit 0 ((stages_of old + 2) * 2 ^ stages_of old) old None l →
    HasGone limit ((stages_of l + 2) * 2 ^ stages_of l) ((2 * stages_of l + 2) * 2 ^ stages_of l) l end new →
    HasGone limit 0 (length (round (stages_of old))) old end new
all_gone {limit} {old} {l} {new} {end} few before gone =
    gone_at (then_gone limit 0 (λ n. (n + 2) * 2 ^ n) (λ n. (2 * n + 2) * 2 ^ n) old l new end before gone) refl
    (let count = round_length (stages_of old) few in omega (arith, count))

-- A round advances through a row of moves up, after `passed` others.
pub up_gone : {limit passed stages : ℕ} {old l new : Log} {end : Option Bool} → stages ≡ stages_of old → passed < stages →
    HasGone limit (1 * 2 ^ stages_of old) ((passed + 1) * 2 ^ stages_of old) old None l →
    HasGone limit ((stages_of l - (stages - 1 - passed)) * 2 ^ stages_of l) ((stages_of l - (stages - 1 - passed) + 1) * 2 ^ stages_of l) l end new →
    HasGone limit (1 * 2 ^ stages_of old) ((passed + 1 + 1) * 2 ^ stages_of old) old end new
up_gone {limit} {passed} {stages} {old} {l} {new} {end} are less before gone =
    let size : stages_of l ≡ stages_of old = ap (λ (d : Config). d.k) before.config in
    row_gone limit (1 * 2 ^ stages_of old) (passed + 1) (stages_of l - (stages - 1 - passed)) old l new end (omega (arith, size, are, less)) before gone

-- A round advances through a row of moves down.
pub down_gone : (stage : ℕ) {limit : ℕ} {old l new : Log} {end : Option Bool} →
    HasGone limit ((stages_of old + 2) * 2 ^ stages_of old) ((stages_of old + 2 + stage) * 2 ^ stages_of old) old None l →
    HasGone limit ((stages_of l + 2 + stage) * 2 ^ stages_of l) ((stages_of l + 2 + stage + 1) * 2 ^ stages_of l) l end new →
    HasGone limit ((stages_of old + 2) * 2 ^ stages_of old) ((stages_of old + 2 + (stage + 1)) * 2 ^ stages_of old) old end new
down_gone stage {limit} {old} {l} {new} {end} before gone =
    let k = stages_of old in
    gone_at (row_gone limit ((k + 2) * 2 ^ k) (k + 2 + stage) (stages_of l + 2 + stage) old l new end
    (ap (λ n. n + 2 + stage) (ap (λ (d : Config). d.k) before.config)) before gone) refl (ap (λ n. n * 2 ^ k) (omega arith))
