-- The logs that what takes steps may have.
use Rattle.std.proofs.Common.{◌≡◌, ℕ, refl, sym, ap, ◌∙◌, subst}
use Rattle.machine_steps.specs.Machines.{MachineLists}
use Rattle.machine_steps.specs.Runs.{IsReplay}
use Rattle.machine_log.specs.Logs.{Log}
use Rattle.schedules.specs.Sweeps.{HasFollowed}
use Rattle.schedules.specs.Takers.{EachGoesOn, IsLogOf}
use Rattle.schedules.specs.declared.sweeping.SweepEnd.{SweepEnd}

-- If machines have one configuration, so have those of their logs.
pub one_config : (a b : Log) {m n : MachineLists} → a.machine ≡ m → m.config ≡ n.config → b.machine ≡ n → a.machine.config ≡ b.machine.config
one_config a b here same first = ap (λ (x : MachineLists). x.config) here ∙ same ∙ sym (ap (λ (x : MachineLists). x.config) first)

-- If each log that was this one has followed the sweep, this one has.
pub followed_own : (limit : ℕ) (old : Log) (end : SweepEnd) (new : Log) → IsReplay old.opening old.steps old.machine →
    EachGoesOn IsLogOf old new (λ a b. HasFollowed limit a end b) → HasFollowed limit old end new
followed_own limit old end new replay goes =
    let f = goes old (record { is = refl; replay = replay }) in
    subst (λ (l : Log). HasFollowed limit old end l) f.1.is f.2
