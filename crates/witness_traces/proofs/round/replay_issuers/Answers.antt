use Rattle.std.proofs.Common.{refl, subst}
use Rattle.std.specs.Prelude.{OnOk}
use Rattle.machine_steps.proofs.Lemmas.{run_home}
use Rattle.machine_steps.specs.Noting.{AreNoted}
use Rattle.machine_steps.specs.Runs.{IsReplay}
use Rattle.witness_traces.specs.declared.round.Issuers.{Issuers}
use Rattle.witness_traces.proofs.Rounds.{Lists, all_issued}
use Rattle.witness_traces.proofs.round.replay_issuers.Goals as goal

pub returns-clause-issued : goal.returns-clause-issued
returns-clause-issued c =
    let m = c.in_ok-machine.machine in
    let new = c.replay_observed.new.machine in
    let steps = c.args.steps.now in
    let before : Issuers = record { list = c.new-list.result } in
    let after = c.replay_observed.new.observer in (
      record {
        opening = m;
        opens = c.in_ok-machine.ensures.opening;
        machine = new;
        replay = subst (λ r. OnOk r (IsReplay m steps new)) c.in_default-replayed.is c.in-Ok.ensures.replay;
        idle = c.if-not-is_idle.ensures.idle.0 refl;
        issued = all_issued m steps before after c.new-list.ensures.items
            (subst (λ r. OnOk r (AreNoted Lists m steps before after)) c.in_default-replayed.is c.in-Ok.ensures.observed);
      },
      refl,
    )

pub returns-clause-home : goal.returns-clause-home
returns-clause-home c =
    let m = c.in_ok-machine.machine in
    let new = c.replay_observed.new.machine in
    let steps = c.args.steps.now in
    let replay : IsReplay m steps new = subst (λ r. OnOk r (IsReplay m steps new)) c.in_default-replayed.is c.in-Ok.ensures.replay in
    run_home m new steps replay.run c.in_ok-machine.ensures.opening.home
