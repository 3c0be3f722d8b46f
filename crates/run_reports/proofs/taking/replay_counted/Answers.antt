use Rattle.std.proofs.Common.{◌^◌, ◌∙◌, ap, subst, sym}
use Rattle.std.specs.Prelude.{OnOk, replicate}
use Rattle.std.proofs.lemmas.Result.{IfErr-weaker, IfOk-weaker}
use Rattle.flat_machine.specs.declared.config.Config.{Config}
use Rattle.machine_steps.specs.Noting.{AreNoted}
use Rattle.machine_steps.specs.Runs.{IsReplay}
use Rattle.command_io.specs.Tallies.{nothing_shown}
use Rattle.run_reports.specs.CountedReplays.{IsNotRetaken}
use Rattle.run_reports.specs.declared.tally_in_memory.TallyInMemory.{TallyInMemory}
use Rattle.run_reports.proofs.TakenAgain.{InMemory, all_replayed, was_made, were_tallied}
use Rattle.run_reports.proofs.taking.replay_counted.Goals as goal

pub returns-clause-taken : goal.returns-clause-taken
returns-clause-taken c =
    let m = c.args.machine.now in
    let new = c.replay_observed.new.machine in
    let steps = c.args.steps.now in
    let before : TallyInMemory = record { tally = c.ok.result } in
    let after = c.replay_observed.new.observer in
    let replay = subst (λ r. OnOk r (IsReplay m steps new)) c.in_default.is c.in-Ok.ensures.replay in
    let noted = subst (λ r. OnOk r (AreNoted InMemory m steps before after)) c.in_default.is c.in-Ok.ensures.observed in
    IfOk-weaker c.tally.result _ _ (λ tally is.
    let were = were_tallied m steps before after tally noted is in
    all_replayed m new steps were.0 tally
    (was_made c.new-tally.result c.ok.result were.0 _ c.ok.ensures.value were.1 c.new-tally.ensures
    ∙ ap (λ n. record { shown = replicate n nothing_shown; observed = 0 })
    (c.processors.ensures ∙ ap (λ (c : Config). 2 ^ c.k) c.config.ensures.config))
    replay were.2) c.tally.ensures.tally

pub returns-clause-refused : goal.returns-clause-refused
returns-clause-refused c =
    let m = c.args.machine.now in
    let new = c.replay_observed.new.machine in
    let steps = c.args.steps.now in
    let replay = subst (λ r. OnOk r (IsReplay m steps new)) c.in_default.is c.in-Ok.ensures.replay in
    IfErr-weaker c.tally.result _ _ (λ fault is. subst (IsNotRetaken m steps new) (sym is) replay) c.tally.ensures.refused
