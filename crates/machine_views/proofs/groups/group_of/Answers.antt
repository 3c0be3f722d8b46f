use Rattle.std.proofs.Common.{sym, ◌∙◌, ap, ◌^◌, ◌-◌, arith}
use Rattle.omega_network.specs.Networks.{net_of}
use Rattle.machine_views.specs.Groups.{reached, split_at}
use Rattle.machine_views.proofs.Reached.{reached_none, reached_one}
use Rattle.machine_views.proofs.groups.group_of.Goals as goal

pub loop-stage-preserved : goal.loop-stage-preserved
loop-stage-preserved c =
    let n = c.args.network.now in
    let s = c.loop-stage.stage in
    let few = c.loop-stage.invariant.0 in (
      omega arith,
      ap (reached (net_of n) (2 ^ n.k) (s - 1)) (c.in_ok-members-2.ensures ∙ ap (split_at (net_of n) (2 ^ n.k) (s - 1)) c.as_slice.ensures.value)
          ∙ reached_one (net_of n) (2 ^ n.k) s c.loop-stage.members.items (omega arith)
          ∙ c.loop-stage.invariant.1,
    )

pub returns : goal.returns
returns c =
    let n = c.args.network.now in
    c.of.ensures ∙ sym (reached_none (net_of n) (2 ^ n.k) c.loop-stage.stage c.loop-stage.members.items (omega arith)) ∙ c.loop-stage.invariant.1
