use Rattle.std.proofs.Common.{◌≡◌, ◌<◌, ◌+◌, ◌*◌, [], ◌∷◌, ◌++◌, sym, ap, ◌∙◌, subst, arith}
use Rattle.ring_network.specs.Switches.{SwitchLists}
use Rattle.omega_network.specs.Networks.{half}
use Rattle.ring_network.proofs.New.{SoFar, all_done, none_yet, one_more, stage_done}
use Rattle.ring_network.proofs.network.new_switches.Goals as goal

pub loop-preserved : goal.loop-preserved
loop-preserved c =
    let per_stage : c.switches_per_stage-per_stage.result ≡ half c.args.k = c.switches_per_stage-per_stage.ensures (omega arith) in
    let within : c.loop.counter < half c.args.k = subst (λ n. c.loop.counter < n) per_stage c.loop-test.true in
    record {
      stage = c.loop.invariant.stage;
      so_far = subst (SoFar c.args.k c.args.c c.args.b c.args.r (c.loop-stage.stage * half c.args.k + (c.loop.counter + 1)))
          (sym (c.in_ok-push.ensures.items ∙ ap (λ (t : SwitchLists). c.loop.switches.items ++ t ∷ []) c.in_ok-new.ensures))
          (one_more c.args.k c.args.c c.args.b c.args.r c.loop-stage.stage c.loop.counter c.loop.switches.items within c.loop.invariant.so_far);
    }

pub loop-init : goal.loop-init
loop-init c = record {
  stage = c.loop-stage-test.true;
  so_far = (let e : c.loop-stage.stage * half c.args.k ≡ c.loop-stage.stage * half c.args.k + 0 = omega arith in
      subst (λ n. SoFar c.args.k c.args.c c.args.b c.args.r n c.loop-stage.switches.items) e c.loop-stage.invariant);
}

pub loop-stage-init : goal.loop-stage-init
loop-stage-init c =
    let e : 0 ≡ 0 * half c.args.k = omega arith in
    subst (SoFar c.args.k c.args.c c.args.b c.args.r (0 * half c.args.k)) (sym c.new-switches.ensures.items)
    (subst (λ n. SoFar c.args.k c.args.c c.args.b c.args.r n []) e (none_yet c.args.k c.args.c c.args.b c.args.r))

pub loop-stage-preserved : goal.loop-stage-preserved
loop-stage-preserved c =
    let per_stage : c.switches_per_stage-per_stage.result ≡ half c.args.k = c.switches_per_stage-per_stage.ensures (omega arith) in
    let all : c.loop.counter ≡ half c.args.k = (let last : c.loop.counter ≡ c.switches_per_stage-per_stage.result = omega arith in last ∙ per_stage) in
    stage_done c.args.k c.args.c c.args.b c.args.r c.loop-stage.stage c.loop.switches.items
    (subst (λ n. SoFar c.args.k c.args.c c.args.b c.args.r (c.loop-stage.stage * half c.args.k + n) c.loop.switches.items) all c.loop.invariant.so_far)

pub returns : goal.returns
returns c =
    let all : c.loop-stage.stage ≡ c.args.k = omega arith in
    all_done c.args.k c.args.c c.args.b c.args.r (c.loop-stage.stage * half c.args.k) c.loop-stage.switches.items
    (ap (λ s. s * half c.args.k) all) c.loop-stage.invariant
