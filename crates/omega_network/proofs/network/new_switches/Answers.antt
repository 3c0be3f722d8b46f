use Rattle.std.proofs.Common.{◌<◌, ◌+◌, ◌*◌, [], ◌∷◌, ◌++◌, sym, ap, ◌∙◌, subst, arith}
use Rattle.combining_switch.specs.Switches.{SwitchState}
use Rattle.omega_network.specs.Networks.{half}
use Rattle.omega_network.proofs.New.{SoFar, one_more}
use Rattle.omega_network.proofs.Switches.{two_halves}
use Rattle.omega_network.proofs.network.new_switches.Goals as goal

pub loop-number-preserved : goal.loop-number-preserved
loop-number-preserved c =
    let within : c.loop-number.number < half c.args.k =
    omega (arith, c.wires_of-per_stage.ensures.exact, two_halves c.args.k c.loop-stage.stage c.loop-stage-test.true, c.loop-number-test.true) in
    record {
      stage = c.loop-number.invariant.stage;
      so_far = subst (SoFar c.args.k c.args.c c.args.b c.args.r (c.loop-stage.stage * half c.args.k + (c.loop-number.number + 1)))
          (sym (c.in_ok-push.ensures.items ∙ ap (λ (t : SwitchState). c.loop-number.switches.items ++ t ∷ []) c.new_switch.ensures))
          (one_more c.args.k c.args.c c.args.b c.args.r c.loop-stage.stage c.loop-number.number c.loop-number.switches.items within
          c.loop-number.invariant.so_far);
    }
