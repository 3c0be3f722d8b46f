use Rattle.std.proofs.Common.{refl, sym, arith}
use Rattle.std.proofs.lemmas.Result.{IfErr-weaker, on_ok_weaker}
use Rattle.witness_traces.proofs.Leading.{end_witness, stuck_witness, taken_home}
use Rattle.witness_traces.proofs.Refusing.{steps_refuse}
use Rattle.witness_traces.specs.Refusals.{IsNotTaken, IsOfSteps}
use Rattle.witness_traces.proofs.witness.check.Goals as goal

pub compare-requires-clause-home : goal.compare-requires-clause-home
compare-requires-clause-home c =
    taken_home c.args.config c.args.image.now c.args.steps.now c.in_ok-machine.machine c.in_ok-machine.tally c.in_ok-machine.ensures.taken

pub look_for_an_end-requires : goal.look_for_an_end-requires
look_for_an_end-requires c = record {
  home = taken_home c.args.config c.args.image.now c.args.steps.now c.in_ok-machine.machine c.in_ok-machine.tally
      c.in_ok-machine.ensures.taken;
}

pub returns-in-Some-get-clause-witness : goal.returns-in-Some-get-clause-witness
returns-in-Some-get-clause-witness c =
    let some = c.in-Some.ensures in
    on_ok_weaker c.compare.result (λ end.
    end_witness c.args.config c.args.image.now c.args.results.now c.args.steps.now c.in_ok-machine.machine c.in_ok-machine.tally
    c.in_ok-machine.ensures.taken (sym c.if-not-has_no_poke.ensures) (c.if-not-is_trace.ensures.0 refl)
    c.in-Some.before c.args.number c.in-Some-get.last.now (omega (arith, some)) c.in-Some-get.ensures.lookup.3.0
    (c.in-Some-get.ensures.lookup.3.1 c.in-Some-get.last.now) end) c.compare.ensures.same

pub returns-in-Some-get-clause-refused : goal.returns-in-Some-get-clause-refused
returns-in-Some-get-clause-refused c = IfErr-weaker c.compare.result IsOfSteps (IsNotTaken c.args.config) (steps_refuse c.args.config) c.compare.ensures.refused

pub returns-clause-witness : goal.returns-clause-witness
returns-clause-witness c =
    let none = c.in-None.ensures in
    on_ok_weaker c.look_for_an_end.result (λ stuck.
    stuck_witness c.args.config c.args.image.now c.args.results.now c.args.steps.now c.in_ok-machine.machine c.in_ok-machine.tally
    c.in_ok-machine.ensures.taken (sym c.if-not-has_no_poke.ensures) (c.if-not-is_trace.ensures.0 refl)
    c.args.number (omega (arith, none)) stuck) c.look_for_an_end.ensures.stuck

pub returns-clause-refused : goal.returns-clause-refused
returns-clause-refused c =
    IfErr-weaker c.look_for_an_end.result IsOfSteps (IsNotTaken c.args.config) (steps_refuse c.args.config) c.look_for_an_end.ensures.refused
