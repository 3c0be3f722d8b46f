use Rattle.std.proofs.Common.{map, ◌∙◌, arith}
use Rattle.std.proofs.lemmas.List.{length-map, take_all}
use Rattle.machine_steps.specs.Openings.{flat_state}
use Rattle.property_command.specs.Counterexamples.{processor_seen}
use Rattle.property_command.proofs.Seen.{seen_more}
use Rattle.property_command.proofs.counterexample.processors_of.Goals as goal

pub loop-p-preserved : goal.loop-p-preserved
loop-p-preserved c =
    seen_more (flat_state c.args.machine.now).processors c.loop-p.p c.in-Some.pc c.in-Some-flat_status.status c.loop-p.processors.items c.push.new.self.items
    c.in-Some.ensures c.in-Some-flat_status.ensures c.loop-p.invariant c.in_ok-push.ensures.items

pub returns : goal.returns
returns c =
    let all = map processor_seen (flat_state c.args.machine.now).processors in
    let count = length-map (flat_state c.args.machine.now).processors processor_seen in
    c.loop-p.invariant ∙ take_all c.loop-p.p all (omega (arith, count, c.flat_processors-p-end.ensures.count))
