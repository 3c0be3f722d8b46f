use Rattle.std.proofs.Common.{◌≡◌, ◌<◌, ◌∙◌, length, arith, rules}
use Rattle.std.proofs.lemmas.List.{length-set}
use Rattle.machine_steps.specs.Runs.{flat_state}
use Rattle.debug_replies.proofs.Faulted.{all_flags, none_flagged, rest_more, more_flags}
use Rattle.debug_replies.specs.Stops.{is_faulted_at}
use Rattle.debug_replies.proofs.faults.Faults.of.Goals as goal

pub loop-processor-init : goal.loop-processor-init
loop-processor-init c = record { size = search rules; fact = λ p below. absurd (omega arith); rest = λ p from. none_flagged 64 p }

pub loop-processor-preserved : goal.loop-processor-preserved
loop-processor-preserved c =
    let i = c.loop-processor.invariant in
    let flags = c.loop-processor.flags in
    let processor = c.loop-processor.processor in
    let within : processor < length flags = omega (arith, i.size, c.loop-processor-test.true, c.flat_processors-processor-end.ensures.few) in
    record {
      size = length-set flags processor c.is_faulted.result ∙ i.size;
      fact = λ p below. more_flags flags processor c.is_faulted.result (is_faulted_at (flat_state c.args.machine.now)) within c.is_faulted.ensures i.fact p
          (omega arith);
      rest = λ p from. rest_more flags processor c.is_faulted.result i.rest p (omega arith);
    }

pub returns : goal.returns
returns c =
    let m = flat_state c.args.machine.now in
    let i = c.loop-processor.invariant in
    let all : c.loop-processor.processor ≡ length m.processors =
    omega (arith, c.loop-processor-test.false, c.loop-processor.auto.processor-end, c.flat_processors-processor-end.ensures.count) in
    all_flags c.loop-processor.flags m (λ p there. i.fact p (omega (arith, there, all))) (λ p past. i.rest p (omega (arith, past, all)))
