use Rattle.std.proofs.Common.{◌+◌, List, take, slice_index_or, refl, sym, ap, ap₂, ◌∙◌, arith}
use Rattle.std.proofs.lemmas.List.{take_more}
use Rattle.run_counts.specs.declared.queue_lengths.StageLengths.{StageLengths}
use Rattle.run_counts.specs.QueueLengths.{rounds_waited}
use Rattle.run_counts.proofs.Waiting.{waited_more}
use Rattle.run_counts.proofs.queue_lengths.rounds_waited.Goals as goal

pub loop-one-init : goal.loop-one-init
unfolding rounds_waited
loop-one-init c = record { is = refl; few = omega arith }

pub loop-one-preserved : goal.loop-one-preserved
loop-one-preserved c =
    let l = c.loop-one in
    let xs = c.args.lengths.now in
    let none : StageLengths = record { round = 0; stage = 0; requests = 0; records = 0; replies = 0 } in
    let before = l.invariant.few in
    let small = c.number_at.type_inv in
    record {
      is =
          ap₂ (λ m n. m + n) l.invariant.is c.number_at.ensures
          ∙ sym (waited_more c.args.held c.args.stage (take l.one-index xs) (slice_index_or xs l.one-index none))
          ∙ ap (λ (ys : List StageLengths). rounds_waited c.args.held c.args.stage ys) (sym (take_more xs l.one-index none c.loop-one-test.true));
      few = omega (arith, before, small);
    }
