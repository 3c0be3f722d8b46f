use Rattle.std.proofs.Common.{◌≡◌, refl, sym, ◌∙◌}
use Rattle.std.proofs.lemmas.Slice.Eq.{bytes_eq-Decides}
use Rattle.witness_traces.proofs.round.replay_round.Goals as goal

pub returns-then-eq-clause-round : goal.returns-then-eq-clause-round
returns-then-eq-clause-round c =
    let x = c.in_ok-machine.ensures.issued in
    let same : c.as_slice.result.now ≡ c.args.movers.now = (bytes_eq-Decides c.as_slice.result.now c.args.movers.now).0 (sym c.if-eq.ensures) in (
      record {
        issued = record {
          opening = x.0.opening;
          opens = x.0.opens;
          machine = x.0.machine;
          replay = x.0.replay;
          idle = x.0.idle;
          issued = sym same ∙ (c.as_slice.ensures.value ∙ x.0.issued);
        };
        no_pokes = sym c.if-not-has_no_poke.ensures;
        trace = c.if-not-is_trace.ensures.0 refl;
      },
      x.1,
    )
