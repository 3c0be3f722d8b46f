use Rattle.std.proofs.Common.{refl, sym, subst}
use Rattle.std.proofs.lemmas.Result.{IfErr-weaker}
use Rattle.command_io.specs.Files.{IsWhole}
use Rattle.trace_text.specs.Commands.{StepsFail}
use Rattle.trace_text.proofs.from_text.execute.Goals as goal

pub returns-clause-fault : goal.returns-clause-fault
returns-clause-fault g c =
    let known = g.R.Read.remaining c.args.file.now in
    let old = g.W.Write.contents c.args.out.now in
    let new = g.W.Write.contents c.write_schedule.new.out in
    let whole = subst (λ text. IsWhole known text) (sym c.as_slice.ensures.value) c.in_ok-text.ensures.read in
    IfErr-weaker c.write_schedule.result _ _ (λ refusal begun. subst (λ r. StepsFail known old new r) (sym begun.0) (
      refl,
      record {
        text = _;
        meant = record { text = c.as_slice.result.now; whole = whole; trace = c.in_ok-trace.trace; said = c.in_ok-trace.ensures.said; spelled = refl };
        part = begun.1;
      },
    )) c.write_schedule.ensures.begun
