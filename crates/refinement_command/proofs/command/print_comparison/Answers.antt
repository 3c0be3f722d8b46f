use Rattle.std.proofs.Common.{◌≡◌, inl, inr, refl, subst, length}
use Rattle.std.specs.Prelude.{string_bytes}
use Rattle.std.proofs.lemmas.Result.{err_from_is_err_and}
use Rattle.std.specs.Io.KnownBytes.{Appends}
use Rattle.link.specs.Transfer.{AppendsPart}
use Rattle.observed_results.specs.Lines.{observed_parts}
use Rattle.observed_results.specs.Outcomes.{missing_in}
use Rattle.refinement_command.proofs.Refining.{a_status}
use Rattle.refinement_command.proofs.command.print_comparison.Goals as goal

pub returns-in_err-text-clause-refused : goal.returns-in_err-text-clause-refused
returns-in_err-text-clause-refused g c =
    let p = err_from_is_err_and c.from_residual.result c.from_residual.ensures.1 in
    rw (p.1, p.2) (inl refl)

pub returns-in_err-print-clause-refused : goal.returns-in_err-print-clause-refused
returns-in_err-print-clause-refused g c =
    let p = err_from_is_err_and c.from_residual-in_err-print.result c.from_residual-in_err-print.ensures.1 in
    let f = c.in_err-print.ensures.begun in
    let some = a_status (length (observed_parts c.args.words.now (missing_in c.args.words.now c.args.others.now c.args.results.now))) in
    rw (p.1, p.2, f.0)
    (inr (
      refl,
      record {
        text = string_bytes c.in_ok-text.text;
        meant = (some.0, record { lines = c.in_ok-text.ensures.lines; none = some.1; some = some.2 });
        part = subst (λ bytes. AppendsPart (g.W.Write.contents c.args.out.now) (g.W.Write.contents c.print.new.out) bytes) c.as_str.ensures.value f.1;
      },
    ))

pub returns-clause-printed : goal.returns-clause-printed
returns-clause-printed g c =
    let count = c.in_ok-text.ensures.missing in
    record {
      text = string_bytes c.in_ok-text.text;
      meant = record {
        lines = c.in_ok-text.ensures.lines;
        none = subst (λ n. n ≡ 0 → c.status_of.result ≡ 0) count c.status_of.ensures.none;
        some = subst (λ n. (n ≡ 0 → ⊥) → c.status_of.result ≡ 1) count c.status_of.ensures.some;
      };
      printed = subst (λ bytes. Appends (g.W.Write.contents c.args.out.now) (g.W.Write.contents c.print.new.out) bytes) c.as_str.ensures.value
          c.in_ok-print.ensures.printed;
    }
