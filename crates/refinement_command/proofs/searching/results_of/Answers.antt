use Rattle.std.proofs.Common.{inl, inr}
use Rattle.std.proofs.lemmas.Result.{err_from_is_err_and}
use Rattle.refinement_command.proofs.searching.results_of.Goals as goal

pub returns-in_err-image-clause-refused : goal.returns-in_err-image-clause-refused
returns-in_err-image-clause-refused g c =
    let p = err_from_is_err_and c.from_residual.result c.from_residual.ensures.1 in
    rw (p.1, p.2) (inl c.in_err-image.ensures.refused)

pub returns-in_err-machine-clause-refused : goal.returns-in_err-machine-clause-refused
returns-in_err-machine-clause-refused g c =
    let p = err_from_is_err_and c.from_residual-in_err-machine.result c.from_residual-in_err-machine.ensures.1 in
    rw (p.1, p.2) (inr (inl c.in_err-machine.ensures.refused))

pub returns-in_err-results-clause-refused : goal.returns-in_err-results-clause-refused
returns-in_err-results-clause-refused g c =
    let p = err_from_is_err_and c.from_residual-in_err-results.result c.from_residual-in_err-results.ensures.1 in
    rw (p.1, p.2)
    (inr (inr (record {
      image = c.in_ok-image.image;
      meant = c.in_ok-image.ensures.image;
      opening = c.in_ok-machine.machine;
      opens = c.in_ok-machine.ensures.opening;
      given_up = c.in_err-results.ensures.refused;
    })))

pub returns-clause-found : goal.returns-clause-found
returns-clause-found g c = record {
  image = c.in_ok-image.image;
  meant = c.in_ok-image.ensures.image;
  opening = c.in_ok-machine.machine;
  opens = c.in_ok-machine.ensures.opening;
  all = c.in_ok-results.ensures.results;
}
