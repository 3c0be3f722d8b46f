use Rattle.std.proofs.Common.{Some, None, inl, inr, refl, subst}
use Rattle.explore_command.specs.Explorations.{IsExitOf}
use Rattle.explore_command.proofs.sizes.line_of.Goals as goal

pub returns-in_ok-line_of_explored-in-Ok-clause-line : goal.returns-in_ok-line_of_explored-in-Ok-clause-line
returns-in_ok-line_of_explored-in-Ok-clause-line g c =
    let found = c.in-Ok.explored in
    let line = c.in_ok-line_of_explored-in-Ok.ensures in
    record {
      fault = None;
      is = inl (record {
        found = record {
          classes = found.classes.items;
          results = found.results.items;
          termination = found.termination;
          fairness = found.fairness;
          states = found.states;
        };
        is = c.in-Ok.ensures.found;
        greatest = line.0;
        greatest_is = line.1;
        line_is = line.2;
        exit = subst (λ rs. IsExitOf rs found.termination c.exit_status.result) c.as_slice.ensures.value c.exit_status.ensures.exit;
        faultless = refl;
      });
      reported = refl;
    }

pub returns-in_ok-line-in-Err-clause-line : goal.returns-in_ok-line-in-Err-clause-line
returns-in_ok-line-in-Err-clause-line g c = record {
  fault = Some c.in-Err.fault;
  is = inr (record {
    why = c.in-Err.fault;
    cause = c.in-Err.ensures.refused;
    size = λ out. let same = c.in-Err.ensures.size out in cc;
    line_is = c.in_ok-line-in-Err.ensures;
    exit = c.report_fault.ensures.fault;
    reported = refl;
  });
  reported = (c.report_fault.new.err, c.report_fault.ensures.reported, refl);
}
