use Rattle.std.proofs.Common.{◌≡◌, ◌==◌, List, length, refl, subst, sym, true}
use Rattle.exploration.specs.local_reduction.Results.{FinalResult}
use Rattle.witness_traces.proofs.Leading.{none_contained}
use Rattle.witness_traces.proofs.witness.look_for_an_end.Goals as goal

pub returns-then-is_empty-clause-stuck : goal.returns-then-is_empty-clause-stuck
returns-then-is_empty-clause-stuck c =
    let empty = subst (λ (rs : List FinalResult). (length rs == 0) ≡ true) c.as_slice.ensures.value (sym c.if-is_empty.ensures) in record {
      idle = c.if-not-is_idle.ensures.idle.0 refl;
      never = λ q h. let x = c.in-Ok.ensures.complete q h in none_contained c.in-Ok.found.results.items empty x.0 x.1;
    }
