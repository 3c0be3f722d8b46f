use Rattle.std.proofs.Common.{[], length, arith}
use Rattle.std.specs.Prelude.{slice_index_or}
use Rattle.state_store.proofs.Lemmas.{rows_differ}
use Rattle.state_search.proofs.Ending.{all_found, some_found}
use Rattle.state_search.proofs.finding.explore_states.Goals as goal

pub returns-in-Ok-clause-found : goal.returns-in-Ok-clause-found
returns-in-Ok-clause-found g c =
    let few = c.in-Ok.ensures.few in
    let searched = c.in-Ok.ensures.searched in
    all_found _ _ _ _ _ _ _ searched (omega (arith, few))
    (rows_differ c.args.extent c.breadth_first-searched.new.state_tables c.breadth_first-searched.new.found.rows.keys
    (length (slice_index_or c.breadth_first-searched.new.found.rows.keys 0 [])) c.are_different.ensures c.len.ensures.unique searched.are_rows
    searched.wide)

pub returns-clause-some : goal.returns-clause-some
returns-clause-some g c =
    λ has.
    let some = c.in-Err.ensures.some has in (
      some.0,
      some_found _ _ _ _ _ _ _ some.1
          (rows_differ c.args.extent c.breadth_first-searched.new.state_tables c.breadth_first-searched.new.found.rows.keys
          (length (slice_index_or c.breadth_first-searched.new.found.rows.keys 0 [])) c.are_different.ensures c.len.ensures.unique
          some.1.searched.are_rows some.1.searched.wide),
    )
