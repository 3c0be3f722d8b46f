use Rattle.std.proofs.Common.{subst}
use Rattle.state_store.specs.StateTables.{AreDifferent}
use Rattle.state_store.proofs.Differing.{are_different}
use Rattle.state_store.proofs.state_tables.StateTables.are_different.Goals as goal

pub returns : goal.returns
returns c =
    subst AreDifferent c.self.view_is
    (are_different (record {
      live = c.self.inside.live;
      local_states = c.self.inside.local_states.keys;
      words = c.self.inside.words.keys;
    }) c.self.invariant c.len.ensures.unique c.len-2.ensures.unique)
