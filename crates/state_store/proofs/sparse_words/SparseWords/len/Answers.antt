use Rattle.std.proofs.Common.{length, sym, ap, ◌∙◌}
use Rattle.state_store.proofs.WordLists.{listed_length}
use Rattle.state_store.proofs.sparse_words.SparseWords.len.Goals as goal

pub returns : goal.returns
returns c = sym (listed_length c.self.inside.len c.self.inside.nonzero.items) ∙ ap length c.self.view_is
