use Rattle.std.proofs.Common.{sym, ap, ◌∙◌}
use Rattle.state_store.specs.SparseWords.{nonzero_words}
use Rattle.state_store.proofs.WordLists.{nonzero_listed}
use Rattle.state_store.proofs.sparse_words.SparseWords.nonzero.Goals as goal

pub returns : goal.returns
returns c =
    c.as_slice.ensures.value
    ∙ (sym (nonzero_listed c.self.inside.len c.self.inside.nonzero.items c.self.invariant) ∙ ap nonzero_words c.self.view_is)
