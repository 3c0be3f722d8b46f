use Rattle.std.proofs.Common.{List, ◌++◌, sym, ap, ◌∙◌}
use Rattle.std.specs.List.{fold}
use Rattle.std.specs.Hash.{slice, u32}
use Rattle.state_store.specs.declared.sparse_words.NonzeroWord.{NonzeroWord}
use Rattle.state_store.specs.SparseWords.{nonzero_words}
use Rattle.state_store.proofs.WordLists.{nonzero_listed}
use Rattle.state_store.proofs.sparse_words.SparseWordsHash.hash.Goals as goal

pub returns : goal.returns
returns g c =
    let same = c.as_slice.ensures.value
    ∙ (sym (nonzero_listed c.self.inside.len c.self.inside.nonzero.items c.self.invariant) ∙ ap nonzero_words c.self.view_is) in
    c.hash.ensures
    ∙ ap (λ (ws : List NonzeroWord). fold g.H.Hasher.write c.args.state.now (slice (λ (word : NonzeroWord). u32 word.place ++ u32 word.value) ws)) same
