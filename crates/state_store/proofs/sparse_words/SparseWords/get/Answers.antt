use Rattle.std.proofs.Common.{arith}
use Rattle.state_store.proofs.WordLists.{read_head, read_none}
use Rattle.state_store.proofs.sparse_words.SparseWords.get.Goals as goal

pub returns-in-len1-up-clause-word : goal.returns-in-len1-up-clause-word
returns-in-len1-up-clause-word c =
    read_head c.self.inside.len c.args.place c.first_from.result c.args.self.now c.self.inside.nonzero.items
    c.as_slice-nonzero.result.now c.split_at.result.1.now (record { place = 0; value = 0 }) c.self.view_is c.self.invariant
    c.as_slice-nonzero.ensures.value c.split_at.ensures.back c.first_from.ensures.before
    c.in-len1-up.len_at_least c.if-word-place.true

pub returns-in_default-clause-word : goal.returns-in_default-clause-word
returns-in_default-clause-word c =
    read_none c.self.inside.len c.args.place c.first_from.result c.args.self.now c.self.inside.nonzero.items
    c.as_slice-nonzero.result.now c.split_at.result.1.now (record { place = 0; value = 0 }) c.self.view_is c.self.invariant
    c.as_slice-nonzero.ensures.value c.split_at.ensures.back c.first_from.ensures.before
    c.first_from.ensures.rest (λ some here. omega (arith, some, c.in_default.len_below))

pub returns-in_default-2-clause-word : goal.returns-in_default-2-clause-word
returns-in_default-2-clause-word c =
    read_none c.self.inside.len c.args.place c.first_from.result c.args.self.now c.self.inside.nonzero.items
    c.as_slice-nonzero.result.now c.split_at.result.1.now (record { place = 0; value = 0 }) c.self.view_is c.self.invariant
    c.as_slice-nonzero.ensures.value c.split_at.ensures.back c.first_from.ensures.before
    c.first_from.ensures.rest (λ some here. c.if-word-place.false here)
