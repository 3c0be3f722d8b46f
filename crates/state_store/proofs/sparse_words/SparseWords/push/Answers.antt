use Rattle.std.proofs.Common.{◌≡◌, ◌+◌, ◌++◌, ◌∷◌, [], length, sym, ap, subst, ◌∙◌, arith}
use Rattle.state_store.specs.SparseWords.{AreWithin, listed_words, stored}
use Rattle.state_store.proofs.WordLists.{joined_within, listed_length, pushed, stored_within}
use Rattle.state_store.proofs.sparse_words.SparseWords.push.Goals as goal

pub overflow_add-self : goal.overflow_add-self
overflow_add-self c =
    let long : c.self.inside.len ≡ length c.args.self.now =
    sym (listed_length c.self.inside.len c.self.inside.nonzero.items) ∙ ap length c.self.view_is in
    omega (arith, long, c.requires)

pub invariant_of-self-2 : goal.invariant_of-self-2
invariant_of-self-2 c =
    let n = c.self.inside.len in
    subst (AreWithin 0 (n + 1)) (sym c.in_ok-store.ensures.stored)
    (joined_within 0 n (n + 1) c.self.inside.nonzero.items (stored n c.args.value) c.self.invariant (stored_within n c.args.value))

pub returns-clause-pushed : goal.returns-clause-pushed
returns-clause-pushed c =
    let n = c.self.inside.len in
    ap (listed_words (n + 1)) c.in_ok-store.ensures.stored
    ∙ (pushed n c.args.value c.self.inside.nonzero.items c.self.invariant ∙ ap (λ xs. xs ++ c.args.value ∷ []) c.self.view_is)
