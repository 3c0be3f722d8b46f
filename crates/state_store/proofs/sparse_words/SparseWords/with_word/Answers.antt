use Rattle.std.proofs.Common.{◌≡◌, ◌<◌, length, sym, ap, subst, ◌∙◌, arith}
use Rattle.std.specs.Prelude.{slice_set}
use Rattle.state_store.specs.SparseWords.{AreWithin}
use Rattle.state_store.proofs.WordLists.{all_within, listed_length, replaced}
use Rattle.state_store.proofs.sparse_words.SparseWords.with_word.Goals as goal

pub invariant_of-result : goal.invariant_of-result
invariant_of-result c =
    let n = c.self.inside.len in
    let long : n ≡ length c.args.self.now = sym (listed_length n c.self.inside.nonzero.items) ∙ ap length c.self.view_is in
    let low : c.args.place < n = omega (arith, long, c.requires) in
    let cut = c.around.ensures n low (subst (AreWithin 0 n) (sym c.as_slice.ensures.value) c.self.invariant) in
    subst (AreWithin 0 n) (sym c.in_ok-nonzero.ensures) (all_within c.args.place n c.args.value _ _ cut.below cut.above)

pub returns : goal.returns
returns c =
    let n = c.self.inside.len in
    let long : n ≡ length c.args.self.now = sym (listed_length n c.self.inside.nonzero.items) ∙ ap length c.self.view_is in
    let low : c.args.place < n = omega (arith, long, c.requires) in
    let cut = c.around.ensures n low (subst (AreWithin 0 n) (sym c.as_slice.ensures.value) c.self.invariant) in
    replaced n c.args.place c.args.value c.as_slice.result.now c.self.inside.nonzero.items _ _ _ low c.as_slice.ensures.value cut c.in_ok-nonzero.ensures
    ∙ ap (λ xs. slice_set xs c.args.place c.args.value) c.self.view_is
