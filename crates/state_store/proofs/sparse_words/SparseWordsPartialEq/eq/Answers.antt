use Rattle.std.proofs.Common.{◌≡◌, nat_eq, sym, ◌∙◌}
use Rattle.std.specs.Bool.{Decides}
use Rattle.std.specs.Cmp.Lexicographic.{bytes_decides, pointwise}
use Rattle.std.proofs.lemmas.Bool.Decides.{Decides-eqb, same_from_decides}
use Rattle.std.proofs.lemmas.Slice.Eq.{slice_eq-Decides}
use Rattle.state_store.specs.SparseWords.{listed_words}
use Rattle.state_store.proofs.WordLists.{same_listed, words_decide}
use Rattle.state_store.proofs.sparse_words.SparseWordsPartialEq.eq.Goals as goal

pub returns-then-self-other : goal.returns-then-self-other
returns-then-self-other c =
    let a = c.self.inside in
    let b = c.other.inside in
    let parts = slice_eq-Decides words_decide c.as_slice.result.now c.as_slice-then-self-other.result.now c.eq.result c.eq.ensures in
    let whole : Decides c.eq.result (c.args.self.now ≡ c.args.other.now) = (
      (λ t. sym c.self.view_is
          ∙ ((λ i. listed_words (c.if-self-other.true i)
          ((sym c.as_slice.ensures.value ∙ (parts.0 t ∙ c.as_slice-then-self-other.ensures.value)) i)) ∙ c.other.view_is)),
      (λ same. parts.1 (c.as_slice.ensures.value
          ∙ ((same_listed a.len b.len a.nonzero.items b.nonzero.items c.self.invariant c.other.invariant
          (c.self.view_is ∙ (same ∙ sym c.other.view_is))).1
          ∙ sym c.as_slice-then-self-other.ensures.value))),
    ) in
    same_from_decides c.eq.result (pointwise nat_eq c.args.self.now c.args.other.now) whole (bytes_decides c.args.self.now c.args.other.now)

pub returns-else-self-other : goal.returns-else-self-other
returns-else-self-other c =
    let a = c.self.inside in
    let b = c.other.inside in
    let whole : Decides (nat_eq a.len b.len) (c.args.self.now ≡ c.args.other.now) = (
      (λ t. absurd (c.if-self-other.false ((Decides-eqb a.len b.len).0 t))),
      (λ same. (Decides-eqb a.len b.len).1 (same_listed a.len b.len a.nonzero.items b.nonzero.items c.self.invariant c.other.invariant
          (c.self.view_is ∙ (same ∙ sym c.other.view_is))).0),
    ) in
    same_from_decides (nat_eq a.len b.len) (pointwise nat_eq c.args.self.now c.args.other.now) whole (bytes_decides c.args.self.now c.args.other.now)
