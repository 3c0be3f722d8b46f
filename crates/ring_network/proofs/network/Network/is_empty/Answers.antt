use Rattle.std.proofs.Common.{◌≡◌, true, false, ◌∙◌, sym}
use Rattle.ring_network.proofs.Empty.{not_empty_slots, not_empty_switches, fact}
use Rattle.ring_network.proofs.network.Network.is_empty.Goals as goal
use Rattle.ring_network.proofs.network.Network.is_empty.Goals.{then-are_free, else-are_free}

pub returns-then-are_empty : goal.returns-then-are_empty
returns-then-are_empty c =
    elim c.if-are_free.branch [
      | then-are_free w ↦ fact _ c.args.self.now c.self.view_is c.self.invariant c.rotations_are_inverse.ensures.inverse c.rotations_are_inverse.ensures.small
          c.are_free.result w.are_empty.result c.are_free-then-are_empty.result
          c.deref.result.now w.deref-then-are_free.result.now c.deref-then-are_empty.result.now
          c.deref.ensures.value w.deref-then-are_free.ensures.value c.deref-then-are_empty.ensures.value
          c.are_free.ensures w.are_empty.ensures c.are_free-then-are_empty.ensures w.if-are_free.true (sym w.value-is ∙ c.if-are_empty.true)
      | else-are_free w ↦ absurd (let no : true ≡ false = sym c.if-are_empty.true ∙ w.value-is ∙ w.if-are_free.false in cc)
    ]

pub returns-else-are_empty : goal.returns-else-are_empty
returns-else-are_empty c = (
  (λ t. absurd (let no : true ≡ false = sym t ∙ c.if-are_empty.false in cc)),
  (λ empty. elim c.if-are_free.branch [
    | then-are_free w ↦ w.value-is ∙ not_empty_switches _ c.args.self.now c.self.view_is c.self.invariant c.rotations_are_inverse.ensures.inverse
        c.rotations_are_inverse.ensures.small w.are_empty.result w.deref-then-are_free.result.now w.deref-then-are_free.ensures.value w.are_empty.ensures empty
    | else-are_free w ↦ absurd (let no : true ≡ false = sym
        (not_empty_slots _ c.args.self.now c.self.view_is c.self.invariant c.rotations_are_inverse.ensures.inverse c.rotations_are_inverse.ensures.small
        c.are_free.result c.deref.result.now c.deref.ensures.value c.are_free.ensures empty) ∙ w.if-are_free.false in cc)
  ]),
)
