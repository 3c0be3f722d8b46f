use Rattle.std.proofs.Common.{Some, ◌∙◌, ap, refl, subst, sym, arith}
use Rattle.std.proofs.lemmas.Option.{slice_get-get_or}
use Rattle.observed_results.specs.Lines.{observed_of, with_text}
use Rattle.observed_results.specs.Parts.{AreFirsts, IsPartAdded}
use Rattle.observed_results.proofs.ObservedParts.{firsts_more, parts_more}
use Rattle.observed_results.proofs.parts.parts_of.Goals as goal

pub loop-place-init : goal.loop-place-init
loop-place-init c = rw c.new-parts.ensures (record { texts = refl; firsts = record { all = refl; each = λ part within. absurd (omega (arith, within)) } })

pub loop-place-preserved : goal.loop-place-preserved
loop-place-preserved c =
    let rs = c.args.results.now in
    let marks = c.args.words.now in
    let place = c.loop-place.place in
    let last = c.index-results-place.result in
    let old = c.loop-place.parts in
    let new = c.add_part.new.parts in
    let text = c.in_ok-text.ensures in
    let next = c.in_ok-add_part.ensures.texts ∙ ap (λ t. with_text old.texts t) text in
    record {
      texts = next
          ∙ (λ j. with_text (c.loop-place.invariant.texts j) (observed_of marks (c.index-results-place.is j)))
          ∙ sym (parts_more marks rs place last (omega arith));
      firsts = subst (λ ts. AreFirsts marks rs ts new.places) (sym next)
          (firsts_more marks rs old.texts old.places new.places place last
          (slice_get-get_or rs place last (omega arith) ∙ ap Some (sym c.index-results-place.is)) c.loop-place.invariant.firsts
          (subst (λ t. IsPartAdded old.texts t old.places place new.places) text c.in_ok-add_part.ensures.firsts));
    }
