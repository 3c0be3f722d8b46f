use Rattle.std.proofs.Common.{◌≡◌, ◌<◌, ℕ, List, length, None, arith, ap, sym, subst, ◌∙◌, get_or}
use Rattle.std.proofs.lemmas.List.{with_items_is}
use Rattle.std.proofs.lemmas.Option.{slice_get-get_or}
use Rattle.elf_image.specs.declared.segment.ProgramHeader.{ProgramHeader}
use Rattle.elf_image.specs.Regions.{region_start}
use Rattle.elf_image.specs.Refusals.{first_of, segment_refusal, segment_refusals}
use Rattle.elf_image.specs.Loading.{CopiesSegment}
use Rattle.elf_image.proofs.Conditions.{each_none}
use Rattle.elf_image.proofs.Checked.{Checked, checked, apart}
use Rattle.elf_image.proofs.Loaded.{loaded_skip, loaded_next, blank}
use Rattle.elf_image.proofs.load.region_bytes.Goals as goal
use Rattle.elf_image.proofs.load.region_bytes.Goals.{then-sets_in, else-sets_in}

-- If the segments of a list are checked, so is the one at an index below its length.
here : (ps : List ProgramHeader) (bytes w n : ℕ) → n < length ps → first_of (segment_refusals bytes w ps) ≡ None → Checked bytes w (get_or ps n blank)
here ps bytes w n h none =
    checked bytes w (get_or ps n blank) (each_none (segment_refusal bytes w) ps n (get_or ps n blank) none (slice_get-get_or ps n blank h))

pub copy_segment-requires-clause-room : goal.copy_segment-requires-clause-room
copy_segment-requires-clause-room c =
    let ps = c.args.segments.now in
    let n = c.loop-segment.segment-index in
    let check = here ps (length c.args.file.now) c.args.shared_words n c.loop-segment-test.true c.requires.checked in
    let at = slice_get-get_or ps n blank c.loop-segment-test.true in
    let end = c.loop-segment.invariant.extent.reached n (get_or ps n blank) c.loop-segment-test.true
    (record { at = at; sets = sym c.sets_in.ensures ∙ c.if-sets_in.true }) in
    omega (arith, check.room, end, c.start-start.ensures, ap length c.deref_mut.ensures.value)

pub copy_segment-requires-clause-there : goal.copy_segment-requires-clause-there
copy_segment-requires-clause-there c =
    (here c.args.segments.now (length c.args.file.now) c.args.shared_words c.loop-segment.segment-index c.loop-segment-test.true c.requires.checked).there

pub loop-segment-preserved : goal.loop-segment-preserved
loop-segment-preserved c =
    let ps = c.args.segments.now in
    let n = c.loop-segment.segment-index in
    let w = c.args.shared_words in
    let r = c.args.region in
    let p = get_or ps n blank in
    let file = c.args.file.now in
    let old = c.loop-segment.bytes.items in
    let at = slice_get-get_or ps n blank c.loop-segment-test.true in
    let inv = c.loop-segment.invariant in
    let check = here ps (length file) w n c.loop-segment-test.true c.requires.checked in
    elim c.if-sets_in.branch [
      | then-sets_in v ↦
          let new = v.copy_segment.new.bytes in
          let joined : c.if-sets_in.bytes.items ≡ new =
          ap (λ b. b.items) v.bytes-is ∙ with_items_is c.loop-segment.bytes new (v.copy_segment.ensures.count ∙ v.deref_mut.ensures.len) in
          let from_start : CopiesSegment file p (region_start r) v.deref_mut.result.now new =
          subst (λ x. CopiesSegment file p x v.deref_mut.result.now new) c.start-start.ensures v.copy_segment.ensures in
          let from_old : CopiesSegment file p (region_start r) old new =
          subst (λ x. CopiesSegment file p (region_start r) x new) v.deref_mut.ensures.value from_start in
          let copies : CopiesSegment file p (region_start r) old c.if-sets_in.bytes.items =
          subst (λ x. CopiesSegment file p (region_start r) old x) (sym joined) from_old in
          record {
            extent = rw copies.count inv.extent;
            loaded = loaded_next ps w r n p at file old c.if-sets_in.bytes.items (sym c.sets_in.ensures ∙ v.if-sets_in.true) check.room
                (λ k q a h there s t. apart ps k n q p a c.requires.apart h there at s t) copies inv.loaded;
          }
      | else-sets_in v ↦
          let same : c.if-sets_in.bytes.items ≡ old = ap (λ b. b.items) v.bytes-is in
          record {
            extent = rw same inv.extent;
            loaded = rw same (loaded_skip ps w r n p at file old (sym c.sets_in.ensures ∙ v.if-sets_in.false) inv.loaded);
          }
    ]
