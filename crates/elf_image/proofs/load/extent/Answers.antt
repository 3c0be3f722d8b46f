use Rattle.std.proofs.Common.{◌≡◌, ◌+◌, ◌-◌, max, arith, sym, ◌∙◌, get_or}
use Rattle.std.proofs.lemmas.Grind.{common_steps}
use Rattle.std.proofs.lemmas.Option.{slice_get-get_or}
use Rattle.elf_image.specs.Regions.{region_start}
use Rattle.elf_image.proofs.Loaded.{extent_skip, extent_next, blank}
use Rattle.elf_image.proofs.load.extent.Goals as goal
use Rattle.elf_image.proofs.load.extent.Goals.{then-sets_in, else-sets_in}

pub loop-segment-preserved : goal.loop-segment-preserved
loop-segment-preserved c =
    let ps = c.args.segments.now in
    let n = c.loop-segment.segment-index in
    let w = c.args.shared_words in
    let r = c.args.region in
    let p = get_or ps n blank in
    let old = c.loop-segment.extent in
    let at = slice_get-get_or ps n blank c.loop-segment-test.true in
    elim c.if-sets_in.branch [
      | then-sets_in v ↦
          let is : v.max-extent.result ≡ max old (p.p_vaddr + p.p_memsz - region_start r) =
          grind (arith, common_steps, v.max-extent.ensures, v.end.ensures, v.start.ensures) in
          extent_next ps w r n p at old c.if-sets_in.extent (sym c.sets_in.ensures ∙ v.if-sets_in.true) (v.extent-is ∙ is) c.loop-segment.invariant
      | else-sets_in v ↦ rw v.extent-is (extent_skip ps w r n p at old (sym c.sets_in.ensures ∙ v.if-sets_in.false) c.loop-segment.invariant)
    ]
