use Rattle.std.proofs.Common.{◌≡◌, ℕ, ◌+◌, ◌*◌, false, arith, ap, ◌∙◌, eq-eqb}
use Rattle.std.proofs.lemmas.Bool.Decides.{nat_tests}
use Rattle.arrayvec.specs.ArrayVec.{array_vec_len}
use Rattle.elf_image.specs.Headers.{file_header, program_header, is_load}
use Rattle.elf_image.proofs.Loads.{load_more, load_same}
use Rattle.elf_image.proofs.segment.segments_of.Goals as goal
use Rattle.elf_image.proofs.segment.segments_of.Goals.{then-entry-eq-PT_LOAD, else-entry-eq-PT_LOAD}

pub loop-number-preserved : goal.loop-number-preserved
loop-number-preserved c =
    let file = c.args.file.now in
    let n = c.loop-number.number in
    let f = λ (k : ℕ). program_header file ((file_header file).e_phoff + 32 * k) in
    let old = c.loop-number.segments.items in
    let entry = c.at-entry.result in
    let is : entry ≡ f n = c.at-entry.ensures ∙ ap (program_header file) (c.program_header_place.ensures ∙ ap (λ h. h.e_phoff + 32 * n) c.requires.header) in
    let inv = c.loop-number.invariant in
    elim c.if-entry-eq-PT_LOAD.branch [
      | then-entry-eq-PT_LOAD w ↦ (
        load_more f n old c.if-entry-eq-PT_LOAD.segments.items entry inv.0 is (eq-eqb entry.p_type 1 w.if-entry-eq-PT_LOAD.true)
            (ap (λ s. s.items) w.segments-is ∙ w.push.ensures.items),
        omega (arith, ap array_vec_len w.segments-is, w.push.ensures.len, inv.1),
      )
      | else-entry-eq-PT_LOAD w ↦
          let test : is_load entry ≡ false = grind (arith, nat_tests, w.if-entry-eq-PT_LOAD.false) in (
            load_same f n old c.if-entry-eq-PT_LOAD.segments.items entry inv.0 is test (ap (λ s. s.items) w.segments-is),
            omega (arith, ap array_vec_len w.segments-is, inv.1),
          )
    ]
