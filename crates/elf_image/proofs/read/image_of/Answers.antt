use Rattle.std.proofs.Common.{◌≡◌, ℕ, ◌≤◌, true, false, List, length, None, sym, ap, subst, ◌∙◌, rules}
use Rattle.elf_image.specs.declared.header.FileHeader.{FileHeader}
use Rattle.elf_image.specs.declared.layout.Layout.{Layout}
use Rattle.elf_image.specs.declared.region.Region.TheVariants.{Code, Local, Shared}
use Rattle.elf_image.specs.declared.segment.ProgramHeader.{ProgramHeader}
use Rattle.elf_image.specs.Headers.{file_header, segments}
use Rattle.elf_image.specs.Refusals.{is_entry, header_refusal, segment_refusals, first_of, have_overlap}
use Rattle.elf_image.specs.Loading.{IsLoaded}
use Rattle.elf_image.specs.Images.{IsCause, IsMeant}
use Rattle.elf_image.proofs.Conditions.{if_err}
use Rattle.elf_image.proofs.Meant.{Passed, accepted, meant, placed}
use Rattle.elf_image.proofs.Causes.{cause_headers, cause_segments, cause_overlap, cause_entry}
use Rattle.elf_image.proofs.read.image_of.Goals as goal

passed_by : (w : ℕ) (file : List ℕ) (header : FileHeader) (ps qs : List ProgramHeader) → header ≡ file_header file → ps ≡ segments file → qs ≡ segments file →
    length file ≤ 1048576 → header_refusal file ≡ None → first_of (segment_refusals (length file) w ps) ≡ None → have_overlap qs ≡ false →
    is_entry header.e_entry ≡ true →
    Passed w file
passed_by w file header ps qs same there again short headers filed disjoint enters = record {
  short = short;
  headers = headers;
  filed = ap (λ xs. first_of (segment_refusals (length file) w xs)) (sym there) ∙ filed;
  disjoint = ap have_overlap (sym again) ∙ disjoint;
  enters = ap (λ (h : FileHeader). is_entry h.e_entry) (sym same) ∙ enters;
}

checked_there : (w : ℕ) (file : List ℕ) (ps : List ProgramHeader) → ps ≡ segments file → first_of (segment_refusals (length file) w ps) ≡ None →
    first_of (segment_refusals (length file) w (segments file)) ≡ None
checked_there w file ps e h = ap (λ qs. first_of (segment_refusals (length file) w qs)) (sym e) ∙ h

meant_by : (w : ℕ) (file : List ℕ) (passed : Passed w file) (ps : List ProgramHeader) (layout : Layout) → ps ≡ segments file →
    layout.entry ≡ (file_header file).e_entry →
    IsLoaded file ps w Code layout.code → IsLoaded file ps w Local layout.local → IsLoaded file ps w Shared layout.shared → IsMeant w file layout
meant_by w file passed ps layout same entry code local shared = meant w file passed layout entry (subst (λ qs. IsLoaded file qs w Code layout.code) same code)
    (subst (λ qs. IsLoaded file qs w Local layout.local) same local) (subst (λ qs. IsLoaded file qs w Shared layout.shared) same shared)

pub new-requires : goal.new-requires
new-requires c =
    let file = c.args.file.now in
    let w = c.args.shared_words in
    let ps = c.segments_of-segments.ensures in
    let passed =
    passed_by w file _ _ _ c.in_ok-header.ensures.value (c.as_slice.ensures.value ∙ ps)
    (c.as_slice-2.ensures.value ∙ ps) c.requires c.in_ok-header.ensures.ok c.in_ok-check_each.ensures.ok
    (sym c.have_overlap.ensures ∙ c.if-have_overlap.false) (sym c.has_entry.ensures ∙ c.if-not-has_entry.false) in
    let layout = c.in_ok-layout.ensures in
    let is_meant = meant_by w file passed _ c.in_ok-layout.layout (c.as_slice-3.ensures.value ∙ ps)
    (layout.entry ∙ ap (λ h. h.e_entry) c.in_ok-header.ensures.value) layout.code layout.local layout.shared in
    placed w file passed c.in_ok-layout.layout is_meant

pub returns-in_err-header-clause-refused : goal.returns-in_err-header-clause-refused
returns-in_err-header-clause-refused c =
    if_err c.from_residual.result c.in_err-header.field-0.0 (IsCause c.args.shared_words c.args.file.now) c.from_residual.ensures.1
    (cause_headers c.args.shared_words c.args.file.now c.requires _ c.in_err-header.ensures.refused)

pub returns-in_err-check_each-clause-refused : goal.returns-in_err-check_each-clause-refused
returns-in_err-check_each-clause-refused c =
    let file = c.args.file.now in
    let w = c.args.shared_words in
    let there = ap (λ qs. first_of (segment_refusals (length file) w qs)) (sym (c.as_slice.ensures.value ∙ c.segments_of-segments.ensures))
    ∙ c.in_err-check_each.ensures.refused in
    if_err c.from_residual-in_err-check_each.result c.in_err-check_each.field-0.0 (IsCause w file) c.from_residual-in_err-check_each.ensures.1
    (cause_segments w file c.requires _ c.in_ok-header.ensures.ok there)

pub returns-then-have_overlap-clause-refused : goal.returns-then-have_overlap-clause-refused
returns-then-have_overlap-clause-refused c =
    let file = c.args.file.now in
    let ps = c.segments_of-segments.ensures in
    cause_overlap c.args.shared_words file c.requires c.in_ok-header.ensures.ok
    (checked_there c.args.shared_words file _ (c.as_slice.ensures.value ∙ ps) c.in_ok-check_each.ensures.ok)
    (ap have_overlap (sym (c.as_slice-2.ensures.value ∙ ps)) ∙ sym c.have_overlap.ensures ∙ c.if-have_overlap.true)

pub returns-then-not-has_entry-clause-refused : goal.returns-then-not-has_entry-clause-refused
returns-then-not-has_entry-clause-refused c =
    let file = c.args.file.now in
    let ps = c.segments_of-segments.ensures in
    cause_entry c.args.shared_words file c.requires c.in_ok-header.ensures.ok
    (checked_there c.args.shared_words file _ (c.as_slice.ensures.value ∙ ps) c.in_ok-check_each.ensures.ok)
    (ap have_overlap (sym (c.as_slice-2.ensures.value ∙ ps)) ∙ sym c.have_overlap.ensures ∙ c.if-have_overlap.false)
    (ap (λ h. is_entry h.e_entry) (sym c.in_ok-header.ensures.value) ∙ sym c.has_entry.ensures ∙ c.if-not-has_entry.true)

pub returns : goal.returns
returns c =
    let file = c.args.file.now in
    let w = c.args.shared_words in
    let ps = c.segments_of-segments.ensures in
    let passed =
    passed_by w file _ _ _ c.in_ok-header.ensures.value (c.as_slice.ensures.value ∙ ps)
    (c.as_slice-2.ensures.value ∙ ps) c.requires c.in_ok-header.ensures.ok c.in_ok-check_each.ensures.ok
    (sym c.have_overlap.ensures ∙ c.if-have_overlap.false) (sym c.has_entry.ensures ∙ c.if-not-has_entry.false) in
    let layout = c.in_ok-layout.ensures in
    let is_meant = meant_by w file passed _ c.in_ok-layout.layout (c.as_slice-3.ensures.value ∙ ps)
    (layout.entry ∙ ap (λ h. h.e_entry) c.in_ok-header.ensures.value) layout.code layout.local layout.shared in
    record { shared_words = search rules; accepted = accepted w file passed; meant = rw c.new.ensures is_meant; refused = search rules }
