use Rattle.std.proofs.Common.{◌≡◌, ◌-◌, ap, ◌∙◌}
use Rattle.std.specs.Prelude.{slice_get}
use Rattle.std.proofs.lemmas.Result.{err_from_is_err_and}
use Rattle.assembler.specs.Meaning.{lines_of, IsMeaning}
use Rattle.assembler.specs.Passes.{nows}
use Rattle.assembler.proofs.LineByLine.{pieces_are, present, meaning_from}
use Rattle.assembler.proofs.passes.assemble.Goals as goal

pub returns-in_err-placed-clause-fault : goal.returns-in_err-placed-clause-fault
returns-in_err-placed-clause-fault c =
    let p = err_from_is_err_and c.from_residual.result c.from_residual.ensures.1 in
    let same : nows c.deref.result.now ≡ lines_of c.args.text.now = ap nows c.deref.ensures.value ∙ c.in-Ok.ensures ∙ ap lines_of c.as_bytes.ensures.value in
    rw (p.1, p.2) (λ not_memory.
    (c.in_err-placed.ensures.line not_memory, present c.args.text.now c.deref.result.now _ _ same (c.in_err-placed.ensures.err not_memory)))

pub returns-in_err-layout-clause-fault : goal.returns-in_err-layout-clause-fault
returns-in_err-layout-clause-fault c =
    let p = err_from_is_err_and c.from_residual-in_err-layout.result c.from_residual-in_err-layout.ensures.1 in
    let same : nows c.deref.result.now ≡ lines_of c.args.text.now = ap nows c.deref.ensures.value ∙ c.in-Ok.ensures ∙ ap lines_of c.as_bytes.ensures.value in
    let pieces = pieces_are c.args.text.now c.deref.result.now c.in_ok-placed.placed.items c.in_ok-placed.cursor same c.in_ok-placed.ensures.ok
    c.in_ok-placed.ensures.after in
    rw (p.1, p.2) (λ not_memory. let h = c.in_err-layout.ensures.err not_memory in
    (h.0, ap (λ all. slice_get all (c.in_err-layout.field-0.0.line - 1)) pieces.1 ∙ (rw c.deref-2.ensures.value at h.1)))

pub new-requires : goal.new-requires
new-requires c =
    let same : nows c.deref.result.now ≡ lines_of c.args.text.now = ap nows c.deref.ensures.value ∙ c.in-Ok.ensures ∙ ap lines_of c.as_bytes.ensures.value in
    let h = c.in_ok-layout.ensures in
    let now = c.deref-2.ensures.value in
    let meant : IsMeaning c.args.text.now c.in_ok-layout.layout =
    meaning_from c.args.text.now c.deref.result.now c.in_ok-placed.placed.items c.in_ok-placed.cursor c.in_ok-layout.layout same c.in_ok-placed.ensures.ok
    c.in_ok-placed.ensures.after
    (rw now at h.faultless) (rw now at h.code) (rw now at h.local) (rw now at h.shared) (h.entry ∙ c.entry_of-entry.ensures) in
    c.meaning_fits.ensures c.args.text.now c.in_ok-layout.layout meant

pub returns-clause-meaning : goal.returns-clause-meaning
returns-clause-meaning c =
    let same : nows c.deref.result.now ≡ lines_of c.args.text.now = ap nows c.deref.ensures.value ∙ c.in-Ok.ensures ∙ ap lines_of c.as_bytes.ensures.value in
    let h = c.in_ok-layout.ensures in
    let now = c.deref-2.ensures.value in
    let meant : IsMeaning c.args.text.now c.in_ok-layout.layout =
    meaning_from c.args.text.now c.deref.result.now c.in_ok-placed.placed.items c.in_ok-placed.cursor c.in_ok-layout.layout same c.in_ok-placed.ensures.ok
    c.in_ok-placed.ensures.after
    (rw now at h.faultless) (rw now at h.code) (rw now at h.local) (rw now at h.shared) (h.entry ∙ c.entry_of-entry.ensures) in
    rw c.new.ensures meant
