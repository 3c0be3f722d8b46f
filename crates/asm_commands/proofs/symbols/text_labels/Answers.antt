use Rattle.std.proofs.Common.{◌≡◌, ◌∙◌, ap, ap₂, filter_map, List, ℕ}
use Rattle.std.proofs.lemmas.Result.{IfOk-weaker}
use Rattle.assembler.specs.Meaning.{Labels, Place, lines_of, labels_of}
use Rattle.assembler.specs.Passes.{nows}
use Rattle.line_faults.specs.Places.{label_values}
use Rattle.asm_commands.specs.SymbolMaps.{row_of_line}
use Rattle.asm_commands.proofs.symbols.text_labels.Goals as goal

pub returns : goal.returns
returns c =
    let once : nows c.deref.result.now ≡ lines_of c.args.text.now = ap nows c.deref.ensures.value ∙ c.in_ok-lines.ensures in
    let again : nows c.deref-2.result.now ≡ lines_of c.args.text.now = ap nows c.deref-2.ensures.value ∙ c.in_ok-lines.ensures in
    let values : label_values c.in_ok-end.end.labels ≡ labels_of (lines_of c.args.text.now) =
    ap (λ (p : Place). p.labels) c.in_ok-end.ensures.place ∙ ap labels_of once in
    IfOk-weaker c.labels_in.result _ _ (λ labels are. are ∙ ap₂ (λ (ls : Labels) (xs : List (List ℕ)). filter_map (row_of_line ls) xs) values again)
    c.labels_in.ensures
