use Rattle.std.proofs.Common.{◌≡◌, ◌∙◌, ◌++◌, ap, ap₂, filter_map, fold, List, ℕ}
use Rattle.assembler.specs.Meaning.{Labels, Place, after, start, lines_of, labels_of}
use Rattle.assembler.specs.Passes.{nows}
use Rattle.line_faults.specs.Places.{label_values, place_of}
use Rattle.asm_commands.specs.declared.text_label.TextLabel.{TextLabel}
use Rattle.asm_commands.specs.SymbolMaps.{end_place, label_lines, row_of_line}
use Rattle.asm_commands.proofs.symbols.symbol_map.Goals as goal

pub returns : goal.returns
returns c =
    let once : nows c.deref.result.now ≡ lines_of c.args.text.now = ap nows c.deref.ensures.value ∙ c.in_ok-lines.ensures in
    let again : nows c.deref-2.result.now ≡ lines_of c.args.text.now = ap nows c.deref-2.ensures.value ∙ c.in_ok-lines.ensures in
    let end : place_of c.in_ok-end.end ≡ end_place c.args.text.now = c.in_ok-end.ensures.place ∙ ap (fold after start) once in
    let values : label_values c.in_ok-end.end.labels ≡ labels_of (lines_of c.args.text.now) = ap (λ (p : Place). p.labels) end in
    record {
      labels = c.in_ok-labels.labels.items;
      all = c.in_ok-labels.ensures ∙ ap₂ (λ (ls : Labels) (xs : List (List ℕ)). filter_map (row_of_line ls) xs) values again;
      sorted = c.in_ok-sorted.sorted.items;
      order = c.in_ok-sorted.ensures.order;
      same = c.in_ok-sorted.ensures.same;
      lines =
          c.in_ok-push_labels.ensures
          ∙ ap (λ (front : List ℕ). front ++ label_lines (place_of c.in_ok-end.end) c.deref-3.result.now) c.new-map.ensures.bytes
          ∙ ap₂ (λ (p : Place) (ls : List TextLabel). label_lines p ls) end c.deref-3.ensures.value;
    }
