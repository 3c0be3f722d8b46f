use Rattle.std.proofs.Common.{List, [], ℕ, ◌++◌, ◌∙◌, ap, string_bytes, sym}
use Rattle.std.specs.Prelude.{slice_index_or}
use Rattle.observed_results.specs.Lines.{heading}
use Rattle.observed_results.specs.Parts.{PartLists}
use Rattle.observed_results.proofs.ObservedParts.{text_at}
use Rattle.observed_results.proofs.parts.push_part.Goals as goal

pub returns : goal.returns
returns c =
    let old = string_bytes c.args.text.now in
    let part = c.in-Some.part.now in
    c.in_ok-push_str.ensures.bytes
    ∙ (λ j. c.in_ok-push_heading.ensures j ++ c.as_str.ensures.value j)
    ∙ ap (λ (x : List ℕ). old ++ heading c.args.place ++ x) (sym (text_at c.parts.inside.texts.keys c.args.place part (sym c.in-Some.ensures.key)))
    ∙ ap (λ (s : PartLists). old ++ heading c.args.place ++ slice_index_or s.texts c.args.place []) c.parts.view_is
