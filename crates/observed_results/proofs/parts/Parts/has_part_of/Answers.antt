use Rattle.std.proofs.Common.{List, [], ℕ, ◌∙◌, ap, refl, string_bytes, sym}
use Rattle.std.specs.Prelude.{bytes_eq, slice_index_or, string_eq}
use Rattle.std.specs.List.{list_any}
use Rattle.observed_results.specs.Parts.{PartLists}
use Rattle.observed_results.proofs.ObservedParts.{found_in, text_at}
use Rattle.observed_results.proofs.parts.Parts.has_part_of.Goals as goal

pub returns : goal.returns
returns c =
    let part = c.in-Some.part.now in
    let keys = c.self.inside.texts.keys in
    let same = sym (text_at c.others.inside.texts.keys c.args.place part (sym c.in-Some.ensures.key))
    ∙ ap (λ (s : PartLists). slice_index_or s.texts c.args.place []) c.others.view_is in
    c.contains.ensures
    ∙ (found_in keys part (string_eq part) (λ k. refl) keys
    ∙ (ap (λ (s : PartLists). list_any (bytes_eq (string_bytes part)) s.texts) c.self.view_is
    ∙ ap (λ (text : List ℕ). list_any (bytes_eq text) c.args.self.now.texts) same))
