use Rattle.std.proofs.Common.{◌∙◌, ap, refl, subst, string_bytes}
use Rattle.std.specs.Prelude.{string_eq}
use Rattle.observed_results.specs.Lines.{with_text}
use Rattle.observed_results.specs.Parts.{IsPartAdded, PartLists}
use Rattle.observed_results.proofs.ObservedParts.{part_added, part_kept, texts_more}
use Rattle.observed_results.proofs.parts.add_part.Goals as goal

pub returns-in_ok-push-clause-texts : goal.returns-in_ok-push-clause-texts
returns-in_ok-push-clause-texts c =
    texts_more c.parts.inside.texts.keys c.args.text (string_eq c.args.text) (λ k. refl) c.insert_full.new.self.keys c.in-Ok.ensures.keys
    ∙ ap (λ (s : PartLists). with_text s.texts (string_bytes c.args.text)) c.parts.view_is

pub returns-in_ok-push-clause-firsts : goal.returns-in_ok-push-clause-firsts
returns-in_ok-push-clause-firsts c =
    subst (λ (s : PartLists). IsPartAdded s.texts (string_bytes c.args.text) s.places c.args.place c.push.new.self.items) c.parts.view_is
    (part_added c.parts.inside.texts.keys c.args.text (string_eq c.args.text) (λ k. refl) c.parts.inside.firsts.items
    c.push.new.self.items c.args.place c.in-Ok.is_new c.in-Ok.ensures.added c.if-is_new.true c.in_ok-push.ensures.items)

pub returns-else-is_new-clause-texts : goal.returns-else-is_new-clause-texts
returns-else-is_new-clause-texts c =
    texts_more c.parts.inside.texts.keys c.args.text (string_eq c.args.text) (λ k. refl) c.insert_full.new.self.keys c.in-Ok.ensures.keys
    ∙ ap (λ (s : PartLists). with_text s.texts (string_bytes c.args.text)) c.parts.view_is

pub returns-else-is_new-clause-firsts : goal.returns-else-is_new-clause-firsts
returns-else-is_new-clause-firsts c =
    subst (λ (s : PartLists). IsPartAdded s.texts (string_bytes c.args.text) s.places c.args.place c.parts.inside.firsts.items) c.parts.view_is
    (part_kept c.parts.inside.texts.keys c.args.text (string_eq c.args.text) (λ k. refl) c.parts.inside.firsts.items c.args.place
    c.in-Ok.is_new c.in-Ok.ensures.added c.if-is_new.false)
