use Rattle.std.proofs.Common.{◌≡◌, ◌∙◌, ap, subst, codes, find, option_map, Some, None}
use Rattle.explain_command.specs.Topics.{is_coded, is_named, without}
use Rattle.explain_command.proofs.Choices.{fifth, fourth, third}
use Rattle.explain_command.proofs.topic.Topics.topic_asked.Goals as goal

pub returns-in-Some-first_named-2 : goal.returns-in-Some-first_named-2
returns-in-Some-first_named-2 c =
    let topics = c.args.self.now in
    let text = c.as_bytes-text.ensures.value in
    let printed = c.without-printed.ensures ∙ ap (without (codes "ultra: ")) text in
    let fault = c.without.ensures ∙ ap (without (codes "fault ")) text in
    third _ _ _ _ _
    (subst (λ p. None ≡ find (λ t. is_coded p t.name.now) topics.codes.now) printed c.in_default.ensures)
    (subst (λ p. None ≡ find (λ t. is_named p t.name.now) topics.ends.now) printed c.in_default-first_named.ensures)
    (subst (λ p. Some c.in-Some-first_named-2.topic.now ≡ find (λ t. is_named p t.name.now) topics.faults.now) fault c.in-Some-first_named-2.ensures)

pub returns-in-Some-first_named-3 : goal.returns-in-Some-first_named-3
returns-in-Some-first_named-3 c =
    let topics = c.args.self.now in
    let text = c.as_bytes-text.ensures.value in
    let printed = c.without-printed.ensures ∙ ap (without (codes "ultra: ")) text in
    let fault = c.without.ensures ∙ ap (without (codes "fault ")) text in
    fourth _ _ _ _ _ _
    (subst (λ p. None ≡ find (λ t. is_coded p t.name.now) topics.codes.now) printed c.in_default.ensures)
    (subst (λ p. None ≡ find (λ t. is_named p t.name.now) topics.ends.now) printed c.in_default-first_named.ensures)
    (subst (λ p. None ≡ find (λ t. is_named p t.name.now) topics.faults.now) fault c.in_default-first_named-2.ensures)
    (subst (λ p. Some c.in-Some-first_named-3.topic.now ≡ find (λ t. is_named p t.name.now) topics.replies.now) text c.in-Some-first_named-3.ensures)

pub returns : goal.returns
returns c =
    let topics = c.args.self.now in
    let text = c.as_bytes-text.ensures.value in
    let printed = c.without-printed.ensures ∙ ap (without (codes "ultra: ")) text in
    let fault = c.without.ensures ∙ ap (without (codes "fault ")) text in
    fifth _ _ _ _ _ _
    (subst (λ p. None ≡ find (λ t. is_coded p t.name.now) topics.codes.now) printed c.in_default.ensures)
    (subst (λ p. None ≡ find (λ t. is_named p t.name.now) topics.ends.now) printed c.in_default-first_named.ensures)
    (subst (λ p. None ≡ find (λ t. is_named p t.name.now) topics.faults.now) fault c.in_default-first_named-2.ensures)
    (subst (λ p. None ≡ find (λ t. is_named p t.name.now) topics.replies.now) text c.in_default-first_named-3.ensures)
    (subst (λ p. option_map (λ t. t.now) c.first_named-4.result ≡ find (λ t. is_named p t.name.now) topics.pages.now) text c.first_named-4.ensures)
