use Rattle.std.proofs.Common.{◌≡◌, ap, ◌∙◌, drop}
use Rattle.std.specs.List.{flat_map}
use Rattle.asm_lines.specs.Text.{parts_at}
use Rattle.course_text.specs.Constants.{constant_values, constants_of}
use Rattle.course_text.specs.Course.{plain_text, plain_from, after_feed}
use Rattle.course_text.specs.Places.{start}
use Rattle.course_text.specs.Views.{nows}
use Rattle.course_text.proofs.text.course_text.Goals as goal

pub returns-clause-text : goal.returns-clause-text
unfolding plain_text
returns-clause-text c =
    let text = c.args.text.now in
    let once : nows c.deref.result.now ≡ parts_at 10 text = ap nows c.deref.ensures.value ∙ c.in_ok-lines.ensures in
    let again : nows c.deref-2.result.now ≡ parts_at 10 text = ap nows c.deref-2.ensures.value ∙ c.in_ok-lines.ensures in
    let constants : constant_values c.in_ok-constants.constants ≡ constants_of (parts_at 10 text) = c.in_ok-constants.ensures ∙ ap constants_of once in
    c.in_ok-text.ensures.items ∙ c.after_first.ensures
    ∙ ap (drop 1) (
    c.deref-3.ensures.value ∙ c.in_ok-plain.ensures.text
    ∙ ap (λ cs. flat_map after_feed (plain_from cs start (nows c.deref-2.result.now))) constants
    ∙ ap (λ ls. flat_map after_feed (plain_from (constants_of (parts_at 10 text)) start ls)) again
    )
