use Rattle.std.proofs.Common.{ap, sym, ◌∙◌}
use Rattle.course_text.specs.Constants.{defines, named_number}
use Rattle.course_text.specs.Views.{nows, parts_view}
use Rattle.course_text.proofs.Defining.{constant_of}
use Rattle.course_text.proofs.definitions.constant_in.Goals as goal

pub returns : goal.returns
returns c =
    c.named_number.ensures ∙ ap named_number (ap nows c.deref.ensures.value ∙ c.in_ok-words.ensures)
    ∙ constant_of c.args.line.now (parts_view c.of.result) c.of.ensures
    (sym (c.defines.ensures ∙ ap defines c.find.ensures) ∙ c.if-not-defines.false) (sym c.in_ok-is_plain.ensures ∙ c.if-branch.false)
