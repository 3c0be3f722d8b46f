use Rattle.std.proofs.Common.{ap, ◌∙◌}
use Rattle.std.proofs.lemmas.Result.{IfOk-weaker}
use Rattle.asm_lines.specs.Text.{parts_at}
use Rattle.assembler.specs.Passes.{nows}
use Rattle.asm_commands.specs.Courses.{Lines}
use Rattle.asm_commands.proofs.Courses.{listed_of}
use Rattle.asm_commands.proofs.course_check.listed_faults.Goals as goal

pub returns : goal.returns
returns c =
    let ls : Lines = record { course = nows c.deref.result.now; plain = nows c.deref-2.result.now; origins = c.args.numbers.now } in
    let course = ap nows c.deref.ensures.value ∙ c.in_ok-course.ensures in
    let plain = ap nows c.deref-2.ensures.value ∙ c.in_ok-plain.ensures ∙ ap (parts_at 10) (c.as_bytes.ensures.value ∙ c.requires.text) in
    IfOk-weaker c.course_faults.result _ _ (λ listed is. is ∙ listed_of c.args.bytes.now ls c.args.faults.now course plain c.requires.numbers)
    c.course_faults.ensures
