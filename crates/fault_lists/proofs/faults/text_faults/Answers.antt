use Rattle.std.proofs.Common.{◌≡◌, ◌∙◌, ap}
use Rattle.std.proofs.lemmas.Result.{IfOk-weaker}
use Rattle.assembler.specs.Meaning.{lines_of, labels_of}
use Rattle.assembler.specs.Passes.{nows}
use Rattle.line_faults.specs.Places.{label_values}
use Rattle.fault_lists.proofs.Found.{all_of_text}
use Rattle.fault_lists.proofs.faults.text_faults.Goals as goal

pub returns : goal.returns
returns c =
    let read : nows c.in_ok-lines.lines.items ≡ lines_of c.args.text.now = c.in_ok-lines.ensures ∙ ap lines_of c.as_bytes.ensures.value in
    let once : nows c.deref.result.now ≡ lines_of c.args.text.now = ap nows c.deref.ensures.value ∙ read in
    let again : nows c.deref-2.result.now ≡ lines_of c.args.text.now = ap nows c.deref-2.ensures.value ∙ read in
    let labels : label_values c.in_ok-labels.labels ≡ labels_of (lines_of c.args.text.now) = c.in_ok-labels.ensures ∙ ap labels_of once in
    IfOk-weaker c.faults_of.result _ _ (λ faults found. all_of_text c.args.text.now _ _ faults.items again labels found) c.faults_of.ensures
