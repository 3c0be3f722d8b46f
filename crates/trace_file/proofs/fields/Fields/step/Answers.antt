use Rattle.std.proofs.Common.{◌≡◌, ap, ◌∙◌, true}
use Rattle.trace_file.specs.Records.{fields_of, has_record}
use Rattle.trace_file.proofs.Numbers.{same_fields}
use Rattle.trace_file.proofs.Named.{only_named}
use Rattle.trace_file.proofs.Written.{on_none}
use Rattle.trace_file.proofs.fields.Fields.step.Goals as goal
use Rattle.trace_file.proofs.fields.Fields.step.Goals.{else-eq-via-then-eq+else-has_record, else-eq-via-else-eq}

pub returns-in_err-step-clause-none : goal.returns-in_err-step-clause-none
returns-in_err-step-clause-none c =
    on_none c.from_residual.result _ (λ step h same.
    let found = only_named c.args.k c.args.self.now _ step c.named_step.ensures h same in
    let was = c.in_err-step.was in
    cc)

pub returns-else-eq-clause-none : goal.returns-else-eq-clause-none
returns-else-eq-clause-none c = λ step h same.
    let found = only_named c.args.k c.args.self.now _ step c.named_step.ensures h same in
    let was = c.in_ok-step.was in
    elim c.else-eq.branch [
      | else-eq-via-then-eq+else-has_record w ↦
          let recorded = w.has_record.ensures in
          let test = w.if-has_record.false in
          let has : has_record c.args.k step ≡ true = h in
          cc
      | else-eq-via-else-eq w ↦
          let one : c.in_ok-step.step ≡ step = cc in
          let passes = same_fields c.of.result c.args.self.now (c.of.ensures ∙ ap fields_of one ∙ same) in
          let value = c.eq.ensures in
          let test = w.if-eq.false in
          cc
    ]
