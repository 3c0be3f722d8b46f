use Rattle.std.proofs.Common.{◌≡◌, ◌≢◌, [], ◌∷◌, ◌++◌, take, sym, ap, ◌∙◌, rules}
use Rattle.std.proofs.lemmas.List.{take-append-drop}
use Rattle.steps.specs.declared.step.Step.{Step}
use Rattle.trace_file.specs.Records.{fields_of, field_bytes, HasRecord}
use Rattle.trace_file.specs.Reading.{fields_in}
use Rattle.trace_file.proofs.Pieces.{adds_more, no_record}
use Rattle.trace_file.proofs.read.add_steps.Goals as goal

pub returns-in_default-clause-refused : goal.returns-in_default-clause-refused
returns-in_default-clause-refused c =
    let inv = c.loop-rest.invariant in
    let rest = c.loop-rest.rest.now in
    let fields = c.in_bytes.ensures.fields ∙ ap fields_in c.split_at.ensures.front in
    let none : (step : Step) → HasRecord c.args.k step → fields_of step ≢ fields_in (take 12 rest) =
    λ step has same. c.in_default.ensures.none step has (same ∙ sym fields) in
    (inv.added, rest, inv.records, inv.spelled, (c.loop-rest-test.true, no_record c.args.k (take 12 rest) none))

pub loop-rest-preserved : goal.loop-rest-preserved
loop-rest-preserved c =
    let rest = c.loop-rest.rest.now in
    let step = c.in-Some.step in
    let some = c.in-Some.ensures.some in
    let parts : rest ≡ c.split_at.result.0.now ++ c.split_at.result.1.now =
    rw (c.split_at.ensures.front, c.split_at.ensures.back) (sym (take-append-drop 12 rest)) in
    let grown : c.push.new.self.items ≡ c.loop-rest.steps.items ++ step ∷ [] = search rules in
    adds_more c.args.k _ _ _ c.args.piece.now rest _ _ step c.loop-rest.invariant parts (ap field_bytes some.1 ∙ c.in_bytes.ensures.bytes) some.0 grown
