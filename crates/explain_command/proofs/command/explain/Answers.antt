use Rattle.std.proofs.Common.{◌≡◌, ◌∙◌, ap, refl, sym, subst, inr, true≢false}
use Rattle.std.specs.Prelude.{IfOk, option_map, string_bytes}
use Rattle.command_io.specs.Faults.{status_of_fault}
use Rattle.command_io.specs.FaultTexts.{IsReported}
use Rattle.command_io.specs.declared.fault.Fault.TheVariants as fault
use Rattle.explain_command.specs.Explaining.{IsExplanation}
use Rattle.explain_command.specs.Topics.{list_of, text_of}
use Rattle.explain_command.proofs.command.explain.Goals.{in-None, in-Some+in-Some-topic_asked}
use Rattle.explain_command.proofs.command.explain.Goals as goal

pub returns-in_default-clause-fault : goal.returns-in_default-clause-fault
returns-in_default-clause-fault g c done unknown = record {
  fault = fault.Memory;
  tells = c.report_fault.ensures.fault;
  cause = tt;
  reported = c.report_fault.ensures.reported;
  failed = λ e. absurd (true≢false (sym e ∙ c.requires.works));
  source = λ e. cc;
  silent = λ e. refl;
}

pub returns-clause-fault : goal.returns-clause-fault
returns-clause-fault g c done unknown =
    let begun = c.in-Err.ensures.begun in
    let topics = c.args.topics.now in
    let text = c.as_str.result.now in
    let meant : IsExplanation topics (option_map (λ t. t.now) c.args.asked) text =
    elim c.match-asked.branch [
      | in-None w ↦
          let listed = subst (λ r. IfOk r (λ t. string_bytes t ≡ list_of topics)) (sym w.text-is ∙ c.in-Ok.is) w.list_text-text.ensures in
          subst (λ word. IsExplanation topics (option_map (λ t. t.now) word) text) (sym w.in-None.is) (c.as_str.ensures.value ∙ listed)
      | in-Some+in-Some-topic_asked w ↦
          let topic = w.in-Some-topic_asked.topic in
          let fact = subst (λ r. IfOk r (λ t. string_bytes t ≡ text_of topic.now)) (sym w.text-is ∙ c.in-Ok.is) w.topic_text.ensures in
          let named = sym w.topic_asked.ensures ∙ ap (option_map (λ t. t.now)) w.in-Some-topic_asked.is in
          subst (λ word. IsExplanation topics (option_map (λ t. t.now) word) text) (sym w.in-Some.is) (topic.now, named, c.as_str.ensures.value ∙ fact)
    ] in
    record {
      fault = fault.Link;
      tells = c.report_fault-in-Err.ensures.fault ∙ ap status_of_fault begun.0;
      cause = record { text = text; meant = meant; part = begun.1 };
      reported = subst (IsReported (g.E.Write.contents c.args.err.now)
          (g.E.Write.contents c.report_fault-in-Err.new.err)) begun.0 c.report_fault-in-Err.ensures.reported;
      failed = λ e. refl;
      source = λ e. inr c.in-Err.ensures.failed;
      silent = λ e. absurd (true≢false (sym c.in-Err.ensures.failed ∙ e));
    }
