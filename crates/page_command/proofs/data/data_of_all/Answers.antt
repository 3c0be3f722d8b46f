use Rattle.std.proofs.Common.{◌++◌, ap, ◌∙◌, subst}
use Rattle.trace_commands.specs.Orders.{AreOrderLines}
use Rattle.page_command.specs.Pages.{window_story}
use Rattle.page_command.proofs.data.data_of_all.Goals as goal

pub returns-clause-are : goal.returns-clause-are
returns-clause-are c = λ steps home.
    let begun = c.in_ok-text.ensures.are in
    let ordered = c.in_ok-status.ensures.are in
    record {
      all = c.args.all.now;
      home = home;
      opening = begun.0;
      opens = begun.2;
      first = begun.1;
      reached = begun.3;
      order = ordered.0;
      ordered = subst (λ choice. AreOrderLines choice c.args.config c.args.image.now steps ordered.0 c.in_ok-status.status)
          (c.in_ok-choice.ensures.choice begun.0 begun.2) (ordered.2 steps home);
      are = ordered.1 ∙ ap (λ text. text ++ ordered.0) (c.in_ok-push_story.ensures.are begun.0 begun.2
          ∙ ap (λ text. text ++ window_story c.args.window begun.0 c.args.all.now) begun.4);
    }
