use Rattle.std.proofs.Common.{ap, ◌∙◌, ◌+◌}
use Rattle.run_counts.specs.Counting.{bumped}
use Rattle.run_counts.specs.Counts.{CountsState}
use Rattle.run_counts.proofs.counts.Counts.observe.Goals as goal

pub returns : goal.returns
returns c =
    let t : CountsState = c.args.self.now in
    let is = c.self.view_is in
    λ i. record {
      kinds = (c.observe.ensures.counts ∙ ap (λ (u : CountsState). bumped u.kinds c.kind.result) is ∙ ap (bumped t.kinds) c.kind.ensures) i;
      turns = (c.observe-2.ensures.counts
          ∙ ap (λ (u : CountsState). bumped u.turns c.turn.result) is
          ∙ ap (bumped t.turns) c.turn.ensures) i;
      retired = (c.observe-3.ensures.counts
          ∙ ap (λ (u : CountsState). bumped u.retired c.processor_of_retirement.result) is
          ∙ ap (bumped t.retired) c.processor_of_retirement.ensures) i;
      moved = (c.observe-4.ensures.counts
          ∙ ap (λ (u : CountsState). bumped u.moved c.stage_of_move.result) is
          ∙ ap (bumped t.moved) c.stage_of_move.ensures) i;
      combined = (c.observe-5.ensures.counts
          ∙ ap (λ (u : CountsState). bumped u.combined c.stage_of_combination.result) is
          ∙ ap (bumped t.combined) c.stage_of_combination.ensures) i;
      returned = (c.observe-6.ensures.counts
          ∙ ap (λ (u : CountsState). bumped u.returned c.stage_of_reply.result) is
          ∙ ap (bumped t.returned) c.stage_of_reply.ensures) i;
      split = (c.observe-7.ensures.counts
          ∙ ap (λ (u : CountsState). bumped u.split c.stage_of_split.result) is
          ∙ ap (bumped t.split) c.stage_of_split.ensures) i;
      served = (c.observe-8.ensures.counts
          ∙ ap (λ (u : CountsState). bumped u.served c.service.result) is
          ∙ ap (bumped t.served) c.service.ensures) i;
      groups = (c.observe-9.ensures.counts
          ∙ ap (λ (u : CountsState). bumped u.groups c.group.result) is
          ∙ ap (bumped t.groups) c.group.ensures) i;
      observed = (c.observe.ensures.observed ∙ ap (λ (u : CountsState). u.observed + 1) is) i;
    }
