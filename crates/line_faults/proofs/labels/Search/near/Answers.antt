use Rattle.std.proofs.Common.{List, ℕ, Bor, subst, sym, ◌∙◌}
use Rattle.std.specs.Prelude.{All, IfSome, IsSome}
use Rattle.std.proofs.lemmas.List.Elements.{All-weaker, All-head, All-tail}
use Rattle.line_faults.specs.AdviceAtFault.{IsNearLabel}
use Rattle.line_faults.specs.Places.{label_values}
use Rattle.line_faults.proofs.NearLabels.{is_label, nearer_is_near}
use Rattle.line_faults.proofs.labels.Search.near.Goals as goal

pub loop-name-init : goal.loop-name-init
loop-name-init c =
    let stands = λ (k : Bor (List ℕ)). IsSome (label_values c.args.labels.now k.now) in
    record {
      labels =
          subst (All stands) (sym (c.into_iter-name-iterator.ensures.into_iter_gives ∙ c.keys-name-items.ensures.rest))
          (All-weaker _ stands (is_label c.args.labels.now) _ c.keys-name-items.ensures.found);
      near = tt;
    }

pub loop-name-preserved : goal.loop-name-preserved
loop-name-preserved c =
    let stands = λ (k : Bor (List ℕ)). IsSome (label_values c.args.labels.now k.now) in
    let all = subst (All stands) c.in-Some.ensures.steps c.loop-name.invariant.labels in
    record {
      labels = All-tail stands c.in-Some.name.now c.next.new.self all;
      near =
          nearer_is_near c.args.labels.now c.args.word.now c.in-Some.name.now.now c.loop-name.nearest c.in_ok-nearest.nearest
          (All-head stands c.in-Some.name.now c.next.new.self all) c.loop-name.invariant.near c.in_ok-nearest.ensures;
    }

pub returns-in-Some-nearest : goal.returns-in-Some-nearest
returns-in-Some-nearest c =
    subst (λ o. IfSome o (λ p. IsNearLabel (label_values c.args.labels.now) c.args.word.now p.1.now)) c.in-Some-nearest.is c.loop-name.invariant.near
