use Rattle.std.proofs.Common.{[], append-nil, sym, ◌∙◌, arith, rules}
use Rattle.std.proofs.lemmas.List.Elements.{All-nil}
use Rattle.study_command.specs.Lists.{IsItem, items_of}
use Rattle.study_command.proofs.Listing.{all_are, cut_at_first, first_is, numbers_more, of_false, of_true, one_item, others_are}
use Rattle.study_command.proofs.lists.numbers_in.Goals as goal

pub returns-then-not-branch : goal.returns-then-not-branch
returns-then-not-branch c = λ list.
    let rest = c.loop-item.rest.now in
    let item = c.in-Some.item.now in
    let at = c.in-Some.ensures.byte (omega arith) (λ w o found. found) in
    let cut = cut_at_first rest item c.in-Some.after.now at.0 at.1 at.2 in
    of_false _ _ c.in_ok-push_item.field-0 c.if-not-branch.true c.in_ok-push_item.ensures
    (first_is c.args.low c.args.high rest item (items_of c.in-Some.after.now) cut (c.loop-item.invariant.list.0 list))

pub loop-item-preserved : goal.loop-item-preserved
loop-item-preserved c =
    let rest = c.loop-item.rest.now in
    let item = c.in-Some.item.now in
    let others = items_of c.in-Some.after.now in
    let at = c.in-Some.ensures.byte (omega arith) (λ w o found. found) in
    let cut = cut_at_first rest item c.in-Some.after.now at.0 at.1 at.2 in
    let before = c.loop-item.invariant in
    let done = of_true _ _ c.in_ok-push_item.field-0 c.if-not-branch.false c.in_ok-push_item.ensures in
    record {
      text = search rules;
      list = (
        λ list. others_are c.args.low c.args.high rest item others cut (before.list.0 list),
        λ list. before.list.1 (all_are c.args.low c.args.high rest item others cut done.0 list),
      );
      named = numbers_more rest item others c.loop-item.numbers.items c.push_item.new.numbers.items cut done.1 ∙ before.named;
    }

pub returns-then-not-branch-2 : goal.returns-then-not-branch-2
returns-then-not-branch-2 c = λ list.
    let rest = c.loop-item.rest.now in
    let cut = one_item rest (c.in_default.ensures.byte (omega arith) (λ w o found. found)) in
    of_false _ _ c.in_ok-push_item-2.field-0 c.if-not-branch-2.true c.in_ok-push_item-2.ensures
    (first_is c.args.low c.args.high rest rest [] cut (c.loop-item.invariant.list.0 list))

pub returns : goal.returns
returns c =
    let rest = c.loop-item.rest.now in
    let cut = one_item rest (c.in_default.ensures.byte (omega arith) (λ w o found. found)) in
    let before = c.loop-item.invariant in
    let new = c.push_item-2.new.numbers.items in
    let done = of_true _ _ c.in_ok-push_item-2.field-0 c.if-not-branch-2.false c.in_ok-push_item-2.ensures in (
      before.list.1 (all_are c.args.low c.args.high rest rest [] cut done.0 (All-nil (IsItem c.args.low c.args.high))),
      sym (append-nil new) ∙ numbers_more rest rest [] c.loop-item.numbers.items new cut done.1 ∙ before.named,
    )
