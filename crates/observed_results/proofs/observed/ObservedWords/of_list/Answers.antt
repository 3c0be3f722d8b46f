use Rattle.std.proofs.Common.{◌≡◌, true, [], arith, rules}
use Rattle.std.proofs.lemmas.List.Elements.{All-nil}
use Rattle.observed_results.specs.Lists.{IsItem, Lists, items_of, observes}
use Rattle.observed_results.proofs.Listing.{all_are, cut_at_first, first_is, named_last, named_more, one_item, others_are}
use Rattle.observed_results.proofs.observed.ObservedWords.of_list.Goals as goal

pub returns-then-not-mark_item : goal.returns-then-not-mark_item
returns-then-not-mark_item c = λ list.
    let rest = c.loop-item.rest.now in
    let at = c.in-Some.ensures.byte (omega arith) (λ w o found. found) in
    let cut = cut_at_first rest c.in-Some.item.now c.in-Some.after.now at.0 at.1 at.2 in
    c.if-not-mark_item.ensures.item (first_is rest c.in-Some.item.now (items_of c.in-Some.after.now) cut c.args.words (c.loop-item.invariant.list.0 list))

pub loop-item-preserved : goal.loop-item-preserved
loop-item-preserved c =
    let rest = c.loop-item.rest.now in
    let item = c.in-Some.item.now in
    let others = items_of c.in-Some.after.now in
    let at = c.in-Some.ensures.byte (omega arith) (λ w o found. found) in
    let cut = cut_at_first rest item c.in-Some.after.now at.0 at.1 at.2 in
    let before = c.loop-item.invariant in
    record {
      text = search rules;
      all = c.mark_item.ensures.all;
      list = (
        λ list. others_are rest item others cut c.args.words (before.list.0 list),
        λ list. before.list.1 (all_are rest item others cut c.args.words c.if-not-mark_item.ensures.item list),
      );
      named = λ word. named_more rest item others cut word (observes c.loop-item.marks.items word ≡ true)
          (observes c.mark_item.new.marks.items word ≡ true) (Lists c.args.list.now word) (c.mark_item.ensures.marked c.if-not-mark_item.false word)
          (before.named word);
    }

pub returns-then-not-mark_item-2 : goal.returns-then-not-mark_item-2
returns-then-not-mark_item-2 c = λ list.
    let rest = c.loop-item.rest.now in
    c.if-not-mark_item-2.ensures.item (first_is rest rest [] (one_item rest (c.in_default.ensures.byte (omega arith) (λ w o found. found))) c.args.words
    (c.loop-item.invariant.list.0 list))

pub returns : goal.returns
returns c =
    let rest = c.loop-item.rest.now in
    let cut = one_item rest (c.in_default.ensures.byte (omega arith) (λ w o found. found)) in
    let before = c.loop-item.invariant in (
      before.list.1 (all_are rest rest [] cut c.args.words c.if-not-mark_item-2.ensures.item (All-nil (IsItem c.args.words))),
      λ word. named_last rest cut word (observes c.loop-item.marks.items word ≡ true) (observes c.mark_item-2.new.marks.items word ≡ true)
          (Lists c.args.list.now word) (c.mark_item-2.ensures.marked c.if-not-mark_item-2.false word) (before.named word),
    )
