use Rattle.std.proofs.Common.{◌==◌, [], sym, ◌∙◌, arith, rules}
use Rattle.std.specs.List.{slice_split}
use Rattle.state_conditions.proofs.Listing.{cut_at_first, no_word, one_item, one_word}
use Rattle.state_conditions.proofs.words.next_word.Goals as goal

pub loop-word-preserved : goal.loop-word-preserved
loop-word-preserved c =
    let rest = c.loop-word.rest.now in
    let at = c.in-Some.ensures.byte (omega arith) (λ w o found. found) in
    let cut = cut_at_first 32 rest c.in-Some.word.now c.in-Some.after.now at.0 at.1 at.2 in
    record {
      text = search rules;
      same = c.loop-word.invariant.same
          ∙ no_word rest c.in-Some.word.now (slice_split (λ b. b == 32) c.in-Some.after.now) cut (sym c.is_empty.ensures ∙ c.if-not-is_empty.false);
    }

pub returns-then-not-is_empty : goal.returns-then-not-is_empty
returns-then-not-is_empty c =
    let rest = c.loop-word.rest.now in
    let at = c.in-Some.ensures.byte (omega arith) (λ w o found. found) in
    let cut = cut_at_first 32 rest c.in-Some.word.now c.in-Some.after.now at.0 at.1 at.2 in
    c.loop-word.invariant.same
    ∙ one_word rest c.in-Some.word.now (slice_split (λ b. b == 32) c.in-Some.after.now) cut (sym c.is_empty.ensures ∙ c.if-not-is_empty.true)

pub returns-then-is_empty : goal.returns-then-is_empty
returns-then-is_empty c =
    let rest = c.loop-word.rest.now in
    let cut = one_item 32 rest (c.in_default.ensures.byte (omega arith) (λ w o found. found)) in
    c.loop-word.invariant.same ∙ no_word rest rest [] cut (sym c.is_empty-2.ensures ∙ c.if-is_empty.true)

pub returns-else-is_empty : goal.returns-else-is_empty
returns-else-is_empty c =
    let rest = c.loop-word.rest.now in
    let cut = one_item 32 rest (c.in_default.ensures.byte (omega arith) (λ w o found. found)) in
    c.loop-word.invariant.same ∙ one_word rest rest [] cut (sym c.is_empty-2.ensures ∙ c.if-is_empty.false)
