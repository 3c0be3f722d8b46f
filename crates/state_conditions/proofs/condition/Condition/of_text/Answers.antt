use Rattle.std.proofs.Common.{◌==◌, [], sym, ◌∙◌, arith, rules}
use Rattle.std.specs.List.{slice_split}
use Rattle.state_conditions.specs.Texts.{condition_in, conjunction_in}
use Rattle.state_conditions.proofs.Listing.{cut_at_first, not_read, one_item, read_last, read_on}
use Rattle.state_conditions.proofs.condition.Condition.of_text.Goals as goal

pub returns-in_default-2 : goal.returns-in_default-2
returns-in_default-2 c =
    let rest = c.loop-alternative.rest.now in
    let at = c.in-Some.ensures.byte (omega arith) (λ w o found. found) in
    let cut = cut_at_first 124 rest c.in-Some.alternative.now c.in-Some.after.now at.0 at.1 at.2 in
    sym (not_read (conjunction_in c.args.names.now c.args.shared_words)
    (condition_in c.args.names.now c.args.shared_words c.args.text.now) c.in-Some.alternative.now
    (slice_split (λ b. b == 124) c.in-Some.after.now) (slice_split (λ b. b == 124) rest) cut c.loop-alternative.alternatives.items
    c.loop-alternative.invariant.read (sym c.in_default-2.is ∙ c.in_ok-conjunction.ensures))

pub loop-alternative-preserved : goal.loop-alternative-preserved
loop-alternative-preserved c =
    let rest = c.loop-alternative.rest.now in
    let at = c.in-Some.ensures.byte (omega arith) (λ w o found. found) in
    let cut = cut_at_first 124 rest c.in-Some.alternative.now c.in-Some.after.now at.0 at.1 at.2 in
    record {
      text = search rules;
      read = read_on (conjunction_in c.args.names.now c.args.shared_words)
          (condition_in c.args.names.now c.args.shared_words c.args.text.now) c.in-Some.alternative.now
          (slice_split (λ b. b == 124) c.in-Some.after.now) (slice_split (λ b. b == 124) rest) cut c.loop-alternative.alternatives.items
          c.loop-alternative.invariant.read c.in-Some-2.conjunction c.push.new.self.items (sym c.in-Some-2.is ∙ c.in_ok-conjunction.ensures)
          c.in_ok-push.ensures.items;
    }

pub returns-in_default-3 : goal.returns-in_default-3
returns-in_default-3 c =
    let rest = c.loop-alternative.rest.now in
    let cut = one_item 124 rest (c.in_default.ensures.byte (omega arith) (λ w o found. found)) in
    sym (not_read (conjunction_in c.args.names.now c.args.shared_words)
    (condition_in c.args.names.now c.args.shared_words c.args.text.now) rest []
    (slice_split (λ b. b == 124) rest) cut c.loop-alternative.alternatives.items c.loop-alternative.invariant.read
    (sym c.in_default-3.is ∙ c.in_ok-conjunction-2.ensures))

pub returns : goal.returns
returns c =
    let rest = c.loop-alternative.rest.now in
    let cut = one_item 124 rest (c.in_default.ensures.byte (omega arith) (λ w o found. found)) in
    read_last (conjunction_in c.args.names.now c.args.shared_words)
    (condition_in c.args.names.now c.args.shared_words c.args.text.now) rest
    (slice_split (λ b. b == 124) rest) cut c.loop-alternative.alternatives.items c.loop-alternative.invariant.read c.in-Some-3.conjunction
    c.push-2.new.self.items (sym c.in-Some-3.is ∙ c.in_ok-conjunction-2.ensures) c.in_ok-push-2.ensures.items
