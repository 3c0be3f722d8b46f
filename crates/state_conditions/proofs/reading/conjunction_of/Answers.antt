use Rattle.std.proofs.Common.{◌==◌, [], sym, ◌∙◌, arith, rules}
use Rattle.std.specs.List.{slice_split}
use Rattle.state_conditions.specs.Texts.{conjunction_in, part_in, words_of}
use Rattle.state_conditions.proofs.Listing.{cut_at_first, not_read, one_item, read_last, read_on}
use Rattle.state_conditions.proofs.reading.conjunction_of.Goals as goal

pub returns-in_default-part_of : goal.returns-in_default-part_of
returns-in_default-part_of c =
    let rest = c.loop-part.rest.now in
    let at = c.in-Some.ensures.byte (omega arith) (λ w o found. found) in
    let cut = cut_at_first 38 rest c.in-Some.part.now c.in-Some.after.now at.0 at.1 at.2 in
    sym (not_read (λ part. part_in c.args.names.now c.args.shared_words (words_of part))
    (conjunction_in c.args.names.now c.args.shared_words c.args.text.now) c.in-Some.part.now
    (slice_split (λ b. b == 38) c.in-Some.after.now) (slice_split (λ b. b == 38) rest) cut c.loop-part.parts.items c.loop-part.invariant.read
    (sym c.in_default-part_of.is ∙ c.part_of.ensures))

pub loop-part-preserved : goal.loop-part-preserved
loop-part-preserved c =
    let rest = c.loop-part.rest.now in
    let at = c.in-Some.ensures.byte (omega arith) (λ w o found. found) in
    let cut = cut_at_first 38 rest c.in-Some.part.now c.in-Some.after.now at.0 at.1 at.2 in
    record {
      text = search rules;
      read = read_on (λ part. part_in c.args.names.now c.args.shared_words (words_of part))
          (conjunction_in c.args.names.now c.args.shared_words c.args.text.now) c.in-Some.part.now
          (slice_split (λ b. b == 38) c.in-Some.after.now) (slice_split (λ b. b == 38) rest) cut c.loop-part.parts.items c.loop-part.invariant.read
          c.in-Some-part_of.comparison c.push.new.self.items (sym c.in-Some-part_of.is ∙ c.part_of.ensures) c.in_ok-push.ensures.items;
    }

pub returns-in_default-part_of-2 : goal.returns-in_default-part_of-2
returns-in_default-part_of-2 c =
    let rest = c.loop-part.rest.now in
    let cut = one_item 38 rest (c.in_default.ensures.byte (omega arith) (λ w o found. found)) in
    sym (not_read (λ part. part_in c.args.names.now c.args.shared_words (words_of part))
    (conjunction_in c.args.names.now c.args.shared_words c.args.text.now) rest []
    (slice_split (λ b. b == 38) rest) cut c.loop-part.parts.items c.loop-part.invariant.read (sym c.in_default-part_of-2.is ∙ c.part_of-2.ensures))

pub returns : goal.returns
returns c =
    let rest = c.loop-part.rest.now in
    let cut = one_item 38 rest (c.in_default.ensures.byte (omega arith) (λ w o found. found)) in
    read_last (λ part. part_in c.args.names.now c.args.shared_words (words_of part))
    (conjunction_in c.args.names.now c.args.shared_words c.args.text.now) rest
    (slice_split (λ b. b == 38) rest) cut c.loop-part.parts.items c.loop-part.invariant.read c.in-Some-part_of-2.comparison c.push-2.new.self.items
    (sym c.in-Some-part_of-2.is ∙ c.part_of-2.ensures) c.in_ok-push-2.ensures.items
