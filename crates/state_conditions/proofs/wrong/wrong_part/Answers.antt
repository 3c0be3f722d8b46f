use Rattle.std.proofs.Common.{◌≡◌, ◌==◌, sym, ap, ◌∙◌, arith, rules}
use Rattle.std.specs.Prelude.{option_map}
use Rattle.std.specs.List.{slice_split}
use Rattle.std.specs.Option.{option_or}
use Rattle.state_conditions.specs.Texts.{first_wrong_part, wrong_part_of}
use Rattle.state_conditions.proofs.Finding.{or_none}
use Rattle.state_conditions.proofs.Listing.{cut_at_first, one_item}
use Rattle.state_conditions.proofs.wrong.wrong_part.Goals as goal

pub returns-in-Some-wrong_in : goal.returns-in-Some-wrong_in
returns-in-Some-wrong_in c =
    let at = c.in-Some.ensures.byte (omega arith) (λ w o found. found) in
    let cut = cut_at_first 124 c.loop-alternative.rest.now c.in-Some.alternative.now c.in-Some.after.now at.0 at.1 at.2 in
    let later = first_wrong_part c.args.names.now c.args.shared_words (slice_split (λ b. b == 124) c.in-Some.after.now) in
    sym (c.loop-alternative.invariant.found ∙ ap (first_wrong_part c.args.names.now c.args.shared_words) cut
    ∙ ap (λ o. option_or o later) (sym c.wrong_in.ensures ∙ ap (option_map (λ part. part.now)) c.in-Some-wrong_in.is))

pub loop-alternative-preserved : goal.loop-alternative-preserved
loop-alternative-preserved c =
    let at = c.in-Some.ensures.byte (omega arith) (λ w o found. found) in
    let cut = cut_at_first 124 c.loop-alternative.rest.now c.in-Some.alternative.now c.in-Some.after.now at.0 at.1 at.2 in
    let later = first_wrong_part c.args.names.now c.args.shared_words (slice_split (λ b. b == 124) c.in-Some.after.now) in
    record {
      text = search rules;
      found = c.loop-alternative.invariant.found ∙ ap (first_wrong_part c.args.names.now c.args.shared_words) cut
          ∙ ap (λ o. option_or o later) (sym c.wrong_in.ensures ∙ ap (option_map (λ part. part.now)) c.in_default-wrong_in.is);
    }

pub returns : goal.returns
returns c =
    let rest = c.loop-alternative.rest.now in
    let cut = one_item 124 rest (c.in_default.ensures.byte (omega arith) (λ w o found. found)) in
    c.wrong_in-2.ensures
    ∙ sym (c.loop-alternative.invariant.found ∙ ap (first_wrong_part c.args.names.now c.args.shared_words) cut
    ∙ or_none (wrong_part_of c.args.names.now c.args.shared_words rest))
