use Rattle.std.proofs.Common.{◌≡◌, ◌==◌, [], true, false, sym, ap, ◌∙◌, arith, rules}
use Rattle.std.specs.Prelude.{find, is_none}
use Rattle.std.specs.List.{slice_split}
use Rattle.state_conditions.specs.Texts.{is_wrong}
use Rattle.state_conditions.proofs.Finding.{find_here, find_past}
use Rattle.state_conditions.proofs.Listing.{cut_at_first, one_item}
use Rattle.state_conditions.proofs.wrong.wrong_in.Goals as goal

pub returns-in_default-part_of : goal.returns-in_default-part_of
returns-in_default-part_of c =
    let rest = c.loop-part.rest.now in
    let at = c.in-Some.ensures.byte (omega arith) (λ w o found. found) in
    let cut = cut_at_first 38 rest c.in-Some.part.now c.in-Some.after.now at.0 at.1 at.2 in
    let wrong : is_wrong c.args.names.now c.args.shared_words c.in-Some.part.now ≡ true =
    ap is_none (sym c.part_of.ensures ∙ c.in_default-part_of.is) in
    sym (c.loop-part.invariant.found ∙ ap (find (is_wrong c.args.names.now c.args.shared_words)) cut
    ∙ find_here (is_wrong c.args.names.now c.args.shared_words) c.in-Some.part.now (slice_split (λ b. b == 38) c.in-Some.after.now) wrong)

pub loop-part-preserved : goal.loop-part-preserved
loop-part-preserved c =
    let rest = c.loop-part.rest.now in
    let at = c.in-Some.ensures.byte (omega arith) (λ w o found. found) in
    let cut = cut_at_first 38 rest c.in-Some.part.now c.in-Some.after.now at.0 at.1 at.2 in
    let right : is_wrong c.args.names.now c.args.shared_words c.in-Some.part.now ≡ false =
    ap is_none (sym c.part_of.ensures ∙ c.in-Some-part_of.is) in
    record {
      text = search rules;
      found = c.loop-part.invariant.found ∙ ap (find (is_wrong c.args.names.now c.args.shared_words)) cut
          ∙ find_past (is_wrong c.args.names.now c.args.shared_words) c.in-Some.part.now (slice_split (λ b. b == 38) c.in-Some.after.now) right;
    }

pub returns-in_default-part_of-2 : goal.returns-in_default-part_of-2
returns-in_default-part_of-2 c =
    let rest = c.loop-part.rest.now in
    let cut = one_item 38 rest (c.in_default.ensures.byte (omega arith) (λ w o found. found)) in
    let wrong : is_wrong c.args.names.now c.args.shared_words rest ≡ true =
    ap is_none (sym c.part_of-2.ensures ∙ c.in_default-part_of-2.is) in
    sym (c.loop-part.invariant.found ∙ ap (find (is_wrong c.args.names.now c.args.shared_words)) cut
    ∙ find_here (is_wrong c.args.names.now c.args.shared_words) rest [] wrong)

pub returns : goal.returns
returns c =
    let rest = c.loop-part.rest.now in
    let cut = one_item 38 rest (c.in_default.ensures.byte (omega arith) (λ w o found. found)) in
    let right : is_wrong c.args.names.now c.args.shared_words rest ≡ false =
    ap is_none (sym c.part_of-2.ensures ∙ c.in-Some-part_of-2.is) in
    sym (c.loop-part.invariant.found ∙ ap (find (is_wrong c.args.names.now c.args.shared_words)) cut
    ∙ find_past (is_wrong c.args.names.now c.args.shared_words) rest [] right)
