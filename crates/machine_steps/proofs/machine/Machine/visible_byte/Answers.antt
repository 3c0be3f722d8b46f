use Rattle.std.proofs.Common.{◌∙◌, Some, sym, ap}
use Rattle.machine_steps.proofs.Seeing.{in_words, in_program, in_own, seen_there, there_within}
use Rattle.machine_steps.proofs.machine.Machine.visible_byte.Goals as goal

pub returns-then-address-ge-SHARED_START : goal.returns-then-address-ge-SHARED_START
returns-then-address-ge-SHARED_START c =
    let m = c.args.self.now in
    let there = sym c.is_there.ensures ∙ c.if-not-is_there.false in
    let within = there_within m c.args.processor there in
    c.shared_byte.ensures ∙ sym (in_words m c.machine_is_well_formed.ensures c.args.processor c.args.address within c.if-address-ge-SHARED_START.true)
    ∙ seen_there m c.args.processor c.args.address there

pub returns-then-address : goal.returns-then-address
returns-then-address c =
    let m = c.args.self.now in
    let there = sym c.is_there.ensures ∙ c.if-not-is_there.false in
    let within = there_within m c.args.processor there in
    ap (λ n. Some n) c.code_byte.ensures
    ∙ sym (in_program m c.machine_is_well_formed.ensures c.args.processor c.args.address within c.if-address-ge-SHARED_START.false c.if-address.true)
    ∙ seen_there m c.args.processor c.args.address there

pub returns : goal.returns
returns c =
    let m = c.args.self.now in
    let there = sym c.is_there.ensures ∙ c.if-not-is_there.false in
    let within = there_within m c.args.processor there in
    c.byte.ensures
    ∙ sym (in_own m c.machine_is_well_formed.ensures c.args.processor c.args.address within c.if-address-ge-SHARED_START.false c.if-address.false there)
    ∙ seen_there m c.args.processor c.args.address there
