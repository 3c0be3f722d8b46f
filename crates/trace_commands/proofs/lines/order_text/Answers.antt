use Rattle.std.proofs.Common.{List, take, slice_index_or, sym, subst, arith}
use Rattle.std.specs.Prelude.{string_bytes}
use Rattle.std.proofs.lemmas.List.{length-take-le, take_more}
use Rattle.flat_machine.specs.declared.poke.Entry.{Entry}
use Rattle.flat_machine.specs.declared.poke.Entry.TheVariants as entry
use Rattle.trace_commands.proofs.OrderTelling.{AreShown, none_printed, one_printed}
use Rattle.trace_commands.proofs.lines.order_text.Goals as goal

pub loop-number-init : goal.loop-number-init
loop-number-init c = none_printed c.args.choice c.args.before.now c.args.after.now (string_bytes c.new-text.result) c.new-text.ensures.bytes c.requires

pub loop-number-preserved : goal.loop-number-preserved
loop-number-preserved c =
    let entries = c.args.entries.now in
    let l = c.loop-number in
    subst (λ (done : List Entry). AreShown c.args.choice c.args.before.now done
    (string_bytes c.push_entry.new.text) c.push_entry.new.before c.push_entry.new.after)
    (sym (take_more entries l.number (entry.Processor 0) c.loop-number-test.true))
    (one_printed c.lines_go_on.ensures c.args.choice c.args.before.now (take l.number entries) (string_bytes l.text) l.before l.after l.invariant l.number
    (slice_index_or entries l.number (entry.Processor 0)) (string_bytes c.push_entry.new.text) c.push_entry.new.before c.push_entry.new.after
    (length-take-le l.number entries (omega (arith, c.loop-number-test.true)))
    c.in_ok-push_entry.ensures.line c.in_ok-push_entry.ensures.both c.in_ok-push_entry.ensures.config)
