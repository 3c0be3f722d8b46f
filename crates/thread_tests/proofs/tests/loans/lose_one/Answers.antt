use Rattle.std.proofs.Common.{◌<◌, length, ap, ◌∙◌, arith}
use Rattle.machine_lock.specs.Passes.{Held}
use Rattle.machine_lock.proofs.Lemmas.{whole_set}
use Rattle.thread_tests.proofs.tests.loans.lose_one.Goals as goal

pub returns-in-Ok : goal.returns-in-Ok
returns-in-Ok g c =
    let items = c.args.passes.now.items in
    let pass = c.index_mut.result.now in
    let less : 0 < length items = let many = c.len.ensures in let some = c.if-len-eq0.false in omega arith in
    record {
      whole = whole_set g.N.Run.count items 0 c.lend.new.pass pass less
          (c.lend.ensures.processor ∙ ap (λ (held : Held). held.processor) c.index_mut.ensures.value) c.requires.whole;
    }
