use Rattle.std.proofs.Common.{◌<◌, length, ap, ◌∙◌, arith}
use Rattle.machine_lock.specs.Passes.{Held}
use Rattle.machine_lock.proofs.Lemmas.{whole_set}
use Rattle.thread_tests.proofs.tests.passes.ask_as.Goals as goal

pub returns : goal.returns
returns g c =
    let items = c.args.passes.now.items in
    let place = c.from-place.result in
    let pass = c.index_mut.result.now in
    let less : place < length items = let many = c.len.ensures in let below = c.if-place-len.false in omega arith in
    record {
      whole = whole_set g.N.Run.count items place c.ask.new.pass pass less
          (c.ask.ensures ∙ ap (λ (held : Held). held.processor) c.index_mut.ensures.value) c.requires.whole;
    }
