use Rattle.std.proofs.Common.{◌<◌, length, ap, ◌∙◌, arith}
use Rattle.machine_lock.specs.Passes.{Held}
use Rattle.machine_lock.proofs.Lemmas.{whole_set}
use Rattle.surface_tests.proofs.tests.passes.take_all_first.Goals as goal

pub returns : goal.returns
returns g c =
    let items = c.args.passes.now.items in
    let pass = c.index_mut.result.now in
    let less : 0 < length items = let many = c.len.ensures in let some = c.if-len-eq0.false in omega arith in
    record {
      whole = whole_set g.N.Run.count items 0 c.take_all.new.pass pass less
          (c.take_all.ensures ∙ ap (λ (held : Held). held.processor) c.index_mut.ensures.value) c.requires.whole;
    }
