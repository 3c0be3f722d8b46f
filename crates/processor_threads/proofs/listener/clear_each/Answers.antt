use Rattle.std.proofs.Common.{◌≡◌, ◌<◌, [], length, map, sym, ap, ◌∙◌, arith}
use Rattle.std.specs.Prelude.{replicate}
use Rattle.std.proofs.lemmas.List.{length-map}
use Rattle.processor_threads.specs.Consoles.{bytes_of}
use Rattle.processor_threads.proofs.Lists.{clear_step, emptied, emptied_all}
use Rattle.processor_threads.proofs.listener.clear_each.Goals as goal

pub loop-p-preserved : goal.loop-p-preserved
loop-p-preserved c =
    let olds = c.args.lists.now.items in
    let less : c.loop-p.p < length (map bytes_of olds) =
    (let t = c.loop-p-test.true in let e = c.len-p-end.ensures in let o = c.args.lists.now.ok.0 in let n = length-map olds bytes_of in omega arith) in
    record {
      lists = clear_step (map bytes_of olds) c.loop-p.lists.items c.loop-p.p c.clear.new.self c.loop-p.invariant.lists less c.clear.ensures.items;
      many = c.loop-p.invariant.many;
    }

pub returns : goal.returns
returns c =
    let olds = c.args.lists.now.items in
    let count = length-map olds bytes_of in
    let end : c.loop-p.p ≡ length (map bytes_of olds) =
    (let a = c.loop-p.auto.p-end in let b = c.loop-p-test.false in let e = c.len-p-end.ensures in let o = c.args.lists.now.ok.0 in omega arith) in
    let size = count ∙ sym c.args.lists.now.ok.0 in
    c.loop-p.invariant.lists ∙ ap (λ n. emptied n (map bytes_of olds)) end ∙ emptied_all (map bytes_of olds) ∙ ap (λ n. replicate n []) size
