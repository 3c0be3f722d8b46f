use Rattle.std.proofs.Common.{◌≡◌, ℕ, ◌<◌, List, length, map, sym, ap, ◌∙◌, subst, arith}
use Rattle.std.proofs.lemmas.List.{length-map}
use Rattle.console_monitor.specs.Ends.{joined}
use Rattle.processor_threads.specs.Consoles.{AreBeginnings, bytes_of}
use Rattle.processor_threads.proofs.Lists.{append_step, kept_at, part, part_all, part_beginnings}
use Rattle.processor_threads.proofs.listener.append_each.Goals as goal

pub loop-p-preserved : goal.loop-p-preserved
loop-p-preserved c =
    let l = c.loop-p.lists in
    let olds = c.args.lists.now.items in
    let rests = c.args.rests.now in
    let p = c.loop-p.p in
    let less : p < length rests = (let t = c.loop-p-test.true in omega arith) in
    let within : p < length l.items = (let o = l.ok.0 in let m = c.loop-p.invariant.many in let r = c.requires in omega arith) in
    let many : length (map bytes_of olds) ≡ length rests = length-map olds bytes_of ∙ sym c.args.lists.now.ok.0 ∙ c.requires in
    record {
      lists = append_step (map bytes_of olds) l.items rests p c.extend_from_slice.new.self c.index_mut.result.now c.index-rests-p.result
          c.as_slice.result.now c.loop-p.invariant.lists within less many c.index_mut.ensures.value c.index-rests-p.is c.as_slice.ensures.value
          c.in_ok-extend_from_slice.ensures.items;
      many = c.loop-p.invariant.many;
    }

pub returns-in_err-extend_from_slice-clause-begun : goal.returns-in_err-extend_from_slice-clause-begun
returns-in_err-extend_from_slice-clause-begun c =
    let l = c.loop-p.lists in
    let olds = c.args.lists.now.items in
    let rests = c.args.rests.now in
    let many : length (map bytes_of olds) ≡ length (map bytes_of rests) =
    length-map olds bytes_of ∙ sym c.args.lists.now.ok.0 ∙ c.requires ∙ sym (length-map rests bytes_of) in
    let same = kept_at l.items c.loop-p.p c.extend_from_slice.new.self c.index_mut.result.now c.index_mut.ensures.value
    c.in_err-extend_from_slice.ensures.items ∙ c.loop-p.invariant.lists in
    subst (λ (xs : List (List ℕ)). AreBeginnings xs (joined (map bytes_of olds) (map bytes_of rests))) (sym same)
    (part_beginnings c.loop-p.p (map bytes_of olds) (map bytes_of rests) many)

pub returns-clause-begun : goal.returns-clause-begun
returns-clause-begun c =
    let olds = c.args.lists.now.items in
    let rests = c.args.rests.now in
    let many : length (map bytes_of olds) ≡ length (map bytes_of rests) =
    length-map olds bytes_of ∙ sym c.args.lists.now.ok.0 ∙ c.requires ∙ sym (length-map rests bytes_of) in
    subst (λ (xs : List (List ℕ)). AreBeginnings xs (joined (map bytes_of olds) (map bytes_of rests))) (sym c.loop-p.invariant.lists)
    (part_beginnings c.loop-p.p (map bytes_of olds) (map bytes_of rests) many)

pub returns-clause-whole : goal.returns-clause-whole
returns-clause-whole c =
    let olds = c.args.lists.now.items in
    let rests = c.args.rests.now in
    let count = length-map rests bytes_of in
    let many : length (map bytes_of olds) ≡ length (map bytes_of rests) =
    length-map olds bytes_of ∙ sym c.args.lists.now.ok.0 ∙ c.requires ∙ sym count in
    let end : c.loop-p.p ≡ length (map bytes_of rests) = (let a = c.loop-p.auto.p-end in let b = c.loop-p-test.false in omega arith) in
    c.loop-p.invariant.lists ∙ ap (λ n. part n (map bytes_of olds) (map bytes_of rests)) end ∙ part_all (map bytes_of olds) (map bytes_of rests) many
