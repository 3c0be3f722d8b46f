use Rattle.std.proofs.Common.{◌++◌, ◌∷◌, [], ◌<◌, length, sym, ap, ◌∙◌, arith}
use Rattle.std.specs.Prelude.{slice_set}
use Rattle.console_monitor.specs.Ends.{at}
use Rattle.processor_threads.proofs.Lists.{kept_at, put_at}
use Rattle.processor_threads.proofs.listener.Listener.take.Goals as goal

pub invariant_of-self : goal.invariant_of-self
invariant_of-self c =
    let self = c.args.self.now in
    let bytes = c.index_mut-bytes in
    record {
      takes = kept_at self.taken.items c.from.result c.reserve.new.self bytes.result.now bytes.ensures.value c.reserve.ensures.items ∙ self.takes;
      all = self.all;
      own = self.own;
    }

pub invariant_of-self-in-None : goal.invariant_of-self-in-None
invariant_of-self-in-None c =
    let self = c.args.self.now in
    let bytes = c.index_mut-bytes in
    record {
      takes = kept_at self.taken.items c.from.result c.reserve.new.self bytes.result.now bytes.ensures.value c.reserve.ensures.items ∙ self.takes
          ∙ sym c.in-None.ensures.taken;
      all = self.all;
      own = self.own;
    }

pub invariant_of-self-in-Some : goal.invariant_of-self-in-Some
invariant_of-self-in-Some c =
    let self = c.args.self.now in
    let bytes = c.index_mut-bytes in
    let p = c.args.p in
    let byte = c.in-Some.byte in
    let less : p < length self.taken.items = (let l = self.taken.ok.0 in let a = self.all in let t = c.requires.there in omega arith) in
    record {
      takes = put_at self.taken.items c.from.result p c.push_reserved.new.self bytes.result.now byte less c.from.ensures bytes.ensures.value
          (c.push_reserved.ensures.items ∙ ap (λ bs. bs ++ byte ∷ []) c.reserve.ensures.items)
          ∙ ap (λ ts. slice_set ts p (at ts p ++ byte ∷ [])) self.takes ∙ sym c.in-Some.ensures.taken;
      all = self.all;
      own = self.own;
    }
