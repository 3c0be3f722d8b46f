use Rattle.std.proofs.Common.{◌≡◌, ◌∙◌, ◌⊎◌, ℕ, length, List, [], ◌∷◌, ◌++◌, map, ap, sym, inl, inr, arith, Vec, Global}
use Rattle.std.specs.Prelude.{vec_len}
use Rattle.std.proofs.lemmas.List.{length-map, map-append}
use Rattle.console_monitor.specs.Ends.{takens_of, sent_by}
use Rattle.console_monitor.proofs.Joins.{emptied_end, emptied_step}
use Rattle.console_monitor.proofs.monitor.Monitor.finish.Goals as goal

pub loop-end-preserved : goal.loop-end-preserved
loop-end-preserved g c =
    let bytes = λ (v : Vec ℕ Global). v.items in
    let olds = c.loop-end.rests.items in
    let new = c.in_ok-rest.field-0 in
    let more : map bytes c.push.new.self.items ≡ map bytes olds ++ bytes new ∷ [] =
    ap (map bytes) c.in_ok-push.ensures.items ∙ map-append bytes olds (new ∷ []) in
    let i = c.loop-end.end-iterator in
    let j = c.next.new.self in
    emptied_step (takens_of c.args.self) (map sent_by c.args.ends.items) (map bytes olds) (map bytes c.push.new.self.items)
    i.a.rest.items j.a.rest.items i.b.rest.items j.b.rest.items c.in-Some.end c.in-Some.inlet (bytes new)
    c.in-Some.ensures.steps.0.0 c.in-Some.ensures.steps.1.0 more c.in_ok-rest.ensures c.loop-end.invariant.0 c.loop-end.invariant.1

pub returns-clause-whole : goal.returns-clause-whole
returns-clause-whole g c =
    let i = c.loop-end.end-iterator in
    let out : (length i.a.rest.items ≡ 0) ⊎ (length i.b.rest.items ≡ 0) = elim c.in-None.ensures.steps [
      | inl h ↦ inl (sym i.a.rest.ok.0 ∙ h.1.0)
      | inr h ↦ inr (sym i.b.rest.ok.0 ∙ h.1.0)
    ] in
    (emptied_end _ _ _ i.a.rest.items i.b.rest.items c.loop-end.invariant.0 out c.loop-end.invariant.1).0

pub returns-clause-count : goal.returns-clause-count
returns-clause-count g c =
    let i = c.loop-end.end-iterator in
    let out : (length i.a.rest.items ≡ 0) ⊎ (length i.b.rest.items ≡ 0) = elim c.in-None.ensures.steps [
      | inl h ↦ inl (sym i.a.rest.ok.0 ∙ h.1.0)
      | inr h ↦ inr (sym i.b.rest.ok.0 ∙ h.1.0)
    ] in
    let same = (emptied_end _ _ _ i.a.rest.items i.b.rest.items c.loop-end.invariant.0 out c.loop-end.invariant.1).1 in
    let rests = c.loop-end.rests in
    rests.ok.0 ∙ sym (length-map rests.items (λ v. v.items)) ∙ same ∙ length-map c.args.ends.items sent_by ∙ sym c.args.ends.ok.0
