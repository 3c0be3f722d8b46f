use Rattle.std.proofs.Common.{◌≡◌, ℕ, ◌+◌, true, false, List, [], ◌∷◌, ◌++◌, length, take, sym, ap, ◌∙◌, arith, append-nil, eq-eqb}
use Rattle.std.proofs.lemmas.Bool.{ne_eqb}
use Rattle.std.proofs.lemmas.List.{map-append}
use Rattle.std.specs.Prelude.{◌==◌}
use Rattle.messages.specs.declared.message.Record.{Record}
use Rattle.messages.specs.declared.message.Reply.{Reply}
use Rattle.messages.specs.Queues.{answers, records_of, reply_of}
use Rattle.messages.proofs.Lemmas.{in_range, taken_more}
use Rattle.ring_network.proofs.replies.replies_for.Goals as goal
use Rattle.ring_network.proofs.replies.replies_for.Goals.{then-record-reply, else-record-reply}

pub loop-record-preserved : goal.loop-record-preserved
loop-record-preserved c =
    let x : Reply = c.args.reply in
    let es : List Record = c.args.records.now in
    let e : Record = c.record-item.result in
    let j : ℕ = c.loop-record.record-index in
    elim c.if-record-reply.branch [
      | then-record-reply w ↦
          let is : (e.leader == x.leader) ≡ true = eq-eqb e.leader x.leader w.if-record-reply.true in
          let more : records_of x.leader (take (j + 1) es) ≡ records_of x.leader (take j es) ++ e ∷ [] =
          taken_more x.leader es j e true c.loop-record-test.true c.record-item.is is in
          record {
            room = omega (arith, ap (λ v. length v.items) w.replies-is);
            so_far = ap (λ v. v.items) w.replies-is ∙ w.push-then-record-reply.ensures.items
                ∙ ap (λ (y : ℕ). c.loop-record.replies.items ++ record { leader = e.second; value = y } ∷ [])
                (w.apply.ensures ∙ in_range e x.value (omega arith))
                ∙ ap (λ (ys : List Reply). ys ++ reply_of x.value e ∷ []) c.loop-record.invariant.so_far
                ∙ ap (λ (ys : List Reply). x ∷ ys) (sym (map-append (reply_of x.value) (records_of x.leader (take j es)) (e ∷ [])))
                ∙ ap (λ (rs : List Record). answers rs x) (sym more);
          }
      | else-record-reply w ↦
          let is : (e.leader == x.leader) ≡ false = ne_eqb e.leader x.leader w.if-record-reply.false in
          let same : records_of x.leader (take j es) ≡ records_of x.leader (take (j + 1) es) =
          sym (taken_more x.leader es j e false c.loop-record-test.true c.record-item.is is ∙ append-nil (records_of x.leader (take j es))) in
          record {
            room = omega (arith, ap (λ v. length v.items) w.replies-is);
            so_far = ap (λ v. v.items) w.replies-is ∙ c.loop-record.invariant.so_far ∙ ap (λ (rs : List Record). answers rs x) same;
          }
    ]
