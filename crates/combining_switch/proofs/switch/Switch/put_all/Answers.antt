use Rattle.std.proofs.Common.{◌≡◌, ◌<◌, ◌+◌, ◌∷◌, ◌++◌, [], ℕ, List, length, take, drop, get_or, map}
use Rattle.std.proofs.Common.{true, false, inl, refl, ap, ◌∙◌, sym, subst, arith, append-nil, eq-eqb}
use Rattle.std.specs.Prelude.{◌==◌}
use Rattle.std.proofs.lemmas.Bool.{ne_eqb}
use Rattle.std.proofs.lemmas.List.{take_all}
use Rattle.omega_wires.specs.Wires.{bit}
use Rattle.messages.specs.declared.message.Record.{Record}
use Rattle.messages.specs.declared.message.Reply.{Reply}
use Rattle.messages.specs.Queues.{records_of, reply_of}
use Rattle.combining_switch.specs.Pools.{IsFree, PoolLists, replies_at}
use Rattle.combining_switch.specs.Switches.{CanBeQueued, StandsIn, SwitchState, answered_for, input_for, put_replies, put_reply}
use Rattle.combining_switch.proofs.Queueing.{queue_next, stands_still}
use Rattle.messages.proofs.Lemmas.{left_less, taken_more}
use Rattle.combining_switch.proofs.Replying.{put_first, put_none, put_one_more}
use Rattle.combining_switch.proofs.switch.Switch.put_all.Goals as goal
use Rattle.combining_switch.proofs.switch.Switch.put_all.Goals.{then-record-reply, else-record-reply}

pub put-requires-clause-queue : goal.put-requires-clause-queue
put-requires-clause-queue c = c.requires.queues.inputs (bit c.args.self.now.its_bit c.args.reply.leader) (omega arith)

pub put-requires-clause-cell : goal.put-requires-clause-cell
put-requires-clause-cell c = c.requires.leaders.cells c.args.reply (inl refl)

pub put-requires-clause-free : goal.put-requires-clause-free
put-requires-clause-free c = c.requires.leaders.free c.args.reply (inl refl)

-- After a reply is put, the switch's queues are still in the pool.
still_there : (s : SwitchState) (pool after : PoolLists) (y : Reply) → after ≡ put_reply s.its_bit s.inputs pool y → StandsIn s pool → StandsIn s after
still_there s pool after y is stands =
    subst (StandsIn s) (sym is)
    (stands_still s pool (input_for s.its_bit s.inputs y.leader) (replies_at pool (input_for s.its_bit s.inputs y.leader) ++ y ∷ []) stands)

pub loop-record-init : goal.loop-record-init
loop-record-init c =
    let s : SwitchState = c.args.self.now in
    let x : Reply = c.args.reply in
    let seconds : List Reply = map (reply_of x.value) (records_of x.leader c.args.records.now) in
    record {
      so_far = put_none s.its_bit s.inputs c.put.new.pool;
      fact = refl;
      others = subst (λ (pool : PoolLists). CanBeQueued pool seconds) (sym c.put.ensures)
          (queue_next s.its_bit s.inputs c.args.pool.now x seconds c.requires.leaders);
      stands = still_there s c.args.pool.now c.put.new.pool x c.put.ensures c.requires.queues;
    }

pub put-requires-then-record-reply-clause-queue : goal.put-requires-then-record-reply-clause-queue
put-requires-then-record-reply-clause-queue c =
    c.loop-record.invariant.stands.inputs (bit c.args.self.now.its_bit c.second_reply.result.leader) (omega arith)

-- The reply of the next record's second can be queued, and then those of the others.
next_of : (x : Reply) (records : List Record) (j : ℕ) (e : Record) (pool : PoolLists) → j < length records → e ≡ get_or records j e → e.leader ≡ x.leader
    → CanBeQueued pool (map (reply_of x.value) (records_of x.leader (drop j records)))
    → CanBeQueued pool (reply_of x.value e ∷ map (reply_of x.value) (records_of x.leader (drop (j + 1) records)))
next_of x records j e pool inside at same can =
    subst (λ (es : List Record). CanBeQueued pool (map (reply_of x.value) es))
    (left_less x.leader records j e true inside at (eq-eqb e.leader x.leader same)) can

pub put-requires-then-record-reply-clause-cell : goal.put-requires-then-record-reply-clause-cell
put-requires-then-record-reply-clause-cell c =
    let y : Reply = reply_of c.args.reply.value c.record-item.result in
    subst (λ (z : Reply). z.leader < c.loop-record.pool.cells) (sym c.second_reply.ensures)
    ((next_of c.args.reply c.args.records.now c.loop-record.record-index c.record-item.result c.loop-record.pool c.loop-record-test.true
    c.record-item.is c.if-record-reply.true c.loop-record.invariant.others).cells y (inl refl))

pub put-requires-then-record-reply-clause-free : goal.put-requires-then-record-reply-clause-free
put-requires-then-record-reply-clause-free c =
    let y : Reply = reply_of c.args.reply.value c.record-item.result in
    subst (λ (z : Reply). IsFree c.loop-record.pool z.leader) (sym c.second_reply.ensures)
    ((next_of c.args.reply c.args.records.now c.loop-record.record-index c.record-item.result c.loop-record.pool c.loop-record-test.true
    c.record-item.is c.if-record-reply.true c.loop-record.invariant.others).free y (inl refl))

pub loop-record-preserved : goal.loop-record-preserved
loop-record-preserved c =
    let s : SwitchState = c.args.self.now in
    let x : Reply = c.args.reply in
    let es : List Record = c.args.records.now in
    let e : Record = c.record-item.result in
    let j : ℕ = c.loop-record.record-index in
    let before : PoolLists = c.loop-record.pool in
    elim c.if-record-reply.branch [
      | then-record-reply w ↦
          let is : (e.leader == x.leader) ≡ true = eq-eqb e.leader x.leader w.if-record-reply.true in
          let y : Reply = reply_of x.value e in
          let more : records_of x.leader (take (j + 1) es) ≡ records_of x.leader (take j es) ++ e ∷ [] =
          taken_more x.leader es j e true c.loop-record-test.true c.record-item.is is in
          let put : c.if-record-reply.pool ≡ put_reply s.its_bit s.inputs before y =
          w.pool-is ∙ w.put-then-record-reply.ensures ∙ ap (put_reply s.its_bit s.inputs before) w.second_reply.ensures in
          record {
            so_far = put ∙ ap (λ (pool : PoolLists). put_reply s.its_bit s.inputs pool y) c.loop-record.invariant.so_far
                ∙ sym (put_one_more s.its_bit s.inputs x.value (records_of x.leader (take j es)) e c.put.new.pool)
                ∙ ap (λ (rs : List Record). put_replies s.its_bit s.inputs (map (reply_of x.value) rs) c.put.new.pool) (sym more);
            fact = w.answered-is ∙ w.and-answered.ensures (records_of x.leader (take j es)) e c.loop-record.invariant.fact refl
                ∙ ap answered_for (sym more);
            others = subst (λ (pool : PoolLists). CanBeQueued pool (map (reply_of x.value) (records_of x.leader (drop (j + 1) es)))) (sym put)
                (queue_next s.its_bit s.inputs before y (map (reply_of x.value) (records_of x.leader (drop (j + 1) es)))
                (next_of x es j e before c.loop-record-test.true c.record-item.is w.if-record-reply.true c.loop-record.invariant.others));
            stands = still_there s before c.if-record-reply.pool y put c.loop-record.invariant.stands;
          }
      | else-record-reply w ↦
          let is : (e.leader == x.leader) ≡ false = ne_eqb e.leader x.leader w.if-record-reply.false in
          let same : records_of x.leader (take j es) ≡ records_of x.leader (take (j + 1) es) =
          sym (taken_more x.leader es j e false c.loop-record-test.true c.record-item.is is ∙ append-nil (records_of x.leader (take j es))) in
          record {
            so_far = w.pool-is ∙ c.loop-record.invariant.so_far
                ∙ ap (λ (rs : List Record). put_replies s.its_bit s.inputs (map (reply_of x.value) rs) c.put.new.pool) same;
            fact = w.answered-is ∙ c.loop-record.invariant.fact ∙ ap answered_for same;
            others = subst (λ (pool : PoolLists). CanBeQueued pool (map (reply_of x.value) (records_of x.leader (drop (j + 1) es)))) (sym w.pool-is)
                (subst (λ (rs : List Record). CanBeQueued before (map (reply_of x.value) rs))
                (left_less x.leader es j e false c.loop-record-test.true c.record-item.is is) c.loop-record.invariant.others);
            stands = subst (StandsIn s) (sym w.pool-is) c.loop-record.invariant.stands;
          }
    ]

pub returns-clause-replies : goal.returns-clause-replies
returns-clause-replies c =
    let s : SwitchState = c.args.self.now in
    let x : Reply = c.args.reply in
    let es : List Record = c.args.records.now in
    c.loop-record.invariant.so_far
    ∙ ap (λ (rs : List Record). put_replies s.its_bit s.inputs (map (reply_of x.value) (records_of x.leader rs)) c.put.new.pool)
    (take_all c.loop-record.record-index es (omega arith))
    ∙ ap (put_replies s.its_bit s.inputs (map (reply_of x.value) (records_of x.leader es))) c.put.ensures
    ∙ put_first s.its_bit s.inputs x (map (reply_of x.value) (records_of x.leader es)) c.args.pool.now

pub returns-clause-answer : goal.returns-clause-answer
returns-clause-answer c =
    c.loop-record.invariant.fact
    ∙ ap (λ (rs : List Record). answered_for (records_of c.args.reply.leader rs)) (take_all c.loop-record.record-index c.args.records.now (omega arith))
