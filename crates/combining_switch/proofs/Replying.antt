-- The replies that a leader's reply gives, record by record: how many are for an input, and who is reported.
use Rattle.std.proofs.Common.{◌≡◌, ℕ, ◌+◌, Bool, true, false, cond, List, [], ◌∷◌, ◌++◌, length, map, refl, sym, ap, ◌∙◌, arith}
use Rattle.std.proofs.lemmas.List.{map-append}
use Rattle.std.specs.Prelude.{◌==◌}
use Rattle.omega_wires.specs.Wires.{bit}
use Rattle.messages.specs.declared.message.Record.{Record}
use Rattle.messages.specs.declared.message.Reply.{Reply}
use Rattle.messages.specs.Queues.{answers, records_of, reply_of}
use Rattle.combining_switch.specs.Pools.{PoolLists}
use Rattle.combining_switch.specs.Switches.{put_replies, put_reply, records_for, replies_for}
use Rattle.combining_switch.proofs.Rooms.{put_replies-append}

-- Putting the replies of one more record is putting those before, and then the reply of this record.
pub put_one_more : (i : ℕ) (qs : List ℕ) (y : ℕ) (es : List Record) (e : Record) (pool : PoolLists) →
    put_replies i qs (map (reply_of y) (es ++ e ∷ [])) pool ≡ put_reply i qs (put_replies i qs (map (reply_of y) es) pool) (reply_of y e)
unfolding put_replies
put_one_more i qs y es e pool =
    ap (λ ys. put_replies i qs ys pool) (map-append (reply_of y) es (e ∷ [])) ∙ put_replies-append i qs (map (reply_of y) es) (reply_of y e ∷ []) pool

-- A pool to which no replies are put is as before.
pub put_none : (i : ℕ) (qs : List ℕ) (pool : PoolLists) → pool ≡ put_replies i qs [] pool
unfolding put_replies
put_none i qs pool = refl

-- Putting the first reply, and then the others, is putting all of them.
pub put_first : (i : ℕ) (qs : List ℕ) (x : Reply) (ys : List Reply) (pool : PoolLists)
    → put_replies i qs ys (put_reply i qs pool x) ≡ put_replies i qs (x ∷ ys) pool
unfolding put_replies
put_first i qs x ys pool = refl

seconds_counted : (i v p y : ℕ) (es : List Record) → length (records_for i v p es) ≡ length (replies_for i v (map (reply_of y) (records_of p es)))
seconds_counted i v p y [] = refl
seconds_counted i v p y (e ∷ es) = go (seconds_counted i v p y es) (e.leader == p) refl (bit i e.second == v) refl
  where
    go : length (records_for i v p es) ≡ length (replies_for i v (map (reply_of y) (records_of p es))) → (b : Bool) → (e.leader == p) ≡ b → (d : Bool)
        → (bit i e.second == v) ≡ d → length (records_for i v p (e ∷ es)) ≡ length (replies_for i v (map (reply_of y) (records_of p (e ∷ es))))
    go rest true is true for_it = rw is (rw for_it (omega (arith, rest)))
    go rest true is false for_it = rw is (rw for_it rest)
    go rest false is d for_it = rw is rest

-- The replies for an input are the leader's own, if it is for the input, and those of its seconds for it.
pub counted : (i v p : ℕ) (es : List Record) (x : Reply) → x.leader ≡ p
    → cond (bit i p == v) 1 0 + length (records_for i v p es) ≡ length (replies_for i v (answers (records_of p es) x))
counted i v p es x same = go (bit i x.leader == v) refl
  where
    rest : length (records_for i v p es) ≡ length (replies_for i v (map (reply_of x.value) (records_of p es)))
    rest = seconds_counted i v p x.value es

    own : (bit i p == v) ≡ (bit i x.leader == v)
    own = ap (λ q. bit i q == v) (sym same)

    go : (b : Bool) → (bit i x.leader == v) ≡ b
        → cond (bit i p == v) 1 0 + length (records_for i v p es) ≡ length (replies_for i v (answers (records_of p es) x))
    go true is = rw own (rw is (omega (arith, rest)))
    go false is = rw own (rw is (omega (arith, rest)))
