-- Replies that are put at their inputs, and whether there is room for them.
use Rattle.std.proofs.Common.{◌≡◌, ℕ, zero, suc, ◌+◌, ◌-◌, ◌<◌, ◌≤◌, Bool, true, false, cond, ◌&&◌, List}
use Rattle.std.proofs.Common.{[], ◌∷◌, ◌++◌, length, take, get_or, refl, sym, ap, ◌∙◌, subst, arith, eq-eqb}
use Rattle.std.proofs.Common.{eqb-true, length-append, get_or-set_same, get_or-set_other, length-set}
use Rattle.std.specs.Prelude.{◌==◌, nat_le}
use Rattle.std.proofs.lemmas.Bool.{eqb-false, le-leb, leb-true, leb-false}
use Rattle.std.proofs.lemmas.List.{take_more}
use Rattle.omega_wires.specs.Wires.{bit}
use Rattle.messages.specs.declared.message.Reply.{Reply}
use Rattle.combining_switch.specs.Pools.{PoolLists, replies_at, with_replies}
use Rattle.combining_switch.specs.Switches.{StandsIn, SwitchState, has_room, input_for, input_of, put_replies, put_reply, replies_for}

-- The queues of two inputs are in the pool, and are different.
pub record Inputs (qs : List ℕ) (pool : PoolLists) : Type 0 where
  pub there : (v : ℕ) → v < 2 → input_of qs v < length pool.replies
  pub apart : input_of qs 0 ≡ input_of qs 1 → ⊥

-- If a switch's queues are in the pool, so are those of its inputs, and they are two different ones.
pub inputs_of : (s : SwitchState) (pool : PoolLists) → StandsIn s pool → Inputs s.inputs pool
inputs_of s pool stands = record { there = stands.inputs; apart = stands.apart }

still : (qs : List ℕ) (pool : PoolLists) (q : ℕ) (ys : List Reply) → Inputs qs pool → Inputs qs (with_replies pool q ys)
still qs pool q ys in_pool = record {
  there = λ v l. let had : input_of qs v < length pool.replies = in_pool.there v l in omega (arith, length-set pool.replies q ys);
  apart = in_pool.apart;
}

-- Two inputs with the same queue are the same.
one_input : (qs : List ℕ) (v w : ℕ) → (input_of qs 0 ≡ input_of qs 1 → ⊥) → v < 2 → w < 2 → input_of qs v ≡ input_of qs w → v ≡ w
one_input qs zero zero apart l m e = refl
one_input qs zero (suc zero) apart l m e = absurd (apart e)
one_input qs (suc zero) zero apart l m e = absurd (apart (sym e))
one_input qs (suc zero) (suc zero) apart l m e = refl
one_input qs (suc (suc v)) w apart l m e = absurd (omega arith)
one_input qs v (suc (suc w)) apart l m e = absurd (omega arith)

a_port : (i p : ℕ) → bit i p < 2
a_port i p = omega arith

pub put_replies-append : (i : ℕ) (qs : List ℕ) (xs ys : List Reply) (pool : PoolLists) →
    put_replies i qs (xs ++ ys) pool ≡ put_replies i qs ys (put_replies i qs xs pool)
unfolding put_replies
put_replies-append i qs [] ys pool = refl
put_replies-append i qs (x ∷ xs) ys pool = put_replies-append i qs xs ys (put_reply i qs pool x)

-- Putting one more reply of a list is putting the replies before it, and then this one.
pub put_more : (i : ℕ) (qs : List ℕ) (ys : List Reply) (j : ℕ) (d : Reply) (pool : PoolLists) → j < length ys
    → put_replies i qs (take (j + 1) ys) pool ≡ put_reply i qs (put_replies i qs (take j ys) pool) (get_or ys j d)
unfolding put_replies
put_more i qs ys j d pool within =
    ap (λ xs. put_replies i qs xs pool) (take_more ys j d within) ∙ put_replies-append i qs (take j ys) (get_or ys j d ∷ []) pool

length_after_one : (i : ℕ) (qs : List ℕ) (y : Reply) (pool : PoolLists) (inp : ℕ) → inp < 2 → Inputs qs pool → (b : Bool) → (bit i y.leader == inp) ≡ b
    → length (replies_at (put_reply i qs pool y) (input_of qs inp)) ≡ length (replies_at pool (input_of qs inp)) + cond b 1 0
length_after_one i qs y pool inp two in_pool true is =
    let same : bit i y.leader ≡ inp = eqb-true (bit i y.leader) inp is in
    ap (λ v. length (replies_at (put_reply i qs pool y) (input_of qs v))) (sym same)
    ∙ ap length (get_or-set_same pool.replies (input_for i qs y.leader) (replies_at pool (input_for i qs y.leader) ++ y ∷ []) []
    (in_pool.there (bit i y.leader) (a_port i y.leader)))
    ∙ length-append (replies_at pool (input_for i qs y.leader)) (y ∷ [])
    ∙ ap (λ v. length (replies_at pool (input_of qs v)) + 1) same
length_after_one i qs y pool inp two in_pool false is =
    let other : input_of qs inp ≡ input_for i qs y.leader → ⊥ =
    λ e. eqb-false (bit i y.leader) inp is (sym (one_input qs inp (bit i y.leader) in_pool.apart two (a_port i y.leader) e)) in
    ap length (get_or-set_other pool.replies (input_for i qs y.leader) (input_of qs inp) (replies_at pool (input_for i qs y.leader) ++ y ∷ []) [] other)
    ∙ omega arith

-- After replies are put, an input has those for it after those that it had.
pub length_after : (i : ℕ) (qs : List ℕ) (ys : List Reply) (pool : PoolLists) (inp : ℕ) → inp < 2 → Inputs qs pool
    → length (replies_at (put_replies i qs ys pool) (input_of qs inp)) ≡ length (replies_at pool (input_of qs inp)) + length (replies_for i inp ys)
unfolding put_replies
length_after i qs [] pool inp two in_pool = omega arith
length_after i qs (y ∷ ys) pool inp two in_pool =
    length_after i qs ys (put_reply i qs pool y) inp two
    (still qs pool (input_for i qs y.leader) (replies_at pool (input_for i qs y.leader) ++ y ∷ []) in_pool) ∙ go (bit i y.leader == inp) refl
  where
    go : (b : Bool) → (bit i y.leader == inp) ≡ b
        → length (replies_at (put_reply i qs pool y) (input_of qs inp)) + length (replies_for i inp ys)
        ≡ length (replies_at pool (input_of qs inp)) + length (cond (bit i y.leader == inp) (y ∷ replies_for i inp ys) (replies_for i inp ys))
    go true is = let one = length_after_one i qs y pool inp two in_pool true is in rw is (omega arith)
    go false is = let one = length_after_one i qs y pool inp two in_pool false is in rw is (omega arith)

-- ---- room

some_here : (i : ℕ) (y : Reply) (ys : List Reply) → 0 < length (replies_for i (bit i y.leader) (y ∷ ys))
some_here i y ys =
    let same : (bit i y.leader == bit i y.leader) ≡ true = eq-eqb (bit i y.leader) (bit i y.leader) refl in
    subst (λ b. 0 < length (cond b (y ∷ replies_for i (bit i y.leader) ys) (replies_for i (bit i y.leader) ys))) (sym same) (omega arith)

some_more : (i v : ℕ) (y : Reply) (ys : List Reply) → 0 < length (replies_for i v ys) → 0 < length (replies_for i v (y ∷ ys))
some_more i v y ys some = go (bit i y.leader == v)
  where
    go : (b : Bool) → 0 < length (cond b (y ∷ replies_for i v ys) (replies_for i v ys))
    go true = omega arith
    go false = some

-- If each input that gets a reply is within c, all replies have their place.
all_within : (c i : ℕ) (qs : List ℕ) (pool : PoolLists) (ys : List Reply)
    → ((v : ℕ) → v < 2 → 0 < length (replies_for i v ys) → length (replies_at pool (input_of qs v)) ≤ c) → has_room c i qs pool ys ≡ true
unfolding has_room
all_within c i qs pool [] fits = refl
all_within c i qs pool (y ∷ ys) fits =
    ap (λ b. b && has_room c i qs pool ys)
    (le-leb (length (replies_at pool (input_for i qs y.leader))) c (fits (bit i y.leader) (a_port i y.leader) (some_here i y ys)))
    ∙ all_within c i qs pool ys (λ v l some. fits v l (some_more i v y ys some))

-- If the input of a reply is not within c, not all replies have their place.
one_without : (c i : ℕ) (qs : List ℕ) (pool : PoolLists) (ys : List Reply) (inp : ℕ) → c < length (replies_at pool (input_of qs inp)) →
    0 < length (replies_for i inp ys) → has_room c i qs pool ys ≡ false
unfolding has_room
one_without c i qs pool [] inp over some = absurd (omega arith)
one_without c i qs pool (y ∷ ys) inp over some =
    go (one_without c i qs pool ys inp over) (bit i y.leader == inp) refl (nat_le (length (replies_at pool (input_for i qs y.leader))) c) refl
  where
    go : (0 < length (replies_for i inp ys) → has_room c i qs pool ys ≡ false) → (b : Bool) → (bit i y.leader == inp) ≡ b → (fits : Bool) →
        nat_le (length (replies_at pool (input_for i qs y.leader))) c ≡ fits →
        (nat_le (length (replies_at pool (input_for i qs y.leader))) c && has_room c i qs pool ys) ≡ false
    go rest b is false f = ap (λ v. v && has_room c i qs pool ys) f
    go rest true is true f =
        let same : bit i y.leader ≡ inp = eqb-true (bit i y.leader) inp is in
        let within : length (replies_at pool (input_for i qs y.leader)) ≤ c = leb-true (length (replies_at pool (input_for i qs y.leader))) c f in
        let moved : length (replies_at pool (input_of qs inp)) ≤ c = subst (λ v. length (replies_at pool (input_of qs v)) ≤ c) same within in
        absurd (omega arith)
    go rest false is true f =
        let later : 0 < length (replies_for i inp ys) = subst (λ v. 0 < length (cond v (y ∷ replies_for i inp ys) (replies_for i inp ys))) is some in
        ap (λ v. v && has_room c i qs pool ys) f ∙ rest later

-- There is no room for all replies if an input has less room than it needs for its own.
pub no_room : (c i : ℕ) (qs : List ℕ) (pool : PoolLists) (ys : List Reply) (inp left : ℕ) → inp < 2 → Inputs qs pool →
    left ≡ c - length (replies_at pool (input_of qs inp)) → left < length (replies_for i inp ys)
    → has_room c i qs (put_replies i qs ys pool) ys ≡ false
no_room c i qs pool ys inp left two in_pool is many =
    one_without c i qs (put_replies i qs ys pool) ys inp (omega (arith, length_after i qs ys pool inp two in_pool)) (omega arith)

-- There is room for all replies exactly if each input has room for its own.
pub room_is : (c i : ℕ) (qs : List ℕ) (pool : PoolLists) (ys : List Reply) (upper lower : ℕ) → Inputs qs pool →
    upper ≡ c - length (replies_at pool (input_of qs 0)) → lower ≡ c - length (replies_at pool (input_of qs 1))
    → (nat_le (length (replies_for i 0 ys)) upper && nat_le (length (replies_for i 1 ys)) lower) ≡ has_room c i qs (put_replies i qs ys pool) ys
room_is c i qs pool ys upper lower in_pool u l = go (nat_le (length (replies_for i 0 ys)) upper) refl (nat_le (length (replies_for i 1 ys)) lower) refl
  where
    zeroth : length (replies_at (put_replies i qs ys pool) (input_of qs 0)) ≡ length (replies_at pool (input_of qs 0)) + length (replies_for i 0 ys)
    zeroth = length_after i qs ys pool 0 (omega arith) in_pool

    first : length (replies_at (put_replies i qs ys pool) (input_of qs 1)) ≡ length (replies_at pool (input_of qs 1)) + length (replies_for i 1 ys)
    first = length_after i qs ys pool 1 (omega arith) in_pool

    fits : length (replies_for i 0 ys) ≤ upper → length (replies_for i 1 ys) ≤ lower → (v : ℕ) → v < 2 → 0 < length (replies_for i v ys) →
        length (replies_at (put_replies i qs ys pool) (input_of qs v)) ≤ c
    fits few less zero m some = omega (arith, zeroth)
    fits few less (suc zero) m some = omega (arith, first)
    fits few less (suc (suc v)) m some = absurd (omega arith)

    go : (a : Bool) → nat_le (length (replies_for i 0 ys)) upper ≡ a → (b : Bool) → nat_le (length (replies_for i 1 ys)) lower ≡ b
        → (nat_le (length (replies_for i 0 ys)) upper && nat_le (length (replies_for i 1 ys)) lower) ≡ has_room c i qs (put_replies i qs ys pool) ys
    go true e true f =
        let few : length (replies_for i 0 ys) ≤ upper = leb-true (length (replies_for i 0 ys)) upper e in
        let less : length (replies_for i 1 ys) ≤ lower = leb-true (length (replies_for i 1 ys)) lower f in
        (λ j. e j && f j) ∙ sym (all_within c i qs (put_replies i qs ys pool) ys (fits few less))
    go true e false f =
        let many : lower < length (replies_for i 1 ys) = leb-false (length (replies_for i 1 ys)) lower f in
        (λ j. e j && f j) ∙ sym (one_without c i qs (put_replies i qs ys pool) ys 1 (omega (arith, first)) (omega arith))
    go false e b f =
        let many : upper < length (replies_for i 0 ys) = leb-false (length (replies_for i 0 ys)) upper e in
        ap (λ v. v && nat_le (length (replies_for i 1 ys)) lower) e
        ∙ sym (one_without c i qs (put_replies i qs ys pool) ys 0 (omega (arith, zeroth)) (omega arith))
