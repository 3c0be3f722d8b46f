-- Replies that are put at their inputs, and whether there is room for them.
use Rattle.std.proofs.Common.{◌≡◌, ℕ, zero, suc, ◌+◌, ◌<◌, ◌≤◌, Bool, true, false, cond, ◌&&◌, List, [], ◌∷◌, ◌++◌}
use Rattle.std.proofs.Common.{length, take, drop, get_or, refl, sym, ap, ◌∙◌, subst, arith, eq-eqb, eqb-true}
use Rattle.std.proofs.Common.{length-append, get_or-set_same, get_or-set_other, length-set, take-append-drop}
use Rattle.std.specs.Prelude.{◌==◌, nat_le}
use Rattle.std.proofs.lemmas.Bool.{eqb-false, le-leb, leb-true, leb-false}
use Rattle.std.proofs.lemmas.List.{take_more}
use Rattle.std.proofs.lemmas.List.Elements.{filter-append}
use Rattle.std.proofs.lemmas.List.Filters.{length-filter_more}
use Rattle.omega_wires.specs.Wires.{bit}
use Rattle.messages.specs.declared.message.Reply.{Reply}
use Rattle.combining_switch.specs.Switches.{replies_for}
use Rattle.ring_network.specs.Switches.{has_room, put_replies, put_reply, replies_at}

pub put_replies-append : (i : ℕ) (xs ys : List Reply) (inputs : List (List Reply)) →
    put_replies i (xs ++ ys) inputs ≡ put_replies i ys (put_replies i xs inputs)
unfolding put_replies
put_replies-append i [] ys inputs = refl
put_replies-append i (x ∷ xs) ys inputs = put_replies-append i xs ys (put_reply i inputs x)

-- Putting one more reply of a list is putting the replies before it, and then this one.
pub put_more : (i : ℕ) (ys : List Reply) (j : ℕ) (d : Reply) (inputs : List (List Reply)) → j < length ys
    → put_replies i (take (j + 1) ys) inputs ≡ put_reply i (put_replies i (take j ys) inputs) (get_or ys j d)
unfolding put_replies
put_more i ys j d inputs within =
    ap (λ xs. put_replies i xs inputs) (take_more ys j d within) ∙ put_replies-append i (take j ys) (get_or ys j d ∷ []) inputs

length_after_one : (i : ℕ) (y : Reply) (inputs : List (List Reply)) (inp : ℕ) → length inputs ≡ 2 → (b : Bool) → (bit i y.leader == inp) ≡ b
    → length (replies_at (put_reply i inputs y) inp) ≡ length (replies_at inputs inp) + cond b 1 0
length_after_one i y inputs inp two true is =
    let same : bit i y.leader ≡ inp = eqb-true (bit i y.leader) inp is in
    let within : bit i y.leader < length inputs = omega arith in
    ap (λ v. length (replies_at (put_reply i inputs y) v)) (sym same)
    ∙ ap length (get_or-set_same inputs (bit i y.leader) (replies_at inputs (bit i y.leader) ++ y ∷ []) [] within)
    ∙ length-append (replies_at inputs (bit i y.leader)) (y ∷ [])
    ∙ ap (λ v. length (replies_at inputs v) + 1) same
length_after_one i y inputs inp two false is =
    let other : inp ≡ bit i y.leader → ⊥ = λ e. eqb-false (bit i y.leader) inp is (sym e) in
    ap length (get_or-set_other inputs (bit i y.leader) inp (replies_at inputs (bit i y.leader) ++ y ∷ []) [] other)
    ∙ omega arith

-- After replies are put, an input has those for it after those that it had.
pub length_after : (i : ℕ) (ys : List Reply) (inputs : List (List Reply)) (inp : ℕ) → length inputs ≡ 2
    → length (replies_at (put_replies i ys inputs) inp) ≡ length (replies_at inputs inp) + length (replies_for i inp ys)
unfolding put_replies
length_after i [] inputs inp two = omega arith
length_after i (y ∷ ys) inputs inp two =
    let still : length (put_reply i inputs y) ≡ 2 = length-set inputs (bit i y.leader) (replies_at inputs (bit i y.leader) ++ y ∷ []) ∙ two in
    length_after i ys (put_reply i inputs y) inp still ∙ go (bit i y.leader == inp) refl
  where
    go : (b : Bool) → (bit i y.leader == inp) ≡ b
        → length (replies_at (put_reply i inputs y) inp) + length (replies_for i inp ys)
        ≡ length (replies_at inputs inp) + length (cond (bit i y.leader == inp) (y ∷ replies_for i inp ys) (replies_for i inp ys))
    go true is = let one = length_after_one i y inputs inp two true is in rw is (omega arith)
    go false is = let one = length_after_one i y inputs inp two false is in rw is (omega arith)

-- If both inputs are within c, all replies have their place.
all_within : (c i : ℕ) (inputs : List (List Reply)) (ys : List Reply) → length (replies_at inputs 0) ≤ c → length (replies_at inputs 1) ≤ c →
    has_room c i inputs ys ≡ true
unfolding has_room
all_within c i inputs [] upper lower = refl
all_within c i inputs (y ∷ ys) upper lower =
    ap (λ b. b && has_room c i inputs ys) (le-leb (length (replies_at inputs (bit i y.leader))) c (at (bit i y.leader) (omega arith)))
    ∙ all_within c i inputs ys upper lower
  where
    at : (v : ℕ) → v < 2 → length (replies_at inputs v) ≤ c
    at zero l = upper
    at (suc zero) l = lower
    at (suc (suc v)) l = absurd (omega arith)

-- If the input of a reply is not within c, not all replies have their place.
one_without : (c i : ℕ) (inputs : List (List Reply)) (ys : List Reply) (inp : ℕ) → c < length (replies_at inputs inp) → 0 < length (replies_for i inp ys) →
    has_room c i inputs ys ≡ false
unfolding has_room
one_without c i inputs [] inp over some = absurd (omega arith)
one_without c i inputs (y ∷ ys) inp over some =
    go (one_without c i inputs ys inp over) (bit i y.leader == inp) refl (nat_le (length (replies_at inputs (bit i y.leader))) c) refl
  where
    go : (0 < length (replies_for i inp ys) → has_room c i inputs ys ≡ false) → (b : Bool) → (bit i y.leader == inp) ≡ b → (fits : Bool) →
        nat_le (length (replies_at inputs (bit i y.leader))) c ≡ fits →
        (nat_le (length (replies_at inputs (bit i y.leader))) c && has_room c i inputs ys) ≡ false
    go rest b is false f = ap (λ v. v && has_room c i inputs ys) f
    go rest true is true f =
        let same : bit i y.leader ≡ inp = eqb-true (bit i y.leader) inp is in
        let within : length (replies_at inputs (bit i y.leader)) ≤ c = leb-true (length (replies_at inputs (bit i y.leader))) c f in
        let moved : length (replies_at inputs inp) ≤ c = subst (λ v. length (replies_at inputs v) ≤ c) same within in
        absurd (omega arith)
    go rest false is true f =
        let later : 0 < length (replies_for i inp ys) = subst (λ v. 0 < length (cond v (y ∷ replies_for i inp ys) (replies_for i inp ys))) is some in
        ap (λ v. v && has_room c i inputs ys) f ∙ rest later

-- There is no room for all replies if an input has less room than it needs for its own.
pub no_room : (c i : ℕ) (inputs : List (List Reply)) (ys : List Reply) (inp left : ℕ) → length inputs ≡ 2 → left + length (replies_at inputs inp) ≡ c →
    left < length (replies_for i inp ys)
    → has_room c i (put_replies i ys inputs) ys ≡ false
no_room c i inputs ys inp left two is many = one_without c i (put_replies i ys inputs) ys inp (omega (arith, length_after i ys inputs inp two)) (omega arith)

-- There is room for all replies exactly if each input has room for its own.
pub room_is : (c i : ℕ) (inputs : List (List Reply)) (ys : List Reply) (upper lower : ℕ) → length inputs ≡ 2 → upper + length (replies_at inputs 0) ≡ c →
    lower + length (replies_at inputs 1) ≡ c
    → (nat_le (length (replies_for i 0 ys)) upper && nat_le (length (replies_for i 1 ys)) lower) ≡ has_room c i (put_replies i ys inputs) ys
room_is c i inputs ys upper lower two u l = go (nat_le (length (replies_for i 0 ys)) upper) refl (nat_le (length (replies_for i 1 ys)) lower) refl
  where
    zeroth : length (replies_at (put_replies i ys inputs) 0) ≡ length (replies_at inputs 0) + length (replies_for i 0 ys)
    zeroth = length_after i ys inputs 0 two

    first : length (replies_at (put_replies i ys inputs) 1) ≡ length (replies_at inputs 1) + length (replies_for i 1 ys)
    first = length_after i ys inputs 1 two

    go : (a : Bool) → nat_le (length (replies_for i 0 ys)) upper ≡ a → (b : Bool) → nat_le (length (replies_for i 1 ys)) lower ≡ b
        → (nat_le (length (replies_for i 0 ys)) upper && nat_le (length (replies_for i 1 ys)) lower) ≡ has_room c i (put_replies i ys inputs) ys
    go true e true f =
        let few : length (replies_for i 0 ys) ≤ upper = leb-true (length (replies_for i 0 ys)) upper e in
        let less : length (replies_for i 1 ys) ≤ lower = leb-true (length (replies_for i 1 ys)) lower f in
        (λ j. e j && f j) ∙ sym (all_within c i (put_replies i ys inputs) ys (omega (arith, zeroth)) (omega (arith, first)))
    go true e false f =
        let many : lower < length (replies_for i 1 ys) = leb-false (length (replies_for i 1 ys)) lower f in
        (λ j. e j && f j) ∙ sym (one_without c i (put_replies i ys inputs) ys 1 (omega (arith, first)) (omega arith))
    go false e b f =
        let many : upper < length (replies_for i 0 ys) = leb-false (length (replies_for i 0 ys)) upper e in
        ap (λ v. v && nat_le (length (replies_for i 1 ys)) lower) e ∙ sym (one_without c i (put_replies i ys inputs) ys 0 (omega (arith, zeroth)) (omega arith))

each_fits : (c i : ℕ) (inputs : List (List Reply)) (ys : List Reply) → has_room c i inputs ys ≡ true → (j : ℕ) (d : Reply) → j < length ys →
    length (replies_at inputs (bit i (get_or ys j d).leader)) ≤ c
unfolding has_room
each_fits c i inputs [] room j d within = absurd (omega arith)
each_fits c i inputs (y ∷ ys) room j d within =
    go (λ r n l. each_fits c i inputs ys r n d l) (nat_le (length (replies_at inputs (bit i y.leader))) c) refl room j within
  where
    go : (has_room c i inputs ys ≡ true → (n : ℕ) → n < length ys → length (replies_at inputs (bit i (get_or ys n d).leader)) ≤ c) → (b : Bool) →
        nat_le (length (replies_at inputs (bit i y.leader))) c ≡ b → (nat_le (length (replies_at inputs (bit i y.leader))) c && has_room c i inputs ys) ≡ true
        → (j : ℕ) → j < suc (length ys) → length (replies_at inputs (bit i (get_or (y ∷ ys) j d).leader)) ≤ c
    go rest false e r j l = absurd (let f : false ≡ true = sym (ap (λ v. v && has_room c i inputs ys) e) ∙ r in cc)
    go rest true e r zero l = leb-true (length (replies_at inputs (bit i y.leader))) c e
    go rest true e r (suc j) l = rest (sym (ap (λ v. v && has_room c i inputs ys) e) ∙ r) j (omega arith)

-- If there is room for all replies, there is room for the next one.
pub next_fits : (c i : ℕ) (inputs : List (List Reply)) (ys : List Reply) (j : ℕ) (d : Reply) → length inputs ≡ 2 →
    has_room c i (put_replies i ys inputs) ys ≡ true → j < length ys
    → length (replies_at (put_replies i (take j ys) inputs) (bit i (get_or ys j d).leader)) < c
next_fits c i inputs ys j d two room within =
    let v : ℕ = bit i (get_or ys j d).leader in
    let last : length (replies_at (put_replies i ys inputs) v) ≤ c = each_fits c i (put_replies i ys inputs) ys room j d within in
    let all : length (replies_at (put_replies i ys inputs) v) ≡ length (replies_at inputs v) + length (replies_for i v ys) = length_after i ys inputs v two in
    let before : length (replies_at (put_replies i (take j ys) inputs) v) ≡ length (replies_at inputs v) + length (replies_for i v (take j ys)) =
    length_after i (take j ys) inputs v two in
    let more : length (replies_for i v (take (j + 1) ys)) ≡ length (replies_for i v (take j ys)) + cond (bit i (get_or ys j d).leader == v) 1 0 =
    length-filter_more (λ (y : Reply). bit i y.leader == v) ys j d within in
    let counted : length (replies_for i v (take (j + 1) ys)) ≡ length (replies_for i v (take j ys)) + 1 =
    more ∙ ap (λ b. length (replies_for i v (take j ys)) + cond b 1 0) (eq-eqb v v refl) in
    let parts : length (replies_for i v ys) ≡ length (replies_for i v (take (j + 1) ys)) + length (replies_for i v (drop (j + 1) ys)) =
    ap (λ xs. length (replies_for i v xs)) (sym (take-append-drop (j + 1) ys))
    ∙ ap length (filter-append (λ (y : Reply). bit i y.leader == v) (take (j + 1) ys) (drop (j + 1) ys))
    ∙ length-append (replies_for i v (take (j + 1) ys)) (replies_for i v (drop (j + 1) ys)) in
    omega arith
