-- Networks without messages and records.
use Rattle.std.proofs.Common.{◌≡◌, ℕ, zero, suc, ◌+◌, ◌*◌, ◌/◌, ◌%◌, ◌^◌, ◌<◌, ◌≤◌, Bool, true, false, List}
use Rattle.std.proofs.Common.{[], ◌∷◌, ◌++◌, length, get_or, Option, Some, None, ◌⊎◌, inl, inr, refl, sym}
use Rattle.std.proofs.Common.{ap, ◌∙◌, subst, arith, lt-ltb, nat_lt, mul-le-mul_left, mul_comm}
use Rattle.std.specs.Prelude.{◌==◌, ◌↔◌, All, IsNone, IsTrue, if◌then◌else◌}
use Rattle.std.specs.Option.{option_to_list}
use Rattle.std.proofs.lemmas.Bool.{cases_lt}
use Rattle.omega_wires.specs.Wires.{input_port, rotated_left, rotated_right, switch_of}
use Rattle.omega_wires.specs.Laws.{RotationsAreInverse, RotationsStayOnWires}
use Rattle.messages.specs.declared.message.Request.{Request}
use Rattle.messages.specs.declared.message.Reply.{Reply}
use Rattle.ring_network.specs.Switches.{IsEmptySwitch, SwitchLists, empty_switch, records_at, replies_at, requests_at}
use Rattle.messages.specs.Network.{IsEmptyNet}
use Rattle.omega_network.specs.Networks.{half}
use Rattle.ring_network.specs.Networks.{IsNetwork, NetworkLists, net_of, records_after, replies_before, requests_before, slot_of, switch_at}
use Rattle.ring_network.proofs.Kept.{get_or_any}
use Rattle.omega_network.proofs.Lemmas.{two_halves}
use Rattle.ring_network.proofs.Changes.{at_input, at_module}

get_or_past : {X : Type 0} (xs : List X) (i : ℕ) (d : X) → length xs ≤ i → get_or xs i d ≡ d
get_or_past [] i d l = refl
get_or_past (x ∷ xs) zero d l = absurd (omega arith)
get_or_past (x ∷ xs) (suc i) d l = get_or_past xs i d (omega arith)

stage_of : (h k place : ℕ) → 0 < h → place < k * h → place / h < k
stage_of h k place positive within = go (cases_lt (place / h) k)
  where
    go : (place / h < k) ⊎ (k ≤ place / h) → place / h < k
    go (inl l) = l
    go (inr past) =
        absurd (let up : h * k ≤ h * (place / h) = mul-le-mul_left h past in let whole : h * (place / h) + place % h ≡ place = omega arith in
        omega (arith, mul_comm h k))

-- ---- from the lists to the places

slot_empty : {X : Type 0} (slots : List (Option X)) → All IsNone slots → (w : ℕ) → slot_of slots w ≡ []
slot_empty {X} slots all w = go (cases_lt w (length slots))
  where
    at : (o : Option X) → IsNone o → option_to_list o ≡ []
    at None h = refl
    at (Some x) h = (let f : true ≡ false = h in cc)

    go : (w < length slots) ⊎ (length slots ≤ w) → slot_of slots w ≡ []
    go (inl l) = at (get_or slots w None) (all w None l)
    go (inr past) = ap option_to_list (get_or_past slots w None past)

module _ (n : NetworkLists) (all : All IsEmptySwitch n.switches) where
  empty_at : (s i : ℕ) → IsEmptySwitch (switch_at n s i)
  empty_at s i = go (cases_lt (s * half n.k + i) (length n.switches))
    where
      go : (s * half n.k + i < length n.switches) ⊎ (length n.switches ≤ s * half n.k + i) → IsEmptySwitch (switch_at n s i)
      go (inl l) = all (s * half n.k + i) (empty_switch 0 0 0 0) l
      go (inr past) = subst IsEmptySwitch (sym (get_or_past n.switches (s * half n.k + i) (empty_switch 0 0 0 0) past)) ((refl, refl), (refl, refl), refl, refl)

  requests_none : (s i v : ℕ) → v < 2 → requests_at (switch_at n s i) v ≡ []
  requests_none s i zero l = (empty_at s i).0.0
  requests_none s i (suc zero) l = (empty_at s i).1.0
  requests_none s i (suc (suc v)) l = absurd (omega arith)

  records_none : (s i v : ℕ) → v < 2 → records_at (switch_at n s i) v ≡ []
  records_none s i zero l = (empty_at s i).0.1
  records_none s i (suc zero) l = (empty_at s i).1.1
  records_none s i (suc (suc v)) l = absurd (omega arith)

  replies_none : (s i v : ℕ) → v < 2 → replies_at (switch_at n s i).inputs v ≡ []
  replies_none s i zero l = (empty_at s i).2
  replies_none s i (suc zero) l = (empty_at s i).3
  replies_none s i (suc (suc v)) l = absurd (omega arith)

-- A choice between an empty list and the empty list is empty.
if_same : {X : Type 0} (b : Bool) (xs : List X) → xs ≡ [] → (if b then xs else []) ≡ []
if_same true xs e = e
if_same false xs e = refl

small_rest : (w : ℕ) → w % 2 < 2
small_rest w = omega arith

-- If no slot has a message and each switch is empty, the network is empty.
pub empty_net : (n : NetworkLists) → All IsNone n.slots → All IsEmptySwitch n.switches → All IsNone n.module_slots → IsEmptyNet (net_of n)
unfolding requests_before records_after replies_before
empty_net n slots switches module_slots d w = (requests d, records, replies)
  where
    requests : (d : ℕ) → requests_before n d w ≡ []
    requests zero = slot_empty n.slots slots w
    requests (suc s) = if_same (nat_lt w (2 ^ n.k)) (requests_at (switch_at n s (w / 2)) (w % 2)) (requests_none n switches s (w / 2) (w % 2) (small_rest w))

    records : records_after n d w ≡ []
    records = if_same (nat_lt w (2 ^ n.k)) (records_at (switch_at n d (w / 2)) (w % 2)) (records_none n switches d (w / 2) (w % 2) (small_rest w))

    replies : replies_before n d w ≡ []
    replies =
        go (d == n.k) (slot_of n.module_slots w) (if nat_lt w (2 ^ n.k) then replies_at (switch_at n d (switch_of n.k w)).inputs (input_port n.k w) else [])
        (slot_empty n.module_slots module_slots w)
        (if_same (nat_lt w (2 ^ n.k)) (replies_at (switch_at n d (switch_of n.k w)).inputs (input_port n.k w))
        (replies_none n switches d (switch_of n.k w) (input_port n.k w) (small_rest (rotated_left n.k w))))
      where
        go : (b : Bool) (xs ys : List Reply) → xs ≡ [] → ys ≡ [] → (if b then xs else ys) ≡ []
        go true xs ys e f = e
        go false xs ys e f = f

-- ---- and back

is_none : {X : Type 0} (o : Option X) → option_to_list o ≡ [] → IsNone o
is_none None e = refl
is_none (Some x) e = cc

all_none : {X : Type 0} (slots : List (Option X)) → ((w : ℕ) → slot_of slots w ≡ []) → All IsNone slots
all_none slots empty w d l = subst IsNone (get_or_any slots w None d l) (is_none (get_or slots w None) (empty w))

module _ (inverse : RotationsAreInverse) (on_wires : RotationsStayOnWires) (n : NetworkLists) (is : IsNetwork n) (empty : IsEmptyNet (net_of n)) where
  pub slots_none : All IsNone n.slots
  unfolding requests_before
  slots_none = all_none n.slots (λ w. (empty 0 w).0)

  pub module_slots_none : All IsNone n.module_slots
  module_slots_none = all_none n.module_slots (λ w. sym (at_module n w) ∙ (empty n.k w).2)

  module _ (s i v : ℕ) (stage : s < n.k) (number : i < half n.k) (port : v < 2) where
    on : i * 2 + v < 2 ^ n.k
    on = let e = two_halves n.k s stage in omega arith

    at_half : (i * 2 + v) / 2 ≡ i
    at_half = omega arith

    at_rest : (i * 2 + v) % 2 ≡ v
    at_rest = omega arith

    request_none : requests_at (switch_at n s i) v ≡ []
    unfolding requests_before
    request_none =
        (λ j. requests_at (switch_at n s (sym at_half j)) (sym at_rest j))
        ∙ sym (ap (λ (b : Bool). if b then requests_at (switch_at n s ((i * 2 + v) / 2)) ((i * 2 + v) % 2) else []) (lt-ltb (i * 2 + v) (2 ^ n.k) on))
        ∙ (empty (suc s) (i * 2 + v)).0

    record_none : records_at (switch_at n s i) v ≡ []
    unfolding records_after
    record_none =
        (λ j. records_at (switch_at n s (sym at_half j)) (sym at_rest j))
        ∙ sym (ap (λ (b : Bool). if b then records_at (switch_at n s ((i * 2 + v) / 2)) ((i * 2 + v) % 2) else []) (lt-ltb (i * 2 + v) (2 ^ n.k) on))
        ∙ (empty s (i * 2 + v)).1

    back : rotated_left n.k (rotated_right n.k (i * 2 + v)) ≡ i * 2 + v
    back = (inverse n.k (i * 2 + v) on).1

    reply_none : replies_at (switch_at n s i).inputs v ≡ []
    reply_none =
        (λ j. replies_at (switch_at n s (sym (ap (λ a. a / 2) back ∙ at_half) j)).inputs (sym (ap (λ a. a % 2) back ∙ at_rest) j))
        ∙ sym (at_input inverse on_wires n s (rotated_right n.k (i * 2 + v)) stage ((on_wires n.k (i * 2 + v) on).1))
        ∙ (empty s (rotated_right n.k (i * 2 + v))).2

  switch_empty : (s i : ℕ) → s < n.k → i < half n.k → IsEmptySwitch (switch_at n s i)
  switch_empty s i stage number = (
    (request_none s i 0 stage number (omega arith), record_none s i 0 stage number (omega arith)),
    (request_none s i 1 stage number (omega arith), record_none s i 1 stage number (omega arith)),
    reply_none s i 0 stage number (omega arith),
    reply_none s i 1 stage number (omega arith),
  )

  pub switches_none : All IsEmptySwitch n.switches
  switches_none place d l = go (half n.k) refl
    where
      go : (h : ℕ) → half n.k ≡ h → IsEmptySwitch (get_or n.switches place d)
      go zero e = absurd (let all = is.all_switches in let none : n.k * half n.k ≡ n.k * 0 = ap (λ a. n.k * a) e in omega arith)
      go (suc h) e =
          let all = is.all_switches in
          let positive : 0 < half n.k = omega arith in
          let whole : half n.k * (place / half n.k) + place % half n.k ≡ place = omega arith in
          let rest : place % half n.k < half n.k = omega arith in
          let stage : place / half n.k < n.k = stage_of (half n.k) n.k place positive (omega arith) in
          let same : (place / half n.k) * half n.k + place % half n.k ≡ place = omega (arith, mul_comm (half n.k) (place / half n.k)) in
          subst IsEmptySwitch
          (ap (λ p. get_or n.switches p (empty_switch 0 0 0 0)) same ∙ get_or_any n.switches place (empty_switch 0 0 0 0) d l)
          (switch_empty (place / half n.k) (place % half n.k) stage rest)

-- If the tests of slots and switches hold, the network is empty exactly if the test of the modules' slots holds.
pub fact : (n m : NetworkLists) → n ≡ m → IsNetwork n → RotationsAreInverse → RotationsStayOnWires →
    (a b c : Bool) (slots : List (Option Request)) (switches : List SwitchLists) (module_slots : List (Option Reply))
    → slots ≡ n.slots → switches ≡ n.switches → module_slots ≡ n.module_slots → (IsTrue a ↔ All IsNone slots) → (IsTrue b ↔ All IsEmptySwitch switches) →
    (IsTrue c ↔ All IsNone module_slots)
    → a ≡ true → b ≡ true → (IsTrue c ↔ IsEmptyNet (net_of m))
fact n m view is inverse on_wires a b c slots switches module_slots e f g has_slots has_switches has_module_slots is_a is_b =
    subst (λ (l : NetworkLists). IsTrue c ↔ IsEmptyNet (net_of l)) view (
      (λ t. empty_net n (subst (All IsNone) e (has_slots.0 is_a)) (subst (All IsEmptySwitch) f (has_switches.0 is_b))
          (subst (All IsNone) g (has_module_slots.0 t))),
      (λ empty. has_module_slots.1 (subst (All IsNone) (sym g) (module_slots_none inverse on_wires n is empty))),
    )

-- If the network is empty, the look through the processors' slots finds each of them empty.
pub not_empty_slots : (n m : NetworkLists) → n ≡ m → IsNetwork n → RotationsAreInverse → RotationsStayOnWires → (a : Bool) (slots : List (Option Request)) →
    slots ≡ n.slots → (IsTrue a ↔ All IsNone slots)
    → IsEmptyNet (net_of m) → a ≡ true
not_empty_slots n m view is inverse on_wires a slots e has empty =
    has.1 (subst (All IsNone) (sym e) (slots_none inverse on_wires n is (subst (λ (l : NetworkLists). IsEmptyNet (net_of l)) (sym view) empty)))

-- If the network is empty, the look through the switches finds each of them empty.
pub not_empty_switches : (n m : NetworkLists) → n ≡ m → IsNetwork n → RotationsAreInverse → RotationsStayOnWires → (b : Bool) (switches : List SwitchLists) →
    switches ≡ n.switches → (IsTrue b ↔ All IsEmptySwitch switches)
    → IsEmptyNet (net_of m) → b ≡ true
not_empty_switches n m view is inverse on_wires b switches e has empty =
    has.1 (subst (All IsEmptySwitch) (sym e) (switches_none inverse on_wires n is (subst (λ (l : NetworkLists). IsEmptyNet (net_of l)) (sym view) empty)))

-- Slots without a message, with one more empty slot, have no message.
pub free_more : {X : Type 0} (slots : List (Option X)) → All IsNone slots → All IsNone (slots ++ None ∷ [])
free_more {X} [] all zero d l = refl
free_more {X} [] all (suc k) d l = absurd (omega arith)
free_more {X} (x ∷ xs) all zero d l = all zero d (omega arith)
free_more {X} (x ∷ xs) all (suc k) d l = free_more xs (λ j e m. all (suc j) e (omega arith)) k d (omega arith)
