-- The numbers of the places of a network. A network is empty if no queue has a message and no wait buffer a record.
use Rattle.std.proofs.Common.{◌≡◌, ℕ, zero, suc, ◌+◌, ◌-◌, ◌*◌, ◌/◌, ◌%◌, ◌^◌, ◌<◌, ◌≤◌, Bool, true, false, List}
use Rattle.std.proofs.Common.{[], length, get_or, nat_lt, ◌⊎◌, inl, inr, refl, sym, ap, ◌∙◌, subst, arith}
use Rattle.std.specs.Prelude.{All, IsTrue, ◌↔◌, if◌then◌else◌}
use Rattle.std.proofs.Math.Nat.{div-lt_iff_lt-mul}
use Rattle.std.proofs.lemmas.Bool.{cases_lt}
use Rattle.std.proofs.lemmas.Nat.{div-add-mod', pow_pos}
use Rattle.std.proofs.lemmas.List.{get_or_default, get_or_past}
use Rattle.messages.specs.Network.{IsEmptyNet}
use Rattle.combining_switch.specs.Pools.{replies_at, requests_at}
use Rattle.combining_switch.specs.Switches.{SwitchState, records_at}
use Rattle.omega_network.specs.Networks.{HasNoMessage, HasNoRecord, IsNetwork, NetworkLists, half, net_of, no_switch}
use Rattle.omega_network.specs.Networks.{on_wire, place, records_after, replies_before, requests_before, switch_at}
use Rattle.omega_network.proofs.Changes.{at_output, at_queue, at_reply_queue}
use Rattle.omega_network.proofs.Switches.{two_halves}

-- ---- numbers of places

-- A network has a wire.
pub some_wires : (k : ℕ) → 0 < 2 ^ k
some_wires k = pow_pos k

-- The depth and the wire of a queue's number have that number.
pub place_of : (k q : ℕ) → place k (q / 2 ^ k) (q % 2 ^ k) ≡ q
place_of k q = div-add-mod' q (2 ^ k)

-- The wire of a queue's number is one of the network.
pub on_a_wire : (k q : ℕ) → q % 2 ^ k < 2 ^ k
on_a_wire k q = let l = some_wires k in omega arith

-- ---- places without messages and records

nothing_on : {X : Type 0} (k w : ℕ) (xs : List X) → xs ≡ [] → on_wire k w xs ≡ []
nothing_on {X} k w xs e = go (nat_lt w (2 ^ k))
  where
    go : (b : Bool) → (if b then xs else []) ≡ []
    go true = e
    go false = refl

-- What holds of all switches of a network, and of the switch past the end, holds of the switch read at each place.
pub each_switch : (P : SwitchState → Type 0) (n : NetworkLists) → All P n.switches → P no_switch → (s i : ℕ) → P (switch_at n s i)
each_switch P n all none s i = go (cases_lt (s * half n.k + i) (length n.switches))
  where
    go : (s * half n.k + i < length n.switches) ⊎ (length n.switches ≤ s * half n.k + i) → P (switch_at n s i)
    go (inl l) = all (s * half n.k + i) no_switch l
    go (inr past) = subst P (sym (get_or_past n.switches (s * half n.k + i) no_switch past)) none

at_either : (t : SwitchState) → HasNoRecord t → (v : ℕ) → v < 2 → records_at t v ≡ []
at_either t none zero l = none.0
at_either t none (suc zero) l = none.1
at_either t none (suc (suc v)) l = absurd (omega arith)

-- If no queue has a message and no switch has a record, the network is empty.
pub empty_net : (n : NetworkLists) → HasNoMessage n.pool → All HasNoRecord n.switches → IsEmptyNet (net_of n)
unfolding requests_before records_after replies_before
empty_net n messages records d w = (
  nothing_on n.k w _ ((messages (place n.k d w)).0),
  nothing_on n.k w _ (at_either (switch_at n d (w / 2)) (each_switch HasNoRecord n records (refl, refl) d (w / 2)) (w % 2) (omega arith)),
  nothing_on n.k w _ ((messages (place n.k d w)).1),
)

pub no_message_is : (n : NetworkLists) → IsEmptyNet (net_of n) → HasNoMessage n.pool
no_message_is n empty q =
    let l = on_a_wire n.k q in
    let e = place_of n.k q in (
      ap (requests_at n.pool) (sym e) ∙ sym (at_queue n (q / 2 ^ n.k) (q % 2 ^ n.k) l) ∙ (empty (q / 2 ^ n.k) (q % 2 ^ n.k)).0,
      ap (replies_at n.pool) (sym e) ∙ sym (at_reply_queue n (q / 2 ^ n.k) (q % 2 ^ n.k) l) ∙ (empty (q / 2 ^ n.k) (q % 2 ^ n.k)).2,
    )

-- ---- switches by their number among all

module _ (n : NetworkLists) (is : IsNetwork n) (j : ℕ) (there : j < length n.switches) where
  some : 0 < half n.k
  some = pow_pos (n.k - 1)

  stage : j / half n.k < n.k
  stage = let below : j < n.k * half n.k = let all = is.all_switches in omega arith in
      (div-lt_iff_lt-mul {k = half n.k} {x = j} {y = n.k} some).1 below

  number : j % half n.k < half n.k
  number = let l = some in omega arith

  again : (j / half n.k) * half n.k + j % half n.k ≡ j
  again = div-add-mod' j (half n.k)

  -- The records at an output of the switch with this number are those at the place of the output.
  pub at_number : (d : SwitchState) (v : ℕ) → v < 2 → records_at (get_or n.switches j d) v ≡ records_after n (j / half n.k) (2 * (j % half n.k) + v)
  at_number d v l =
      let e = two_halves n.k (j / half n.k) stage in
      let m = number in
      let wire : 2 * (j % half n.k) + v < 2 ^ n.k = omega arith in
      let a : (2 * (j % half n.k) + v) / 2 ≡ j % half n.k = omega arith in
      let b : (2 * (j % half n.k) + v) % 2 ≡ v = omega arith in
      ap (λ (t : SwitchState). records_at t v) (get_or_default n.switches j d no_switch there)
      ∙ ap (λ p. records_at (get_or n.switches p no_switch) v) (sym again)
      ∙ (λ r. records_at (switch_at n (j / half n.k) (sym a r)) (sym b r))
      ∙ sym (at_output n (j / half n.k) (2 * (j % half n.k) + v) wire)

pub no_record_is : (n : NetworkLists) → IsNetwork n → IsEmptyNet (net_of n) → All HasNoRecord n.switches
no_record_is n is empty j d l = (
  at_number n is j l d 0 (omega arith) ∙ (empty (j / half n.k) (2 * (j % half n.k) + 0)).1,
  at_number n is j l d 1 (omega arith) ∙ (empty (j / half n.k) (2 * (j % half n.k) + 1)).1,
)

-- ---- for the call

module _ (n m : NetworkLists) (view : n ≡ m) (is : IsNetwork n) (messages : Bool) (fact : IsTrue messages ↔ HasNoMessage n.pool) where
  -- If a queue has a message, the network is not empty, as the call says.
  pub not_empty : messages ≡ false → (IsTrue messages → IsEmptyNet (net_of m)) × (IsEmptyNet (net_of m) → IsTrue messages)
  not_empty some_one = (
    (λ t. absurd (let no : true ≡ false = sym t ∙ some_one in cc)),
    (λ empty. fact.1 (no_message_is n (subst (λ (l : NetworkLists). IsEmptyNet (net_of l)) (sym view) empty))),
  )

  -- If no queue has a message, the network is empty exactly if the look through the switches finds no record.
  pub empty_is : messages ≡ true → (switches : List SwitchState) → switches ≡ n.switches → (records : Bool) → IsTrue records ↔ All HasNoRecord switches
      → (IsTrue records → IsEmptyNet (net_of m)) × (IsEmptyNet (net_of m) → IsTrue records)
  empty_is none switches same records look = (
    (λ t. subst (λ (l : NetworkLists). IsEmptyNet (net_of l)) view (empty_net n (fact.0 none) (subst (All HasNoRecord) same (look.0 t)))),
    (λ empty. look.1 (subst (All HasNoRecord) (sym same)
        (no_record_is n is (subst (λ (l : NetworkLists). IsEmptyNet (net_of l)) (sym view) empty)))),
  )
