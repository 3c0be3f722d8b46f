-- Slots, and the first message of a place.
use Rattle.std.proofs.Common.{◌≡◌, ℕ, suc, ◌/◌, ◌%◌, ◌^◌, ◌<◌, [], ◌∷◌, ◌++◌, length, drop, get_or, Option, None, sym, ap, ◌∙◌, subst}
use Rattle.std.specs.Prelude.{slice_get}
use Rattle.std.specs.Option.{option_to_list}
use Rattle.omega_wires.specs.Wires.{input_port, switch_of}
use Rattle.omega_wires.specs.Laws.{RotationsAreInverse, RotationsStayOnWires}
use Rattle.messages.specs.declared.message.Request.{Request}
use Rattle.messages.specs.declared.message.Reply.{Reply}
use Rattle.messages.specs.Network.{Net, Sizes, put_replies, put_requests}
use Rattle.messages.specs.Moves.{injected, module_replied}
use Rattle.ring_network.specs.Switches.{SwitchLists, replies_at, requests_at}
use Rattle.ring_network.specs.Networks.{IsNetwork, NetworkLists, net_of, records_after, replies_before, requests_before, switch_at}
use Rattle.ring_network.specs.Changes.{with_module_slot, with_slot}
use Rattle.ring_network.specs.Offers.{first_reply_taken, first_request_taken}
use Rattle.ring_network.proofs.Kept.{Found, get_or_any, switch_is}
use Rattle.ring_network.proofs.Changes.{at_input, at_module, at_slot, first_of_slot, module_slot_put, rest_of_slot, slot_put}
use Rattle.ring_network.proofs.Requests.{at_place}

module _ (n m : NetworkLists) (view : n ≡ m) (is : IsNetwork n) (w : ℕ) (wire : w < 2 ^ m.k) where
  within : w < length n.slots
  within = let k : n.k ≡ m.k = ap (λ (l : NetworkLists). l.k) view in subst (λ a. w < a) (sym (is.all_slots ∙ ap (λ a. 2 ^ a) k)) wire

  module_within : w < length n.module_slots
  module_within = let k : n.k ≡ m.k = ap (λ (l : NetworkLists). l.k) view in subst (λ a. w < a) (sym (is.all_module_slots ∙ ap (λ a. 2 ^ a) k)) wire

  -- If a processor's slot is replaced, the requests at its place are, and nothing else changes.
  pub put_slot_net : (i : ℕ) → i ≡ w → (x : Option Request) → net_of (with_slot n i x) ≡ put_requests (net_of m) 0 w (option_to_list x)
  unfolding records_after replies_before
  put_slot_net i at x =
      ap (λ v. net_of (with_slot n v x)) at
      ∙ (λ j. record { requests = slot_put n w x within j; records = records_after n; replies = replies_before n })
      ∙ ap (λ (l : NetworkLists). put_requests (net_of l) 0 w (option_to_list x)) view

  -- If a module's slot is replaced, the replies at its place are, and nothing else changes.
  pub put_module_slot_net : (i : ℕ) → i ≡ w → (y : Option Reply) → net_of (with_module_slot n i y) ≡ put_replies (net_of m) m.k w (option_to_list y)
  unfolding requests_before records_after
  put_module_slot_net i at y =
      ap (λ v. net_of (with_module_slot n v y)) at
      ∙ (λ j. record { requests = requests_before n; records = records_after n; replies = module_slot_put n w y module_within j })
      ∙ ap (λ (l : NetworkLists). put_replies (net_of l) l.k w (option_to_list y)) view

  -- What a processor's slot has is the first request at depth 0 on its wire.
  pub slot_first : (i : ℕ) (x : Option Request) → i ≡ w → x ≡ get_or n.slots i x → x ≡ slice_get (requests_before m 0 w) 0
  slot_first i x at is' =
      is' ∙ ap (λ j. get_or n.slots j x) at ∙ get_or_any n.slots w x None within ∙ sym (first_of_slot (get_or n.slots w None))
      ∙ sym (ap (λ q. slice_get q 0) (at_slot n w)) ∙ ap (λ (l : NetworkLists). slice_get (requests_before l 0 w) 0) view

  -- What a module's slot has is the first reply at depth k on its wire.
  pub module_slot_first : (i : ℕ) (y : Option Reply) → i ≡ w → y ≡ get_or n.module_slots i y → y ≡ slice_get (replies_before m m.k w) 0
  module_slot_first i y at is' =
      is' ∙ ap (λ j. get_or n.module_slots j y) at ∙ get_or_any n.module_slots w y None module_within ∙ sym (first_of_slot (get_or n.module_slots w None))
      ∙ sym (ap (λ q. slice_get q 0) (at_module n w)) ∙ ap (λ (l : NetworkLists). slice_get (replies_before l l.k w) 0) view

-- If a processor's slot is emptied, the first request at its place is taken.
pub slot_taken : (m : NetworkLists) (w : ℕ) → put_requests (net_of m) 0 w [] ≡ first_request_taken (net_of m) 0 w
slot_taken m w = ap (put_requests (net_of m) 0 w) (sym (ap (drop 1) (at_slot m w) ∙ rest_of_slot (get_or m.slots w None)))

-- If a module's slot is emptied, the first reply at its place is taken.
pub module_slot_taken : (m : NetworkLists) (w : ℕ) → put_replies (net_of m) m.k w [] ≡ first_reply_taken (net_of m) m.k w
module_slot_taken m w = ap (put_replies (net_of m) m.k w) (sym (ap (drop 1) (at_module m w) ∙ rest_of_slot (get_or m.module_slots w None)))

-- If a request is put into its leader's slot, which was empty, the network is the one after it is injected.
pub inject_net : (net : Net) (p : ℕ) (x : Request) → x.leader ≡ p → net.requests 0 p ≡ [] → put_requests net 0 p (x ∷ []) ≡ injected net x
unfolding injected
inject_net net p x leader free =
    ap (λ q. put_requests net 0 p (q ++ x ∷ [])) (sym free) ∙ ap (λ v. put_requests net 0 v (net.requests 0 v ++ x ∷ [])) (sym leader)

-- If a reply is put into a module's slot that was empty, the network is the one after a module's reply.
pub module_reply_net : (z : Sizes) (net : Net) (w : ℕ) (y : Reply) → net.replies z.k w ≡ [] → put_replies net z.k w (y ∷ []) ≡ module_replied z net w y
unfolding module_replied
module_reply_net z net w y free = ap (λ q. put_replies net z.k w (q ++ y ∷ [])) (sym free)

module _ (inverse : RotationsAreInverse) (on_wires : RotationsStayOnWires) where
  -- The requests at the wire's output of the found switch are those at the next depth on the wire.
  pub front_net : (n m : NetworkLists) (s w place : ℕ) (u : SwitchLists) → Found n m s (w / 2) place u → w < 2 ^ m.k →
      requests_at u (w % 2) ≡ requests_before m (suc s) w
  unfolding requests_before
  front_net n m s w place u found wire =
      at_place inverse on_wires n m s w place u found wire requests_at ∙ ap (λ (l : NetworkLists). requests_before l (suc s) w) found.view

  -- The replies at the wire's input of the found switch are those before the stage on the wire.
  pub reply_front_net : (n m : NetworkLists) (s w place : ℕ) (u : SwitchLists) → Found n m s (switch_of m.k w) place u → w < 2 ^ m.k →
      replies_at u.inputs (input_port m.k w) ≡ replies_before m s w
  reply_front_net n m s w place u found wire =
      ap (λ (t : SwitchLists). replies_at t.inputs (input_port m.k w)) (switch_is n m s (switch_of m.k w) place u found)
      ∙ ap (λ (l : NetworkLists). replies_at (switch_at l s (switch_of m.k w)).inputs (input_port m.k w)) found.view
      ∙ sym (at_input inverse on_wires m s w found.stage wire)
