-- A network stays a network, and a switch keeps its sizes, through every change.
use Rattle.std.proofs.Common.{◌≡◌, ℕ, zero, suc, ◌+◌, ◌*◌, ◌/◌, ◌^◌, ◌<◌, Bool, true, false, List, [], ◌∷◌}
use Rattle.std.proofs.Common.{length, set, get_or, nat_lt, Option, Some, None, ◌⊎◌, inl, inr, refl, sym}
use Rattle.std.proofs.Common.{ap, ◌∙◌, subst, arith, get_or-set_same, get_or-set_other, length-set}
use Rattle.std.proofs.lemmas.Bool.{cases_eq}
use Rattle.omega_wires.specs.Laws.{RotationsStayOnWires}
use Rattle.omega_wires.specs.Wires.{bit, bit_of_stage, rotated_left, switch_of}
use Rattle.messages.specs.declared.message.Request.{Request}
use Rattle.messages.specs.declared.message.Reply.{Reply}
use Rattle.messages.specs.declared.message.Record.{Record}
use Rattle.messages.specs.Queues.{Combination, answers, combination, records_but, records_of}
use Rattle.combining_switch.specs.Outputs.{OutputLists, accepted, accepted_as, queued}
use Rattle.ring_network.specs.Outputs.{empty_output}
use Rattle.ring_network.specs.Switches.{SwitchLists, answered, answered_from, empty_switch, has_room}
use Rattle.ring_network.specs.Switches.{output_of, put_replies, put_reply, records_at, with_inputs}
use Rattle.ring_network.specs.Switches.{with_output, with_records, with_requests}
use Rattle.omega_network.specs.Networks.{half}
use Rattle.ring_network.specs.Networks.{IsNetwork, IsSwitchOf, NetworkLists, switch_at}
use Rattle.ring_network.specs.Changes.{with_module_slot, with_slot, with_switch}
use Rattle.omega_network.proofs.Lemmas.{half_of_wire, place_within}
use Rattle.ring_network.proofs.Switches.{switch_kept, switch_put}

module _ (c b r i : ℕ) where
  -- A switch with one output replaced by another of the same sizes is again a switch of these sizes.
  pub output_kept : (s : SwitchLists) (out : ℕ) (o : OutputLists) → IsSwitchOf c b r i s → out < 2 → o.c ≡ c → o.b ≡ b → o.r ≡ r →
      IsSwitchOf c b r i (with_output s out o)
  output_kept s out o is l ec eb er = record {
    c_is = is.c_is;
    bit_is = is.bit_is;
    two_outputs = length-set s.outputs out o ∙ is.two_outputs;
    two_inputs = is.two_inputs;
    outputs = λ v m d. go v m d (cases_eq v out);
  }
    where
      within : out < length s.outputs
      within = let two = is.two_outputs in omega arith

      go : (v : ℕ) → v < 2 → (d : OutputLists) → (v ≡ out) ⊎ (v ≡ out → ⊥) →
          ((get_or (set s.outputs out o) v d).c ≡ c) × ((get_or (set s.outputs out o) v d).b ≡ b) × ((get_or (set s.outputs out o) v d).r ≡ r)
      go v m d (inl e) =
          let same : get_or (set s.outputs out o) v d ≡ o = ap (λ u. get_or (set s.outputs out o) u d) e ∙ get_or-set_same s.outputs out o d within in
          (ap (λ (p : OutputLists). p.c) same ∙ ec, ap (λ (p : OutputLists). p.b) same ∙ eb, ap (λ (p : OutputLists). p.r) same ∙ er)
      go v m d (inr away) =
          let same : get_or (set s.outputs out o) v d ≡ get_or s.outputs v d = get_or-set_other s.outputs out v o d away in (
            ap (λ (p : OutputLists). p.c) same ∙ (is.outputs v m d).0,
            ap (λ (p : OutputLists). p.b) same ∙ (is.outputs v m d).1,
            ap (λ (p : OutputLists). p.r) same ∙ (is.outputs v m d).2,
          )

  -- A switch with its inputs replaced by two others is again a switch of these sizes.
  pub inputs_kept : (s : SwitchLists) (inputs : List (List Reply)) → IsSwitchOf c b r i s → length inputs ≡ 2 → IsSwitchOf c b r i (with_inputs s inputs)
  inputs_kept s inputs is two = record { c_is = is.c_is; bit_is = is.bit_is; two_outputs = is.two_outputs; two_inputs = two; outputs = is.outputs }

-- An empty switch is a switch of its sizes.
pub empty_is : (c b r i : ℕ) → IsSwitchOf c b r i (empty_switch c b r i)
empty_is c b r i = record { c_is = refl; bit_is = refl; two_outputs = refl; two_inputs = refl; outputs = at }
  where
    at : (out : ℕ) → out < 2 → (d : OutputLists) →
        ((get_or (empty_output c b r ∷ empty_output c b r ∷ []) out d).c ≡ c) × ((get_or (empty_output c b r ∷ empty_output c b r ∷ []) out d).b ≡ b)
        × ((get_or (empty_output c b r ∷ empty_output c b r ∷ []) out d).r ≡ r)
    at zero l d = (refl, refl, refl)
    at (suc zero) l d = (refl, refl, refl)
    at (suc (suc out)) l d = absurd (omega arith)

-- An output keeps its sizes when a request comes.
accepted_sizes : (o : OutputLists) (x : Request) → ((accepted o x).1.c ≡ o.c) × ((accepted o x).1.b ≡ o.b) × ((accepted o x).1.r ≡ o.r)
unfolding accepted
accepted_sizes o x = go (combination o.b o.r x o.requests o.records)
  where
    full : (b : Bool) → nat_lt (length o.requests) o.c ≡ b → ((queued o x).1.c ≡ o.c) × ((queued o x).1.b ≡ o.b) × ((queued o x).1.r ≡ o.r)
    full true e = rw e (refl, refl, refl)
    full false e = rw e (refl, refl, refl)

    go : (j : Option Combination) → ((accepted_as o x j).1.c ≡ o.c) × ((accepted_as o x j).1.b ≡ o.b) × ((accepted_as o x j).1.r ≡ o.r)
    go None = full (nat_lt (length o.requests) o.c) refl
    go (Some j) = (refl, refl, refl)

pub accepted_kept : (c b r i : ℕ) (s : SwitchLists) (out : ℕ) (x : Request) → IsSwitchOf c b r i s → out < 2 →
    IsSwitchOf c b r i (with_output s out (accepted (output_of s out) x).1)
accepted_kept c b r i s out x is l =
    let sizes = accepted_sizes (output_of s out) x in
    let had = is.outputs out l (empty_output 0 0 0) in
    output_kept c b r i s out (accepted (output_of s out) x).1 is l (sizes.0 ∙ had.0) (sizes.1 ∙ had.1) (sizes.2 ∙ had.2)

pub length-put_replies : (i : ℕ) (ys : List Reply) (inputs : List (List Reply)) → length (put_replies i ys inputs) ≡ length inputs
unfolding put_replies
length-put_replies i [] inputs = refl
length-put_replies i (y ∷ ys) inputs = length-put_replies i ys (put_reply i inputs y) ∙ length-set inputs (bit i y.leader) _

pub answered_kept : (c b r i : ℕ) (s : SwitchLists) (out : ℕ) (x : Reply) → IsSwitchOf c b r i s → out < 2 → IsSwitchOf c b r i (answered s out x).1
unfolding answered
answered_kept c b r i s out x is l = go (has_room s.c s.its_bit all (answers records x)) refl
  where
    records : List Record
    records = records_of x.leader (records_at s out)

    all : List (List Reply)
    all = put_replies s.its_bit (answers records x) s.inputs

    go : (room : Bool) → has_room s.c s.its_bit (put_replies s.its_bit (answers (records_of x.leader (records_at s out)) x) s.inputs)
        (answers (records_of x.leader (records_at s out)) x) ≡ room → IsSwitchOf c b r i (answered_from s out x (records_of x.leader (records_at s out))).1
    go false e = rw e is
    go true e =
        let had = is.outputs out l (empty_output 0 0 0) in
        rw e (inputs_kept c b r i (with_records s out (records_but x.leader (records_at s out)))
        (put_replies s.its_bit (answers (records_of x.leader (records_at s out)) x) s.inputs)
        (output_kept c b r i s out _ is l had.0 had.1 had.2) (length-put_replies s.its_bit (answers (records_of x.leader (records_at s out)) x) s.inputs
        ∙ is.two_inputs))

-- ---- networks

-- A network with a switch replaced by one of the sizes and the bit of its stage is again a network.
pub with_switch_kept : (n : NetworkLists) (s i : ℕ) (t : SwitchLists) → IsNetwork n → s < n.k → i < half n.k → IsSwitchOf n.c n.b n.r (bit_of_stage n.k s) t →
    IsNetwork (with_switch n s i t)
with_switch_kept n s i t is l m new = record {
  few = is.few;
  all_slots = is.all_slots;
  all_module_slots = is.all_module_slots;
  all_switches = length-set n.switches (s * half n.k + i) t ∙ is.all_switches;
  each_switch = λ s' i' l' m'. go s' i' l' m' (cases_eq s' s) (cases_eq i' i);
}
  where
    put : switch_at (with_switch n s i t) s i ≡ t
    put = switch_put n s i t l m is.all_switches

    go : (s' i' : ℕ) → s' < n.k → i' < half n.k → (s' ≡ s) ⊎ (s' ≡ s → ⊥) → (i' ≡ i) ⊎ (i' ≡ i → ⊥) →
        IsSwitchOf n.c n.b n.r (bit_of_stage n.k s') (switch_at (with_switch n s i t) s' i')
    go s' i' l' m' (inl a) (inl e) =
        let same : switch_at (with_switch n s i t) s' i' ≡ t = (λ j. switch_at (with_switch n s i t) (a j) (e j)) ∙ put in
        subst (λ (u : SwitchLists). IsSwitchOf n.c n.b n.r (bit_of_stage n.k s') u) (sym same)
        (subst (λ v. IsSwitchOf n.c n.b n.r (bit_of_stage n.k v) t) (sym a) new)
    go s' i' l' m' (inl a) (inr e) = subst (λ (u : SwitchLists). IsSwitchOf n.c n.b n.r (bit_of_stage n.k s') u)
        (sym (switch_kept n s i t l m is.all_switches s' i' m' (λ _ f. e f))) (is.each_switch s' i' l' m')
    go s' i' l' m' (inr a) _ = subst (λ (u : SwitchLists). IsSwitchOf n.c n.b n.r (bit_of_stage n.k s') u)
        (sym (switch_kept n s i t l m is.all_switches s' i' m' (λ f _. a f))) (is.each_switch s' i' l' m')

pub with_slot_kept : (n : NetworkLists) (p : ℕ) (x : Option Request) → IsNetwork n → IsNetwork (with_slot n p x)
with_slot_kept n p x is = record {
  few = is.few;
  all_slots = length-set n.slots p x ∙ is.all_slots;
  all_module_slots = is.all_module_slots;
  all_switches = is.all_switches;
  each_switch = is.each_switch;
}

pub with_module_slot_kept : (n : NetworkLists) (m : ℕ) (y : Option Reply) → IsNetwork n → IsNetwork (with_module_slot n m y)
with_module_slot_kept n m y is = record {
  few = is.few;
  all_slots = is.all_slots;
  all_module_slots = length-set n.module_slots m y ∙ is.all_module_slots;
  all_switches = is.all_switches;
  each_switch = is.each_switch;
}

-- A switch of the network keeps its sizes if the requests of one output, or the replies of one input, change.
pub requests_kept : (c b r i : ℕ) (s : SwitchLists) (out : ℕ) (xs : List Request) → IsSwitchOf c b r i s → out < 2
    → IsSwitchOf c b r i (with_requests s out xs)
requests_kept c b r i s out xs is l = let had = is.outputs out l (empty_output 0 0 0) in output_kept c b r i s out _ is l had.0 had.1 had.2

pub replies_kept : (c b r i : ℕ) (s : SwitchLists) (inp : ℕ) (ys : List Reply) → IsSwitchOf c b r i s → IsSwitchOf c b r i (with_inputs s (set s.inputs inp ys))
replies_kept c b r i s inp ys is = inputs_kept c b r i s (set s.inputs inp ys) is (length-set s.inputs inp ys ∙ is.two_inputs)

-- ---- a switch that is replaced at its place

-- What is read inside a list does not depend on the default for places past its end.
pub get_or_any : {X : Type 0} (xs : List X) (i : ℕ) (d e : X) → i < length xs → get_or xs i d ≡ get_or xs i e
get_or_any [] i d e l = absurd (omega arith)
get_or_any (x ∷ xs) zero d e l = refl
get_or_any (x ∷ xs) (suc i) d e l = get_or_any xs i d e (omega arith)

abbrev pub put_at : NetworkLists → (place : ℕ) → SwitchLists → NetworkLists
put_at n place t = record { k = n.k; c = n.c; b = n.b; r = n.r; slots = n.slots; switches = set n.switches place t; module_slots = n.module_slots }

-- Switch i of stage s is u, at this place among all. A caller sees the network n as m.
pub record Found (n m : NetworkLists) (s i place : ℕ) (u : SwitchLists) : Type 0 where
  -- The network is seen as m.
  pub view : n ≡ m
  -- Its lists are those of a network.
  pub is : IsNetwork n
  -- The stage is one of the network.
  pub stage : s < m.k
  -- The number is one of a switch in a stage.
  pub number : i < half m.k
  -- The place among all switches is that of the stage and the number.
  pub exact : place ≡ s * half m.k + i
  -- The switch is the one at this place.
  pub at : u ≡ get_or n.switches place u

-- The switch at the place of a stage and a wire after it is the one that the wire comes from.
pub found_after : {n m : NetworkLists} {s w place : ℕ} {u : SwitchLists} → n ≡ m → IsNetwork n → s < m.k → w < 2 ^ m.k →
    place ≡ s * half m.k + w / 2 → u ≡ get_or n.switches place u → Found n m s (w / 2) place u
found_after {n} {m} {s} {w} view is stage wire exact at =
    record { view = view; is = is; stage = stage; number = half_of_wire m.k s w stage wire; exact = exact; at = at }

-- The switch at the place of a stage and a wire before it is the one that the wire goes into.
pub found_before : {n m : NetworkLists} {s w place : ℕ} {u : SwitchLists} → RotationsStayOnWires → n ≡ m → IsNetwork n → s < m.k → w < 2 ^ m.k →
    place ≡ s * half m.k + switch_of m.k w → u ≡ get_or n.switches place u → Found n m s (switch_of m.k w) place u
found_before {n} {m} {s} {w} on_wires view is stage wire exact at =
    record { view = view; is = is; stage = stage; number = half_of_wire m.k s (rotated_left m.k w) stage ((on_wires m.k w wire).0); exact = exact; at = at }

module _ (n m : NetworkLists) (s i place : ℕ) (u : SwitchLists) (found : Found n m s i place u) where
  k_is : n.k ≡ m.k
  k_is = ap (λ (l : NetworkLists). l.k) found.view

  place_is : place ≡ s * half n.k + i
  place_is = found.exact ∙ ap (λ k. s * half k + i) (sym k_is)

  -- The stage is one of the network that the call finds.
  pub stage_is : s < n.k
  stage_is = let e = k_is in let l = found.stage in omega arith

  -- The number is one of a switch in a stage of the network that the call finds.
  pub number_is : i < half n.k
  number_is = subst (λ k. i < half k) (sym k_is) found.number

  -- The switch at the place is that of the stage and the number.
  pub switch_is : u ≡ switch_at n s i
  switch_is =
      found.at ∙ ap (λ p. get_or n.switches p u) place_is
      ∙ get_or_any n.switches (s * half n.k + i) u (empty_switch 0 0 0 0) (place_within n.k s i (length n.switches) stage_is number_is found.is.all_switches)

  -- If the switch at the place is replaced, the one of the stage and the number is.
  pub put_is : (t : SwitchLists) → put_at n place t ≡ with_switch n s i t
  put_is t = ap (λ p. put_at n p t) place_is

  -- The switch has the sizes of the network and the bit of its stage.
  pub had_is : IsSwitchOf n.c n.b n.r (bit_of_stage n.k s) u
  had_is = subst (λ (v : SwitchLists). IsSwitchOf n.c n.b n.r (bit_of_stage n.k s) v) (sym switch_is) (found.is.each_switch s i stage_is number_is)

  replaced : (t t' : SwitchLists) → t ≡ t' → IsSwitchOf n.c n.b n.r (bit_of_stage n.k s) t' → IsNetwork (put_at n place t)
  replaced t t' same kept = subst IsNetwork (sym (put_is t ∙ ap (with_switch n s i) same)) (with_switch_kept n s i t' found.is stage_is number_is kept)

  -- If the switch changes as for a request at an output, the network is again a network.
  pub accept_stays : (v : ℕ) (x : Request) (t : SwitchLists) → v < 2 → t ≡ with_output u v (accepted (output_of u v) x).1 → IsNetwork (put_at n place t)
  accept_stays v x t l same = replaced t (with_output u v (accepted (output_of u v) x).1) same (accepted_kept n.c n.b n.r (bit_of_stage n.k s) u v x had_is l)

  -- If the switch changes as for a reply at an output, the network is again a network.
  pub answer_stays : (v : ℕ) (x : Reply) (t : SwitchLists) → v < 2 → t ≡ (answered u v x).1 → IsNetwork (put_at n place t)
  answer_stays v x t l same = replaced t (answered u v x).1 same (answered_kept n.c n.b n.r (bit_of_stage n.k s) u v x had_is l)

  -- If the requests at an output of the switch are replaced, the network is again a network.
  pub take_stays : (v : ℕ) (xs : List Request) (t : SwitchLists) → v < 2 → t ≡ with_requests u v xs → IsNetwork (put_at n place t)
  take_stays v xs t l same = replaced t (with_requests u v xs) same (requests_kept n.c n.b n.r (bit_of_stage n.k s) u v xs had_is l)

  -- If the replies at an input of the switch are replaced, the network is again a network.
  pub reply_take_stays : (v : ℕ) (ys : List Reply) (t : SwitchLists) → t ≡ with_inputs u (set u.inputs v ys) → IsNetwork (put_at n place t)
  reply_take_stays v ys t same = replaced t (with_inputs u (set u.inputs v ys)) same (replies_kept n.c n.b n.r (bit_of_stage n.k s) u v ys had_is)
