-- A network with one slot or one switch replaced, as a network of places.
use Rattle.std.proofs.Common.{◌≡◌, ℕ, zero, suc, ◌/◌, ◌%◌, ◌^◌, ◌<◌, ◌≤◌, Bool, List, [], length}
use Rattle.std.proofs.Common.{drop, set, nat_lt, Option, Some, None, ◌⊎◌, inl, inr, refl, sym, ap}
use Rattle.std.proofs.Common.{◌∙◌, arith, lt-ltb, le-ltb, get_or-set_same, get_or-set_other}
use Rattle.std.specs.Prelude.{◌==◌, slice_get, if◌then◌else◌}
use Rattle.std.specs.Option.{option_to_list}
use Rattle.std.proofs.lemmas.Bool.{cases_eq, cases_lt, eq-eqb, ne_eqb}
use mathlib.Core.Path.{fun_ext}
use Rattle.omega_wires.specs.Wires.{input_port, rotated_left, rotated_right, switch_of}
use Rattle.omega_wires.specs.Laws.{RotationsAreInverse, RotationsStayOnWires}
use Rattle.messages.specs.declared.message.Request.{Request}
use Rattle.messages.specs.declared.message.Reply.{Reply}
use Rattle.messages.specs.Places.{put2}
use Rattle.ring_network.specs.Switches.{SwitchLists, records_at, replies_at, requests_at}
use Rattle.omega_network.specs.Networks.{half}
use Rattle.ring_network.specs.Networks.{IsNetwork, NetworkLists, at_output, records_after, replies_before, requests_before, slot_of, switch_at}
use Rattle.ring_network.specs.Changes.{with_module_slot, with_slot, with_switch}
use Rattle.messages.proofs.Lemmas.{is_put2}
use Rattle.omega_network.proofs.Lemmas.{half_of_wire}
use Rattle.ring_network.proofs.Switches.{read_kept, switch_kept, switch_put}

-- the replies at an input of a switch
abbrev inputs_at : SwitchLists → ℕ → List Reply
inputs_at t v = replies_at t.inputs v

small_rest : (w : ℕ) → w % 2 < 2
small_rest w = omega arith

same_wire : (w v : ℕ) → w / 2 ≡ v / 2 → w % 2 ≡ v % 2 → w ≡ v
same_wire w v e f = omega arith

-- ---- outputs

module _ (n : NetworkLists) (is : IsNetwork n) (s w : ℕ) (stage : s < n.k) (wire : w < 2 ^ n.k) (t : SwitchLists) where
  number : w / 2 < half n.k
  number = half_of_wire n.k s w stage wire

  output_here : {X : Type 0} (f : SwitchLists → ℕ → List X) → at_output f (with_switch n s (w / 2) t) s w ≡ f t (w % 2)
  output_here {X} f =
      ap (λ (b : Bool). if b then f (switch_at (with_switch n s (w / 2) t) s (w / 2)) (w % 2) else []) (lt-ltb w (2 ^ n.k) wire)
      ∙ ap (λ u. f u (w % 2)) (switch_put n s (w / 2) t stage number is.all_switches)

  output_other : {X : Type 0} (f : SwitchLists → ℕ → List X) → ((v : ℕ) → v < 2 → (v ≡ w % 2 → ⊥) → f t v ≡ f (switch_at n s (w / 2)) v)
      → (s' w' : ℕ) → (s' ≡ s → w' ≡ w → ⊥) → at_output f (with_switch n s (w / 2) t) s' w' ≡ at_output f n s' w'
  output_other {X} f same s' w' away = go (cases_lt w' (2 ^ n.k)) (cases_eq s' s) (cases_eq (w' / 2) (w / 2))
    where
      Goal : Type 0
      Goal = at_output f (with_switch n s (w / 2) t) s' w' ≡ at_output f n s' w'

      inside : w' < 2 ^ n.k → f (switch_at (with_switch n s (w / 2) t) s' (w' / 2)) (w' % 2) ≡ f (switch_at n s' (w' / 2)) (w' % 2) →
          at_output f (with_switch n s (w / 2) t) s' w' ≡ at_output f n s' w'
      inside l e =
          ap (λ (b : Bool). if b then f (switch_at (with_switch n s (w / 2) t) s' (w' / 2)) (w' % 2) else []) (lt-ltb w' (2 ^ n.k) l) ∙ e
          ∙ sym (ap (λ (b : Bool). if b then f (switch_at n s' (w' / 2)) (w' % 2) else []) (lt-ltb w' (2 ^ n.k) l))

      go : (w' < 2 ^ n.k) ⊎ (2 ^ n.k ≤ w') → (s' ≡ s) ⊎ (s' ≡ s → ⊥) → (w' / 2 ≡ w / 2) ⊎ (w' / 2 ≡ w / 2 → ⊥) →
          at_output f (with_switch n s (w / 2) t) s' w' ≡ at_output f n s' w'
      go (inr past) a e =
          ap (λ (b : Bool). if b then f (switch_at (with_switch n s (w / 2) t) s' (w' / 2)) (w' % 2) else []) (le-ltb w' (2 ^ n.k) past)
          ∙ sym (ap (λ (b : Bool). if b then f (switch_at n s' (w' / 2)) (w' % 2) else []) (le-ltb w' (2 ^ n.k) past))
      go (inl l) (inl a) (inl e) =
          let port : w' % 2 ≡ w % 2 → ⊥ = λ p. away a (same_wire w' w e p) in
          inside l ((λ j. f (switch_at (with_switch n s (w / 2) t) (a j) (e j)) (w' % 2))
          ∙ ap (λ u. f u (w' % 2)) (switch_put n s (w / 2) t stage number is.all_switches)
          ∙ same (w' % 2) (small_rest w') port ∙ (λ j. f (switch_at n (sym a j) (sym e j)) (w' % 2)))
      go (inl l) (inl a) (inr e) =
          inside l (ap (λ u. f u (w' % 2)) (switch_kept n s (w / 2) t stage number is.all_switches s' (w' / 2) (half_of_wire n.k s w' stage l) (λ _ q. e q)))
      go (inl l) (inr a) e =
          inside l (ap (λ u. f u (w' % 2)) (switch_kept n s (w / 2) t stage number is.all_switches s' (w' / 2) (half_of_wire n.k s w' stage l) (λ p _. a p)))

  -- If a switch has other requests at one output alone, they are replaced at the place of its wire, and nowhere else.
  pub requests_put : ((v : ℕ) → v < 2 → (v ≡ w % 2 → ⊥) → requests_at t v ≡ requests_at (switch_at n s (w / 2)) v)
      → requests_before (with_switch n s (w / 2) t) ≡ put2 (requests_before n) (suc s) w (requests_at t (w % 2))
  unfolding requests_before
  requests_put same =
      is_put2 (requests_before n) (requests_before (with_switch n s (w / 2) t)) (suc s) w (requests_at t (w % 2)) (output_here requests_at) other
    where
      other : (d' w' : ℕ) → (d' ≡ suc s → w' ≡ w → ⊥) → requests_before (with_switch n s (w / 2) t) d' w' ≡ requests_before n d' w'
      other zero w' away = refl
      other (suc s') w' away = output_other requests_at same s' w' (λ a b. away (ap suc a) b)

  -- If a switch has other records at one output alone, they are replaced at the place of its wire, and nowhere else.
  pub records_put : ((v : ℕ) → v < 2 → (v ≡ w % 2 → ⊥) → records_at t v ≡ records_at (switch_at n s (w / 2)) v)
      → records_after (with_switch n s (w / 2) t) ≡ put2 (records_after n) s w (records_at t (w % 2))
  unfolding records_after
  records_put same = is_put2 (records_after n) (records_after (with_switch n s (w / 2) t)) s w (records_at t (w % 2)) (output_here records_at)
      (output_other records_at same)

-- ---- what a change leaves

module _ (n : NetworkLists) (is : IsNetwork n) (s i : ℕ) (stage : s < n.k) (number : i < half n.k) (t : SwitchLists) where
  outputs_left : {X : Type 0} (f : SwitchLists → ℕ → List X) → ((v : ℕ) → v < 2 → f t v ≡ f (switch_at n s i) v) → (s' w' : ℕ) →
      at_output f (with_switch n s i t) s' w' ≡ at_output f n s' w'
  outputs_left {X} f same s' w' = go (cases_lt w' (2 ^ n.k))
    where
      go : (w' < 2 ^ n.k) ⊎ (2 ^ n.k ≤ w') → at_output f (with_switch n s i t) s' w' ≡ at_output f n s' w'
      go (inl l) =
          ap (λ (b : Bool). if b then f (switch_at (with_switch n s i t) s' (w' / 2)) (w' % 2) else []) (lt-ltb w' (2 ^ n.k) l)
          ∙ read_kept n s i t stage number is.all_switches f same s' (w' / 2) (w' % 2) (half_of_wire n.k s w' stage l) (small_rest w')
          ∙ sym (ap (λ (b : Bool). if b then f (switch_at n s' (w' / 2)) (w' % 2) else []) (lt-ltb w' (2 ^ n.k) l))
      go (inr past) =
          ap (λ (b : Bool). if b then f (switch_at (with_switch n s i t) s' (w' / 2)) (w' % 2) else []) (le-ltb w' (2 ^ n.k) past)
          ∙ sym (ap (λ (b : Bool). if b then f (switch_at n s' (w' / 2)) (w' % 2) else []) (le-ltb w' (2 ^ n.k) past))

  -- If a switch is replaced by one with the same requests, all requests of the network stay.
  pub requests_left : ((v : ℕ) → v < 2 → requests_at t v ≡ requests_at (switch_at n s i) v) → requests_before (with_switch n s i t) ≡ requests_before n
  unfolding requests_before
  requests_left same = fun_ext (λ d'. fun_ext (λ w'. at d' w'))
    where
      at : (d' w' : ℕ) → requests_before (with_switch n s i t) d' w' ≡ requests_before n d' w'
      at zero w' = refl
      at (suc s') w' = outputs_left requests_at same s' w'

  -- If a switch is replaced by one with the same records, all records of the network stay.
  pub records_left : ((v : ℕ) → v < 2 → records_at t v ≡ records_at (switch_at n s i) v) → records_after (with_switch n s i t) ≡ records_after n
  unfolding records_after
  records_left same = fun_ext (λ s'. fun_ext (λ w'. outputs_left records_at same s' w'))

-- ---- inputs

module _ (inverse : RotationsAreInverse) (on_wires : RotationsStayOnWires) where
  ahead : (k s w : ℕ) → s < k → w < 2 ^ k → switch_of k w < half k
  ahead k s w l m = half_of_wire k s (rotated_left k w) l ((on_wires k w m).0)

  -- Wires that go to the same input of the same switch are equal.
  one_input : (k w v : ℕ) → w < 2 ^ k → v < 2 ^ k → switch_of k w ≡ switch_of k v → input_port k w ≡ input_port k v → w ≡ v
  one_input k w v l m e f =
      sym ((inverse k w l).0) ∙ ap (rotated_right k) (same_wire (rotated_left k w) (rotated_left k v) e f) ∙ (inverse k v m).0

  -- The replies before a stage on a wire are those at the input that the wire goes to.
  pub at_input : (n : NetworkLists) (s w : ℕ) → s < n.k → w < 2 ^ n.k → replies_before n s w ≡ inputs_at (switch_at n s (switch_of n.k w)) (input_port n.k w)
  unfolding replies_before
  at_input n s w stage wire =
      ap (λ (b : Bool). if b then slot_of n.module_slots w else if nat_lt w (2 ^ n.k) then inputs_at (switch_at n s (switch_of n.k w)) (input_port n.k w)
      else []) (ne_eqb s n.k (λ e. omega arith))
      ∙ ap (λ (b : Bool). if b then inputs_at (switch_at n s (switch_of n.k w)) (input_port n.k w) else []) (lt-ltb w (2 ^ n.k) wire)

  -- Two networks with the same k and module slots have the same replies on a wire if they have the same at its input.
  replies_same : (n m : NetworkLists) (d w : ℕ) → m.k ≡ n.k → m.module_slots ≡ n.module_slots
      → (w < 2 ^ n.k → inputs_at (switch_at m d (switch_of n.k w)) (input_port n.k w) ≡ inputs_at (switch_at n d (switch_of n.k w)) (input_port n.k w))
      → replies_before m d w ≡ replies_before n d w
  unfolding replies_before
  replies_same n m d w k_is slots same =
      (λ j. if d == k_is j then slot_of (slots j) w else if nat_lt w (2 ^ k_is j) then inputs_at (switch_at m d (switch_of (k_is j) w)) (input_port (k_is j) w)
      else [])
      ∙ go (cases_lt w (2 ^ n.k))
    where
      go : (w < 2 ^ n.k) ⊎ (2 ^ n.k ≤ w)
          → (if d == n.k then slot_of n.module_slots w else if nat_lt w (2 ^ n.k) then inputs_at (switch_at m d (switch_of n.k w)) (input_port n.k w) else [])
          ≡ (if d == n.k then slot_of n.module_slots w else if nat_lt w (2 ^ n.k) then inputs_at (switch_at n d (switch_of n.k w)) (input_port n.k w) else [])
      go (inl l) = ap (λ (xs : List Reply). if d == n.k then slot_of n.module_slots w else if nat_lt w (2 ^ n.k) then xs else []) (same l)
      go (inr past) =
          ap (λ (b : Bool). if d == n.k then slot_of n.module_slots w else if b then inputs_at (switch_at m d (switch_of n.k w)) (input_port n.k w)
          else []) (le-ltb w (2 ^ n.k) past)
          ∙ sym (ap (λ (b : Bool). if d == n.k then slot_of n.module_slots w else if b then inputs_at (switch_at n d (switch_of n.k w)) (input_port n.k w)
          else []) (le-ltb w (2 ^ n.k) past))

  module _ (n : NetworkLists) (is : IsNetwork n) (s w : ℕ) (stage : s < n.k) (wire : w < 2 ^ n.k) (t : SwitchLists)
      (same : (v : ℕ) → v < 2 → (v ≡ input_port n.k w → ⊥) → inputs_at t v ≡ inputs_at (switch_at n s (switch_of n.k w)) v) where
    -- If a switch has other replies at one input alone, they are replaced at the place of its wire, and nowhere else.
    pub replies_put : replies_before (with_switch n s (switch_of n.k w) t) ≡ put2 (replies_before n) s w (inputs_at t (input_port n.k w))
    replies_put = is_put2 (replies_before n) (replies_before (with_switch n s (switch_of n.k w) t)) s w (inputs_at t (input_port n.k w)) here other
      where
        place : switch_of n.k w < half n.k
        place = ahead n.k s w stage wire

        put : switch_at (with_switch n s (switch_of n.k w) t) s (switch_of n.k w) ≡ t
        put = switch_put n s (switch_of n.k w) t stage place is.all_switches

        here : replies_before (with_switch n s (switch_of n.k w) t) s w ≡ inputs_at t (input_port n.k w)
        here = at_input (with_switch n s (switch_of n.k w) t) s w stage wire ∙ ap (λ u. inputs_at u (input_port n.k w)) put

        other : (d' w' : ℕ) → (d' ≡ s → w' ≡ w → ⊥) → replies_before (with_switch n s (switch_of n.k w) t) d' w' ≡ replies_before n d' w'
        other d' w' away =
            replies_same n (with_switch n s (switch_of n.k w) t) d' w' refl refl (λ l. go l (cases_eq d' s) (cases_eq (switch_of n.k w') (switch_of n.k w)))
          where
            go : w' < 2 ^ n.k → (d' ≡ s) ⊎ (d' ≡ s → ⊥) → (switch_of n.k w' ≡ switch_of n.k w) ⊎ (switch_of n.k w' ≡ switch_of n.k w → ⊥)
                → inputs_at (switch_at (with_switch n s (switch_of n.k w) t) d' (switch_of n.k w')) (input_port n.k w')
                ≡ inputs_at (switch_at n d' (switch_of n.k w')) (input_port n.k w')
            go l (inl a) (inl e) =
                let port : input_port n.k w' ≡ input_port n.k w → ⊥ = λ p. away a (one_input n.k w' w l wire e p) in
                (λ j. inputs_at (switch_at (with_switch n s (switch_of n.k w) t) (a j) (e j)) (input_port n.k w'))
                ∙ ap (λ u. inputs_at u (input_port n.k w')) put
                ∙ same (input_port n.k w') (small_rest (rotated_left n.k w')) port ∙ (λ j. inputs_at (switch_at n (sym a j) (sym e j)) (input_port n.k w'))
            go l (inl a) (inr e) = ap (λ u. inputs_at u (input_port n.k w'))
                (switch_kept n s (switch_of n.k w) t stage place is.all_switches d' (switch_of n.k w') (ahead n.k s w' stage l) (λ _ q. e q))
            go l (inr a) e = ap (λ u. inputs_at u (input_port n.k w'))
                (switch_kept n s (switch_of n.k w) t stage place is.all_switches d' (switch_of n.k w') (ahead n.k s w' stage l) (λ p _. a p))

  -- If a switch is replaced by one with the same inputs, all replies of the network stay.
  pub replies_left : (n : NetworkLists) (is : IsNetwork n) (s i : ℕ) (stage : s < n.k) (number : i < half n.k) (t : SwitchLists) →
      t.inputs ≡ (switch_at n s i).inputs
      → replies_before (with_switch n s i t) ≡ replies_before n
  replies_left n is s i stage number t same = fun_ext (λ d'. fun_ext (λ w'. replies_same n (with_switch n s i t) d' w' refl refl (λ l.
      read_kept n s i t stage number is.all_switches inputs_at (λ v m. ap (λ inputs. replies_at inputs v) same) d' (switch_of n.k w') (input_port n.k w')
      (ahead n.k s w' stage l) (small_rest (rotated_left n.k w')))))

-- ---- slots

-- A slot, read as a list, has at most one message.
pub rest_of_slot : {X : Type 0} (slot : Option X) → drop 1 (option_to_list slot) ≡ []
rest_of_slot None = refl
rest_of_slot (Some x) = refl

-- The first message of a slot, read as a list, is what the slot has.
pub first_of_slot : {X : Type 0} (slot : Option X) → slice_get (option_to_list slot) 0 ≡ slot
first_of_slot None = refl
first_of_slot (Some x) = refl

slot_set : {X : Type 0} (slots : List (Option X)) (w : ℕ) (x : Option X) (v : ℕ) → w < length slots → (v ≡ w → ⊥) → slot_of (set slots w x) v ≡ slot_of slots v
slot_set slots w x v l away = ap option_to_list (get_or-set_other slots w v x None away)

-- If a processor's slot is replaced, the requests at depth 0 on its wire are, and no others.
pub slot_put : (n : NetworkLists) (p : ℕ) (x : Option Request) → p < length n.slots →
    requests_before (with_slot n p x) ≡ put2 (requests_before n) 0 p (option_to_list x)
unfolding requests_before
slot_put n p x l =
    is_put2 (requests_before n) (requests_before (with_slot n p x)) 0 p (option_to_list x) (ap option_to_list (get_or-set_same n.slots p x None l)) other
  where
    other : (d w : ℕ) → (d ≡ 0 → w ≡ p → ⊥) → requests_before (with_slot n p x) d w ≡ requests_before n d w
    other zero w away = slot_set n.slots p x w l (away refl)
    other (suc s) w away = refl

-- If a module's slot is replaced, the replies at depth k on its wire are, and no others.
pub module_slot_put : (n : NetworkLists) (m : ℕ) (y : Option Reply) → m < length n.module_slots →
    replies_before (with_module_slot n m y) ≡ put2 (replies_before n) n.k m (option_to_list y)
unfolding replies_before
module_slot_put n m y l = is_put2 (replies_before n) (replies_before (with_module_slot n m y)) n.k m (option_to_list y)
    (ap (λ (b : Bool). if b then slot_of (set n.module_slots m y) m else if nat_lt m (2 ^ n.k)
    then inputs_at (switch_at n n.k (switch_of n.k m)) (input_port n.k m) else []) (eq-eqb n.k n.k refl)
    ∙ ap option_to_list (get_or-set_same n.module_slots m y None l))
    (λ d w away. other d w away (cases_eq d n.k))
  where
    other : (d w : ℕ) → (d ≡ n.k → w ≡ m → ⊥) → (d ≡ n.k) ⊎ (d ≡ n.k → ⊥) → replies_before (with_module_slot n m y) d w ≡ replies_before n d w
    other d w away (inl e) =
        ap (λ (xs : List Reply). if d == n.k then xs else if nat_lt w (2 ^ n.k) then inputs_at (switch_at n d (switch_of n.k w)) (input_port n.k w)
        else []) (slot_set n.module_slots m y w l (away e))
    other d w away (inr apart) =
        ap (λ (b : Bool). if b then slot_of (set n.module_slots m y) w else if nat_lt w (2 ^ n.k)
        then inputs_at (switch_at n d (switch_of n.k w)) (input_port n.k w) else []) (ne_eqb d n.k apart)
        ∙ sym (ap (λ (b : Bool). if b then slot_of n.module_slots w else if nat_lt w (2 ^ n.k)
        then inputs_at (switch_at n d (switch_of n.k w)) (input_port n.k w) else []) (ne_eqb d n.k apart))

-- The replies at depth k on a wire are what the module's slot has.
pub at_module : (n : NetworkLists) (m : ℕ) → replies_before n n.k m ≡ slot_of n.module_slots m
unfolding replies_before
at_module n m =
    ap (λ (b : Bool). if b then slot_of n.module_slots m else if nat_lt m (2 ^ n.k) then inputs_at (switch_at n n.k (switch_of n.k m)) (input_port n.k m)
    else []) (eq-eqb n.k n.k refl)

-- The requests at depth 0 on a wire are what the processor's slot has.
pub at_slot : (n : NetworkLists) (p : ℕ) → requests_before n 0 p ≡ slot_of n.slots p
unfolding requests_before
at_slot n p = refl
