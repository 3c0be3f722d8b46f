-- Replies put at a switch, or taken from it, in a network of places.
use Rattle.std.proofs.Common.{◌≡◌, ℕ, ◌+◌, ◌*◌, ◌/◌, ◌%◌, ◌^◌, ◌<◌, Bool, true, false, ◌&&◌, List}
use Rattle.std.proofs.Common.{[], ◌∷◌, ◌++◌, length, drop, set, ◌⊎◌, inl, inr, refl, sym, ap, ◌∙◌}
use Rattle.std.proofs.Common.{subst, arith, lt-ltb, get_or-set_same, get_or-set_other, length-set}
use Rattle.std.specs.Prelude.{if◌then◌else◌, nat_le}
use Rattle.std.proofs.lemmas.List.{set-get_or, set-set}
use Rattle.std.proofs.lemmas.Bool.{cases_eq}
use Rattle.omega_wires.specs.Wires.{bit, bit_of_stage, input_port, rotated_left, switch_of, wire_before}
use Rattle.omega_wires.specs.Laws.{RotationsAreInverse, RotationsStayOnWires}
use Rattle.messages.specs.declared.message.Reply.{Reply}
use Rattle.messages.specs.declared.message.Record.{Record}
use Rattle.messages.specs.Places.{put2}
use Rattle.messages.specs.Queues.{answers, records_but, records_of}
use Rattle.messages.specs.Network.{Net, Sizes, put_records}
use Rattle.messages.specs.Network as network
use Rattle.messages.specs.Moves.{push_all}
use Rattle.messages.specs.Moves as moves
use Rattle.combining_switch.specs.declared.answers.Answered.{Answered}
use Rattle.combining_switch.specs.declared.answers.Answered.TheVariants.{NoRoom}
use Rattle.combining_switch.specs.Outputs.{OutputLists}
use Rattle.ring_network.specs.Outputs.{empty_output}
use Rattle.combining_switch.specs.Switches.{answered_for}
use Rattle.ring_network.specs.Switches.{SwitchLists, answered, empty_switch, has_room, output_of, put_replies}
use Rattle.ring_network.specs.Switches.{put_reply, records_at, replies_at, requests_at, with_inputs, with_records}
use Rattle.omega_network.specs.Networks.{half}
use Rattle.ring_network.specs.Networks.{IsNetwork, IsSwitchOf, NetworkLists, net_of, records_after, replies_before, sizes_of, switch_at}
use Rattle.ring_network.specs.Changes.{with_switch}
use Rattle.ring_network.specs.Offers.{answered_on, first_reply_taken}
use Rattle.omega_network.proofs.Lemmas.{half_of_wire, two_halves}
use Rattle.ring_network.proofs.Switches.{switch_put}
use Rattle.ring_network.proofs.Kept.{Found, inputs_kept, output_kept, had_is, put_at, put_is, stage_is, switch_is, with_switch_kept}
use Rattle.ring_network.proofs.Changes.{at_input, records_left, records_put, replies_left, replies_put, requests_left}

module _ (inverse : RotationsAreInverse) (on_wires : RotationsStayOnWires) where
  -- the wire on which a reply for a leader goes on: to the same switch, at the input that the leader's bit names
  module _ (k s w p : ℕ) (stage : s < k) (wire : w < 2 ^ k) where
    abbrev end : ℕ
    end = 2 * (w / 2) + bit (bit_of_stage k s) p

    small_bit : bit (bit_of_stage k s) p < 2
    small_bit = omega arith

    end_is : 2 * (w / 2) + bit (bit_of_stage k s) p < 2 ^ k
    end_is = let e = two_halves k s stage in let l = small_bit in omega arith

    to_wire : wire_before k s w p < 2 ^ k
    unfolding wire_before
    to_wire = (on_wires k end end_is).1

    back : rotated_left k (wire_before k s w p) ≡ 2 * (w / 2) + bit (bit_of_stage k s) p
    unfolding wire_before
    back = (inverse k end end_is).1

    to_switch : switch_of k (wire_before k s w p) ≡ w / 2
    to_switch = ap (λ n. n / 2) back ∙ (let l = small_bit in omega arith)

    to_input : input_port k (wire_before k s w p) ≡ bit (bit_of_stage k s) p
    to_input = ap (λ n. n % 2) back ∙ (let l = small_bit in omega arith)

  module _ (n : NetworkLists) (is : IsNetwork n) (s w : ℕ) (stage : s < n.k) (wire : w < 2 ^ n.k) where
    number : w / 2 < half n.k
    number = half_of_wire n.k s w stage wire

    -- the network with this switch
    abbrev here : SwitchLists → NetworkLists
    here t = with_switch n s (w / 2) t

    here_is : (t : SwitchLists) → IsSwitchOf n.c n.b n.r (bit_of_stage n.k s) t → IsNetwork (here t)
    here_is t ok = with_switch_kept n s (w / 2) t is stage number ok

    found_here : (t : SwitchLists) → switch_at (here t) s (w / 2) ≡ t
    found_here t = switch_put n s (w / 2) t stage number is.all_switches

    -- the replies for a leader's input
    at_leader : (t : SwitchLists) (p : ℕ) → replies_before (here t) s (wire_before n.k s w p) ≡ replies_at t.inputs (bit (bit_of_stage n.k s) p)
    at_leader t p =
        at_input inverse on_wires (here t) s (wire_before n.k s w p) stage (to_wire n.k s w p stage wire)
        ∙ (λ j. replies_at (switch_at (here t) s (to_switch n.k s w p stage wire j)).inputs (to_input n.k s w p stage wire j))
        ∙ ap (λ (u : SwitchLists). replies_at u.inputs (bit (bit_of_stage n.k s) p)) (found_here t)

    -- one more reply is put at its leader's input
    module _ (t : SwitchLists) (ok : IsSwitchOf n.c n.b n.r (bit_of_stage n.k s) t) (y : Reply) where
      abbrev v : ℕ
      v = wire_before n.k s w y.leader

      abbrev more : SwitchLists
      more = with_inputs t (put_reply t.its_bit t.inputs y)

      v_on : v < 2 ^ n.k
      v_on = to_wire n.k s w y.leader stage wire

      to : switch_of n.k v ≡ w / 2
      to = to_switch n.k s w y.leader stage wire

      port : bit t.its_bit y.leader ≡ input_port n.k v
      port = ap (λ i. bit i y.leader) ok.bit_is ∙ sym (to_input n.k s w y.leader stage wire)

      to_is : switch_of n.k v < half n.k
      to_is = subst (λ i. i < half n.k) (sym to) number

      found_there : switch_at (here t) s (switch_of n.k v) ≡ t
      found_there = ap (switch_at (here t) s) to ∙ found_here t

      twice : here more ≡ with_switch (here t) s (switch_of n.k v) more
      twice =
          (λ j. record {
            k = n.k;
            c = n.c;
            b = n.b;
            r = n.r;
            slots = n.slots;
            switches = sym (set-set n.switches (s * half n.k + w / 2) t more) j;
            module_slots = n.module_slots;
          })
          ∙ ap (λ i. with_switch (here t) s i more) (sym to)

      others : (u : ℕ) → u < 2 → (u ≡ input_port n.k v → ⊥) → replies_at more.inputs u ≡ replies_at (switch_at (here t) s (switch_of n.k v)).inputs u
      others u l away =
          get_or-set_other t.inputs (bit t.its_bit y.leader) u (replies_at t.inputs (bit t.its_bit y.leader) ++ y ∷ []) [] (λ e. away (e ∙ port))
          ∙ ap (λ (x : SwitchLists). replies_at x.inputs u) (sym found_there)

      in_two : bit t.its_bit y.leader < length t.inputs
      in_two = let two = ok.two_inputs in omega arith

      gained : replies_at more.inputs (input_port n.k v) ≡ replies_before (here t) s v ++ y ∷ []
      gained =
          ap (λ u. replies_at more.inputs u) (sym port)
          ∙ get_or-set_same t.inputs (bit t.its_bit y.leader) (replies_at t.inputs (bit t.its_bit y.leader) ++ y ∷ []) [] in_two
          ∙ ap (λ i. replies_at t.inputs (bit i y.leader) ++ y ∷ []) ok.bit_is
          ∙ ap (λ ys. ys ++ y ∷ []) (sym (at_leader t y.leader))

      pub one_put : net_of (here more) ≡ network.put_replies (net_of (here t)) s v (replies_before (here t) s v ++ y ∷ [])
      one_put = ap net_of twice ∙ (λ j. record {
        requests =
            requests_left (here t) (here_is t ok) s (switch_of n.k v) stage to_is more (λ u l. ap (λ (x : SwitchLists). requests_at x u) (sym found_there)) j;
        records =
            records_left (here t) (here_is t ok) s (switch_of n.k v) stage to_is more (λ u l. ap (λ (x : SwitchLists). records_at x u) (sym found_there)) j;
        replies = (replies_put inverse on_wires (here t) (here_is t ok) s v stage v_on more others ∙ ap (put2 (replies_before (here t)) s v) gained) j;
      })

    -- Replies that are put at inputs are put on the wires before the stage, one after another.
    all_put : (ys : List Reply) (t : SwitchLists) → IsSwitchOf n.c n.b n.r (bit_of_stage n.k s) t
        → net_of (here (with_inputs t (put_replies t.its_bit ys t.inputs))) ≡ push_all (wire_before n.k s w) s ys (net_of (here t))
    unfolding put_replies push_all
    all_put [] t ok = refl
    all_put (y ∷ ys) t ok =
        all_put ys (with_inputs t (put_reply t.its_bit t.inputs y))
        (inputs_kept n.c n.b n.r (bit_of_stage n.k s) t (put_reply t.its_bit t.inputs y) ok (length-set t.inputs (bit t.its_bit y.leader) _ ∙ ok.two_inputs))
        ∙ ap (push_all (wire_before n.k s w) s ys) (one_put t ok y)

    -- There is room at the inputs exactly if there is room on the wires.
    rooms : (c : ℕ) (ys : List Reply) (t : SwitchLists) → t.its_bit ≡ bit_of_stage n.k s →
        moves.has_room c (wire_before n.k s w) s (net_of (here t)) ys ≡ has_room c t.its_bit t.inputs ys
    unfolding has_room
    rooms c [] t its_bit = refl
    rooms c (y ∷ ys) t its_bit =
        (λ j. nat_le (length ((at_leader t y.leader ∙ ap (λ i. replies_at t.inputs (bit i y.leader)) (sym its_bit)) j)) c && rooms c ys t its_bit j)

    -- ---- a reply comes back

    module _ (u : SwitchLists) (ok : IsSwitchOf n.c n.b n.r (bit_of_stage n.k s) u) (found : u ≡ switch_at n s (w / 2)) (x : Reply) where
      abbrev own : List Record
      own = records_at u (w % 2)

      abbrev ys : List Reply
      ys = answers (records_of x.leader own) x

      abbrev left : SwitchLists
      left = with_records u (w % 2) (records_but x.leader own)

      abbrev all : SwitchLists
      all = with_inputs left (put_replies u.its_bit ys u.inputs)

      rest : w % 2 < 2
      rest = omega arith

      output_in : w % 2 < length u.outputs
      output_in = let two = ok.two_outputs in let r = rest in omega arith

      records_are : own ≡ records_after n s w
      unfolding records_after
      records_are =
          ap (λ t. records_at t (w % 2)) found
          ∙ sym (ap (λ (b : Bool). if b then records_at (switch_at n s (w / 2)) (w % 2) else []) (lt-ltb w (2 ^ n.k) wire))

      left_ok : IsSwitchOf n.c n.b n.r (bit_of_stage n.k s) left
      left_ok = let had = ok.outputs (w % 2) rest (empty_output 0 0 0) in output_kept n.c n.b n.r (bit_of_stage n.k s) u (w % 2) _ ok rest had.0 had.1 had.2

      out_here : output_of left (w % 2) ≡ (record {
        c = (output_of u (w % 2)).c;
        b = (output_of u (w % 2)).b;
        r = (output_of u (w % 2)).r;
        requests = requests_at u (w % 2);
        records = records_but x.leader own;
      })
      out_here = get_or-set_same u.outputs (w % 2) _ (empty_output 0 0 0) output_in

      out_other : (v : ℕ) → (v ≡ w % 2 → ⊥) → output_of left v ≡ output_of u v
      out_other v away = get_or-set_other u.outputs (w % 2) v _ (empty_output 0 0 0) away

      requests_same : (v : ℕ) → v < 2 → requests_at left v ≡ requests_at (switch_at n s (w / 2)) v
      requests_same v l = go (cases_eq v (w % 2)) ∙ ap (λ t. requests_at t v) found
        where
          go : (v ≡ w % 2) ⊎ (v ≡ w % 2 → ⊥) → requests_at left v ≡ requests_at u v
          go (inl e) = ap (requests_at left) e ∙ ap (λ (o : OutputLists). o.requests) out_here ∙ ap (requests_at u) (sym e)
          go (inr away) = ap (λ (o : OutputLists). o.requests) (out_other v away)

      -- If the leader's records are dropped, they are dropped at their place, and nothing else changes.
      forgotten : net_of (here left) ≡ put_records (net_of n) s w (records_but x.leader own)
      forgotten = λ j. record {
        requests = requests_left n is s (w / 2) stage number left requests_same j;
        records = (records_put n is s w stage wire left (λ v l away. ap (λ (o : OutputLists). o.records) (out_other v away) ∙ ap (λ t. records_at t v) found)
            ∙ ap (λ (o : OutputLists). put2 (records_after n) s w o.records) out_here) j;
        replies = replies_left inverse on_wires n is s (w / 2) stage number left (ap (λ (t : SwitchLists). t.inputs) found) j;
      }

      -- After that, all replies are put on the wires before the stage.
      answered_net : net_of (here all) ≡ push_all (wire_before n.k s w) s ys (put_records (net_of n) s w (records_but x.leader own))
      answered_net = all_put ys left left_ok ∙ ap (push_all (wire_before n.k s w) s ys) forgotten

      stays : net_of (here u) ≡ net_of n
      stays = ap (λ t. net_of (here t)) found
          ∙ (λ j. net_of (record {
            k = n.k;
            c = n.c;
            b = n.b;
            r = n.r;
            slots = n.slots;
            switches = set-get_or n.switches (s * half n.k + w / 2) (empty_switch 0 0 0 0) j;
            module_slots = n.module_slots;
          }))

      room_is : moves.has_room n.c (wire_before n.k s w) s (push_all (wire_before n.k s w) s ys (put_records (net_of n) s w (records_but x.leader own))) ys
          ≡ has_room u.c u.its_bit (put_replies u.its_bit ys u.inputs) ys
      room_is =
          ap (λ (net : Net). moves.has_room n.c (wire_before n.k s w) s net ys) (sym answered_net)
          ∙ rooms n.c ys all ok.bit_is ∙ ap (λ c. has_room c u.its_bit (put_replies u.its_bit ys u.inputs) ys) (sym ok.c_is)

      -- the answer and the network then, by the records of the output
      by_records : List Record → Answered × Net
      by_records es =
          let net = push_all (wire_before n.k s w) s (answers (records_of x.leader es) x) (put_records (net_of n) s w (records_but x.leader es)) in
          if moves.has_room n.c (wire_before n.k s w) s net (answers (records_of x.leader es) x) then (answered_for (records_of x.leader es), net)
          else (NoRoom, net_of n)

      pub answer_there : ((answered u (w % 2) x).0 ≡ (answered_on (sizes_of n) (net_of n) s w x).0)
          × (net_of (here (answered u (w % 2) x).1) ≡ (answered_on (sizes_of n) (net_of n) s w x).1)
      unfolding answered answered_on by_records
      answer_there =
          subst (λ (r : Answered × Net). ((answered u (w % 2) x).0 ≡ r.0) × (net_of (here (answered u (w % 2) x).1) ≡ r.1)) (ap by_records records_are)
          (go (has_room u.c u.its_bit (put_replies u.its_bit ys u.inputs) ys) refl)
        where
          go : (r : Bool) → has_room u.c u.its_bit (put_replies u.its_bit ys u.inputs) ys ≡ r
              → ((answered u (w % 2) x).0 ≡ (by_records own).0) × (net_of (here (answered u (w % 2) x).1) ≡ (by_records own).1)
          go true e = rw (e, room_is ∙ e) (refl, answered_net)
          go false e = rw (e, room_is ∙ e) (refl, stays)

  -- ---- for the calls

  -- What the switch does with a reply at the wire's output is what the network of places does with it there.
  pub answer_net : (n m : NetworkLists) (s w place : ℕ) (u : SwitchLists) → Found n m s (w / 2) place u → w < 2 ^ m.k →
      (x : Reply) (t : SwitchLists) (result : Answered)
      → result ≡ (answered u (w % 2) x).0 → t ≡ (answered u (w % 2) x).1
      → (result ≡ (answered_on (sizes_of m) (net_of m) s w x).0) × (net_of (put_at n place t) ≡ (answered_on (sizes_of m) (net_of m) s w x).1)
  answer_net n m s w place u found wire x t result answer same =
      let on : w < 2 ^ n.k = subst (λ (l : NetworkLists). w < 2 ^ l.k) (sym found.view) wire in
      let there = answer_there n found.is s w (stage_is n m s (w / 2) place u found) on u (had_is n m s (w / 2) place u found)
      (switch_is n m s (w / 2) place u found) x in
      subst (λ (l : NetworkLists). (result ≡ (answered_on (sizes_of l) (net_of l) s w x).0)
      × (net_of (put_at n place t) ≡ (answered_on (sizes_of l) (net_of l) s w x).1)) found.view
      (answer ∙ there.0, ap net_of (put_is n m s (w / 2) place u found t) ∙ ap (λ v. net_of (with_switch n s (w / 2) v)) same ∙ there.1)

  module _ (n : NetworkLists) (is : IsNetwork n) (s w : ℕ) (stage : s < n.k) (wire : w < 2 ^ n.k) (u : SwitchLists)
      (ok : IsSwitchOf n.c n.b n.r (bit_of_stage n.k s) u) (found : u ≡ switch_at n s (switch_of n.k w)) where
    abbrev inp : ℕ
    inp = input_port n.k w

    abbrev shorter : SwitchLists
    shorter = with_inputs u (set u.inputs inp (drop 1 (replies_at u.inputs inp)))

    inp_in : inp < length u.inputs
    inp_in = let two = ok.two_inputs in omega arith

    place_on : switch_of n.k w < half n.k
    place_on = half_of_wire n.k s (rotated_left n.k w) stage ((on_wires n.k w wire).0)

    take_there : net_of (with_switch n s (switch_of n.k w) shorter) ≡ first_reply_taken (net_of n) s w
    take_there = λ j. record {
      requests = requests_left n is s (switch_of n.k w) stage place_on shorter (λ v l. ap (λ t. requests_at t v) found) j;
      records = records_left n is s (switch_of n.k w) stage place_on shorter (λ v l. ap (λ t. records_at t v) found) j;
      replies = (replies_put inverse on_wires n is s w stage wire shorter
          (λ v l away. get_or-set_other u.inputs inp v (drop 1 (replies_at u.inputs inp)) [] away ∙ ap (λ (t : SwitchLists). replies_at t.inputs v) found)
          ∙ ap (put2 (replies_before n) s w)
          (get_or-set_same u.inputs inp (drop 1 (replies_at u.inputs inp)) [] inp_in ∙ ap (λ (t : SwitchLists). drop 1 (replies_at t.inputs inp)) found
          ∙ ap (drop 1) (sym (at_input inverse on_wires n s w stage wire)))) j;
    }

  -- If the first reply at the wire's input is taken, the first one at its place is, and nothing else changes.
  pub reply_take_net : (n m : NetworkLists) (s w place : ℕ) (u t : SwitchLists) → Found n m s (switch_of m.k w) place u → w < 2 ^ m.k
      → t ≡ with_inputs u (set u.inputs (input_port m.k w) (drop 1 (replies_at u.inputs (input_port m.k w)))) →
      net_of (put_at n place t) ≡ first_reply_taken (net_of m) s w
  reply_take_net n m s w place u t found wire same =
      let k : m.k ≡ n.k = ap (λ (l : NetworkLists). l.k) (sym found.view) in
      let on : w < 2 ^ n.k = subst (λ (l : NetworkLists). w < 2 ^ l.k) (sym found.view) wire in
      let there = take_there n found.is s w (stage_is n m s (switch_of m.k w) place u found) on u (had_is n m s (switch_of m.k w) place u found)
      (switch_is n m s (switch_of m.k w) place u found ∙ ap (λ h. switch_at n s (switch_of h w)) k) in
      ap net_of (put_is n m s (switch_of m.k w) place u found t)
      ∙ (λ j. net_of (with_switch n s (switch_of (k j) w) (same' k j)))
      ∙ there ∙ ap (λ (l : NetworkLists). first_reply_taken (net_of l) s w) found.view
    where
      same' : m.k ≡ n.k → t ≡ with_inputs u (set u.inputs (input_port n.k w) (drop 1 (replies_at u.inputs (input_port n.k w))))
      same' k = same ∙ ap (λ h. with_inputs u (set u.inputs (input_port h w) (drop 1 (replies_at u.inputs (input_port h w))))) k
