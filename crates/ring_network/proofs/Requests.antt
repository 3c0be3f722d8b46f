-- A request accepted at a switch, or taken from it, in a network of places.
use Rattle.std.proofs.Common.{◌≡◌, ℕ, suc, ◌/◌, ◌%◌, ◌^◌, ◌<◌, Bool, true, false, List, [], ◌∷◌}
use Rattle.std.proofs.Common.{◌++◌, length, drop, nat_lt, Option, Some, None, refl, sym, ap, ◌∙◌}
use Rattle.std.proofs.Common.{subst, arith, lt-ltb, get_or-set_same, get_or-set_other}
use Rattle.std.specs.Prelude.{if◌then◌else◌}
use Rattle.omega_wires.specs.Laws.{RotationsAreInverse, RotationsStayOnWires}
use Rattle.messages.specs.declared.message.Request.{Request}
use Rattle.messages.specs.Places.{put2}
use Rattle.messages.specs.Queues.{Combination, combination, unmarked}
use Rattle.messages.specs.Network.{Net, Sizes, put_records, put_requests}
use Rattle.combining_switch.specs.declared.answers.Accepted.{Accepted}
use Rattle.combining_switch.specs.declared.answers.Accepted.TheVariants.{Combined}
use Rattle.combining_switch.specs.Outputs.{OutputLists, accepted, accepted_as}
use Rattle.ring_network.specs.Outputs.{empty_output}
use Rattle.ring_network.specs.Switches.{SwitchLists, output_of, records_at, requests_at, with_output, with_requests}
use Rattle.ring_network.specs.Networks.{NetworkLists, at_output, net_of, records_after, replies_before, requests_before, sizes_of, switch_at}
use Rattle.ring_network.specs.Changes.{with_switch}
use Rattle.ring_network.specs.Offers.{accepted_on, accepted_where, first_request_taken}
use Rattle.messages.proofs.Lemmas.{put2_id}
use Rattle.ring_network.proofs.Kept.{Found, had_is, number_is, put_at, put_is, stage_is, switch_is}
use Rattle.ring_network.proofs.Changes.{records_put, replies_left, requests_put}

-- ---- by the lists of the output

-- The output has the sizes, the requests and the records of a place.
record IsOutput (z : Sizes) (net : Net) (s w : ℕ) (o : OutputLists) : Type 0 where
  c_is : o.c ≡ z.c
  b_is : o.b ≡ z.b
  r_is : o.r ≡ z.r
  requests_are : o.requests ≡ net.requests (suc s) w
  records_are : o.records ≡ net.records s w

-- the network after an output has become this one
abbrev after : Net → (s w : ℕ) → OutputLists → Net
after net s w o = put_records (put_requests net (suc s) w o.requests) s w o.records

unchanged : (z : Sizes) (net : Net) (s w : ℕ) (o : OutputLists) → IsOutput z net s w o → after net s w o ≡ net
unchanged z net s w o is = λ j. record {
  requests = ((λ i. put2 net.requests (suc s) w (is.requests_are i)) ∙ put2_id net.requests (suc s) w) j;
  records = ((λ i. put2 net.records s w (is.records_are i)) ∙ put2_id net.records s w) j;
  replies = net.replies;
}

accepted_there : (z : Sizes) (net : Net) (s w : ℕ) (o : OutputLists) (x : Request) → IsOutput z net s w o
    → ((accepted o x).0 ≡ (accepted_on z net s w x).0) × (after net s w (accepted o x).1 ≡ (accepted_on z net s w x).1)
unfolding accepted accepted_on
accepted_there z net s w o x is =
    go (combination o.b o.r x o.requests o.records) (combination z.b z.r x (net.requests (suc s) w) (net.records s w))
    (λ i. combination (is.b_is i) (is.r_is i) x (is.requests_are i) (is.records_are i))
  where
    queue : (b b' : Bool) → nat_lt (length o.requests) o.c ≡ b → b ≡ b' → nat_lt (length (net.requests (suc s) w)) z.c ≡ b'
        → ((accepted_as o x None).0 ≡ (accepted_where z net s w x None).0) × (after net s w (accepted_as o x None).1 ≡ (accepted_where z net s w x None).1)
    queue true true e f g = rw (e, g) (
      refl,
      (λ j. record {
        requests = put2 net.requests (suc s) w (is.requests_are j ++ unmarked x ∷ []);
        records = ((λ i. put2 net.records s w (is.records_are i)) ∙ put2_id net.records s w) j;
        replies = net.replies;
      }),
    )
    queue false false e f g = rw (e, g) (refl, unchanged z net s w o is)
    queue true false e f g = cc
    queue false true e f g = cc

    go : (j i : Option Combination) → j ≡ i
        → ((accepted_as o x j).0 ≡ (accepted_where z net s w x i).0) × (after net s w (accepted_as o x j).1 ≡ (accepted_where z net s w x i).1)
    go None None e =
        queue (nat_lt (length o.requests) o.c) (nat_lt (length (net.requests (suc s) w)) z.c) refl (λ i. nat_lt (length (is.requests_are i)) (is.c_is i)) refl
    go (Some j) (Some i) e =
        let same : j ≡ i = cc in (
          ap (λ (k : Combination). Combined k.made.leader) same,
          (λ l. record {
            requests = put2 net.requests (suc s) w ((same l).queue);
            records = put2 net.records s w (is.records_are l ++ (same l).made ∷ []);
            replies = net.replies;
          }),
        )
    go None (Some i) e = cc
    go (Some j) None e = cc

-- ---- by the switch

module _ (inverse : RotationsAreInverse) (on_wires : RotationsStayOnWires)
    (n m : NetworkLists) (s w place : ℕ) (u : SwitchLists) (found : Found n m s (w / 2) place u) (wire : w < 2 ^ m.k) where
  wire_is : w < 2 ^ n.k
  wire_is = subst (λ (l : NetworkLists). w < 2 ^ l.k) (sym found.view) wire

  stage : s < n.k
  stage = stage_is n m s (w / 2) place u found

  found_switch : u ≡ switch_at n s (w / 2)
  found_switch = switch_is n m s (w / 2) place u found

  rest : w % 2 < 2
  rest = omega arith

  -- A list at the wire's output of the found switch is the network's at the stage and the wire.
  pub at_place : {X : Type 0} (f : SwitchLists → ℕ → List X) → f u (w % 2) ≡ at_output f n s w
  at_place {X} f =
      ap (λ t. f t (w % 2)) found_switch
      ∙ sym (ap (λ (b : Bool). if b then f (switch_at n s (w / 2)) (w % 2) else []) (lt-ltb w (2 ^ n.k) wire_is))

  output_is : IsOutput (sizes_of n) (net_of n) s w (output_of u (w % 2))
  unfolding requests_before records_after
  output_is =
      let had = (had_is n m s (w / 2) place u found).outputs (w % 2) rest (empty_output 0 0 0) in
      record { c_is = had.0; b_is = had.1; r_is = had.2; requests_are = at_place requests_at; records_are = at_place records_at }

  within : w % 2 < length u.outputs
  within = let two = (had_is n m s (w / 2) place u found).two_outputs in let r = rest in omega arith

  output_put : (o : OutputLists) → net_of (with_switch n s (w / 2) (with_output u (w % 2) o)) ≡ after (net_of n) s w o
  output_put o = λ j. record {
    requests = (requests_put n found.is s w stage wire_is t (λ v l away. ap (λ (p : OutputLists). p.requests) (other v away))
        ∙ (λ i. put2 (requests_before n) (suc s) w ((here i).requests))) j;
    records = (records_put n found.is s w stage wire_is t (λ v l away. ap (λ (p : OutputLists). p.records) (other v away))
        ∙ (λ i. put2 (records_after n) s w ((here i).records))) j;
    replies =
        replies_left inverse on_wires n found.is s (w / 2) stage (number_is n m s (w / 2) place u found) t (ap (λ (v : SwitchLists). v.inputs) found_switch) j;
  }
    where
      t : SwitchLists
      t = with_output u (w % 2) o

      here : output_of (with_output u (w % 2) o) (w % 2) ≡ o
      here = get_or-set_same u.outputs (w % 2) o (empty_output 0 0 0) within

      other : (v : ℕ) → (v ≡ w % 2 → ⊥) → output_of (with_output u (w % 2) o) v ≡ output_of (switch_at n s (w / 2)) v
      other v away = get_or-set_other u.outputs (w % 2) v o (empty_output 0 0 0) away ∙ ap (λ (x : SwitchLists). output_of x v) found_switch

  put_there : (t : SwitchLists) (o : OutputLists) → t ≡ with_output u (w % 2) o → net_of (put_at n place t) ≡ after (net_of n) s w o
  put_there t o same = ap net_of (put_is n m s (w / 2) place u found t) ∙ ap (λ v. net_of (with_switch n s (w / 2) v)) same ∙ output_put o

  -- What the switch does with a request at the wire's output is what the network of places does with it there.
  pub accept_net : (x : Request) (t : SwitchLists) (result : Accepted) → result ≡ (accepted (output_of u (w % 2)) x).0 →
      t ≡ with_output u (w % 2) (accepted (output_of u (w % 2)) x).1
      → (result ≡ (accepted_on (sizes_of m) (net_of m) s w x).0) × (net_of (put_at n place t) ≡ (accepted_on (sizes_of m) (net_of m) s w x).1)
  accept_net x t result answer same =
      let there = accepted_there (sizes_of n) (net_of n) s w (output_of u (w % 2)) x output_is in
      subst (λ (l : NetworkLists). (result ≡ (accepted_on (sizes_of l) (net_of l) s w x).0)
      × (net_of (put_at n place t) ≡ (accepted_on (sizes_of l) (net_of l) s w x).1)) found.view
      (answer ∙ there.0, put_there t (accepted (output_of u (w % 2)) x).1 same ∙ there.1)

  -- If the first request at the wire's output is taken, the first one at its place is, and nothing else changes.
  pub take_net : (t : SwitchLists) → t ≡ with_requests u (w % 2) (drop 1 (requests_at u (w % 2))) →
      net_of (put_at n place t) ≡ first_request_taken (net_of m) (suc s) w
  take_net t same =
      let is = output_is in
      subst (λ (l : NetworkLists). net_of (put_at n place t) ≡ first_request_taken (net_of l) (suc s) w) found.view
      (put_there t _ same ∙ (λ j. record {
        requests = put2 (requests_before n) (suc s) w (drop 1 (is.requests_are j));
        records = ((λ i. put2 (records_after n) s w (is.records_are i)) ∙ put2_id (records_after n) s w) j;
        replies = replies_before n;
      }))
