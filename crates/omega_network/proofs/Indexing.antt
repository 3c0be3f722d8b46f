-- After each call, the sets are again those of the network.
use Rattle.std.proofs.Common.{◌≡◌, ℕ, zero, suc, ◌+◌, ◌*◌, ◌/◌, ◌%◌, ◌^◌, ◌<◌, ◌≤◌, Bool, true, false, not}
use Rattle.std.proofs.Common.{◌⊎◌, inl, inr, List, [], ◌∷◌, refl, sym, ap, ◌∙◌, subst, arith, pow-suc}
use Rattle.std.specs.Prelude.{IsTrue, is_some, slice_get, slice_index_or}
use Rattle.omega_wires.specs.Wires.{rotated_left, rotated_right, wire_before}
use Rattle.messages.specs.declared.message.Request.{Request}
use Rattle.messages.specs.declared.message.Reply.{Reply}
use Rattle.messages.specs.Network.{IsEmptyNet, Net, Sizes}
use Rattle.messages.specs.Moves.{injected, module_replied, module_taken, moved_down, moved_up, port_taken}
use Rattle.omega_network.specs.Networks.{NetworkLists, net_of, sizes_of}
use Rattle.messages.proofs.Lemmas.{put2_other}
use Rattle.omega_wires.specs.Members.{members}
use Rattle.omega_network.specs.Index.{IsIndexed, IsLookedAt, Knows}
use Rattle.omega_network.proofs.Elsewhere.{down_elsewhere, down_requests, input_is, up_elsewhere, up_replies}
use Rattle.omega_network.proofs.Looking.{no_look, one_look, three_looks}

-- ---- an empty network

none_at : ((w : ℕ) → members 0 w ≡ false) → (s : ℕ) → ((w : ℕ) → members s w ≡ false) → (d w : ℕ) →
    members (slice_index_or (s ∷ s ∷ s ∷ s ∷ s ∷ s ∷ s ∷ []) d 0) w ≡ false
none_at past s none zero w = none w
none_at past s none (suc zero) w = none w
none_at past s none (suc (suc zero)) w = none w
none_at past s none (suc (suc (suc zero))) w = none w
none_at past s none (suc (suc (suc (suc zero)))) w = none w
none_at past s none (suc (suc (suc (suc (suc zero))))) w = none w
none_at past s none (suc (suc (suc (suc (suc (suc zero)))))) w = none w
none_at past s none (suc (suc (suc (suc (suc (suc (suc d))))))) w = past w

knows_none : {X : Type 0} → ((w : ℕ) → members 0 w ≡ false) → (k : ℕ) (messages : ℕ → ℕ → List X) (s : ℕ) → ((d w : ℕ) → messages d w ≡ []) →
    ((w : ℕ) → members s w ≡ false) → Knows k messages (s ∷ s ∷ s ∷ s ∷ s ∷ s ∷ s ∷ [])
knows_none past k messages s empty none = record {
  there = λ d w deep wire. none_at past s none d w ∙ sym (ap (λ xs. is_some (slice_get xs 0)) (empty d w));
  few = λ d w beyond. none_at past s none d w;
}

-- Sets that have no wire are those of an empty network of up to six stages.
pub empty_indexed : ((w : ℕ) → members 0 w ≡ false) → (n : NetworkLists) (s t : ℕ) → IsEmptyNet (net_of n) → n.k ≤ 6 → ((w : ℕ) → members s w ≡ false) →
    ((w : ℕ) → members t w ≡ false)
    → IsIndexed n (s ∷ s ∷ s ∷ s ∷ s ∷ s ∷ s ∷ []) (t ∷ t ∷ t ∷ t ∷ t ∷ t ∷ t ∷ [])
empty_indexed past n s t empty few none none' = record {
  stages = few;
  of_requests = knows_none past n.k (net_of n).requests s (λ d w. (empty d w).0) none;
  of_replies = knows_none past n.k (net_of n).replies t (λ d w. (empty d w).2) none';
}

-- ---- after a call

module _ (old new : NetworkLists) (rq rp : List ℕ) (is : IsIndexed old rq rp) (sizes : sizes_of new ≡ sizes_of old) where
  size : old.k ≡ new.k
  size = sym (ap (λ (z : Sizes). z.k) sizes)

  requests_change : (rq' : List ℕ) → (net_of new).replies ≡ (net_of old).replies →
      (Knows new.k (net_of old).requests rq → Knows new.k (net_of new).requests rq') → IsIndexed new rq' rp
  requests_change rq' same change = record {
    stages = subst (λ k. k ≤ 6) size is.stages;
    of_requests = change (subst (λ k. Knows k (net_of old).requests rq) size is.of_requests);
    of_replies = no_look new.k (net_of old).replies (net_of new).replies rp same (subst (λ k. Knows k (net_of old).replies rp) size is.of_replies);
  }

  replies_change : (rp' : List ℕ) → (net_of new).requests ≡ (net_of old).requests →
      (Knows new.k (net_of old).replies rp → Knows new.k (net_of new).replies rp') → IsIndexed new rq rp'
  replies_change rp' same change = record {
    stages = subst (λ k. k ≤ 6) size is.stages;
    of_requests = no_look new.k (net_of old).requests (net_of new).requests rq same (subst (λ k. Knows k (net_of old).requests rq) size is.of_requests);
    of_replies = change (subst (λ k. Knows k (net_of old).replies rp) size is.of_replies);
  }

  -- After a request is put into a slot, the sets are the network's once the slot was looked at.
  pub injected_indexed : (x : Request) (p : ℕ) (rq' : List ℕ) → net_of new ≡ injected (net_of old) x → x.leader ≡ p →
      IsLookedAt new.k (net_of new).requests 0 p rq rq' → IsIndexed new rq' rp
  unfolding injected
  injected_indexed x p rq' after leader look =
      requests_change rq' (ap (λ (n : Net). n.replies) after)
      (λ knows. one_look new.k (net_of old).requests (net_of new).requests rq rq' 0 p knows
      (λ d w away. ap (λ (n : Net). n.requests d w) after ∙ put2_other (net_of old).requests 0 x.leader _ d w (λ a e. away a (e ∙ leader))) look)

  -- After the first request at a module is taken, the sets are the network's once its wire was looked at.
  pub taken_indexed : (m k : ℕ) (rq' : List ℕ) → k ≡ new.k → net_of new ≡ module_taken (sizes_of old) (net_of old) m →
      IsLookedAt new.k (net_of new).requests k m rq rq' → IsIndexed new rq' rp
  unfolding module_taken
  taken_indexed m k rq' at after look =
      requests_change rq' (ap (λ (n : Net). n.replies) after)
      (λ knows. one_look new.k (net_of old).requests (net_of new).requests rq rq' k m knows
      (λ d w away. ap (λ (n : Net). n.requests d w) after ∙ put2_other (net_of old).requests old.k m _ d w (λ a e. away (a ∙ size ∙ sym at) e)) look)

  -- After a reply is put into a module's slot, the sets are the network's once the slot was looked at.
  pub replied_indexed : (m k : ℕ) (y : Reply) (rp' : List ℕ) → k ≡ new.k → net_of new ≡ module_replied (sizes_of old) (net_of old) m y →
      IsLookedAt new.k (net_of new).replies k m rp rp' → IsIndexed new rq rp'
  unfolding module_replied
  replied_indexed m k y rp' at after look =
      replies_change rp' (ap (λ (n : Net). n.requests) after)
      (λ knows. one_look new.k (net_of old).replies (net_of new).replies rp rp' k m knows
      (λ d w away. ap (λ (n : Net). n.replies d w) after ∙ put2_other (net_of old).replies old.k m _ d w (λ a e. away (a ∙ size ∙ sym at) e)) look)

  -- After the first reply at a processor is taken, the sets are the network's once its wire was looked at.
  pub port_indexed : (p : ℕ) (rp' : List ℕ) → net_of new ≡ port_taken (net_of old) p → IsLookedAt new.k (net_of new).replies 0 p rp rp' → IsIndexed new rq rp'
  unfolding port_taken
  port_indexed p rp' after look =
      replies_change rp' (ap (λ (n : Net). n.requests) after)
      (λ knows. one_look new.k (net_of old).replies (net_of new).replies rp rp' 0 p knows
      (λ d w away. ap (λ (n : Net). n.replies d w) after ∙ put2_other (net_of old).replies 0 p _ d w away) look)

  -- After a move up, the sets are the network's once the wire and the outputs of the switch that it goes into were
  -- looked at.
  pub up_indexed : (s w out : ℕ) (rq1 rq2 rq3 : List ℕ) → net_of new ≡ (moved_up (sizes_of old) (net_of old) s w).1 → out ≡ 2 * (rotated_left old.k w / 2)
      → IsLookedAt new.k (net_of new).requests s w rq rq1 → IsLookedAt new.k (net_of new).requests (s + 1) out rq1 rq2 →
      IsLookedAt new.k (net_of new).requests (s + 1) (out + 1) rq2 rq3 → IsIndexed new rq3 rp
  up_indexed s w out rq1 rq2 rq3 after at one two three =
      requests_change rq3 (ap (λ (n : Net). n.replies) after ∙ up_replies (sizes_of old) (net_of old) s w)
      (λ knows. three_looks new.k (net_of old).requests (net_of new).requests rq rq1 rq2 rq3 s w (s + 1) out (s + 1) (out + 1) knows
      (λ d v away1 away2 away3.
      let next : s + 1 ≡ suc s = omega arith in
      ap (λ (n : Net). n.requests d v) after
      ∙ up_elsewhere (sizes_of old) (net_of old) s w d v
      (away1, λ a half. by v (v % 2) refl half (omega arith) (λ e. away2 (a ∙ sym next) e) (λ e. away3 (a ∙ sym next) e)))
      one two three)
    where
      by : (v b : ℕ) → v % 2 ≡ b → v / 2 ≡ rotated_left old.k w / 2 → b < 2 → (v ≡ out → ⊥) → (v ≡ out + 1 → ⊥) → ⊥
      by v zero even half few not_first not_second = not_first (omega (arith, even, half, at))
      by v (suc zero) odd half few not_first not_second = not_second (omega (arith, odd, half, at))
      by v (suc (suc b)) other half few not_first not_second = omega (arith, few)

  -- After a move down, the sets are the network's once the wire and the inputs of the switch that it comes from were
  -- looked at.
  pub down_indexed : (s w first second : ℕ) (rp1 rp2 rp3 : List ℕ) → net_of new ≡ (moved_down (sizes_of old) (net_of old) s w).1 →
      first ≡ rotated_right old.k (2 * (w / 2)) → second ≡ rotated_right old.k (2 * (w / 2) + 1)
      → IsLookedAt new.k (net_of new).replies (s + 1) w rp rp1 → IsLookedAt new.k (net_of new).replies s first rp1 rp2 →
      IsLookedAt new.k (net_of new).replies s second rp2 rp3 → IsIndexed new rq rp3
  down_indexed s w first second rp1 rp2 rp3 after at at' one two three =
      replies_change rp3 (ap (λ (n : Net). n.requests) after ∙ down_requests (sizes_of old) (net_of old) s w)
      (λ knows. three_looks new.k (net_of old).replies (net_of new).replies rp rp1 rp2 rp3 (s + 1) w s first s second knows
      (λ d v away1 away2 away3.
      let next : s + 1 ≡ suc s = omega arith in
      ap (λ (n : Net). n.replies d v) after
      ∙ down_elsewhere (sizes_of old) (net_of old) s w d v ((λ a e. away1 (a ∙ sym next) e), (λ p a e. by p v e (λ e'. away2 a e') (λ e'. away3 a e'))))
      one two three)
    where
      by : (p v : ℕ) → v ≡ wire_before old.k s w p → (v ≡ first → ⊥) → (v ≡ second → ⊥) → ⊥
      by p v is not_first not_second = go (input_is (sizes_of old) (net_of old) s w p)
        where
          go : (wire_before old.k s w p ≡ rotated_right old.k (2 * (w / 2))) ⊎ (wire_before old.k s w p ≡ rotated_right old.k (2 * (w / 2) + 1)) → ⊥
          go (inl e) = not_first (is ∙ e ∙ sym at)
          go (inr e) = not_second (is ∙ e ∙ sym at')

-- ---- places without a message

-- If the test for a first element answers no, the list is empty.
pub nothing_there : {X : Type 0} (q : List X) (b : Bool) → b ≡ is_some (slice_get q 0) → b ≡ false → q ≡ []
nothing_there [] b e f = refl
nothing_there (x ∷ xs) b e f = absurd (let g : true ≡ false = sym e ∙ f in cc)

-- The test for a first element answers no exactly if the list is empty.
pub free_is : {X : Type 0} (q : List X) (b : Bool) → b ≡ is_some (slice_get q 0) → (IsTrue (not b) → q ≡ []) × (q ≡ [] → IsTrue (not b))
free_is {X} [] b e = ((λ t. refl), (λ g. ap not e))
free_is {X} (y ∷ ys) b e = ((λ t. absurd (let g : false ≡ true = sym (ap not e) ∙ t in cc)), (λ g. absurd (let h : y ∷ ys ≡ [] = g in cc)))

-- The odd wire that shares a switch with a wire is a wire of the network.
pub second_wire : (k s w : ℕ) → s < k → w < 2 ^ k → 2 * (w / 2) + 1 < 2 ^ k
second_wire zero s w some within = absurd (omega (arith, some))
second_wire (suc k) s w some within = let twice = pow-suc 2 k in omega (arith, twice, within)
