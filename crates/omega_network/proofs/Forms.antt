-- The outputs and inputs of a network's switch, by its form.
use Rattle.std.proofs.Common.{◌≡◌, ℕ, zero, suc, ◌+◌, ◌*◌, ◌/◌, ◌%◌, ◌^◌, ◌<◌, [], ◌∷◌, length, get_or, sym, ap, ◌∙◌, subst, arith}
use Rattle.omega_wires.specs.Wires.{bit, bit_of_stage, wire_before}
use Rattle.combining_switch.specs.Outputs.{OutputState, output_in}
use Rattle.combining_switch.specs.Switches.{StandsIn, SwitchState, input_for, input_of, output_of, records_at}
use Rattle.omega_network.specs.Networks.{IsNetwork, NetworkLists, half, net_of, place, sizes_of, switch_at, the_switch}
use Rattle.omega_network.proofs.Changes.{at_output, at_queue}
use Rattle.omega_network.proofs.Offers.{output_at}
use Rattle.omega_network.proofs.Switches.{half_of_wire, queue_within, two_halves}

module _ (k c b r s i : ℕ) (t : SwitchState) (form : t ≡ the_switch k c b r s i (records_at t 0) (records_at t 1)) where
  abbrev an_output : ℕ → OutputState
  an_output v = record { c = c; b = b; r = r; queue = place k (suc s) (2 * i + v); records = records_at t v }

  output_is : (v : ℕ) → v < 2 → output_of t v ≡ record { c = c; b = b; r = r; queue = place k (suc s) (2 * i + v); records = records_at t v }
  output_is zero l =
      let e : 2 * i ≡ 2 * i + 0 = omega arith in
      ap (λ (u : SwitchState). output_of u 0) form ∙ (λ j. record { c = c; b = b; r = r; queue = place k (suc s) (e j); records = records_at t 0 })
  output_is (suc zero) l = ap (λ (u : SwitchState). output_of u 1) form
  output_is (suc (suc v)) l = absurd (omega arith)

module _ (n : NetworkLists) (is : IsNetwork n) (s w : ℕ) (stage : s < n.k) (wire : w < 2 ^ n.k) where
  abbrev t : SwitchState
  t = switch_at n s (w / 2)

  number : w / 2 < half n.k
  number = half_of_wire n.k s w stage wire

  -- The switch that a wire comes from has the form of its stage and number.
  pub form : switch_at n s (w / 2)
      ≡ the_switch n.k n.c n.b n.r s (w / 2) (records_at (switch_at n s (w / 2)) 0) (records_at (switch_at n s (w / 2)) 1)
  form = is.each_switch s (w / 2) stage number

  pub the_output : output_of (switch_at n s (w / 2)) (w % 2)
      ≡ record { c = n.c; b = n.b; r = n.r; queue = place n.k (suc s) w; records = records_at (switch_at n s (w / 2)) (w % 2) }
  the_output =
      let e : 2 * (w / 2) + w % 2 ≡ w = omega arith in
      output_is n.k n.c n.b n.r s (w / 2) (switch_at n s (w / 2)) form (w % 2) (omega arith)
      ∙ (λ j. record { c = n.c; b = n.b; r = n.r; queue = place n.k (suc s) (e j); records = records_at (switch_at n s (w / 2)) (w % 2) })

  -- The queue of a wire's output has the number of the next depth and the wire.
  pub queue_is : (output_of (switch_at n s (w / 2)) (w % 2)).queue ≡ place n.k (suc s) w
  queue_is = ap (λ (o : OutputState). o.queue) the_output

  -- The lists of the wire's output are those at its place.
  pub lists_are : output_in n.pool (output_of (switch_at n s (w / 2)) (w % 2)) ≡ output_at (sizes_of n) (net_of n) s w
  lists_are =
      ap (output_in n.pool) the_output
      ∙ (λ j. record { c = n.c; b = n.b; r = n.r; requests = sym (at_queue n (suc s) w wire) j; records = sym (at_output n s w wire) j })

  -- The queues of the switch are in the pool.
  pub in_pool : StandsIn (switch_at n s (w / 2)) n.pool
  in_pool = record {
    outputs = λ v l. subst (λ (o : OutputState). o.queue < length n.pool.requests) (sym (output_is n.k n.c n.b n.r s (w / 2) t form v l))
        (queue_within n.k (suc s) (2 * (w / 2) + v) (length n.pool.requests) (omega arith) (out_on v l) is.all_requests);
    inputs = λ v l. subst (λ (u : SwitchState). input_of u.inputs v < length n.pool.replies) (sym form) (inp v l);
    apart = subst (λ (u : SwitchState). input_of u.inputs 0 ≡ input_of u.inputs 1 → ⊥) (sym form) differ;
  }
    where
      out_on : (v : ℕ) → v < 2 → 2 * (w / 2) + v < 2 ^ n.k
      out_on v l = let e = two_halves n.k s stage in let m = number in omega arith

      low : w / 2 < 2 ^ n.k
      low = let e = two_halves n.k s stage in let m = number in omega arith

      high : w / 2 + half n.k < 2 ^ n.k
      high = let e = two_halves n.k s stage in let m = number in omega arith

      some : 0 < half n.k
      some = let m = number in omega arith

      differ : place n.k s (w / 2) ≡ place n.k s (w / 2 + half n.k) → ⊥
      differ e = let l = some in omega arith

      inp : (v : ℕ) → v < 2 → input_of (place n.k s (w / 2) ∷ place n.k s (w / 2 + half n.k) ∷ []) v < length n.pool.replies
      inp zero l = queue_within n.k s (w / 2) (length n.pool.replies) (omega arith) low is.all_replies
      inp (suc zero) l = queue_within n.k s (w / 2 + half n.k) (length n.pool.replies) (omega arith) high is.all_replies
      inp (suc (suc v)) l = absurd (omega arith)

  -- The wire on which a reply goes on to its leader is a wire of the network.
  pub on_way : (p : ℕ) → wire_before n.k s w p < 2 ^ n.k
  unfolding wire_before
  on_way p = go (bit (bit_of_stage n.k s) p) (omega arith)
    where
      go : (v : ℕ) → v < 2 → (2 * (w / 2) + v) / 2 + ((2 * (w / 2) + v) % 2) * half n.k < 2 ^ n.k
      go zero l =
          let e = two_halves n.k s stage in
          let m = number in
          let a : (2 * (w / 2) + 0) / 2 ≡ w / 2 = omega arith in
          let d : (2 * (w / 2) + 0) % 2 ≡ 0 = omega arith in
          let f : ((2 * (w / 2) + 0) % 2) * half n.k ≡ 0 * half n.k = ap (λ r. r * half n.k) d in
          omega arith
      go (suc zero) l =
          let e = two_halves n.k s stage in
          let m = number in
          let a : (2 * (w / 2) + 1) / 2 ≡ w / 2 = omega arith in
          let d : (2 * (w / 2) + 1) % 2 ≡ 1 = omega arith in
          let f : ((2 * (w / 2) + 1) % 2) * half n.k ≡ 1 * half n.k = ap (λ r. r * half n.k) d in
          omega arith
      go (suc (suc v)) l = absurd (omega arith)

  -- The input for a processor has the queue of the wire before the stage on which replies go to the processor.
  pub input_is : (p : ℕ) → input_for (switch_at n s (w / 2)).its_bit (switch_at n s (w / 2)).inputs p ≡ place n.k s (wire_before n.k s w p)
  unfolding wire_before
  input_is p =
      ap (λ (u : SwitchState). input_for u.its_bit u.inputs p) form ∙ go (bit (bit_of_stage n.k s) p) (omega arith)
    where
      go : (v : ℕ) → v < 2 → get_or (place n.k s (w / 2) ∷ place n.k s (w / 2 + half n.k) ∷ []) v 0
          ≡ place n.k s ((2 * (w / 2) + v) / 2 + ((2 * (w / 2) + v) % 2) * half n.k)
      go zero l =
          let a : (2 * (w / 2) + 0) / 2 ≡ w / 2 = omega arith in
          let d : (2 * (w / 2) + 0) % 2 ≡ 0 = omega arith in
          let f : ((2 * (w / 2) + 0) % 2) * half n.k ≡ 0 * half n.k = ap (λ r. r * half n.k) d in
          let g : w / 2 ≡ (2 * (w / 2) + 0) / 2 + ((2 * (w / 2) + 0) % 2) * half n.k = omega arith in
          ap (place n.k s) g
      go (suc zero) l =
          let a : (2 * (w / 2) + 1) / 2 ≡ w / 2 = omega arith in
          let d : (2 * (w / 2) + 1) % 2 ≡ 1 = omega arith in
          let f : ((2 * (w / 2) + 1) % 2) * half n.k ≡ 1 * half n.k = ap (λ r. r * half n.k) d in
          let g : w / 2 + half n.k ≡ (2 * (w / 2) + 1) / 2 + ((2 * (w / 2) + 1) % 2) * half n.k = omega arith in
          ap (place n.k s) g
      go (suc (suc v)) l = absurd (omega arith)
