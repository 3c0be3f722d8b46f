-- The switches of a new network, which has no messages and no records.
use Rattle.std.proofs.Common.{◌≡◌, ℕ, ◌+◌, ◌*◌, ◌/◌, ◌^◌, ◌<◌, ◌≤◌, List, [], ◌∷◌, ◌++◌, length, Some}
use Rattle.std.proofs.Common.{◌⊎◌, inl, inr, refl, sym, ap, ◌∙◌, subst, arith, length-append}
use Rattle.std.specs.Prelude.{All, IsNone, slice_get}
use Rattle.std.proofs.lemmas.Bool.{cases_lt}
use Rattle.std.proofs.lemmas.Nat.{div-mul-add}
use Rattle.std.proofs.lemmas.Option.{get_or_from_slice_get}
use Rattle.omega_wires.specs.Wires.{bit_of_stage}
use Rattle.ring_network.specs.Switches.{IsEmptySwitch, SwitchLists, empty_switch}
use Rattle.messages.specs.Network.{IsEmptyNet}
use Rattle.omega_network.specs.Networks.{half}
use Rattle.ring_network.specs.Networks.{IsNetwork, IsSwitchOf, NetworkLists, net_of, switch_at}
use Rattle.ring_network.specs.Changes.{AreNew}
use Rattle.ring_network.proofs.Kept.{empty_is}
use Rattle.omega_network.proofs.Lemmas.{get_last, get_left, place_within}
use Rattle.ring_network.proofs.Empty.{empty_net}

-- The switches are the first `count` of a new network.
pub record SoFar (k c b r count : ℕ) (switches : List SwitchLists) : Type 0 where
  -- There are `count` switches.
  pub all : length switches ≡ count
  -- Each is an empty switch with the bit of its stage.
  pub each : (place : ℕ) → place < length switches → slice_get switches place ≡ Some (empty_switch c b r (bit_of_stage k (place / half k)))

-- The empty list is the first 0 switches of a new network.
pub none_yet : (k c b r : ℕ) → SoFar k c b r 0 []
none_yet k c b r = record { all = refl; each = λ place l. absurd (omega arith) }

-- The first switches of a new network are one more if an empty switch of the stage is appended.
pub one_more : (k c b r stage number : ℕ) (switches : List SwitchLists) → number < half k → SoFar k c b r (stage * half k + number) switches
    → SoFar k c b r (stage * half k + (number + 1)) (switches ++ empty_switch c b r (bit_of_stage k stage) ∷ [])
one_more k c b r stage number switches within so_far = record {
  all = length-append switches (empty_switch c b r (bit_of_stage k stage) ∷ []) ∙ (let all = so_far.all in omega arith);
  each = λ place l. go place l (cases_lt place (length switches));
}
  where
    last : (stage * half k + number) / half k ≡ stage
    last = div-mul-add stage (half k) number within

    go : (place : ℕ) → place < length (switches ++ empty_switch c b r (bit_of_stage k stage) ∷ []) → (place < length switches) ⊎ (length switches ≤ place)
        → slice_get (switches ++ empty_switch c b r (bit_of_stage k stage) ∷ []) place ≡ Some (empty_switch c b r (bit_of_stage k (place / half k)))
    go place l (inl before) = get_left switches (empty_switch c b r (bit_of_stage k stage) ∷ []) place before ∙ so_far.each place before
    go place l (inr past) =
        let longer = length-append switches (empty_switch c b r (bit_of_stage k stage) ∷ []) in
        let here : place ≡ length switches = omega arith in
        let stage_is : place / half k ≡ stage = ap (λ p. p / half k) (here ∙ so_far.all) ∙ last in
        ap (slice_get (switches ++ empty_switch c b r (bit_of_stage k stage) ∷ [])) here ∙ get_last switches (empty_switch c b r (bit_of_stage k stage))
        ∙ ap (λ s. Some (empty_switch c b r (bit_of_stage k s))) (sym stage_is)

-- If each switch of a stage is there, the first switches are those of one more stage.
pub stage_done : (k c b r stage : ℕ) (switches : List SwitchLists) → SoFar k c b r (stage * half k + half k) switches →
    SoFar k c b r ((stage + 1) * half k) switches
stage_done k c b r stage switches so_far = record { all = so_far.all ∙ omega arith; each = so_far.each }

-- If the switches of all stages are there, they are those of a new network.
pub all_done : (k c b r count : ℕ) (switches : List SwitchLists) → count ≡ k * half k → SoFar k c b r count switches → AreNew k c b r switches
all_done k c b r count switches e so_far = record { all = so_far.all ∙ e; each = so_far.each }

-- ---- a network of them

module _ (n : NetworkLists) (new : AreNew n.k n.c n.b n.r n.switches) where
  is_new : (s i : ℕ) → s < n.k → i < half n.k → switch_at n s i ≡ empty_switch n.c n.b n.r (bit_of_stage n.k s)
  is_new s i l m =
      get_or_from_slice_get n.switches (s * half n.k + i) _ (empty_switch 0 0 0 0)
      (new.each (s * half n.k + i) (place_within n.k s i (length n.switches) l m new.all))
      ∙ ap (λ t. empty_switch n.c n.b n.r (bit_of_stage n.k t)) (div-mul-add s (half n.k) i m)

  -- Lists of up to six stages with new switches and a slot for each processor and module are those of a network.
  pub new_network : n.k ≤ 6 → length n.slots ≡ 2 ^ n.k → length n.module_slots ≡ 2 ^ n.k → IsNetwork n
  new_network few slots module_slots = record {
    few = few;
    all_slots = slots;
    all_module_slots = module_slots;
    all_switches = new.all;
    each_switch =
        λ s i l m. subst (λ (t : SwitchLists). IsSwitchOf n.c n.b n.r (bit_of_stage n.k s) t) (sym (is_new s i l m))
        (empty_is n.c n.b n.r (bit_of_stage n.k s));
  }

  switches_are_empty : All IsEmptySwitch n.switches
  switches_are_empty place d l =
      subst IsEmptySwitch (sym (get_or_from_slice_get n.switches place _ d (new.each place l))) ((refl, refl), (refl, refl), refl, refl)

  -- A network with new switches and without a message in its slots is empty.
  pub new_empty : All IsNone n.slots → All IsNone n.module_slots → IsEmptyNet (net_of n)
  new_empty slots module_slots = empty_net n slots switches_are_empty module_slots
