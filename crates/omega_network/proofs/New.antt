-- The switches of a new network, which has no messages and no records.
use Rattle.std.proofs.Common.{◌≡◌, ℕ, zero, suc, ◌+◌, ◌*◌, ◌/◌, ◌%◌, ◌^◌, ◌<◌, ◌≤◌, List, [], ◌∷◌, ◌++◌, length}
use Rattle.std.proofs.Common.{get_or, Some, ◌⊎◌, inl, inr, refl, sym, ap, ◌∙◌, subst, arith, length-append}
use Rattle.std.specs.Prelude.{All, replicate, slice_get}
use Rattle.std.proofs.lemmas.Bool.{cases_lt}
use Rattle.std.proofs.lemmas.List.{get_or-replicate, get_or_past, length-replicate}
use Rattle.std.proofs.lemmas.Nat.{div-mul-add, mod-mul-add}
use Rattle.std.proofs.lemmas.Option.{get_or_from_slice_get}
use Rattle.messages.specs.declared.message.Record.{Record}
use Rattle.messages.specs.declared.message.Reply.{Reply}
use Rattle.messages.specs.declared.message.Request.{Request}
use Rattle.messages.specs.Places.{ApartBy, In}
use Rattle.messages.specs.Network.{IsEmptyNet}
use Rattle.combining_switch.specs.Pools.{PoolLists, empty_pool, replies_at, requests_at}
use Rattle.combining_switch.specs.Switches.{SwitchState, records_at}
use Rattle.omega_network.specs.Networks.{AreNew, HasNoMessage, HasNoRecord, IsNetwork, NetworkLists, half, net_of}
use Rattle.omega_network.specs.Networks.{no_switch, records_after, second_of, switch_at, the_switch}
use Rattle.omega_network.proofs.Empty.{empty_net}
use Rattle.omega_network.proofs.Switches.{place_within}

-- The switches are the first `count` of a new network.
pub record SoFar (k c b r count : ℕ) (switches : List SwitchState) : Type 0 where
  -- There are `count` switches.
  pub all : length switches ≡ count
  -- Each is the switch of its number in its stage, without records.
  pub each : (i : ℕ) → i < length switches → slice_get switches i ≡ Some (the_switch k c b r (i / half k) (i % half k) [] [])

-- An element of a list has the same index if other elements are appended.
pub get_left : {X : Type 0} (xs ys : List X) (i : ℕ) → i < length xs → slice_get (xs ++ ys) i ≡ slice_get xs i
get_left [] ys i l = absurd (omega arith)
get_left (x ∷ xs) ys zero l = refl
get_left (x ∷ xs) ys (suc i) l = get_left xs ys i (omega arith)

-- An element that is appended to a list has the list's length as its index.
pub get_last : {X : Type 0} (xs : List X) (x : X) → slice_get (xs ++ x ∷ []) (length xs) ≡ Some x
get_last [] x = refl
get_last (y ∷ ys) x = get_last ys x

-- The empty list is the first 0 switches of a new network.
pub none_yet : (k c b r : ℕ) → SoFar k c b r 0 []
none_yet k c b r = record { all = refl; each = λ i l. absurd (omega arith) }

-- The first switches of a new network are one more if the next switch of the stage is appended.
pub one_more : (k c b r stage number : ℕ) (switches : List SwitchState) → number < half k → SoFar k c b r (stage * half k + number) switches
    → SoFar k c b r (stage * half k + (number + 1)) (switches ++ the_switch k c b r stage number [] [] ∷ [])
one_more k c b r stage number switches within so_far = record {
  all = length-append switches (the_switch k c b r stage number [] [] ∷ []) ∙ (let all = so_far.all in omega arith);
  each = λ i l. go i l (cases_lt i (length switches));
}
  where
    last : (stage * half k + number) / half k ≡ stage
    last = div-mul-add stage (half k) number within

    rest : (stage * half k + number) % half k ≡ number
    rest = mod-mul-add stage (half k) number within

    go : (i : ℕ) → i < length (switches ++ the_switch k c b r stage number [] [] ∷ []) → (i < length switches) ⊎ (length switches ≤ i)
        → slice_get (switches ++ the_switch k c b r stage number [] [] ∷ []) i ≡ Some (the_switch k c b r (i / half k) (i % half k) [] [])
    go i l (inl before) = get_left switches (the_switch k c b r stage number [] [] ∷ []) i before ∙ so_far.each i before
    go i l (inr past) =
        let longer = length-append switches (the_switch k c b r stage number [] [] ∷ []) in
        let here : i ≡ length switches = omega arith in
        let stage_is : i / half k ≡ stage = ap (λ p. p / half k) (here ∙ so_far.all) ∙ last in
        let number_is : i % half k ≡ number = ap (λ p. p % half k) (here ∙ so_far.all) ∙ rest in
        ap (slice_get (switches ++ the_switch k c b r stage number [] [] ∷ [])) here ∙ get_last switches (the_switch k c b r stage number [] [])
        ∙ (λ j. Some (the_switch k c b r (sym stage_is j) (sym number_is j) [] []))

-- If each switch of a stage is there, the first switches are those of one more stage.
pub stage_done : (k c b r stage : ℕ) (switches : List SwitchState) → SoFar k c b r (stage * half k + half k) switches →
    SoFar k c b r ((stage + 1) * half k) switches
stage_done k c b r stage switches so_far = record { all = so_far.all ∙ omega arith; each = so_far.each }

-- If the switches of all stages are there, they are those of a new network.
pub all_done : (k c b r count : ℕ) (switches : List SwitchState) → count ≡ k * half k → SoFar k c b r count switches → AreNew k c b r switches
all_done k c b r count switches e so_far = record { all = so_far.all ∙ e; each = so_far.each }

-- ---- a network of them

empty_at : {X : Type 0} (n q : ℕ) → get_or {A = List X} (replicate n []) q [] ≡ []
empty_at {X} n q = go (cases_lt q n)
  where
    go : (q < n) ⊎ (n ≤ q) → get_or {A = List X} (replicate n []) q [] ≡ []
    go (inl l) = get_or-replicate n q [] [] l
    go (inr past) = get_or_past (replicate n []) q [] (let all = length-replicate {A = List X} n [] in omega arith)

module _ (n : NetworkLists) (new : AreNew n.k n.c n.b n.r n.switches) (cells queues : ℕ) (pool : n.pool ≡ empty_pool cells queues queues) where
  no_message : HasNoMessage n.pool
  no_message q = subst (λ (p : PoolLists). (requests_at p q ≡ []) × (replies_at p q ≡ [])) (sym pool) (empty_at queues q, empty_at queues q)

  no_record : All HasNoRecord n.switches
  no_record i d l = subst HasNoRecord (sym (get_or_from_slice_get n.switches i _ d (new.each i l))) (refl, refl)

  -- A network with an empty pool and new switches is empty.
  pub new_empty : IsEmptyNet (net_of n)
  new_empty = empty_net n no_message no_record

  is_new : (s i : ℕ) → s < n.k → i < half n.k → switch_at n s i ≡ the_switch n.k n.c n.b n.r s i [] []
  is_new s i l m =
      get_or_from_slice_get n.switches (s * half n.k + i) _ no_switch
      (new.each (s * half n.k + i) (place_within n.k s i (length n.switches) l m new.all))
      ∙ (λ j. the_switch n.k n.c n.b n.r (div-mul-add s (half n.k) i m j) (mod-mul-add s (half n.k) i m j) [] [])

  -- Lists of up to six stages with an empty pool of their sizes and new switches are those of a network.
  pub new_network : n.k ≤ 6 → cells ≡ 2 ^ n.k → queues ≡ suc n.k * 2 ^ n.k → IsNetwork n
  new_network few cells_is queues_is = record {
    few = few;
    all_cells = ap (λ (p : PoolLists). p.cells) pool ∙ cells_is;
    all_requests = ap (λ (p : PoolLists). length p.requests) pool ∙ length-replicate {A = List Request} queues [] ∙ queues_is;
    all_replies = ap (λ (p : PoolLists). length p.replies) pool ∙ length-replicate {A = List Reply} queues [] ∙ queues_is;
    all_switches = new.all;
    each_switch = λ s i l m. subst (λ (t : SwitchState). t ≡ the_switch n.k n.c n.b n.r s i (records_at t 0) (records_at t 1)) (sym (is_new s i l m)) refl;
    seconds = record {
      cells = λ s w e m. absurd (none s w e m);
      free = λ s w e m. absurd (none s w e m);
      apart = λ s w. subst (ApartBy second_of) (sym ((new_empty s w).1)) tt;
      once = λ s w s' w' e f m o same. absurd (none s w e m);
    };
  }
    where
      none : (s w : ℕ) (e : Record) → In e (records_after n s w) → ⊥
      none s w e m = subst (In e) ((new_empty s w).1) m
