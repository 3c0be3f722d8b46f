-- Distances.
use Rattle.std.proofs.Common.{◌≡◌, ℕ, zero, suc, ◌+◌, ◌*◌, ◌<◌, ◌≤◌, ◌⊎◌, inl, inr, sym, ap, ◌∙◌, subst, arith}
use Rattle.std.proofs.lemmas.Bool.{cases_eq}
use Rattle.network_theory.specs.messages.Network.{Net}
use Rattle.network_theory.specs.Roles.{Role, Idle, Asking, Waiting, Replying, Placed}
use Rattle.serialization.specs.Steadiness.{Distance, asks, tells, waits, Far, idle, asking, replying, waiting, total}

far_idle : (k : ℕ) (role : ℕ → Role) (p n : ℕ) → Far k role p n → role p ≡ Idle → n ≡ 0
far_idle k role p n (idle _ _ e f) r = f
far_idle k role p n (asking _ _ d e f) r = let c = sym e ∙ r in cc
far_idle k role p n (replying _ _ d e f) r = let c = sym e ∙ r in cc
far_idle k role p n (waiting _ _ s b e f) r = let c = sym e ∙ r in cc

-- The distance of a processor whose request is at depth d is 2 k + 2 - d.
pub far_asking : (k : ℕ) (role : ℕ → Role) (p n d : ℕ) → Far k role p n → role p ≡ Asking d → n + d ≡ 2 * k + 2
far_asking k role p n d (idle _ _ e f) r = let c = sym e ∙ r in cc
far_asking k role p n d (asking _ _ i e f) r = let c : i ≡ d = (let g = sym e ∙ r in cc) in subst (λ j. n + j ≡ 2 * k + 2) c f
far_asking k role p n d (replying _ _ i e f) r = let c = sym e ∙ r in cc
far_asking k role p n d (waiting _ _ s b e f) r = let c = sym e ∙ r in cc

-- The distance of a processor whose reply is at depth d is d + 1.
pub far_replying : (k : ℕ) (role : ℕ → Role) (p n d : ℕ) → Far k role p n → role p ≡ Replying d → n ≡ suc d
far_replying k role p n d (idle _ _ e f) r = let c = sym e ∙ r in cc
far_replying k role p n d (asking _ _ i e f) r = let c = sym e ∙ r in cc
far_replying k role p n d (replying _ _ i e f) r = let c : i ≡ d = (let g = sym e ∙ r in cc) in f ∙ ap suc c
far_replying k role p n d (waiting _ _ s b e f) r = let c = sym e ∙ r in cc

-- The distance of a processor that waits for a leader is the leader's.
pub far_waiting : (k : ℕ) (role : ℕ → Role) (p n s b : ℕ) → Far k role p n → role p ≡ Waiting s b → Far k role b n
far_waiting k role p n s b (idle _ _ e f) r = let c = sym e ∙ r in cc
far_waiting k role p n s b (asking _ _ i e f) r = let c = sym e ∙ r in cc
far_waiting k role p n s b (replying _ _ i e f) r = let c = sym e ∙ r in cc
far_waiting k role p n s b (waiting _ _ t a e f) r = let c : a ≡ b = (let g = sym e ∙ r in cc) in subst (λ j. Far k role j n) c f

-- A processor has at most one distance.
pub far_unique : (k : ℕ) (role : ℕ → Role) (p n m : ℕ) → Far k role p n → Far k role p m → n ≡ m
far_unique k role p n m (idle _ _ e f) g = f ∙ sym (far_idle k role p m g e)
far_unique k role p n m (asking _ _ d e f) g = let h = far_asking k role p m d g e in omega arith
far_unique k role p n m (replying _ _ d e f) g = f ∙ sym (far_replying k role p m d g e)
far_unique k role p n m (waiting _ _ s b e f) g = far_unique k role b n m f (far_waiting k role p m s b g e)

-- If each role stays or gets nearer, no distance grows.
pub far_lower : (k : ℕ) (role role' : ℕ → Role) → ((q : ℕ) → (role' q ≡ role q) ⊎ ((i : ℕ) → Far k role q i → (j : ℕ) × Far k role' q j × (j ≤ i)))
    → (q i : ℕ) → Far k role q i → (j : ℕ) × Far k role' q j × (j ≤ i)
far_lower k role role' each q i (idle _ _ e f) = elim (each q) [ inl s ↦ (i, idle q i (s ∙ e) f, omega arith) | inr h ↦ h i (idle q i e f) ]
far_lower k role role' each q i (asking _ _ d e f) = elim (each q) [ inl s ↦ (i, asking q i d (s ∙ e) f, omega arith) | inr h ↦ h i (asking q i d e f) ]
far_lower k role role' each q i (replying _ _ d e f) = elim (each q) [ inl s ↦ (i, replying q i d (s ∙ e) f, omega arith) | inr h ↦ h i (replying q i d e f) ]
far_lower k role role' each q i (waiting _ _ s b e f) = elim (each q) [
  | inl same ↦ (let h = far_lower k role role' each b i f in (h.0, waiting q h.0 s b (same ∙ e) h.1, h.2))
  | inr h ↦ h i (waiting q i s b e f)
]

total_le : (f g : ℕ → ℕ) (n : ℕ) → ((i : ℕ) → i < n → g i ≤ f i) → total g n ≤ total f n
unfolding total
total_le f g zero h = omega arith
total_le f g (suc n) h = let a = total_le f g n (λ i l. h i (omega arith)) in let b = h n (omega arith) in omega arith

-- A sum is less than another if none of its terms is greater and one is less.
pub total_lt : (f g : ℕ → ℕ) (n p : ℕ) → ((i : ℕ) → i < n → g i ≤ f i) → p < n → g p < f p → total g n < total f n
unfolding total
total_lt f g zero p h l s = absurd (omega arith)
total_lt f g (suc n) p h l s = elim (cases_eq p n) [
  | inl e ↦ (let a = total_le f g n (λ i m. h i (omega arith)) in let b : g n < f n = subst (λ j. g j < f j) e s in omega arith)
  | inr ne ↦ (let a = total_lt f g n p (λ i m. h i (omega arith)) (omega arith) s in let b = h n (omega arith) in omega arith)
]

-- A sum of n terms of at most b each is at most n * b.
pub total_bound : (f : ℕ → ℕ) (n b : ℕ) → ((i : ℕ) → i < n → f i ≤ b) → total f n ≤ n * b
unfolding total
total_bound f zero b h = omega arith
total_bound f (suc n) b h = let a = total_bound f n b (λ i l. h i (omega arith)) in let c = h n (omega arith) in omega arith

-- A distance by the messages and records is also the distance by the roles.
pub far_distance : (k : ℕ) (path : ℕ → ℕ → ℕ) (role : ℕ → Role) (net : Net) → Placed k path role net → (p n : ℕ) → Distance k net p n → Far k role p n
far_distance k path role net ok p n (asks _ _ d w x m e f) = asking p n d (ap role (sym e) ∙ (ok.requests d w x m).asks) f
far_distance k path role net ok p n (tells _ _ d w x m e f) = replying p n d (ap role (sym e) ∙ (ok.replies d w x m).replying) f
far_distance k path role net ok p n (waits _ _ s w x m e h) =
    waiting p n s x.leader (ap role (sym e) ∙ (ok.records s w x m).waits) (far_distance k path role net ok x.leader n h)
