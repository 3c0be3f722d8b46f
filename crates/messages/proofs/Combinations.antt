-- The entry with which a request combines, by its place, as a loop over the queue finds it.
use Rattle.std.proofs.Common.{◌≡◌, ℕ, zero, suc, ◌<◌, set, List, [], ◌∷◌, length, Option, Some, None}
use Rattle.std.proofs.Common.{refl, sym, ap, ◌∙◌, arith, Bool, true, false, ◌&&◌, nat_lt, ltb-true}
use Rattle.std.specs.Prelude.{slice_get, ◌==◌, if◌then◌else◌}
use Rattle.phi_algebra.specs.declared.phi.Phi.{Phi}
use Rattle.phi_algebra.specs.Composition.{composed}
use Rattle.messages.specs.declared.message.Request.{Request}
use Rattle.messages.specs.Queues.{Combination, with_front, combined_in, joint, merged, record_of}

-- the combination with the first entry, or with a later one
abbrev with_first : ℕ → (x e : Request) → List Request → Option Phi → Option Combination
with_first r x e es (Some phi) = Some (record { queue = merged e phi ∷ es; made = record_of x e })
with_first r x e es None = with_front e (combined_in r x es)

first_is : (r : ℕ) (x e : Request) (es : List Request) → combined_in r x (e ∷ es) ≡ with_first r x e es (joint r x e)
unfolding combined_in
first_is r x e es = refl

-- No entry before place i combines with the request.
abbrev pub NoneBefore : ℕ → Request → List Request → ℕ → Type 0
NoneBefore r x queue i = (j : ℕ) (e : Request) → j < i → slice_get queue j ≡ Some e → joint r x e ≡ None

-- A request is combined with an entry of a queue if it combines with it, and with no entry before it.
pub combined_at : (r : ℕ) (x : Request) (queue : List Request) (i : ℕ) (e : Request) (phi : Phi) → slice_get queue i ≡ Some e → NoneBefore r x queue i →
    joint r x e ≡ Some phi
    → combined_in r x queue ≡ Some (record { queue = set queue i (merged e phi); made = record_of x e })
combined_at r x [] i e phi at before is = cc
combined_at r x (d ∷ ds) zero e phi at before is =
    let same : d ≡ e = cc in
    first_is r x d ds ∙ ap (with_first r x d ds) (ap (joint r x) same ∙ is)
    ∙ ap (λ (y : Request). Some (record { queue = merged y phi ∷ ds; made = record_of x y })) same
    ∙ refl
combined_at r x (d ∷ ds) (suc i) e phi at before is =
    first_is r x d ds ∙ ap (with_first r x d ds) (before 0 d (omega arith) refl)
    ∙ ap (with_front d) (combined_at r x ds i e phi at (λ j y below there. before (suc j) y (omega arith) there) is)

-- A request that combines with no entry of a queue is not combined.
pub combined_nowhere : (r : ℕ) (x : Request) (queue : List Request) → NoneBefore r x queue (length queue) → combined_in r x queue ≡ None
unfolding combined_in
combined_nowhere r x [] before = refl
combined_nowhere r x (d ∷ ds) before =
    first_is r x d ds ∙ ap (with_first r x d ds) (before 0 d (omega arith) refl)
    ∙ ap (with_front d) (combined_nowhere r x ds (λ j y below there. before (suc j) y (omega arith) there))

-- An entry with which a request combines was combined fewer than r times.
pub joint_fewer : (r : ℕ) (x e : Request) (phi : Phi) → joint r x e ≡ Some phi → e.marks < r
unfolding joint
joint_fewer r x e phi is = go (nat_lt e.marks r) refl is
  where
    go : (b : Bool) → nat_lt e.marks r ≡ b → (if (nat_lt e.marks r && (e.word == x.word)) then composed e.phi x.phi else None) ≡ Some phi → e.marks < r
    go true is f = ltb-true e.marks r is
    go false is f = let g : None ≡ Some phi = sym (ap (λ b. if (b && (e.word == x.word)) then composed e.phi x.phi else None) is) ∙ f in cc
