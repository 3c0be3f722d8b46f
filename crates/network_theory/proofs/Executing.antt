-- A group executed one after another.
use Rattle.std.proofs.Common.{◌≡◌, ℕ, List, [], ◌∷◌, ◌⊎◌, inl, inr, Some, refl, sym, ap, ◌∙◌, subst}
use Rattle.std.proofs.lemmas.Bool.{cases_eq}
use Rattle.messages.specs.phi_algebra.declared.phi.Phi.{Phi}
use Rattle.messages.specs.Places.{put, In, Distinct}
use Rattle.messages.specs.Queues.{applied}
use Rattle.network_theory.specs.Giving.{finds, leaves}
use Rattle.network_theory.specs.Meaning.{Executed, execute, execute_all}
use Rattle.messages.proofs.Lemmas.{put_other, put_same}

put_put : {X : Type 0} (f : ℕ → X) (a : ℕ) (x y : X) (i : ℕ) → put (put f a x) a y i ≡ put f a y i
put_put {X} f a x y i = go (cases_eq i a)
  where
    go : (i ≡ a) ⊎ (i ≡ a → ⊥) → put (put f a x) a y i ≡ put f a y i
    go (inl e) = ap (put (put f a x) a y) e ∙ put_same (put f a x) a y ∙ sym (put_same f a y) ∙ ap (put f a y) (sym e)
    go (inr n) = put_other (put f a x) a y i n ∙ put_other f a x i n ∙ sym (put_other f a y i n)

put_itself : {X : Type 0} (f : ℕ → X) (a : ℕ) (i : ℕ) → put f a (f a) i ≡ f i
put_itself {X} f a i = go (cases_eq i a)
  where
    go : (i ≡ a) ⊎ (i ≡ a → ⊥) → put f a (f a) i ≡ f i
    go (inl e) = ap (put f a (f a)) e ∙ put_same f a (f a) ∙ ap f (sym e)
    go (inr n) = put_other f a (f a) i n

-- Two functions that agree everywhere still agree after both get the same value at the same place.
pub put_agree : {X : Type 0} (f g : ℕ → X) (a : ℕ) (x : X) (i : ℕ) → ((j : ℕ) → f j ≡ g j) → put f a x i ≡ put g a x i
put_agree {X} f g a x i h = go (cases_eq i a)
  where
    go : (i ≡ a) ⊎ (i ≡ a → ⊥) → put f a x i ≡ put g a x i
    go (inl e) = ap (put f a x) e ∙ put_same f a x ∙ sym (put_same g a x) ∙ ap (put g a x) (sym e)
    go (inr n) = put_other f a x i n ∙ h i ∙ sym (put_other g a x i n)

-- If a group refers to one word, executing it changes that word alone, to what the group leaves.
pub executed_mem : (own : ℕ → Phi) (word : ℕ → ℕ) (f : Executed) (js : List ℕ) (a : ℕ) → ((j : ℕ) → In j js → word j ≡ a) → (i : ℕ)
    → (execute_all own word f js).mem i ≡ put f.mem a (leaves own js (f.mem a)) i
unfolding execute_all leaves
executed_mem own word f [] a h i = sym (put_itself f.mem a i)
executed_mem own word f (j ∷ js) a h i =
    let e : word j ≡ a = h j (inl refl) in
    executed_mem own word (execute own word f j) js a (λ l m. h l (inr m)) i
    ∙ ap (λ v. put (put f.mem v (applied (own j) (f.mem v))) a (leaves own js (put f.mem v (applied (own j) (f.mem v)) a)) i) e
    ∙ put_put f.mem a (applied (own j) (f.mem a)) (leaves own js (put f.mem a (applied (own j) (f.mem a)) a)) i
    ∙ ap (λ v. put f.mem a (leaves own js v) i) (put_same f.mem a (applied (own j) (f.mem a)))

-- A processor that is not in the group is owed what it was owed before.
pub executed_other : (own : ℕ → Phi) (word : ℕ → ℕ) (f : Executed) (js : List ℕ) (i : ℕ) → (In i js → ⊥) → (execute_all own word f js).owed i ≡ f.owed i
unfolding execute_all
executed_other own word f [] i n = refl
executed_other own word f (j ∷ js) i n = executed_other own word (execute own word f j) js i (λ m. n (inr m))
    ∙ put_other f.owed j (Some (f.mem (word j))) i (λ e. n (inl e))

-- Each processor of the group is owed what it found.
pub executed_owed : (own : ℕ → Phi) (word : ℕ → ℕ) (f : Executed) (js : List ℕ) (a : ℕ) → ((j : ℕ) → In j js → word j ≡ a) → Distinct js
    → (m : ℕ × ℕ) → In m (finds own js (f.mem a)) → (execute_all own word f js).owed m.0 ≡ Some m.1
unfolding execute_all finds
executed_owed own word f [] a h d m i = elim i [ ]
executed_owed own word f (j ∷ js) a h d m (inl e) =
    let w : word j ≡ a = h j (inl refl) in
    ap (λ (x : ℕ × ℕ). (execute_all own word (execute own word f j) js).owed x.0) e
    ∙ executed_other own word (execute own word f j) js j d.0
    ∙ put_same f.owed j (Some (f.mem (word j)))
    ∙ ap (λ v. Some (f.mem v)) w
    ∙ ap (λ (x : ℕ × ℕ). Some x.1) (sym e)
executed_owed own word f (j ∷ js) a h d m (inr i) =
    let w : word j ≡ a = h j (inl refl) in
    let found : (execute own word f j).mem a ≡ applied (own j) (f.mem a) = ap (λ v. put f.mem v (applied (own j) (f.mem v)) a) w
    ∙ put_same f.mem a (applied (own j) (f.mem a)) in
    executed_owed own word (execute own word f j) js a (λ l n. h l (inr n)) d.1 m (subst (λ v. In m (finds own js v)) (sym found) i)
