-- The greatest status of the first processors, and of the first results.
use Rattle.std.proofs.Common.{◌≡◌, ◌⊎◌, inl, inr, ℕ, ◌+◌, ◌<◌, ◌≤◌, zero, suc, cond, List, [], ◌∷◌, ◌++◌}
use Rattle.std.proofs.Common.{Option, Some, None, length, take, refl, sym, ap, subst, ◌∙◌, arith}
use Rattle.std.specs.Prelude.{Contains, slice_index_or}
use Rattle.std.proofs.lemmas.Bool.{cases_lt, lt-ltb, le-ltb}
use Rattle.std.proofs.lemmas.List.Elements.{Contains-append_left, Contains-push, Contains-push_cases}
use Rattle.flat_machine.specs.declared.event.Status.{Status}
use Rattle.exploration.specs.local_reduction.Results.{FinalResult, ProcessorResult}
use Rattle.explore_command.specs.Sizes.{rank_of_status, greater, HasStatusWith, IsGreatestWith, HasStatus, IsGreatestStatus}

-- One more element is taken.
pub taken_more : {X : Type 0} (xs : List X) (k : ℕ) (d : X) → k < length xs → take (k + 1) xs ≡ take k xs ++ slice_index_or xs k d ∷ []
taken_more [] k d l = absurd (omega (arith, l))
taken_more (x ∷ xs) zero d l = refl
taken_more {X} (x ∷ xs) (suc k) d l =
    let next : suc k + 1 ≡ suc (k + 1) = omega arith in
    ap (λ n. take n (x ∷ xs)) next ∙ ap (λ (ys : List X). x ∷ ys) (taken_more xs k d (omega (arith, l)))

-- The status has the property, and none that has it is greater; or none has it.
abbrev IsTop : (Status → Type 0) → Option Status → Type 0
IsTop Has None = (s : Status) → Has s → ⊥
IsTop Has (Some g) = Has g × ((s : Status) → Has s → rank_of_status s ≤ rank_of_status g)

-- The greatest status, and one more: the greater of the two is the greatest of all.
top_more : (Has : Status → Type 0) (o : Option Status) (t : Status) → IsTop Has o →
    (Has (greater o t) ⊎ (t ≡ greater o t)) × ((s : Status) → Has s ⊎ (t ≡ s) → rank_of_status s ≤ rank_of_status (greater o t))
top_more Has None t none = (inr refl, λ s h. by s h)
  where
    by : (s : Status) → Has s ⊎ (t ≡ s) → rank_of_status s ≤ rank_of_status t
    by s (inl h) = absurd (none s h)
    by s (inr same) = let e : rank_of_status t ≡ rank_of_status s = ap rank_of_status same in omega (arith, e)
top_more Has (Some g) t top = by (cases_lt (rank_of_status t) (rank_of_status g))
  where
    by : (rank_of_status t < rank_of_status g) ⊎ (rank_of_status g ≤ rank_of_status t) →
        (Has (greater (Some g) t) ⊎ (t ≡ greater (Some g) t))
        × ((s : Status) → Has s ⊎ (t ≡ s) → rank_of_status s ≤ rank_of_status (greater (Some g) t))
    by (inl less) =
        let is : greater (Some g) t ≡ g = ap (λ b. cond b g t) (lt-ltb (rank_of_status t) (rank_of_status g) less) in
        subst (λ r. (Has r ⊎ (t ≡ r)) × ((s : Status) → Has s ⊎ (t ≡ s) → rank_of_status s ≤ rank_of_status r)) (sym is)
        (inl top.0, λ s h. below s h)
      where
        below : (s : Status) → Has s ⊎ (t ≡ s) → rank_of_status s ≤ rank_of_status g
        below s (inl h) = top.1 s h
        below s (inr same) = let e : rank_of_status t ≡ rank_of_status s = ap rank_of_status same in omega (arith, e, less)
    by (inr past) =
        let is : greater (Some g) t ≡ t = ap (λ b. cond b g t) (le-ltb (rank_of_status t) (rank_of_status g) past) in
        subst (λ r. (Has r ⊎ (t ≡ r)) × ((s : Status) → Has s ⊎ (t ≡ s) → rank_of_status s ≤ rank_of_status r)) (sym is)
        (inr refl, λ s h. below s h)
      where
        below : (s : Status) → Has s ⊎ (t ≡ s) → rank_of_status s ≤ rank_of_status t
        below s (inl h) = let e = top.1 s h in omega (arith, e, past)
        below s (inr same) = let e : rank_of_status t ≡ rank_of_status s = ap rank_of_status same in omega (arith, e)

-- Two properties that the same statuses have share the greatest status.
top_same : (Has Had : Status → Type 0) (o : Option Status) → ((s : Status) → Has s → Had s) → ((s : Status) → Had s → Has s) → IsTop Has o → IsTop Had o
top_same Has Had None to from none = λ s h. none s (from s h)
top_same Has Had (Some g) to from top = (to g top.0, λ s h. top.1 s (from s h))

-- ---- processors

nothing_in : {X : Type 0} (x : X) → Contains [] x → ⊥
nothing_in x h = let l = h.1 in omega (arith, l)

-- With no processor, the greatest status is the start.
pub of_none : (start : Option Status) → IsGreatestWith start [] start
of_none None = λ s h. by s h
  where
    by : (s : Status) → HasStatusWith None [] s → ⊥
    by s (inl e) = cc
    by s (inr h) = nothing_in h.0 h.1
of_none (Some g) = (inl refl, λ s h. by s h)
  where
    by : (s : Status) → HasStatusWith (Some g) [] s → rank_of_status s ≤ rank_of_status g
    by s (inl e) = let same : g ≡ s = cc in let f : rank_of_status g ≡ rank_of_status s = ap rank_of_status same in omega (arith, f)
    by s (inr h) = absurd (nothing_in h.0 h.1)

-- With one more processor, the greatest status is the greater of its status and the greatest before.
pub of_more : (start : Option Status) (ps : List ProcessorResult) (p : ProcessorResult) (o : Option Status) → IsGreatestWith start ps o →
    IsGreatestWith start (ps ++ p ∷ []) (Some (greater o p.status))
of_more start ps p o h =
    let top = top_more (HasStatusWith start ps) o p.status (as_top o h) in
    let now = top_same (λ s. HasStatusWith start ps s ⊎ (p.status ≡ s)) (HasStatusWith start (ps ++ p ∷ [])) (Some (greater o p.status))
    (λ s x. to s x) (λ s x. from s x) top in
    now
  where
    as_top : (o : Option Status) → IsGreatestWith start ps o → IsTop (HasStatusWith start ps) o
    as_top None h = h
    as_top (Some g) h = h

    to : (s : Status) → HasStatusWith start ps s ⊎ (p.status ≡ s) → HasStatusWith start (ps ++ p ∷ []) s
    to s (inl (inl e)) = inl e
    to s (inl (inr x)) = inr (x.0, Contains-append_left ps (p ∷ []) x.0 x.1, x.2)
    to s (inr e) = inr (p, Contains-push ps p, e)

    from : (s : Status) → HasStatusWith start (ps ++ p ∷ []) s → HasStatusWith start ps s ⊎ (p.status ≡ s)
    from s (inl e) = inl (inl e)
    from s (inr x) = by (Contains-push_cases ps p x.0 x.1)
      where
        by : Contains ps x.0 ⊎ (p ≡ x.0) → HasStatusWith start ps s ⊎ (p.status ≡ s)
        by (inl inside) = inl (inr (x.0, inside, x.2))
        by (inr same) = inr (ap (λ (q : ProcessorResult). q.status) same ∙ x.2)

-- ---- results

abbrev HasIn : FinalResult → Status → Type 0
HasIn r s = (p : ProcessorResult) × Contains r.processors p × (p.status ≡ s)

split : (rs : List FinalResult) (r : FinalResult) (s : Status) → HasStatus (rs ++ r ∷ []) s → HasStatus rs s ⊎ HasIn r s
split rs r s x = by (Contains-push_cases rs r x.0 x.2)
  where
    by : Contains rs x.0 ⊎ (r ≡ x.0) → HasStatus rs s ⊎ HasIn r s
    by (inl inside) = inl (x.0, x.1, inside, x.3, x.4)
    by (inr same) = inr (x.1, subst (λ (q : FinalResult). Contains q.processors x.1) (sym same) x.3, x.4)

in_first : (rs : List FinalResult) (r : FinalResult) (s : Status) → HasStatus rs s → HasStatus (rs ++ r ∷ []) s
in_first rs r s x = (x.0, x.1, Contains-append_left rs (r ∷ []) x.0 x.2, x.3, x.4)

in_last : (rs : List FinalResult) (r : FinalResult) (s : Status) → HasIn r s → HasStatus (rs ++ r ∷ []) s
in_last rs r s x = (r, x.0, Contains-push rs r, x.1, x.2)

-- With one more result, the greatest status is that of its processors, started from the greatest before.
pub of_result : (rs : List FinalResult) (r : FinalResult) (o new : Option Status) → IsGreatestStatus rs o →
    IsGreatestWith o r.processors new → IsGreatestStatus (rs ++ r ∷ []) new
of_result rs r None None h w = λ s x. by s (split rs r s x)
  where
    by : (s : Status) → HasStatus rs s ⊎ HasIn r s → ⊥
    by s (inl x) = h s x
    by s (inr x) = w s (inr x)
of_result rs r (Some g) None h w = absurd (w g (inl refl))
of_result rs r None (Some n) h w = (has w.0, λ s x. below s (split rs r s x))
  where
    has : HasStatusWith None r.processors n → HasStatus (rs ++ r ∷ []) n
    has (inl e) = absurd (cc)
    has (inr x) = in_last rs r n x

    below : (s : Status) → HasStatus rs s ⊎ HasIn r s → rank_of_status s ≤ rank_of_status n
    below s (inl x) = absurd (h s x)
    below s (inr x) = w.1 s (inr x)
of_result rs r (Some g) (Some n) h w = (has w.0, λ s x. below s (split rs r s x))
  where
    has : HasStatusWith (Some g) r.processors n → HasStatus (rs ++ r ∷ []) n
    has (inl e) = let same : g ≡ n = cc in in_first rs r n (subst (HasStatus rs) same h.0)
    has (inr x) = in_last rs r n x

    below : (s : Status) → HasStatus rs s ⊎ HasIn r s → rank_of_status s ≤ rank_of_status n
    below s (inl x) = let a = h.1 s x in let b = w.1 g (inl refl) in omega (arith, a, b)
    below s (inr x) = w.1 s (inr x)
