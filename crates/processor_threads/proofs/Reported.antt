-- Which fault is reported of a list that grows at its end, and that a cancel hides no fault.
use Rattle.std.proofs.Common.{◌≡◌, ℕ, zero, suc, ◌<◌, true, false, List, [], ◌∷◌, ◌++◌, length, cond, refl, sym, ap, ◌∙◌, subst, arith}
use Rattle.std.specs.Prelude.{Option, Some, None, Contains, filter_map, find, option_to_list, slice_get, slice_index_or}
use Rattle.std.specs.Option.{option_or}
use Rattle.std.proofs.lemmas.List.Elements.{filter_map-append}
use Rattle.std.proofs.lemmas.List.Folds.{find-append}
use Rattle.processor_threads.specs.declared.fault.RunFault.{RunFault}
use Rattle.processor_threads.specs.declared.fault.RunFault.TheVariants.{Memory, Full, Loan, Console, Budget, Start, Cancelled}
use Rattle.processor_threads.specs.Faults.{fault_of, is_of_host, is_own}

-- the faults that there are
abbrev there : List (Option RunFault) → List RunFault
there ends = filter_map (λ end. end) ends

-- which of these is reported
abbrev worst : List RunFault → Option RunFault
worst faults = option_or (find is_of_host faults) (option_or (find is_own faults) (slice_get faults 0))

-- ---- what is found

host_is : (faults : List RunFault) (x : RunFault) → find is_of_host faults ≡ Some x → is_of_host x ≡ true
host_is [] x e = absurd (cc)
host_is (Memory ∷ faults) x e = let same : Memory ≡ x = cc in subst (λ y. is_of_host y ≡ true) same refl
host_is (Console ∷ faults) x e = let same : Console ≡ x = cc in subst (λ y. is_of_host y ≡ true) same refl
host_is (Start ∷ faults) x e = let same : Start ≡ x = cc in subst (λ y. is_of_host y ≡ true) same refl
host_is (Full ∷ faults) x e = host_is faults x e
host_is (Loan ∷ faults) x e = host_is faults x e
host_is (Budget ∷ faults) x e = host_is faults x e
host_is (Cancelled ∷ faults) x e = host_is faults x e

own_is : (faults : List RunFault) (x : RunFault) → find is_of_host faults ≡ None → find is_own faults ≡ Some x → (is_of_host x ≡ false) × (is_own x ≡ true)
own_is [] x none e = absurd (cc)
own_is (Memory ∷ faults) x none e = absurd (cc)
own_is (Console ∷ faults) x none e = absurd (cc)
own_is (Start ∷ faults) x none e = absurd (cc)
own_is (Full ∷ faults) x none e = let same : Full ≡ x = cc in subst (λ y. (is_of_host y ≡ false) × (is_own y ≡ true)) same (refl, refl)
own_is (Loan ∷ faults) x none e = let same : Loan ≡ x = cc in subst (λ y. (is_of_host y ≡ false) × (is_own y ≡ true)) same (refl, refl)
own_is (Budget ∷ faults) x none e = let same : Budget ≡ x = cc in subst (λ y. (is_of_host y ≡ false) × (is_own y ≡ true)) same (refl, refl)
own_is (Cancelled ∷ faults) x none e = own_is faults x none e

first_is : (faults : List RunFault) (x : RunFault) → find is_own faults ≡ None → slice_get faults 0 ≡ Some x → x ≡ Cancelled
first_is [] x none e = absurd (cc)
first_is (Memory ∷ faults) x none e = absurd (cc)
first_is (Console ∷ faults) x none e = absurd (cc)
first_is (Start ∷ faults) x none e = absurd (cc)
first_is (Full ∷ faults) x none e = absurd (cc)
first_is (Loan ∷ faults) x none e = absurd (cc)
first_is (Budget ∷ faults) x none e = absurd (cc)
first_is (Cancelled ∷ faults) x none e = cc

-- ---- more faults

first_more : (faults more : List RunFault) → slice_get (faults ++ more) 0 ≡ option_or (slice_get faults 0) (slice_get more 0)
first_more [] more = refl
first_more (x ∷ faults) more = refl

by_parts : (more : List RunFault) (host own first : Option RunFault) → ((x : RunFault) → host ≡ Some x → is_of_host x ≡ true)
    → ((x : RunFault) → host ≡ None → own ≡ Some x → (is_of_host x ≡ false) × (is_own x ≡ true))
    → ((x : RunFault) → own ≡ None → first ≡ Some x → x ≡ Cancelled)
    → option_or (option_or host (find is_of_host more)) (option_or (option_or own (find is_own more)) (option_or first (slice_get more 0)))
    ≡ worst (option_to_list (option_or host (option_or own first)) ++ more)
by_parts more (Some x) own first h o f =
    sym (ap (λ b. option_or (cond b (Some x) (find is_of_host more)) (option_or (cond (is_own x) (Some x) (find is_own more)) (Some x))) (h x refl))
by_parts more None (Some x) first h o f =
    let is = o x refl refl in
    λ i. option_or (cond (sym is.0 i) (Some x) (find is_of_host more)) (option_or (cond (sym is.1 i) (Some x) (find is_own more)) (Some x))
by_parts more None None (Some x) h o f =
    subst (λ y. option_or (find is_of_host more) (option_or (find is_own more) (Some y)) ≡ worst (y ∷ more)) (sym (f x refl refl)) refl
by_parts more None None None h o f = refl

worst_more : (faults more : List RunFault) → worst (faults ++ more) ≡ worst (option_to_list (worst faults) ++ more)
worst_more faults more =
    (λ i. option_or (find-append is_of_host faults more i) (option_or (find-append is_own faults more i) (first_more faults more i)))
    ∙ by_parts more (find is_of_host faults) (find is_own faults) (slice_get faults 0) (host_is faults) (own_is faults) (first_is faults)

-- With one more thread, the fault is that reported of the fault before and the thread's own.
pub fault_of-last : (end : Option RunFault) (ends : List (Option RunFault)) → fault_of (ends ++ end ∷ []) ≡ fault_of (fault_of ends ∷ end ∷ [])
fault_of-last end ends =
    ap worst (filter_map-append (λ e. e) ends (end ∷ [])) ∙ worst_more (there ends) (there (end ∷ [])) ∙ by (worst (there ends))
  where
    by : (reported : Option RunFault) → worst (option_to_list reported ++ there (end ∷ [])) ≡ fault_of (reported ∷ end ∷ [])
    by None = refl
    by (Some x) = refl

-- ---- a cancel is reported

no_own : (faults : List RunFault) → worst faults ≡ Some Cancelled → find is_own faults ≡ None
no_own faults e = by (find is_of_host faults) (find is_own faults) (host_is faults) (own_is faults) e
  where
    by : (host own : Option RunFault) → ((x : RunFault) → host ≡ Some x → is_of_host x ≡ true) → ((x : RunFault) → host ≡ None → own ≡ Some x →
        (is_of_host x ≡ false) × (is_own x ≡ true)) → option_or host (option_or own (slice_get faults 0)) ≡ Some Cancelled → own ≡ None
    by (Some x) own h o e =
        let same : x ≡ Cancelled = cc in
        let wrong : is_of_host Cancelled ≡ true = subst (λ y. is_of_host y ≡ true) same (h x refl) in
        absurd (cc)
    by None (Some x) h o e =
        let same : x ≡ Cancelled = cc in
        let wrong : is_own Cancelled ≡ true = subst (λ y. is_own y ≡ true) same (o x refl refl).1 in
        absurd (cc)
    by None None h o e = refl

at_place : (ends : List (Option RunFault)) → find is_own (there ends) ≡ None → (f : RunFault) (k : ℕ) → k < length ends →
    slice_index_or ends k (Some f) ≡ Some f → f ≡ Cancelled
at_place [] none f k less is = absurd (omega (arith, less))
at_place (None ∷ ends) none f zero less is = absurd (cc)
at_place (None ∷ ends) none f (suc k) less is = at_place ends none f k (omega (arith, less)) is
at_place (Some Cancelled ∷ ends) none f zero less is = cc
at_place (Some Cancelled ∷ ends) none f (suc k) less is = at_place ends none f k (omega (arith, less)) is
at_place (Some Memory ∷ ends) none f k less is = absurd (cc)
at_place (Some Console ∷ ends) none f k less is = absurd (cc)
at_place (Some Start ∷ ends) none f k less is = absurd (cc)
at_place (Some Full ∷ ends) none f k less is = absurd (cc)
at_place (Some Loan ∷ ends) none f k less is = absurd (cc)
at_place (Some Budget ∷ ends) none f k less is = absurd (cc)

-- If a cancel is reported, no thread met a fault itself.
pub cancelled_alone : (ends : List (Option RunFault)) → fault_of ends ≡ Some Cancelled → (f : RunFault) → Contains ends (Some f) → f ≡ Cancelled
cancelled_alone ends e f c = at_place ends (no_own (there ends) e) f c.0 c.1 c.2

-- ---- no fault is reported

first_none : (faults : List RunFault) → slice_get faults 0 ≡ None → faults ≡ []
first_none [] e = refl
first_none (x ∷ faults) e = absurd (cc)

none_there : (ends : List (Option RunFault)) → there ends ≡ [] → (k : ℕ) (end : Option RunFault) → slice_get ends k ≡ Some end → end ≡ None
none_there [] e k end at = absurd (cc)
none_there (Some f ∷ ends) e k end at = absurd (cc)
none_there (None ∷ ends) e zero end at = cc
none_there (None ∷ ends) e (suc k) end at = none_there ends e k end at

-- If no fault is reported, no thread has one.
pub all_none : (ends : List (Option RunFault)) → fault_of ends ≡ None → (k : ℕ) (end : Option RunFault) → slice_get ends k ≡ Some end → end ≡ None
all_none ends e = none_there ends (first_none (there ends) (by (find is_of_host (there ends)) (find is_own (there ends)) e))
  where
    by : (host own : Option RunFault) → option_or host (option_or own (slice_get (there ends) 0)) ≡ None → slice_get (there ends) 0 ≡ None
    by (Some x) own e = absurd (cc)
    by None (Some x) e = absurd (cc)
    by None None e = e
