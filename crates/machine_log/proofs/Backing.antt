-- Ports with all cores back, one by one.
use Rattle.std.proofs.Common.{◌≡◌, ◌≢◌, ℕ, zero, suc, ◌+◌, ◌≤◌, ◌<◌, List, [], ◌∷◌, length, Option, Some, None, refl, sym, ap, ap₂, ◌∙◌, arith}
use Rattle.std.specs.Prelude.{replicate, slice_index_or, slice_set}
use Rattle.machine_steps.specs.machine_ports.Ports.{PortState}
use Rattle.machine_theory.specs.Processors.{no_port, port_at}
use Rattle.machine_log.specs.Lendings.{all_back, lent_at, promised, with_lent}
use Rattle.machine_log.specs.declared.lent.Lent.{Lent}

-- With all cores back there are as many ports as before.
pub back_length : (ports : List PortState) (lent : List (Option Lent)) → length (all_back ports lent) ≡ length ports
unfolding all_back
back_length [] lent = refl
back_length (port ∷ ports) [] = refl
back_length (port ∷ ports) (l ∷ lent) = ap suc (back_length ports lent)

none_there : (p : ℕ) → lent_at [] p ≡ None
none_there zero = refl
none_there (suc p) = refl

-- With all cores back, a port has its core as it was lent, and is as before if its core was not away.
pub back_at : (ports : List PortState) (lent : List (Option Lent)) (p : ℕ) → length lent ≡ length ports →
    port_at (all_back ports lent) p ≡ with_lent (port_at ports p) (lent_at lent p)
unfolding all_back
back_at [] [] p same = ap (with_lent no_port) (sym (none_there p))
back_at [] (l ∷ lent) p same = absurd (omega arith)
back_at (port ∷ ports) [] p same = absurd (omega arith)
back_at (port ∷ ports) (l ∷ lent) zero same = refl
back_at (port ∷ ports) (l ∷ lent) (suc p) same = back_at ports lent p (omega arith)

-- If a port and what is known of its core are replaced, only that port changes with all cores back.
pub back_set : (ports : List PortState) (lent : List (Option Lent)) (p : ℕ) (port : PortState) (l : Option Lent) → length lent ≡ length ports →
    all_back (slice_set ports p port) (slice_set lent p l) ≡ slice_set (all_back ports lent) p (with_lent port l)
unfolding all_back
back_set [] [] p port l same = refl
back_set [] (k ∷ lent) p port l same = absurd (omega arith)
back_set (q ∷ ports) [] p port l same = absurd (omega arith)
back_set (q ∷ ports) (k ∷ lent) zero port l same = refl
back_set (q ∷ ports) (k ∷ lent) (suc p) port l same = ap (λ rest. with_lent q k ∷ rest) (back_set ports lent p port l (omega arith))

-- If no core is lent, all ports are as they are.
pub back_none : (ports : List PortState) (lent : List (Option Lent)) → ((p : ℕ) → lent_at lent p ≡ None) → all_back ports lent ≡ ports
unfolding all_back
back_none [] lent none = refl
back_none (port ∷ ports) [] none = refl
back_none (port ∷ ports) (l ∷ lent) none = ap₂ (λ (x : PortState) xs. x ∷ xs) (ap (with_lent port) (none 0)) (back_none ports lent (λ p. none (suc p)))

-- In a list of `None`, no core is known to be away.
pub replicate_none : (n p : ℕ) → lent_at (replicate n None) p ≡ None
replicate_none zero p = none_there p
replicate_none (suc n) zero = refl
replicate_none (suc n) (suc p) = replicate_none n p

-- If an entry is replaced by None, that core is not known to be away.
pub none_set : (lent : List (Option Lent)) (p q : ℕ) → (q ≢ p → lent_at lent q ≡ None) → lent_at (slice_set lent p None) q ≡ None
none_set [] p q others = none_there q
none_set (l ∷ lent) zero zero others = refl
none_set (l ∷ lent) zero (suc q) others = others (λ e. absurd (omega (arith, e)))
none_set (l ∷ lent) (suc p) zero others = others (λ e. absurd (omega (arith, e)))
none_set (l ∷ lent) (suc p) (suc q) others = none_set lent p q (λ apart. others (λ e. apart (omega (arith, e))))

-- If none of the first n is known to be away, and the list has at most n, none is.
pub none_past : (lent : List (Option Lent)) (n : ℕ) → length lent ≤ n → ((q : ℕ) → q < n → lent_at lent q ≡ None) → (q : ℕ) → lent_at lent q ≡ None
none_past [] n few none q = none_there q
none_past (l ∷ lent) zero few none q = absurd (omega arith)
none_past (l ∷ lent) (suc n) few none zero = none 0 (omega arith)
none_past (l ∷ lent) (suc n) few none (suc q) = none_past lent n (omega arith) (λ j within. none (suc j) (omega (arith, within))) q

-- A borrowed element is the element at its place, with any default.
pub found_at : {X : Type 0} (xs : List X) (i place : ℕ) (d x : X) → place ≡ i → i < length xs → x ≡ slice_index_or xs place x → x ≡ slice_index_or xs i d
found_at {X} xs i place d x same within is = is ∙ ap (λ j. slice_index_or xs j x) same ∙ any_default xs i within
  where
    any_default : (xs : List X) (i : ℕ) → i < length xs → slice_index_or xs i x ≡ slice_index_or xs i d
    any_default [] i within = absurd (omega arith)
    any_default (y ∷ ys) zero within = refl
    any_default (y ∷ ys) (suc i) within = any_default ys i (omega arith)

-- ---- promises

-- If no core is away, no steps are promised.
pub none_promised : (n : ℕ) → promised (replicate n None) ≡ 0
unfolding promised
none_promised zero = refl
none_promised (suc n) = none_promised n

-- A new loan adds its steps to those promised.
pub promise_more : (lent : List (Option Lent)) (p : ℕ) (l : Lent) → p < length lent → lent_at lent p ≡ None →
    promised (slice_set lent p (Some l)) ≡ promised lent + l.most
unfolding promised
promise_more [] p l within none = absurd (omega arith)
promise_more (None ∷ lent) zero l within none = omega arith
promise_more (Some k ∷ lent) zero l within none = absurd (cc)
promise_more (None ∷ lent) (suc p) l within none = promise_more lent p l (omega arith) none
promise_more (Some k ∷ lent) (suc p) l within none = let more = promise_more lent p l (omega arith) none in omega (arith, more)

-- The end of a loan takes its steps from those promised.
pub promise_less : (lent : List (Option Lent)) (p : ℕ) (l : Lent) → lent_at lent p ≡ Some l →
    promised (slice_set lent p None) + l.most ≡ promised lent
unfolding promised
promise_less [] p l some = let none = none_there p in absurd (cc)
promise_less (None ∷ lent) zero l some = absurd (cc)
promise_less (Some k ∷ lent) zero l some = let same : k ≡ l = cc in ap (λ (x : Lent). promised lent + x.most) (sym same) ∙ omega arith
promise_less (None ∷ lent) (suc p) l some = promise_less lent p l some
promise_less (Some k ∷ lent) (suc p) l some = let less = promise_less lent p l some in omega (arith, less)
