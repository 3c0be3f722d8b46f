-- Lists of parts, and the texts of their changes.
use Rattle.std.proofs.Common.{◌≡◌, ℕ, zero, suc, ◌<◌, ◌⊎◌, inl, inr, ◌==◌, Bool, true, false, List, [], ◌∷◌, ◌++◌, flat_map, refl, sym, ap, ap}
use Rattle.std.proofs.Common.{◌∙◌, append_assoc, arith}
use Rattle.std.specs.Prelude.{if◌then◌else◌, slice_index}
use Rattle.std.proofs.lemmas.Bool.{cases_eq, eqb-true}
use Rattle.std.proofs.lemmas.Grind.{flat_map-append}
use Rattle.std.proofs.lemmas.List.{append-nil, map-append}
use Rattle.messages.specs.Places.{In}
use Rattle.messages.proofs.Lemmas.{In-append_left, In-append_right}
use Rattle.page_command.specs.Changes.{change_text, changes_text, change_to, changes_to}
use Rattle.page_command.specs.Steps.{registers_changed}
use Rattle.page_command.specs.Views.{Part, Register, View}

-- the text of the changes that make these parts hold what they hold in a view
abbrev pub text_to : View → List Part → List ℕ
text_to V parts = changes_text (changes_to V parts)

-- The text of changes of some parts and of others is that of the first, and then that of the others.
pub text_over : (V : View) (xs ys : List Part) → text_to V (xs ++ ys) ≡ text_to V xs ++ text_to V ys
unfolding changes_text
text_over V xs ys =
    ap (flat_map change_text) (map-append (change_to V) xs ys) ∙ flat_map-append change_text (changes_to V xs) (changes_to V ys)

-- The text of one change is that of the changes of one part.
pub one_text : (V : View) (x : Part) → change_text (change_to V x) ≡ text_to V (x ∷ [])
unfolding changes_text
one_text V x = sym (append-nil (change_text (change_to V x)))

-- The text of no changes is empty.
pub no_text : (V : View) (old : List ℕ) → old ≡ old ++ text_to V []
unfolding changes_text
no_text V old = sym (append-nil old)

-- If the text of some changes was appended, and then that of others, that of all was.
pub joined : (V : View) (xs ys : List Part) (old mid new : List ℕ) → mid ≡ old ++ text_to V xs → new ≡ mid ++ text_to V ys →
    new ≡ old ++ text_to V (xs ++ ys)
joined V xs ys old mid new first next =
    next ∙ ap (λ text. text ++ text_to V ys) first ∙ append_assoc old (text_to V xs) (text_to V ys)
    ∙ ap (λ text. old ++ text) (sym (text_over V xs ys))

-- If the text of one change was appended, and then that of others, that of all was.
pub first_then : (V : View) (x : Part) (ys : List Part) (old mid new : List ℕ) → mid ≡ old ++ change_text (change_to V x) →
    new ≡ mid ++ text_to V ys → new ≡ old ++ text_to V (x ∷ ys)
first_then V x ys old mid new first next =
    joined V (x ∷ []) ys old mid new (first ∙ ap (λ text. old ++ text) (one_text V x)) next

-- If the text of one change was appended, that of its part was.
pub only_one : (V : View) (x : Part) (old new : List ℕ) → new ≡ old ++ change_text (change_to V x) → new ≡ old ++ text_to V (x ∷ [])
only_one V x old new first = first ∙ ap (λ text. old ++ text) (one_text V x)

-- If then the change of one part was appended, that of all was.
pub one_more : (V : View) (xs : List Part) (x : Part) (old mid new : List ℕ) → mid ≡ old ++ text_to V xs →
    new ≡ mid ++ change_text (change_to V x) → new ≡ old ++ text_to V (xs ++ x ∷ [])
one_more V xs x old mid new first next = joined V xs (x ∷ []) old mid new first (next ∙ ap (λ text. mid ++ text) (one_text V x))

-- If nothing more was appended, the same holds with no other part.
pub none_more : (V : View) (xs : List Part) (old mid new : List ℕ) → mid ≡ old ++ text_to V xs → new ≡ mid →
    new ≡ old ++ text_to V (xs ++ [])
none_more V xs old mid new first same = same ∙ first ∙ ap (λ ys. old ++ text_to V ys) (sym (append-nil xs))

-- A register below the count holds the same, or is one of those that change.
pub register_found : (p : ℕ) (before after : List ℕ) (count r : ℕ) → r < count →
    (slice_index before r ≡ slice_index after r) ⊎ In (Register p r) (registers_changed p before after count)
unfolding registers_changed
register_found p before after zero r below = absurd (omega (arith, below))
register_found p before after (suc n) r below = by (cases_eq r n) (λ few. register_found p before after n r few)
  where
    front : List Part
    front = registers_changed p before after n

    last : (b : Bool) → (slice_index after n == slice_index before n) ≡ b → r ≡ n →
        (slice_index before r ≡ slice_index after r) ⊎ In (Register p r) (front ++ (if b then [] else Register p n ∷ []))
    last true e is = inl (ap (slice_index before) is ∙ sym (eqb-true _ _ e) ∙ ap (slice_index after) (sym is))
    last false e is = inr (In-append_right (Register p r) front (Register p n ∷ []) (inl (ap (Register p) is)))

    earlier : (slice_index before r ≡ slice_index after r) ⊎ In (Register p r) front →
        (slice_index before r ≡ slice_index after r) ⊎ In (Register p r) (registers_changed p before after (suc n))
    earlier (inl e) = inl e
    earlier (inr there) = inr (In-append_left (Register p r) front _ there)

    by : (r ≡ n) ⊎ (r ≡ n → ⊥) → (r < n → (slice_index before r ≡ slice_index after r) ⊎ In (Register p r) front) →
        (slice_index before r ≡ slice_index after r) ⊎ In (Register p r) (registers_changed p before after (suc n))
    by (inl is) below_it = last (slice_index after n == slice_index before n) refl is
    by (inr other) below_it = earlier (below_it (omega (arith, below, other)))
