-- Labels that are near to a word.
use Rattle.std.proofs.Common.{◌≡◌, ℕ, Bool, true, false, List, [], Option, Some, None, BTreeMap, Bor, refl, ap, sym, subst}
use Rattle.std.specs.Prelude.{IfSome, IsSome, nat_lt, if◌then◌else◌}
use Rattle.std.specs.BTreeMap.{ContainsKey, get_by}
use Rattle.std.specs.Option.{option_map}
use Rattle.std.specs.Cmp.Lexicographic.{slice_cmp}
use Rattle.std.specs.Ordering.{nat_cmp}
use Rattle.assembler.specs.Meaning.{Labels}
use Rattle.line_faults.specs.AdviceAtFault.{IsNearLabel}
use Rattle.word_faults.specs.FirstWords.{few_edits, nearer}
use Rattle.line_faults.specs.Places.{label_values, symbol_of}
use Rattle.word_faults.specs.Views.{near_view}
use Rattle.line_faults.specs.declared.labels.Label.{Label}

-- A key of the map is a label.
pub is_label : (m : BTreeMap (Bor (List ℕ)) Label) (k : Bor (List ℕ))
    → ContainsKey (λ (x y : Bor (List ℕ)). slice_cmp nat_cmp x.now y.now) m k → IsSome (label_values m k.now)
is_label m k there = go (get_by (λ (x : Bor (List ℕ)). slice_cmp nat_cmp k.now x.now) m) there
  where
    go : (o : Option Label) → IsSome o → IsSome (option_map symbol_of o)
    go None there = there
    go (Some l) there = there

abbrev Near : Type 0
Near = Option (ℕ × List ℕ)

name_in : Near → List ℕ
name_in None = []
name_in (Some p) = p.1

some : ℕ → List ℕ → Near
some edits name = Some (edits, name)

same_name : (a b : ℕ) (x y : List ℕ) → some a x ≡ some b y → x ≡ y
unfolding some name_in
same_name a b x y is = ap name_in is

not_none : (a : ℕ) (x : List ℕ) → some a x ≡ None → ⊥
unfolding some
not_none a x is = cc

-- The nearer of a name and the one before it is a near label if both are.
chosen : (labels : Labels) (word name : List ℕ) (edits a b : ℕ) (x y : List ℕ) → IsNearLabel labels word name → IsNearLabel labels word y → (t : Bool)
    → some a x ≡ (if t then some edits name else some b y) → IsNearLabel labels word x
chosen labels word name edits a b x y there near true is = subst (IsNearLabel labels word) (sym (same_name a edits x name is)) there
chosen labels word name edits a b x y there near false is = subst (IsNearLabel labels word) (sym (same_name a b x y is)) near

go : (labels : Labels) (word name : List ℕ) (a : ℕ) (x : List ℕ) (o : Option ℕ) (old : Option (ℕ × Bor (List ℕ))) → few_edits word name ≡ o
    → IsSome (labels name) → IfSome old (λ p. IsNearLabel labels word p.1.now) → some a x ≡ nearer o name (near_view old) → IsNearLabel labels word x
unfolding some
go labels word name a x None None few there near is = absurd (not_none a x is)
go labels word name a x None (Some p) few there near is = subst (IsNearLabel labels word) (sym (same_name a p.0 x p.1.now is)) near
go labels word name a x (Some edits) None few there near is =
    subst (IsNearLabel labels word) (sym (same_name a edits x name is)) (there, rw few refl)
go labels word name a x (Some edits) (Some p) few there near is =
    chosen labels word name edits a p.0 x p.1.now (there, rw few refl) near (nat_lt edits p.0) is

-- If the nearest label so far, if any, is near to a word, so is the nearer of it and another label.
pub nearer_is_near : (m : BTreeMap (Bor (List ℕ)) Label) (word : List ℕ) (name : List ℕ) (old new : Option (ℕ × Bor (List ℕ)))
    → IsSome (label_values m name) → IfSome old (λ p. IsNearLabel (label_values m) word p.1.now)
    → near_view new ≡ nearer (few_edits word name) name (near_view old) → IfSome new (λ p. IsNearLabel (label_values m) word p.1.now)
unfolding some
nearer_is_near m word name old None there near is = tt
nearer_is_near m word name old (Some new) there near is =
    go (label_values m) word name new.0 new.1.now (few_edits word name) old refl there near is
