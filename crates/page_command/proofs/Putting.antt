-- Changes put on a view.
use Rattle.std.proofs.Common.{◌≡◌, ◌⊎◌, inl, inr, ◌==◌, Bool, true, false, List, [], ◌∷◌, refl, sym, ap, ap₂, ◌∙◌}
use Rattle.std.specs.Prelude.{if◌then◌else◌}
use Rattle.std.proofs.lemmas.Bool.{and_from, and_parts, eq-eqb, eqb-true}
use Rattle.messages.specs.Places.{In}
use Rattle.page_command.specs.Changes.{change_to, changes_to, is_same, with_change, with_changes}
use Rattle.page_command.specs.Views.{Core, Part, Place, Register, View, Word}

-- ---- parts that are the same

true_is_not_false : true ≡ false → ⊥
true_is_not_false e = cc

same_refl : (x : Part) → is_same x x ≡ true
same_refl (Core p) = eq-eqb p p refl
same_refl (Register p r) = and_from _ _ (eq-eqb p p refl) (eq-eqb r r refl)
same_refl (Place d w) = and_from _ _ (eq-eqb d d refl) (eq-eqb w w refl)
same_refl (Word i) = eq-eqb i i refl

same_is : (x y : Part) → is_same x y ≡ true → x ≡ y
same_is (Core p) (Core q) e = ap Core (eqb-true p q e)
same_is (Register p r) (Register q s) e =
    let both = and_parts (p == q) (r == s) e in ap₂ Register (eqb-true p q both.0) (eqb-true r s both.1)
same_is (Place d w) (Place f v) e =
    let both = and_parts (d == f) (w == v) e in ap₂ Place (eqb-true d f both.0) (eqb-true w v both.1)
same_is (Word i) (Word j) e = ap Word (eqb-true i j e)
same_is (Core p) (Register q s) e = absurd (true_is_not_false (sym e))
same_is (Core p) (Place f v) e = absurd (true_is_not_false (sym e))
same_is (Core p) (Word j) e = absurd (true_is_not_false (sym e))
same_is (Register p r) (Core q) e = absurd (true_is_not_false (sym e))
same_is (Register p r) (Place f v) e = absurd (true_is_not_false (sym e))
same_is (Register p r) (Word j) e = absurd (true_is_not_false (sym e))
same_is (Place d w) (Core q) e = absurd (true_is_not_false (sym e))
same_is (Place d w) (Register q s) e = absurd (true_is_not_false (sym e))
same_is (Place d w) (Word j) e = absurd (true_is_not_false (sym e))
same_is (Word i) (Core q) e = absurd (true_is_not_false (sym e))
same_is (Word i) (Register q s) e = absurd (true_is_not_false (sym e))
same_is (Word i) (Place f v) e = absurd (true_is_not_false (sym e))

-- ---- changes that lead to a view

-- If a part holds the same in both views, or the changes name it, it holds after them what it holds in the second view.
pub put_shown : (V W : View) (parts : List Part) (x : Part) → (V x ≡ W x) ⊎ In x parts → with_changes V (changes_to W parts) x ≡ W x
unfolding with_changes
put_shown V W [] x (inl e) = e
put_shown V W [] x (inr there) = absurd there
put_shown V W (y ∷ ys) x given = put_shown (with_change V (change_to W y)) W ys x (go (is_same x y) refl given)
  where
    go : (b : Bool) → is_same x y ≡ b → (V x ≡ W x) ⊎ In x (y ∷ ys) → ((if b then W y else V x) ≡ W x) ⊎ In x ys
    go true e h = inl (ap W (sym (same_is x y e)))
    go false e (inl h) = inl h
    go false e (inr (inl h)) = absurd (true_is_not_false (sym (same_refl x) ∙ ap (is_same x) h ∙ e))
    go false e (inr (inr h)) = inr h
