-- The tokens of an object.
use Rattle.std.proofs.Common.{◌≡◌, ◌∙◌, ◌<◌, ◌+◌, ℕ, true, refl, sym, ap, List, [], ◌∷◌, ◌++◌, Option, Some, None, Result, Ok, Err, append_assoc, codes}
use Rattle.std.proofs.Common.{add-one, drop, drop-cons, get_or, is_some, length, option_map}
use Rattle.std.specs.Prelude.{IfSome, OnOk, unwrap_or}
use Rattle.json.specs.Json.{Members}
use Rattle.json.specs.Token.{Token, begin_object, key, string}
use Rattle.json.specs.Tree.{json_tokens, members_tokens}
use Rattle.line_shapes.specs.Shapes.{members_of, object_in, object_of, object_with}
use Rattle.line_shapes.specs.declared.shape.Shape.{Shape}

-- An object begins, its kind is written, and its other members follow.
pub shape_written : {E : Type 0} (r : Result (Unit {0}) E) (o : Option Members) (kind : List ℕ) (old mid new : List Token)
    → mid ≡ ((old ++ begin_object ∷ []) ++ key (codes "kind") ∷ []) ++ string kind ∷ [] → OnOk r (IfSome o (λ ms. new ≡ mid ++ members_tokens ms))
    → OnOk r (IfSome (option_map (object_with kind) o) (λ j. new ≡ old ++ json_tokens j))
shape_written (Err e) o kind old mid new begin written = tt
shape_written (Ok u) None kind old mid new begin written = tt
shape_written (Ok u) (Some ms) kind old mid new begin written = rw (written, begin) (simp append_assoc)

-- The object by the shapes from a place on is that of the first of them, if the line has its parts.
here : (shapes : List Shape) (i : ℕ) (d : Shape) (line : List ℕ) → i < length shapes
    → object_of (drop i shapes) line ≡ unwrap_or (object_in (get_or shapes i d) line) (object_of (drop (i + 1) shapes) line)
unfolding object_of
here shapes i d line lt = rw (add-one, drop-cons shapes i d lt) refl

-- If the shapes before one give no object, and this one does, that is the object of the line.
pub object_by_shape : {E : Type 0} (shapes : List Shape) (i : ℕ) (d : Shape) (line : List ℕ) (r : Result (Unit {0}) E) (old new : List Token)
    → i < length shapes → object_of (drop i shapes) line ≡ object_of shapes line → is_some (members_of (get_or shapes i d).1.now line) ≡ true
    → OnOk r (IfSome (object_in (get_or shapes i d) line) (λ j. new ≡ old ++ json_tokens j)) → OnOk r (new ≡ old ++ json_tokens (object_of shapes line))
object_by_shape shapes i d line (Err e) old new lt same has written = tt
object_by_shape shapes i d line (Ok u) old new lt same has written =
    go (members_of (get_or shapes i d).1.now line) (sym same ∙ here shapes i d line lt) has written
  where
    go : (o : Option Members)
        → object_of shapes line ≡ unwrap_or (option_map (object_with (get_or shapes i d).0.now) o) (object_of (drop (i + 1) shapes) line)
        → is_some o ≡ true → IfSome (option_map (object_with (get_or shapes i d).0.now) o) (λ j. new ≡ old ++ json_tokens j)
        → new ≡ old ++ json_tokens (object_of shapes line)
    go None is has written = cc
    go (Some ms) is has written = written ∙ ap (λ j. old ++ json_tokens j) (sym is)
