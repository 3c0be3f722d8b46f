-- The first line with a label, one more line at a time.
use Rattle.std.proofs.Common.{◌≡◌, ℕ, ◌+◌, ◌≤◌, Bool, true, false, cond, eqb, List, [], ◌∷◌, ◌++◌, length}
use Rattle.std.proofs.Common.{Option, Some, None, refl, sym, ap, ◌∙◌, arith}
use Rattle.std.specs.Prelude.{IsSome, nat_lt, position, if◌then◌else◌}
use Rattle.std.specs.BTreeMap.{get_by}
use Rattle.std.specs.Borrow.{Bor}
use Rattle.std.specs.Cmp.Lexicographic.{slice_cmp}
use Rattle.std.specs.Ordering.{nat_cmp}
use Rattle.std.specs.List.{position_or_len}
use Rattle.std.specs.Option.{option_map, option_or}
use Rattle.std.proofs.lemmas.Bool.Decides.{nat_tests}
use Rattle.std.proofs.lemmas.List.{length_push}
use Rattle.std.proofs.lemmas.List.Folds.{position_or_len_push}
use Rattle.std.proofs.lemmas.List.Sums.{prefix_len-le-length}
use Rattle.line_faults.specs.declared.cursor.Cursor.{Cursor}
use Rattle.line_faults.specs.declared.labels.Label.{Label}
use Rattle.line_faults.specs.Places.{first_lines, has_name, lines_after, place_of, symbol_of}
use Rattle.fault_lists.specs.Faults.{label_of, first_line_with}

-- This is so of the places: n in a list of m elements, m if none passes, and k with one more element at the end.
at_end : (n m k : ℕ) (passes : Bool) → n ≤ m → k ≡ cond (eqb n m) (m + cond passes 0 1) n
    → cond (nat_lt k (m + 1)) (Some k) None ≡ option_or (cond (nat_lt n m) (Some n) None) (cond passes (Some m) None)
at_end n m k true le is = grind (arith, nat_tests)
at_end n m k false le is = grind (arith, nat_tests)

-- The first that passes of a list and one more element is the first of the list, or else the one more.
position_push : {X : Type 0} (p : X → Bool) (xs : List X) (y : X)
    → position p (xs ++ y ∷ []) ≡ option_or (position p xs) (if p y then Some (length xs) else None)
position_push p xs y =
    let first = position_or_len p (xs ++ y ∷ []) in
    ap (λ n. cond (nat_lt first n) (Some first) None) (length_push xs y)
    ∙ at_end (position_or_len p xs) (length xs) first (p y) (prefix_len-le-length _ xs) (position_or_len_push p xs y)

-- The first lines after one more line are those of all lines up to it.
pub first_more : (lines : List (List ℕ)) (line : List ℕ) (number : ℕ) → number ≡ length lines + 1
    → first_line_with (lines ++ line ∷ []) ≡ lines_after (first_line_with lines) (label_of line) number
first_more lines line number is = λ i label.
    (ap (option_map (λ (index : ℕ). index + 1)) (position_push (λ l. has_name (label_of l) label) lines line)
    ∙ from_one (position (λ l. has_name (label_of l) label) lines) (has_name (label_of line) label)) i
  where
    from_one : (o : Option ℕ) (b : Bool) → option_map (λ (index : ℕ). index + 1) (option_or o (cond b (Some (length lines)) None))
        ≡ option_or (option_map (λ (index : ℕ). index + 1) o) (cond b (Some number) None)
    from_one None true = ap Some (sym is)
    from_one None false = refl
    from_one (Some first) b = refl

-- Each label of a cursor has a first line.
pub same_labels : (c : Cursor) (name : List ℕ) → IsSome ((place_of c).labels name) → IsSome (first_lines c name)
same_labels c name there = go (get_by (λ (k : Bor (List ℕ)). slice_cmp nat_cmp name k.now) c.labels) there
  where
    go : (o : Option Label) → IsSome (option_map symbol_of o) → IsSome (option_map (λ (l : Label). l.line) o)
    go None there = there
    go (Some l) there = refl
