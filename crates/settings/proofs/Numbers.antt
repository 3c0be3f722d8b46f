-- In words without a fault, the text of an option that takes a number in a range spells such a number.
use Rattle.std.proofs.Common.{◌≡◌, ◌&&◌, ◌||◌, ◌==◌, ◌++◌, ◌+◌, ◌∙◌, ℕ, Bool, cond, true}
use Rattle.std.proofs.Common.{false, not, refl, sym, ap, true≢false, List, [], ◌∷◌, length}
use Rattle.std.proofs.Common.{arith, Option, Some, None, pos, negsuc, min, option_map}
use Rattle.std.specs.Prelude.{⊤, IfSome, find, option_and_then, slice_get}
use Rattle.std.specs.List.{list_all}
use Rattle.std.specs.Str.{bytes_eq}
use Rattle.std.proofs.lemmas.Bool.{eqb-true}
use Rattle.std.proofs.lemmas.Slice.Eq.{bytes_eq-Decides}
use Rattle.clap.specs.Facts.{parser_of_value}
use Rattle.clap.specs.Faults.{action_fault, level_fault, repeat_fault, use_fault}
use Rattle.clap.specs.Kinds.{values_kinds}
use Rattle.clap.specs.Lexer.{without_minus}
use Rattle.clap.specs.Matches.{count_text}
use Rattle.clap.specs.Simple.{Shape}
use Rattle.clap.specs.Values.{IsSignedIn, read_as}
use Rattle.clap.specs.ValueTests.{is_signed_in}
use Rattle.clap.specs.Walk.{Row, Rule, Text, action_of, at_row, count_of, default_rows, has_row, is_empty}
use Rattle.clap.specs.Walk.{more_values, new_count, nothing_held, reading_by, row_text, rows_after, used}
use Rattle.clap.specs.Walk.{used_as, values_or_missing, with_count, with_default, with_values, without}
use Rattle.clap.proofs.ValueTestLemmas.{accepts-Accepts}
use Rattle.clap.proofs.WalkLemmas.{both}
use Rattle.clap.specs.declared.builder.action.ArgAction.{ArgAction}
use Rattle.clap.specs.declared.builder.action.ArgAction.TheVariants as action
use Rattle.clap.specs.declared.builder.value_parser.Reading.{Reading}
use Rattle.clap.specs.declared.builder.value_parser.Reading.TheVariants as reading
use Rattle.clap.specs.declared.builder.value_parser.ValueParser.{ValueParser}
use Rattle.clap.specs.declared.builder.value_parser.ValueParser.TheVariants as vp
use Rattle.clap.specs.declared.error.kind.ErrorKind.TheVariants as kind
use Rattle.clap.specs.declared.parser.matches.ValueSource.{ValueSource}
use Rattle.clap.specs.declared.parser.matches.ValueSource.TheVariants.{DefaultValue, CommandLine}
use Rattle.command_forms.specs.Commands.{Bounds}
use Rattle.settings.specs.Given.{HasNumber}
use Rattle.settings.proofs.Walks.{neither, rows_kept}

-- ---- rows

-- The first value, if any, spells a number in the range.
abbrev pub FirstIn : (low high : ℕ) → List Text → Type 0
FirstIn low high values = IfSome (slice_get values 0) (λ v. is_signed_in (pos low) (pos high) v ≡ true)

-- A row of the option is read without a minus, and its first value spells a number in the range.
abbrev pub Fits : Text → (low high : ℕ) → Row → Type 0
Fits id low high r = bytes_eq r.id id ≡ true → (r.reading ≡ reading.WithoutMinus) × FirstIn low high r.values

abbrev pub AllFit : Text → (low high : ℕ) → List Row → Type 0
AllFit id low high [] = ⊤
AllFit id low high (r ∷ rs) = Fits id low high r × AllFit id low high rs

first_append : (low high : ℕ) (xs ys : List Text) → FirstIn low high xs → FirstIn low high ys → FirstIn low high (xs ++ ys)
first_append low high [] ys h k = k
first_append low high (x ∷ xs) ys h k = h

-- Two names of one row are equal.
same_name : (x y z : Text) → bytes_eq x y ≡ true → bytes_eq x z ≡ true → bytes_eq y z ≡ true
same_name x y z e f = rw (← (bytes_eq-Decides x y).0 e) f

module _ (id : Text) (low high : ℕ) where
  fit_append : (xs ys : List Row) → AllFit id low high xs → AllFit id low high ys → AllFit id low high (xs ++ ys)
  fit_append [] ys h k = k
  fit_append (x ∷ xs) ys h k = (h.0, fit_append xs ys h.1 k)

  fit_at : (name : Text) (change : Row → List Row) (missing rows : List Row) →
      ((r : Row) → bytes_eq r.id name ≡ true → Fits id low high r → AllFit id low high (change r))
      → AllFit id low high missing → AllFit id low high rows → AllFit id low high (at_row name change missing rows)
  fit_at name change missing [] keeps new h = new
  fit_at name change missing (r ∷ rs) keeps new h = go (bytes_eq r.id name) refl (fit_at name change missing rs keeps new h.1)
    where
      go : (b : Bool) → bytes_eq r.id name ≡ b → AllFit id low high (at_row name change missing rs) →
          AllFit id low high (cond b (change r ++ rs) (r ∷ at_row name change missing rs))
      go true e rest = fit_append (change r) rs (keeps r e h.0) h.1
      go false e rest = (h.0, rest)

  fit_without : (name : Text) (rows : List Row) → AllFit id low high rows → AllFit id low high (without name rows)
  fit_without name rows h = fit_at name (λ _. []) [] rows (λ r e fits. tt) tt h

  -- ---- another argument's rows

  other_row : (name : Text) → bytes_eq name id ≡ false → (x : Text) → bytes_eq x name ≡ true → bytes_eq x id ≡ true → ⊥
  other_row name not x e f = true≢false (sym (same_name x name id e f) ∙ not)

  other_with : (name : Text) → bytes_eq name id ≡ false → (how : Reading) (s : ValueSource) (values : List Text) (rows : List Row) → AllFit id low high rows
      → AllFit id low high (with_values name how s values rows)
  other_with name not how s values rows h =
      fit_at name (more_values s values) (record { id = name; values = values; count = None; source = Some s; reading = how } ∷ []) rows
      (λ r e fits. ((λ f. absurd (other_row name not r.id e f)), tt)) ((λ f. absurd (true≢false (sym f ∙ not))), tt) h

  other_count : (name : Text) → bytes_eq name id ≡ false → (how : Reading) (s : ValueSource) (n : ℕ) (rows : List Row) → AllFit id low high rows
      → AllFit id low high (with_count name how s n rows)
  other_count name not how s n rows h =
      fit_at name (new_count s n) (record { id = name; values = count_text n ∷ []; count = Some n; source = Some s; reading = how } ∷ []) rows
      (λ r e fits. ((λ f. absurd (other_row name not r.id e f)), tt)) ((λ f. absurd (true≢false (sym f ∙ not))), tt) h

  other_used : (x : ArgAction) (name : Text) → bytes_eq name id ≡ false → (how : Reading) (values : List Text) (rows : List Row) → AllFit id low high rows
      → AllFit id low high (used_as x name how values rows)
  other_used action.Set name not how values rows h = other_with name not how CommandLine values (without name rows) (fit_without name rows h)
  other_used action.SetTrue name not how values rows h = other_with name not how CommandLine values (without name rows) (fit_without name rows h)
  other_used action.SetFalse name not how values rows h = other_with name not how CommandLine values (without name rows) (fit_without name rows h)
  other_used action.Append name not how values rows h = other_with name not how CommandLine values rows h
  other_used action.Count name not how [] rows h =
      other_count name not how CommandLine (min (count_of name rows + 1) 255) (without name rows) (fit_without name rows h)
  other_used action.Count name not how (v ∷ vs) rows h = other_with name not how CommandLine (v ∷ vs) (without name rows) (fit_without name rows h)
  other_used action.Help name not how values rows h = h
  other_used action.HelpShort name not how values rows h = h
  other_used action.HelpLong name not how values rows h = h
  other_used action.Version name not how values rows h = h

  -- ---- the option's own rows

  number_with : (name : Text) (how : Reading) (s : ValueSource) (values : List Text) (rows : List Row) → how ≡ reading.WithoutMinus → FirstIn low high values →
      AllFit id low high rows
      → AllFit id low high (with_values name how s values rows)
  number_with name how s values rows read first h =
      fit_at name (more_values s values) (record { id = name; values = values; count = None; source = Some s; reading = how } ∷ []) rows
      (λ r e fits. ((λ f. ((fits f).0, first_append low high r.values values (fits f).1 first)), tt)) ((λ f. (read, first)), tt) h

-- ---- the arguments

-- whether the parser takes the numbers of the range
abbrev pub is_range : (low high : ℕ) → Option ValueParser → Bool
is_range low high (Some (vp.Signed (pos l) (pos h))) = (l == low) && (h == high)
is_range low high _ = false

abbrev pub is_set : ArgAction → Bool
is_set action.Set = true
is_set _ = false

-- whether the argument has another name, or is the option
abbrev pub is_apart_or_number : Text → (low high : ℕ) → Rule → Bool
is_apart_or_number id low high a = not (bytes_eq a.id id) || (is_range low high a.parser && (is_set (action_of a) && is_empty a.defaults))

range_is : (low high : ℕ) (o : Option ValueParser) → is_range low high o ≡ true → o ≡ Some (vp.Signed (pos low) (pos high))
range_is low high None e = cc
range_is low high (Some (vp.Signed (pos l) (pos h))) e =
    let p = both (l == low) (h == high) e in
    rw (eqb-true l low p.0, eqb-true h high p.1) refl
range_is low high (Some (vp.Signed (pos l) (negsuc h))) e = cc
range_is low high (Some (vp.Signed (negsuc l) (pos h))) e = cc
range_is low high (Some (vp.Signed (negsuc l) (negsuc h))) e = cc
range_is low high (Some vp.String) e = cc
range_is low high (Some vp.Falsey) e = cc
range_is low high (Some vp.NonEmptyString) e = cc
range_is low high (Some vp.Bool) e = cc
range_is low high (Some vp.Boolish) e = cc
range_is low high (Some (vp.Unsigned l h)) e = cc
range_is low high (Some vp.Float) e = cc
range_is low high (Some vp.Char) e = cc
range_is low high (Some (vp.Names names)) e = cc
range_is low high (Some (vp.Values values)) e = cc

-- ---- one use of an argument

-- The first of some values without a fault spells a number in the range.
first_in : (low high : ℕ) (ignore_case : Bool) (values : List Text) → values_kinds ignore_case (vp.Signed (pos low) (pos high)) values ≡ [] →
    FirstIn low high values
first_in low high ignore_case [] e = tt
first_in low high ignore_case (v ∷ vs) e = go (is_signed_in (pos low) (pos high) v) refl (neither _ _ e).0
  where
    go : (b : Bool) → is_signed_in (pos low) (pos high) v ≡ b → cond b [] (kind.ValueValidation ∷ []) ≡ [] → b ≡ true
    go true is e = refl
    go false is e = cc

number_used_as : (id : Text) (low high : ℕ) (x : ArgAction) (again : Bool) (a : Rule) (values : List Text) (rows : List Row) → is_set x ≡ true
    → a.parser ≡ Some (vp.Signed (pos low) (pos high)) → action_fault x again a values rows ≡ [] → AllFit id low high rows →
    AllFit id low high (used_as x a.id (reading_by a) values rows)
number_used_as id low high action.Set again a values rows set parser e h =
    let fault = (neither (repeat_fault again a.id rows) (values_kinds a.ignore_case (parser_of_value a.parser) values) e).1 in
    let first = first_in low high a.ignore_case values (rw parser at fault) in
    number_with id low high a.id (reading_by a) CommandLine values (without a.id rows) (rw parser refl) first (fit_without id low high a.id rows h)
number_used_as id low high action.SetTrue again a values rows set parser e h = cc
number_used_as id low high action.SetFalse again a values rows set parser e h = cc
number_used_as id low high action.Append again a values rows set parser e h = cc
number_used_as id low high action.Count again a values rows set parser e h = cc
number_used_as id low high action.Help again a values rows set parser e h = cc
number_used_as id low high action.HelpShort again a values rows set parser e h = cc
number_used_as id low high action.HelpLong again a values rows set parser e h = cc
number_used_as id low high action.Version again a values rows set parser e h = cc

fit_used : (id : Text) (low high : ℕ) (again : Bool) (a : Rule) (values : List Text) (rows : List Row) → is_apart_or_number id low high a ≡ true →
    use_fault again a values rows ≡ []
    → AllFit id low high rows → AllFit id low high (used a values rows)
fit_used id low high again a values rows good e h = go (bytes_eq a.id id) refl good
  where
    go : (b : Bool) → bytes_eq a.id id ≡ b → (not b || (is_range low high a.parser && (is_set (action_of a) && is_empty a.defaults))) ≡ true →
        AllFit id low high (used a values rows)
    go false is good = other_used id low high (action_of a) a.id is (reading_by a) (values_or_missing a values) rows h
    go true is good =
        let p = both (is_range low high a.parser) (is_set (action_of a) && is_empty a.defaults) good in
        let q = both (is_set (action_of a)) (is_empty a.defaults) p.1 in
        number_used_as id low high (action_of a) again a (values_or_missing a values) rows q.0 (range_is low high a.parser p.0) (neither _ _ e).1 h

fit_default : (id : Text) (low high : ℕ) (rows : List Row) (a : Rule) → is_apart_or_number id low high a ≡ true → AllFit id low high rows →
    AllFit id low high (with_default rows a)
fit_default id low high rows a good h = by_row (has_row a.id rows) (bytes_eq a.id id) refl good
  where
    none : (values : List Text) → is_empty values ≡ true → AllFit id low high (default_rows a.id (reading_by a) values rows)
    none [] e = h
    none (v ∷ vs) e = let zero : length (v ∷ vs) ≡ 0 = eqb-true (length (v ∷ vs)) 0 e in absurd (omega arith)

    other : (values : List Text) → bytes_eq a.id id ≡ false → AllFit id low high (default_rows a.id (reading_by a) values rows)
    other [] is = h
    other (v ∷ vs) is = other_with id low high a.id is (reading_by a) DefaultValue (v ∷ vs) rows h

    by_row : (has b : Bool) → bytes_eq a.id id ≡ b → (not b || (is_range low high a.parser && (is_set (action_of a) && is_empty a.defaults))) ≡ true
        → AllFit id low high (cond has rows (default_rows a.id (reading_by a) a.defaults rows))
    by_row true b is good = h
    by_row false false is good = other a.defaults is
    by_row false true is good =
        let p = both (is_range low high a.parser) (is_set (action_of a) && is_empty a.defaults) good in
        none a.defaults (both (is_set (action_of a)) (is_empty a.defaults) p.1).1

-- ---- the rows at the end of the level

read_without_minus : (low high : ℕ) (r : Row) → r.reading ≡ reading.WithoutMinus → FirstIn low high r.values
    → (row_text r ≡ option_map without_minus (slice_get r.values 0)) × IfSome (slice_get r.values 0) (IsSignedIn (pos low) (pos high))
read_without_minus low high r is first = (ap (λ (how : Reading). option_map (read_as how) (slice_get r.values 0)) is, go (slice_get r.values 0) first)
  where
    go : (o : Option Text) → IfSome o (λ v. is_signed_in (pos low) (pos high) v ≡ true) → IfSome o (IsSignedIn (pos low) (pos high))
    go None h = tt
    go (Some v) h = accepts-Accepts false (vp.Signed (pos low) (pos high)) v h

number_of_rows : (o : Bounds) (rows : List Row) → AllFit o.name o.low o.high rows → HasNumber o rows
number_of_rows o [] h = (refl, tt)
number_of_rows o (r ∷ rs) h = go (bytes_eq r.id o.name) refl (number_of_rows o rs h.1)
  where
    found : Bool → Option Row
    found b = cond b (Some r) (find (λ x. bytes_eq x.id o.name) rs)

    go : (b : Bool) → bytes_eq r.id o.name ≡ b → HasNumber o rs
        → (option_and_then row_text (found b) ≡ option_map without_minus (option_and_then (λ (x : Row). slice_get x.values 0) (found b)))
        × IfSome (option_and_then (λ (x : Row). slice_get x.values 0) (found b)) (IsSignedIn (pos o.low) (pos o.high))
    go true is rest = let fits = h.0 is in read_without_minus o.low o.high r fits.0 fits.1
    go false is rest = rest

-- The option's text, if given, spells a number in the range.
pub number_there : (s : Shape) (o : Bounds) (words : List Text) → list_all (is_apart_or_number o.name o.low o.high) s.rules ≡ true
    → level_fault s [] nothing_held words false [] ≡ [] → HasNumber o (rows_after s.rules [] words)
number_there s o words all e =
    let good = is_apart_or_number o.name o.low o.high in
    let kept = rows_kept (AllFit o.name o.low o.high) good (fit_used o.name o.low o.high) (fit_default o.name o.low o.high) tt s words all e in
    number_of_rows o (rows_after s.rules [] words) kept.0
