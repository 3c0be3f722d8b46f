-- For words without a fault, each row at the end of a level has a value, and each required argument has a row.
use Rattle.std.proofs.Common.{◌≡◌, ◌<◌, ◌+◌, ◌&&◌, ◌||◌, ◌⊎◌, ℕ, Bool, cond, true, false, not, inl, inr, refl, sym}
use Rattle.std.proofs.Common.{arith, true≢false, List, [], ◌∷◌, ◌++◌, length, min, Option, Some, None, is_some}
use Rattle.std.proofs.Common.{nat_lt}
use Rattle.std.specs.Option.{option_map_or}
use Rattle.std.proofs.lemmas.List.{length-append}
use Rattle.std.specs.Prelude.{⊤, find, option_and_then, slice_get}
use Rattle.std.specs.List.{list_all}
use Rattle.std.specs.Str.{bytes_eq}
use Rattle.clap.specs.Facts.{explicit_source, unwrap_or_range}
use Rattle.clap.specs.Matches.{count_text}
use Rattle.clap.specs.Kinds.{Kinds}
use Rattle.clap.specs.Faults.{check_fault, level_fault, use_fault}
use Rattle.clap.specs.Simple.{Shape}
use Rattle.clap.specs.Takes.{is_given}
use Rattle.clap.specs.Walk.{Row, Rule, Text, action_of, at_row, count_of, default_rows, first_of, has_row}
use Rattle.clap.specs.Walk.{is_empty, more_values, new_count, nothing_held, reading_by, rows_after, used}
use Rattle.clap.specs.Walk.{used_as, values_or_missing, with_count, with_default, with_values, without}
use Rattle.clap.specs.declared.builder.action.ArgAction.{ArgAction}
use Rattle.clap.specs.declared.builder.action.ArgAction.TheVariants as action
use Rattle.clap.specs.declared.builder.value_parser.Reading.{Reading}
use Rattle.clap.specs.declared.error.kind.ErrorKind.TheVariants as kind
use Rattle.clap.specs.declared.parser.matches.ValueSource.{ValueSource}
use Rattle.clap.specs.declared.parser.matches.ValueSource.TheVariants.{DefaultValue, CommandLine}
use Rattle.settings.proofs.Walks.{neither, rows_kept}

-- ---- rows

-- Each row has a value.
abbrev Valued : List Row → Type 0
Valued [] = ⊤
Valued (r ∷ rs) = (0 < length r.values) × Valued rs

valued_append : (xs ys : List Row) → Valued xs → Valued ys → Valued (xs ++ ys)
valued_append [] ys h k = k
valued_append (x ∷ xs) ys h k = (h.0, valued_append xs ys h.1 k)

valued_at : (id : Text) (change : Row → List Row) (missing rows : List Row) → ((r : Row) → 0 < length r.values → Valued (change r)) → Valued missing
    → Valued rows → Valued (at_row id change missing rows)
valued_at id change missing [] keeps new h = new
valued_at id change missing (r ∷ rs) keeps new h = go (bytes_eq r.id id) (valued_at id change missing rs keeps new h.1)
  where
    go : (b : Bool) → Valued (at_row id change missing rs) → Valued (cond b (change r ++ rs) (r ∷ at_row id change missing rs))
    go true rest = valued_append (change r) rs (keeps r h.0) h.1
    go false rest = (h.0, rest)

valued_without : (id : Text) (rows : List Row) → Valued rows → Valued (without id rows)
valued_without id rows h = valued_at id (λ _. []) [] rows (λ r lt. tt) tt h

valued_with : (id : Text) (how : Reading) (s : ValueSource) (values : List Text) (rows : List Row) → 0 < length values → Valued rows
    → Valued (with_values id how s values rows)
valued_with id how s values rows lt h =
    valued_at id (more_values s values) (record { id = id; values = values; count = None; source = Some s; reading = how } ∷ []) rows
    (λ r some. (simp length-append (omega arith), tt)) (lt, tt) h

valued_count : (id : Text) (how : Reading) (s : ValueSource) (n : ℕ) (rows : List Row) → Valued rows → Valued (with_count id how s n rows)
valued_count id how s n rows h =
    valued_at id (new_count s n) (record { id = id; values = count_text n ∷ []; count = Some n; source = Some s; reading = how } ∷ []) rows
    (λ r some. (simp length-append (omega arith), tt)) (omega arith, tt) h

-- whether an argument gives no value by itself
abbrev pub takes_nothing : ArgAction → Bool
takes_nothing action.Set = false
takes_nothing action.Append = false
takes_nothing action.SetTrue = false
takes_nothing action.SetFalse = false
takes_nothing _ = true

-- whether every use of the argument gives it a value or is a fault
abbrev pub gives_value : Rule → Bool
gives_value a = nat_lt 0 (unwrap_or_range a.range).start_inclusive || (not (is_empty a.missing) || takes_nothing (action_of a))

-- ---- one use of an argument

valued_used_as : (x : ArgAction) (id : Text) (how : Reading) (values : List Text) (rows : List Row) → (takes_nothing x ≡ true) ⊎ (0 < length values) →
    Valued rows
    → Valued (used_as x id how values rows)
valued_used_as action.Set id how values rows (inl e) h = absurd (true≢false (sym e))
valued_used_as action.Set id how values rows (inr lt) h = valued_with id how CommandLine values (without id rows) lt (valued_without id rows h)
valued_used_as action.SetTrue id how values rows (inl e) h = absurd (true≢false (sym e))
valued_used_as action.SetTrue id how values rows (inr lt) h = valued_with id how CommandLine values (without id rows) lt (valued_without id rows h)
valued_used_as action.SetFalse id how values rows (inl e) h = absurd (true≢false (sym e))
valued_used_as action.SetFalse id how values rows (inr lt) h = valued_with id how CommandLine values (without id rows) lt (valued_without id rows h)
valued_used_as action.Append id how values rows (inl e) h = absurd (true≢false (sym e))
valued_used_as action.Append id how values rows (inr lt) h = valued_with id how CommandLine values rows lt h
valued_used_as action.Count id how [] rows some h =
    valued_count id how CommandLine (min (count_of id rows + 1) 255) (without id rows) (valued_without id rows h)
valued_used_as action.Count id how (v ∷ vs) rows some h = valued_with id how CommandLine (v ∷ vs) (without id rows) (omega arith) (valued_without id rows h)
valued_used_as action.Help id how values rows some h = h
valued_used_as action.HelpShort id how values rows some h = h
valued_used_as action.HelpLong id how values rows some h = h
valued_used_as action.Version id how values rows some h = h

-- If no value is given without a fault, the argument takes none or has one for that case.
enough : (wants : Bool) (rest : Kinds) (missing : List Text) (nothing : Bool) → cond (wants && true) (kind.InvalidValue ∷ []) rest ≡ []
    → (wants || (not (is_empty missing) || nothing)) ≡ true → (nothing ≡ true) ⊎ (0 < length missing)
enough true rest missing nothing e gives = absurd (some_kind e)
  where
    some_kind : kind.InvalidValue ∷ [] ≡ [] → ⊥
    some_kind e = cc
enough false rest [] nothing e gives = inl gives
enough false rest (v ∷ vs) nothing e gives = inr (omega arith)

some_given : (again : Bool) (a : Rule) (values : List Text) (rows : List Row) → gives_value a ≡ true → use_fault again a values rows ≡ []
    → (takes_nothing (action_of a) ≡ true) ⊎ (0 < length (values_or_missing a values))
some_given again a [] rows gives e =
    enough (nat_lt 0 (unwrap_or_range a.range).start_inclusive) _ a.missing (takes_nothing (action_of a)) (neither _ _ e).0 gives
some_given again a (v ∷ vs) rows gives e = inr (omega arith)

valued_used : (again : Bool) (a : Rule) (values : List Text) (rows : List Row) → gives_value a ≡ true → use_fault again a values rows ≡ [] → Valued rows →
    Valued (used a values rows)
valued_used again a values rows gives e h =
    valued_used_as (action_of a) a.id (reading_by a) (values_or_missing a values) rows (some_given again a values rows gives e) h

valued_default : (rows : List Row) (a : Rule) → Valued rows → Valued (with_default rows a)
valued_default rows a h = go (has_row a.id rows) a.defaults
  where
    go : (b : Bool) (values : List Text) → Valued (cond b rows (default_rows a.id (reading_by a) values rows))
    go true values = h
    go false [] = h
    go false (v ∷ vs) = valued_with a.id (reading_by a) DefaultValue (v ∷ vs) rows (omega arith) h

-- ---- what is required

first_there : (values : List Text) → 0 < length values → is_some (slice_get values 0) ≡ true
first_there [] lt = absurd (omega arith)
first_there (v ∷ vs) lt = refl

-- An argument that was given has a value.
given_value : (id : Text) (rows : List Row) → Valued rows → is_given id rows ≡ true → is_some (first_of id rows) ≡ true
given_value id [] h e = absurd (true≢false (sym e))
given_value id (r ∷ rs) h e = go (bytes_eq r.id id) e (given_value id rs h.1)
  where
    found : Bool → Option Row
    found b = cond b (Some r) (find (λ x. bytes_eq x.id id) rs)

    go : (b : Bool) → option_map_or (λ (x : Row). explicit_source x.source) (found b) false ≡ true → (is_given id rs ≡ true → is_some (first_of id rs) ≡ true)
        → is_some (option_and_then (λ (x : Row). slice_get x.values 0) (found b)) ≡ true
    go true e rest = first_there r.values h.0
    go false e rest = rest e

-- An argument that the level requires has a value.
pub required_there : (s : Shape) (id : Text) (words : List Text) → list_all gives_value s.rules ≡ true
    → ((rows : List Row) → check_fault s rows false ≡ [] → is_given id rows ≡ true) → level_fault s [] nothing_held words false [] ≡ []
    → is_some (first_of id (rows_after s.rules [] words)) ≡ true
required_there s id words all wants e =
    let kept = rows_kept Valued gives_value valued_used (λ rows a good. valued_default rows a) tt s words all e in
    given_value id (rows_after s.rules [] words) kept.0 (wants (rows_after s.rules [] words) kept.1)
