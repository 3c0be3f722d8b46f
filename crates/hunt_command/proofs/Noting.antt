-- A result is noted: its place, and that no result is counted more often than results were noted.
use Rattle.std.proofs.Common.{◌≡◌, ℕ, zero, suc, ◌+◌, ◌≤◌, Bool, true, false, cond, not, List, [], ◌∷◌, ◌++◌, Option, Some, None}
use Rattle.std.proofs.Common.{String, Global, string_bytes, length, take, refl, sym, ap, subst, ◌∙◌, arith, append_assoc}
use Rattle.std.specs.Prelude.{All, bytes_eq, is_some, nat_lt, position, slice_get, slice_set}
use Rattle.std.specs.List.{position_or_len}
use Rattle.std.specs.Map.{keys_of}
use Rattle.std.specs.Option.{option_map}
use Rattle.indexmap.specs.Layout.{set_value_at}
use Rattle.std.proofs.lemmas.Bool.{ltb-false}
use Rattle.std.proofs.lemmas.List.{append-nil, length-map, map-append, take_all, take_more}
use Rattle.std.proofs.lemmas.Map.Entries.{length-keys_of}
use Rattle.std.proofs.lemmas.List.Elements.{All-append, All-cons, All-nil, All-set}
use Rattle.std.proofs.lemmas.Option.{get_or_from_slice_get, slice_get-map, slice_get_past, slice_get_within}
use Rattle.hunt_command.specs.declared.findings.Counted.{Counted}
use Rattle.hunt_command.specs.Findings.{FindingState, finding_lines, findings_lines, firsts, found_in, noted, noted_at, once_more, place_of}

-- ---- a place that is found, or not

pub noted_there : (fs : List FindingState) (text printed : List ℕ) (number : ℕ) (f : FindingState) → slice_get fs (place_of text fs) ≡ Some f →
    noted fs text printed number ≡ slice_set fs (place_of text fs) (once_more f)
noted_there fs text printed number f there = ap (λ o. noted_at fs (place_of text fs) o text printed number) there

pub noted_new : (fs : List FindingState) (text printed : List ℕ) (number : ℕ) → length fs ≤ place_of text fs →
    noted fs text printed number ≡ fs ++ (record { text = text; printed = printed; runs = 1; first = number }) ∷ []
noted_new fs text printed number past =
    ap (λ o. noted_at fs (place_of text fs) o text printed number) (slice_get_past fs (place_of text fs) past)

-- ---- the entries of a map

module _ {K V : Type 0} (text : K → List ℕ) (printed : V → List ℕ) (runs first : V → ℕ) where
  abbrev Found : List (K × V) → List FindingState
  Found es = found_in text printed runs first es

  abbrev One : K → V → FindingState
  One k v = record { text = text k; printed = printed v; runs = runs v; first = first v }

  -- A text is found at the place where the map finds its key.
  pub place_in : (t : List ℕ) (is : K → Bool) → ((k : K) → is k ≡ bytes_eq t (text k)) → (es : List (K × V)) →
      position_or_len is (keys_of es) ≡ place_of t (Found es)
  place_in t is same [] = refl
  place_in t is same (e ∷ es) = λ j. cond (not (same e.0 j)) (1 + place_in t is same es j) 0

  -- The result at a place is that of the map's entry there.
  pub entry_in : (es : List (K × V)) (i : ℕ) (k : K) (v : V) → slice_get es i ≡ Some (k, v) → slice_get (Found es) i ≡ Some (One k v)
  entry_in es i k v there = slice_get-map _ es i ∙ ap (option_map (λ (e : K × V). One e.0 e.1)) there

  -- If the value of an entry is replaced, only the result at its place is.
  pub set_in : (es : List (K × V)) (i : ℕ) (k : K) (v w : V) → slice_get es i ≡ Some (k, v) →
      Found (set_value_at es i w) ≡ slice_set (Found es) i (One k w)
  set_in [] i k v w there = absurd (cc)
  set_in (e ∷ es) zero k v w there = (let same : e ≡ (k, v) = cc in ap (λ (x : K × V). One x.0 w ∷ Found es) same)
  set_in (e ∷ es) (suc i) k v w there = ap (λ fs. One e.0 e.1 ∷ fs) (set_in es i k v w there)

  -- The number of the first run at a place is that of the map's entry there.
  pub first_in : (es : List (K × V)) (i : ℕ) (k : K) (v : V) → slice_get es i ≡ Some (k, v) → slice_get (firsts (Found es)) i ≡ Some (first v)
  first_in es i k v there =
      slice_get-map _ (Found es) i ∙ ap (option_map (λ (f : FindingState). f.first)) (entry_in es i k v there)

  -- If an entry is appended to the map, its result is appended to the results.
  pub new_in : (es : List (K × V)) (k : K) (v : V) → Found (es ++ (k, v) ∷ []) ≡ Found es ++ One k v ∷ []
  new_in es k v = map-append _ es ((k, v) ∷ [])

  module _ (t : List ℕ) (is : K → Bool) (same : (k : K) → is k ≡ bytes_eq t (text k)) (es : List (K × V)) where
    by_test : (i : Option ℕ) → position is (keys_of es) ≡ i → (b : Bool) → nat_lt (position_or_len is (keys_of es)) (length (keys_of es)) ≡ b →
        cond b (Some (position_or_len is (keys_of es))) None ≡ i
    by_test i at b e = ap (λ c. cond c (Some (position_or_len is (keys_of es))) None) (sym e) ∙ at

    -- If the map does not find the key, no result has the text.
    pub absent_in : position is (keys_of es) ≡ None → length (Found es) ≤ place_of t (Found es)
    absent_in none = by (nat_lt (position_or_len is (keys_of es)) (length (keys_of es))) refl
      where
        by : (b : Bool) → nat_lt (position_or_len is (keys_of es)) (length (keys_of es)) ≡ b → length (Found es) ≤ place_of t (Found es)
        by true e = let bad : Some (position_or_len is (keys_of es)) ≡ None = by_test None none true e in absurd (cc)
        by false e =
            let past = ltb-false (position_or_len is (keys_of es)) (length (keys_of es)) e in
            let keys = length-keys_of es in
            let found = length-map es (λ (e : K × V). One e.0 e.1) in
            let place = place_in t is same es in omega (arith, past, keys, found, place)

    -- If the map finds the key at a place, the result with the text is at this place.
    pub present_in : (i : ℕ) → position is (keys_of es) ≡ Some i → place_of t (Found es) ≡ i
    present_in i at = by (nat_lt (position_or_len is (keys_of es)) (length (keys_of es))) refl
      where
        by : (b : Bool) → nat_lt (position_or_len is (keys_of es)) (length (keys_of es)) ≡ b → place_of t (Found es) ≡ i
        by true e =
            let there : Some (position_or_len is (keys_of es)) ≡ Some i = by_test (Some i) at true e in
            let one : position_or_len is (keys_of es) ≡ i = cc in sym (place_in t is same es) ∙ one
        by false e = let bad : None ≡ Some i = by_test (Some i) at false e in absurd (cc)

    -- If the map appends a new key, the results are those after a run with its text.
    pub noted_absent : (es' : List (K × V)) (k : K) (v : V) → text k ≡ t → runs v ≡ 1 → position is (keys_of es) ≡ None →
        es' ≡ es ++ (k, v) ∷ [] → Found es' ≡ noted (Found es) t (printed v) (first v)
    noted_absent es' k v named once none more =
        ap Found more ∙ new_in es k v
        ∙ (λ j. Found es ++ (record { text = named j; printed = printed v; runs = once j; first = first v }) ∷ [])
        ∙ sym (noted_new (Found es) t (printed v) (first v) (absent_in none))

    -- If the map counts an existing key once more, the results are those after a run with its text.
    pub noted_present : (es' : List (K × V)) (i : ℕ) (k : K) (v w : V) (shown : List ℕ) (number : ℕ) → position is (keys_of es) ≡ Some i →
        slice_get es i ≡ Some (k, v) → One k w ≡ once_more (One k v) → es' ≡ set_value_at es i w →
        Found es' ≡ noted (Found es) t shown number
    noted_present es' i k v w shown number at there more now =
        let place = present_in i at in
        ap Found now ∙ set_in es i k v w there ∙ ap (slice_set (Found es) i) more
        ∙ ap (λ p. slice_set (Found es) p (once_more (One k v))) (sym place)
        ∙ sym (noted_there (Found es) t shown number (One k v) (ap (slice_get (Found es)) place ∙ entry_in es i k v there))

-- ---- the entries of the results

abbrev pub text_in : String Global → List ℕ
text_in s = string_bytes s

abbrev pub printed_in : Counted → List ℕ
printed_in counted = string_bytes counted.printed

abbrev pub runs_in : Counted → ℕ
runs_in counted = counted.runs

abbrev pub first_of : Counted → ℕ
first_of counted = counted.first

-- If an option has no value, it is None.
pub none_of : {X : Type 0} → (o : Option X) → false ≡ is_some o → o ≡ None
none_of None e = refl
none_of (Some x) e = absurd (cc)

-- There are as many numbers of first runs as different results.
pub firsts_length : (fs : List FindingState) → length (firsts fs) ≡ length fs
firsts_length fs = length-map fs _

-- ---- lines

-- the lines of a result
abbrev pub lines_of : FindingState → List ℕ
lines_of f = finding_lines f.runs f.first f.printed

lines_more : (xs : List FindingState) (f : FindingState) → findings_lines (xs ++ f ∷ []) ≡ findings_lines xs ++ lines_of f
lines_more [] f = append-nil (lines_of f)
lines_more (x ∷ xs) f = ap (λ ys. lines_of x ++ ys) (lines_more xs f) ∙ sym (append_assoc (lines_of x) (findings_lines xs) (lines_of f))

-- The lines of the first i + 1 results are those of the first i, and then those of the next.
pub lines_step : (fs : List FindingState) (i : ℕ) (f : FindingState) → slice_get fs i ≡ Some f →
    findings_lines (take (i + 1) fs) ≡ findings_lines (take i fs) ++ lines_of f
lines_step fs i f there =
    ap findings_lines (take_more fs i f (slice_get_within fs i f there)
    ∙ ap (λ g. take i fs ++ g ∷ []) (get_or_from_slice_get fs i f f there))
    ∙ lines_more (take i fs) f

pub lines_whole : (fs : List FindingState) (i : ℕ) → length fs ≤ i → findings_lines (take i fs) ≡ findings_lines fs
lines_whole fs i past = ap findings_lines (take_all i fs past)

-- ---- one more result

abbrev pub NoneOver : ℕ → List FindingState → Type 0
NoneOver n fs = All (λ (f : FindingState). f.runs ≤ n) fs

few_more : (fs : List FindingState) (n : ℕ) → NoneOver n fs → NoneOver (n + 1) fs
few_more fs n few i d inside = (let here = few i d inside in omega (arith, here))

-- If no result was counted more than n times, the one at this place was not.
pub few_here : (fs : List FindingState) (n i : ℕ) (f : FindingState) → slice_get fs i ≡ Some f → NoneOver n fs → f.runs ≤ n
few_here fs n i f there few =
    subst (λ (g : FindingState). g.runs ≤ n) (get_or_from_slice_get fs i f f there) (few i f (slice_get_within fs i f there))

-- If no result was counted more than n times, and one is counted once more, none was counted more than n + 1 times.
pub few_there : (fs : List FindingState) (n i : ℕ) (f : FindingState) → slice_get fs i ≡ Some f → NoneOver n fs →
    NoneOver (n + 1) (slice_set fs i (once_more f))
few_there fs n i f there few =
    All-set (λ (f : FindingState). f.runs ≤ n + 1) fs i (once_more f) (let here = few_here fs n i f there few in omega (arith, here))
    (few_more fs n few)

-- If no result was counted more than n times, and a new one is counted once, none was counted more than n + 1 times.
pub few_new : (fs : List FindingState) (n number : ℕ) (text printed : List ℕ) → NoneOver n fs →
    NoneOver (n + 1) (fs ++ (record { text = text; printed = printed; runs = 1; first = number }) ∷ [])
few_new fs n number text printed few =
    let P = λ (f : FindingState). f.runs ≤ n + 1 in
    All-append P fs ((record { text = text; printed = printed; runs = 1; first = number }) ∷ []) (few_more fs n few)
    (All-cons P (record { text = text; printed = printed; runs = 1; first = number }) [] (omega arith) (All-nil P))
