-- Rows that an authority knows in full. Each fragment knows one of them.
use Rattle.std.specs.Prelude.{◌≡◌, ℕ, List, [], ◌∷◌, ◌++◌, length, Some, slice_get, slice_set, true, false}
use mathlib.Core.Option.{some}
use lib.ListN.{get_elem?}
use Rattle.atomic_table.specs.Seated.{TableId}
use Rattle.atomic_table.specs.Table.{Me}
use Rattle.ghost_map.specs.declared.rule.View.{View}

-- the name of no table
abbrev pub no_table : TableId
no_table = record { words = 0; slots = 0; views_name = 0; atom = 0; block = 0; offset = 0; slot_names = [] }

module _ {R : Type 0} where
  -- the authority, with the fragments that it has in hand
  abbrev pub authority : List R → List (ℕ × R) → View R
  authority all held = record { keeps = true; all = all; held = held }

  abbrev pub fragment : List (ℕ × R) → View R
  fragment held = record { keeps = false; all = []; held = held }

  abbrev pub nobody : View R
  nobody = fragment []

  abbrev pub let_go : View R → View R
  let_go v = record { keeps = v.keeps; all = v.all; held = [] }

  abbrev pub hold : View R → View R
  hold v = fragment v.held

  abbrev pub taken : View R → View R → View R
  taken v w = record { keeps = v.keeps; all = v.all; held = w.held }

  -- A view fits the rule: only the seat of the authority keeps all rows, and a row is held by its owner alone, as it
  -- is among all.
  abbrev pub Fits : List R → ℕ → (ℕ → ℕ) → ℕ → View R → Type 0
  Fits all authority_seat owner by v =
      (v.keeps ≡ true → (by ≡ authority_seat) × (v.all ≡ all))
      × ((who : ℕ) (row : R) → v.held ≡ (who, row) ∷ [] → (by ≡ owner who) × (slice_get all who ≡ Some row))

  -- One seat at most keeps all rows, and each row is held by one seat at most, as it is among all.
  abbrev pub Kept : List (View R) → Type 0
  Kept views =
      (all : List R) × (authority_seat : ℕ) × (owner : ℕ → ℕ)
      × ((by : ℕ) (v : View R) → get_elem? views by ≡ some v → Fits all authority_seat owner by v)

  -- The authority has one more row, and that row's fragment in hand.
  abbrev pub Allocated : R → Me (Unit {0}) (View R) → Me (Unit {0}) (View R) → Type 0
  Allocated row v w = w ≡ (authority (v.0.all ++ row ∷ []) ((length v.0.all, row) ∷ []), v.1)

  -- The fragment in hand agreed with the authority, and both now have the new row in its place.
  abbrev pub Written : R → Me (Unit {0}) (View R) → Me (Unit {0}) (View R) → Type 0
  Written new v w = (who : ℕ) (row : R) → v.0.held ≡ (who, row) ∷ []
      → (slice_get v.0.all who ≡ Some row) × (w ≡ (authority (slice_set v.0.all who new) ((who, new) ∷ []), v.1))

  -- The fragment of row `who` agreed with the authority, which had these rows. Both now have the new row in its place.
  pub record IsWritten (new : R) (rows : List R) (who : ℕ) (row : R) (rows' : List R)
      (fragment' : List (ℕ × R)) : Type 0 where
    pub agreed : slice_get rows who ≡ Some row
    pub authority : rows' ≡ slice_set rows who new
    pub fragment : fragment' ≡ (who, new) ∷ []

  -- what the first of a badge's views holds
  abbrev pub held_of : List (View R) → List (ℕ × R)
  held_of [] = []
  held_of (v ∷ vs) = v.held
