-- Rows keep their meaning as tables grow.
use Rattle.std.proofs.Common.{◌≡◌, ℕ, Bool, List, [], ◌∷◌, ◌++◌, length, refl, sym, ap, ◌∙◌, arith, length-append}
use Rattle.std.specs.Prelude.{slice_index}
use Rattle.std.proofs.lemmas.List.{get_or_append_left}
use Rattle.local_reduction.specs.Forgetting.{kept_by}
use Rattle.state_store.specs.declared.state_tables.Extent.{Extent}
use Rattle.state_store.specs.Placed.{Placed}
use Rattle.state_store.specs.StateTables.{TableLists, nowhere, placed_at, HasGrown, means, IsRow}
use Rattle.state_store.proofs.Listed.{listed_same}

-- Growth of tables is reflexive.
pub kept_all : (t : TableLists) → HasGrown t t
kept_all t = record { live = refl; local_states = omega arith; words = omega arith; same_local_state = λ i l. refl; same_words = λ i l. refl }

-- Growth of tables is transitive.
pub kept_on : (t u v : TableLists) → HasGrown t u → HasGrown u v → HasGrown t v
kept_on t u v h k = record {
  live = k.live ∙ h.live;
  local_states = omega (arith, h.local_states, k.local_states);
  words = omega (arith, h.words, k.words);
  same_local_state = λ i l. k.same_local_state i (omega (arith, l, h.local_states)) ∙ h.same_local_state i l;
  same_words = λ i l. k.same_words i (omega (arith, l, h.words)) ∙ h.same_words i l;
}

pub local_state_pushed : (live : List (List Bool)) (local_states : List Placed) (words : List (List ℕ)) (a : Placed) →
    HasGrown (record { live = live; local_states = local_states; words = words }) (record { live = live; local_states = local_states ++ a ∷ []; words = words })
local_state_pushed live local_states words a = record {
  live = refl;
  local_states = omega (arith, length-append local_states (a ∷ []));
  words = omega arith;
  same_local_state = λ i l. get_or_append_left local_states (a ∷ []) nowhere i l;
  same_words = λ i l. refl;
}

pub words_pushed : (live : List (List Bool)) (local_states : List Placed) (words : List (List ℕ)) (list : List ℕ) →
    HasGrown (record { live = live; local_states = local_states; words = words })
    (record { live = live; local_states = local_states; words = words ++ list ∷ [] })
words_pushed live local_states words list = record {
  live = refl;
  local_states = omega arith;
  words = omega (arith, length-append words (list ∷ []));
  same_local_state = λ i l. refl;
  same_words = λ i l. get_or_append_left words (list ∷ []) [] i l;
}

module _ (e : Extent) (t u : TableLists) (row : List ℕ) (kept : HasGrown t u) (h : IsRow e t row) where
  -- A row of the old tables is a row of the grown ones.
  pub row_kept : IsRow e u row
  row_kept = record {
    there = λ p l. let a = h.there p l in omega (arith, a, kept.local_states);
    own = λ p l. ap (λ (a : Placed). a.setting) (kept.same_local_state (slice_index row p) (h.there p l)) ∙ h.own p l;
    words = omega (arith, h.words, kept.words);
    all = ap length (kept.same_words (slice_index row e.processors) h.words) ∙ h.all;
    rest = h.rest;
  }

  -- A row means the same state after the tables have grown.
  pub means_kept : means e t row ≡ means e u row
  means_kept =
      let local_states = listed_same (λ p. kept_by u.live (placed_at u (slice_index row p)).local_state) e.processors
      (λ p. kept_by t.live (placed_at t (slice_index row p)).local_state)
      (λ p l. λ i. kept_by (sym kept.live i) (sym (kept.same_local_state (slice_index row p) (h.there p l)) i).local_state) in
      let shared = sym (kept.same_words (slice_index row e.processors) h.words) in
      λ i. record { local_states = local_states i; shared = shared i }
