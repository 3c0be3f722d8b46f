-- A transition cache stays right as tables grow, and after a right answer is added.
use Rattle.std.proofs.Common.{◌≡◌, ◌⊎◌, inl, inr, ℕ, ◌<◌, Bool, true, false, cond, nat_eq, List, [], ◌∷◌, Option, Some, None}
use Rattle.std.proofs.Common.{length, refl, sym, ap, subst, ◌∙◌, arith}
use Rattle.std.specs.Prelude.{Result, Ok, Err, IfNone, IfSome, OnOk, OnErr, slice_index, slice_set}
use Rattle.std.specs.Cmp.Lexicographic.{pointwise}
use Rattle.std.proofs.lemmas.Bool.Decides.{Decides-eqb}
use Rattle.std.proofs.lemmas.Slice.Eq.{slice_eq-Decides}
use Rattle.std.specs.Map.{lookup, KeepsOthers}
use Rattle.flat_machine.specs.declared.event.Retired.{Retired}
use Rattle.flat_machine.specs.State.{Processor}
use Rattle.flat_machine.specs.declared.setting.Setting.{Setting}
use Rattle.flat_machine.specs.Turns.{turn_of}
use Rattle.hart.specs.Deciding.{after_reply}
use Rattle.local_reduction.specs.Exchanging.{AskNot}
use Rattle.local_reduction.specs.LocalStates.{LocalState, retire, alone, IsAtReference}
use Rattle.local_reduction.specs.Forgetting.{kept_by}
use Rattle.state_store.specs.Placed.{Placed, IsSame, HasRetired, HasGone, IsStill, IsQuiet}
use Rattle.state_store.specs.StateTables.{TableLists, placed_at, words_at, HasGrown, IsAfterReference}
use Rattle.state_store.specs.TransitionCache.{Remembered, nothing, answer_to, IsForgotten, IsNoted, KnowsLocalStates, KnowsLists}

pub after_reference_kept : (quietly : Bool) (code : List ℕ) (before : ℕ) (old : Placed) (t u : TableLists) (number : ℕ) →
    HasGrown t u → IsAfterReference quietly code before old t number →
    IsAfterReference quietly code before old u number
after_reference_kept quietly code before old t u number kept h =
    let same = kept.same_local_state number h.there in
    record {
      there = omega (arith, h.there, kept.local_states);
      setting = ap (λ (a : Placed). a.setting) same ∙ h.setting;
      count = h.count;
      gone = λ (done : Processor × Retired) is.
          subst (λ live. kept_by live (placed_at u number).local_state ≡ kept_by live (alone h.count old.setting code (retire old.local_state done)))
          (sym kept.live)
          (ap (λ (a : Placed). kept_by t.live a.local_state) same ∙ h.gone done is);
      at_reference = h.at_reference;
      quiet = h.quiet;
      later = h.later;
    }

-- The cache of references is still right after the tables have grown.
pub local_states_kept : (quietly : Bool) (code : List ℕ) (t u : TableLists) (m : Remembered) →
    HasGrown t u → KnowsLocalStates quietly code t m → KnowsLocalStates quietly code u m
local_states_kept quietly code t u m kept h number word before behind fact =
    let k = h number word before behind fact in (
      omega (arith, k.0, kept.local_states),
      subst (λ (a : Placed). IsAfterReference quietly code before a u behind) (sym (kept.same_local_state number k.0))
          (after_reference_kept quietly code before (placed_at t number) t u behind kept k.1),
    )

-- The cache of written lists is still right after the tables have grown.
pub lists_kept : (t u : TableLists) (m : Remembered) → HasGrown t u → KnowsLists t m → KnowsLists u m
lists_kept t u m kept h number word value written fact =
    let k = h number word value written fact in (
      omega (arith, k.0, kept.words),
      omega (arith, k.1, kept.words),
      kept.same_words written k.1 ∙ (k.2 ∙ ap (λ xs. slice_set xs word value) (sym (kept.same_words number k.0))),
    )

-- The cache of references is still right after a right answer is added.
pub local_states_remembered : (quietly : Bool) (code : List ℕ) (t : TableLists) (m n : Remembered) (number word before behind : ℕ) →
    KnowsLocalStates quietly code t m →
    IsNoted m (number ∷ word ∷ before ∷ []) behind n → number < length t.local_states → IsAfterReference quietly code before (placed_at t number) t behind →
    KnowsLocalStates quietly code t n
local_states_remembered quietly code t m n number word before behind h noted there is i w x j fact = at (noted (i ∷ w ∷ x ∷ []) j fact)
  where
    at : (answer_to m (i ∷ w ∷ x ∷ []) ≡ Some j) ⊎ (((i ∷ w ∷ x ∷ []) ≡ (number ∷ word ∷ before ∷ [])) × (j ≡ behind)) →
        (i < length t.local_states) × IsAfterReference quietly code x (placed_at t i) t j
    at (inl old) = h i w x j old
    at (inr new) =
        let first : number ≡ i = sym (ap (λ q. slice_index q 0) new.0) in
        let third : before ≡ x = sym (ap (λ q. slice_index q 2) new.0) in (
          subst (λ k. k < length t.local_states) first there,
          subst (λ k. IsAfterReference quietly code x (placed_at t i) t k) (sym new.1)
              (subst (λ y. IsAfterReference quietly code y (placed_at t i) t behind) third
              (subst (λ k. IsAfterReference quietly code before (placed_at t k) t behind) first is)),
        )

-- The cache of written lists is still right after a right answer is added.
pub lists_noted : (t : TableLists) (m n : Remembered) (number word value written : ℕ) → KnowsLists t m →
    IsNoted m (number ∷ word ∷ value ∷ []) written n → number < length t.words → written < length t.words →
    words_at t written ≡ slice_set (words_at t number) word value → KnowsLists t n
lists_noted t m n number word value written h noted there gives is i w v j fact = at (noted (i ∷ w ∷ v ∷ []) j fact)
  where
    at : (answer_to m (i ∷ w ∷ v ∷ []) ≡ Some j) ⊎ (((i ∷ w ∷ v ∷ []) ≡ (number ∷ word ∷ value ∷ [])) × (j ≡ written)) →
        (i < length t.words) × (j < length t.words) × (words_at t j ≡ slice_set (words_at t i) w v)
    at (inl old) = h i w v j old
    at (inr new) =
        let first : number ≡ i = sym (ap (λ q. slice_index q 0) new.0) in
        let second : word ≡ w = sym (ap (λ q. slice_index q 1) new.0) in
        let third : value ≡ v = sym (ap (λ q. slice_index q 2) new.0) in (
          subst (λ k. k < length t.words) first there,
          subst (λ k. k < length t.words) (sym new.1) gives,
          ap (words_at t) new.1 ∙ (is ∙ (λ d. slice_set (words_at t (first d)) (second d) (third d))),
        )

-- After an insertion, every answer was there before or is the one inserted.
pub noted_by : (m n : Remembered) (k : List ℕ) (v : ℕ) → ((q : List ℕ) → answer_to n q ≡ cond (pointwise nat_eq k q) (Some v) (answer_to m q)) →
    IsNoted m k v n
noted_by m n k v updates q a fact = at (pointwise nat_eq k q) refl
  where
    at : (b : Bool) → pointwise nat_eq k q ≡ b → (answer_to m q ≡ Some a) ⊎ ((q ≡ k) × (a ≡ v))
    at true e =
        let is : Some v ≡ Some a = sym (updates q ∙ ap (λ b. cond b (Some v) (answer_to m q)) e) ∙ fact in
        let same : v ≡ a = cc in
        inr (sym ((slice_eq-Decides {E = nat_eq} Decides-eqb k q true (sym e)).0 refl), sym same)
    at false e = inl (sym (updates q ∙ ap (λ b. cond b (Some v) (answer_to m q)) e) ∙ fact)

-- If an entry is inserted, or nothing changes, every answer was there before or is that entry's.
pub inserted_noted : (es fs : List (List ℕ × ℕ)) (k : List ℕ) (v : ℕ) →
    (((q : List ℕ) → lookup (pointwise nat_eq q) fs ≡ cond (pointwise nat_eq k q) (Some v) (lookup (pointwise nat_eq q) es))
    × (lookup (pointwise nat_eq k) fs ≡ Some v)
    × ((q : List ℕ) → pointwise nat_eq k q ≡ false → lookup (pointwise nat_eq q) fs ≡ lookup (pointwise nat_eq q) es)
    × KeepsOthers (pointwise nat_eq) (pointwise nat_eq k) es fs) ⊎ (fs ≡ es) →
    IsNoted (record { entries = es }) k v (record { entries = fs })
inserted_noted es fs k v (inl updates) = noted_by (record { entries = es }) (record { entries = fs }) k v updates.0
inserted_noted es fs k v (inr same) = λ q a fact. inl (ap (lookup (pointwise nat_eq q)) (sym same) ∙ fact)

-- After a key is removed, every answer was there before.
pub forgotten_by : (m n : Remembered) (k : List ℕ) → ((q : List ℕ) → answer_to n q ≡ cond (pointwise nat_eq k q) None (answer_to m q)) →
    IsForgotten m n
forgotten_by m n k updates q a fact = at (pointwise nat_eq k q) refl
  where
    at : (b : Bool) → pointwise nat_eq k q ≡ b → answer_to m q ≡ Some a
    at true e =
        let is : None ≡ Some a = sym (updates q ∙ ap (λ b. cond b None (answer_to m q)) e) ∙ fact in
        absurd (cc)
    at false e = sym (updates q ∙ ap (λ b. cond b None (answer_to m q)) e) ∙ fact

-- If an entry is removed, or nothing changes, every answer was there before.
pub removed_forgotten : (es fs : List (List ℕ × ℕ)) (r : Option (List ℕ × ℕ)) (P : List ℕ × ℕ → Type 0) →
    ((p : List ℕ × ℕ) → P p → (q : List ℕ) → lookup (pointwise nat_eq q) fs ≡ cond (pointwise nat_eq p.0 q) None (lookup (pointwise nat_eq q) es)) →
    IfSome r P → IfNone r (fs ≡ es) → IsForgotten (record { entries = es }) (record { entries = fs })
removed_forgotten es fs (Some p) P update some none = forgotten_by (record { entries = es }) (record { entries = fs }) p.0 (update p some)
removed_forgotten es fs None P update some none = λ q a fact. ap (lookup (pointwise nat_eq q)) (sym none) ∙ fact

-- If an answer is dropped and then one is added, every answer was there before or is the one added.
pub noted_on : (m k n : Remembered) (question : List ℕ) (answer : ℕ) → IsForgotten m k → IsNoted k question answer n → IsNoted m question answer n
noted_on m k n question answer forgot noted q a fact = by (noted q a fact)
  where
    by : (answer_to k q ≡ Some a) ⊎ ((q ≡ question) × (a ≡ answer)) → (answer_to m q ≡ Some a) ⊎ ((q ≡ question) × (a ≡ answer))
    by (inl old) = inl (forgot q a old)
    by (inr new) = inr new

-- If P holds when a result is `Ok`, and Q when it is `Err`, one of the two holds.
pub either : {A B : Type 0} {P Q : Type 0} (r : Result A B) → OnOk r P → OnErr r Q → P ⊎ Q
either (Ok x) p q = inl p
either (Err e) p q = inr q

pub knows_no_local_states : (quietly : Bool) (code : List ℕ) (t : TableLists) → KnowsLocalStates quietly code t nothing
knows_no_local_states quietly code t number word before behind fact = absurd cc

pub knows_no_lists : (t : TableLists) → KnowsLists t nothing
knows_no_lists t number word value written fact = absurd cc

-- ---- the local state after a reference

-- A local state that a reference and turns alone lead to is the one after that reference.
pub after_reference_is : (quietly : Bool) (code : List ℕ) (before : ℕ) (old mid new : Placed) (t : TableLists) (number : ℕ) → HasRetired code before old mid →
    HasGone quietly code mid new → IsStill code new → IsQuiet quietly code new → number < length t.local_states → IsSame t.live (placed_at t number) new →
    IsAfterReference quietly code before old t number
after_reference_is quietly code before old mid new t number r g still quiet there same = record {
  there = there;
  setting = same.setting ∙ settings;
  count = g.count;
  gone = λ (done : Processor × Retired) is. same.kept ∙ ap (kept_by t.live) (gone done is);
  at_reference = λ (done : Processor × Retired) is.
      subst (λ (z : Setting × LocalState). IsAtReference z.0 code z.1.processor) (λ i. (settings i, gone done is i)) still;
  quiet = λ on (done : Processor × Retired) is.
      subst (λ (z : Setting × LocalState). AskNot g.count z.0 code z.1) (λ i. (r.setting i, r.retired done is i)) (g.quiet on);
  later = λ on (done : Processor × Retired) is.
      subst (λ (z : Setting × LocalState). (n : ℕ) → AskNot n z.0 code z.1) (λ i. (settings i, gone done is i)) (quiet on);
}
  where
    settings : new.setting ≡ old.setting
    settings = g.setting ∙ r.setting

    gone : (done : Processor × Retired) → after_reply (turn_of old.setting code old.local_state.processor) before ≡ Some done →
        new.local_state ≡ alone g.count old.setting code (retire old.local_state done)
    gone done is = g.gone ∙ (λ i. alone g.count (r.setting i) code (r.retired done is i))
