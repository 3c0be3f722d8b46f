use Rattle.std.proofs.Common.{◌≡◌, ◌⊎◌, inl, inr, ℕ, ◌-◌, ◌<◌, Bool, true, false, cond, List, [], ◌∷◌, ◌++◌, length, refl, sym, ap, subst, ◌∙◌, arith}
use Rattle.std.specs.Prelude.{slice_index_or}
use Rattle.std.proofs.lemmas.List.{get_or_append_left, get_or-append_right, length-append}
use Rattle.state_store.specs.Placed.{Placed, IsBare, IsSame}
use Rattle.state_store.specs.StateTables.{nowhere}
use Rattle.state_store.proofs.Keys.{found_same}
use Rattle.state_store.proofs.Listed.{found_at, up_to}
use Rattle.state_store.proofs.state_tables.StateTables.local_state_number.Goals as goal
use Rattle.state_store.proofs.state_tables.StateTables.local_state_number.Goals.{in-Ok-try_from, in-Err}

abbrev AreBare : List (List Bool) → List Placed → Type 0
AreBare live all = (i : ℕ) → i < length all → IsBare live (slice_index_or all i nowhere)

-- Dead registers are 0 in all local states after one more is added, if it is new.
bare_on : (live : List (List Bool)) (all : List Placed) (a : Placed) (there : Bool) → AreBare live all → IsBare live a →
    AreBare live (cond there all (all ++ a ∷ []))
bare_on live all a true h bare = h
bare_on live all a false h bare = λ i low.
    let long = length-append all (a ∷ []) in
    by i (up_to i (length all) (omega (arith, low, long)))
  where
    last : (i : ℕ) → i ≡ length all → slice_index_or (all ++ a ∷ []) i nowhere ≡ a
    last i here =
        get_or-append_right all (a ∷ []) (length all) i nowhere refl (omega (arith, here))
        ∙ ap (λ j. slice_index_or (a ∷ []) j nowhere) (let none : i - length all ≡ 0 = omega (arith, here) in none)

    by : (i : ℕ) → (i < length all) ⊎ (i ≡ length all) → IsBare live (slice_index_or (all ++ a ∷ []) i nowhere)
    by i (inl less) = subst (IsBare live) (sym (get_or_append_left all (a ∷ []) nowhere i less)) (h i less)
    by i (inr here) = subst (IsBare live) (sym (last i here)) bare

pub invariant_of-self-2 : goal.invariant_of-self-2
invariant_of-self-2 c =
    subst (AreBare c.self.inside.live) (sym c.in-Ok-insert_full.ensures.keys)
    (bare_on c.self.inside.live c.self.inside.local_states.keys c.in-Ok.saved _ c.self.invariant c.in-Ok.ensures.bare)

pub returns-clause-same : goal.returns-clause-same
returns-clause-same c =
    let stored = c.in-Ok-insert_full.ensures.stored in
    let here = found_at c.insert_full.new.self.keys c.in-Ok-insert_full.number stored.0 nowhere stored.1 in
    let same = found_same c.self.inside.live stored.0 c.in-Ok.saved c.args.local_state stored.2 c.in-Ok.ensures.same in
    elim c.match-try_from.branch [
      | in-Ok-try_from w ↦ rw w.result-is
          (subst (λ (a : Placed). IsSame c.self.inside.live a c.args.local_state)
          (sym (ap (λ i. slice_index_or c.insert_full.new.self.keys i nowhere) w.in-Ok-try_from.ensures.1 ∙ here.1)) same)
      | in-Err w ↦ rw w.result-is tt
    ]
