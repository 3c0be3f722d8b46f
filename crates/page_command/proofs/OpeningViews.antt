-- The opening line gives the view of the machine.
use Rattle.std.proofs.Common.{◌≡◌, ℕ, zero, suc, ◌<◌, ◌≤◌, ◌^◌, ◌⊎◌, inl, inr, ◌==◌, Bool, true, false, List, [], ◌∷◌, ◌++◌, refl, sym, ap, ◌∙◌}
use Rattle.std.proofs.Common.{arith, subst, ◌+◌}
use Rattle.std.specs.Prelude.{if◌then◌else◌, slice_get, slice_index, is_none}
use Rattle.std.proofs.lemmas.Bool.{and_parts, cases_eq, cases_lt, eqb-true}
use Rattle.flat_machine.specs.State.{Processor}
use Rattle.messages.specs.Network.{Net}
use Rattle.messages.specs.Places.{In}
use Rattle.messages.proofs.Lemmas.{In-append_left, In-append_right}
use Rattle.omega_network.specs.Networks.{net_of}
use Rattle.machine_steps.specs.Machines.{IsMachine, MachineLists}
use Rattle.machine_steps.specs.machine_theory.Processors.{word_at}
use Rattle.machine_views.specs.Places.{records_before}
use Rattle.machine_views.specs.Subjects.{processors_of}
use Rattle.page_command.specs.Laws.{opening_view}
use Rattle.page_command.specs.Openings.{is_clear, parts_set, places_at, places_set, processor_set, processors_set, registers_set, words_set}
use Rattle.page_command.specs.Views.{Core, IsPart, Messages, Part, Place, Register, Value, Word, blank, view_at, view_by}
use Rattle.page_command.proofs.Putting.{put_shown}

-- A register below the count is 0, or is listed.
register_listed : (p : ℕ) (registers : List ℕ) (count r : ℕ) → r < count →
    (0 ≡ slice_index registers r) ⊎ In (Register p r) (registers_set p registers count)
unfolding registers_set
register_listed p registers zero r below = absurd (omega (arith, below))
register_listed p registers (suc n) r below = by (cases_eq r n) (λ few. register_listed p registers n r few)
  where
    front : List Part
    front = registers_set p registers n

    last : (b : Bool) → (slice_index registers n == 0) ≡ b → r ≡ n →
        (0 ≡ slice_index registers r) ⊎ In (Register p r) (front ++ (if b then [] else Register p n ∷ []))
    last true e is = inl (sym (ap (slice_index registers) is ∙ eqb-true _ _ e))
    last false e is = inr (In-append_right (Register p r) front (Register p n ∷ []) (inl (ap (Register p) is)))

    earlier : (0 ≡ slice_index registers r) ⊎ In (Register p r) front → (0 ≡ slice_index registers r) ⊎ In (Register p r) (registers_set p registers (suc n))
    earlier (inl e) = inl e
    earlier (inr there) = inr (In-append_left (Register p r) front _ there)

    by : (r ≡ n) ⊎ (r ≡ n → ⊥) → (r < n → (0 ≡ slice_index registers r) ⊎ In (Register p r) front) →
        (0 ≡ slice_index registers r) ⊎ In (Register p r) (registers_set p registers (suc n))
    by (inl is) below_it = last (slice_index registers n == 0) refl is
    by (inr other) below_it = earlier (below_it (omega (arith, below, other)))

-- What is listed of a processor below the count is listed.
of_processor : (x : Part) (states : ℕ → Processor) (count p : ℕ) → p < count → In x (processor_set p (states p)) → In x (processors_set states count)
unfolding processors_set
of_processor x states zero p below there = absurd (omega (arith, below))
of_processor x states (suc n) p below there = by (cases_eq p n) (λ few. of_processor x states n p few there)
  where
    by : (p ≡ n) ⊎ (p ≡ n → ⊥) → (p < n → In x (processors_set states n)) → In x (processors_set states (suc n))
    by (inl is) below_it = In-append_right x (processors_set states n) _ (subst (λ q. In x (processor_set q (states q))) is there)
    by (inr other) below_it = In-append_left x (processors_set states n) _ (below_it (omega (arith, below, other)))

-- A word below the count is 0, or is listed.
word_listed : (memory : ℕ → ℕ) (count i : ℕ) → i < count → (0 ≡ memory i) ⊎ In (Word i) (words_set memory count)
unfolding words_set
word_listed memory zero i below = absurd (omega (arith, below))
word_listed memory (suc n) i below = by (cases_eq i n) (λ few. word_listed memory n i few)
  where
    front : List Part
    front = words_set memory n

    last : (b : Bool) → (memory n == 0) ≡ b → i ≡ n → (0 ≡ memory i) ⊎ In (Word i) (front ++ (if b then [] else Word n ∷ []))
    last true e is = inl (sym (ap memory is ∙ eqb-true _ _ e))
    last false e is = inr (In-append_right (Word i) front (Word n ∷ []) (inl (ap Word is)))

    earlier : (0 ≡ memory i) ⊎ In (Word i) front → (0 ≡ memory i) ⊎ In (Word i) (words_set memory (suc n))
    earlier (inl e) = inl e
    earlier (inr there) = inr (In-append_left (Word i) front _ there)

    by : (i ≡ n) ⊎ (i ≡ n → ⊥) → (i < n → (0 ≡ memory i) ⊎ In (Word i) front) → (0 ≡ memory i) ⊎ In (Word i) (words_set memory (suc n))
    by (inl is) below_it = last (memory n == 0) refl is
    by (inr other) below_it = earlier (below_it (omega (arith, below, other)))

-- A list without a first element is empty.
none_first : {X : Type 0} (xs : List X) → is_none (slice_get xs 0) ≡ true → [] ≡ xs
none_first [] e = refl
none_first (x ∷ xs) e = absurd (true_is_not_false (sym e))
  where
    true_is_not_false : true ≡ false → ⊥
    true_is_not_false same = cc

-- Nothing stands at a place that is clear.
clear_is_blank : (net : Net) (d w : ℕ) → is_clear net d w ≡ true →
    Messages [] [] [] ≡ Messages (net.requests d w) (records_before net d w) (net.replies d w)
clear_is_blank net d w e =
    let first = and_parts (is_none (slice_get (net.requests d w) 0)) _ e in
    let rest = and_parts (is_none (slice_get (records_before net d w) 0)) (is_none (slice_get (net.replies d w) 0)) first.1 in
    λ i. Messages (none_first (net.requests d w) first.0 i) (none_first (records_before net d w) rest.0 i) (none_first (net.replies d w) rest.1 i)

-- A place of a depth on a wire below the count is clear, or is listed.
place_listed : (net : Net) (d count w : ℕ) → w < count → (is_clear net d w ≡ true) ⊎ In (Place d w) (places_at net d count)
unfolding places_at
place_listed net d zero w below = absurd (omega (arith, below))
place_listed net d (suc n) w below = by (cases_eq w n) (λ few. place_listed net d n w few)
  where
    front : List Part
    front = places_at net d n

    last : (b : Bool) → is_clear net d n ≡ b → w ≡ n →
        (is_clear net d w ≡ true) ⊎ In (Place d w) (front ++ (if b then [] else Place d n ∷ []))
    last true e is = inl (ap (is_clear net d) is ∙ e)
    last false e is = inr (In-append_right (Place d w) front (Place d n ∷ []) (inl (ap (Place d) is)))

    earlier : (is_clear net d w ≡ true) ⊎ In (Place d w) front → (is_clear net d w ≡ true) ⊎ In (Place d w) (places_at net d (suc n))
    earlier (inl e) = inl e
    earlier (inr there) = inr (In-append_left (Place d w) front _ there)

    by : (w ≡ n) ⊎ (w ≡ n → ⊥) → (w < n → (is_clear net d w ≡ true) ⊎ In (Place d w) front) →
        (is_clear net d w ≡ true) ⊎ In (Place d w) (places_at net d (suc n))
    by (inl is) below_it = last (is_clear net d n) refl is
    by (inr other) below_it = earlier (below_it (omega (arith, below, other)))

-- What is listed of a depth below the count is listed.
of_depth : (net : Net) (x : Part) (wires count d : ℕ) → d < count → In x (places_at net d wires) → In x (places_set net wires count)
unfolding places_set
of_depth net x wires zero d below there = absurd (omega (arith, below))
of_depth net x wires (suc n) d below there = by (cases_eq d n) (λ few. of_depth net x wires n d few there)
  where
    by : (d ≡ n) ⊎ (d ≡ n → ⊥) → (d < n → In x (places_set net wires n)) → In x (places_set net wires (suc n))
    by (inl is) below_it = In-append_right x (places_set net wires n) _ (subst (λ e. In x (places_at net e wires)) is there)
    by (inr other) below_it = In-append_left x (places_set net wires n) _ (below_it (omega (arith, below, other)))

module _ (m : MachineLists) (is : IsMachine m) where
  abbrev memory : ℕ → ℕ
  memory = word_at m.config.k m.modules

  abbrev net : Net
  net = net_of m.network

  abbrev wires : ℕ
  wires = 2 ^ m.config.k

  abbrev rest : List Part
  rest = words_set memory m.config.shared_words ++ places_set net wires (m.config.k + 1)

  abbrev listed : List Part
  listed = parts_set m.config memory (processors_of m) net

  of_processors : (x : Part) (p : ℕ) → p < 2 ^ m.config.k → In x (processor_set p (processors_of m p)) → In x listed
  unfolding parts_set
  of_processors x p within there =
      In-append_left x (processors_set (processors_of m) wires) rest (of_processor x (processors_of m) wires p within there)

  of_rest : (x : Part) → In x rest → In x listed
  unfolding parts_set
  of_rest x there = In-append_right x (processors_set (processors_of m) wires) rest there

  -- Each part is blank in the machine, or is listed.
  blank_or_listed : (x : Part) → IsPart m.config.k x → (blank x ≡ view_at m x) ⊎ In x listed
  unfolding view_by
  blank_or_listed (Core p) within = inr (of_processors (Core p) p within (inl refl))
  blank_or_listed (Register p r) within = by (register_listed p (processors_of m p).registers 32 r within.1)
    where
      by : (0 ≡ slice_index (processors_of m p).registers r) ⊎ In (Register p r) (registers_set p (processors_of m p).registers 32) →
          (blank (Register p r) ≡ view_at m (Register p r)) ⊎ In (Register p r) listed
      by (inl e) = inl (ap Value e)
      by (inr there) = inr (of_processors (Register p r) p within.0 (inr there))
  blank_or_listed (Place d w) within = by (place_listed net d wires w within.1)
    where
      by : (is_clear net d w ≡ true) ⊎ In (Place d w) (places_at net d wires) → (blank (Place d w) ≡ view_at m (Place d w)) ⊎ In (Place d w) listed
      by (inl e) = inl (clear_is_blank net d w e)
      by (inr there) = inr (of_rest (Place d w) (In-append_right (Place d w) (words_set memory m.config.shared_words) _
          (of_depth net (Place d w) wires (m.config.k + 1) d (let few = within.0 in omega (arith, few)) there)))
  blank_or_listed (Word i) within = by (cases_lt i m.config.shared_words)
    where
      among : (0 ≡ memory i) ⊎ In (Word i) (words_set memory m.config.shared_words) → (blank (Word i) ≡ view_at m (Word i)) ⊎ In (Word i) listed
      among (inl e) = inl (ap Value e)
      among (inr there) = inr (of_rest (Word i) (In-append_left (Word i) (words_set memory m.config.shared_words) _ there))

      by : (i < m.config.shared_words) ⊎ (m.config.shared_words ≤ i) → (blank (Word i) ≡ view_at m (Word i)) ⊎ In (Word i) listed
      by (inl below) = among (word_listed memory m.config.shared_words i below)
      by (inr past) = inl (ap Value (sym (is.modules.end i past)))

  -- The opening line gives the view of the machine.
  pub opening_shown : (x : Part) → IsPart m.config.k x → opening_view m x ≡ view_at m x
  opening_shown x within = put_shown blank (view_at m) listed x (blank_or_listed x within)
