-- Registers and words whose changes are appended one after another.
use Rattle.std.proofs.Common.{◌≡◌, ℕ, suc, ◌+◌, ◌==◌, Bool, true, false, List, [], ◌∷◌, ◌++◌, refl, sym, ap, ap₂, ◌∙◌}
use Rattle.std.proofs.Common.{subst, arith, replicate, zero}
use Rattle.std.specs.Prelude.{if◌then◌else◌, slice_index}
use Rattle.std.proofs.lemmas.List.{append-nil}
use Rattle.flat_machine.specs.State.{Processor}
use Rattle.machine_steps.specs.Machines.{MachineLists}
use Rattle.machine_views.specs.Subjects.{processors_of}
use Rattle.page_command.specs.Changes.{change_text, change_to}
use Rattle.page_command.specs.Openings.{processor_set, processors_set, registers_set, words_set}
use Rattle.page_command.specs.Steps.{registers_changed}
use Rattle.page_command.specs.Views.{Content, Part, Register, Value, View, Word, view_at, view_by}
use Rattle.page_command.proofs.Lists.{joined, no_text, none_more, one_more, text_to}

-- Nothing or one more part is appended, by a test.
pub by_test : (V : View) (xs : List Part) (x : Part) (b : Bool) (old mid new : List ℕ) → mid ≡ old ++ text_to V xs →
    new ≡ mid ++ (if b then [] else change_text (change_to V x)) → new ≡ old ++ text_to V (xs ++ (if b then [] else x ∷ []))
by_test V xs x true old mid new first next = none_more V xs old mid new first (next ∙ append-nil mid)
by_test V xs x false old mid new first next = one_more V xs x old mid new first next

-- what is appended of a register with these values before and after
abbrev pub register_text : (processor register before after : ℕ) → List ℕ
register_text p r before after =
    if after == before then [] else change_text (record { part = Register p r; content = Value after })

-- The registers that change below the next count are those below this one, and the register at it if it changes.
pub register_next : (V : View) (p : ℕ) (before after : List ℕ) (r : ℕ) → V (Register p r) ≡ Value (slice_index after r) → (old mid new : List ℕ) →
    mid ≡ old ++ text_to V (registers_changed p before after r) →
    new ≡ mid ++ register_text p r (slice_index before r) (slice_index after r) →
    new ≡ old ++ text_to V (registers_changed p before after (r + 1))
unfolding registers_changed
register_next V p before after r shows old mid new first next =
    subst (λ n. new ≡ old ++ text_to V (registers_changed p before after n)) more
    (by_test V (registers_changed p before after r) (Register p r) (slice_index after r == slice_index before r) old mid new first
    (next ∙ ap (λ (content : Content). mid ++ (if slice_index after r == slice_index before r then []
    else change_text (record { part = Register p r; content = content }))) (sym shows)))
  where
    more : suc r ≡ r + 1
    more = omega arith

-- The same of the registers that are not 0.
pub register_set_next : (V : View) (p : ℕ) (registers : List ℕ) (r : ℕ) → V (Register p r) ≡ Value (slice_index registers r) →
    (old mid new : List ℕ) → mid ≡ old ++ text_to V (registers_set p registers r) →
    new ≡ mid ++ register_text p r 0 (slice_index registers r) →
    new ≡ old ++ text_to V (registers_set p registers (r + 1))
unfolding registers_set
register_set_next V p registers r shows old mid new first next =
    subst (λ n. new ≡ old ++ text_to V (registers_set p registers n)) more
    (by_test V (registers_set p registers r) (Register p r) (slice_index registers r == 0) old mid new first
    (next ∙ ap (λ (content : Content). mid ++ (if slice_index registers r == 0 then []
    else change_text (record { part = Register p r; content = content }))) (sym shows)))
  where
    more : suc r ≡ r + 1
    more = omega arith

-- The same of words.
pub word_set_next : (V : View) (memory : ℕ → ℕ) (i : ℕ) (old mid new : List ℕ) → mid ≡ old ++ text_to V (words_set memory i) →
    new ≡ mid ++ (if memory i == 0 then [] else change_text (change_to V (Word i))) →
    new ≡ old ++ text_to V (words_set memory (i + 1))
unfolding words_set
word_set_next V memory i old mid new first next =
    subst (λ n. new ≡ old ++ text_to V (words_set memory n)) more
    (by_test V (words_set memory i) (Word i) (memory i == 0) old mid new first next)
  where
    more : suc i ≡ i + 1
    more = omega arith

-- Before the first of them nothing is appended.
pub no_register_yet : (V : View) (p : ℕ) (before after : List ℕ) (old : List ℕ) → old ≡ old ++ text_to V (registers_changed p before after 0)
unfolding registers_changed
no_register_yet V p before after old = no_text V old

-- The same of the registers that are not 0.
pub no_register_set_yet : (V : View) (p : ℕ) (registers : List ℕ) (old : List ℕ) → old ≡ old ++ text_to V (registers_set p registers 0)
unfolding registers_set
no_register_set_yet V p registers old = no_text V old

-- The same of words.
pub no_word_yet : (V : View) (memory : ℕ → ℕ) (old : List ℕ) → old ≡ old ++ text_to V (words_set memory 0)
unfolding words_set
no_word_yet V memory old = no_text V old

-- The same of processors.
pub no_processor_yet : (V : View) (states : ℕ → Processor) (old : List ℕ) → old ≡ old ++ text_to V (processors_set states 0)
unfolding processors_set
no_processor_yet V states old = no_text V old

-- What is listed of the processors below the next count is what is listed of those below this one, and of the processor at it.
pub processor_next : (V : View) (states : ℕ → Processor) (p : ℕ) (old mid new : List ℕ) → mid ≡ old ++ text_to V (processors_set states p) →
    new ≡ mid ++ text_to V (processor_set p (states p)) → new ≡ old ++ text_to V (processors_set states (p + 1))
unfolding processors_set
processor_next V states p old mid new first next =
    subst (λ n. new ≡ old ++ text_to V (processors_set states n)) more
    (joined V (processors_set states p) (processor_set p (states p)) old mid new first next)
  where
    more : suc p ≡ p + 1
    more = omega arith

-- Registers change in the same way if they are the same before, one by one.
pub changed_alike : (p : ℕ) (before other after : List ℕ) (count : ℕ) → ((r : ℕ) → slice_index before r ≡ slice_index other r) →
    registers_changed p before after count ≡ registers_changed p other after count
unfolding registers_changed
changed_alike p before other after zero same = refl
changed_alike p before other after (suc r) same =
    ap₂ (λ xs b. xs ++ (if b then [] else Register p r ∷ [])) (changed_alike p before other after r same)
    (ap (λ value. slice_index after r == value) (same r))

-- In a list of zeros each element is 0.
pub zeros_at : (count r : ℕ) → slice_index (replicate count 0) r ≡ 0
zeros_at zero r = refl
zeros_at (suc n) zero = refl
zeros_at (suc n) (suc r) = zeros_at n r

-- Where an array has the registers of a processor, one by one, its values after are those of the view.
pub next_of_array : (m : MachineLists) (p : ℕ) (before array : List ℕ) →
    ((r : ℕ) → slice_index array r ≡ slice_index (processors_of m p).registers r) → (r place : ℕ) → place ≡ r → (old mid new : List ℕ) →
    mid ≡ old ++ text_to (view_at m) (registers_changed p before (processors_of m p).registers r) →
    new ≡ mid ++ register_text p r (slice_index before place) (slice_index array place) →
    new ≡ old ++ text_to (view_at m) (registers_changed p before (processors_of m p).registers (r + 1))
unfolding view_by
next_of_array m p before array same r place is old mid new first next =
    register_next (view_at m) p before (processors_of m p).registers r refl old mid new first
    (next ∙ ap (λ n. mid ++ register_text p r (slice_index before n) (slice_index array n)) is
    ∙ ap (λ value. mid ++ register_text p r (slice_index before r) value) (same r))

-- The same of registers that are not 0.
pub next_set_of_array : (m : MachineLists) (p : ℕ) (array : List ℕ) →
    ((r : ℕ) → slice_index array r ≡ slice_index (processors_of m p).registers r) → (r place : ℕ) → place ≡ r → (old mid new : List ℕ) →
    mid ≡ old ++ text_to (view_at m) (registers_set p (processors_of m p).registers r) →
    new ≡ mid ++ register_text p r 0 (slice_index array place) →
    new ≡ old ++ text_to (view_at m) (registers_set p (processors_of m p).registers (r + 1))
unfolding view_by
next_set_of_array m p array same r place is old mid new first next =
    register_set_next (view_at m) p (processors_of m p).registers r refl old mid new first
    (next ∙ ap (λ n. mid ++ register_text p r 0 (slice_index array n)) is ∙ ap (λ value. mid ++ register_text p r 0 value) (same r))
