-- What one step does.
use Rattle.std.proofs.Common.{◌≡◌, ◌≢◌, ℕ, ◌+◌, ◌<◌, ◌≤◌, Bool, true, false, cond, zero, suc, List, [], ◌∷◌}
use Rattle.std.proofs.Common.{◌++◌, Option, Some, None, length, refl, sym, ap, ◌∙◌, arith, append_assoc}
use Rattle.std.specs.Prelude.{slice_get, slice_set, slice_index}
use Rattle.flat_machine.specs.declared.event.Cause.{Cause}
use Rattle.flat_machine.specs.declared.event.Event.{Event}
use Rattle.flat_machine.specs.declared.event.Event.TheVariants.{Retired, Stopped}
use Rattle.flat_machine.specs.declared.poke.Entry.{Entry}
use Rattle.flat_machine.specs.declared.poke.Entry.TheVariants as entry
use Rattle.flat_machine.specs.State.{FlatState, Processor, is_running, status_of, setting_of}
use Rattle.flat_machine.specs.Turns.{Turn, Retires, Reaches, Stops, turn_of}
use Rattle.flat_machine.specs.Flat.{taken, with_taken, step_of, turned, turn_event, flat_step, flat_event, flat_run, flat_events, with_processor_number}

-- A run over two lists of entries is a run over the first and then one over the second.
pub run_append : (m : FlatState) (first second : List Entry) → flat_run m (first ++ second) ≡ flat_run (flat_run m first) second
run_append m [] second = refl
run_append m (e ∷ es) second = run_append (flat_step m e) es second

-- The events of two lists of entries are those of the first, and then those of the second from where the first ends.
pub events_append : (m : FlatState) (first second : List Entry) → flat_events m (first ++ second) ≡ flat_events m first ++ flat_events (flat_run m first) second
events_append m [] second = refl
events_append m (e ∷ es) second =
    ap (λ rest. with_processor_number e (flat_event m e) ++ rest) (events_append (flat_step m e) es second)
    ∙ sym (append_assoc (with_processor_number e (flat_event m e)) (flat_events (flat_step m e) es) (flat_events (flat_run (flat_step m e) es) second))

-- ---- stops

-- A turn that stops the processor changes nothing but its status.
stop_taken : (p : Processor) (shared : List ℕ) (t : Turn) (cause : Cause) → (taken p shared t).2 ≡ Stopped cause →
    taken p shared t ≡ (record p { status = status_of cause }, shared, Stopped cause)
stop_taken p shared (Retires after retired) cause e = absurd (cc)
stop_taken p shared (Reaches word change after) cause e = absurd (cc)
stop_taken p shared (Stops other) cause e = let same : other ≡ cause = cc in ap (λ c. (record p { status = status_of c }, shared, Stopped c)) same

stop_turned : (m : FlatState) (k : ℕ) (p : Processor) (cause : Cause) (running : Bool) → is_running p.status ≡ running →
    turn_event m k (Some p) ≡ Some (Stopped cause) →
    turned m k (Some p) ≡ record m { processors = slice_set m.processors k (record p { status = status_of cause }) }
stop_turned m k p cause true r e =
    let shown : (step_of m k p).2 ≡ Stopped cause = let e' = rw r at e in cc in
    let stops = stop_taken p m.shared (turn_of (setting_of m k) m.code p) cause shown in
    rw r (ap (with_taken m k) stops)
stop_turned m k p cause false r e = let e' = rw r at e in absurd (cc)

-- If a processor's step stops it, the step changes nothing but its status.
pub stop_changes_status : (m : FlatState) (k : ℕ) (p : Processor) (cause : Cause) → slice_get m.processors k ≡ Some p →
    flat_event m (entry.Processor k) ≡ Some (Stopped cause) →
    flat_step m (entry.Processor k) ≡ record m { processors = slice_set m.processors k (record p { status = status_of cause }) }
unfolding flat_step flat_event
stop_changes_status m k p cause at e =
    ap (turned m k) at ∙ stop_turned m k p cause (is_running p.status) refl (ap (turn_event m k) (sym at) ∙ e)

-- A step of a processor that does not run leaves the machine as it is.
pub stopped_stays : (m : FlatState) (k : ℕ) (p : Processor) → slice_get m.processors k ≡ Some p → is_running p.status ≡ false →
    flat_step m (entry.Processor k) ≡ m
unfolding flat_step
stopped_stays m k p at stopped = ap (turned m k) at ∙ rw stopped refl

-- ---- other processors, and other words

-- A list with one place written is the same at every other place.
pub set_other : {X : Type 0} (xs : List X) (k other : ℕ) (x : X) → other ≢ k → slice_get (slice_set xs k x) other ≡ slice_get xs other
set_other [] k other x ne = refl
set_other (y ∷ ys) zero zero x ne = absurd (ne refl)
set_other (y ∷ ys) zero (suc other) x ne = refl
set_other (y ∷ ys) (suc k) zero x ne = refl
set_other (y ∷ ys) (suc k) (suc other) x ne = set_other ys k other x (λ e. ne (ap suc e))

others_turned : (m : FlatState) (k other : ℕ) (p : Option Processor) → other ≢ k → slice_get (turned m k p).processors other ≡ slice_get m.processors other
others_turned m k other None ne = refl
others_turned m k other (Some p) ne = by_running (is_running p.status)
  where
    by_running : (b : Bool) → slice_get (cond b (with_taken m k (step_of m k p)) m).processors other ≡ slice_get m.processors other
    by_running true = set_other m.processors k other (step_of m k p).0 ne
    by_running false = refl

-- A processor's step leaves each other processor as it is.
pub others_kept : (m : FlatState) (k other : ℕ) → other ≢ k → slice_get (flat_step m (entry.Processor k)).processors other ≡ slice_get m.processors other
unfolding flat_step
others_kept m k other ne = others_turned m k other (slice_get m.processors k) ne

-- the only shared word that a turn may change
reached : Turn → ℕ
reached (Reaches word change after) = word
reached (Retires after retired) = 0
reached (Stops cause) = 0

others_taken : (p : Processor) (shared : List ℕ) (t : Turn) (other : ℕ) → other ≢ reached t → slice_get (taken p shared t).1 other ≡ slice_get shared other
unfolding reached
others_taken p shared (Retires after retired) other ne = refl
others_taken p shared (Reaches word change after) other ne = set_other shared word other (change (slice_index shared word)) ne
others_taken p shared (Stops cause) other ne = refl

OneWord : FlatState → FlatState → Type 0
OneWord m n = (word : ℕ) × ((other : ℕ) → other ≢ word → slice_get n.shared other ≡ slice_get m.shared other)

word_turned : (m : FlatState) (k : ℕ) (p : Option Processor) → OneWord m (turned m k p)
unfolding OneWord
word_turned m k None = (0, λ other ne. refl)
word_turned m k (Some p) = by_running (is_running p.status)
  where
    by_running : (b : Bool) → (word : ℕ) × ((other : ℕ) → other ≢ word →
        slice_get (cond b (with_taken m k (step_of m k p)) m).shared other ≡ slice_get m.shared other)
    by_running true = (reached (turn_of (setting_of m k) m.code p), others_taken p m.shared (turn_of (setting_of m k) m.code p))
    by_running false = (0, λ other ne. refl)

-- A processor's step changes at most one shared word.
pub one_word : (m : FlatState) (k : ℕ) → (word : ℕ)
    × ((other : ℕ) → other ≢ word → slice_get (flat_step m (entry.Processor k)).shared other ≡ slice_get m.shared other)
unfolding flat_step OneWord
one_word m k = word_turned m k (slice_get m.processors k)

code_turned : (m : FlatState) (k : ℕ) (p : Option Processor) → (turned m k p).code ≡ m.code
code_turned m k None = refl
code_turned m k (Some p) = by_running (is_running p.status)
  where
    by_running : (b : Bool) → (cond b (with_taken m k (step_of m k p)) m).code ≡ m.code
    by_running true = refl
    by_running false = refl

-- A processor's step leaves code as it is.
pub code_kept : (m : FlatState) (k : ℕ) → (flat_step m (entry.Processor k)).code ≡ m.code
unfolding flat_step
code_kept m k = code_turned m k (slice_get m.processors k)
