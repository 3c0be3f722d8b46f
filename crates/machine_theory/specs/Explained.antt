-- One serial order of whole instructions explains a run.
use Rattle.std.specs.Prelude.{◌≡◌, ℕ, ◌≤◌, false, List, [], ◌∷◌, ◌++◌, length, Some, None, slice_index}
use Rattle.machine_ports.specs.flat_machine.declared.config.Config.{Config}
use Rattle.machine_ports.specs.flat_machine.declared.poke.Entry.{Entry}
use Rattle.machine_ports.specs.flat_machine.declared.poke.Entry.TheVariants as entry
use Rattle.machine_ports.specs.flat_machine.State.{FlatState}
use Rattle.machine_ports.specs.flat_machine.Flat as flat
use Rattle.machine_ports.specs.hart.Deciding.{after_reply}
use Rattle.serialization.specs.network_theory.Roles.{Role}
use Rattle.serialization.specs.Machine.{Machine, Turn, Retired, step, new_machine, IsIdle}
use Rattle.serialization.specs.Steadiness.{Steady}
use Rattle.serialization.specs.Order.{FlatMachine, flat_of, ran, outcomes}
use Rattle.serialization.specs.Serialization.{EachServedOnce}
use Rattle.machine_theory.specs.Theory.{Step}
use Rattle.machine_theory.specs.Order.{Passed}
use Rattle.machine_theory.specs.Processors.{ObservedCore, sizes_of, next, program, retired_by, word_by}
use Rattle.machine_theory.specs.FlatSizes.{IsSoundFlat}
use Rattle.machine_theory.specs.Flatness.{read_flat, with_events}

module _ (c : Config) (code : List ℕ) where
  -- A run begins with an idle machine and the flat machine that it is. Its processors have shown nothing yet.
  pub record Opens (M : Machine ObservedCore) (F : FlatState) : Type 0 where
    pub few : c.k ≤ 6
    pub sound : IsSoundFlat c code F
    pub role : ℕ → Role
    pub steady : Steady (sizes_of c) (program c code) M role
    pub idle : IsIdle (sizes_of c) M
    pub reads : flat_of M ≡ read_flat F (λ p. [])

  -- the flat machine after these entries, with the events that each processor has shown
  abbrev pub flat_after : FlatState → List Entry → FlatMachine ObservedCore
  flat_after F order = read_flat (flat.flat_run F order) (with_events (λ p. []) (flat.flat_events F order))

  -- Processor p's entry at this place of the order finds this word: the one to which it refers, in the flat machine
  -- after the entries before it.
  pub record Finds (F : FlatState) (order : List Entry) (p place found : ℕ) (g : ObservedCore) : Type 0 where
    pub before : List Entry
    pub later : List Entry
    pub is : order ≡ before ++ entry.Processor p ∷ later
    pub at_place : length before ≡ place
    pub word : found ≡ slice_index (flat.flat_run F before).shared (word_by (next c code p g.state))

  -- After any steps, the order so far explains the machine.
  pub record IsExplained (F : FlatState) (h : Passed ObservedCore) : Type 0 where
    -- the shared words are the flat machine's
    pub words : (i : ℕ) → h.machine.mem i ≡ slice_index (flat.flat_run F h.order).shared i
    -- no reference of a processor without an open reference is served
    pub shut : (p : ℕ) → h.machine.is_open p ≡ false → h.served p ≡ None
    -- a processor whose reference is not served is as in the flat machine, and has shown the same events
    pub unserved : (p : ℕ) → h.served p ≡ None → h.machine.core p ≡ (flat_after F h.order).core p
    -- a processor whose reference is served is one reference behind the flat machine: when it retires with the word
    -- that its entry of the order found, it becomes what it is there
    pub served : (p place : ℕ) → h.served p ≡ Some place →
        (found : ℕ) × Finds F h.order p place found (h.machine.core p) ×
        ((flat_after F h.order).core p
        ≡ retired_by (h.machine.core p) (after_reply (next c code p (h.machine.core p).state) found))
    -- a reference retires with the word that its entry of the order found
    pub retires : (p found : ℕ) → (step (sizes_of c) (program c code) h.machine (Turn p)).outcome ≡ Retired p found →
        (place : ℕ) × (h.served p ≡ Some place) × Finds F h.order p place found (h.machine.core p)

  -- The theorem: every run from an idle machine is explained at every moment, and each reference is served once,
  -- between its issue and its retirement.
  pub record RunsAreExplained : Type 0 where
    -- a run may begin from every sound flat machine
    pub opens : (F : FlatState) → c.k ≤ 6 → IsSoundFlat c code F →
        Opens (new_machine (read_flat F (λ p. [])).mem (read_flat F (λ p. [])).core) F
    pub moments : (M : Machine ObservedCore) (F : FlatState) (steps : List Step) → Opens M F →
        IsExplained F (ran (sizes_of c) (program c code) M steps)
    pub once : (M : Machine ObservedCore) (F : FlatState) (steps : List Step) → Opens M F →
        EachServedOnce (outcomes (sizes_of c) (program c code) steps M)
