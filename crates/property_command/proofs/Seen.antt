-- What a condition sees of the processors of a machine, one after another.
use Rattle.std.proofs.Common.{◌≡◌, ℕ, ◌+◌, ◌<◌, List, [], ◌∷◌, ◌++◌, length, map, take, Option, Some, None, sym, ap, ap₂, ◌∙◌}
use Rattle.std.proofs.Common.{get_or, option_map, slice_get}
use Rattle.std.proofs.lemmas.List.{take_more}
use Rattle.std.proofs.lemmas.Option.{get_or_from_slice_get, slice_get-get_or, slice_get-map, slice_get_within}
use Rattle.flat_machine.specs.State.{Processor}
use Rattle.flat_machine.specs.declared.event.Status.{Status}
use Rattle.state_conditions.specs.declared.condition.ProcessorState.{ProcessorState}
use Rattle.property_command.specs.Counterexamples.{processor_seen}

-- the state of a processor with this pc and this status
abbrev pub state_with : (pc : ℕ) → Status → ProcessorState
state_with pc status = record { pc = pc; status = status }

seen_whole : (o : Option Processor) (pc : ℕ) (status : Status) → Some pc ≡ option_map (λ (p : Processor). p.pc) o →
    Some status ≡ option_map (λ (p : Processor). p.status) o → option_map processor_seen o ≡ Some (state_with pc status)
seen_whole None pc status e f = absurd (cc)
seen_whole (Some p) pc status e f =
    let a : pc ≡ p.pc = cc in
    let b : status ≡ p.status = cc in
    ap₂ (λ x y. Some (state_with x y)) (sym a) (sym b)

module _ (processors : List Processor) (i : ℕ) where
  -- A processor of the list has what is read of it.
  pub none_read : {X : Type 0} (f : Processor → X) (d : Processor) → i < length processors → None ≡ option_map f (slice_get processors i) → ⊥
  none_read f d within e =
      let there : None ≡ Some (f (get_or processors i d)) = e ∙ ap (option_map f) (slice_get-get_or processors i d within) in cc

  -- After one more is seen, those so far are the first of all that are seen.
  pub seen_more : (pc : ℕ) (status : Status) (old new : List ProcessorState) →
      Some pc ≡ option_map (λ (p : Processor). p.pc) (slice_get processors i) →
      Some status ≡ option_map (λ (p : Processor). p.status) (slice_get processors i) → old ≡ take i (map processor_seen processors) →
      new ≡ old ++ state_with pc status ∷ [] → new ≡ take (i + 1) (map processor_seen processors)
  seen_more pc status old new e f so_far is =
      let all : List ProcessorState = map processor_seen processors in
      let one : ProcessorState = state_with pc status in
      let there : slice_get all i ≡ Some one =
      slice_get-map processor_seen processors i ∙ seen_whole (slice_get processors i) pc status e f in
      is
      ∙ (ap₂ (λ (xs : List ProcessorState) (x : ProcessorState). xs ++ x ∷ []) so_far (sym (get_or_from_slice_get all i one one there))
      ∙ sym (take_more all i one (slice_get_within all i one there)))
