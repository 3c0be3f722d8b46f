-- Which shared word a turn acts on, from its outcome.
use Rattle.std.proofs.Common.{◌≡◌, ℕ, List, Option, Some, None, length, refl, sym, ap, ◌∙◌}
use Rattle.std.specs.Option.{option_map}
use Rattle.std.specs.Prelude.{slice_get}
use Rattle.flat_machine.specs.declared.event.Event.{Event}
use Rattle.flat_machine.specs.declared.event.Retired.{Retired as RetiredInsn}
use Rattle.flat_machine.specs.declared.poke.Entry.TheVariants as entry
use Rattle.flat_machine.specs.declared.setting.Setting.{Setting}
use Rattle.flat_machine.specs.Effects.{effect_of}
use Rattle.flat_machine.specs.State.{FlatState, Processor, setting_of}
use Rattle.flat_machine.specs.Turns.{performed}
use Rattle.flat_machine.specs.Flat.{flat_event}
use Rattle.steps.specs.declared.step.Outcome.{Outcome}
use Rattle.steps.specs.declared.step.Outcome.TheVariants.{Retired, Issued, Stopped, Moved, Combined, Served, Answered, Poked, Stalled}
use Rattle.machine_steps.specs.Whole.{event_of}
use Rattle.trace_lines.specs.Laws.{RetiredTurnsHaveWords, StoppedTurnsHaveNone}
use Rattle.trace_lines.specs.References.{word_of, word_of_processor, word_of_turn}
use Rattle.trace_commands.specs.Taking.{answer_of}
use Rattle.trace_commands.proofs.Answering.{event_is}

-- ---- words of turns

module _ (m : FlatState) (k : ℕ) (retired : RetiredTurnsHaveWords) (stopped : StoppedTurnsHaveNone) where
  abbrev e : Option Event
  e = flat_event m (entry.Processor k)

  abbrev on_the_word : Option ℕ
  on_the_word = word_of m (entry.Processor k)

  -- The turn of a processor that the machine does not have acts on no shared word.
  pub none_there : slice_get m.processors k ≡ None → on_the_word ≡ None
  none_there none = ap (word_of_processor m k) none

  -- A turn that retires an instruction acts on the word of that instruction.
  pub retired_word : (p : Processor) (r : RetiredInsn) → slice_get m.processors k ≡ Some p → Retired r ≡ answer_of e →
      on_the_word ≡ word_of_turn (performed (setting_of m k) m.code p r.insn (effect_of (setting_of m k) p.pc p.registers r.insn))
  retired_word p r there is = retired m k p r there (event_is (Retired r) e is)

  -- The same, from what is read from the processor.
  pub read_word : (shared : ℕ) (registers : List ℕ) (found : Option Processor) (r : RetiredInsn) (w : Option ℕ) → slice_get m.processors k ≡ found →
      Some registers ≡ option_map (λ (p : Processor). p.registers) found → shared ≡ length m.shared → Retired r ≡ answer_of e →
      ((s : Setting) (code : List ℕ) (p : Processor) → s.shared_words ≡ shared → p.registers ≡ registers →
      word_of_turn (performed s code p r.insn (effect_of s p.pc p.registers r.insn)) ≡ w) → w ≡ on_the_word
  read_word shared registers None r w there same words is contents_are = absurd (cc)
  read_word shared registers (Some p) r w there same words is contents_are =
      let own : p.registers ≡ registers = cc in
      sym (contents_are (setting_of m k) m.code p (sym words) own) ∙ sym (retired_word p r there is)

  silent : (o : Outcome) → event_of o ≡ None → o ≡ answer_of e → (o ≡ Stalled → ⊥) → on_the_word ≡ None
  silent o none is moves = absurd (moves (is ∙ ap answer_of (event_is o e is ∙ none)))

  -- Every other turn acts on no shared word.
  pub other_word : (o : Outcome) → ((r : RetiredInsn) → o ≡ Retired r → ⊥) → o ≡ answer_of e → (o ≡ Stalled → ⊥) → on_the_word ≡ None
  other_word (Retired r) other is moves = absurd (other r refl)
  other_word (Stopped cause) other is moves = stopped m k cause (event_is (Stopped cause) e is)
  other_word Issued other is moves = silent Issued refl is moves
  other_word Moved other is moves = silent Moved refl is moves
  other_word (Combined first second) other is moves = silent (Combined first second) refl is moves
  other_word (Served leader) other is moves = silent (Served leader) refl is moves
  other_word (Answered to) other is moves = silent (Answered to) refl is moves
  other_word Poked other is moves = silent Poked refl is moves
  other_word Stalled other is moves = silent Stalled refl is moves
