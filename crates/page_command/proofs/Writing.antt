-- What a write from outside changes, and what any step changes.
use Rattle.std.proofs.Common.{◌≡◌, ℕ, ◌-◌, ◌/◌, ◌<◌, ◌^◌, ◌⊎◌, inl, inr, Bool, true, false, ◌&&◌, List, [], refl, sym, ap, ◌∙◌, subst}
use Rattle.std.proofs.Common.{nat_lt, arith}
use Rattle.std.specs.Prelude.{if◌then◌else◌, slice_get, slice_index, suc}
use Rattle.std.proofs.lemmas.Bool.{cases_eq, ltb-false}
use Rattle.flat_machine.specs.declared.config.Config.{Config}
use Rattle.flat_machine.specs.declared.poke.Poke.{Poke}
use Rattle.flat_machine.specs.declared.poke.Poke.TheVariants as poke
use Rattle.messages.specs.declared.moves.UpMove.TheVariants as up
use Rattle.messages.specs.declared.moves.DownMove.TheVariants as down
use Rattle.messages.specs.Moves.{down_from, moved_down, moved_up, up_from}
use Rattle.messages.specs.Network.{wires}
use Rattle.messages.specs.Places.{In}
use Rattle.messages.proofs.Lemmas.{put_other, put_same}
use Rattle.steps.specs.declared.step.Step.{Step}
use Rattle.steps.specs.declared.step.Step.TheVariants as step
use Rattle.machine_steps.specs.machine_theory.Processors.{ObservedCore, program, sizes_of}
use Rattle.machine_steps.specs.machine_theory.Steps.{after}
use Rattle.machine_steps.specs.machine_theory.Theory as theory
use Rattle.machine_steps.specs.serialization.Machine.{all_shut}
use Rattle.page_command.specs.Steps.{parts_of_down, parts_of_poke, parts_of_serve, parts_of_turn, parts_of_up, parts_on, registers_changed}
use Rattle.page_command.specs.Views.{Core, IsPart, Part, Place, Register, Word, view_on}
use Rattle.page_command.proofs.Frames.{core_kept, place_kept, register_kept, value_kept, word_kept}
use Rattle.page_command.proofs.Lists.{register_found}
use Rattle.page_command.proofs.Moving.{down_shows, same_place, serve_shows, up_shows}
use Rattle.page_command.proofs.Turning.{turn_shows, turned_is}

module _ (c : Config) (code : List ℕ) (M : theory.Machine ObservedCore) where
  abbrev written : Poke → theory.Machine ObservedCore
  written q = (theory.poked (program c code) M q).machine

  -- the parts that a write may change
  abbrev parts : Poke → (processor : ℕ) → List Part
  parts q p = parts_of_poke q (M.core p).state.registers ((written q).core p).state.registers

  -- A part shows the same after a write, or the write may change it.
  abbrev Shows : Poke → List Part → Part → Type 0
  Shows q them x = (view_on c code M x ≡ view_on c code (written q) x) ⊎ In x them

  register_shows : (p register value : ℕ) (x : Part) → IsPart c.k x → Shows (poke.Register p register value) (parts (poke.Register p register value) p) x
  register_shows p register value (Core q) within = by (cases_eq q p)
    where
      N : theory.Machine ObservedCore
      N = written (poke.Register p register value)

      by : (q ≡ p) ⊎ (q ≡ p → ⊥) → Shows (poke.Register p register value) (parts (poke.Register p register value) p) (Core q)
      by (inl same) = inr (inl (ap Core same))
      by (inr other) = inl (core_kept c code M N q (sym (put_other M.core p _ q other)) refl)
  register_shows p register value (Place d w) within = inl (place_kept c code M (written (poke.Register p register value)) d w (same_place M.net d w))
  register_shows p register value (Word i) within = inl (word_kept c code M (written (poke.Register p register value)) i refl)
  register_shows p register value (Register q r) within = by (cases_eq q p)
    where
      N : theory.Machine ObservedCore
      N = written (poke.Register p register value)

      at : q ≡ p → (slice_index (M.core p).state.registers r ≡ slice_index (N.core p).state.registers r)
          ⊎ In (Register p r) (registers_changed p (M.core p).state.registers (N.core p).state.registers 32) →
          Shows (poke.Register p register value) (parts (poke.Register p register value) p) (Register q r)
      at same (inl e) = inl (ap (λ n. view_on c code M (Register n r)) same ∙ value_kept c code M N p r e
          ∙ ap (λ n. view_on c code N (Register n r)) (sym same))
      at same (inr there) = inr (inr (subst (λ n. In (Register n r)
          (registers_changed p (M.core p).state.registers (N.core p).state.registers 32)) (sym same) there))

      by : (q ≡ p) ⊎ (q ≡ p → ⊥) → Shows (poke.Register p register value) (parts (poke.Register p register value) p) (Register q r)
      by (inl same) = at same (register_found p _ _ 32 r within.1)
      by (inr other) = inl (register_kept c code M N q r (sym (put_other M.core p _ q other)))

  -- A write of a byte of local memory keeps all registers.
  local_shows : (p address value : ℕ) (x : Part) → Shows (poke.Local p address value) (parts (poke.Local p address value) p) x
  local_shows p address value (Core q) = by (cases_eq q p)
    where
      N : theory.Machine ObservedCore
      N = written (poke.Local p address value)

      by : (q ≡ p) ⊎ (q ≡ p → ⊥) → Shows (poke.Local p address value) (parts (poke.Local p address value) p) (Core q)
      by (inl same) = inr (inl (ap Core same))
      by (inr other) = inl (core_kept c code M N q (sym (put_other M.core p _ q other)) refl)
  local_shows p address value (Place d w) = inl (place_kept c code M (written (poke.Local p address value)) d w (same_place M.net d w))
  local_shows p address value (Word i) = inl (word_kept c code M (written (poke.Local p address value)) i refl)
  local_shows p address value (Register q r) = by (cases_eq q p)
    where
      N : theory.Machine ObservedCore
      N = written (poke.Local p address value)

      by : (q ≡ p) ⊎ (q ≡ p → ⊥) → Shows (poke.Local p address value) (parts (poke.Local p address value) p) (Register q r)
      by (inl same) = inl (value_kept c code M N q r (
          ap (λ n. slice_index (M.core n).state.registers r) same
          ∙ ap (λ (g : ObservedCore). slice_index g.state.registers r) (sym (put_same M.core p _))
          ∙ ap (λ n. slice_index (N.core n).state.registers r) (sym same)))
      by (inr other) = inl (register_kept c code M N q r (sym (put_other M.core p _ q other)))

  shared_shows : (address value p : ℕ) (x : Part) → Shows (poke.Shared address value) (parts (poke.Shared address value) p) x
  shared_shows address value p (Core q) = inl (core_kept c code M (written (poke.Shared address value)) q refl refl)
  shared_shows address value p (Register q r) = inl (register_kept c code M (written (poke.Shared address value)) q r refl)
  shared_shows address value p (Place d w) = inl (place_kept c code M (written (poke.Shared address value)) d w (same_place M.net d w))
  shared_shows address value p (Word i) = by (cases_eq i ((address - 2 ^ 31) / 4))
    where
      by : (i ≡ (address - 2 ^ 31) / 4) ⊎ (i ≡ (address - 2 ^ 31) / 4 → ⊥) →
          Shows (poke.Shared address value) (parts (poke.Shared address value) p) (Word i)
      by (inl is) = inr (inl (ap Word is))
      by (inr other) = inl (word_kept c code M (written (poke.Shared address value)) i (sym (put_other M.mem _ _ i other)))

  -- ---- any step

  abbrev next : Step → theory.Machine ObservedCore
  next s = after c code M s

  -- A part shows the same after a step, or the step may change it.
  abbrev StepShows : Step → Part → Type 0
  StepShows s x = (view_on c code M x ≡ view_on c code (next s) x) ⊎ In x (parts_on c.k M (next s) s)

  turns : (p : ℕ) (x : Part) → IsPart c.k x → (b : Bool) → let N = (if b then theory.turned (program c code) M p (M.is_open p) else theory.stalled M).machine in
      (view_on c code M x ≡ view_on c code N x) ⊎ In x (if b then
      parts_of_turn p (M.core p).state.registers (N.core p).state.registers (M.is_open p) (N.is_open p) else [])
  turns p x within true = turn_shows c code M p _ (turned_is c code M p (M.is_open p) refl) x within
  turns p x within false = inl refl

  ups : (s w : ℕ) (x : Part) → (a b : Bool) → (view_on c code M x ≡ view_on c code
      (if b then theory.went_up M (if a then up_from (sizes_of c) M.net s w (M.net.requests s w) else (up.Stalled, M.net)) else theory.stalled M).machine x)
      ⊎ In x (if a && b then parts_of_up c.k s w (slice_get (M.net.requests s w) 0) else [])
  ups s w x true true = up_shows c code M s w (M.net.requests s w) x
  ups s w x true false = inl refl
  ups s w x false true = inl refl
  ups s w x false false = inl refl

  downs : (s w : ℕ) (x : Part) → (a b : Bool) → (view_on c code M x ≡ view_on c code
      (if b then theory.went_down M (if a then down_from (sizes_of c) M.net s w (M.net.replies (suc s) w) else (down.Stalled, M.net))
      else theory.stalled M).machine x)
      ⊎ In x (if a && b then parts_of_down c.k s w (slice_get (M.net.replies (suc s) w) 0) else [])
  downs s w x true true = down_shows c code M s w (M.net.replies (suc s) w) x
  downs s w x true false = inl refl
  downs s w x false true = inl refl
  downs s w x false false = inl refl

  serves : (m : ℕ) (x : Part) → (b : Bool) → (view_on c code M x ≡ view_on c code
      (if b then theory.serve_from (sizes_of c) M m (M.net.requests c.k m) (M.net.replies c.k m) else theory.stalled M).machine x)
      ⊎ In x (if b then parts_of_serve c.k m (slice_get (M.net.requests c.k m) 0) else [])
  serves m x true = serve_shows c code M m (M.net.requests c.k m) (M.net.replies c.k m) x
  serves m x false = inl refl

  -- Of a processor that the machine does not have, nothing is a part.
  missed : (p q : ℕ) → nat_lt p (2 ^ c.k) ≡ false → q < 2 ^ c.k → q ≡ p → ⊥
  missed p q past within same = let few = ltb-false p (2 ^ c.k) past in omega (arith, few, within, same)

  register_missed : (p register value : ℕ) (x : Part) → nat_lt p (2 ^ c.k) ≡ false → IsPart c.k x →
      view_on c code M x ≡ view_on c code (written (poke.Register p register value)) x
  register_missed p register value (Core q) past within =
      core_kept c code M (written (poke.Register p register value)) q (sym (put_other M.core p _ q (missed p q past within))) refl
  register_missed p register value (Register q r) past within =
      register_kept c code M (written (poke.Register p register value)) q r (sym (put_other M.core p _ q (missed p q past within.0)))
  register_missed p register value (Place d w) past within = place_kept c code M (written (poke.Register p register value)) d w (same_place M.net d w)
  register_missed p register value (Word i) past within = word_kept c code M (written (poke.Register p register value)) i refl

  local_missed : (p address value : ℕ) (x : Part) → nat_lt p (2 ^ c.k) ≡ false → IsPart c.k x →
      view_on c code M x ≡ view_on c code (written (poke.Local p address value)) x
  local_missed p address value (Core q) past within =
      core_kept c code M (written (poke.Local p address value)) q (sym (put_other M.core p _ q (missed p q past within))) refl
  local_missed p address value (Register q r) past within =
      register_kept c code M (written (poke.Local p address value)) q r (sym (put_other M.core p _ q (missed p q past within.0)))
  local_missed p address value (Place d w) past within = place_kept c code M (written (poke.Local p address value)) d w (same_place M.net d w)
  local_missed p address value (Word i) past within = word_kept c code M (written (poke.Local p address value)) i refl

  register_writes : (p register value : ℕ) (x : Part) → IsPart c.k x → (l b : Bool) → nat_lt p (2 ^ c.k) ≡ b →
      let q = poke.Register p register value in
      let N = (if l then theory.poked (program c code) M q else theory.stalled M).machine in (view_on c code M x ≡ view_on c code N x)
      ⊎ In x (if b then parts_of_poke q (M.core p).state.registers (N.core p).state.registers else [])
  register_writes p register value x within false b e = inl refl
  register_writes p register value x within true true e = register_shows p register value x within
  register_writes p register value x within true false e = inl (register_missed p register value x e within)

  local_writes : (p address value : ℕ) (x : Part) → IsPart c.k x → (l b : Bool) → nat_lt p (2 ^ c.k) ≡ b →
      let q = poke.Local p address value in
      let N = (if l then theory.poked (program c code) M q else theory.stalled M).machine in (view_on c code M x ≡ view_on c code N x)
      ⊎ In x (if b then parts_of_poke q (M.core p).state.registers (N.core p).state.registers else [])
  local_writes p address value x within false b e = inl refl
  local_writes p address value x within true true e = local_shows p address value x
  local_writes p address value x within true false e = inl (local_missed p address value x e within)

  shared_writes : (address value : ℕ) (x : Part) → (l : Bool) →
      let q = poke.Shared address value in
      let N = (if l then theory.poked (program c code) M q else theory.stalled M).machine in (view_on c code M x ≡ view_on c code N x)
      ⊎ In x (parts_of_poke q (M.core 0).state.registers (N.core 0).state.registers)
  shared_writes address value x true = shared_shows address value 0 x
  shared_writes address value x false = inl refl

  -- whether a write is carried out
  abbrev is_done : Poke → Bool
  is_done q = all_shut (wires (sizes_of c)) M.is_open && (program c code).is_lawful M.core q

  -- After any step each part shows the same, or is one of those that the step may change.
  pub step_shows : (s : Step) (x : Part) → IsPart c.k x → StepShows s x
  unfolding after moved_up moved_down
  step_shows (step.Turn p) x within = turns p x within (nat_lt p (2 ^ c.k))
  step_shows (step.Up s w) x within = ups s w x (nat_lt s c.k) (nat_lt w (2 ^ c.k))
  step_shows (step.Serve m) x within = serves m x (nat_lt m (2 ^ c.k))
  step_shows (step.Down s w) x within = downs s w x (nat_lt s c.k) (nat_lt w (2 ^ c.k))
  step_shows (step.Poke (poke.Register p register value)) x within =
      register_writes p register value x within (is_done (poke.Register p register value)) (nat_lt p (2 ^ c.k)) refl
  step_shows (step.Poke (poke.Local p address value)) x within =
      local_writes p address value x within (is_done (poke.Local p address value)) (nat_lt p (2 ^ c.k)) refl
  step_shows (step.Poke (poke.Shared address value)) x within = shared_writes address value x (is_done (poke.Shared address value))
