-- A step that stops no processor changes no processor's status.
use Rattle.std.proofs.Common.{◌≡◌, ℕ, ◌^◌, Bool, true, false, nat_lt, List, [], ◌∷◌, eqb-true, refl, sym, ap, ◌∙◌, subst}
use Rattle.std.specs.Prelude.{◌%◌, ◌==◌, cond, eqb, Result, Ok, Err, if◌then◌else◌}
use Rattle.std.proofs.lemmas.Bool.{true≢false}
use Rattle.flat_machine.specs.rv_table.declared.insn.Insn.{Insn}
use Rattle.flat_machine.specs.declared.config.Config.{Config}
use Rattle.flat_machine.specs.declared.effect.Effect.{Effect}
use Rattle.flat_machine.specs.declared.effect.Effect.TheVariants as does
use Rattle.flat_machine.specs.declared.effect.Region.{Region}
use Rattle.flat_machine.specs.declared.effect.Region.TheVariants as region
use Rattle.flat_machine.specs.declared.fault.Fault.{Fault}
use Rattle.flat_machine.specs.declared.setting.Setting.{Setting}
use Rattle.flat_machine.specs.Effects.{effect_of}
use Rattle.flat_machine.specs.Memory.{region_of}
use Rattle.flat_machine.specs.Operations.{load_size, loaded, store_size, amo_value}
use Rattle.flat_machine.specs.State.{Processor, is_running}
use Rattle.flat_machine.specs.Turns.{Turn, Retires, Reaches, Stops, accessed, fetched, performed, turn_by, turn_of}
use Rattle.machine_steps.specs.hart.Deciding.{after_reply}
use Rattle.machine_steps.specs.messages.Places.{put}
use Rattle.machine_steps.specs.messages.declared.message.Request.{Request}
use Rattle.machine_steps.specs.messages.declared.message.Reply.{Reply}
use Rattle.machine_steps.specs.messages.declared.moves.DownMove.{DownMove}
use Rattle.machine_steps.specs.messages.declared.moves.DownMove.TheVariants as down
use Rattle.machine_steps.specs.messages.declared.moves.UpMove.{UpMove}
use Rattle.machine_steps.specs.messages.declared.moves.UpMove.TheVariants as up
use Rattle.machine_steps.specs.messages.Moves.{moved_up, moved_down}
use Rattle.machine_steps.specs.messages.Network.{Net}
use Rattle.machine_steps.specs.machine_theory.Theory.{serve_from, stalled, went_down, went_up}
use Rattle.machine_steps.specs.machine_theory.Theory as theory
use Rattle.machine_steps.specs.serialization.Machine.{begin, retire_from, turned}
use Rattle.machine_steps.specs.serialization.Program.{Kind, Rests, Alone, Refers}
use Rattle.steps.specs.declared.step.Outcome.{Outcome}
use Rattle.steps.specs.declared.step.Step.{Step}
use Rattle.steps.specs.declared.step.Step.TheVariants as step
use Rattle.steps.specs.Kinds.{is_poke}
use Rattle.machine_steps.specs.machine_theory.Processors.{ObservedCore, alone_by, kind_of, next, program, retired_by, setting_of, sizes_of}
use Rattle.machine_steps.specs.machine_theory.Steps.{after, answer_of, outcome_of, taken, outcome_of_turn}
use Rattle.schedules.specs.Sweeps.{IsStop}

-- ---- a turn

-- The turn, unless it stops the processor, does not change its status.
abbrev KeepsStatus : Processor → Turn → Type 0
KeepsStatus p (Retires after retired) = after.status ≡ p.status
KeepsStatus p (Reaches word change after) = (found : ℕ) → (after found).0.status ≡ p.status
KeepsStatus p (Stops cause) = Unit {0}

module _ (s : Setting) (code : List ℕ) (p : Processor) (i : Insn) where
  in_region : (size address rd : ℕ) (value change : ℕ → ℕ) (writes : Bool) (r : Result Region Fault) →
      KeepsStatus p (accessed code p i size address rd value change writes r)
  in_region size address rd value change writes (Ok (region.Shared word)) = λ found. refl
  in_region size address rd value change writes (Ok (region.Local place)) = refl
  in_region size address rd value change writes (Ok (region.Code place)) = refl
  in_region size address rd value change writes (Err fault) = tt

  when : (b : Bool) (t u : Turn) → KeepsStatus p t → KeepsStatus p u → KeepsStatus p (if b then t else u)
  when true t u one other = one
  when false t u one other = other

  by_effect : (e : Effect) → KeepsStatus p (performed s code p i e)
  by_effect (does.Write rd value) = refl
  by_effect (does.Jump rd value target) = when (target % 4 == 0) _ _ refl tt
  by_effect does.Pass = refl
  by_effect (does.Load op rd address) = in_region (load_size op) address rd (loaded op) (λ old. old) false (region_of s (load_size op) address false)
  by_effect (does.Store op address value) = in_region (store_size op) address 0 (λ old. 0) (λ old. value) true (region_of s (store_size op) address true)
  by_effect (does.Amo op rd address value) = in_region 4 address rd (λ old. old) (λ old. amo_value op old value) true (region_of s 4 address true)
  by_effect (does.Print byte) = refl
  by_effect (does.Halt byte) = tt
  by_effect (does.Fail fault) = tt

turn_keeps : (s : Setting) (code : List ℕ) (p : Processor) → KeepsStatus p (turn_of s code p)
turn_keeps s code p = by (fetched code p.pc)
  where
    by : (r : Result Insn Fault) → KeepsStatus p (turn_by s code p r)
    by (Ok i) = by_effect s code p i (effect_of s p.pc p.registers i)
    by (Err fault) = tt

-- ---- a step

put_keeps : (core : ℕ → ObservedCore) (p : ℕ) (g : ObservedCore) → g.state.status ≡ (core p).state.status → (q : ℕ) →
    (put core p g q).state.status ≡ (core q).state.status
unfolding put
put_keeps core p g same q = by (eqb q p) refl
  where
    by : (b : Bool) → eqb q p ≡ b → (cond b g (core q)).state.status ≡ (core q).state.status
    by true e = same ∙ ap (λ n. (core n).state.status) (sym (eqb-true q p e))
    by false e = refl

module _ (c : Config) (code : List ℕ) (M : theory.Machine ObservedCore) where
  abbrev turns : ℕ → Turn
  turns p = next c code p (M.core p).state

  abbrev answers : theory.Outcome → Outcome
  answers = answer_of turns

  abbrev KeepsAll : theory.Result ObservedCore → Type 0
  KeepsAll r = (IsStop (answers r.outcome) → ⊥) → (q : ℕ) → (r.machine.core q).state.status ≡ (M.core q).state.status

  either : (b : Bool) (r : theory.Result ObservedCore) → KeepsAll r → KeepsAll (if b then r else stalled M)
  either true r keeps = keeps
  either false r keeps = λ plain q. refl

  of_reply : (g : ObservedCore) (t : Turn) (value : ℕ) → KeepsStatus g.state t → (retired_by g (after_reply t value)).state.status ≡ g.state.status
  of_reply g (Reaches word change after) value keeps = keeps value
  of_reply g (Retires after retired) value keeps = refl
  of_reply g (Stops cause) value keeps = refl

  keeps_turn : (p : ℕ) → KeepsStatus (M.core p).state (turns p)
  keeps_turn p = turn_keeps (setting_of c p) code (M.core p).state

  retires : (p : ℕ) (ys : List Reply) → KeepsAll (retire_from (program c code) M p ys)
  retires p [] = λ plain q. refl
  retires p (y ∷ ys) =
      λ plain. put_keeps M.core p (retired_by (M.core p) (after_reply (turns p) y.value)) (of_reply (M.core p) (turns p) y.value (keeps_turn p))

  alone : (p : ℕ) (t : Turn) → turns p ≡ t → KeepsStatus (M.core p).state t → (IsStop (answers (theory.Advanced p)) → ⊥) →
      (alone_by (M.core p) t).state.status ≡ (M.core p).state.status
  alone p (Retires after retired) e keeps plain = keeps
  alone p (Reaches word change after) e keeps plain = refl
  alone p (Stops cause) e keeps plain = absurd (plain (subst (λ t. IsStop (outcome_of_turn t)) (sym e) tt))

  begins : (p : ℕ) (k : Kind) → KeepsAll (begin (program c code) M p k)
  begins p Rests = λ plain q. refl
  begins p Alone = λ plain. put_keeps M.core p (alone_by (M.core p) (turns p)) (alone p (turns p) refl (keeps_turn p) plain)
  begins p Refers = λ plain q. refl

  takes : (p : ℕ) (b : Bool) → KeepsAll (turned (program c code) M p b)
  takes p true = retires p (M.net.replies 0 p)
  takes p false = begins p (kind_of (is_running (M.core p).state.status) (turns p))

  goes_up : (r : UpMove × Net) → KeepsAll (went_up M r)
  goes_up (up.Stalled, net) = λ plain q. refl
  goes_up (up.Moved, net) = λ plain q. refl
  goes_up (up.Combined first second, net) = λ plain q. refl

  goes_down : (r : DownMove × Net) → KeepsAll (went_down M r)
  goes_down (down.Stalled, net) = λ plain q. refl
  goes_down (down.Moved, net) = λ plain q. refl
  goes_down (down.Answered to, net) = λ plain q. refl

  serves : (m : ℕ) (xs : List Request) (ys : List Reply) → KeepsAll (serve_from (sizes_of c) M m xs ys)
  serves m [] ys = λ plain q. refl
  serves m (x ∷ rest) (y ∷ ys) = λ plain q. refl
  serves m (x ∷ rest) [] = λ plain q. refl

  keeps_all : (s : Step) → is_poke s ≡ false → KeepsAll (taken c code M s)
  keeps_all (step.Turn p) own = either (nat_lt p (2 ^ c.k)) (turned (program c code) M p (M.is_open p)) (takes p (M.is_open p))
  keeps_all (step.Up s w) own = either (nat_lt w (2 ^ c.k)) (went_up M (moved_up (sizes_of c) M.net s w)) (goes_up (moved_up (sizes_of c) M.net s w))
  keeps_all (step.Serve m) own = either (nat_lt m (2 ^ c.k)) (serve_from (sizes_of c) M m (M.net.requests c.k m) (M.net.replies c.k m))
      (serves m (M.net.requests c.k m) (M.net.replies c.k m))
  keeps_all (step.Down s w) own = either (nat_lt w (2 ^ c.k)) (went_down M (moved_down (sizes_of c) M.net s w)) (goes_down (moved_down (sizes_of c) M.net s w))
  keeps_all (step.Poke q) own = absurd (true≢false own)

  -- A step that writes nothing from outside and stops no processor changes no processor's status.
  pub statuses_kept : (s : Step) → is_poke s ≡ false → (IsStop (outcome_of c code M s) → ⊥) → (q : ℕ) →
      ((after c code M s).core q).state.status ≡ (M.core q).state.status
  unfolding outcome_of after
  statuses_kept s own plain = keeps_all s own plain
