-- A write from outside, if no reference is open, is a step of the flat machine.
use Rattle.std.proofs.Common.{◌≡◌, ℕ, ◌^◌, Bool, true, false, [], refl, sym, ap, ap₂, ◌∙◌, subst}
use Rattle.std.specs.Prelude.{◌&&◌, if◌then◌else◌}
use mathlib.Core.Path.{fun_ext}
use Rattle.flat_machine.specs.declared.config.Config.{Config}
use Rattle.flat_machine.specs.declared.poke.Poke.{Poke}
use Rattle.flat_machine.specs.declared.poke.Entry.TheVariants as entry
use Rattle.flat_machine.specs.State.{FlatState}
use Rattle.flat_machine.specs.Flat.{flat_step, written}
use Rattle.omega_network.specs.Networks.{net_of}
use Rattle.machine_theory.specs.Theory as theory
use Rattle.steps.specs.declared.step.Step.TheVariants as step
use Rattle.steps.specs.declared.step.Outcome.{Outcome}
use Rattle.steps.specs.declared.step.Outcome.TheVariants.{Poked, Stalled}
use Rattle.machine_theory.specs.Processors.{ObservedCore, next, program, open_at, port_at, is_lawful_poke, poked_words, poked_processors}
use Rattle.machine_theory.specs.FlatSizes.{HasSize}
use Rattle.machine_theory.specs.Steps.{taken, answer_of, outcome_of, after, machine_of_parts}
use Rattle.machine_theory.proofs.Lemmas.{home_all, lawful_same, parts_of, shut_all, size_written, written_agrees}
use Rattle.machine_steps.specs.Machines.{MachineLists, machine_of, AreHome, IsIdle, IsMachine, IsStep}
use Rattle.machine_steps.specs.Openings.{flat_state}
use Rattle.machine_steps.specs.Poking.{IsPoked}
use Rattle.machine_steps.proofs.Flattening.{all_shut, state_at, word_is, sound, flat_is}

module _ (old : MachineLists) (q : Poke) (o : Outcome) (new : MachineLists) (is : IsMachine old) (idle : IsIdle old) (home : AreHome old) (is' : IsMachine new)
    (st : IsStep old (step.Poke q) o new) where
  abbrev c : Config
  c = old.config

  abbrev M : theory.Machine ObservedCore
  M = machine_of old (λ p. [])

  abbrev F : FlatState
  F = flat_state old

  abbrev lawful : Bool
  lawful = is_lawful_poke c q

  -- the result of the poke, lawful or not
  abbrev done : Bool → theory.Result ObservedCore
  done b = if b then theory.poked (program c old.code) M q else theory.stalled M

  does : taken c old.code M (step.Poke q) ≡ done lawful
  unfolding machine_of_parts
  does = ap₂ (λ a b. done (a && (b && lawful))) (shut_all (2 ^ c.k) (open_at old.ports) idle)
      (home_all (2 ^ c.k) (λ p. (port_at old.ports p).core.state) home)

  answered : (b : Bool) → answer_of (λ p. next c old.code p (M.core p).state) (done b).outcome ≡ (if b then Poked else Stalled)
  answered true = refl
  answered false = refl

  answer_is : o ≡ (if lawful then Poked else Stalled)
  unfolding outcome_of
  answer_is = st.step.outcome ∙ ap (λ (r : theory.Result ObservedCore). answer_of (λ p. next c old.code p (M.core p).state) r.outcome) does ∙ answered lawful

  -- The machine after the poke is that of the result.
  leaves : machine_of new (λ p. []) ≡ (done lawful).machine
  unfolding after
  leaves =
      ap (λ c. machine_of_parts c (net_of new.network) new.ports new.modules (λ p. [])) st.config ∙ st.step.after (λ p. [])
      ∙ ap (λ (r : theory.Result ObservedCore). r.machine) does

  open_kept : (b : Bool) (p : ℕ) → (done b).machine.is_open p ≡ M.is_open p
  open_kept true p = refl
  open_kept false p = refl

  idle_after : IsIdle new
  unfolding machine_of_parts
  idle_after p within = ap (λ (N : theory.Machine ObservedCore). N.is_open p) leaves ∙ open_kept lawful p ∙ all_shut old is idle p

  -- ---- the flat machine

  -- the words and the processors of a machine
  abbrev parts : theory.Machine ObservedCore → (ℕ → ℕ) × (ℕ → ObservedCore)
  parts N = (N.mem, N.core)

  before : parts M ≡ parts_of F (λ p. [])
  unfolding machine_of_parts
  before = ap₂ (λ (f : ℕ → ℕ) (g : ℕ → ObservedCore). (f, g)) (fun_ext (λ i. sym (word_is old is i)))
      (fun_ext (λ p. ap (λ s. record { state = s; events = [] }) (sym (state_at old is p))))

  -- the flat machine after the poke
  abbrev next_flat : Bool → FlatState
  next_flat b = if b then written F q else F

  parts_are : (b : Bool) → lawful ≡ b → parts (done b).machine ≡ parts_of (next_flat b) (λ p. [])
  parts_are true e =
      ap (λ (x : (ℕ → ℕ) × (ℕ → ObservedCore)). (poked_words q x.0, poked_processors q x.1)) before
      ∙ written_agrees c old.code F (λ p. []) q (sound old is).size e
  parts_are false e = before

  size_is : (b : Bool) → HasSize c old.code (next_flat b)
  size_is true = size_written c old.code F q (sound old is).size
  size_is false = (sound old is).size

  flat_by : (b : Bool) → lawful ≡ b → next_flat b ≡ (if b then flat_step F (entry.Poke q) else F)
  unfolding flat_step
  flat_by true e = ap (λ b. if b then written F q else F) (sym (lawful_same c old.code F q (sound old is).size e))
  flat_by false e = refl

  flat_after : flat_state new ≡ next_flat lawful
  unfolding machine_of_parts
  flat_after =
      let all : parts (machine_of new (λ p. [])) ≡ parts_of (next_flat lawful) (λ p. []) = ap parts leaves ∙ parts_are lawful refl in
      flat_is new is' (next_flat lawful) (subst (λ (x : Config). HasSize x new.code (next_flat lawful)) (sym st.config)
      (subst (λ code. HasSize c code (next_flat lawful)) (sym st.code) (size_is lawful)))
      (λ p. ap (λ (x : (ℕ → ℕ) × (ℕ → ObservedCore)). (x.1 p).state) all) (λ i. ap (λ (x : (ℕ → ℕ) × (ℕ → ObservedCore)). x.0 i) all)

  -- If no reference is open and no core is away, a lawful poke is a step of the flat machine, and any other changes
  -- nothing.
  pub poke_whole : IsPoked old q o new
  poke_whole = record { answer = answer_is; idle = idle_after; flat = flat_after ∙ flat_by lawful refl }
