-- One serial order of whole instructions explains a run.
use Rattle.std.proofs.Common.{◌≡◌, ℕ, zero, suc, ◌^◌, ◌<◌, ◌≤◌, List, [], ◌∷◌, ◌++◌, length, ◌⊎◌, inl, inr, refl, sym, ap, ◌∙◌, subst, arith}
use Rattle.std.specs.Prelude.{slice_index_or}
use Rattle.std.proofs.lemmas.Bool.{cases_lt}
use Rattle.machine_ports.specs.flat_machine.declared.config.Config.{Config}
use Rattle.machine_ports.specs.flat_machine.declared.poke.Entry.{Entry}
use Rattle.machine_ports.specs.flat_machine.declared.poke.Entry.TheVariants as entry
use Rattle.machine_ports.specs.flat_machine.State.{FlatState, Processor}
use Rattle.machine_ports.specs.flat_machine.Laws.{HasWords, AreBelow}
use Rattle.machine_ports.proofs.Lemmas.flat_machine.{all_get}
use Rattle.serialization.specs.network_theory.Roles.{Idle}
use Rattle.serialization.proofs.Lemmas.{steady_start, at_the_moment, follows, served_once}
use Rattle.serialization.specs.Machine.{new_machine, Machine}
use Rattle.serialization.specs.Order.{FlatMachine, flat_of, from_machine, ran, outcomes, flat_run}
use Rattle.serialization.specs.Serialization.{Begins, FindsAt, EachServedOnce}
use Rattle.machine_theory.specs.Theory.{Step}
use Rattle.machine_theory.specs.Order.{Passed}
use Rattle.machine_theory.specs.Processors.{ObservedCore, no_processor, sizes_of, program}
use Rattle.machine_theory.proofs.Reading.{found_within}
use Rattle.machine_theory.specs.FlatSizes.{IsSoundFlat}
use Rattle.machine_theory.specs.Flatness.{read_flat, AreLawful, IsGood}
use Rattle.machine_theory.specs.Explained.{Opens, Finds, IsExplained, RunsAreExplained, flat_after}
use Rattle.machine_theory.proofs.Flat.{run_agrees}
use Rattle.machine_theory.proofs.Good.{keeps, means_change}
use Rattle.machine_theory.proofs.Lawful.{order_lawful}

module _ (c : Config) (code : List ℕ) where
  bytes_of : (F : FlatState) → IsSoundFlat c code F → AreBelow 256 code
  bytes_of F sound = subst (AreBelow 256) sound.size.code_is sound.ranges.code

  -- Each processor of a sound flat machine is good.
  good_flat : (F : FlatState) → IsSoundFlat c code F → (p : ℕ) → IsGood p ((read_flat F (λ p. [])).core p)
  good_flat F sound p = at (cases_lt p (length F.processors))
    where
      at : (p < length F.processors) ⊎ (length F.processors ≤ p) → IsGood p ((read_flat F (λ p. [])).core p)
      at (inl within) =
          let count = sound.ranges.count in (
            all_get HasWords F.processors p (slice_index_or F.processors p no_processor) sound.ranges.processors
                (found_within F.processors p no_processor within),
            inl (omega arith),
          )
      at (inr past) =
          let none : slice_index_or F.processors p no_processor ≡ no_processor = past_all F.processors p past in
          subst (λ s. IsGood p (record { state = s; events = [] })) (sym none)
          (record { pc = omega arith; registers = λ r. omega arith; local = λ r. omega arith }, inr refl)
        where
          past_all : (xs : List Processor) (i : ℕ) → length xs ≤ i → slice_index_or xs i no_processor ≡ no_processor
          past_all [] i l = refl
          past_all (x ∷ xs) zero l = absurd (omega arith)
          past_all (x ∷ xs) (suc i) l = past_all xs i (omega arith)

  begins : (M : Machine ObservedCore) (F : FlatState) → Opens c code M F → Begins (sizes_of c) (program c code) IsGood M
  begins M F o = record {
    role = o.role;
    steady = o.steady;
    idle = o.idle;
    good_cores = λ p. subst (λ (f : FlatMachine ObservedCore). IsGood p (f.core p)) (sym o.reads) (good_flat F o.sound p);
    words = λ a. subst (λ (f : FlatMachine ObservedCore). f.mem a < 2 ^ 32) (sym o.reads) (o.sound.ranges.shared a);
  }

  module _ (M : Machine ObservedCore) (F : FlatState) (o : Opens c code M F) where
    agrees : (es : List Entry) → AreLawful c es → flat_run (program c code) (flat_of M) es ≡ flat_after c code F es
    agrees es lawful =
        ap (λ f. flat_run (program c code) f es) o.reads ∙ run_agrees c code (means_change c code o.few (bytes_of F o.sound)) es F (λ p. []) lawful o.sound

    before_lawful : (xs ys : List Entry) → AreLawful c (xs ++ ys) → AreLawful c xs
    before_lawful [] ys a = tt
    before_lawful (x ∷ xs) ys a = (a.0, before_lawful xs ys a.1)

    finds : (order : List Entry) → AreLawful c order → (core : ℕ → ObservedCore) (p place found : ℕ) →
        FindsAt (program c code) (flat_of M) order core p place found →
        Finds c code F order p place found (core p)
    finds order lawful core p place found f =
        let a = before_lawful f.before (entry.Processor p ∷ f.later) (subst (AreLawful c) f.is lawful) in
        record {
          before = f.before;
          later = f.later;
          is = f.is;
          at_place = f.at_place;
          word = f.found ∙ ap (λ (g : FlatMachine ObservedCore). g.mem ((program c code).word_of p (core p))) (agrees f.before a);
        }

    explained : (steps : List Step) → IsExplained c code F (ran (sizes_of c) (program c code) M steps)
    explained steps =
        let h : Passed ObservedCore = ran (sizes_of c) (program c code) M steps in
        let lawful : AreLawful c h.order = order_lawful c code steps (from_machine M) tt in
        let m = at_the_moment (sizes_of c) (program c code) IsGood (flat_of M) h
        (follows (sizes_of c) (program c code) IsGood (keeps c code o.few (bytes_of F o.sound)) M (begins M F o) steps) in
        let same = agrees h.order lawful in
        record {
          words = λ i. m.words i ∙ ap (λ (g : FlatMachine ObservedCore). g.mem i) same;
          shut = m.shut;
          unserved = λ p none. sym (m.unserved p none) ∙ ap (λ (g : FlatMachine ObservedCore). g.core p) same;
          served = λ p place e. let s =
              m.served p place e in (
                s.0,
                finds h.order lawful h.machine.core p place s.0 s.1,
                sym (ap (λ (g : FlatMachine ObservedCore). g.core p) same)
                    ∙ s.2,
              );
          retires = λ p found e. let r = m.retires p found e in (r.0, r.1, finds h.order lawful h.machine.core p r.0 found r.2);
        }

    once : (steps : List Step) → EachServedOnce (outcomes (sizes_of c) (program c code) steps M)
    once steps = served_once (sizes_of c) (program c code) IsGood (keeps c code o.few (bytes_of F o.sound)) M (begins M F o) steps

-- A run may begin from the machine of a sound flat machine.
opens_on : (c : Config) (code : List ℕ) (F : FlatState) → c.k ≤ 6 → IsSoundFlat c code F →
    Opens c code (new_machine (read_flat F (λ p. [])).mem (read_flat F (λ p. [])).core) F
opens_on c code F few sound = record {
  few = few;
  sound = sound;
  role = λ p. Idle;
  steady = steady_start (sizes_of c) (program c code) (read_flat F (λ p. [])).mem (read_flat F (λ p. [])).core;
  idle = λ p within. refl;
  reads = refl;
}

-- Every run from an idle machine is explained by its serial order, in which each reference is served once.
pub runs_are_explained : (c : Config) (code : List ℕ) → RunsAreExplained c code
runs_are_explained c code = record {
  opens = λ F few sound. opens_on c code F few sound;
  moments = λ M F steps o. explained c code M F o steps;
  once = λ M F steps o. once c code M F o steps;
}
