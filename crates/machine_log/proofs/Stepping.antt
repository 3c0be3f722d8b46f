-- A log that lends is still one after a step.
use Rattle.std.proofs.Common.{◌≡◌, ℕ, ◌+◌, ◌-◌, ◌^◌, ◌<◌, ◌≤◌, true, false, List, length, Option, Some, None, refl, sym, ap, ◌∙◌, subst, arith}
use Rattle.std.specs.Prelude.{replicate}
use Rattle.std.proofs.lemmas.Bool.{true≢false}
use Rattle.std.proofs.lemmas.List.{length-replicate}
use Rattle.flat_machine.specs.declared.config.Config.{Config}
use Rattle.flat_machine.specs.declared.event.Event.{Event}
use Rattle.flat_machine.specs.Laws.{HasWords}
use Rattle.steps.specs.declared.step.Step.{Step}
use Rattle.steps.specs.declared.step.Outcome.{Outcome}
use Rattle.steps.specs.declared.step.Outcome.TheVariants.{Stalled}
use Rattle.machine_steps.specs.machine_ports.Ports.{PortState, is_away, no_processor}
use Rattle.machine_theory.specs.Processors.{port_at, setting_of, sizes_of}
use Rattle.machine_steps.specs.Machines.{MachineLists, AreModules, ArePorts, IsMachine, IsStep, machine_of}
use Rattle.machine_steps.proofs.Lemmas.{parts_kept, stalled_keeps, outcome_there}
use Rattle.machine_steps.specs.Runs.{answer_after}
use Rattle.machine_log.specs.Logs.{HasTaken, IsEntered, IsWellFormed, entered}
use Rattle.machine_log.proofs.Taking.{entered_one, kept_after}
use Rattle.machine_theory.specs.Laws.{OthersDoNotNotice}
use Rattle.machine_log.specs.Lendings.{IsLending, IsLent, OfOthers, all_back, lent_at, promised, whole, with_lent}
use Rattle.machine_log.specs.declared.lent.Lent.{Lent}
use Rattle.machine_log.proofs.Backing.{back_at, back_length, back_none, none_promised, replicate_none}
use Rattle.machine_log.proofs.Noticing.{step_back}

-- the ports with all cores back
module _ (c : Config) (ports : List PortState) (are : ArePorts c ports) (lent : List (Option Lent)) (all : length lent ≡ length ports)
    (setting : (p : ℕ) (l : Lent) → lent_at lent p ≡ Some l → l.core.setting ≡ setting_of c p)
    (words : (p : ℕ) (l : Lent) → lent_at lent p ≡ Some l → HasWords l.core.state)
    (home : (p : ℕ) (l : Lent) → lent_at lent p ≡ Some l → is_away l.core.state ≡ false) where
  back : (P : PortState → Type 0) (p : ℕ) → P (with_lent (port_at ports p) (lent_at lent p)) → P (port_at (all_back ports lent) p)
  back P p = subst P (sym (back_at ports lent p all))

  pub back_ports : ArePorts c (all_back ports lent)
  back_ports = record {
    all = back_length ports lent ∙ are.all;
    settings = λ p within. back (λ x. x.core.setting ≡ setting_of c p) p (setting_at p within (lent_at lent p) refl);
    words = λ p. back (λ x. HasWords x.core.state) p (words_at p (lent_at lent p) refl);
    rest = λ p. back (λ x. is_away x.core.state ≡ true → x.core.state ≡ no_processor) p (rest_at p (lent_at lent p) refl);
  }
    where
      setting_at : (p : ℕ) → p < 2 ^ c.k → (l : Option Lent) → lent_at lent p ≡ l → (with_lent (port_at ports p) l).core.setting ≡ setting_of c p
      setting_at p within None e = are.settings p within
      setting_at p within (Some l) e = setting p l e

      words_at : (p : ℕ) (l : Option Lent) → lent_at lent p ≡ l → HasWords (with_lent (port_at ports p) l).core.state
      words_at p None e = are.words p
      words_at p (Some l) e = words p l e

      rest_at : (p : ℕ) (l : Option Lent) → lent_at lent p ≡ l → is_away (with_lent (port_at ports p) l).core.state ≡ true →
          (with_lent (port_at ports p) l).core.state ≡ no_processor
      rest_at p None e = are.rest p
      rest_at p (Some l) e = λ away. absurd (true≢false (sym away ∙ home p l e))

-- If no core is lent, the machine with all cores back is the machine itself.
pub whole_none : (m : MachineLists) (n : ℕ) → whole m (replicate n None) ≡ m
whole_none m n = ap (λ ports. record m { ports = ports }) (back_none m.ports (replicate n None) (replicate_none n))

-- ---- a step

module _ (laws : OthersDoNotNotice) (opening m m' : MachineLists) (steps : List Step) (capacity : ℕ) (lent : List (Option Lent))
    (is : IsLending opening m steps capacity lent) (s : Step) (o : Outcome) (others : OfOthers lent s) (st : IsStep m s o m') (sound' : IsMachine m') where
  same : length lent ≡ length m.ports
  same = is.all ∙ sym is.sound.ports.all

  same' : length lent ≡ length m'.ports
  same' = is.all ∙ ap (λ (c : Config). 2 ^ c.k) (sym st.config) ∙ sym sound'.ports.all

  still : (p : ℕ) (l : Lent) → lent_at lent p ≡ Some l → IsLent m' p l
  still p l e =
      let lent = is.away p l e in
      record {
        away = st.cores p ∙ lent.away;
        setting = lent.setting ∙ ap (λ c. setting_of c p) (sym st.config);
        words = lent.words;
        home = lent.home;
      }

  pub step_there : IsStep (whole m lent) s o (whole m' lent)
  step_there = step_back laws m m' lent same same' s o others st

  ports' : ArePorts m'.config (all_back m'.ports lent)
  ports' = back_ports m'.config m'.ports sound'.ports lent same' (λ p l e. (still p l e).setting) (λ p l e. (still p l e).words) (λ p l e. (still p l e).home)

  whole_sound : IsMachine (whole m' lent)
  whole_sound = record {
    limits = sound'.limits;
    sizes = sound'.sizes;
    ports = ports';
    modules = sound'.modules;
    code = sound'.code;
    role = steady.role;
    steady = steady.steady;
  }
    where
      steady : IsMachine (whole m' lent)
      steady = subst IsMachine (λ i. record {
        config = sym st.config i;
        image = sym st.image i;
        network = m'.network;
        ports = all_back m'.ports lent;
        modules = m'.modules;
        code = sym st.code i;
      })
          (parts_kept m.config m.code m.image m.network m'.network (all_back m.ports lent) (all_back m'.ports lent) m.modules m'.modules s o is.kept.sound
          step_there.step (sound'.sizes ∙ ap sizes_of st.config ∙ sym is.sound.sizes) (subst (λ c. ArePorts c (all_back m'.ports lent)) st.config ports')
          (subst (λ c. AreModules c m'.modules) st.config sound'.modules))

  stalled_there : o ≡ Stalled → (shown : ℕ → List Event) → machine_of (whole m' lent) shown ≡ machine_of (whole m lent) shown
  stalled_there = stalled_keeps (whole m lent) (whole m' lent) s o is.kept.sound step_there

  pub entered_there : IsEntered (whole m lent) steps 1 (whole m' lent) (entered steps s o)
  entered_there = entered_one (whole m lent) (whole m' lent) steps s o whole_sound step_there stalled_there

  -- The log still lends after the step.
  pub lends_on : (steps' : List Step) (capacity' : ℕ) → steps' ≡ entered steps s o → promised lent ≤ capacity' - length steps' →
      length steps' + promised lent ≤ 4194304 → IsLending opening m' steps' capacity' lent
  lends_on steps' capacity' e capacity_left room = record {
    sound = sound';
    kept = kept_after (record { opening = opening; steps = steps; machine = whole m lent }) (whole m' lent) steps' 1 is.kept
        (subst (IsEntered (whole m lent) steps 1 (whole m' lent)) (sym e) entered_there) (omega (arith, room));
    all = is.all ∙ ap (λ (c : Config). 2 ^ c.k) (sym st.config);
    away = still;
    capacity_left = capacity_left;
    room = room;
  }

  -- The log with all cores back has taken the step.
  pub taken_there : (steps' : List Step) → steps' ≡ entered steps s o →
      HasTaken (record { opening = opening; steps = steps; machine = whole m lent }) s o (record { opening = opening; steps = steps'; machine = whole m' lent })
  taken_there steps' e = record { opening = refl; step = step_there; steps = e; stalled = stalled_there }

  -- The outcome is that of the step after the steps of the log.
  pub answer_there : o ≡ answer_after opening steps s
  answer_there = step_there.step.outcome ∙ sym (outcome_there opening (whole m lent) steps is.kept.replay.run s)

-- ---- none is lent

-- A well-formed log is one that lends, with no core away.
pub lends_none : (opening m : MachineLists) (steps : List Step) (capacity n : ℕ) → IsWellFormed (record { opening = opening; steps = steps; machine = m }) →
    n ≡ 2 ^ m.config.k → IsLending opening m steps capacity (replicate n None)
lends_none opening m steps capacity n kept count =
    let none : promised (replicate n None) ≡ 0 = none_promised n in
    let room = kept.room in
    record {
      sound = kept.sound;
      kept = subst (λ (x : MachineLists). IsWellFormed (record { opening = opening; steps = steps; machine = x })) (sym (whole_none m n)) kept;
      all = length-replicate n None ∙ count;
      away = λ p l e. let nothing : None ≡ Some l = sym (replicate_none n p) ∙ e in absurd (cc);
      capacity_left = omega (arith, none);
      room = omega (arith, none, room);
    }
