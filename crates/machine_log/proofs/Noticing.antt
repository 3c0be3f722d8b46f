-- A step of others than the lent cores does the same to the machine with all cores back.
use Rattle.std.proofs.Common.{◌≡◌, ◌≢◌, ℕ, zero, suc, ◌<◌, ◌≤◌, Bool, List, [], ◌∷◌, length, Option, Some, None, ◌⊎◌, inl, inr, refl, sym, ap, ap₂, ◌∙◌, arith}
use Rattle.std.proofs.Common.{eq-eqb}
use Rattle.std.proofs.lemmas.Bool.{cases_eq, cases_lt, true≢false}
use mathlib.Core.Path.{fun_ext}
use Rattle.flat_machine.specs.declared.config.Config.{Config}
use Rattle.flat_machine.specs.declared.event.Event.{Event}
use Rattle.steps.specs.declared.step.Step.{Step}
use Rattle.steps.specs.declared.step.Step.TheVariants as step
use Rattle.steps.specs.declared.step.Outcome.{Outcome}
use Rattle.steps.specs.declared.step.Outcome.TheVariants.{Retired, Issued, Stopped, Moved, Combined, Served, Answered, Poked, Stalled}
use Rattle.machine_steps.specs.omega_network.Networks.{net_of}
use Rattle.machine_steps.specs.messages.Network.{Net}
use Rattle.machine_steps.specs.messages.Places.{put}
use Rattle.machine_steps.proofs.Lemmas.messages.{put_other, put_same}
use Rattle.machine_steps.proofs.Lemmas.{past_end}
use Rattle.machine_steps.specs.machine_ports.Ports.{PortState, is_away}
use Rattle.machine_theory.specs.Theory as theory
use Rattle.machine_theory.specs.Processors.{ObservedCore, open_at, port_at, observed_at, word_at}
use Rattle.machine_theory.specs.Steps.{after, machine_of_parts, outcome_of, with_shown, IsStepOf}
use Rattle.machine_steps.specs.Machines.{MachineLists, IsStep, machine_of}
use Rattle.machine_theory.specs.Laws.{OthersDoNotNotice}
use Rattle.machine_theory.specs.Loans.{IsOfOthers, with_core, with_cores}
use Rattle.machine_log.specs.Lendings.{OfOthers, all_back, lent_at, whole, with_lent}
use Rattle.machine_log.specs.declared.lent.Lent.{Lent}
use Rattle.machine_log.proofs.Backing.{back_at}

-- ---- cores that are put in

-- Cores that are put in change nothing else.
cores_alone : (M : theory.Machine ObservedCore) (cores : List (ℕ × ObservedCore)) →
    with_cores M cores ≡ record { net = M.net; mem = M.mem; core = (with_cores M cores).core; is_open = M.is_open }
cores_alone M [] = refl
cores_alone M ((p, core) ∷ more) =
    ap (λ (N : theory.Machine ObservedCore). record { net = N.net; mem = N.mem; core = put (with_cores M more).core p core; is_open = N.is_open })
    (cores_alone M more)

module _ (lent : List (Option Lent)) (shown : ℕ → List Event) where
  -- a lent core, whose processor has shown these events
  abbrev observed_lent : ℕ → Lent → ObservedCore
  observed_lent p l = record { state = l.core.state; events = shown p }

  -- the list, with a lent core before the others, if there is one
  abbrev behind : ℕ → Option Lent → List (ℕ × ObservedCore) → List (ℕ × ObservedCore)
  behind p None cores = cores
  behind p (Some l) cores = (p, observed_lent p l) ∷ cores

  -- the lent cores of the first n processors
  pub cores_of : ℕ → List (ℕ × ObservedCore)
  cores_of zero = []
  cores_of (suc n) = behind n (lent_at lent n) (cores_of n)

  -- the core at p: the lent one, if there is one
  abbrev standing : ObservedCore → ℕ → Option Lent → ObservedCore
  standing g p None = g
  standing g p (Some l) = observed_lent p l

  module _ (M : theory.Machine ObservedCore) where
    after_here : (p : ℕ) (l : Option Lent) (cores : List (ℕ × ObservedCore)) →
        (with_cores M (behind p l cores)).core p ≡ standing ((with_cores M cores).core p) p l
    after_here p None cores = refl
    after_here p (Some l) cores = put_same (with_cores M cores).core p (observed_lent p l)

    after_there : (p q : ℕ) (l : Option Lent) (cores : List (ℕ × ObservedCore)) → q ≢ p →
        (with_cores M (behind p l cores)).core q ≡ (with_cores M cores).core q
    after_there p q None cores apart = refl
    after_there p q (Some l) cores apart = put_other (with_cores M cores).core p (observed_lent p l) q apart

    -- Past the first n, the cores are the machine's.
    later_stand : (n q : ℕ) → n ≤ q → (with_cores M (cores_of n)).core q ≡ M.core q
    unfolding cores_of
    later_stand zero q past = refl
    later_stand (suc n) q past = after_there n q (lent_at lent n) (cores_of n) (λ e. absurd (omega (arith, e, past))) ∙ later_stand n q (omega (arith, past))

    -- Among the first n, lent cores are in their places.
    first_stand : (n q : ℕ) → q < n → (with_cores M (cores_of n)).core q ≡ standing (M.core q) q (lent_at lent q)
    unfolding cores_of
    first_stand zero q within = absurd (omega arith)
    first_stand (suc n) q within =
        at (first_stand n q) (cases_eq q n)
      where
        at : (q < n → (with_cores M (cores_of n)).core q ≡ standing (M.core q) q (lent_at lent q)) → (q ≡ n) ⊎ (q ≡ n → ⊥) →
            (with_cores M (behind n (lent_at lent n) (cores_of n))).core q ≡ standing (M.core q) q (lent_at lent q)
        at earlier (inl same) =
            ap (λ i. (with_cores M (behind n (lent_at lent n) (cores_of n))).core i) same
            ∙ after_here n (lent_at lent n) (cores_of n)
            ∙ ap (λ g. standing g n (lent_at lent n)) (later_stand n n (omega arith))
            ∙ ap (λ i. standing (M.core i) i (lent_at lent i)) (sym same)
        at earlier (inr other) = after_there n q (lent_at lent n) (cores_of n) other ∙ earlier (omega (arith, within, other))

-- ---- the machine with all cores back

module _ (c : Config) (net : Net) (ports : List PortState) (modules : List (List ℕ)) (lent : List (Option Lent)) (same : length lent ≡ length ports)
    (shown : ℕ → List Event) where
  abbrev M : theory.Machine ObservedCore
  M = machine_of_parts c net ports modules shown

  core_is : (q : ℕ) (l : Option Lent) → lent_at lent q ≡ l →
      observed_at (all_back ports lent) shown q ≡ standing lent shown (observed_at ports shown q) q l
  core_is q None e = ap (λ (port : PortState). record { state = port.core.state; events = shown q })
      (back_at ports lent q same ∙ ap (with_lent (port_at ports q)) e)
  core_is q (Some l) e =
      ap (λ (port : PortState). record { state = port.core.state; events = shown q }) (back_at ports lent q same ∙ ap (with_lent (port_at ports q)) e)

  cores_are : (q : ℕ) → observed_at (all_back ports lent) shown q ≡ (with_cores M (cores_of lent shown (length lent))).core q
  unfolding machine_of_parts
  cores_are q = at (cases_lt q (length lent))
    where
      at : (q < length lent) ⊎ (length lent ≤ q) → observed_at (all_back ports lent) shown q ≡ (with_cores M (cores_of lent shown (length lent))).core q
      at (inl within) = core_is q (lent_at lent q) refl ∙ sym (first_stand lent shown M (length lent) q within)
      at (inr past) = core_is q None (past_end lent q None past) ∙ sym (later_stand lent shown M (length lent) q past)

  open_is : (q : ℕ) (l : Option Lent) → (with_lent (port_at ports q) l).is_open ≡ open_at ports q
  open_is q None = refl
  open_is q (Some l) = refl

  pub back_is : machine_of_parts c net (all_back ports lent) modules shown ≡ with_cores M (cores_of lent shown (length lent))
  unfolding machine_of_parts
  back_is =
      ap₂ (λ (f : ℕ → ObservedCore) (b : ℕ → Bool). record { net = net; mem = word_at c.k modules; core = f; is_open = b }) (fun_ext cores_are)
      (fun_ext (λ q. ap (λ (port : PortState). port.is_open) (back_at ports lent q same) ∙ open_is q (lent_at lent q)))
      ∙ sym (cores_alone M (cores_of lent shown (length lent)))

-- ---- a step

module _ (laws : OthersDoNotNotice) (c : Config) (code : List ℕ) (M : theory.Machine ObservedCore) (lent : List (Option Lent)) (shown : ℕ → List Event)
    (s : Step) (others : OfOthers lent s) where
  abbrev Unnoticed : List (ℕ × ObservedCore) → Type 0
  Unnoticed cores =
      (outcome_of c code (with_cores M cores) s ≡ outcome_of c code M s) × (after c code (with_cores M cores) s ≡ with_cores (after c code M s) cores)

  pub unnoticed : (n : ℕ) → Unnoticed (cores_of lent shown n)
  unfolding cores_of
  unnoticed zero = (refl, refl)
  unnoticed (suc n) = at (lent_at lent n) refl (unnoticed n)
    where
      at : (l : Option Lent) → lent_at lent n ≡ l → Unnoticed (cores_of lent shown n) → Unnoticed (behind lent shown n l (cores_of lent shown n))
      at None e h = h
      at (Some l) e h =
          let core = observed_lent lent shown n l in
          let one = laws c code (with_cores M (cores_of lent shown n)) n core s (others n l e) in
          (one.0 ∙ h.0, one.1 ∙ ap (λ N. with_core N n core) h.1)

-- Events of processors whose cores are not lent do not matter.
shown_alike : (lent : List (Option Lent)) (shown shown' : ℕ → List Event) → ((p : ℕ) (l : Lent) → lent_at lent p ≡ Some l → shown' p ≡ shown p) →
    (n : ℕ) → cores_of lent shown' n ≡ cores_of lent shown n
unfolding cores_of
shown_alike lent shown shown' same zero = refl
shown_alike lent shown shown' same (suc n) = at (lent_at lent n) refl (shown_alike lent shown shown' same n)
  where
    at : (l : Option Lent) → lent_at lent n ≡ l → cores_of lent shown' n ≡ cores_of lent shown n →
        behind lent shown' n l (cores_of lent shown' n) ≡ behind lent shown n l (cores_of lent shown n)
    at None e h = h
    at (Some l) e h = ap₂ (λ es (cores : List (ℕ × ObservedCore)). (n, record { state = l.core.state; events = es }) ∷ cores) (same n l e) h

-- A step of others shows no event of p.
shown_so : (p : ℕ) (shown : ℕ → List Event) (s : Step) (o : Outcome) → IsOfOthers p s → with_shown shown s o p ≡ shown p
shown_so p shown (step.Turn q) (Retired r) apart = put_other shown q _ p (λ e. true≢false (sym (eq-eqb q p (sym e)) ∙ apart.0))
shown_so p shown (step.Turn q) (Stopped cause) apart = put_other shown q _ p (λ e. true≢false (sym (eq-eqb q p (sym e)) ∙ apart.0))
shown_so p shown (step.Turn q) Issued apart = refl
shown_so p shown (step.Turn q) Moved apart = refl
shown_so p shown (step.Turn q) (Combined first second) apart = refl
shown_so p shown (step.Turn q) (Served leader) apart = refl
shown_so p shown (step.Turn q) (Answered to) apart = refl
shown_so p shown (step.Turn q) Poked apart = refl
shown_so p shown (step.Turn q) Stalled apart = refl
shown_so p shown (step.Up t w) o apart = refl
shown_so p shown (step.Serve m) o apart = refl
shown_so p shown (step.Down t w) o apart = refl
shown_so p shown (step.Poke poke) o apart = absurd (true≢false apart.1)

module _ (laws : OthersDoNotNotice) (c : Config) (code : List ℕ) (net net' : Net) (ports ports' : List PortState) (modules modules' : List (List ℕ))
    (lent : List (Option Lent)) (same : length lent ≡ length ports) (same' : length lent ≡ length ports') (s : Step) (o : Outcome)
    (others : OfOthers lent s) where
  before : (ℕ → List Event) → theory.Machine ObservedCore
  before shown = machine_of_parts c net ports modules shown

  after_it : (ℕ → List Event) → theory.Machine ObservedCore
  after_it shown = machine_of_parts c net' ports' modules' shown

  pub parts_back : IsStepOf c code net ports modules s o net' ports' modules' →
      IsStepOf c code net (all_back ports lent) modules s o net' (all_back ports' lent) modules'
  unfolding before after_it
  parts_back st = record {
    outcome = st.outcome ∙ sym (unnoticed laws c code (before (λ p. [])) lent (λ p. []) s others (length lent)).0
        ∙ ap (λ W. outcome_of c code W s) (sym (back_is c net ports modules lent same (λ p. [])));
    after = λ shown.
        let cores = cores_of lent shown (length lent) in
        back_is c net' ports' modules' lent same' (with_shown shown s o)
        ∙ ap (with_cores (after_it (with_shown shown s o)))
        (shown_alike lent shown (with_shown shown s o) (λ p l e. shown_so p shown s o (others p l e)) (length lent))
        ∙ ap (λ N. with_cores N cores) (st.after shown)
        ∙ sym (unnoticed laws c code (before shown) lent shown s others (length lent)).1
        ∙ ap (λ W. after c code W s) (sym (back_is c net ports modules lent same shown));
  }

module _ (laws : OthersDoNotNotice) (m m' : MachineLists) (lent : List (Option Lent)) (same : length lent ≡ length m.ports)
    (same' : length lent ≡ length m'.ports) (s : Step) (o : Outcome) (others : OfOthers lent s) where
  away_is : (x : PortState) (l : Option Lent) (x' : PortState) → is_away x'.core.state ≡ is_away x.core.state →
      is_away (with_lent x' l).core.state ≡ is_away (with_lent x l).core.state
  away_is x None x' stays = stays
  away_is x (Some l) x' stays = refl

  -- A step of others that is taken while cores are away is the same step of the machine with all cores back.
  pub step_back : IsStep m s o m' → IsStep (whole m lent) s o (whole m' lent)
  step_back st = record {
    config = st.config;
    image = st.image;
    code = st.code;
    cores = λ p.
        ap (λ (x : PortState). is_away x.core.state) (back_at m'.ports lent p same')
        ∙ away_is (port_at m.ports p) (lent_at lent p) (port_at m'.ports p) (st.cores p)
        ∙ ap (λ (x : PortState). is_away x.core.state) (sym (back_at m.ports lent p same));
    step = parts_back laws m.config m.code (net_of m.network) (net_of m'.network) m.ports m'.ports m.modules m'.modules lent same same' s o others st.step;
  }

-- A step of others has the same outcome with all cores back.
pub answers_back : OthersDoNotNotice → (m : MachineLists) (lent : List (Option Lent)) → length lent ≡ length m.ports → (s : Step) → OfOthers lent s →
    outcome_of m.config m.code (machine_of m (λ p. [])) s ≡ outcome_of m.config m.code (machine_of (whole m lent) (λ p. [])) s
answers_back laws m lent same s others =
    sym (ap (λ W. outcome_of m.config m.code W s) (back_is m.config (net_of m.network) m.ports m.modules lent same (λ p. []))
    ∙ (unnoticed laws m.config m.code (machine_of m (λ p. [])) lent (λ p. []) s others (length lent)).0)
