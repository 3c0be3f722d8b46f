-- A log that lends is still one after a core is taken out or put in.
use Rattle.std.proofs.Common.{◌≡◌, ◌≢◌, ℕ, ◌+◌, ◌-◌, ◌^◌, ◌<◌, ◌≤◌, Bool, true, false, List}
use Rattle.std.proofs.Common.{length, Option, Some, None, ◌⊎◌, inl, inr, refl, sym, ap, ◌∙◌}
use Rattle.std.proofs.Common.{subst, get_or-set_same, get_or-set_other, length-set, arith}
use Rattle.std.specs.Prelude.{◌&&◌, is_some, nat_lt, not, slice_index_or, slice_set}
use Rattle.std.proofs.lemmas.Bool.{and_parts, cases_eq, ltb-true, true≢false}
use Rattle.std.proofs.lemmas.List.{set-get_or}
use Rattle.hart.specs.State.{CoreState}
use Rattle.steps.specs.declared.step.Step.{Step}
use Rattle.flat_machine.specs.declared.config.Config.{Config}
use Rattle.flat_machine.specs.Laws.{HasWords}
use Rattle.flat_machine.specs.State.{is_running}
use Rattle.machine_steps.specs.machine_ports.Ports.{PortState, is_away, no_processor}
use Rattle.machine_theory.specs.Processors.{no_port, open_at, port_at}
use Rattle.machine_steps.specs.Machines.{MachineLists, IsMachine, away_at, is_free, is_there, with_core_at, without_core_at}
use Rattle.machine_log.specs.Logs.{IsWellFormed}
use Rattle.machine_log.proofs.Taking.{kept_home}
use Rattle.machine_log.specs.Lendings.{IsLending, IsLent, LendingLog, all_back, lent_at, may_lend, promised, whole, with_lent}
use Rattle.machine_log.specs.declared.lent.Lent.{Lent}
use Rattle.machine_log.proofs.Backing.{back_at, back_none, back_set, found_at, none_past, promise_less, promise_more}

-- A machine is as before if the core that is there already is put in its place.
pub same_core : (m : MachineLists) (p : ℕ) → with_core_at m p (port_at m.ports p).core ≡ m
same_core m p = ap (λ ports. record m { ports = ports }) (set-get_or m.ports p no_port)

-- the core that counts: the lent one, if it is away
abbrev pub counting : CoreState → Option Lent → CoreState
counting core None = core
counting core (Some l) = l.core

counts : (port : PortState) (core : CoreState) (l : Option Lent) → with_lent (record port { core = core }) l ≡ record port { core = counting core l }
counts port core None = refl
counts port core (Some l) = refl

other_core : (port : PortState) (k : Option Lent) (core : CoreState) → record port { core = core } ≡ record (with_lent port k) { core = core }
other_core port None core = refl
other_core port (Some k) core = refl

module _ (m : MachineLists) (lent : List (Option Lent)) (same : length lent ≡ length m.ports) (p : ℕ) (core : CoreState) (l : Option Lent) where
  -- If p's core and what is known of it are replaced, the machine with all cores back is the one before, with the core
  -- that counts at p.
  pub whole_set : whole (with_core_at m p core) (slice_set lent p l) ≡ with_core_at (whole m lent) p (counting core l)
  whole_set = ap (λ ports. record m { ports = ports })
      (back_set m.ports lent p (record (port_at m.ports p) { core = core }) l same
      ∙ ap (slice_set (all_back m.ports lent) p) (counts (port_at m.ports p) core l ∙ other_core (port_at m.ports p) (lent_at lent p) (counting core l)
      ∙ ap (λ (x : PortState). record x { core = counting core l }) (sym (back_at m.ports lent p same))))

  -- Other cores are away as before.
  pub away_other : (q : ℕ) → q ≢ p → away_at (with_core_at m p core) q ≡ away_at m q
  away_other q apart = ap (λ (x : PortState). is_away x.core.state) (get_or-set_other m.ports p q (record (port_at m.ports p) { core = core }) no_port apart)

  pub away_here : p < length m.ports → away_at (with_core_at m p core) p ≡ is_away core.state
  away_here inside =
      ap (λ (x : PortState). is_away x.core.state) (get_or-set_same m.ports p (record (port_at m.ports p) { core = core }) no_port inside)

-- With all cores back, a port has its core as it was lent.
pub back_port : (m : MachineLists) (lent : List (Option Lent)) (p : ℕ) → length lent ≡ length m.ports →
    port_at (whole m lent).ports p ≡ with_lent (port_at m.ports p) (lent_at lent p)
back_port m lent p same = back_at m.ports lent p same

module _ (opening m : MachineLists) (steps : List Step) (capacity : ℕ) (lent : List (Option Lent)) (is : IsLending opening m steps capacity lent)
    (p : ℕ) (within : p < 2 ^ m.config.k) (core : CoreState) (l : Option Lent) where
  -- The list of lent cores is as long as that of the ports.
  pub as_long : length lent ≡ length m.ports
  as_long = is.all ∙ sym is.sound.ports.all

  inside : p < length lent
  inside = subst (λ n. p < n) (sym is.all) within

  -- The log still lends after a core and what is known of it are replaced.
  pub lends_so : (steps' : List Step) (capacity' : ℕ) → IsMachine (with_core_at m p core) →
      IsWellFormed (record { opening = opening; steps = steps'; machine = with_core_at (whole m lent) p (counting core l) }) →
      ((k : Lent) → l ≡ Some k → IsLent (with_core_at m p core) p k) → promised (slice_set lent p l) ≤ capacity' - length steps' →
      length steps' + promised (slice_set lent p l) ≤ 4194304 → IsLending opening (with_core_at m p core) steps' capacity' (slice_set lent p l)
  lends_so steps' capacity' sound kept here capacity_left room = record {
    sound = sound;
    kept = subst (λ (x : MachineLists). IsWellFormed (record { opening = opening; steps = steps'; machine = x }))
        (sym (whole_set m lent as_long p core l)) kept;
    all = length-set lent p l ∙ is.all;
    away = λ q k e. at q k e (cases_eq q p);
    capacity_left = capacity_left;
    room = room;
  }
    where
      at : (q : ℕ) (k : Lent) → lent_at (slice_set lent p l) q ≡ Some k → (q ≡ p) ⊎ (q ≡ p → ⊥) → IsLent (with_core_at m p core) q k
      at q k e (inl same) = subst (λ i. IsLent (with_core_at m p core) i k) (sym same)
          (here k (sym (get_or-set_same lent p l None inside) ∙ ap (lent_at (slice_set lent p l)) (sym same) ∙ e))
      at q k e (inr other) =
          let old = is.away q k (sym (get_or-set_other lent p q l None other) ∙ e) in
          record { away = away_other m lent as_long p core l q other ∙ old.away; setting = old.setting; words = old.words; home = old.home }

-- ---- a core is put back as it was lent

-- The core of p is away, and was lent like this.
pub record IsAway (m : MachineLists) (lent : List (Option Lent)) (p : ℕ) (l : Lent) : Type 0 where
  -- The machine has this processor.
  pub within : p < 2 ^ m.config.k
  -- The core is known to be away, and how it was lent.
  pub known : lent_at lent p ≡ Some l

-- what a call finds of a log that lends
module _ {opening m : MachineLists} {steps : List Step} {capacity : ℕ} {lent : List (Option Lent)} (is : IsLending opening m steps capacity lent)
    {x : LendingLog} (view : record { log = record { opening = opening; steps = steps; machine = whole m lent }; lent = lent } ≡ x)
    {p : ℕ} (there : p < 2 ^ x.log.machine.config.k) where
  -- If the list of a log that lends has an entry for the core of p, the core is away.
  pub known_away : {l : Lent} → lent_at x.lent p ≡ Some l → IsAway m lent p l
  known_away fact = record {
    within = subst (λ (y : LendingLog). p < 2 ^ y.log.machine.config.k) (sym view) there;
    known = ap (λ (y : LendingLog). lent_at y.lent p) view ∙ fact;
  }

  -- If an entry for the core of p is found by its place in the list, the core is away.
  pub found_away : {place : ℕ} {found : Option Lent} {l : Lent} → place ≡ p → found ≡ slice_index_or lent place found → Some l ≡ found → IsAway m lent p l
  found_away {place} {found} {l} same at some =
      let within : p < 2 ^ m.config.k = subst (λ (y : LendingLog). p < 2 ^ y.log.machine.config.k) (sym view) there in
      let inside : p < length lent = subst (λ n. p < n) (sym is.all) within in
      record { within = within; known = sym (some ∙ found_at lent p place None found same inside at) }

module _ {opening m : MachineLists} {steps : List Step} {capacity : ℕ} {lent : List (Option Lent)} (is : IsLending opening m steps capacity lent) {p : ℕ}
    {l : Lent} (away : IsAway m lent p l) where
  long : length lent ≡ length m.ports
  long = as_long opening m steps capacity lent is p away.within l.core None

  stands_so : with_core_at (whole m lent) p l.core ≡ whole m lent
  stands_so =
      ap (with_core_at (whole m lent) p) (sym (ap (λ (x : PortState). x.core) (back_port m lent p long ∙ ap (with_lent (port_at m.ports p)) away.known)))
      ∙ same_core (whole m lent) p

  -- If a core is put back as it was lent, the machine with all cores back is the same.
  pub whole_back : (m' : MachineLists) → m' ≡ with_core_at m p l.core → whole m' (slice_set lent p None) ≡ whole m lent
  whole_back m' same = ap (λ x. whole x (slice_set lent p None)) same ∙ whole_set m lent long p l.core None ∙ stands_so

  -- If a core is put back as it was lent, the log still lends, with one core less.
  pub brought_back : (m' : MachineLists) → m' ≡ with_core_at m p l.core → IsMachine m' → IsLending opening m' steps capacity (slice_set lent p None)
  brought_back m' same sound =
      let less = promise_less lent p l away.known in
      let capacity_left = is.capacity_left in
      let room = is.room in
      subst (λ x. IsLending opening x steps capacity (slice_set lent p None)) (sym same)
      (lends_so opening m steps capacity lent is p away.within l.core None steps capacity (subst IsMachine same sound)
      (subst (λ (x : MachineLists). IsWellFormed (record { opening = opening; steps = steps; machine = x })) (sym stands_so) is.kept)
      (λ k f. absurd (cc)) (omega (arith, less, capacity_left)) (omega (arith, less, room)))

-- If none of the processors is known to be away, all cores are back.
pub back_all : {opening m : MachineLists} {steps : List Step} {capacity : ℕ} {lent : List (Option Lent)} {x : LendingLog} {size : Config} {end n : ℕ} →
    IsLending opening m steps capacity lent → record { log = record { opening = opening; steps = steps; machine = whole m lent }; lent = lent } ≡ x →
    x.log.machine.config ≡ size → end ≡ 2 ^ size.k → end ≤ n → ((q : ℕ) → q < n → lent_at x.lent q ≡ None) → whole m lent ≡ m
back_all {m = m} {lent = lent} {end = end} {n = n} is view same count past none =
    let all : length lent ≡ end = is.all ∙ ap (λ (d : Config). 2 ^ d.k) (ap (λ (y : LendingLog). y.log.machine.config) view ∙ same) ∙ sym count in
    ap (λ ports. record m { ports = ports }) (back_none m.ports lent (none_past lent n (omega (arith, all, past))
    (subst (λ (y : LendingLog). (q : ℕ) → q < n → lent_at y.lent q ≡ None) (sym view) none)))

-- ---- a core is lent

-- what the machine without the lent cores shows of a processor whose core is not lent
module _ {opening m : MachineLists} {steps : List Step} {capacity : ℕ} {lent : List (Option Lent)} (is : IsLending opening m steps capacity lent) where
  abbrev view : LendingLog
  view = record { log = record { opening = opening; steps = steps; machine = whole m lent }; lent = lent }

  abbrev runs : (p : ℕ) → Bool
  runs p = is_running (port_at m.ports p).core.state.status && not (open_at m.ports p)

  long_enough : length lent ≡ length m.ports
  long_enough = is.all ∙ sym is.sound.ports.all

  free_by : (p : ℕ) (l : Option Lent) → lent_at lent p ≡ l → (there : Bool) → nat_lt p (2 ^ m.config.k) ≡ there →
      (there && (not (is_some l) && (is_running (with_lent (port_at m.ports p) l).core.state.status && not (with_lent (port_at m.ports p) l).is_open)))
      ≡ ((there && not (away_at m p)) && runs p)
  free_by p l e false t = refl
  free_by p None e true t =
      let home = kept_home (record { opening = opening; steps = steps; machine = whole m lent }) is.kept p (ltb-true p (2 ^ m.config.k) t) in
      let same = ap (λ (x : PortState). is_away x.core.state) (back_port m lent p long_enough ∙ ap (with_lent (port_at m.ports p)) e) in
      ap (λ a. not a && runs p) (sym (sym same ∙ home))
  free_by p (Some l) e true t = ap (λ a. not a && runs p) (sym (is.away p l e).away)

  -- A core can be lent if and only if it can be taken out.
  pub free_is : (p : ℕ) → may_lend view p ≡ is_free m p
  free_is p =
      ap (λ (x : PortState). nat_lt p (2 ^ m.config.k) && (not (is_some (lent_at lent p)) && (is_running x.core.state.status && not x.is_open)))
      (back_port m lent p long_enough)
      ∙ free_by p (lent_at lent p) refl (nat_lt p (2 ^ m.config.k)) refl

  -- If a call finds that a core can be lent, it can be taken out.
  pub found_free : {x : LendingLog} {b : Bool} → view ≡ x → (p : ℕ) → b ≡ may_lend x p → b ≡ true → is_free m p ≡ true
  found_free same p fact may = sym (free_is p) ∙ ap (λ (x : LendingLog). may_lend x p) same ∙ sym fact ∙ may

  module _ (p : ℕ) (free : is_free m p ≡ true) where
    parts : (is_there m p ≡ true) × (runs p ≡ true)
    parts = and_parts (is_there m p) (runs p) free

    there_parts : (nat_lt p (2 ^ m.config.k) ≡ true) × (not (away_at m p) ≡ true)
    there_parts = and_parts (nat_lt p (2 ^ m.config.k)) (not (away_at m p)) parts.0

    -- The machine has a processor that is free.
    pub free_within : p < 2 ^ m.config.k
    free_within = ltb-true p (2 ^ m.config.k) there_parts.0

    at_home : away_at m p ≡ false
    at_home = by (away_at m p) refl
      where
        by : (b : Bool) → away_at m p ≡ b → away_at m p ≡ false
        by false e = e
        by true e = absurd (true≢false (sym there_parts.1 ∙ ap not e))

    -- The core of a free processor is not known to be away.
    pub free_unlent : lent_at lent p ≡ None
    free_unlent = by (lent_at lent p) refl
      where
        by : (l : Option Lent) → lent_at lent p ≡ l → lent_at lent p ≡ None
        by None e = e
        by (Some l) e = absurd (true≢false (sym (is.away p l e).away ∙ at_home))

    -- With all cores back, a free processor has the core that it has.
    pub free_core : (port_at (whole m lent).ports p).core ≡ (port_at m.ports p).core
    free_core = ap (λ (x : PortState). x.core) (back_port m lent p long_enough ∙ ap (with_lent (port_at m.ports p)) free_unlent)

    module _ (l : Lent) (core_is : l.core ≡ (port_at m.ports p).core) where
      abbrev none : CoreState
      none = record (port_at m.ports p).core { state = no_processor }

      stands_still : with_core_at (whole m lent) p l.core ≡ whole m lent
      stands_still = ap (with_core_at (whole m lent) p) (core_is ∙ sym free_core) ∙ same_core (whole m lent) p

      -- If p's core is taken out and entered as it is, the machine with all cores back is the same.
      pub whole_out : (m' : MachineLists) → m' ≡ without_core_at m p → whole m' (slice_set lent p (Some l)) ≡ whole m lent
      whole_out m' same =
          ap (λ x. whole x (slice_set lent p (Some l))) same ∙ whole_set m lent long_enough p none (Some l) ∙ stands_still

      -- If p's core is lent with room for the steps promised to it, the log still lends, with one core more.
      pub lent_out : (m' : MachineLists) (capacity' : ℕ) → m' ≡ without_core_at m p → IsMachine m' → promised lent + l.most ≤ capacity' - length steps →
          length steps + (promised lent + l.most) ≤ 4194304 → IsLending opening m' steps capacity' (slice_set lent p (Some l))
      lent_out m' capacity' same sound capacity_left room =
          let more = promise_more lent p l (subst (λ n. p < n) (sym is.all) free_within) free_unlent in
          subst (λ x. IsLending opening x steps capacity' (slice_set lent p (Some l))) (sym same)
          (lends_so opening m steps capacity lent is p free_within none (Some l) steps capacity' (subst IsMachine same sound)
          (subst (λ (x : MachineLists). IsWellFormed (record { opening = opening; steps = steps; machine = x })) (sym stands_still) is.kept)
          (λ k e. subst (IsLent (with_core_at m p none) p) (some_is e) here) (omega (arith, more, capacity_left)) (omega (arith, more, room)))
        where
          some_is : {k : Lent} → Some l ≡ Some k → l ≡ k
          some_is e = cc

          here : IsLent (with_core_at m p none) p l
          here = record {
            away = away_here m lent long_enough p none (Some l) (subst (λ n. p < n) (sym is.sound.ports.all) free_within);
            setting = ap (λ (x : CoreState). x.setting) core_is ∙ is.sound.ports.settings p free_within;
            words = subst (λ (x : CoreState). HasWords x.state) (sym core_is) (is.sound.ports.words p);
            home = ap (λ (x : CoreState). is_away x.state) core_is ∙ at_home;
          }
