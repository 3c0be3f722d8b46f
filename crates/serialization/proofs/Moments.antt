-- What a run that follows the flat machine says of the machine at each moment.
use Rattle.std.proofs.Common.{◌≡◌, ℕ, Bool, true, false, ◌&&◌, List, [], ◌∷◌, nat_lt, inl, inr, Option, Some, None, refl, sym, ap, ◌∙◌, subst}
use Rattle.std.specs.Prelude.{if◌then◌else◌}
use Rattle.std.proofs.lemmas.Bool.{cases_Bool, true≢false}
use Rattle.network_theory.specs.messages.declared.message.Request.{Request}
use Rattle.network_theory.specs.messages.declared.message.Reply.{Reply}
use Rattle.network_theory.specs.messages.Network.{Sizes, wires, Net}
use Rattle.network_theory.specs.messages.declared.moves.UpMove.{UpMove}
use Rattle.network_theory.specs.messages.declared.moves.UpMove.TheVariants as up
use Rattle.network_theory.specs.messages.declared.moves.DownMove.{DownMove}
use Rattle.network_theory.specs.messages.declared.moves.DownMove.TheVariants as down
use Rattle.network_theory.specs.messages.Moves.{moved_up, moved_down}
use Rattle.serialization.specs.Program.{Program, Kind, Rests, Alone, Refers}
use Rattle.serialization.specs.Machine.{Machine, Step, Turn, Up, Serve, Down, Poke, Issued, Retired}
use Rattle.serialization.specs.Machine.{stalled, retire_from, begin, turned, went_up, went_down}
use Rattle.serialization.specs.Machine.{serve_from, all_shut, poked, step, IsIdle}
use Rattle.serialization.specs.Order.{Passed, FlatMachine, flat_run}
use Rattle.serialization.specs.Simulation.{shows}
use Rattle.serialization.specs.Serialization.{FindsAt, AtTheMoment, IsFlat}
use Rattle.serialization.proofs.Serial.{PlaceOf, Follows}
use Rattle.serialization.proofs.Simulating.{owed_reply}

-- which steps issue, and which retire
module _ {Core Pokes Entry : Type 0} (z : Sizes) (P : Program Core Pokes Entry) (M : Machine Core) where
  -- A reply was on the wire of an open processor.
  pub record Replied (p value : ℕ) : Type 0 where
    pub opened : M.is_open p ≡ true
    -- The first reply on the processor's wire.
    pub first : Reply
    -- The other replies on it.
    pub rest : List Reply
    -- The replies on the wire are the first one and the others.
    pub is : M.net.replies 0 p ≡ first ∷ rest
    pub value_is : first.value ≡ value

  up_retires : (r : UpMove × Net) (p value : ℕ) → (went_up {Pokes = Pokes} M r).outcome ≡ Retired p value → ⊥
  up_retires (up.Stalled, net) p value e = cc
  up_retires (up.Moved, net) p value e = cc
  up_retires (up.Combined a b, net) p value e = cc

  down_retires : (r : DownMove × Net) (p value : ℕ) → (went_down {Pokes = Pokes} M r).outcome ≡ Retired p value → ⊥
  down_retires (down.Stalled, net) p value e = cc
  down_retires (down.Moved, net) p value e = cc
  down_retires (down.Answered a, net) p value e = cc

  serve_retires : (m : ℕ) (xs : List Request) (ys : List Reply) (p value : ℕ) → (serve_from {Pokes = Pokes} z M m xs ys).outcome ≡ Retired p value → ⊥
  serve_retires m [] ys p value e = cc
  serve_retires m (x ∷ xs) [] p value e = cc
  serve_retires m (x ∷ xs) (y ∷ ys) p value e = cc

  turn_retires : (q p value : ℕ) (o : Bool) → M.is_open q ≡ o → (turned P M q o).outcome ≡ Retired p value → Replied p value
  turn_retires q p value true opened e = go (M.net.replies 0 q) refl e
    where
      go : (xs : List Reply) → M.net.replies 0 q ≡ xs → (retire_from P M q xs).outcome ≡ Retired p value → Replied p value
      go [] f g = absurd (cc)
      go (y ∷ ys) f g =
          let same : q ≡ p = cc in
          record { opened = ap M.is_open (sym same) ∙ opened; first = y; rest = ys; is = ap (M.net.replies 0) (sym same) ∙ f; value_is = cc }
  turn_retires q p value false opened e = absurd (go (P.kind q (M.core q)) e)
    where
      go : (k : Kind) → (begin P M q k).outcome ≡ Retired p value → ⊥
      go Rests g = cc
      go Alone g = cc
      go Refers g = cc

  pub retires_by : (st : Step Pokes) (p value : ℕ) → (step z P M st).outcome ≡ Retired p value → Replied p value
  retires_by (Turn q) p value e = go (nat_lt q (wires z)) e
    where
      go : (b : Bool) → (if b then turned P M q (M.is_open q) else stalled M).outcome ≡ Retired p value → Replied p value
      go true g = turn_retires q p value (M.is_open q) refl g
      go false g = absurd (cc)
  retires_by (Up s w) p value e = absurd (go (nat_lt w (wires z)) e)
    where
      go : (b : Bool) → (if b then went_up {Pokes = Pokes} M (moved_up z M.net s w) else stalled M).outcome ≡ Retired p value → ⊥
      go true g = up_retires (moved_up z M.net s w) p value g
      go false g = cc
  retires_by (Serve m) p value e = absurd (go (nat_lt m (wires z)) e)
    where
      go : (b : Bool) → (if b then serve_from {Pokes = Pokes} z M m (M.net.requests z.k m) (M.net.replies z.k m) else stalled M).outcome ≡ Retired p value → ⊥
      go true g = serve_retires m (M.net.requests z.k m) (M.net.replies z.k m) p value g
      go false g = cc
  retires_by (Down s w) p value e = absurd (go (nat_lt w (wires z)) e)
    where
      go : (b : Bool) → (if b then went_down {Pokes = Pokes} M (moved_down z M.net s w) else stalled M).outcome ≡ Retired p value → ⊥
      go true g = down_retires (moved_down z M.net s w) p value g
      go false g = cc
  retires_by (Poke q) p value e = absurd (go (all_shut (wires z) M.is_open && P.is_lawful M.core q) e)
    where
      go : (b : Bool) → (if b then poked P M q else stalled M).outcome ≡ Retired p value → ⊥
      go true g = cc
      go false g = cc

  up_issues : (r : UpMove × Net) (p : ℕ) → (went_up {Pokes = Pokes} M r).outcome ≡ Issued p → ⊥
  up_issues (up.Stalled, net) p e = cc
  up_issues (up.Moved, net) p e = cc
  up_issues (up.Combined a b, net) p e = cc

  down_issues : (r : DownMove × Net) (p : ℕ) → (went_down {Pokes = Pokes} M r).outcome ≡ Issued p → ⊥
  down_issues (down.Stalled, net) p e = cc
  down_issues (down.Moved, net) p e = cc
  down_issues (down.Answered a, net) p e = cc

  serve_issues : (m : ℕ) (xs : List Request) (ys : List Reply) (p : ℕ) → (serve_from {Pokes = Pokes} z M m xs ys).outcome ≡ Issued p → ⊥
  serve_issues m [] ys p e = cc
  serve_issues m (x ∷ xs) [] p e = cc
  serve_issues m (x ∷ xs) (y ∷ ys) p e = cc

  turn_issues : (q p : ℕ) (o : Bool) → M.is_open q ≡ o → (turned P M q o).outcome ≡ Issued p → M.is_open p ≡ false
  turn_issues q p false shut e = go (P.kind q (M.core q)) e
    where
      go : (k : Kind) → (begin P M q k).outcome ≡ Issued p → M.is_open p ≡ false
      go Rests g = absurd (cc)
      go Alone g = absurd (cc)
      go Refers g = let same : q ≡ p = cc in ap M.is_open (sym same) ∙ shut
  turn_issues q p true opened e = absurd (go (M.net.replies 0 q) e)
    where
      go : (xs : List Reply) → (retire_from P M q xs).outcome ≡ Issued p → ⊥
      go [] g = cc
      go (y ∷ ys) g = cc

  -- If a step issues a processor's reference, the processor had none open.
  pub issues_by : (st : Step Pokes) (p : ℕ) → (step z P M st).outcome ≡ Issued p → M.is_open p ≡ false
  issues_by (Turn q) p e = go (nat_lt q (wires z)) e
    where
      go : (b : Bool) → (if b then turned P M q (M.is_open q) else stalled M).outcome ≡ Issued p → M.is_open p ≡ false
      go true g = turn_issues q p (M.is_open q) refl g
      go false g = absurd (cc)
  issues_by (Up s w) p e = absurd (go (nat_lt w (wires z)) e)
    where
      go : (b : Bool) → (if b then went_up {Pokes = Pokes} M (moved_up z M.net s w) else stalled M).outcome ≡ Issued p → ⊥
      go true g = up_issues (moved_up z M.net s w) p g
      go false g = cc
  issues_by (Serve m) p e = absurd (go (nat_lt m (wires z)) e)
    where
      go : (b : Bool) → (if b then serve_from {Pokes = Pokes} z M m (M.net.requests z.k m) (M.net.replies z.k m) else stalled M).outcome ≡ Issued p → ⊥
      go true g = serve_issues m (M.net.requests z.k m) (M.net.replies z.k m) p g
      go false g = cc
  issues_by (Down s w) p e = absurd (go (nat_lt w (wires z)) e)
    where
      go : (b : Bool) → (if b then went_down {Pokes = Pokes} M (moved_down z M.net s w) else stalled M).outcome ≡ Issued p → ⊥
      go true g = down_issues (moved_down z M.net s w) p g
      go false g = cc
  issues_by (Poke q) p e = absurd (go (all_shut (wires z) M.is_open && P.is_lawful M.core q) e)
    where
      go : (b : Bool) → (if b then poked P M q else stalled M).outcome ≡ Issued p → ⊥
      go true g = cc
      go false g = cc

-- ---- at the moment

module _ {Core Pokes Entry : Type 0} (z : Sizes) (P : Program Core Pokes Entry) (good : ℕ → Core → Type 0) (first : FlatMachine Core) (h : Passed Core Entry)
    (f : Follows z P good first h) where
  by_place : (p : ℕ) (place : Option ℕ) → PlaceOf P first h.order h.machine.core p place (f.owed p) → f.owed p ≡ None → place ≡ None
  by_place p None a none = refl
  by_place p (Some i) a none = let c : None ≡ Some a.0 = sym none ∙ a.1 in absurd (cc)

  by_word : (p word : ℕ) (place : Option ℕ) → PlaceOf P first h.order h.machine.core p place (f.owed p) → f.owed p ≡ Some word
      → (i : ℕ) × (place ≡ Some i) × FindsAt P first h.order h.machine.core p i word
  by_word p word None a found = let c : None ≡ Some word = sym a ∙ found in absurd (cc)
  by_word p word (Some i) a found = let c : Some a.0 ≡ Some word = sym a.1 ∙ found in let same : a.0 ≡ word = cc in
      (i, refl, subst (λ v. FindsAt P first h.order h.machine.core p i v) same a.2)

  -- If a processor has no open reference, none of its references is served.
  pub shut_unserved : (p : ℕ) → h.machine.is_open p ≡ false → h.served p ≡ None
  shut_unserved p e = by_place p (h.served p) (f.places p) ((f.simulates.shut p e).1)

  -- A processor that is owed nothing has no served reference.
  pub unserved_of : (p : ℕ) → f.owed p ≡ None → h.served p ≡ None
  unserved_of p e = by_place p (h.served p) (f.places p) e

  -- If a step retires a reference, it was served at a place of the order, and its value is the word found there.
  pub retires_served : (st : Step Pokes) (p value : ℕ) → (step z P h.machine st).outcome ≡ Retired p value
      → (place : ℕ) × (h.served p ≡ Some place) × FindsAt P first h.order h.machine.core p place value
  retires_served st p value e =
      let r = retires_by z P h.machine st p value e in
      let found : f.owed p ≡ Some value = owed_reply z P good h.machine h.group f.owed (flat_run P first h.order) p r.first r.rest f.simulates r.is
      ∙ ap Some r.value_is in
      by_word p value (h.served p) (f.places p) found

  -- If a run follows the flat machine, its words, cores and replies are at this moment as the serial order says.
  pub at_the_moment : AtTheMoment z P first h
  at_the_moment = record {
    words = f.simulates.mem_same;
    shut = shut_unserved;
    unserved = λ p e. f.simulates.shown p ∙ ap (λ o. shows P p o (h.machine.core p)) (none p e);
    served = λ p i e.
        let a = subst (λ o. PlaceOf P first h.order h.machine.core p o (f.owed p)) e (f.places p) in
        (a.0, a.2, f.simulates.shown p ∙ ap (λ o. shows P p o (h.machine.core p)) a.1);
    retires = λ p value e. retires_served (Turn p) p value e;
  }
    where
      none : (p : ℕ) → h.served p ≡ None → f.owed p ≡ None
      none p e = subst (λ o. PlaceOf P first h.order h.machine.core p o (f.owed p)) e (f.places p)

-- If the machine is idle after a run, it is the flat machine after the order.
pub idle_is_flat : {Core Pokes Entry : Type 0}
    → (z : Sizes) (P : Program Core Pokes Entry) (good : ℕ → Core → Type 0) (first : FlatMachine Core) (h : Passed Core Entry) → Follows z P good first h
    → IsIdle z h.machine → IsFlat h.machine (flat_run P first h.order)
idle_is_flat z P good first h f no_open =
    let m = at_the_moment z P good first h f in
    let shut : (p : ℕ) → h.machine.is_open p ≡ false =
    (λ p. elim (cases_Bool (h.machine.is_open p)) [ inl o ↦ absurd (true≢false (sym o ∙ no_open p (f.simulates.within p o))) | inr c ↦ c ]) in
    (m.words, (λ p. sym (m.unserved p (m.shut p (shut p)))))
