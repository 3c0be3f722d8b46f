-- A step of others than p does the same with any core of p.
use Rattle.std.proofs.Common.{◌≡◌, ◌≢◌, ℕ, Bool, true, false, List, [], ◌∷◌, nat_lt, refl, sym, ap, ◌∙◌}
use Rattle.std.specs.Prelude.{if◌then◌else◌}
use Rattle.serialization.specs.messages.declared.message.Request.{Request}
use Rattle.serialization.specs.messages.declared.message.Reply.{Reply}
use Rattle.serialization.specs.messages.declared.moves.UpMove.{UpMove}
use Rattle.serialization.specs.messages.declared.moves.UpMove.TheVariants as up
use Rattle.serialization.specs.messages.declared.moves.DownMove.{DownMove}
use Rattle.serialization.specs.messages.declared.moves.DownMove.TheVariants as down
use Rattle.serialization.specs.messages.Places.{put}
use Rattle.serialization.specs.messages.Network.{Sizes, Net, wires}
use Rattle.serialization.specs.messages.Moves.{injected, moved_up, moved_down, port_taken}
use Rattle.serialization.specs.Program.{Program, Kind, Rests, Alone, Refers}
use Rattle.serialization.specs.Machine.{Machine, Result, Step, Turn, Up, Serve, Down, Poke, Outcome, Advanced}
use Rattle.serialization.specs.Machine.{Answered, Combined, Issued, Moved, Poked, Retired, Served, Stalled, stalled}
use Rattle.serialization.specs.Machine.{retire_from, begin, turned, went_up, went_down, serve_from, step}
use Rattle.serialization.proofs.Lemmas.messages.{put_other, put_same}
use Rattle.machine_theory.specs.Loans.{with_core}
use Rattle.machine_theory.proofs.Putting.{put_swap, stays_put}

-- The step is neither a turn of processor p nor a poke, in the theory's terms.
abbrev pub IsAnothers : {Pokes : Type 0} → (p : ℕ) → Step Pokes → Type 0
IsAnothers p (Turn q) = q ≢ p
IsAnothers p (Up s w) = Unit {0}
IsAnothers p (Serve m) = Unit {0}
IsAnothers p (Down s w) = Unit {0}
IsAnothers p (Poke poke) = ⊥

module _ {Core Pokes Entry : Type 0} (z : Sizes) (P : Program Core Pokes Entry) (M : Machine Core) (p : ℕ) (core : Core) where
  -- the same result, with the other core in p's place
  abbrev with_core_too : Result Core Pokes → Result Core Pokes
  with_core_too r = record { machine = with_core r.machine p core; outcome = r.outcome }

  module _ (q : ℕ) (apart : q ≢ p) where
    same : put M.core p core q ≡ M.core q
    same = put_other M.core p core q apart

    retires_so : (replies : List Reply) → retire_from P (with_core M p core) q replies ≡ with_core_too (retire_from P M q replies)
    retires_so [] = refl
    retires_so (y ∷ ys) =
        ap (λ f. record { machine = record { net = port_taken M.net q; mem = M.mem; core = f; is_open = put M.is_open q false }; outcome = Retired q y.value })
        (ap (λ g. put (put M.core p core) q (P.retire q g y.value)) same ∙ put_swap M.core p q core (P.retire q (M.core q) y.value) apart)

    begins_so : (kind : Kind) → begin P (with_core M p core) q kind ≡ with_core_too (begin P M q kind)
    begins_so Rests = refl
    begins_so Alone =
        ap (λ f. record { machine = record { net = M.net; mem = M.mem; core = f; is_open = M.is_open }; outcome = Advanced q })
        (ap (λ g. put (put M.core p core) q (P.alone q g)) same ∙ put_swap M.core p q core (P.alone q (M.core q)) apart)
    begins_so Refers =
        ap (λ g. record {
          machine = record {
            net = injected M.net (record { leader = q; word = P.word_of q g; phi = P.phi_of q g; marks = 0 });
            mem = M.mem;
            core = put M.core p core;
            is_open = put M.is_open q true;
          };
          outcome = Issued q;
        }) same

    turned_so : (b : Bool) → turned P (with_core M p core) q b ≡ with_core_too (turned P M q b)
    turned_so true = retires_so (M.net.replies 0 q)
    turned_so false = ap (λ g. begin P (with_core M p core) q (P.kind q g)) same ∙ begins_so (P.kind q (M.core q))

    turn_so : (b : Bool) → (if b then turned P (with_core M p core) q (M.is_open q) else stalled (with_core M p core))
        ≡ with_core_too (if b then turned P M q (M.is_open q) else stalled M)
    turn_so true = turned_so (M.is_open q)
    turn_so false = refl

  up_so : (r : UpMove × Net) → went_up {Pokes = Pokes} (with_core M p core) r ≡ with_core_too (went_up M r)
  up_so (up.Stalled, net) = refl
  up_so (up.Moved, net) = refl
  up_so (up.Combined first second, net) = refl

  down_so : (r : DownMove × Net) → went_down {Pokes = Pokes} (with_core M p core) r ≡ with_core_too (went_down M r)
  down_so (down.Stalled, net) = refl
  down_so (down.Moved, net) = refl
  down_so (down.Answered to, net) = refl

  serve_so : (m : ℕ) (requests : List Request) (replies : List Reply) →
      serve_from {Pokes = Pokes} z (with_core M p core) m requests replies ≡ with_core_too (serve_from z M m requests replies)
  serve_so m [] replies = refl
  serve_so m (x ∷ rest) (y ∷ ys) = refl
  serve_so m (x ∷ rest) [] = refl

  -- A step of others gives the same with another core in p's place, and leaves that core there.
  pub not_noticed : (s : Step Pokes) → IsAnothers p s → step z P (with_core M p core) s ≡ with_core_too (step z P M s)
  not_noticed (Turn q) apart = turn_so q apart (nat_lt q (wires z))
  not_noticed (Up s w) other = by (nat_lt w (wires z))
    where
      by : (b : Bool) → (if b then went_up (with_core M p core) (moved_up z M.net s w) else stalled (with_core M p core))
          ≡ with_core_too (if b then went_up M (moved_up z M.net s w) else stalled M)
      by true = up_so (moved_up z M.net s w)
      by false = refl
  not_noticed (Serve m) other = by (nat_lt m (wires z))
    where
      by : (b : Bool) → (if b then serve_from z (with_core M p core) m (M.net.requests z.k m) (M.net.replies z.k m) else stalled (with_core M p core))
          ≡ with_core_too (if b then serve_from z M m (M.net.requests z.k m) (M.net.replies z.k m) else stalled M)
      by true = serve_so m (M.net.requests z.k m) (M.net.replies z.k m)
      by false = refl
  not_noticed (Down s w) other = by (nat_lt w (wires z))
    where
      by : (b : Bool) → (if b then went_down (with_core M p core) (moved_down z M.net s w) else stalled (with_core M p core))
          ≡ with_core_too (if b then went_down M (moved_down z M.net s w) else stalled M)
      by true = down_so (moved_down z M.net s w)
      by false = refl
  not_noticed (Poke poke) other = absurd other

-- ---- what outcomes tell

-- The outcome is neither that p has advanced nor that its reference has retired.
abbrev pub TellsNotOf : {Pokes : Type 0} → (p : ℕ) → Outcome Pokes → Type 0
TellsNotOf p (Issued q) = Unit {0}
TellsNotOf p (Advanced q) = q ≢ p
TellsNotOf p (Retired q value) = q ≢ p
TellsNotOf p Moved = Unit {0}
TellsNotOf p (Combined first second) = Unit {0}
TellsNotOf p (Served leader) = Unit {0}
TellsNotOf p (Answered to) = Unit {0}
TellsNotOf p (Poked poke) = Unit {0}
TellsNotOf p Stalled = Unit {0}

module _ {Core Pokes Entry : Type 0} (z : Sizes) (P : Program Core Pokes Entry) (M : Machine Core) (p : ℕ) where
  module _ (q : ℕ) (apart : q ≢ p) where
    retires_not : (replies : List Reply) → TellsNotOf p (retire_from P M q replies).outcome
    retires_not [] = tt
    retires_not (y ∷ ys) = apart

    begins_not : (kind : Kind) → TellsNotOf p (begin P M q kind).outcome
    begins_not Rests = tt
    begins_not Alone = apart
    begins_not Refers = tt

    turned_not : (b : Bool) → TellsNotOf p (turned P M q b).outcome
    turned_not true = retires_not (M.net.replies 0 q)
    turned_not false = begins_not (P.kind q (M.core q))

    turn_not : (b : Bool) → TellsNotOf p (if b then turned P M q (M.is_open q) else stalled M).outcome
    turn_not true = turned_not (M.is_open q)
    turn_not false = tt

  up_not : (r : UpMove × Net) → TellsNotOf p (went_up {Pokes = Pokes} M r).outcome
  up_not (up.Stalled, net) = tt
  up_not (up.Moved, net) = tt
  up_not (up.Combined first second, net) = tt

  down_not : (r : DownMove × Net) → TellsNotOf p (went_down {Pokes = Pokes} M r).outcome
  down_not (down.Stalled, net) = tt
  down_not (down.Moved, net) = tt
  down_not (down.Answered to, net) = tt

  serve_not : (m : ℕ) (requests : List Request) (replies : List Reply) → TellsNotOf p (serve_from {Pokes = Pokes} z M m requests replies).outcome
  serve_not m [] replies = tt
  serve_not m (x ∷ rest) (y ∷ ys) = tt
  serve_not m (x ∷ rest) [] = tt

  -- A step of others tells neither that p has advanced nor that a reference of p has retired.
  pub tells_not : (s : Step Pokes) → IsAnothers p s → TellsNotOf p (step z P M s).outcome
  tells_not (Turn q) apart = turn_not q apart (nat_lt q (wires z))
  tells_not (Up s w) other = by (nat_lt w (wires z))
    where
      by : (b : Bool) → TellsNotOf p (if b then went_up {Pokes = Pokes} M (moved_up z M.net s w) else stalled M).outcome
      by true = up_not (moved_up z M.net s w)
      by false = tt
  tells_not (Serve m) other = by (nat_lt m (wires z))
    where
      by : (b : Bool) → TellsNotOf p (if b then serve_from {Pokes = Pokes} z M m (M.net.requests z.k m) (M.net.replies z.k m) else stalled M).outcome
      by true = serve_not m (M.net.requests z.k m) (M.net.replies z.k m)
      by false = tt
  tells_not (Down s w) other = by (nat_lt w (wires z))
    where
      by : (b : Bool) → TellsNotOf p (if b then went_down {Pokes = Pokes} M (moved_down z M.net s w) else stalled M).outcome
      by true = down_not (moved_down z M.net s w)
      by false = tt
  tells_not (Poke poke) other = absurd other

-- ---- whether p is open

module _ {Core Pokes Entry : Type 0} (z : Sizes) (P : Program Core Pokes Entry) (M : Machine Core) (p : ℕ) where
  module _ (q : ℕ) (apart : q ≢ p) where
    put_open : (b : Bool) → put M.is_open q b p ≡ M.is_open p
    put_open b = put_other M.is_open q b p (λ e. apart (sym e))

    retires_open : (replies : List Reply) → (retire_from P M q replies).machine.is_open p ≡ M.is_open p
    retires_open [] = refl
    retires_open (y ∷ ys) = put_open false

    begins_open : (kind : Kind) → (begin P M q kind).machine.is_open p ≡ M.is_open p
    begins_open Rests = refl
    begins_open Alone = refl
    begins_open Refers = put_open true

    turned_open : (b : Bool) → (turned P M q b).machine.is_open p ≡ M.is_open p
    turned_open true = retires_open (M.net.replies 0 q)
    turned_open false = begins_open (P.kind q (M.core q))

    turn_open : (b : Bool) → (if b then turned P M q (M.is_open q) else stalled M).machine.is_open p ≡ M.is_open p
    turn_open true = turned_open (M.is_open q)
    turn_open false = refl

  up_open : (r : UpMove × Net) → (went_up {Pokes = Pokes} M r).machine.is_open p ≡ M.is_open p
  up_open (up.Stalled, net) = refl
  up_open (up.Moved, net) = refl
  up_open (up.Combined first second, net) = refl

  down_open : (r : DownMove × Net) → (went_down {Pokes = Pokes} M r).machine.is_open p ≡ M.is_open p
  down_open (down.Stalled, net) = refl
  down_open (down.Moved, net) = refl
  down_open (down.Answered to, net) = refl

  serve_open : (m : ℕ) (requests : List Request) (replies : List Reply) →
      (serve_from {Pokes = Pokes} z M m requests replies).machine.is_open p ≡ M.is_open p
  serve_open m [] replies = refl
  serve_open m (x ∷ rest) (y ∷ ys) = refl
  serve_open m (x ∷ rest) [] = refl

  -- A step of others leaves p open if and only if it was.
  pub open_kept : (s : Step Pokes) → IsAnothers p s → (step z P M s).machine.is_open p ≡ M.is_open p
  open_kept (Turn q) apart = turn_open q apart (nat_lt q (wires z))
  open_kept (Up s w) other = by (nat_lt w (wires z))
    where
      by : (b : Bool) → (if b then went_up {Pokes = Pokes} M (moved_up z M.net s w) else stalled M).machine.is_open p ≡ M.is_open p
      by true = up_open (moved_up z M.net s w)
      by false = refl
  open_kept (Serve m) other = by (nat_lt m (wires z))
    where
      by : (b : Bool) → (if b then serve_from {Pokes = Pokes} z M m (M.net.requests z.k m) (M.net.replies z.k m) else stalled M).machine.is_open p ≡ M.is_open p
      by true = serve_open m (M.net.requests z.k m) (M.net.replies z.k m)
      by false = refl
  open_kept (Down s w) other = by (nat_lt w (wires z))
    where
      by : (b : Bool) → (if b then went_down {Pokes = Pokes} M (moved_down z M.net s w) else stalled M).machine.is_open p ≡ M.is_open p
      by true = down_open (moved_down z M.net s w)
      by false = refl
  open_kept (Poke poke) other = absurd other

  -- A step of others leaves p's core alone.
  pub core_kept : (s : Step Pokes) → IsAnothers p s → (step z P M s).machine.core p ≡ M.core p
  core_kept s other =
      ap (λ (m : Machine Core). (step z P m s).machine.core p) (sym (stays_put M p))
      ∙ ap (λ (r : Result Core Pokes). r.machine.core p) (not_noticed z P M p (M.core p) s other)
      ∙ put_same (step z P M s).machine.core p (M.core p)
