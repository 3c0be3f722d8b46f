-- The machine and its steps.
use Rattle.std.specs.Prelude.{◌≡◌, ◌<◌, ℕ, zero, suc, Bool, true, false, ◌&&◌, not, nat_lt, List, [], ◌∷◌}
use Rattle.std.specs.Prelude.{if◌then◌else◌}
use Rattle.network_theory.specs.messages.declared.message.Request.{Request}
use Rattle.network_theory.specs.messages.declared.message.Reply.{Reply}
use Rattle.network_theory.specs.messages.declared.moves.UpMove.{UpMove}
use Rattle.network_theory.specs.messages.declared.moves.UpMove.TheVariants as up
use Rattle.network_theory.specs.messages.declared.moves.DownMove.{DownMove}
use Rattle.network_theory.specs.messages.declared.moves.DownMove.TheVariants as down
use Rattle.network_theory.specs.messages.declared.seconds.Seconds.{Seconds}
use Rattle.network_theory.specs.messages.Places.{put}
use Rattle.network_theory.specs.messages.Queues.{applied}
use Rattle.network_theory.specs.messages.Network.{Sizes, Net, wires, empty_net}
use Rattle.network_theory.specs.messages.Moves.{moved_up, moved_down, injected, module_taken, module_replied}
use Rattle.network_theory.specs.messages.Moves.{port_taken}
use Rattle.serialization.specs.Program.{Program, Kind, Rests, Alone, Refers}

-- A machine has a processor and a module for each wire.
pub record Machine (Core : Type 0) : Type 0 where
  pub net : Net
  -- the shared words, by their numbers
  pub mem : ℕ → ℕ
  pub core : ℕ → Core
  -- whether a processor has a reference open: issued, and not retired
  pub is_open : ℕ → Bool

pub data Step (Pokes : Type 0) : Type 0 where
  Turn : (processor : ℕ) → Step Pokes
  Up : (stage wire : ℕ) → Step Pokes
  Serve : (at_module : ℕ) → Step Pokes
  Down : (stage wire : ℕ) → Step Pokes
  Poke : Pokes → Step Pokes

pub data Outcome (Pokes : Type 0) : Type 0 where
  -- a processor sent a request
  Issued : (processor : ℕ) → Outcome Pokes
  -- a processor took a local instruction, or stopped
  Advanced : (processor : ℕ) → Outcome Pokes
  -- a processor took a reply, and its reference retired with this value
  Retired : (processor value : ℕ) → Outcome Pokes
  Moved : Outcome Pokes
  Combined : (first second : ℕ) → Outcome Pokes
  Served : (leader : ℕ) → Outcome Pokes
  Answered : (to : Seconds) → Outcome Pokes
  Poked : Pokes → Outcome Pokes
  -- nothing changed
  Stalled : Outcome Pokes

pub record Result (Core Pokes : Type 0) : Type 0 where
  pub machine : Machine Core
  pub outcome : Outcome Pokes

abbrev pub stalled : {Core Pokes : Type 0} → Machine Core → Result Core Pokes
stalled M = record { machine = M; outcome = Stalled }

abbrev pub with_net : {Core : Type 0} → Machine Core → Net → Machine Core
with_net M net = record { net = net; mem = M.mem; core = M.core; is_open = M.is_open }

-- ---- a turn

-- an open processor takes the first reply on its wire, if there is one
abbrev pub retire_from : {Core Pokes Entry : Type 0} → Program Core Pokes Entry → Machine Core → ℕ → List Reply →
    Result Core Pokes
retire_from P M p [] = stalled M
retire_from P M p (y ∷ ys) = record {
  machine = record {
    net = port_taken M.net p;
    mem = M.mem;
    core = put M.core p (P.retire p (M.core p) y.value);
    is_open = put M.is_open p false;
  };
  outcome = Retired p y.value;
}

-- the request of a processor's reference
abbrev pub request_of : {Core Pokes Entry : Type 0} → Program Core Pokes Entry → (ℕ → Core) → ℕ → Request
request_of P core p = record { leader = p; word = P.word_of p (core p); phi = P.phi_of p (core p); marks = 0 }

abbrev pub issue : {Core Pokes Entry : Type 0} → Program Core Pokes Entry → Machine Core → ℕ → Result Core Pokes
issue P M p = record {
  machine = record {
    net = injected M.net (request_of P M.core p);
    mem = M.mem;
    core = M.core;
    is_open = put M.is_open p true;
  };
  outcome = Issued p;
}

abbrev pub advance : {Core Pokes Entry : Type 0} → Program Core Pokes Entry → Machine Core → ℕ → Result Core Pokes
advance P M p = record {
  machine = record {
    net = M.net;
    mem = M.mem;
    core = put M.core p (P.alone p (M.core p));
    is_open = M.is_open;
  };
  outcome = Advanced p;
}

-- a turn of a processor without an open reference
abbrev pub begin : {Core Pokes Entry : Type 0} → Program Core Pokes Entry → Machine Core → ℕ → Kind → Result Core Pokes
begin P M p Rests = stalled M
begin P M p Alone = advance P M p
begin P M p Refers = issue P M p

abbrev pub turned : {Core Pokes Entry : Type 0} → Program Core Pokes Entry → Machine Core → ℕ → Bool → Result Core Pokes
turned P M p true = retire_from P M p (M.net.replies 0 p)
turned P M p false = begin P M p (P.kind p (M.core p))

-- ---- moves

abbrev pub went_up : {Core Pokes : Type 0} → Machine Core → UpMove × Net → Result Core Pokes
went_up M (up.Stalled, net) = stalled M
went_up M (up.Moved, net) = record { machine = with_net M net; outcome = Moved }
went_up M (up.Combined first second, net) = record { machine = with_net M net; outcome = Combined first second }

abbrev pub went_down : {Core Pokes : Type 0} → Machine Core → DownMove × Net → Result Core Pokes
went_down M (down.Stalled, net) = stalled M
went_down M (down.Moved, net) = record { machine = with_net M net; outcome = Moved }
went_down M (down.Answered to, net) = record { machine = with_net M net; outcome = Answered to }

-- a module executes its first request, if its reply slot is empty
abbrev pub serve_from : {Core Pokes : Type 0} → Sizes → Machine Core → ℕ → List Request → List Reply → Result Core Pokes
serve_from z M m [] replies = stalled M
serve_from z M m (x ∷ rest) (y ∷ ys) = stalled M
serve_from z M m (x ∷ rest) [] = record {
  machine = record {
    net = module_replied z (module_taken z M.net m) m (record { leader = x.leader; value = M.mem x.word });
    mem = put M.mem x.word (applied x.phi (M.mem x.word));
    core = M.core;
    is_open = M.is_open;
  };
  outcome = Served x.leader;
}

-- ---- pokes

-- whether none of the first n processors has a reference open
unfoldable pub all_shut : ℕ → (ℕ → Bool) → Bool
all_shut zero is_open = true
all_shut (suc n) is_open = not (is_open n) && all_shut n is_open

abbrev pub poked : {Core Pokes Entry : Type 0} → Program Core Pokes Entry → Machine Core → Pokes → Result Core Pokes
poked P M q = record {
  machine = record {
    net = M.net;
    mem = P.poked_mem q M.mem;
    core = P.poked_core q M.core;
    is_open = M.is_open;
  };
  outcome = Poked q;
}

-- ---- the step: a step that names no place of the machine stalls

abbrev pub step : {Core Pokes Entry : Type 0} → Sizes → Program Core Pokes Entry → Machine Core → Step Pokes →
    Result Core Pokes
step z P M (Turn p) = if nat_lt p (wires z) then turned P M p (M.is_open p) else stalled M
step z P M (Up s w) = if nat_lt w (wires z) then went_up M (moved_up z M.net s w) else stalled M
step z P M (Serve m) = if nat_lt m (wires z) then serve_from z M m (M.net.requests z.k m) (M.net.replies z.k m)
    else stalled M
step z P M (Down s w) = if nat_lt w (wires z) then went_down M (moved_down z M.net s w) else stalled M
step z P M (Poke q) = if all_shut (wires z) M.is_open && P.is_lawful M.core q then poked P M q else stalled M

abbrev pub new_machine : {Core : Type 0} → (mem : ℕ → ℕ) → (core : ℕ → Core) → Machine Core
new_machine mem core = record { net = empty_net; mem = mem; core = core; is_open = λ p. false }

-- the machine after a list of steps
unfoldable pub machine_after : {Core Pokes Entry : Type 0} → Sizes → Program Core Pokes Entry → List (Step Pokes) →
    Machine Core → Machine Core
machine_after z P [] M = M
machine_after z P (st ∷ sts) M = machine_after z P sts (step z P M st).machine

-- No reference is open.
abbrev pub IsIdle : {Core : Type 0} → Sizes → Machine Core → Type 0
IsIdle z M = (p : ℕ) → p < wires z → M.is_open p ≡ false
