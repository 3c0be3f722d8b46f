-- The processors of the machine, as a program of the theory of serialization. What a turn does is the flat machine's
-- definition, and is not said again.
use Rattle.std.specs.Prelude.{ℕ, zero, suc, ◌-◌, ◌/◌, ◌%◌, ◌^◌, Bool, true, false, ◌&&◌, not, List, [], ◌∷◌}
use Rattle.std.specs.Prelude.{◌++◌, Option, Some, None, nat_lt, slice_index, slice_index_or, if◌then◌else◌}
use Rattle.machine_ports.specs.flat_machine.declared.config.Config.{Config}
use Rattle.machine_ports.specs.flat_machine.declared.setting.Setting.{Setting}
use Rattle.machine_ports.specs.flat_machine.declared.event.Event.{Event}
use Rattle.machine_ports.specs.flat_machine.declared.event.Event.TheVariants as event
use Rattle.machine_ports.specs.flat_machine.declared.event.Retired as retirement
use Rattle.machine_ports.specs.flat_machine.declared.poke.Poke.{Poke}
use Rattle.machine_ports.specs.flat_machine.declared.poke.Poke.TheVariants as poke
use Rattle.machine_ports.specs.flat_machine.State.{Processor, is_running, status_of}
use Rattle.machine_ports.specs.flat_machine.Words.{with_part}
use Rattle.machine_ports.specs.flat_machine.Memory.{in_local, in_shared}
use Rattle.machine_ports.specs.flat_machine.Turns.{Turn, Retires, Reaches, Stops, turn_of}
use Rattle.machine_ports.specs.flat_machine.Flat.{is_lawful_register, with_poked_register, with_poked_byte}
use Rattle.machine_ports.specs.hart.Deciding.{after_reply}
use Rattle.machine_ports.specs.Ports.{PortState, is_away, reference_phi}
pub use Rattle.machine_ports.specs.Ports.{no_processor}
use Rattle.serialization.specs.messages.Places.{put}
use Rattle.serialization.specs.messages.Network.{Sizes}
use Rattle.serialization.specs.Program.{Kind, Rests, Alone, Refers}
use Rattle.machine_theory.specs.Theory.{Program, entries}

-- the network of a machine of this size
abbrev pub sizes_of : Config → Sizes
sizes_of c = record { k = c.k; c = c.c; b = c.b; r = c.r }

-- what processor p of a machine of this size knows of it
abbrev pub setting_of : Config → ℕ → Setting
setting_of c p = record { number = p; processors = 2 ^ c.k; shared_words = c.shared_words }

-- the port of a number that names none
abbrev pub no_port : PortState
no_port = record {
  core = record {
    setting = record { number = 0; processors = 0; shared_words = 0 };
    state = no_processor;
  };
  is_open = false;
}

abbrev pub port_at : List PortState → ℕ → PortState
port_at ports p = slice_index_or ports p no_port

-- word i of memory that is interleaved over the modules
abbrev pub word_at : (k : ℕ) → List (List ℕ) → ℕ → ℕ
word_at k modules i = slice_index (slice_index_or modules (i % 2 ^ k) []) (i / 2 ^ k)

-- a processor, and the events that it has shown
pub record ObservedCore : Type 0 where
  pub state : Processor
  pub events : List Event

-- the processor at a port, with the events that it has shown
abbrev pub observed_at : List PortState → (shown : ℕ → List Event) → ℕ → ObservedCore
observed_at ports shown p = record { state = (port_at ports p).core.state; events = shown p }

abbrev pub open_at : List PortState → ℕ → Bool
open_at ports p = (port_at ports p).is_open

abbrev pub shows : ObservedCore → Processor → Event → ObservedCore
shows g after shown = record { state = after; events = g.events ++ shown ∷ [] }

-- ---- turns

abbrev pub kind_of_turn : Turn → Kind
kind_of_turn (Retires after retired) = Alone
kind_of_turn (Reaches word change after) = Refers
kind_of_turn (Stops cause) = Alone

abbrev pub kind_of : Bool → Turn → Kind
kind_of runs turn = if runs then kind_of_turn turn else Rests

-- the processor after a turn that needs no shared word
abbrev pub alone_by : ObservedCore → Turn → ObservedCore
alone_by g (Retires after retired) = shows g after (event.Retired retired)
alone_by g (Stops cause) = shows g (record g.state { status = status_of cause }) (event.Stopped cause)
alone_by g (Reaches word change after) = g

-- the word to which a turn refers
abbrev pub word_by : Turn → ℕ
word_by (Reaches word change after) = word
word_by (Retires after retired) = 0
word_by (Stops cause) = 0

-- the processor after a reference
abbrev pub retired_by : ObservedCore → Option (Processor × retirement.Retired) → ObservedCore
retired_by g None = g
retired_by g (Some done) = shows g done.0 (event.Retired done.1)

-- ---- pokes

-- whether none of the first n cores is away, if these are the processors
unfoldable pub are_home : ℕ → (ℕ → Processor) → Bool
are_home zero states = true
are_home (suc n) states = not (is_away (states n)) && are_home n states

-- whether the value is a word or a byte, and the processor and the register, byte or word to be written are there
abbrev pub is_lawful_poke : Config → Poke → Bool
is_lawful_poke c (poke.Register p register value) = nat_lt value (2 ^ 32)
    && (nat_lt p (2 ^ c.k) && is_lawful_register register value)
is_lawful_poke c (poke.Local p address value) = nat_lt value 256 && (nat_lt p (2 ^ c.k) && in_local address)
is_lawful_poke c (poke.Shared address value) = nat_lt value 256 && in_shared c.shared_words address

-- whether a poke may be done: no core is away, and it is lawful
abbrev pub may_poke : Config → (ℕ → ObservedCore) → Poke → Bool
may_poke c core q = are_home (2 ^ c.k) (λ p. (core p).state) && is_lawful_poke c q

abbrev pub changed : (Processor → Processor) → ObservedCore → ObservedCore
changed change g = record { state = change g.state; events = g.events }

abbrev pub poked_processors : Poke → (ℕ → ObservedCore) → ℕ → ObservedCore
poked_processors (poke.Register p register value) core =
    put core p (changed (with_poked_register register value) (core p))
poked_processors (poke.Local p address value) core = put core p (changed (with_poked_byte address value) (core p))
poked_processors (poke.Shared address value) core = core

abbrev pub poked_words : Poke → (ℕ → ℕ) → ℕ → ℕ
poked_words (poke.Shared address value) mem =
    let word = (address - 2 ^ 31) / 4 in put mem word (with_part 1 (address % 4) (mem word) value)
poked_words (poke.Register p register value) mem = mem
poked_words (poke.Local p address value) mem = mem

-- ---- all of it

module _ (c : Config) (code : List ℕ) where
  -- the next turn of processor p in this state
  abbrev pub next : ℕ → Processor → Turn
  next p state = turn_of (setting_of c p) code state

  abbrev pub program : Program ObservedCore
  program = record {
    kind = λ p g. kind_of (is_running g.state.status) (next p g.state);
    alone = λ p g. alone_by g (next p g.state);
    word_of = λ p g. word_by (next p g.state);
    phi_of = λ p g. reference_phi (setting_of c p) code g.state;
    retire = λ p g found. retired_by g (after_reply (next p g.state) found);
    is_lawful = λ core q. may_poke c core q;
    poked_core = poked_processors;
    poked_mem = poked_words;
    entry = entries;
  }
