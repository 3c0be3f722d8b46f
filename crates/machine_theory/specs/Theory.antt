-- The definitions of the theory, with the pokes and the entries of the flat machine.
use Rattle.std.specs.Prelude.{ℕ, List, Option, refl}
use Rattle.serialization.specs.messages.declared.message.Request.{Request}
use Rattle.serialization.specs.messages.declared.message.Reply.{Reply}
use Rattle.serialization.specs.messages.declared.moves.UpMove.{UpMove}
use Rattle.serialization.specs.messages.declared.moves.DownMove.{DownMove}
use Rattle.serialization.specs.messages.Network.{Sizes, Net}
use Rattle.machine_ports.specs.flat_machine.declared.poke.Poke as pokes
use Rattle.machine_ports.specs.flat_machine.declared.poke.Entry.{Entry}
use Rattle.machine_ports.specs.flat_machine.declared.poke.Entry.TheVariants as entry
use Rattle.serialization.specs.Program as program
use Rattle.serialization.specs.Program.{Content, TurnOf, PokeOf, Entries}
use Rattle.serialization.specs.Machine as machine
use Rattle.serialization.specs.Draining as draining
pub use Rattle.serialization.specs.Machine.{Machine, Turn, Up, Serve, Down, Poke, Issued, Advanced, Retired}
pub use Rattle.serialization.specs.Machine.{Moved, Combined, Served, Answered, Poked, Stalled, retire_from}
pub use Rattle.serialization.specs.Machine.{issue, advance, begin, turned, poked, step}
unfoldable pub use Rattle.serialization.specs.Machine.{machine_after}

-- what an entry of the flat machine says: a turn, or a poke
abbrev pub content_of : Entry → Content pokes.Poke
content_of (entry.Processor p) = TurnOf p
content_of (entry.Poke q) = PokeOf q

abbrev pub entries : Entries pokes.Poke Entry
entries = record {
  turn = entry.Processor;
  poke = entry.Poke;
  content = content_of;
  of_turn = λ p. refl;
  of_poke = λ q. refl;
}

abbrev pub Program : Type 0 → Type 0
Program Core = program.Program Core pokes.Poke Entry

abbrev pub Step : Type 0
Step = machine.Step pokes.Poke

abbrev pub Outcome : Type 0
Outcome = machine.Outcome pokes.Poke

abbrev pub Result : Type 0 → Type 0
Result Core = machine.Result Core pokes.Poke

abbrev pub stalled : {Core : Type 0} → Machine Core → Result Core
stalled M = machine.stalled M

abbrev pub went_up : {Core : Type 0} → Machine Core → UpMove × Net → Result Core
went_up M r = machine.went_up M r

abbrev pub went_down : {Core : Type 0} → Machine Core → DownMove × Net → Result Core
went_down M r = machine.went_down M r

abbrev pub serve_from : {Core : Type 0} → Sizes → Machine Core → ℕ → List Request → List Reply → Result Core
serve_from z M m requests replies = machine.serve_from z M m requests replies

abbrev pub drain_step : {Core : Type 0} → Sizes → Machine Core → Option Step
drain_step z M = draining.drain_step z M
