-- What a port does in a turn, with the network, and the outcomes of moves.
use Rattle.std.specs.Prelude.{◌≡◌, ℕ, ◌<◌, ◌^◌, false, List, Option, Some, None}
use Rattle.machine_ports.specs.flat_machine.declared.event.Retired as retirement
use Rattle.machine_ports.specs.flat_machine.State.{Processor}
use Rattle.machine_ports.specs.flat_machine.Turns.{Turn, Retires, Reaches, Stops}
use Rattle.machine_ports.specs.hart.Deciding.{after_reply}
use Rattle.machine_ports.specs.Ports.{PortState, reference_phi}
use Rattle.serialization.specs.messages.declared.message.Reply.{Reply}
use Rattle.serialization.specs.messages.declared.moves.UpMove.{UpMove}
use Rattle.serialization.specs.messages.declared.moves.UpMove.TheVariants as up
use Rattle.serialization.specs.messages.declared.moves.DownMove.{DownMove}
use Rattle.serialization.specs.messages.declared.moves.DownMove.TheVariants as down
use Rattle.serialization.specs.messages.Network.{Net}
use Rattle.serialization.specs.messages.Moves.{injected, port_taken}
use Rattle.steps.specs.declared.step.Outcome.{Outcome}
use Rattle.steps.specs.declared.step.Outcome.TheVariants.{Retired, Issued, Stopped, Moved, Combined, Answered, Stalled}

-- A port begins a turn: its outcome, and the network after it.
abbrev pub IsBegun : ℕ → PortState → (code : List ℕ) → Turn → Net → Outcome → Net → Type 0
IsBegun p port code (Retires after retired) net o net' = (o ≡ Retired retired) × (net' ≡ net)
IsBegun p port code (Stops cause) net o net' = (o ≡ Stopped cause) × (net' ≡ net)
IsBegun p port code (Reaches word change after) net o net' =
    (o ≡ Issued)
    × (net' ≡ injected net (record {
      leader = p;
      word = word;
      phi = reference_phi port.core.setting code port.core.state;
      marks = 0;
    }))

-- A port finishes a turn with a reply: the outcome, the port and the network after it.
pub record IsFinished (p : ℕ) (turn : Turn) (old : PortState) (net : Net) (reply : Reply) (o : Outcome)
    (new : PortState) (net' : Net) : Type 0 where
  pub done : Processor × retirement.Retired
  pub by : after_reply turn reply.value ≡ Some done
  pub outcome : o ≡ Retired done.1
  pub port : new ≡ record { core = record { setting = old.core.setting; state = done.0 }; is_open = false }
  pub network : net' ≡ port_taken net p
  pub word : reply.value < 2 ^ 32

-- A port finishes its turn if its reply is there. Without a reply nothing changes.
abbrev pub IsFinishedBy : ℕ → Turn → PortState → Net → Option Reply → Outcome → PortState → Net → Type 0
IsFinishedBy p turn old net None o new net' = (o ≡ Stalled) × (new ≡ old) × (net' ≡ net)
IsFinishedBy p turn old net (Some reply) o new net' = IsFinished p turn old net reply o new net'

-- ---- moves

-- the outcome of the step that makes this move
abbrev pub outcome_of_up : UpMove → Outcome
outcome_of_up up.Moved = Moved
outcome_of_up (up.Combined first second) = Combined first second
outcome_of_up up.Stalled = Stalled

abbrev pub outcome_of_down : DownMove → Outcome
outcome_of_down down.Moved = Moved
outcome_of_down (down.Answered to) = Answered to
outcome_of_down down.Stalled = Stalled
