-- Laws of every path through the network.
use Rattle.std.specs.Prelude.{◌≡◌, ℕ, suc, ◌+◌, ◌-◌, ◌^◌, ◌<◌, ◌≤◌}
use Rattle.omega_wires.specs.Wires.{path, rotated_left, rotated_right, way_back, wire_before}

abbrev pub RotationsAreInverse : Type 0
RotationsAreInverse = (k wire : ℕ) → wire < 2 ^ k →
    (rotated_right k (rotated_left k wire) ≡ wire) × (rotated_left k (rotated_right k wire) ≡ wire)

abbrev pub RotationsStayOnWires : Type 0
RotationsStayOnWires = (k wire : ℕ) → wire < 2 ^ k → (rotated_left k wire < 2 ^ k) × (rotated_right k wire < 2 ^ k)

-- Each place of a path is a wire of the network.
abbrev pub PathsStayOnWires : Type 0
PathsStayOnWires = (k processor to_module stage : ℕ) → stage ≤ k → processor < 2 ^ k →
    path k processor to_module stage < 2 ^ k

-- After the last stage the wire has the module's number.
abbrev pub PathEndsAtTheModule : Type 0
PathEndsAtTheModule = (k processor to_module : ℕ) → processor < 2 ^ k → to_module < 2 ^ k →
    path k processor to_module k ≡ to_module

-- Each stage takes a reply from the wire after it to the wire before it on its leader's path.
abbrev pub RepliesGoBackTheSameWay : Type 0
RepliesGoBackTheSameWay = (k processor to_module stage : ℕ) → stage < k → processor < 2 ^ k →
    wire_before k stage (path k processor to_module (suc stage)) processor ≡ path k processor to_module stage

-- So a reply from a module passes the same wires in reverse, and after all stages it is on its processor's wire.
abbrev pub RepliesEndAtTheirLeader : Type 0
RepliesEndAtTheirLeader = (k processor to_module : ℕ) → processor < 2 ^ k → to_module < 2 ^ k →
    ((stages : ℕ) → stages ≤ k → way_back k processor to_module stages ≡ path k processor to_module (k - stages))
    × (way_back k processor to_module k ≡ processor)

-- Two paths to one module are the same from where they meet.
abbrev pub PathsThatMeetStayTogether : Type 0
PathsThatMeetStayTogether = (k p q to_module stage more : ℕ) → path k p to_module stage ≡ path k q to_module stage →
    path k p to_module (stage + more) ≡ path k q to_module (stage + more)
