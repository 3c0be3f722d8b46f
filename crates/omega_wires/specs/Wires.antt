-- The wiring of an omega network of k stages: 2 ^ k wires go from each stage to the next, two to a switch.
--
-- Before each stage the wires go through the shuffle, which rotates the k bits of a wire's number to the left by one.
-- The switch then replaces the lowest bit by a bit of the module's number, the highest bit at the first stage. A reply
-- goes back the same way: the switch puts in a bit of its processor's number, and the shuffle is undone.
use Rattle.std.specs.Prelude.{ℕ, zero, suc, ◌+◌, ◌-◌, ◌*◌, ◌/◌, ◌%◌, ◌^◌}

-- bit i of a number; bit 0 is the lowest
abbrev pub bit : (i number : ℕ) → ℕ
bit i number = (number / 2 ^ i) % 2

-- the shuffle
abbrev pub rotated_left : (k wire : ℕ) → ℕ
rotated_left k wire = (2 * wire) % 2 ^ k + (2 * wire) / 2 ^ k

-- the shuffle undone
abbrev pub rotated_right : (k wire : ℕ) → ℕ
rotated_right k wire = wire / 2 + (wire % 2) * 2 ^ (k - 1)

-- the bit of a module's or a processor's number that the switches of a stage use
abbrev pub bit_of_stage : (k stage : ℕ) → ℕ
bit_of_stage k stage = k - 1 - stage

-- the wire after a stage, for a message that arrives on a wire and goes to a module
unfoldable pub wire_after : (k stage wire to_module : ℕ) → ℕ
wire_after k stage wire to_module = 2 * (rotated_left k wire / 2) + bit (bit_of_stage k stage) to_module

-- the wire before a stage, for a reply that arrives on a wire after it and goes to a processor
unfoldable pub wire_before : (k stage wire processor : ℕ) → ℕ
wire_before k stage wire processor = rotated_right k (2 * (wire / 2) + bit (bit_of_stage k stage) processor)

-- the wire of a message from a processor to a module before this stage, or after the last one if the stage is k
unfoldable pub path : (k processor to_module stage : ℕ) → ℕ
path k processor to_module zero = processor
path k processor to_module (suc stage) = wire_after k stage (path k processor to_module stage) to_module

-- the switch that a wire before a stage goes into, and its input port there
abbrev pub switch_of : (k wire : ℕ) → ℕ
switch_of k wire = rotated_left k wire / 2

abbrev pub input_port : (k wire : ℕ) → ℕ
input_port k wire = rotated_left k wire % 2

-- the wire of a reply to a processor after it went back over this many stages, from the wire after the last one
unfoldable pub way_back : (k processor wire stages : ℕ) → ℕ
way_back k processor wire zero = wire
way_back k processor wire (suc stages) = wire_before k (k - suc stages) (way_back k processor wire stages) processor
