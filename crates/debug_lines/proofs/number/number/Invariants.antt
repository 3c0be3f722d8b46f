use Rattle.std.proofs.Common.{◌≡◌, ◌<◌, ◌≤◌, ◌^◌, drop, length}
use Rattle.debug_lines.specs.Numbers.{number_from}
use Rattle.debug_lines.proofs.number.number.Given as goal

abbrev pub invariant-loop-byte : goal.invariant-loop-byte
invariant-loop-byte l =
    (length l.digits ≤ 8) × (l.value < 16 ^ l.byte-index) × (number_from l.value (drop l.byte-index l.digits) ≡ number_from 0 l.digits)
