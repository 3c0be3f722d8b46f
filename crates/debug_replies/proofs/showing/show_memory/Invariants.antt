use Rattle.std.proofs.Common.{◌≡◌, ◌≤◌, ◌*◌, length}
use Rattle.machine_steps.specs.Runs.{flat_state}
use Rattle.debug_replies.specs.Texts.{bytes_text}
use Rattle.debug_replies.proofs.showing.show_memory.Given as goal

abbrev pub invariant-loop-i : goal.invariant-loop-i
invariant-loop-i l = record {
  text : l.text.items ≡ bytes_text (flat_state l.machine) l.processor l.address l.i;
  few : length l.text.items ≤ 2 * l.i;
}
