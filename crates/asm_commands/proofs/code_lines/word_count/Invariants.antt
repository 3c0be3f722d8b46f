use Rattle.std.proofs.Common.{◌≡◌, ◌≤◌, ◌<◌, ◌^◌, ℕ}
use Rattle.asm_commands.specs.CodeLines.{word_at}
use Rattle.asm_commands.proofs.code_lines.word_count.Given as goal

abbrev pub invariant-loop-count : goal.invariant-loop-count
invariant-loop-count l = record {
  within : l.count ≤ 2 ^ 14;
  after : (index : ℕ) → l.count ≤ index → index < 2 ^ 14 → word_at l.code index ≡ 0;
}

abbrev pub decreases-loop-count : goal.decreases-loop-count
decreases-loop-count l = l.count
