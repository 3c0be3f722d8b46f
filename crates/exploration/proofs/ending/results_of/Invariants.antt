use Rattle.std.proofs.Common.{◌≡◌}
use Rattle.exploration.specs.Endings.{AreShown}
use Rattle.exploration.proofs.Endings.{AreEndings}
use Rattle.exploration.proofs.ending.results_of.Given as goal

abbrev pub invariant-loop-row : goal.invariant-loop-row
invariant-loop-row g l = record {
  place : l.place ≡ l.row-index;
  endings : AreEndings l.extent l.classes l.state_tables l.rows l.row-index l.endings.results.items;
  shown : AreShown g.row.N l.extent l.state_tables l.endings.shown.keys l.endings.results.items;
}
