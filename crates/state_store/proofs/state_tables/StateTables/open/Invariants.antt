use Rattle.state_store.specs.StateTables.{HasGrown}
use Rattle.state_store.proofs.Opened.{AreOpened}
use Rattle.state_store.proofs.state_tables.StateTables.open.Given as goal

abbrev pub invariant-loop-p : goal.invariant-loop-p
invariant-loop-p g l = record {
  kept : HasGrown l.fn.self l.self;
  opened : AreOpened l.extent.exchanged l.code l.cores l.self l.row l.p;
}
