-- Why a search gives up.
use Rattle.state_store.specs.declared.refusal.MoveRefusal.{MoveRefusal}
use Rattle.state_store.specs.declared.refusal.MoveRefusal.TheVariants as move
use Rattle.state_search.specs.declared.refusal.Refusal.{Refusal}
use Rattle.state_search.specs.declared.refusal.Refusal.TheVariants as search

abbrev pub refused_by_move : MoveRefusal → Refusal
refused_by_move move.Memory = search.Memory
refused_by_move move.Alone = search.Alone
refused_by_move move.Asks = search.Asks

-- A search that gives up for this reason could have gone on, and has found rows: there are too many, or its observer
-- stops it.
abbrev pub HasFound : Refusal → Type 0
HasFound search.Memory = ⊥
HasFound search.States = Unit {0}
HasFound search.Stopped = Unit {0}
HasFound search.Alone = ⊥
HasFound search.Asks = ⊥
