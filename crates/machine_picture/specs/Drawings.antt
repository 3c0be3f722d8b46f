-- The picture of a view.
use Rattle.std.specs.Prelude.{ℕ, List, nat_le, if◌then◌else◌}
use Rattle.symbol_table.specs.Rows.{SymbolRow}
use Rattle.machine_views.specs.Cells.{cells_of}
use Rattle.machine_views.specs.Names.{naming}
use Rattle.machine_picture.specs.Summaries.{summary}
use Rattle.machine_picture.specs.WholePictures.{whole_picture}
use Rattle.machine_views.specs.declared.cell.Cells.{Cells}
use Rattle.machine_views.specs.declared.view.MachineView.{MachineView}

-- a relation between a view and the texts that may be drawn of it
abbrev pub Draws : Type 1
Draws = MachineView → (text : List ℕ) → Type 0

-- the picture of a view with these cells: whole for at most 8 processors, and a summary for more
abbrev pub drawing_of : MachineView → Cells → List ℕ
drawing_of v cells = if nat_le cells.stages 3 then whole_picture v cells else summary v cells

-- How many letters a name may have in a picture of a machine with k stages. A whole picture has boxes for texts of 100
-- letters. In a summary a box has 33 for a processor: for its number and status, and the names of its `pc` and word.
abbrev pub name_letters : (k : ℕ) → ℕ
name_letters k = if nat_le k 3 then 24 else 12

-- the picture of a view, with names by these rows of a table of symbols; without rows, nothing has a name
unfoldable pub drawing : List SymbolRow → MachineView → List ℕ
drawing rows v = drawing_of v (cells_of (naming rows (name_letters v.config.k)) v)
