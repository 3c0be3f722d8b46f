use Rattle.std.proofs.Common.{◌≡◌, take, max, length}
use Rattle.std.specs.List.{fold}
use Rattle.machine_views.specs.declared.cell.Line.{Line}
use Rattle.machine_picture.proofs.layout.letters_in.Given as goal

abbrev pub invariant-loop-line : goal.invariant-loop-line
invariant-loop-line l =
    l.most ≡ fold (λ most (line : Line). max most (length line.text)) (length l.cell.title) (take l.line-index l.line-items)
