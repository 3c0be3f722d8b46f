use Rattle.std.proofs.Common.{arith, ◌≡◌, ◌+◌, ◌-◌}
use Rattle.assembler.specs.Meaning.{lines_of, pieces_of}
use Rattle.fault_lists.proofs.Present.{present_listed, listed_present}
use Rattle.fault_lists.proofs.laws.listed_where_present.Goals as goal

pub returns-clause-sound : goal.returns-clause-sound
returns-clause-sound c = λ text e listed.
    let h = listed_present 1 (pieces_of (lines_of text)) e listed.0 listed.1 listed.2 in (omega (arith, h.0), h.1)

pub returns-clause-complete : goal.returns-clause-complete
returns-clause-complete c = λ text e present.
    let at : e.line ≡ 1 + (e.line - 1) = omega (arith, present.0) in present_listed 1 (pieces_of (lines_of text)) (e.line - 1) e at present.1
