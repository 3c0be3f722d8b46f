-- Names for addresses, as they are printed.
use Rattle.std.specs.Prelude.{ℕ, ◌==◌, false, List, [], ◌++◌, Option, Some, None, codes, if◌then◌else◌}
use Rattle.std.specs.Fmt.{digits}

-- A place: a name, and how far the address is from what has the name.
abbrev pub NamedPlace : Type 0
NamedPlace = List ℕ × ℕ

-- the place of an address in a table, if there is a table
abbrev pub place_in : {T : Type 0} → (T → ℕ → Option NamedPlace) → Option T → (address : ℕ) → Option NamedPlace
place_in place None address = None
place_in place (Some table) address = place table address

-- `NAME`, or `NAME+0xHEX` with an offset that is not 0
abbrev pub place_text : NamedPlace → List ℕ
place_text p = if p.1 == 0 then p.0 else p.0 ++ codes "+0x" ++ digits 16 false p.1

-- a place between brackets; nothing, if there is none
abbrev pub place_between : (before after : List ℕ) → Option NamedPlace → List ℕ
place_between before after None = []
place_between before after (Some p) = before ++ place_text p ++ after
