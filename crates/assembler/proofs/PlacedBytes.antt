-- The numbers that a text places are bytes: they are below 256.
use Rattle.std.proofs.Common.{◌≡◌, ℕ, ◌^◌, Bool, true, false, List, [], ◌∷◌, ◌++◌, Option, Some, None, Result, Ok, Err, refl, sym, ap, subst}
use Rattle.std.specs.Prelude.{pos, if◌then◌else◌}
use Rattle.decode.specs.Words.{word_of}
use Rattle.asm_lines.specs.declared.fault.LineFault.{LineFault}
use Rattle.asm_lines.specs.declared.statement.Section.{Section}
use Rattle.asm_lines.specs.Number.{low_bits}
use Rattle.asm_lines.specs.Statements.{Val, Stmt, section, words, bytes, zeros, instruction, Said, line_of}
use Rattle.assembler.specs.declared.fault.AsmFault.{AsmFault}
use Rattle.assembler.specs.declared.fault.AsmFault.TheVariants.{LabelTwice}
use Rattle.assembler.specs.Faults.{◌>>=◌, lifted}
use Rattle.assembler.specs.Meaning.{Labels, Place, start, address, Placed, misplacement, place_statement}
use Rattle.assembler.specs.Meaning.{is_taken, place_said, after, part_of, insn_at, word_bytes, words_bytes}
use Rattle.assembler.specs.Meaning.{option_bytes, same_section, Piece, piece_of, line_piece, pieces_from}
use Rattle.assembler.specs.Meaning.{pieces_of, labels_of, bytes_in, section_bytes}
use Rattle.assembler.proofs.Fits.{bind_ok, placed_fits}
use Rattle.assembler.proofs.LineBytes.{AreBytes, bytes_append, zero_bytes, number_bytes, HasBytesIn, line_bytes}

-- ---- statements

words_are_bytes : (labels : Labels) (vs : List Val) (bs : List ℕ) → words_bytes labels vs ≡ Ok bs → AreBytes bs
unfolding words_bytes
words_are_bytes labels [] bs h = let same : [] ≡ bs = cc in subst AreBytes same tt
words_are_bytes labels (v ∷ vs) bs h =
    let first = bind_ok (part_of pos labels v) (λ z. words_bytes labels vs >>= λ tail. Ok (word_bytes (low_bits (2 ^ 32) z) ++ tail)) bs h in
    let rest = bind_ok (words_bytes labels vs) (λ tail. Ok (word_bytes (low_bits (2 ^ 32) first.0) ++ tail)) bs first.2 in
    let same : word_bytes (low_bits (2 ^ 32) first.0) ++ rest.0 ≡ bs = cc rest.2 in
    subst AreBytes same (bytes_append (word_bytes (low_bits (2 ^ 32) first.0)) rest.0 (number_bytes 0 4 (low_bits (2 ^ 32) first.0))
    (words_are_bytes labels vs rest.0 rest.1))

option_are_bytes : (labels : Labels) (at : ℕ) (o : Option Stmt) (bs : List ℕ) → HasBytesIn o → option_bytes labels at o ≡ Ok bs → AreBytes bs
option_are_bytes labels at None bs small h = let same : [] ≡ bs = cc in subst AreBytes same tt
option_are_bytes labels at (Some (section t)) bs small h = let same : [] ≡ bs = cc in subst AreBytes same tt
option_are_bytes labels at (Some (words vs)) bs small h = words_are_bytes labels vs bs h
option_are_bytes labels at (Some (bytes cs)) bs small h = let same : cs ≡ bs = cc in subst AreBytes same small
option_are_bytes labels at (Some (zeros n)) bs small h = let same : _ ≡ bs = cc h in subst AreBytes same (zero_bytes n)
option_are_bytes labels at (Some (instruction i)) bs small h =
    let whole = bind_ok (insn_at labels at i) (λ insn. Ok (word_bytes (word_of insn))) bs h in
    let same : word_bytes (word_of whole.0) ≡ bs = cc whole.2 in
    subst AreBytes same (number_bytes 0 4 (word_of whole.0))

-- ---- lines

-- The placed statement is the statement of the line.
placed_same : (at : Place) (o : Option Stmt) (p : Placed) → place_statement at o ≡ Ok p → o ≡ p.statement
placed_same at None p h =
    let is_p : ◌≡◌ {A = Placed} (record { section = at.section; address = address at; statement = None }) p = cc in
    ap (λ (x : Placed). x.statement) is_p
placed_same at (Some s) p h =
    ap (λ (x : Placed). x.statement) (sym (placed_fits (misplacement at.section (address at) s) at s p h).1)

piece_are_bytes : (labels : Labels) (p : Placed) (piece : Piece) → HasBytesIn p.statement → piece_of labels p ≡ Ok piece → AreBytes piece.1
unfolding piece_of
piece_are_bytes labels p piece small h =
    let found = bind_ok (option_bytes labels p.address p.statement) (λ bs. Ok (p.section, bs)) piece h in
    let same : ◌≡◌ {A = Piece} (p.section, found.0) piece = cc found.2 in
    subst (λ (x : Piece). AreBytes x.1) same (option_are_bytes labels p.address p.statement found.0 small found.1)

said_are_bytes : (labels : Labels) (at : Place) (said : Said) (piece : Piece) → HasBytesIn said.statement →
    (place_said at said >>= piece_of labels) ≡ Ok piece → AreBytes piece.1
unfolding place_said
said_are_bytes labels at said piece small h =
    let placed = bind_ok (if is_taken at said.name then Err LabelTwice else place_statement at said.statement) (piece_of labels) piece h in
    let same = placed_same at said.statement placed.0 (not_taken (is_taken at said.name) placed.1) in
    piece_are_bytes labels placed.0 piece (subst HasBytesIn same small) placed.2
  where
    not_taken : {p : Placed} (t : Bool) → (if t then Err LabelTwice else place_statement at said.statement) ≡ Ok p → place_statement at said.statement ≡ Ok p
    not_taken true e = absurd cc
    not_taken false e = e

read_are_bytes : (labels : Labels) (at : Place) (r : Result Said LineFault) (piece : Piece) → ((said : Said) → r ≡ Ok said → HasBytesIn said.statement) →
    ((lifted r >>= place_said at) >>= piece_of labels) ≡ Ok piece → AreBytes piece.1
read_are_bytes labels at (Ok said) piece small h = said_are_bytes labels at said piece (small said refl) h
read_are_bytes labels at (Err f) piece small h = absurd cc

-- ---- sections

section_piece : (s : Section) (r : Result Piece AsmFault) → ((piece : Piece) → r ≡ Ok piece → AreBytes piece.1) → AreBytes (bytes_in s r)
section_piece s (Ok piece) h = by_test (same_section s piece.0)
  where
    by_test : (t : Bool) → AreBytes (if t then piece.1 else [])
    by_test true = h piece refl
    by_test false = tt
section_piece s (Err f) h = tt

section_from : (s : Section) (labels : Labels) (at : Place) (lines : List (List ℕ)) → AreBytes (section_bytes s (pieces_from labels at lines))
section_from s labels at [] = tt
section_from s labels at (line ∷ lines) =
    bytes_append (bytes_in s (line_piece labels at line)) (section_bytes s (pieces_from labels (after at line) lines))
    (section_piece s (line_piece labels at line) (λ piece h. read_are_bytes labels at (line_of line) piece (λ said e. line_bytes line said e) h))
    (section_from s labels (after at line) lines)

-- Each number that lines place in a section is a byte.
pub placed_bytes : (s : Section) (lines : List (List ℕ)) → AreBytes (section_bytes s (pieces_of lines))
unfolding pieces_of
placed_bytes s lines = section_from s (labels_of lines) start lines
