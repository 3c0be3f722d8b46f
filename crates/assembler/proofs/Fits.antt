-- The meaning of a text fits into the regions.
use Rattle.std.proofs.Common.{◌≡◌, ℕ, ◌+◌, ◌*◌, ◌^◌, ◌≤◌, Bool, true, false, List, [], ◌∷◌, ◌++◌, length, Option}
use Rattle.std.proofs.Common.{Some, None, Result, Ok, Err, refl, sym, ap, subst, ◌∙◌, arith, length-append}
use Rattle.std.specs.Prelude.{pos, All, IsOk, nat_le, replicate, if◌then◌else◌}
use Rattle.std.proofs.lemmas.Bool.{leb-true, false≢true}
use Rattle.std.proofs.lemmas.List.{length-replicate}
use Rattle.std.proofs.lemmas.List.Elements.{All-head, All-tail}
use Rattle.asm_lines.specs.declared.fault.LineFault.{LineFault}
use Rattle.asm_lines.specs.declared.statement.Section.{Section}
use Rattle.asm_lines.specs.declared.statement.Section.TheVariants.{Code, Local, Shared}
use Rattle.asm_lines.specs.Number.{low_bits}
use Rattle.decode.specs.Words.{word_of}
use Rattle.asm_lines.specs.Statements.{Val, Stmt, section, words, bytes, zeros, instruction, Said, line_of}
use Rattle.elf_image.specs.declared.layout.Layout.{Layout}
use Rattle.assembler.specs.declared.fault.AsmFault.{AsmFault}
use Rattle.assembler.specs.declared.fault.AsmFault.TheVariants.{SectionFull, LabelTwice}
use Rattle.assembler.specs.Faults.{◌>>=◌, lifted}
use Rattle.assembler.specs.Meaning.{Labels, Place, start, room_of, count_of, address, size_of, grown, after_statement}
use Rattle.assembler.specs.Meaning.{after_option, labelled, after_said, after_read, after, Placed, misplacement}
use Rattle.assembler.specs.Meaning.{fit_or_fault, place_statement, is_taken, place_said, part_of, insn_at, word_bytes}
use Rattle.assembler.specs.Meaning.{words_bytes, statement_bytes, Piece, piece_of, line_piece, pieces_from, pieces_of}
use Rattle.assembler.specs.Meaning.{labels_of, lines_of, bytes_in, section_bytes, IsMeaning, FitsRegions}

-- ---- results

-- If two steps together succeed, the first gives something with which the second succeeds.
pub bind_ok : {A B : Type 0} (r : Result A AsmFault) (f : A → Result B AsmFault) (y : B) → (r >>= f) ≡ Ok y → (x : A) × (r ≡ Ok x) × (f x ≡ Ok y)
bind_ok (Ok x) f y h = (x, refl, h)
bind_ok (Err e) f y h = absurd cc

-- ---- the number of bytes of a statement

words_length : (labels : Labels) (vs : List Val) (bs : List ℕ) → words_bytes labels vs ≡ Ok bs → length bs ≡ 4 * length vs
unfolding words_bytes
words_length labels [] bs h = let e : [] ≡ bs = cc in ap length (sym e)
words_length labels (v ∷ vs) bs h =
    let first = bind_ok (part_of pos labels v) (λ z. words_bytes labels vs >>= λ tail. Ok (word_bytes (low_bits (2 ^ 32) z) ++ tail)) bs h in
    let rest = bind_ok (words_bytes labels vs) (λ tail. Ok (word_bytes (low_bits (2 ^ 32) first.0) ++ tail)) bs first.2 in
    let e : word_bytes (low_bits (2 ^ 32) first.0) ++ rest.0 ≡ bs = cc rest.2 in
    ap length (sym e) ∙ omega (arith, words_length labels vs rest.0 rest.1)

statement_length : (labels : Labels) (at : ℕ) (s : Stmt) (bs : List ℕ) → statement_bytes labels at s ≡ Ok bs → length bs ≡ size_of s
statement_length labels at (section t) bs h = let e : [] ≡ bs = cc in ap length (sym e)
statement_length labels at (words vs) bs h = words_length labels vs bs h
statement_length labels at (bytes cs) bs h = let e : cs ≡ bs = cc in ap length (sym e)
statement_length labels at (zeros n) bs h = let e : replicate n 0 ≡ bs = cc in ap length (sym e) ∙ length-replicate n 0
statement_length labels at (instruction i) bs h =
    let whole = bind_ok (insn_at labels at i) (λ insn. Ok (word_bytes (word_of insn))) bs h in
    let e : word_bytes (word_of whole.0) ≡ bs = cc whole.2 in
    ap length (sym e)

-- ---- places

pub record IsWithin (at : Place) : Type 0 where
  -- The bytes of code fit.
  pub code : at.code ≤ 65536
  -- The local bytes fit.
  pub local : at.local ≤ 65536
  -- The shared bytes fit.
  pub shared : at.shared ≤ 786432

-- The bytes of a piece lead from a place to the next one.
pub record Step (at next : Place) (piece : Piece) : Type 0 where
  code : next.code ≡ at.code + length (bytes_in Code (Ok piece))
  local : next.local ≡ at.local + length (bytes_in Local (Ok piece))
  shared : next.shared ≡ at.shared + length (bytes_in Shared (Ok piece))
  -- The bytes at the next place fit.
  pub within : IsWithin next

grown_step : (s : Section) (n : ℕ) (bs : List ℕ) (at : Place) → IsWithin at → count_of s at + n ≤ room_of s → length bs ≡ n → Step at (grown s n at) (s, bs)
grown_step Code n bs at h fits e =
    record { code = omega arith; local = omega arith; shared = omega arith; within = record { code = fits; local = h.local; shared = h.shared } }
grown_step Local n bs at h fits e =
    record { code = omega arith; local = omega arith; shared = omega arith; within = record { code = h.code; local = fits; shared = h.shared } }
grown_step Shared n bs at h fits e =
    record { code = omega arith; local = omega arith; shared = omega arith; within = record { code = h.code; local = h.local; shared = fits } }

no_bytes : (s : Section) (bs : List ℕ) → length bs ≡ 0 → (t : Section) → length (bytes_in t (Ok (s, bs))) ≡ 0
no_bytes Code bs e Code = e
no_bytes Code bs e Local = refl
no_bytes Code bs e Shared = refl
no_bytes Local bs e Code = refl
no_bytes Local bs e Local = e
no_bytes Local bs e Shared = refl
no_bytes Shared bs e Code = refl
no_bytes Shared bs e Local = refl
no_bytes Shared bs e Shared = e

statement_step : (at : Place) (s : Stmt) (bs : List ℕ) → IsWithin at → count_of at.section at + size_of s ≤ room_of at.section → length bs ≡ size_of s →
    Step at (after_statement at s) (at.section, bs)
statement_step at (section t) bs h fits e = record {
  code = omega (arith, no_bytes at.section bs e Code);
  local = omega (arith, no_bytes at.section bs e Local);
  shared = omega (arith, no_bytes at.section bs e Shared);
  within =
      record { code = h.code; local = h.local; shared = h.shared };
}
statement_step at (words vs) bs h fits e = grown_step at.section (4 * length vs) bs at h fits e
statement_step at (bytes cs) bs h fits e = grown_step at.section (length cs) bs at h fits e
statement_step at (zeros n) bs h fits e = grown_step at.section n bs at h fits e
statement_step at (instruction i) bs h fits e = grown_step at.section 4 bs at h fits e

-- ---- lines

-- A label changes neither the section nor the counts of bytes.
step_at : (name : Option (List ℕ)) (at next : Place) (piece : Piece) → Step (labelled name at) next piece → Step at next piece
step_at None at next piece s = s
step_at (Some n) at next piece s = record { code = s.code; local = s.local; shared = s.shared; within = s.within }

within_at : (name : Option (List ℕ)) (at : Place) → IsWithin at → IsWithin (labelled name at)
within_at None at h = h
within_at (Some n) at h = record { code = h.code; local = h.local; shared = h.shared }

labelled_step : (name : Option (List ℕ)) (at : Place) (s : Stmt) (bs : List ℕ) → IsWithin at → count_of at.section at + size_of s ≤ room_of at.section →
    length bs ≡ size_of s → Step at (after_statement (labelled name at) s) (at.section, bs)
labelled_step None at s bs h fits e = statement_step at s bs h fits e
labelled_step (Some n) at s bs h fits e =
    step_at (Some n) at _ (at.section, bs) (statement_step (labelled (Some n) at) s bs (within_at (Some n) at h) (same_count at.section at fits) e)
  where
    same_count : (t : Section) (at : Place) → count_of t at + size_of s ≤ room_of t → count_of t (labelled (Some n) at) + size_of s ≤ room_of t
    same_count Code at fits = fits
    same_count Local at fits = fits
    same_count Shared at fits = fits

idle_step : (name : Option (List ℕ)) (at : Place) → IsWithin at → Step at (labelled name at) (at.section, [])
idle_step name at h = step_at name at (labelled name at) (at.section, []) (record {
  code = omega (arith, no_bytes at.section [] refl Code);
  local = omega (arith, no_bytes at.section [] refl Local);
  shared = omega (arith, no_bytes at.section [] refl Shared);
  within = within_at name at h;
})

-- A placed statement fits, and is at its place.
pub placed_fits : (fault : Option AsmFault) (at : Place) (s : Stmt) (p : Placed) → fit_or_fault fault at s ≡ Ok p →
    (nat_le (count_of at.section at + size_of s) (room_of at.section) ≡ true) × (p ≡ record { section = at.section; address = address at; statement = Some s })
placed_fits (Some f) at s p h = absurd cc
placed_fits None at s p h = by_test (nat_le (count_of at.section at + size_of s) (room_of at.section)) h
  where
    by_test : (t : Bool) → (if t then Ok (record { section = at.section; address = address at; statement = Some s }) else Err SectionFull) ≡ Ok p →
        (t ≡ true) × (p ≡ record { section = at.section; address = address at; statement = Some s })
    by_test true e = (refl, cc)
    by_test false e = absurd cc

option_step : (labels : Labels) (name : Option (List ℕ)) (at : Place) (o : Option Stmt) (p : Placed) (piece : Piece) → IsWithin at →
    place_statement at o ≡ Ok p → piece_of labels p ≡ Ok piece → Step at (after_option (labelled name at) o) piece
unfolding piece_of
option_step labels name at None p piece h placed e =
    let is_p : ◌≡◌ {A = Placed} (record { section = at.section; address = address at; statement = None }) p = cc placed in
    let is_piece : ◌≡◌ {A = Result Piece AsmFault} (Ok (at.section, [])) (Ok piece) = ap (piece_of labels) is_p ∙ e in
    let same : ◌≡◌ {A = Piece} (at.section, []) piece = cc is_piece in
    subst (λ x. Step at (labelled name at) x) same (idle_step name at h)
option_step labels name at (Some s) p piece h placed e =
    let fits = placed_fits (misplacement at.section (address at) s) at s p placed in
    let is_piece : (statement_bytes labels (address at) s >>= λ bs. Ok (at.section, bs)) ≡ Ok piece = ap (piece_of labels) (sym fits.1) ∙ e in
    let found = bind_ok (statement_bytes labels (address at) s) (λ bs. Ok (at.section, bs)) piece is_piece in
    let same : ◌≡◌ {A = Piece} (at.section, found.0) piece = cc found.2 in
    subst (λ x. Step at (after_statement (labelled name at) s) x) same
    (labelled_step name at s found.0 h (leb-true _ _ fits.0) (statement_length labels (address at) s found.0 found.1))

said_step : (labels : Labels) (at : Place) (said : Said) (piece : Piece) → IsWithin at → (place_said at said >>= piece_of labels) ≡ Ok piece →
    Step at (after_said at said) piece
unfolding place_said after_said
said_step labels at said piece h e =
    let placed = bind_ok (if is_taken at said.name then Err LabelTwice else place_statement at said.statement) (piece_of labels) piece e in
    option_step labels said.name at said.statement placed.0 piece h (not_taken (is_taken at said.name) placed.1) placed.2
  where
    not_taken : {p : Placed} (t : Bool) → (if t then Err LabelTwice else place_statement at said.statement) ≡ Ok p → place_statement at said.statement ≡ Ok p
    not_taken true e = absurd cc
    not_taken false e = e

read_step : (labels : Labels) (at : Place) (r : Result Said LineFault) (piece : Piece) → IsWithin at →
    ((lifted r >>= place_said at) >>= piece_of labels) ≡ Ok piece → Step at (after_read at r) piece
read_step labels at (Ok said) piece h e = said_step labels at said piece h e
read_step labels at (Err f) piece h e = absurd cc

-- If the bytes at a place fit, those of a line without a fault lead to the next place, where they fit, too.
pub line_step : (labels : Labels) (at : Place) (line : List ℕ) (piece : Piece) → IsWithin at → line_piece labels at line ≡ Ok piece →
    Step at (after at line) piece
line_step labels at line piece h e = read_step labels at (line_of line) piece h e

-- ---- the whole text

record AllWithin (at : Place) (pieces : List (Result Piece AsmFault)) : Type 0 where
  code : at.code + length (section_bytes Code pieces) ≤ 65536
  local : at.local + length (section_bytes Local pieces) ≤ 65536
  shared : at.shared + length (section_bytes Shared pieces) ≤ 786432

-- A result that is not a fault is a piece.
pub ok_piece : (r : Result Piece AsmFault) → IsOk r → (piece : Piece) × (r ≡ Ok piece)
ok_piece (Ok piece) h = (piece, refl)
ok_piece (Err f) h = absurd (false≢true h)

section_more : (s : Section) (piece : Piece) (pieces : List (Result Piece AsmFault)) →
    length (section_bytes s (Ok piece ∷ pieces)) ≡ length (bytes_in s (Ok piece)) + length (section_bytes s pieces)
section_more s piece pieces = length-append (bytes_in s (Ok piece)) (section_bytes s pieces)

all_within : (labels : Labels) (at : Place) (lines : List (List ℕ)) → IsWithin at → All IsOk (pieces_from labels at lines) →
    AllWithin at (pieces_from labels at lines)
all_within labels at [] h oks = record { code = omega (arith, h.code); local = omega (arith, h.local); shared = omega (arith, h.shared) }
all_within labels at (line ∷ lines) h oks =
    let rest = pieces_from labels (after at line) lines in
    let head = ok_piece (line_piece labels at line) (All-head IsOk (line_piece labels at line) (pieces_from labels (after at line) lines) oks) in
    let step = line_step labels at line head.0 h head.1 in
    let more = all_within labels (after at line) lines step.within (All-tail IsOk (line_piece labels at line) (pieces_from labels (after at line) lines) oks) in
    subst (λ r. AllWithin at (r ∷ pieces_from labels (after at line) lines)) (sym head.1) (record {
      code = omega (arith, section_more Code head.0 (pieces_from labels (after at line) lines), step.code, more.code);
      local = omega (arith, section_more Local head.0 (pieces_from labels (after at line) lines), step.local, more.local);
      shared = omega (arith, section_more Shared head.0 (pieces_from labels (after at line) lines), step.shared, more.shared);
    })

-- The layout that a text means fits into the regions.
pub meaning_fits : (text : List ℕ) (layout : Layout) → IsMeaning text layout → FitsRegions layout
unfolding pieces_of
meaning_fits text layout m =
    let all =
    all_within (labels_of (lines_of text)) start (lines_of text) (record { code = omega arith; local = omega arith; shared = omega arith }) m.faultless in
    record {
      code = omega (arith, ap length m.code, all.code);
      local = omega (arith, ap length m.local, all.local);
      shared = omega (arith, ap length m.shared, all.shared);
    }
