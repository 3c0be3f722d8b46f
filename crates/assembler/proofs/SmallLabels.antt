-- In a text with a meaning, the value of each label is a word.
use Rattle.std.proofs.Common.{◌≡◌, ℕ, ◌+◌, ◌^◌, ◌<◌, Bool, true, false, cond, List, [], ◌∷◌, Option, Some, None, Result, Ok, Err, refl, sym, subst, arith}
use Rattle.std.specs.Prelude.{All, IsOk, fold}
use Rattle.std.specs.Str.{bytes_eq}
use Rattle.std.proofs.lemmas.List.Elements.{All-head, All-tail}
use Rattle.asm_lines.specs.declared.fault.LineFault.{LineFault}
use Rattle.asm_lines.specs.declared.statement.Section.{Section}
use Rattle.asm_lines.specs.declared.statement.Section.TheVariants.{Code, Local, Shared}
use Rattle.asm_lines.specs.Statements.{Stmt, section, words, bytes, zeros, instruction, Said, line_of}
use Rattle.elf_image.specs.declared.layout.Layout.{Layout}
use Rattle.assembler.specs.declared.symbol.Symbol.{Symbol}
use Rattle.assembler.specs.Meaning.{Labels, Place, start, base_of, count_of, address, grown, after_option}
use Rattle.assembler.specs.Meaning.{labelled, after_said, after_read, after, line_piece, pieces_from}
use Rattle.assembler.specs.Meaning.{pieces_of, labels_of, lines_of, IsMeaning}
use Rattle.assembler.proofs.Fits.{IsWithin, ok_piece, line_step}

abbrev AreWords : Labels → Type 0
AreWords labels = (name : List ℕ) (symbol : Symbol) → labels name ≡ Some symbol → symbol.address < 2 ^ 32

address_is_word : (at : Place) → IsWithin at → address at < 2 ^ 32
address_is_word at h = go at.section
  where
    go : (s : Section) → base_of s + count_of s at < 2 ^ 32
    go Code = omega (arith, h.code)
    go Local = omega (arith, h.local)
    go Shared = omega (arith, h.shared)

-- ---- a line

grown_labels : (s : Section) (n : ℕ) (at : Place) → (grown s n at).labels ≡ at.labels
grown_labels Code n at = refl
grown_labels Local n at = refl
grown_labels Shared n at = refl

statement_labels : (at : Place) (o : Option Stmt) → (after_option at o).labels ≡ at.labels
statement_labels at None = refl
statement_labels at (Some (section s)) = refl
statement_labels at (Some (words vs)) = grown_labels at.section _ at
statement_labels at (Some (bytes bs)) = grown_labels at.section _ at
statement_labels at (Some (zeros n)) = grown_labels at.section _ at
statement_labels at (Some (instruction i)) = grown_labels at.section _ at

labelled_words : (name : Option (List ℕ)) (at : Place) → IsWithin at → AreWords at.labels → AreWords (labelled name at).labels
labelled_words None at h small = small
labelled_words (Some n) at h small = λ name symbol e. go (bytes_eq n name) name symbol e
  where
    go : (t : Bool) (name : List ℕ) (symbol : Symbol)
        → cond t (Some (record { section = at.section; address = address at })) (at.labels name) ≡ Some symbol → symbol.address < 2 ^ 32
    go true name symbol e =
        let same : ◌≡◌ {A = Symbol} (record { section = at.section; address = address at }) symbol = cc e in
        subst (λ (s : Symbol). s.address < 2 ^ 32) same (address_is_word at h)
    go false name symbol e = small name symbol e

line_words : (at : Place) (line : List ℕ) → IsWithin at → AreWords at.labels → AreWords (after at line).labels
unfolding after_said
line_words at line h small = go (line_of line)
  where
    go : (r : Result Said LineFault) → AreWords (after_read at r).labels
    go (Ok said) = subst AreWords (sym (statement_labels (labelled said.name at) said.statement)) (labelled_words said.name at h small)
    go (Err f) = small

-- ---- the whole text

all_words : (labels : Labels) (at : Place) (lines : List (List ℕ)) → IsWithin at → AreWords at.labels → All IsOk (pieces_from labels at lines)
    → AreWords (fold after at lines).labels
all_words labels at [] h small oks = small
all_words labels at (line ∷ lines) h small oks =
    let head = ok_piece (line_piece labels at line) (All-head IsOk (line_piece labels at line) (pieces_from labels (after at line) lines) oks) in
    let step = line_step labels at line head.0 h head.1 in
    all_words labels (after at line) lines step.within (line_words at line h small)
    (All-tail IsOk (line_piece labels at line) (pieces_from labels (after at line) lines) oks)

-- If a text means a layout, the value of each of its labels is below 2^32.
pub labels_are_words : (text : List ℕ) (layout : Layout) → IsMeaning text layout → (name : List ℕ) (symbol : Symbol)
    → labels_of (lines_of text) name ≡ Some symbol → symbol.address < 2 ^ 32
unfolding pieces_of
labels_are_words text layout m =
    all_words (labels_of (lines_of text)) start (lines_of text) (record { code = omega arith; local = omega arith; shared = omega arith })
    (λ name symbol e. absurd cc) m.faultless
