-- Words as code: their layout fits, their file is short, and the machine that opens on it is that of the words.
use Rattle.std.proofs.Common.{◌≡◌, ℕ, zero, suc, ◌+◌, ◌*◌, ◌^◌, ◌<◌, ◌≤◌, List, [], ◌∷◌, ◌++◌}
use Rattle.std.proofs.Common.{length, take, get_or, map, refl, sym, ap, ap₂, ◌∙◌, Option, Some}
use Rattle.std.proofs.Common.{None, subst, arith, append_assoc, append-nil, length-append}
use Rattle.std.specs.Int.{w32, to_le_bytes}
use Rattle.std.specs.Prelude.{replicate}
use Rattle.std.specs.List.{range_with_len}
use Rattle.std.proofs.Math.Seq.{take-suc}
use Rattle.link.specs.Transfer.{ConsumesAll, ConsumesPast}
use Rattle.flat_machine.specs.declared.config.Config.{Config}
use Rattle.flat_machine.specs.declared.event.Status.TheVariants.{Running}
use Rattle.flat_machine.specs.Limits.{IsWithinLimits}
use Rattle.flat_machine.specs.Memory.{number_at}
use Rattle.flat_machine.specs.State.{FlatState}
use Rattle.elf_image.specs.local_memory.Accesses.{region_of_bytes}
use Rattle.elf_image.specs.declared.error.ImageError.{ImageError}
use Rattle.elf_image.specs.declared.error.ImageError.TheVariants as because
use Rattle.elf_image.specs.declared.layout.Layout.{Layout}
use Rattle.elf_image.specs.Images.{ImageContents, IsPlaced, IsMeant, IsGiven, IsRefused}
use Rattle.elf_image.specs.Openings.{opening}
use Rattle.elf_image.specs.Refusals.{refusal_of}
use Rattle.elf_image.specs.Spellings.{file_header_bytes, program_header_bytes, spelling}
use Rattle.words_command.specs.Loading.{bytes_of_words, flat_of_words, layout_of_words, IsLinkOrMemory}

-- ---- the bytes of words

bytes_append : (xs ys : List ℕ) → bytes_of_words (xs ++ ys) ≡ bytes_of_words xs ++ bytes_of_words ys
bytes_append [] ys = refl
bytes_append (x ∷ xs) ys =
    ap (λ rest. to_le_bytes w32 x ++ rest) (bytes_append xs ys) ∙ sym (append_assoc (to_le_bytes w32 x) (bytes_of_words xs) (bytes_of_words ys))

-- The bytes of the first i + 1 words are those of the first i, followed by those of the next word.
pub one_word_more : (words : List ℕ) (i : ℕ) → i < length words →
    bytes_of_words (take (i + 1) words) ≡ bytes_of_words (take i words) ++ to_le_bytes w32 (get_or words i 0)
one_word_more words i inside =
    let one : i + 1 ≡ suc i = omega arith in
    ap (λ n. bytes_of_words (take n words)) one ∙ ap bytes_of_words (take-suc words i 0 inside) ∙ bytes_append (take i words) (get_or words i 0 ∷ [])
    ∙ ap (λ rest. bytes_of_words (take i words) ++ rest) (append-nil (to_le_bytes w32 (get_or words i 0)))

four_bytes : (word : ℕ) → length (to_le_bytes w32 word) ≡ 4
four_bytes word = refl

-- Words have four bytes each.
pub count_of_bytes : (words : List ℕ) → length (bytes_of_words words) ≡ 4 * length words
count_of_bytes [] = refl
count_of_bytes (w ∷ ws) = omega (arith, length-append (to_le_bytes w32 w) (bytes_of_words ws), four_bytes w, count_of_bytes ws)

-- ---- their layout

placed : (words : List ℕ) → length words ≤ 16384 → IsPlaced (layout_of_words words) 1024
placed words few = record {
  entry_in_code = refl;
  entry_aligned = refl;
  code = omega (arith, count_of_bytes words, few);
  local = omega arith;
  shared = omega arith;
}

-- The layout of at most 16,384 words fits a machine with 1,024 shared words.
pub words_are_placed : (words : List ℕ) (layout : Layout) → layout ≡ layout_of_words words → length words ≤ 16384 → IsPlaced layout 1024
words_are_placed words layout is few = rw is (placed words few)

length_of_file_header : (entry count : ℕ) → length (file_header_bytes entry count) ≡ 52
unfolding file_header_bytes
length_of_file_header entry count = refl

length_of_program_header : (offset start count flags : ℕ) → length (program_header_bytes offset start count flags) ≡ 32
unfolding program_header_bytes
length_of_program_header offset start count flags = refl

length_of_file : (code : List ℕ) → length (spelling (record { entry = 2 ^ 16; code = code; local = []; shared = [] })) ≡ 84 + length code
unfolding spelling
length_of_file code =
    let first : List ℕ = file_header_bytes (2 ^ 16) 1 in
    let second : List ℕ = program_header_bytes 84 (2 ^ 16) (length code) 5 in
    let head : List ℕ = first ++ second ++ [] ++ [] in
    let parts : spelling (record { entry = 2 ^ 16; code = code; local = []; shared = [] }) ≡ head ++ code ++ [] ++ [] = refl in
    ap length parts
    ∙ omega (
      arith,
      length-append first second,
      length-append (first ++ second) [],
      length-append (first ++ second ++ []) [],
      length-append head code,
      length-append (head ++ code) [],
      length-append (head ++ code ++ []) [],
      length_of_file_header (2 ^ 16) 1,
      length_of_program_header 84 (2 ^ 16) (length code) 5,
    )

-- The file that spells the layout of at most 16,384 words has at most 1,048,576 bytes.
pub file_is_short : (words : List ℕ) (layout : Layout) → layout ≡ layout_of_words words → length words ≤ 16384 → length (spelling layout) ≤ 1048576
file_is_short words layout is few = rw is (omega (arith, length_of_file (bytes_of_words words), count_of_bytes words, few))

-- ---- the flat machine

no_bytes : (place : ℕ) → number_at [] place 4 ≡ 0
unfolding number_at
no_bytes place = refl

zeros : (start count : ℕ) → map (λ i. number_at [] (4 * i) 4) (range_with_len start count) ≡ replicate count 0
zeros start zero = refl
zeros start (suc count) = ap₂ (λ w ws. w ∷ ws) (no_bytes (4 * start)) (zeros (start + 1) count)

-- the size of the machine
abbrev size : Config
size = record { k = 0; c = 2; b = 0; r = 1; shared_words = 1024 }

open_on : (words : List ℕ) → opening size (layout_of_words words) ≡ flat_of_words words
open_on words = ap (λ (shared : List ℕ). with_shared shared) (zeros 0 1024)
  where
    with_shared : List ℕ → FlatState
    with_shared shared = record {
      processors = record { pc = 2 ^ 16; registers = replicate 32 0; local = region_of_bytes []; status = Running } ∷ [];
      shared = shared;
      code = region_of_bytes (bytes_of_words words);
    }

-- A flat machine that opens on the image of words is the flat machine of the words.
pub words_open : (words : List ℕ) (layout : Layout) (image : ImageContents) (m : FlatState) → layout ≡ layout_of_words words →
    image ≡ record { layout = layout; shared_words = 1024 } →
    m ≡ opening size image.layout → m ≡ flat_of_words words
words_open words layout image m is read opens = opens ∙ ap (λ (i : ImageContents). opening size i.layout) read ∙ ap (opening size) is ∙ open_on words

-- The machine's size is within its limits, and has as many shared words as the image.
pub made_for : (layout : Layout) (image : ImageContents) → image ≡ record { layout = layout; shared_words = 1024 } →
    IsWithinLimits size × (image.shared_words ≡ size.shared_words)
made_for layout image read = (
  record {
    stages = omega arith;
    some_capacity = omega arith;
    capacity = omega arith;
    records = omega arith;
    some_combinations = omega arith;
    combinations = omega arith;
    answers = omega arith;
    some_words = omega arith;
    words = omega arith;
  },
  ap (λ (i : ImageContents). i.shared_words) read,
)

-- ---- the file that is read back

-- A reader whose bytes are known gave all of them.
whole : (file bytes : List ℕ) (new : Option (List ℕ)) → ConsumesAll (Some file) new bytes → bytes ≡ file
whole file bytes None all = absurd all.0
whole file bytes (Some rest) all = sym (all.0 ∙ ap (λ r. bytes ++ r) all.1 ∙ append-nil bytes)

-- The image that is read back from the spelling of a layout has that layout.
pub read_back : (layout : Layout) (new : Option (List ℕ)) (image : ImageContents) →
    ((one other : Layout) → IsMeant 1024 (spelling layout) one → IsMeant 1024 (spelling layout) other → one ≡ other) →
    IsMeant 1024 (spelling layout) layout → IsGiven 1024 (Some (spelling layout)) new image → image ≡ record { layout = layout; shared_words = 1024 }
read_back layout new image one_layout spelled given =
    let is = whole (spelling layout) given.0 new given.1 in
    let meant = subst (λ file. IsMeant 1024 file image.layout) is given.3 in
    let same = one_layout image.layout layout meant spelled in
    λ i. record { layout = same i; shared_words = given.4 i }

-- A file that is not refused is not refused for any cause.
unlike : (file : List ℕ) (new : Option (List ℕ)) (error : ImageError) → refusal_of 1024 file ≡ None →
    (bytes : List ℕ) × ConsumesAll (Some file) new bytes × (refusal_of 1024 bytes ≡ Some error) → ⊥
unlike file new error none refused =
    let is = whole file refused.0 new refused.1 in
    let there : refusal_of 1024 file ≡ Some error = ap (refusal_of 1024) (sym is) ∙ refused.2 in
    let clash : None ≡ Some error = sym none ∙ there in
    cc

-- A file that is accepted can only be refused because there is no memory.
pub none_refused : (file : List ℕ) (new : Option (List ℕ)) (error : ImageError) → length file ≤ 1048576 → refusal_of 1024 file ≡ None →
    IsRefused 1024 (Some file) new error →
    IsLinkOrMemory error
none_refused file new because.Link short none refused = tt
none_refused file new because.Memory short none refused = tt
none_refused file new because.TooLong short none refused = too_many new refused
  where
    too_many : (new : Option (List ℕ)) → ConsumesPast 1048576 (Some file) new → ⊥
    too_many None past = past.3
    too_many (Some rest) past = absurd (omega (arith, past.1, short, ap length past.3, length-append past.0 rest))
none_refused file new because.Truncated short none refused = unlike file new because.Truncated none refused
none_refused file new because.NotExecutable short none refused = unlike file new because.NotExecutable none refused
none_refused file new because.UnsupportedHeader short none refused = unlike file new because.UnsupportedHeader none refused
none_refused file new because.OutsideInput short none refused = unlike file new because.OutsideInput none refused
none_refused file new because.OutsideRegions short none refused = unlike file new because.OutsideRegions none refused
none_refused file new because.Overlap short none refused = unlike file new because.Overlap none refused
none_refused file new because.Entry short none refused = unlike file new because.Entry none refused
