-- How a machine opens, address by address.
use Rattle.std.proofs.Common.{◌≡◌, ℕ, zero, suc, ◌+◌, ◌-◌, ◌*◌, ◌/◌, ◌%◌, ◌^◌, ◌<◌, ◌≤◌, true, List, length}
use Rattle.std.proofs.Common.{replicate, Some, refl, sym, ap, subst, ◌∙◌, inl, inr, arith, length-append}
use Rattle.std.specs.Prelude.{slice_get, slice_index}
use Rattle.std.proofs.lemmas.Bool.{cases_lt}
use Rattle.std.proofs.lemmas.Bool.Decides.{nat_tests}
use Rattle.std.proofs.lemmas.List.{length-replicate, get_or_past, get_or_append_left, get_or-append_right}
use Rattle.std.proofs.lemmas.List.FromFn.{length-map-range_with_len, get_or-map-range_with_len}
use Rattle.flat_machine.specs.declared.config.Config.{Config}
use Rattle.flat_machine.specs.Words.{part_of}
use Rattle.flat_machine.specs.Memory.{number_at, in_code, in_local, in_shared}
use Rattle.flat_machine.specs.State.{Processor, FlatState}
use Rattle.elf_image.specs.declared.layout.Layout.{Layout}
use Rattle.elf_image.specs.declared.region.Region.{Region}
use Rattle.elf_image.specs.declared.region.Region.TheVariants.{Code, Local, Shared}
use Rattle.elf_image.specs.Headers.{file_header}
use Rattle.elf_image.specs.Regions.{region_start, region_length}
use Rattle.elf_image.specs.Images.{HasBytes, IsMeant}
use Rattle.elf_image.specs.Openings.{padded, region_of_bytes, words_of, opening_processor, opening}
use Rattle.local_memory.proofs.Lemmas.{byte_of_padded, zero_of_replicate}
use Rattle.elf_image.specs.Laws.{IsByteAt, IsPlacedAt, IsOpeningProcessor, IsOpening, IsFileOpening, IsLayoutOpening, IsOpenable}

pub length-region_of_bytes : (bytes : List ℕ) → length bytes ≤ 65536 → length (region_of_bytes bytes) ≡ 65536
unfolding padded
length-region_of_bytes bytes h = length-append bytes (replicate (65536 - length bytes) 0) ∙ omega (arith, h, length-replicate {A = ℕ} (65536 - length bytes) 0)

-- A region's bytes, with zero after them, are what the file has there.
byte_at : (file : List ℕ) (w : ℕ) (region : Region) (bytes : List ℕ) (i : ℕ) → HasBytes file w region bytes → i < region_length w region →
    IsByteAt file (region_start region + i) (slice_index bytes i)
byte_at file w region bytes i h inside =
    elim (cases_lt i (length bytes)) [
      | inl less ↦ record { set = λ k p at s. h.set k p i at less s; unset = λ none. h.unset i less none }
      | inr past ↦ record { set = λ k p at s. absurd (h.after i past inside k p at s); unset = λ none. get_or_past bytes i 0 past }
    ]

byte_there : (file : List ℕ) (a b : ℕ) {x y : ℕ} → x ≡ a → b ≡ y → IsByteAt file x y → IsByteAt file a b
byte_there file a b at same h = subst (λ z. IsByteAt file z b) at (subst (IsByteAt file _) (sym same) h)

pub every_one : {X : Type 0} (n k : ℕ) (x y : X) → slice_get (replicate n x) k ≡ Some y → x ≡ y
every_one zero k x y at = absurd (cc)
every_one (suc n) zero x y at = cc
every_one (suc n) (suc k) x y at = every_one n k x y at

-- The bytes of a little-endian number are those from which it was made.
part_0 : (a b c d : ℕ) → a < 256 → part_of 1 0 (a + 256 * (b + 256 * (c + 256 * (d + 0)))) ≡ a
unfolding part_of
part_0 a b c d h = omega arith

part_1 : (a b c d : ℕ) → a < 256 → b < 256 → part_of 1 1 (a + 256 * (b + 256 * (c + 256 * (d + 0)))) ≡ b
unfolding part_of
part_1 a b c d h i = omega arith

part_2 : (a b c d : ℕ) → a < 256 → b < 256 → c < 256 → part_of 1 2 (a + 256 * (b + 256 * (c + 256 * (d + 0)))) ≡ c
unfolding part_of
part_2 a b c d h i j = omega arith

part_3 : (a b c d : ℕ) → a < 256 → b < 256 → c < 256 → d < 256 → part_of 1 3 (a + 256 * (b + 256 * (c + 256 * (d + 0)))) ≡ d
unfolding part_of
part_3 a b c d h i j k = omega arith

pub part_of_number : (bytes : List ℕ) (place offset : ℕ) → ((i : ℕ) → slice_index bytes i < 256) → offset < 4 →
    part_of 1 offset (number_at bytes place 4) ≡ slice_index bytes (place + offset)
unfolding number_at
part_of_number bytes place zero small h = part_0 _ _ _ _ (small place) ∙ ap (slice_index bytes) (omega arith)
part_of_number bytes place (suc zero) small h = part_1 _ _ _ _ (small place) (small (place + 1)) ∙ ap (slice_index bytes) (omega arith)
part_of_number bytes place (suc (suc zero)) small h =
    part_2 _ _ _ _ (small place) (small (place + 1)) (small (place + 1 + 1)) ∙ ap (slice_index bytes) (omega arith)
part_of_number bytes place (suc (suc (suc zero))) small h =
    part_3 _ _ _ _ (small place) (small (place + 1)) (small (place + 1 + 1)) (small (place + 1 + 1 + 1)) ∙ ap (slice_index bytes) (omega arith)
part_of_number bytes place (suc (suc (suc (suc n)))) small h = absurd (omega arith)

pub word_here : (bytes : List ℕ) (count i : ℕ) → i < count → slice_index (words_of bytes count) i ≡ number_at bytes (4 * i) 4
word_here bytes count i h = get_or-map-range_with_len (λ k. number_at bytes (4 * k) 4) 0 count i i 0 h (omega arith)

-- If what may be at an address is restated, an opening may be restated with it.
said_again : (entry other : ℕ) (IsAt IsThere : (address byte : ℕ) → Type 0) (config : Config) (m : FlatState) → entry ≡ other →
    ((a b : ℕ) → in_code a ≡ true → IsAt a b → IsThere a b) → ((a b : ℕ) → in_local a ≡ true → IsAt a b → IsThere a b) →
    ((a b : ℕ) → in_shared config.shared_words a ≡ true → IsAt a b → IsThere a b) → IsOpening entry IsAt config m → IsOpening other IsThere config m
said_again entry other IsAt IsThere config m same code local shared o = record {
  count = o.count;
  processors = λ k p at. let q = o.processors k p at in record {
    pc = q.pc ∙ same;
    registers = q.registers;
    zero = q.zero;
    running = q.running;
    local_size = q.local_size;
    local = λ a e. local a _ e (q.local a e);
  };
  words = o.words;
  shared = λ a e. shared a _ e (o.shared a e);
  code_size = o.code_size;
  code = λ a e. code a _ e (o.code a e);
}

module _ (config : Config) (layout : Layout) (openable : IsOpenable layout) where
  local : (a : ℕ) → in_local a ≡ true → IsPlacedAt layout a (slice_index (region_of_bytes layout.local) (a % 2 ^ 16))
  local a e =
      let q : a / 65536 ≡ 2 = grind (arith, nat_tests, e) in
      let at : a % 65536 ≡ a - 0x20000 = omega (arith, q) in
      record {
        code = λ h. let r : a / 65536 ≡ 1 = grind (arith, nat_tests, h) in absurd (omega (arith, q, r));
        local = λ h. byte_of_padded (2 ^ 16) layout.local (a % 65536) ∙ ap (slice_index layout.local) at;
        shared = λ h. absurd (omega (arith, q, h));
      }

  code : (a : ℕ) → in_code a ≡ true → IsPlacedAt layout a (slice_index (region_of_bytes layout.code) (a % 2 ^ 16))
  code a e =
      let q : a / 65536 ≡ 1 = grind (arith, nat_tests, e) in
      let at : a % 65536 ≡ a - 0x10000 = omega (arith, q) in
      record {
        code = λ h. byte_of_padded (2 ^ 16) layout.code (a % 65536) ∙ ap (slice_index layout.code) at;
        local = λ h. let r : a / 65536 ≡ 2 = grind (arith, nat_tests, h) in absurd (omega (arith, q, r));
        shared = λ h. absurd (omega (arith, q, h));
      }

  shared : (a : ℕ) → in_shared config.shared_words a ≡ true →
      IsPlacedAt layout a (part_of 1 (a % 4) (slice_index (words_of layout.shared config.shared_words) ((a - 2 ^ 31) / 4)))
  shared a e =
      let low : 0x80000000 ≤ a = grind (arith, nat_tests, e) in
      let high : a < 0x80000000 + 4 * config.shared_words = grind (arith, nat_tests, e) in
      let i = (a - 0x80000000) / 4 in
      let word : slice_index (words_of layout.shared config.shared_words) i ≡ number_at layout.shared (4 * i) 4 =
      word_here layout.shared config.shared_words i (omega arith) in
      let part = part_of_number layout.shared (4 * i) (a % 4) openable.bytes (omega arith) in
      let place : 4 * i + a % 4 ≡ a - 0x80000000 = omega arith in
      record {
        code = λ h. let r : a / 65536 ≡ 1 = grind (arith, nat_tests, h) in absurd (omega (arith, low, r));
        local = λ h. let r : a / 65536 ≡ 2 = grind (arith, nat_tests, h) in absurd (omega (arith, low, r));
        shared = λ h. ap (part_of 1 (a % 4)) word ∙ part ∙ ap (slice_index layout.shared) place;
      }

  processor : (p : Processor) → opening_processor layout ≡ p → IsOpeningProcessor layout.entry (IsPlacedAt layout) p
  processor p is =
      subst (IsOpeningProcessor layout.entry (IsPlacedAt layout)) is
      (record {
        pc = refl;
        registers = refl;
        zero = zero_of_replicate 32;
        running = refl;
        local_size = length-region_of_bytes layout.local openable.local;
        local = local;
      })

  -- The opening of a layout has at each address what the layout places there, if a machine can open on the layout.
  pub opens_on_the_layout : IsLayoutOpening layout config (opening config layout)
  opens_on_the_layout = record {
    count = length-replicate (2 ^ config.k) (opening_processor layout);
    processors = λ k p at. processor p (every_one (2 ^ config.k) k (opening_processor layout) p at);
    words = length-map-range_with_len (λ k. number_at layout.shared (4 * k) 4) 0 config.shared_words;
    shared = shared;
    code_size = length-region_of_bytes layout.code openable.code;
    code = code;
  }

module _ (config : Config) (file : List ℕ) (layout : Layout) (m : IsMeant config.shared_words file layout) where
  -- A byte that the layout has at an address is what the file has there.
  code_byte : (a b : ℕ) → in_code a ≡ true → IsPlacedAt layout a b → IsByteAt file a b
  code_byte a b e h =
      let q : a / 65536 ≡ 1 = grind (arith, nat_tests, e) in
      let at : 0x10000 + (a - 0x10000) ≡ a = omega (arith, q) in
      byte_there file a b at (h.code e) (byte_at file config.shared_words Code layout.code (a - 0x10000) m.code (omega (arith, q)))

  local_byte : (a b : ℕ) → in_local a ≡ true → IsPlacedAt layout a b → IsByteAt file a b
  local_byte a b e h =
      let q : a / 65536 ≡ 2 = grind (arith, nat_tests, e) in
      let at : 0x20000 + (a - 0x20000) ≡ a = omega (arith, q) in
      byte_there file a b at (h.local e) (byte_at file config.shared_words Local layout.local (a - 0x20000) m.local (omega (arith, q)))

  shared_byte : (a b : ℕ) → in_shared config.shared_words a ≡ true → IsPlacedAt layout a b → IsByteAt file a b
  shared_byte a b e h =
      let low : 0x80000000 ≤ a = grind (arith, nat_tests, e) in
      let high : a < 0x80000000 + 4 * config.shared_words = grind (arith, nat_tests, e) in
      let at : 0x80000000 + (a - 0x80000000) ≡ a = omega (arith, low) in
      byte_there file a b at (h.shared low) (byte_at file config.shared_words Shared layout.shared (a - 0x80000000) m.shared (omega (arith, low, high)))

  pub opens_on_the_meaning : ((i : ℕ) → slice_index layout.shared i < 256) → IsFileOpening file config (opening config layout)
  opens_on_the_meaning small =
      said_again layout.entry (file_header file).e_entry (IsPlacedAt layout) (IsByteAt file) config
      (opening config layout) m.entry code_byte local_byte shared_byte
      (opens_on_the_layout config layout (record { code = m.code.fits; local = m.local.fits; bytes = small }))

-- The opening of the layout that a file means has at each address what the file sets there, if the shared part consists
-- of bytes.
pub opens_on_the_file : (config : Config) (file : List ℕ) (layout : Layout) → IsMeant config.shared_words file layout →
    ((i : ℕ) → slice_index layout.shared i < 256) → IsFileOpening file config (opening config layout)
opens_on_the_file config file layout m small = opens_on_the_meaning config file layout m small
