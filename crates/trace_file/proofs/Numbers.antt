-- Twelve bytes and the fields in them, in both directions; a header, and its number of bytes.
use Rattle.std.proofs.Common.{◌≡◌, ℕ, Bool, true, false, nat_eq, ◌&&◌, zero, suc, ◌<◌, ◌≤◌, ◌^◌}
use Rattle.std.proofs.Common.{List, [], ◌∷◌, ◌++◌, length, refl, sym, ap, ◌∙◌, arith, eqb-true}
use Rattle.std.specs.Prelude.{slice_index, ◌==◌, if◌then◌else◌}
use Rattle.std.proofs.lemmas.Bool.{and_from, eq-eqb}
use Rattle.std.specs.Int.{w32, to_le_bytes, from_le_bytes}
use Rattle.std.proofs.lemmas.List.{get_or_append_left}
use Rattle.std.proofs.lemmas.Nat.{le_bytes_4, from_le_bytes-to_le_bytes_4}
use Rattle.trace_file.specs.declared.fields.Fields.{Fields}
use Rattle.trace_file.specs.declared.header.Header.{Header}
use Rattle.trace_file.specs.Records.{field_bytes}
use Rattle.trace_file.specs.Traces.{header_bytes, header_length, long_header, short_header}
use Rattle.trace_file.specs.Faults.{header_size}
use Rattle.trace_file.specs.Reading.{word_in, fields_in, header_in}

twelve : (xs : List ℕ) → length xs ≡ 12 → xs ≡ slice_index xs 0 ∷ slice_index xs 1 ∷ slice_index xs 2 ∷ slice_index xs 3 ∷ slice_index xs 4 ∷ slice_index xs 5
    ∷ slice_index xs 6 ∷ slice_index xs 7 ∷ slice_index xs 8 ∷ slice_index xs 9 ∷ slice_index xs 10 ∷ slice_index xs 11 ∷ []
twelve [] long = absurd (omega arith)
twelve (a ∷ []) long = absurd (omega arith)
twelve (a ∷ b ∷ []) long = absurd (omega arith)
twelve (a ∷ b ∷ c ∷ []) long = absurd (omega arith)
twelve (a ∷ b ∷ c ∷ d ∷ []) long = absurd (omega arith)
twelve (a ∷ b ∷ c ∷ d ∷ e ∷ []) long = absurd (omega arith)
twelve (a ∷ b ∷ c ∷ d ∷ e ∷ f ∷ []) long = absurd (omega arith)
twelve (a ∷ b ∷ c ∷ d ∷ e ∷ f ∷ g ∷ []) long = absurd (omega arith)
twelve (a ∷ b ∷ c ∷ d ∷ e ∷ f ∷ g ∷ h ∷ []) long = absurd (omega arith)
twelve (a ∷ b ∷ c ∷ d ∷ e ∷ f ∷ g ∷ h ∷ i ∷ []) long = absurd (omega arith)
twelve (a ∷ b ∷ c ∷ d ∷ e ∷ f ∷ g ∷ h ∷ i ∷ j ∷ []) long = absurd (omega arith)
twelve (a ∷ b ∷ c ∷ d ∷ e ∷ f ∷ g ∷ h ∷ i ∷ j ∷ k ∷ []) long = absurd (omega arith)
twelve (a ∷ b ∷ c ∷ d ∷ e ∷ f ∷ g ∷ h ∷ i ∷ j ∷ k ∷ l ∷ []) long = refl
twelve (a ∷ b ∷ c ∷ d ∷ e ∷ f ∷ g ∷ h ∷ i ∷ j ∷ k ∷ l ∷ m ∷ xs) long = absurd (omega arith)

below : (a b c d : ℕ) → a < 256 → b < 256 → c < 256 → d < 256 → (i : ℕ) → slice_index (a ∷ b ∷ c ∷ d ∷ []) i < 256
below a b c d p q r s zero = p
below a b c d p q r s (suc zero) = q
below a b c d p q r s (suc (suc zero)) = r
below a b c d p q r s (suc (suc (suc zero))) = s
below a b c d p q r s (suc (suc (suc (suc i)))) = omega arith

-- The bytes of the number in four bytes are these four.
word_back : (xs : List ℕ) (i j k l n : ℕ) → ((p : ℕ) → slice_index xs p < 256) → n ≡ word_in xs i j k l →
    to_le_bytes w32 n ≡ slice_index xs i ∷ slice_index xs j ∷ slice_index xs k ∷ slice_index xs l ∷ []
word_back xs i j k l n h e =
    le_bytes_4 (slice_index xs i ∷ slice_index xs j ∷ slice_index xs k ∷ slice_index xs l ∷ []) n refl (below _ _ _ _ (h i) (h j) (h k) (h l)) e

pub field_bytes-fields_in : (xs : List ℕ) → length xs ≡ 12 → ((p : ℕ) → slice_index xs p < 256) → field_bytes (fields_in xs) ≡ xs
unfolding field_bytes fields_in
field_bytes-fields_in xs e h =
    let first = word_back xs 4 5 6 7 _ h refl in
    let second = word_back xs 8 9 10 11 _ h refl in
    ap (λ (ys : List ℕ). slice_index xs 0 ∷ slice_index xs 1 ∷ slice_index xs 2 ∷ slice_index xs 3 ∷ (ys ++ to_le_bytes w32 (word_in xs 8 9 10 11))) first
    ∙ ap (λ (ys : List ℕ). slice_index xs 0 ∷ slice_index xs 1 ∷ slice_index xs 2 ∷ slice_index xs 3 ∷ slice_index xs 4 ∷ slice_index xs 5 ∷ slice_index xs 6
    ∷ slice_index xs 7 ∷ ys) second
    ∙ sym (twelve xs e)

pub fields_in-field_bytes : (f : Fields) → f.address < 2 ^ 32 → f.value < 2 ^ 32 → fields_in (field_bytes f) ≡ f
unfolding field_bytes fields_in
fields_in-field_bytes f p q =
    ap (λ (n : ℕ). let x : Fields = record {
      kind = f.kind;
      a = f.a;
      b = f.b;
      unused = f.unused;
      address = n;
      value = from_le_bytes w32 (to_le_bytes w32 f.value);
    } in x) (from_le_bytes-to_le_bytes_4 f.address p)
    ∙ ap (λ (n : ℕ). let x : Fields = record { kind = f.kind; a = f.a; b = f.b; unused = f.unused; address = f.address; value = n } in
    x) (from_le_bytes-to_le_bytes_4 f.value q)

-- ---- a header

-- If r is 1, a header has the bytes of format 1.
short_is : (h : Header) → (h.r == 1) ≡ true → header_bytes h ≡ short_header h
unfolding header_bytes
short_is h e = ap (λ (b : Bool). if b then short_header h else long_header h) e

long_is : (h : Header) → (h.r == 1) ≡ false → header_bytes h ≡ long_header h
unfolding header_bytes
long_is h e = ap (λ (b : Bool). if b then short_header h else long_header h) e

header : (k c b r count : ℕ) → Header
header k c b r count = record { k = k; c = c; b = b; r = r; count = count }

short_in : (h : Header) → h.count < 2 ^ 32 → h.r ≡ 1 → header_in (short_header h) ≡ h
unfolding header_in header
short_in h p one = ap (header h.k h.c h.b 1) (from_le_bytes-to_le_bytes_4 h.count p) ∙ ap (λ r. header h.k h.c h.b r h.count) (sym one)

long_in : (h : Header) → h.count < 2 ^ 32 → header_in (long_header h) ≡ h
unfolding header_in header
long_in h p = ap (header h.k h.c h.b h.r) (from_le_bytes-to_le_bytes_4 h.count p)

pub header_in-header_bytes : (h : Header) → h.count < 2 ^ 32 → header_in (header_bytes h) ≡ h
header_in-header_bytes h p = go (h.r == 1) refl
  where
    go : (b : Bool) → (h.r == 1) ≡ b → header_in (header_bytes h) ≡ h
    go true e = ap header_in (short_is h e) ∙ short_in h p (eqb-true h.r 1 e)
    go false e = ap header_in (long_is h e) ∙ long_in h p

-- ---- how long a header is

short_length : (h : Header) → (h.r == 1) ≡ true → header_length h ≡ 12
unfolding header_length
short_length h e = ap (λ (b : Bool). if b then 12 else 16) e

long_length : (h : Header) → (h.r == 1) ≡ false → header_length h ≡ 16
unfolding header_length
long_length h e = ap (λ (b : Bool). if b then 12 else 16) e

short_size : (h : Header) (rest : List ℕ) → header_size (short_header h ++ rest) ≡ 12
unfolding header_size
short_size h rest = refl

long_size : (h : Header) (rest : List ℕ) → header_size (long_header h ++ rest) ≡ 16
unfolding header_size
long_size h rest = refl

pub length-header_bytes : (h : Header) → length (header_bytes h) ≡ header_length h
length-header_bytes h = go (h.r == 1) refl
  where
    go : (b : Bool) → (h.r == 1) ≡ b → length (header_bytes h) ≡ header_length h
    go true e = ap length (short_is h e) ∙ sym (short_length h e)
    go false e = ap length (long_is h e) ∙ sym (long_length h e)

-- The number of its format gives a header's number of bytes.
pub size_is : (h : Header) (rest : List ℕ) → header_size (header_bytes h ++ rest) ≡ header_length h
size_is h rest = go (h.r == 1) refl
  where
    go : (b : Bool) → (h.r == 1) ≡ b → header_size (header_bytes h ++ rest) ≡ header_length h
    go true e = ap (λ (x : List ℕ). header_size (x ++ rest)) (short_is h e) ∙ short_size h rest ∙ sym (short_length h e)
    go false e = ap (λ (x : List ℕ). header_size (x ++ rest)) (long_is h e) ∙ long_size h rest ∙ sym (long_length h e)

-- A header has 12 to 16 bytes.
pub length_within : (h : Header) → (12 ≤ header_length h) × (header_length h ≤ 16)
length_within h = go (h.r == 1) refl
  where
    go : (b : Bool) → (h.r == 1) ≡ b → (12 ≤ header_length h) × (header_length h ≤ 16)
    go true e = let is = short_length h e in (omega arith, omega arith)
    go false e = let is = long_length h e in (omega arith, omega arith)

by_format : (byte : ℕ) (b : Bool) → (byte == 2) ≡ b → (12 ≤ (if byte == 2 then 16 else 12)) × ((if byte == 2 then 16 else 12) ≤ 16)
by_format byte true e = rw e (omega arith, omega arith)
by_format byte false e = rw e (omega arith, omega arith)

-- Any number of a format gives a header 12 to 16 bytes.
pub size_within : (bytes : List ℕ) → (12 ≤ header_size bytes) × (header_size bytes ≤ 16)
unfolding header_size
size_within bytes = by_format (slice_index bytes 4) (slice_index bytes 4 == 2) refl

-- If byte 4 is 2, a header has 16 bytes.
pub long_format : (bytes : List ℕ) → slice_index bytes 4 ≡ 2 → header_size bytes ≡ 16
unfolding header_size
long_format bytes two = ap (λ (x : ℕ). if x == 2 then 16 else 12) two

-- Bytes with the same number of the format have headers of the same size.
pub same_size : (xs ys : List ℕ) → slice_index xs 4 ≡ slice_index ys 4 → header_size xs ≡ header_size ys
unfolding header_size
same_size xs ys same = ap (λ (x : ℕ). if x == 2 then 16 else 12) same

-- If bytes have a number of the format, more bytes after them do not change the size of the header.
pub size_stays : (bytes more : List ℕ) → 4 < length bytes → header_size (bytes ++ more) ≡ header_size bytes
size_stays bytes more long = same_size (bytes ++ more) bytes (get_or_append_left bytes more 0 4 long)

-- Equal fields pass the test for equality.
pub same_fields : (f g : Fields) → f ≡ g →
    (nat_eq f.kind g.kind && (nat_eq f.a g.a && (nat_eq f.b g.b && (nat_eq f.unused g.unused && (nat_eq f.address g.address && nat_eq f.value g.value)))))
    ≡ true
same_fields f g e =
    and_from _ _ (eq-eqb _ _ (ap (λ (x : Fields). x.kind) e))
    (and_from _ _ (eq-eqb _ _ (ap (λ (x : Fields). x.a) e))
    (and_from _ _ (eq-eqb _ _ (ap (λ (x : Fields). x.b) e))
    (and_from _ _ (eq-eqb _ _ (ap (λ (x : Fields). x.unused) e))
    (and_from _ _ (eq-eqb _ _ (ap (λ (x : Fields). x.address) e)) (eq-eqb _ _ (ap (λ (x : Fields). x.value) e))))))
