-- The bytes that a line says are numbers below 256.
use Rattle.std.proofs.Common.{◌≡◌, ℕ, zero, suc, ◌^◌, ◌<◌, Bool, true, false, List, [], ◌∷◌, ◌++◌}
use Rattle.std.proofs.Common.{length, Option, Some, None, Result, Ok, Err, refl, subst, arith}
use Rattle.std.specs.Prelude.{pos, negsuc, ◌==◌, replicate, slice_index, if◌then◌else◌}
use Rattle.std.specs.Int.{bytes_low_first}
use Rattle.asm_lines.specs.declared.fault.LineFault.{LineFault}
use Rattle.asm_lines.specs.declared.mnemonic.Mnemonic.{Mnemonic}
use Rattle.asm_lines.specs.declared.mnemonic.Order.{Order}
use Rattle.asm_lines.specs.declared.directive.Directive.{Directive}
use Rattle.asm_lines.specs.declared.directive.Directive.TheVariants as directives
use Rattle.asm_lines.specs.Steps.{◌>>=◌}
use Rattle.asm_lines.specs.Text.{is_blank, trimmed, cut_at, operands_of}
use Rattle.asm_lines.specs.Number.{number_within, low_bits}
use Rattle.asm_lines.specs.Statements.{Stmt, section, words, bytes, zeros, instruction, Said, nothing_in, each}
use Rattle.asm_lines.specs.Statements.{word_in, byte_in, count_in, directive_in, instruction_in, chosen, statement_in}
use Rattle.asm_lines.specs.Statements.{statement_parts, rest_of_line, label_in, said_in, before_comment, line_of}

-- ---- lists of bytes

abbrev pub AreBytes : List ℕ → Type 0
AreBytes [] = Unit {0}
AreBytes (b ∷ bs) = (b < 256) × AreBytes bs

-- Bytes followed by bytes are bytes.
pub bytes_append : (xs ys : List ℕ) → AreBytes xs → AreBytes ys → AreBytes (xs ++ ys)
bytes_append [] ys h k = k
bytes_append (x ∷ xs) ys h k = (h.0, bytes_append xs ys h.1 k)

-- A read at any place of a list of bytes gives a number below 256.
pub byte_below : (bs : List ℕ) → AreBytes bs → (i : ℕ) → slice_index bs i < 256
byte_below [] h i = omega arith
byte_below (b ∷ bs) h zero = h.0
byte_below (b ∷ bs) h (suc i) = byte_below bs h.1 i

-- Zeros are bytes.
pub zero_bytes : (n : ℕ) → AreBytes (replicate n 0)
zero_bytes zero = tt
zero_bytes (suc n) = (omega arith, zero_bytes n)

-- The bytes of a number are below 256.
pub number_bytes : (i count n : ℕ) → AreBytes (bytes_low_first i count n)
number_bytes i zero n = tt
number_bytes zero (suc count) n = (omega arith, number_bytes 1 count n)
number_bytes (suc i) (suc count) n = (omega arith, number_bytes (suc (suc i)) count n)

-- ---- from operands to a line

read_ok : {A B : Type 0} (r : Result A LineFault) (f : A → Result B LineFault) (y : B) → (r >>= f) ≡ Ok y → (x : A) × (r ≡ Ok x) × (f x ≡ Ok y)
read_ok (Ok x) f y h = (x, refl, h)
read_ok (Err e) f y h = absurd cc

byte_small : (operand : List ℕ) (b : ℕ) → byte_in operand ≡ Ok b → b < 256
unfolding byte_in
byte_small operand b h =
    let found = read_ok (number_within (negsuc 127) (pos 255) operand) (λ z. Ok (low_bits (2 ^ 8) z)) b h in
    let same : low_bits (2 ^ 8) found.0 ≡ b = cc found.2 in
    omega (arith, same)

each_byte : (operands : List (List ℕ)) (bs : List ℕ) → each byte_in operands ≡ Ok bs → AreBytes bs
each_byte [] bs h = let same : [] ≡ bs = cc in subst AreBytes same tt
each_byte (operand ∷ operands) bs h =
    let first = read_ok (byte_in operand) (λ x. each byte_in operands >>= λ xs. Ok (x ∷ xs)) bs h in
    let rest = read_ok (each byte_in operands) (λ xs. Ok (first.0 ∷ xs)) bs first.2 in
    let same : first.0 ∷ rest.0 ≡ bs = cc rest.2 in
    subst AreBytes same (byte_small operand first.0 first.1, each_byte operands rest.0 rest.1)

abbrev pub HasBytes : Stmt → Type 0
HasBytes (section s) = Unit {0}
HasBytes (words vs) = Unit {0}
HasBytes (bytes bs) = AreBytes bs
HasBytes (zeros n) = Unit {0}
HasBytes (instruction i) = Unit {0}

abbrev pub HasBytesIn : Option Stmt → Type 0
HasBytesIn None = Unit {0}
HasBytesIn (Some s) = HasBytes s

directive_bytes : (d : Directive) (operands : List (List ℕ)) (s : Stmt) → directive_in d operands ≡ Ok s → HasBytes s
unfolding directive_in
directive_bytes (directives.Section t) operands s h =
    let found = read_ok (nothing_in operands) (λ _. Ok (section t)) s h in
    let same : section t ≡ s = cc found.2 in
    subst HasBytes same tt
directive_bytes directives.Word operands s h =
    let found = read_ok (each word_in operands) (λ vs. Ok (words vs)) s h in
    let same : words found.0 ≡ s = cc found.2 in
    subst HasBytes same tt
directive_bytes directives.Byte operands s h =
    let found = read_ok (each byte_in operands) (λ bs. Ok (bytes bs)) s h in
    let same : bytes found.0 ≡ s = cc found.2 in
    subst HasBytes same (each_byte operands found.0 found.1)
directive_bytes directives.Zero operands s h =
    let found = read_ok (count_in operands) (λ n. Ok (zeros n)) s h in
    let same : zeros found.0 ≡ s = cc found.2 in
    subst HasBytes same tt

chosen_bytes : (d : Option Directive) (m : Option (Mnemonic × Order)) (operands : List (List ℕ)) (s : Stmt) → chosen d m operands ≡ Ok s → HasBytes s
chosen_bytes (Some d) m operands s h = directive_bytes d operands s h
chosen_bytes None (Some m) operands s h =
    let found = read_ok (instruction_in m.0 m.1 operands) (λ i. Ok (instruction i)) s h in
    let same : instruction found.0 ≡ s = cc found.2 in
    subst HasBytes same tt
chosen_bytes None None operands s h = absurd cc

parts_bytes : (word : List ℕ) (parts : Option (List ℕ × List ℕ)) (s : Stmt) → statement_parts word parts ≡ Ok s → HasBytes s
unfolding statement_in
parts_bytes word None s h = chosen_bytes _ _ (operands_of []) s h
parts_bytes word (Some parts) s h = chosen_bytes _ _ (operands_of parts.1) s h

rest_bytes : (text : List ℕ) (o : Option Stmt) → rest_of_line text ≡ Ok o → HasBytesIn o
unfolding rest_of_line
rest_bytes text o h = by_test (length (trimmed text) == 0) h
  where
    by_test : (t : Bool) → (if t then Ok None else (statement_parts (trimmed text) (cut_at is_blank (trimmed text)) >>= λ s. Ok (Some s))) ≡ Ok o → HasBytesIn o
    by_test true e = let same : None ≡ o = cc in subst HasBytesIn same tt
    by_test false e =
        let found = read_ok (statement_parts (trimmed text) (cut_at is_blank (trimmed text))) (λ s. Ok (Some s)) o e in
        let same : Some found.0 ≡ o = cc found.2 in
        subst HasBytesIn same (parts_bytes (trimmed text) (cut_at is_blank (trimmed text)) found.0 found.1)

said_bytes : (text : List ℕ) (said : Said) → said_in text ≡ Ok said → HasBytesIn said.statement
unfolding said_in
said_bytes text said h =
    let found = read_ok (rest_of_line (label_in text).1) (λ s. Ok (record { name = (label_in text).0; statement = s })) said h in
    let same : ◌≡◌ {A = Said} (record { name = (label_in text).0; statement = found.0 }) said = cc found.2 in
    subst (λ (x : Said). HasBytesIn x.statement) same (rest_bytes (label_in text).1 found.0 found.1)

-- The numbers that a line reads as bytes are below 256.
pub line_bytes : (line : List ℕ) (said : Said) → line_of line ≡ Ok said → HasBytesIn said.statement
unfolding line_of
line_bytes line said h = said_bytes (before_comment line (cut_at (λ b. b == 35) line)) said h
