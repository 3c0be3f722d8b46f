-- A mask of the table selects whole fields of a word.
use Rattle.std.proofs.Common.{◌≡◌, ℕ, ◌+◌, ◌*◌, ◌/◌, ◌%◌, ◌^◌, ◌<◌, sym, ap, ◌∙◌, arith}
use Rattle.std.specs.Prelude.{bit_and}
use Rattle.std.proofs.lemmas.Nat.{and_block, and_mask, mod_below, div-add-mod', pow_pos}
use Rattle.rv_table.specs.Rows.{bits}

-- A mask in two parts selects from each part of a number.
and_split : (n k m s : ℕ) → s < 2 ^ k → bit_and n (m * 2 ^ k + s) ≡ bit_and (n / 2 ^ k) m * 2 ^ k + bit_and (n % 2 ^ k) s
and_split n k m s h =
    ap (λ x. bit_and x (m * 2 ^ k + s)) (sym (div-add-mod' n (2 ^ k)))
    ∙ and_block k (n / 2 ^ k) m (n % 2 ^ k) s (mod_below n (2 ^ k) (pow_pos k)) h

-- The mask 0x7F keeps the opcode of a word, bits 6 to 0.
pub mask_opcode : (w : ℕ) → bit_and w 0x7F ≡ bits w 6 0
mask_opcode w = let e : bit_and w 0x7F ≡ w % 2 ^ 7 = and_mask w 7 in omega arith

-- The mask 0x707F keeps the opcode and funct3 of a word.
pub mask_funct3 : (w : ℕ) → bit_and w 0x707F ≡ bits w 6 0 + bits w 14 12 * 2 ^ 12
mask_funct3 w =
    let parts : bit_and w 0x707F ≡ bit_and (w / 2 ^ 12) 0x7 * 2 ^ 12 + bit_and (w % 2 ^ 12) 0x7F = and_split w 12 0x7 0x7F (omega arith) in
    let funct3 : bit_and (w / 2 ^ 12) 0x7 ≡ w / 2 ^ 12 % 2 ^ 3 = and_mask (w / 2 ^ 12) 3 in
    let opcode = mask_opcode (w % 2 ^ 12) in
    omega arith

-- The mask 0xFE00707F keeps the opcode, funct3 and funct7 of a word.
pub mask_funct7 : (w : ℕ) → bit_and w 0xFE00707F ≡ bits w 6 0 + bits w 14 12 * 2 ^ 12 + bits w 31 25 * 2 ^ 25
mask_funct7 w =
    let parts : bit_and w 0xFE00707F ≡ bit_and (w / 2 ^ 25) 0x7F * 2 ^ 25 + bit_and (w % 2 ^ 25) 0x707F = and_split w 25 0x7F 0x707F (omega arith) in
    let funct7 : bit_and (w / 2 ^ 25) 0x7F ≡ w / 2 ^ 25 % 2 ^ 7 = and_mask (w / 2 ^ 25) 7 in
    let rest = mask_funct3 (w % 2 ^ 25) in
    omega arith

-- The mask 0xF800707F keeps the opcode, funct3 and funct5 of a word.
pub mask_funct5 : (w : ℕ) → bit_and w 0xF800707F ≡ bits w 6 0 + bits w 14 12 * 2 ^ 12 + bits w 31 27 * 2 ^ 27
mask_funct5 w =
    let parts : bit_and w 0xF800707F ≡ bit_and (w / 2 ^ 27) 0x1F * 2 ^ 27 + bit_and (w % 2 ^ 27) 0x707F = and_split w 27 0x1F 0x707F (omega arith) in
    let funct5 : bit_and (w / 2 ^ 27) 0x1F ≡ w / 2 ^ 27 % 2 ^ 5 = and_mask (w / 2 ^ 27) 5 in
    let rest = mask_funct3 (w % 2 ^ 27) in
    omega arith

-- The mask of 32 ones keeps the low 32 bits of a number.
pub mask_all : (w : ℕ) → bit_and w 0xFFFFFFFF ≡ w % 2 ^ 32
mask_all w = and_mask w 32
