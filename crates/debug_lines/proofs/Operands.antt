-- An operand ends at the first space after it, and is read as it is spelled.
use Rattle.std.proofs.Common.{◌≡◌, ◌≢◌, ℕ, ◌≤◌, List, [], ◌∷◌, ◌++◌, length, refl, ap, ◌∙◌, true, false, subst, inl, inr}
use Rattle.std.proofs.lemmas.Bool.{and_parts, leb-true, le-leb, cases_Bool, eqb-true}
use Rattle.std.proofs.lemmas.Option.{option_and_then_some, none-some, same_Some}
use Rattle.std.specs.Prelude.{Option, Some, None, option_and_then, nat_le, ◌==◌, ◌&&◌, ◌⊎◌, codes}
use Rattle.std.specs.Option.{option_map}
use Rattle.debug_lines.specs.declared.command.Command.{Command}
use Rattle.debug_lines.specs.declared.command.Command.TheVariants.{Register, Set, Memory, Write}
use Rattle.debug_lines.specs.Numbers.{number_of, bytes_of, operand_of, cut_at_space, onto_word}
use Rattle.debug_lines.specs.Commands.{register_of, set_of, memory_of, write_of, shown}
use Rattle.debug_lines.specs.Spelling.{IsNumber, AreBytes, IsSpelling, spaced}
use Rattle.debug_lines.proofs.Digits.{HasNoSpace, digits-no_space, guarded, number-read, number-written, bytes-read, bytes-written}

-- ---- cuts

test_other : (a b : ℕ) → a ≢ b → (a == b) ≡ false
test_other a b ne = elim (cases_Bool (a == b)) [ inl same ↦ absurd (ne (eqb-true a b same)) | inr other ↦ other ]

-- A line is cut at its first space.
pub cut-written : (a rest : List ℕ) → HasNoSpace a → cut_at_space (a ++ 32 ∷ rest) ≡ (a, Some rest)
cut-written [] rest none = refl
cut-written (b ∷ a) rest none = rw (test_other b 32 none.0) (ap (onto_word b) (cut-written a rest none.1))

abbrev pub whole : List ℕ → Option (List ℕ) → List ℕ
whole word None = word
whole word (Some rest) = word ++ 32 ∷ rest

whole-onto : (b : ℕ) (parts : List ℕ × Option (List ℕ)) → b ∷ whole parts.0 parts.1 ≡ whole (onto_word b parts).0 (onto_word b parts).1
whole-onto b (word, None) = refl
whole-onto b (word, Some rest) = refl

cut-read-cons : (b : ℕ) (line : List ℕ) → line ≡ whole (cut_at_space line).0 (cut_at_space line).1 → ((b == 32) ≡ true) ⊎ ((b == 32) ≡ false)
    → b ∷ line ≡ whole (cut_at_space (b ∷ line)).0 (cut_at_space (b ∷ line)).1
cut-read-cons b line more (inl space) = rw space (ap (λ x. x ∷ line) (eqb-true b 32 space))
cut-read-cons b line more (inr other) = rw other (ap (λ l. b ∷ l) more ∙ whole-onto b (cut_at_space line))

-- The parts of a cut line make up the line.
pub cut-read : (line : List ℕ) → line ≡ whole (cut_at_space line).0 (cut_at_space line).1
cut-read [] = refl
cut-read (b ∷ line) = cut-read-cons b line (cut-read line) (cases_Bool (b == 32))

-- ---- a number and what follows it

pub operand-written : (a rest : List ℕ) (n : ℕ) → IsNumber a n → operand_of (a ++ 32 ∷ rest) ≡ Some (n, rest)
unfolding operand_of
operand-written a rest n i =
    rw (cut-written a rest (digits-no_space a n i.value)) (rw (number-written a n i) refl)

pub operand-read : (bytes : List ℕ) (o : ℕ × List ℕ) → operand_of bytes ≡ Some o → (a : List ℕ) × IsNumber a o.0 × (bytes ≡ a ++ 32 ∷ o.1)
unfolding operand_of
operand-read bytes o e =
    option_and_then_some (λ rest. option_and_then (λ n. Some (n, rest)) (number_of (cut_at_space bytes).0)) (cut_at_space bytes).1 o e
    (λ rest behind more. option_and_then_some (λ n. Some (n, rest)) (number_of (cut_at_space bytes).0) o more
    (λ n is made.
    let same : (n, rest) ≡ o = same_Some (n, rest) o made in
    subst (λ x. (a : List ℕ) × IsNumber a x.0 × (bytes ≡ a ++ 32 ∷ x.1)) same
    ((cut_at_space bytes).0, number-read (cut_at_space bytes).0 n is, cut-read bytes ∙ ap (whole (cut_at_space bytes).0) behind)))

-- ---- the operands of the commands with more than one

pub map-read : {A B : Type 0} (f : A → B) (o : Option A) (y : B) → option_map f o ≡ Some y → (x : A) × (o ≡ Some x) × (f x ≡ y)
map-read f None y e = absurd (none-some y e)
map-read f (Some x) y e = (x, refl, same_Some (f x) y e)

pub register-read : (rest : List ℕ) (c : Command) → register_of rest ≡ Some c → IsSpelling (codes "reg " ++ rest) c
unfolding register_of
register-read rest c e =
    option_and_then_some (λ p. option_map (λ r. Register p.0 r) (number_of p.1)) (operand_of rest) c e
    (λ p is more.
    let m = map-read (λ r. Register p.0 r) (number_of p.1) c more in
    let a = operand-read rest p is in
    subst (λ x. IsSpelling (codes "reg " ++ rest) x) m.2
    (a.0, p.1, a.1, number-read p.1 m.0 m.1, ap (λ x. codes "reg " ++ x) a.2))

pub register-written : (a b : List ℕ) (p r : ℕ) → IsNumber a p → IsNumber b r → register_of (a ++ 32 ∷ b) ≡ Some (Register p r)
unfolding register_of
register-written a b p r i j = rw (operand-written a b p i) (rw (number-written b r j) refl)

pub set-read : (rest : List ℕ) (c : Command) → set_of rest ≡ Some c → IsSpelling (codes "set " ++ rest) c
unfolding set_of
set-read rest c e =
    option_and_then_some (λ p. option_and_then (λ r. option_map (λ v. Set p.0 r.0 v) (number_of r.1)) (operand_of p.1)) (operand_of rest) c e
    (λ p is more. option_and_then_some (λ r. option_map (λ v. Set p.0 r.0 v) (number_of r.1)) (operand_of p.1) c more
    (λ r next last.
    let m = map-read (λ v. Set p.0 r.0 v) (number_of r.1) c last in
    let a = operand-read rest p is in
    let b = operand-read p.1 r next in
    subst (λ x. IsSpelling (codes "set " ++ rest) x) m.2
    (a.0, b.0, r.1, a.1, b.1, number-read r.1 m.0 m.1, ap (λ x. codes "set " ++ x) (a.2 ∙ ap (λ x. spaced a.0 x) b.2))))

pub set-written : (a b c : List ℕ) (p r v : ℕ) → IsNumber a p → IsNumber b r → IsNumber c v → set_of (spaced a (spaced b c)) ≡ Some (Set p r v)
unfolding set_of
set-written a b c p r v i j k =
    rw (operand-written a (spaced b c) p i) (rw (operand-written b c r j) (rw (number-written c v k) refl))

pub memory-read : (rest : List ℕ) (c : Command) → memory_of rest ≡ Some c → IsSpelling (codes "mem " ++ rest) c
unfolding memory_of
memory-read rest c e =
    option_and_then_some (λ p. option_and_then (λ a. option_and_then (λ n. shown p.0 a.0 n) (number_of a.1)) (operand_of p.1)) (operand_of rest) c e
    (λ p is more. option_and_then_some (λ r. option_and_then (λ n. shown p.0 r.0 n) (number_of r.1)) (operand_of p.1) c more
    (λ r next last. option_and_then_some (λ n. shown p.0 r.0 n) (number_of r.1) c last
    (λ n count made.
    let kept = guarded (nat_le 1 n && nat_le n 512) (Some (Memory p.0 r.0 n)) c made in
    let bounds = and_parts (nat_le 1 n) (nat_le n 512) kept.0 in
    let a = operand-read rest p is in
    let b = operand-read p.1 r next in
    subst (λ x. IsSpelling (codes "mem " ++ rest) x) (same_Some (Memory p.0 r.0 n) c kept.1) (
      a.0,
      b.0,
      r.1,
      a.1,
      b.1,
      number-read r.1 n count,
      ap (λ x. codes "mem " ++ x) (a.2 ∙ ap (λ x. spaced a.0 x) b.2),
      leb-true 1 n bounds.0,
      leb-true n 512 bounds.1,
    ))))

pub memory-written : (a b c : List ℕ) (p address n : ℕ) → IsNumber a p → IsNumber b address → IsNumber c n → 1 ≤ n → n ≤ 512
    → memory_of (spaced a (spaced b c)) ≡ Some (Memory p address n)
unfolding memory_of
memory-written a b c p address n i j k some few =
    rw (operand-written a (spaced b c) p i) (rw (operand-written b c address j) (rw (number-written c n k) (rw (le-leb 1 n some, le-leb n 512 few) refl)))

pub write-read : (rest : List ℕ) (c : Command) → write_of rest ≡ Some c → IsSpelling (codes "write " ++ rest) c
unfolding write_of
write-read rest c e =
    option_and_then_some (λ p. option_and_then (λ a. option_map (λ bytes. Write p.0 a.0 bytes) (bytes_of a.1)) (operand_of p.1)) (operand_of rest) c e
    (λ p is more. option_and_then_some (λ r. option_map (λ bytes. Write p.0 r.0 bytes) (bytes_of r.1)) (operand_of p.1) c more
    (λ r next last.
    let m = map-read (λ bytes. Write p.0 r.0 bytes) (bytes_of r.1) c last in
    let a = operand-read rest p is in
    let b = operand-read p.1 r next in
    let all = bytes-read r.1 m.0 m.1 in
    subst (λ x. IsSpelling (codes "write " ++ rest) x) m.2
    (a.0, b.0, r.1, a.1, b.1, all.0, ap (λ x. codes "write " ++ x) (a.2 ∙ ap (λ x. spaced a.0 x) b.2), all.1)))

pub write-written : (a b c : List ℕ) (p address : ℕ) (bytes : List ℕ) → IsNumber a p → IsNumber b address → AreBytes c bytes → 1 ≤ length bytes
    → write_of (spaced a (spaced b c)) ≡ Some (Write p address bytes)
unfolding write_of
write-written a b c p address bytes i j k some =
    rw (operand-written a (spaced b c) p i) (rw (operand-written b c address j) (rw (bytes-written c bytes k some) refl))
