-- Each code word has a flag of its own, and what is written there is read.
use Rattle.std.proofs.Common.{◌≡◌, ◌≢◌, ℕ, ◌+◌, ◌*◌, ◌/◌, ◌%◌, ◌^◌, ◌==◌, ◌&&◌, ◌∙◌, ap, sym, refl}
use Rattle.std.proofs.Common.{arith, Bool, true, false, List, length, if◌then◌else◌, Option}
use Rattle.std.proofs.lemmas.Bool.{eqb-true}
use Rattle.std.proofs.lemmas.Bool.Decides.{nat_tests}
use Rattle.std.proofs.lemmas.List.{get_or-replicate, get_or-set_same, get_or-set_other}
use Rattle.std.specs.Prelude.{replicate}
use Rattle.debug_replies.specs.Breaking.{is_break, is_code_word, with_flag, with_flag_at, word_place}

-- The place of a code word gives its address.
placed : (a : ℕ) → is_code_word a ≡ true → a ≡ 65536 + 4 * (a % 2 ^ 16 / 4)
placed a there = grind (arith, nat_tests)

not_equal : (a b : ℕ) → (a == b) ≡ false → a ≢ b
not_equal a b other same = grind (arith, nat_tests)

by_word : (a : ℕ) (x : Bool) → is_code_word a ≡ x → is_break (replicate 16384 false) a ≡ false
unfolding is_break word_place
by_word a false e = rw e refl
by_word a true e = rw e (get_or-replicate 16384 (a % 2 ^ 16 / 4) false false (omega arith))

-- If no flag is set, there is no break.
pub none_set : (a : ℕ) → is_break (replicate 16384 false) a ≡ false
none_set a = by_word a (is_code_word a) refl

-- The flag that is written for a code word is read there.
pub same_word : (flags : List Bool) (a : ℕ) (flag : Bool) → length flags ≡ 16384 → is_code_word a ≡ true → is_break (with_flag flags a flag) a ≡ flag
unfolding is_break with_flag word_place
same_word flags a flag all there = rw there (get_or-set_same flags (a % 2 ^ 16 / 4) flag false (omega arith))

-- There is no break except at code words.
pub no_word : (flags : List Bool) (a : ℕ) → is_code_word a ≡ false → is_break flags a ≡ false
unfolding is_break word_place
no_word flags a none = rw none refl

by_words : (flags : List Bool) (a b : ℕ) (flag : Bool) (x y : Bool) → a ≢ b → is_code_word a ≡ x → is_code_word b ≡ y
    → is_break (with_flag flags b flag) a ≡ is_break flags a
unfolding is_break with_flag word_place
by_words flags a b flag false y other e f = rw e refl
by_words flags a b flag true false other e f = rw f refl
by_words flags a b flag true true other e f =
    let p = placed a e in
    let q = placed b f in
    rw (e, f) (get_or-set_other flags (b % 2 ^ 16 / 4) (a % 2 ^ 16 / 4) flag false (λ same. other (p ∙ ap (λ k. 65536 + 4 * k) same ∙ sym q)))

-- A flag that is written changes no break at another address.
pub other_word : (flags : List Bool) (a b : ℕ) (flag : Bool) → a ≢ b → is_break (with_flag flags b flag) a ≡ is_break flags a
other_word flags a b flag other = by_words flags a b flag (is_code_word a) (is_code_word b) other refl refl

written_by : (flags : List Bool) (a b : ℕ) (flag x y : Bool) → length flags ≡ 16384 → (a == b) ≡ x → is_code_word a ≡ y
    → is_break (with_flag flags b flag) a ≡ (if x && y then flag else is_break flags a)
written_by flags a b flag true true all same there = rw (sym (eqb-true a b same)) (same_word flags a flag all there)
written_by flags a b flag true false all same none = no_word _ a none ∙ sym (no_word flags a none)
written_by flags a b flag false y all other there = other_word flags a b flag (not_equal a b other)

pub written : (flags : List Bool) (a b : ℕ) (flag : Bool) → length flags ≡ 16384
    → is_break (with_flag flags b flag) a ≡ (if a == b && is_code_word a then flag else is_break flags a)
written flags a b flag all = written_by flags a b flag (a == b) (is_code_word a) all refl refl

cleared_by : (flags : List Bool) (a : ℕ) (x y : Bool) → is_code_word a ≡ y
    → (if x && y then false else is_break flags a) ≡ (if x then false else is_break flags a)
cleared_by flags a true true there = refl
cleared_by flags a true false none = no_word flags a none
cleared_by flags a false y there = refl

-- After a break is cleared, its address has none, be there a code word or not.
pub cleared : (flags : List Bool) (a b : ℕ) → (if a == b && is_code_word a then false else is_break flags a) ≡ (if a == b then false else is_break flags a)
cleared flags a b = cleared_by flags a (a == b) (is_code_word a) refl

-- A flag that is written at the place of an address, if it has one, changes the break at that address alone.
pub written_at : (flags now : List Bool) (a b : ℕ) (flag : Bool) (place : Option ℕ) → flags ≡ now → word_place b ≡ place → length flags ≡ 16384
    → is_break (with_flag_at flags place flag) a ≡ (if a == b && is_code_word a then flag else is_break now a)
unfolding with_flag
written_at flags now a b flag place same e all =
    rw (sym same, sym e) (written flags a b flag all)
