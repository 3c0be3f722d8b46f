-- The writes of a line of bytes.
use Rattle.std.proofs.Common.{◌≡◌, ℕ, zero, suc, ◌+◌, ◌-◌, ◌*◌, ◌/◌, ◌<◌, ◌≤◌, ◌^◌, ◌==◌, ◌&&◌, ◌||◌, not, ◌⊎◌}
use Rattle.std.proofs.Common.{inl, inr, Bool, true, false, List, [], ◌∷◌, ◌++◌, length, take, nat_le, nat_lt}
use Rattle.std.proofs.Common.{slice_index, slice_index_or, refl, sym, ap, ◌∙◌, arith, subst, add-zero}
use Rattle.std.specs.Prelude.{if◌then◌else◌, slice_set}
use Rattle.std.proofs.lemmas.Bool.{cases_eq, leb-true}
use Rattle.std.proofs.lemmas.Bool.Decides.{nat_tests}
use Rattle.std.proofs.lemmas.List.{take_all, take_more, take_more_set, length-set, length-take-le}
use Rattle.flat_machine.specs.declared.config.Config.{Config}
use Rattle.flat_machine.specs.declared.poke.Poke.{Poke}
use Rattle.flat_machine.specs.declared.poke.Poke.TheVariants as poke
use Rattle.flat_machine.specs.State.{FlatState}
use Rattle.machine_steps.specs.machine_theory.Processors.{is_lawful_poke}
use Rattle.machine_log.specs.Logs.{AreLawful}
use Rattle.debug_replies.specs.Errors.{are_reached, is_range, is_reached}
use Rattle.debug_session.specs.Answers.{poke_of, pokes_of}

length_of : (p address : ℕ) (bytes : List ℕ) → length (pokes_of p address bytes) ≡ length bytes
length_of p address [] = refl
length_of p address (b ∷ bytes) = ap suc (length_of p (address + 1) bytes)

one_more : (p address : ℕ) (bytes : List ℕ) (b : ℕ) →
    pokes_of p address (bytes ++ b ∷ []) ≡ pokes_of p address bytes ++ poke_of p (address + length bytes) b ∷ []
one_more p address [] b = rw add-zero refl
one_more p address (x ∷ bytes) b =
    let same : address + 1 + length bytes ≡ address + suc (length bytes) = omega arith in
    ap (λ rest. poke_of p address x ∷ rest) (one_more p (address + 1) bytes b ∙ ap (λ a. pokes_of p (address + 1) bytes ++ poke_of p a b ∷ []) same)

-- The array has the writes of the first i bytes.
pub record AreWritten (p address i : ℕ) (bytes : List ℕ) (pokes : List Poke) : Type 0 where
  pub room : length pokes ≡ 512
  pub so_far : take i pokes ≡ pokes_of p address (take i bytes)
  -- Each of these values is a byte.
  pub small : (k : ℕ) → k < i → slice_index bytes k < 256

-- After one more write, the array has the writes of one more byte.
pub written_more : (p address i : ℕ) (bytes : List ℕ) (pokes : List Poke) (q : Poke) → AreWritten p address i bytes pokes → i < length bytes →
    length bytes ≤ 512 → q ≡ poke_of p (address + i) (slice_index bytes i) → ((k : ℕ) → slice_index bytes k < 256) →
    AreWritten p address (i + 1) bytes (slice_set pokes i q)
written_more p address i bytes pokes q w within few is small = record {
  room = length-set pokes i q ∙ w.room;
  so_far =
      take_more_set pokes i q (let room = w.room in omega (arith, room, within, few))
      ∙ ap (λ xs. xs ++ q ∷ []) w.so_far
      ∙ ap (λ x. pokes_of p address (take i bytes) ++ x ∷ []) is
      ∙ ap (λ n. pokes_of p address (take i bytes) ++ poke_of p (address + n) (slice_index bytes i) ∷ []) (sym (length-take-le i bytes (omega (arith, within))))
      ∙ sym (one_more p address (take i bytes) (slice_index bytes i))
      ∙ ap (pokes_of p address) (sym (take_more bytes i 0 within));
  small = λ k _. small k;
}

-- ---- the writes are lawful

both : (a b : Bool) → (a && b) ≡ true → (a ≡ true) × (b ≡ true)
both true true e = (refl, refl)
both true false e = cc
both false b e = cc

reached_at : (m : FlatState) (writes : Bool) (address n k : ℕ) → are_reached m writes address n ≡ true → k < n → is_reached m writes (address + k) ≡ true
reached_at m writes address zero k e below = absurd (omega arith)
reached_at m writes address (suc n) k e below =
    let parts = both (are_reached m writes address n) (is_reached m writes (address + n)) e in
    by parts.1 (cases_eq k n) (λ before. reached_at m writes address n k parts.0 before)
  where
    by : is_reached m writes (address + n) ≡ true → (k ≡ n) ⊎ (k ≡ n → ⊥) → (k < n → is_reached m writes (address + k) ≡ true) →
        is_reached m writes (address + k) ≡ true
    by last (inl same) rest = rw same last
    by last (inr other) rest = rest (omega arith)

lawful_by : (c : Config) (words p address byte : ℕ) → words ≡ c.shared_words → p < 2 ^ c.k → byte < 256 → (b : Bool) → nat_le (2 ^ 31) address ≡ b →
    ((nat_le (2 ^ 31) address && nat_lt address (2 ^ 31 + 4 * words)) || address / 2 ^ 16 == 2 || (address / 2 ^ 16 == 1 && not true)) ≡ true →
    is_lawful_poke c (if b then poke.Shared address byte else poke.Local p address byte) ≡ true
lawful_by c words p address byte count there small true e reached = grind (arith, nat_tests)
lawful_by c words p address byte count there small false e reached = grind (arith, nat_tests)

lawful : (c : Config) (m : FlatState) (p address byte : ℕ) → length m.shared ≡ c.shared_words → p < 2 ^ c.k → byte < 256 →
    is_reached m true address ≡ true → is_lawful_poke c (poke_of p address byte) ≡ true
unfolding is_reached
lawful c m p address byte count there small reached =
    lawful_by c (length m.shared) p address byte count there small (nat_le (2 ^ 31) address) refl reached

poke_at : (p address : ℕ) (bytes : List ℕ) (k : ℕ) (d : Poke) → k < length bytes →
    slice_index_or (pokes_of p address bytes) k d ≡ poke_of p (address + k) (slice_index bytes k)
poke_at p address [] k d below = absurd (omega arith)
poke_at p address (b ∷ bytes) zero d below = rw add-zero refl
poke_at p address (b ∷ bytes) (suc k) d below =
    let same : address + 1 + k ≡ address + suc k = omega arith in
    poke_at p (address + 1) bytes k d (omega arith) ∙ ap (λ a. poke_of p a (slice_index bytes k)) same

reached_of : (m : FlatState) (writes : Bool) (address n : ℕ) → is_range m writes address n ≡ true → are_reached m writes address n ≡ true
unfolding is_range
reached_of m writes address n e = (both (nat_le (address + n) (2 ^ 32)) (are_reached m writes address n) e).1

-- A range of addresses ends at or before 2^32.
pub range_end : (m : FlatState) (writes : Bool) (address n : ℕ) → is_range m writes address n ≡ true → address + n ≤ 2 ^ 32
unfolding is_range
range_end m writes address n e = leb-true (address + n) (2 ^ 32) (both (nat_le (address + n) (2 ^ 32)) (are_reached m writes address n) e).0

all_lawful : (c : Config) (m : FlatState) (p address : ℕ) (bytes : List ℕ) → length m.shared ≡ c.shared_words → p < 2 ^ c.k →
    ((k : ℕ) → k < length bytes → slice_index bytes k < 256) → is_range m true address (length bytes) ≡ true → AreLawful c (pokes_of p address bytes)
all_lawful c m p address bytes count there small range = λ k d below.
    let within : k < length bytes = let same = length_of p address bytes in omega (arith, same, below) in
    subst (λ (q : Poke). is_lawful_poke c q ≡ true) (sym (poke_at p address bytes k d within))
    (lawful c m p (address + k) (slice_index bytes k) count there (small k within)
    (reached_at m true address (length bytes) k (reached_of m true address (length bytes) range) within))

-- After the last byte, the array has the writes of all bytes.
all_written : (p address i : ℕ) (bytes : List ℕ) (pokes : List Poke) → AreWritten p address i bytes pokes → i ≡ length bytes →
    take (length bytes) pokes ≡ pokes_of p address bytes
all_written p address i bytes pokes w all =
    subst (λ n. take n pokes ≡ pokes_of p address (take n bytes)) all w.so_far ∙ ap (pokes_of p address) (take_all (length bytes) bytes (omega arith))

-- If the array has the writes of all bytes, and their addresses are a range, each of the writes is lawful.
pub array_is_lawful : (c : Config) (m : FlatState) (p address i : ℕ) (values bytes : List ℕ) (pokes : List Poke) → AreWritten p address i values pokes →
    i ≡ length values → values ≡ bytes → length m.shared ≡ c.shared_words → p < 2 ^ c.k → is_range m true address (length bytes) ≡ true →
    AreLawful c (take (length values) pokes)
array_is_lawful c m p address i values bytes pokes w all same count there range =
    subst (AreLawful c) (sym (all_written p address i values pokes w all))
    (all_lawful c m p address values count there (λ k below. w.small k (omega (arith, all, below)))
    (subst (λ xs. is_range m true address (length xs) ≡ true) (sym same) range))
