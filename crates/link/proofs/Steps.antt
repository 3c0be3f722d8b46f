-- Appending and consuming in several steps.
use Rattle.std.proofs.Common.{◌≡◌, ℕ, ◌+◌, ◌-◌, ◌≤◌, List, ◌++◌, take, drop, length, length-append, sym, ap, ◌∙◌, append_assoc, Option, arith}
use Rattle.std.proofs.lemmas.List.{take-append-drop, take_at, length-take-le}
use Rattle.std.proofs.lemmas.Slice.{between_to_end}
use Rattle.std.proofs.KnownBytes.{Appends-trans}
use Rattle.std.specs.Io.KnownBytes.{Appends}
use borrow.Rule.Slice.PartMut.{put_mid, post_of}

-- After one more write, a longer beginning of the text is appended, and `rest` is shorter by what was written.
pub part-more : (a b c : Option (List ℕ)) (text written rest : List ℕ) (n k : ℕ) → length rest ≤ k → text ≡ written ++ rest → Appends a b written →
    Appends b c (take n rest) → (more : List ℕ) × (text ≡ more ++ take (k - n) (drop n rest)) × Appends a c more
part-more a b c text written rest n k h e p q =
    (written ++ take n rest, rw (between_to_end rest n k h, append_assoc, take-append-drop) e, Appends-trans a b c written (take n rest) p q)

write-whole : (a k m : ℕ) (xs ys : List ℕ) → put_mid a k xs ys ≡ (take a xs ++ take m ys) ++ (drop m ys ++ post_of a k xs)
write-whole a k m xs ys =
    ap (λ z. take a xs ++ (z ++ post_of a k xs)) (sym (take-append-drop m ys))
    ∙ ap (λ z. take a xs ++ z) (append_assoc (take m ys) (drop m ys) (post_of a k xs))
    ∙ sym (append_assoc (take a xs) (take m ys) (drop m ys ++ post_of a k xs))

write-len : (a m : ℕ) (xs ys : List ℕ) → a ≤ length xs → m ≤ length ys → length (take a xs ++ take m ys) ≡ a + m
write-len a m xs ys h k = omega (arith, length-append (take a xs) (take m ys), length-take-le a xs h, length-take-le m ys k)

-- After a read into the rest of a buffer, its front is the old front followed by the bytes read.
pub take-write : (a k m : ℕ) (xs ys : List ℕ) → a ≤ length xs → m ≤ length ys → take (a + m) (put_mid a k xs ys) ≡ take a xs ++ take m ys
take-write a k m xs ys h i =
    ap (take (a + m)) (write-whole a k m xs ys) ∙ take_at (take a xs ++ take m ys) (drop m ys ++ post_of a k xs) (a + m) (write-len a m xs ys h i)

pub write-fits : (a k m : ℕ) (xs ys : List ℕ) → a ≤ length xs → m ≤ length ys → a + m ≤ length (put_mid a k xs ys)
write-fits a k m xs ys h i =
    omega (arith, ap length (write-whole a k m xs ys), length-append (take a xs ++ take m ys) (drop m ys ++ post_of a k xs), write-len a m xs ys h i)
