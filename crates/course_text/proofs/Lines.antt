-- Plain lines, a course line further.
use Rattle.std.proofs.Common.{◌≡◌, ℕ, ◌+◌, ◌<◌, ◌≤◌, List, [], ◌∷◌, ◌++◌, length, get_or, drop, Bor, sym, ap, ◌∙◌, append_assoc, append-nil}
use Rattle.std.specs.Prelude.{replicate}
use Rattle.std.specs.List.{flat_map}
use Rattle.std.proofs.Math.ListN.{drop_of_length-le}
use Rattle.asm_lines.specs.Text.{parts_at}
use Rattle.course_text.specs.declared.place.Place.{Place}
use Rattle.course_text.specs.Constants.{Constants}
use Rattle.course_text.specs.Course.{plain_line, plain_from, after_feed, origins_from}
use Rattle.course_text.specs.Places.{start, after_text}
use Rattle.course_text.specs.Views.{nows}
use Rattle.course_text.proofs.Loops.{next_now}

-- The plain lines so far and those of the course lines that are left are all of them.
pub record RewrittenSoFar (cs : Constants) (lines : List (Bor (List ℕ))) (i : ℕ) (at : Place) (text origins : List ℕ) : Type 0 where
  pub bytes : text ++ flat_map after_feed (plain_from cs at (nows (drop i lines))) ≡ flat_map after_feed (plain_from cs start (nows lines))
  pub numbers : origins ++ origins_from (i + 1) (plain_from cs at (nows (drop i lines))) ≡ origins_from 1 (plain_from cs start (nows lines))

-- The same with the plain lines of one more course line.
pub rewritten_more : (cs : Constants) (lines : List (Bor (List ℕ))) (i : ℕ) (d : Bor (List ℕ)) (at next : Place)
    (t text text' origins origins' : List ℕ) (count : ℕ)
    → i < length lines → t ≡ plain_line cs at (get_or lines i d).now → next ≡ after_text at t → count ≡ length (parts_at 10 t)
    → text' ≡ text ++ after_feed t → origins' ≡ origins ++ replicate count (i + 1)
    → RewrittenSoFar cs lines i at text origins → RewrittenSoFar cs lines (i + 1) next text' origins'
rewritten_more cs lines i d at next t text text' origins origins' count lt is next_is count_is text_is origins_is before =
    let rest = plain_from cs next (nows (drop (i + 1) lines)) in
    let here : plain_from cs at (nows (drop i lines)) ≡ t ∷ rest =
    ap (plain_from cs at) (next_now lines i d lt)
    ∙ sym (ap (λ (u : List ℕ). u ∷ plain_from cs (after_text at u) (nows (drop (i + 1) lines))) is)
    ∙ ap (λ p. t ∷ plain_from cs p (nows (drop (i + 1) lines))) (sym next_is)
    in
    record {
      bytes =
          ap (λ (bs : List ℕ). bs ++ flat_map after_feed rest) text_is ∙ append_assoc text (after_feed t) (flat_map after_feed rest)
          ∙ sym (ap (λ ps. text ++ flat_map after_feed ps) here) ∙ before.bytes;
      numbers =
          ap (λ (ns : List ℕ). ns ++ origins_from (i + 1 + 1) rest) (origins_is ∙ ap (λ n. origins ++ replicate n (i + 1)) count_is)
          ∙ append_assoc origins (replicate (length (parts_at 10 t)) (i + 1)) (origins_from (i + 1 + 1) rest)
          ∙ sym (ap (λ ps. origins ++ origins_from (i + 1) ps) here) ∙ before.numbers;
    }

-- After the last course line they are all there.
pub rewritten_all : (cs : Constants) (lines : List (Bor (List ℕ))) (i : ℕ) (at : Place) (text origins : List ℕ) → length lines ≤ i
    → RewrittenSoFar cs lines i at text origins
    → (text ≡ flat_map after_feed (plain_from cs start (nows lines))) × (origins ≡ origins_from 1 (plain_from cs start (nows lines)))
rewritten_all cs lines i at text origins le before =
    let none : nows (drop i lines) ≡ [] = ap nows (drop_of_length-le lines le) in (
      sym (append-nil text) ∙ sym (ap (λ ls. text ++ flat_map after_feed (plain_from cs at ls)) none) ∙ before.bytes,
      sym (append-nil origins) ∙ sym (ap (λ ls. origins ++ origins_from (i + 1) (plain_from cs at ls)) none) ∙ before.numbers,
    )
