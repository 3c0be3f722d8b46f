-- Numbers that are read in a part of a file.
use Rattle.std.proofs.Common.{◌≡◌, ℕ, zero, suc, ◌+◌, ◌*◌, List, drop, refl, ap, ◌∙◌, arith}
use Rattle.std.specs.Prelude.{slice_index}
use Rattle.std.proofs.lemmas.List.{get_or-drop}
use Rattle.byteorder.specs.Endian.{little_from}
use Rattle.flat_machine.specs.Memory.{number_at}

pub little_from-drop : (xs : List ℕ) (place i n : ℕ) → little_from i n (drop place xs) ≡ number_at xs (place + i) n
unfolding number_at
little_from-drop xs place i zero = refl
little_from-drop xs place i (suc n) =
    let next : place + suc i ≡ place + i + 1 = omega arith in
    ap (λ a. a + 256 * little_from (suc i) n (drop place xs)) (get_or-drop place xs i 0)
    ∙ ap (λ b. slice_index xs (place + i) + 256 * b) (little_from-drop xs place (suc i) n ∙ ap (λ q. number_at xs q n) next)
