-- A text that is written in parts.
use Rattle.std.proofs.Common.{List, ◌++◌, append_assoc, length-append, ap, sym, ◌∙◌, arith}
use Rattle.std.proofs.KnownBytes.{Appends-trans}
use Rattle.link.specs.Transfer.{EndsInTheFirst, EndsInTheRest}

-- A beginning of a text's first part is a beginning of the text.
pub part_front : EndsInTheFirst
part_front a b t u (written, missing, whole, some, appends) =
    (written, missing ++ u, ap (λ x. x ++ u) whole ∙ append_assoc written missing u, omega (arith, length-append missing u, some), appends)

-- A text's first part, followed by a beginning of the rest, is a beginning of the text.
pub part_after : EndsInTheRest
part_after a b c t u before (written, missing, whole, some, appends) =
    (t ++ written, missing, ap (λ x. t ++ x) whole ∙ sym (append_assoc t written missing), some, Appends-trans a b c t written before appends)
