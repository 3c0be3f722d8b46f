-- The code's types as mathematical values.
use Rattle.std.specs.Prelude.{ℕ, ℤ, List, map, Vec}
use Rattle.std.specs.Borrow.{Bor}
use Rattle.std.specs.Global.{Global}
use Rattle.std.specs.Option.{option_map}
use Rattle.course_text.specs.declared.parts.Parts.{Parts as PartsValue}
use Rattle.course_text.specs.Parts.{Parts}

abbrev pub parts_view : PartsValue → Parts
parts_view p = record {
  name = option_map (λ (n : Bor (List ℕ)). n.now) p.label;
  word = p.word.now;
  rest = p.rest.now;
}

abbrev pub nows : List (Bor (List ℕ)) → List (List ℕ)
nows words = map (λ (w : Bor (List ℕ)). w.now) words

abbrev pub bytes_of : Vec ℕ Global → List ℕ
bytes_of text = text.items

abbrev pub constant_view : Bor (List ℕ) × ℤ → List ℕ × ℤ
constant_view c = (c.0.now, c.1)
