-- The leaders of the replies that one reply gives, and what one more record adds.
use Rattle.std.proofs.Common.{◌≡◌, ◌⊎◌, ℕ, ◌+◌, ◌%◌, ◌^◌, ◌<◌, Bool, cond, List, [], ◌∷◌, ◌++◌, length}
use Rattle.std.proofs.Common.{take, drop, get_or, map, inl, inr, refl, sym, ap, ◌∙◌, arith}
use Rattle.std.proofs.lemmas.List.{drop_more, take_more}
use Rattle.std.proofs.lemmas.List.Elements.{filter-append}
use Rattle.std.specs.Prelude.{◌==◌}
use Rattle.phi_algebra.specs.Functions.{apply}
use Rattle.messages.specs.declared.message.Reply.{Reply}
use Rattle.messages.specs.declared.message.Record.{Record}
use Rattle.messages.specs.Places.{In}
use Rattle.messages.specs.Queues.{answers, applied, records_of}

-- Each reply of an answer is for the leader of the reply that came back, or for the second of one of the records.
pub from_answers : (x y : Reply) (rs : List Record) → In y (answers rs x) → (y.leader ≡ x.leader) ⊎ ((r : Record) × In r rs × (y.leader ≡ r.second))
from_answers x y rs (inl e) = inl (ap (λ (b : Reply). b.leader) e)
from_answers x y rs (inr m) = inr (go rs m)
  where
    go : (rs : List Record) → In y (map (λ (r : Record). record {
      leader = r.second;
      value = applied r.phi x.value;
    }) rs) → (r : Record) × In r rs × (y.leader ≡ r.second)
    go [] m = elim m [ ]
    go (r ∷ rs) (inl e) = (r, inl refl, ap (λ (b : Reply). b.leader) e)
    go (r ∷ rs) (inr m) = let g = go rs m in (g.0, inr g.1, g.2)

-- The leader's records up to a place gain the record there, if it is one of them.
pub taken_more : (p : ℕ) (records : List Record) (j : ℕ) (e : Record) (b : Bool) → j < length records → e ≡ get_or records j e → (e.leader == p) ≡ b
    → records_of p (take (j + 1) records) ≡ records_of p (take j records) ++ cond b (e ∷ []) []
taken_more p records j e b inside at is =
    ap (records_of p) (take_more records j e inside ∙ ap (λ (r : Record). take j records ++ r ∷ []) (sym at))
    ∙ filter-append (λ (r : Record). r.leader == p) (take j records) (e ∷ []) ∙ ap (λ c. records_of p (take j records) ++ cond c (e ∷ []) []) is

-- The leader's records from a place on are the record there, if it is one of them, and those after it.
pub left_less : (p : ℕ) (records : List Record) (j : ℕ) (e : Record) (b : Bool) → j < length records → e ≡ get_or records j e → (e.leader == p) ≡ b
    → records_of p (drop j records) ≡ cond b (e ∷ records_of p (drop (j + 1) records)) (records_of p (drop (j + 1) records))
left_less p records j e b inside at is =
    ap (records_of p) (drop_more records j e inside ∙ ap (λ (r : Record). r ∷ drop (j + 1) records) (sym at))
    ∙ ap (λ c. cond c (e ∷ records_of p (drop (j + 1) records)) (records_of p (drop (j + 1) records))) is

-- At a word, `applied` is the function's value.
pub in_range : (e : Record) (y : ℕ) → y < 2 ^ 32 → apply e.phi y ≡ applied e.phi y
unfolding applied
in_range e y small = let same : y % 2 ^ 32 ≡ y = omega arith in ap (apply e.phi) (sym same)
