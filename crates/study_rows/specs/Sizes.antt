-- The sizes of a study.
use Rattle.std.specs.Prelude.{ℕ, List, [], ◌∷◌, flat_map}
use Rattle.flat_machine.specs.declared.config.Config.{Config}
use Rattle.study_rows.specs.declared.size.Size.{Size}

abbrev pub size_with : (k b r : ℕ) → Size
size_with k b r = record { k = k; b = b; r = r }

-- the sizes with these numbers k and b, by r
abbrev pub sizes_with_b : (k : ℕ) → (rs : List ℕ) → (b : ℕ) → List Size
sizes_with_b k rs b = flat_map (λ r. size_with k b r ∷ []) rs

-- the sizes with this number k, by b and then by r
abbrev pub sizes_with_k : (bs rs : List ℕ) → (k : ℕ) → List Size
sizes_with_k bs rs k = flat_map (sizes_with_b k rs) bs

-- the sizes that three lists make: by k, then by b, then by r, each in the order of its list
abbrev pub sizes_of : (ks bs rs : List ℕ) → List Size
sizes_of ks bs rs = flat_map (sizes_with_k bs rs) ks

-- the machine's size, if it has the size of a study and the other numbers of another machine
abbrev pub with_size : Config → Size → Config
with_size c s = record c { k = s.k; b = s.b; r = s.r }
