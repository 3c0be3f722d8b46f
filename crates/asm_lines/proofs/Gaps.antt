-- Blanks on either side of a bracket do not change how an operand is read.
use Rattle.std.proofs.Common.{◌≡◌, ℕ, zero, suc, ◌+◌, ◌<◌, ◌≤◌, Bool, true, false, eqb, List, [], ◌∷◌, ◌++◌, length}
use Rattle.std.proofs.Common.{Some, None, refl, sym, ap, ap₂, subst, ◌∙◌, append_assoc, arith, inl, inr, ◌⊎◌}
use Rattle.std.specs.Prelude.{◌&&◌, reverse, if◌then◌else◌}
use Rattle.std.specs.Str.{bytes_eq}
use Rattle.std.proofs.lemmas.Bool.{and_right, ne_eqb}
use Rattle.std.proofs.lemmas.List.{reverse-append, reverse-reverse, length-append}
use Rattle.asm_lines.specs.Text.{is_blank, front_trimmed, trimmed}
use Rattle.asm_lines.specs.Statements.{is_name, register_in, bracket_parts}
use Rattle.asm_lines.specs.Alike.{AreBlanks, AreReadAlike}
use Rattle.asm_lines.proofs.PlainWords.{joined_all, cut_last_mid}
use Rattle.asm_lines.proofs.Trims.{lacks, lacks_both, no_such, Ends, blank, solid, ends_of}
use Rattle.asm_lines.proofs.Trims.{trimmed_after_gap, trimmed_before_gap, front_before_solid, Kept, kept_of}
use Rattle.asm_lines.proofs.Cuts.{parts_trimmed, LastCut, without, last, last_cut, cut_last_none, Parts}
use Rattle.asm_lines.proofs.Cuts.{cut_trimmed, bracketed_snoc, SameCut, same_cut, from_cuts}
use Rattle.asm_lines.proofs.WithBracket.{IsBracket, unlike, register_fails, no_name}

-- ---- a text with a bracket, and the same with blanks on either side of it

abbrev EndsSolid : List ℕ → Type 0
EndsSolid Q = (Q ≡ []) ⊎ ((front : List ℕ) × (c : ℕ) × (Q ≡ front ++ c ∷ []) × (is_blank c ≡ false))

back_solid : (xs : List ℕ) (c : ℕ) → is_blank c ≡ false → reverse (front_trimmed (reverse (xs ++ c ∷ []))) ≡ xs ++ c ∷ []
back_solid xs c n =
    let turned : reverse (xs ++ c ∷ []) ≡ c ∷ reverse xs = reverse-append xs (c ∷ []) in
    let kept : front_trimmed (c ∷ reverse xs) ≡ c ∷ reverse xs = rw n refl in
    ap (λ l. reverse (front_trimmed l)) turned ∙ ap reverse (kept ∙ sym turned) ∙ reverse-reverse (xs ++ c ∷ [])

trimmed_marked : (A : List ℕ) (m : ℕ) (Q : List ℕ) → is_blank m ≡ false → EndsSolid Q → trimmed (A ++ m ∷ Q) ≡ front_trimmed A ++ m ∷ Q
unfolding trimmed
trimmed_marked A m Q n (inl e) =
    ap (λ l. reverse (front_trimmed (reverse l))) (front_before_solid A m Q n)
    ∙ ap (λ q. reverse (front_trimmed (reverse (front_trimmed A ++ m ∷ q)))) e ∙ back_solid (front_trimmed A) m n ∙ ap (λ q. front_trimmed A ++ m ∷ q) (sym e)
trimmed_marked A m Q n (inr (front, c, e, s)) =
    let apart : front_trimmed A ++ m ∷ Q ≡ (front_trimmed A ++ m ∷ front) ++ c ∷ []
    = ap (λ q. front_trimmed A ++ m ∷ q) e ∙ sym (append_assoc (front_trimmed A) (m ∷ front) (c ∷ [])) in
    ap (λ l. reverse (front_trimmed (reverse l))) (front_before_solid A m Q n ∙ apart) ∙ back_solid (front_trimmed A ++ m ∷ front) c s ∙ sym apart

-- Both texts after trimming, with the blanks that are left on either side of the byte.
record Normal (m : ℕ) (A gap gap' B : List ℕ) : Type 0 where
  P : List ℕ
  Q : List ℕ
  g : List ℕ
  g' : List ℕ
  one : trimmed (A ++ m ∷ B) ≡ P ++ m ∷ Q
  other : trimmed (A ++ (gap ++ m ∷ (gap' ++ B))) ≡ P ++ (g ++ m ∷ (g' ++ Q))
  blanks : AreBlanks g
  blanks' : AreBlanks g'
  side : ((Q ≡ []) × (g' ≡ [])) ⊎ ((front : List ℕ) × (c : ℕ) × (Q ≡ front ++ c ∷ []))
  shorter : length Q ≤ length B

normal : (m : ℕ) (A gap gap' B : List ℕ) → is_blank m ≡ false → AreBlanks gap → AreBlanks gap' → Normal m A gap gap' B
normal m A gap gap' B n h h' = go (kept_of A gap h) (ends_of B)
  where
    apart : (X : List ℕ) → A ++ (gap ++ m ∷ X) ≡ (A ++ gap) ++ m ∷ X
    apart X = sym (append_assoc A gap (m ∷ X))

    go : Kept A gap → Ends B → Normal m A gap gap' B
    go k (blank e) = record {
      P = front_trimmed A;
      Q = [];
      g = k.gap_left;
      g' = [];
      one = ap trimmed (sym (append_assoc A (m ∷ []) B)) ∙ trimmed_before_gap (A ++ m ∷ []) B e ∙ trimmed_marked A m [] n (inl refl);
      other = ap trimmed (apart (gap' ++ B) ∙ sym (append_assoc (A ++ gap) (m ∷ []) (gap' ++ B)))
          ∙ trimmed_before_gap ((A ++ gap) ++ m ∷ []) (gap' ++ B) (joined_all is_blank gap' B h' e) ∙ trimmed_marked (A ++ gap) m [] n (inl refl)
          ∙ ap (λ l. l ++ m ∷ []) k.is ∙ append_assoc (front_trimmed A) k.gap_left (m ∷ []);
      blanks = k.blanks;
      blanks' = refl;
      side = inl (refl, refl);
      shorter = omega arith;
    }
    go k (solid front c e is s b) =
        let behind : gap' ++ B ≡ (gap' ++ (front ++ c ∷ [])) ++ e = ap (λ l. gap' ++ l) is ∙ sym (append_assoc gap' (front ++ c ∷ []) e) in
        let ends : gap' ++ (front ++ c ∷ []) ≡ (gap' ++ front) ++ c ∷ [] = sym (append_assoc gap' front (c ∷ [])) in
        let count : length B ≡ length (front ++ c ∷ []) + length e = ap length is ∙ length-append (front ++ c ∷ []) e in
        record {
          P = front_trimmed A;
          Q = front ++ c ∷ [];
          g = k.gap_left;
          g' = gap';
          one = ap (λ l. trimmed (A ++ m ∷ l)) is ∙ ap trimmed (sym (append_assoc A (m ∷ (front ++ c ∷ [])) e))
              ∙ trimmed_before_gap (A ++ m ∷ (front ++ c ∷ [])) e b
              ∙ trimmed_marked A m (front ++ c ∷ []) n (inr (front, c, refl, s));
          other = ap trimmed (apart (gap' ++ B)) ∙ ap (λ l. trimmed ((A ++ gap) ++ m ∷ l)) behind
              ∙ ap trimmed (sym (append_assoc (A ++ gap) (m ∷ (gap' ++ (front ++ c ∷ []))) e))
              ∙ trimmed_before_gap ((A ++ gap) ++ m ∷ (gap' ++ (front ++ c ∷ []))) e b
              ∙ trimmed_marked (A ++ gap) m (gap' ++ (front ++ c ∷ [])) n (inr (gap' ++ front, c, ends, s))
              ∙ ap (λ l. l ++ m ∷ (gap' ++ (front ++ c ∷ []))) k.is ∙ append_assoc (front_trimmed A) k.gap_left (m ∷ (gap' ++ (front ++ c ∷ [])));
          blanks = k.blanks;
          blanks' = h';
          side = inr (front, c, refl);
          shorter = omega (arith, count);
        }

-- ---- in an operand

module _ (m : ℕ) (is : IsBracket m) where
  -- Texts with fewer than n bytes after the bracket are read alike.
  abbrev AlikeWithin : ℕ → Type 0
  AlikeWithin n = (A gap gap' B : List ℕ) → AreBlanks gap → AreBlanks gap' → length B < n
      → AreReadAlike (trimmed (A ++ (gap ++ m ∷ (gap' ++ B)))) (trimmed (A ++ m ∷ B))

  some_marked : (P Q : List ℕ) → eqb (length (P ++ m ∷ Q)) 0 ≡ false
  some_marked P Q = ne_eqb _ _ (λ e. absurd (omega (arith, e, length-append P (m ∷ Q))))

  module _ (n : ℕ) (within : AlikeWithin n) (P g g' : List ℕ) (blanks : AreBlanks g) (blanks' : AreBlanks g') where
    -- If the last opening bracket is after the gap, the part before it has the gap too.
    cut_after : (front inside : List ℕ) → lacks 40 inside ≡ true → length front < n
        → SameCut (cut_trimmed (P ++ (g ++ m ∷ (g' ++ (front ++ 40 ∷ inside))))) (cut_trimmed (P ++ m ∷ (front ++ 40 ∷ inside)))
    cut_after front inside h less =
        let norm = normal m P g g' front is.solid blanks blanks' in
        let left : P ++ (g ++ m ∷ (g' ++ (front ++ 40 ∷ inside))) ≡ (P ++ (g ++ m ∷ (g' ++ front))) ++ 40 ∷ inside
        = ap (λ l. P ++ (g ++ m ∷ l)) (sym (append_assoc g' front (40 ∷ inside)))
        ∙ ap (λ l. P ++ l) (sym (append_assoc g (m ∷ (g' ++ front)) (40 ∷ inside))) ∙ sym (append_assoc P (g ++ m ∷ (g' ++ front)) (40 ∷ inside)) in
        let right : P ++ m ∷ (front ++ 40 ∷ inside) ≡ (P ++ m ∷ front) ++ 40 ∷ inside = sym (append_assoc P (m ∷ front) (40 ∷ inside)) in
        let one : cut_trimmed (P ++ (g ++ m ∷ (g' ++ (front ++ 40 ∷ inside)))) ≡ Some (trimmed (P ++ (g ++ m ∷ (g' ++ front))), trimmed inside)
        = ap cut_trimmed left ∙ ap parts_trimmed (cut_last_mid (P ++ (g ++ m ∷ (g' ++ front))) inside h) in
        let other : cut_trimmed (P ++ m ∷ (front ++ 40 ∷ inside)) ≡ Some (trimmed (P ++ m ∷ front), trimmed inside)
        = ap cut_trimmed right ∙ ap parts_trimmed (cut_last_mid (P ++ m ∷ front) inside h) in
        let alike = within P g g' front blanks blanks' less in
        let shape : trimmed (P ++ (g ++ m ∷ (g' ++ front))) ≡ (norm.P ++ norm.g) ++ m ∷ (norm.g' ++ norm.Q)
        = norm.other ∙ sym (append_assoc norm.P norm.g (m ∷ (norm.g' ++ norm.Q))) in
        rw (one, other) (record {
          brackets = (
            alike.lower,
            refl,
            ap (λ l. eqb (length l) 0) shape ∙ some_marked (norm.P ++ norm.g) (norm.g' ++ norm.Q)
                ∙ sym (ap (λ l. eqb (length l) 0) norm.one ∙ some_marked norm.P norm.Q),
          );
          named = λ modifier percent no_open no_close.
              let free : lacks m modifier ≡ true = elim is.which [ inl e ↦ rw e no_open | inr e ↦ rw e no_close ] in
              ap (λ b. if b && is_name (trimmed inside) then Some (trimmed inside) else None)
              (ap (λ l. bytes_eq l modifier) shape ∙ unlike m is (norm.P ++ norm.g) (norm.g' ++ norm.Q) modifier free
              ∙ sym (ap (λ l. bytes_eq l modifier) norm.one ∙ unlike m is norm.P norm.Q modifier free));
        })

    -- If the bracket at the gap is the last opening bracket, the cuts are the same.
    cut_here : (inside : List ℕ) → m ≡ 40 → lacks 40 inside ≡ true → SameCut (cut_trimmed (P ++ (g ++ m ∷ (g' ++ inside)))) (cut_trimmed (P ++ m ∷ inside))
    cut_here inside e h =
        let wide : lacks 40 (g' ++ inside) ≡ true = lacks_both 40 g' inside (no_such is_blank 40 refl g' blanks') h in
        same_cut _ _ (
        ap (λ b. cut_trimmed (P ++ (g ++ b ∷ (g' ++ inside)))) e
        ∙ ap cut_trimmed (sym (append_assoc P g (40 ∷ (g' ++ inside))))
        ∙ ap parts_trimmed (cut_last_mid (P ++ g) (g' ++ inside) wide)
        ∙ ap₂ (λ x y. Some (x, y)) (trimmed_before_gap P g blanks) (trimmed_after_gap g' inside blanks')
        ∙ ap parts_trimmed (sym (cut_last_mid P inside h))
        ∙ ap (λ b. cut_trimmed (P ++ b ∷ inside)) (sym e))

    -- If the bracket is a closing one, and no opening one follows, no register is read from either text.
    cut_before : (Q : List ℕ) → m ≡ 41 → lacks 40 Q ≡ true → SameCut (cut_trimmed (P ++ (g ++ m ∷ (g' ++ Q)))) (cut_trimmed (P ++ m ∷ Q))
    cut_before Q e h = go (last_cut P)
      where
        tight : (xs : List ℕ) → lacks 40 xs ≡ true → lacks 40 (xs ++ m ∷ Q) ≡ true
        tight xs k = lacks_both 40 xs (m ∷ Q) k (rw e h)

        loose : (xs : List ℕ) → lacks 40 xs ≡ true → lacks 40 (xs ++ (g ++ m ∷ (g' ++ Q))) ≡ true
        loose xs k =
            lacks_both 40 xs (g ++ m ∷ (g' ++ Q)) k
            (lacks_both 40 g (m ∷ (g' ++ Q)) (no_such is_blank 40 refl g blanks)
            (rw e (lacks_both 40 g' Q (no_such is_blank 40 refl g' blanks') h)))

        within_brackets : (front inside : List ℕ) → P ≡ front ++ 40 ∷ inside → lacks 40 inside ≡ true
            → SameCut (cut_trimmed (P ++ (g ++ m ∷ (g' ++ Q)))) (cut_trimmed (P ++ m ∷ Q))
        within_brackets front inside f k =
            let norm = normal m inside g g' Q is.solid blanks blanks' in
            let shape : trimmed (inside ++ (g ++ m ∷ (g' ++ Q))) ≡ (norm.P ++ norm.g) ++ m ∷ (norm.g' ++ norm.Q)
            = norm.other ∙ sym (append_assoc norm.P norm.g (m ∷ (norm.g' ++ norm.Q))) in
            let one : cut_trimmed (P ++ (g ++ m ∷ (g' ++ Q))) ≡ Some (trimmed front, trimmed (inside ++ (g ++ m ∷ (g' ++ Q))))
            = ap (λ l. cut_trimmed (l ++ (g ++ m ∷ (g' ++ Q)))) f ∙ ap cut_trimmed (append_assoc front (40 ∷ inside) (g ++ m ∷ (g' ++ Q)))
            ∙ ap parts_trimmed (cut_last_mid front (inside ++ (g ++ m ∷ (g' ++ Q))) (loose inside k)) in
            let other : cut_trimmed (P ++ m ∷ Q) ≡ Some (trimmed front, trimmed (inside ++ m ∷ Q))
            = ap (λ l. cut_trimmed (l ++ m ∷ Q)) f ∙ ap cut_trimmed (append_assoc front (40 ∷ inside) (m ∷ Q))
            ∙ ap parts_trimmed (cut_last_mid front (inside ++ m ∷ Q) (tight inside k)) in
            let nameless : is_name (trimmed (inside ++ (g ++ m ∷ (g' ++ Q)))) ≡ false
            = ap is_name shape ∙ no_name m is (norm.P ++ norm.g) (norm.g' ++ norm.Q) in
            let nameless' : is_name (trimmed (inside ++ m ∷ Q)) ≡ false = ap is_name norm.one ∙ no_name m is norm.P norm.Q in
            rw (one, other) (record {
              brackets = (
                refl,
                ap register_in shape ∙ register_fails m is (norm.P ++ norm.g) (norm.g' ++ norm.Q)
                    ∙ sym (ap register_in norm.one ∙ register_fails m is norm.P norm.Q),
                refl,
              );
              named = λ modifier percent no_open no_close. rw
                  (and_right (bytes_eq (trimmed front) modifier) _ nameless, and_right (bytes_eq (trimmed front) modifier) _ nameless') refl;
            })

        go : LastCut P → SameCut (cut_trimmed (P ++ (g ++ m ∷ (g' ++ Q)))) (cut_trimmed (P ++ m ∷ Q))
        go (without k) = same_cut _ _ (rw (cut_last_none (P ++ (g ++ m ∷ (g' ++ Q))) (loose P k), cut_last_none (P ++ m ∷ Q) (tight P k)) refl)
        go (last front inside f k) = within_brackets front inside f k

    cut_same : (Q : List ℕ) → length Q < n → SameCut (cut_trimmed (P ++ (g ++ m ∷ (g' ++ Q)))) (cut_trimmed (P ++ m ∷ Q))
    cut_same Q less = go (last_cut Q)
      where
        go : LastCut Q → SameCut (cut_trimmed (P ++ (g ++ m ∷ (g' ++ Q)))) (cut_trimmed (P ++ m ∷ Q))
        go (last front inside e h) =
            let count : length Q ≡ length front + suc (length inside) = ap length e ∙ length-append front (40 ∷ inside) in
            subst (λ q. SameCut (cut_trimmed (P ++ (g ++ m ∷ (g' ++ q)))) (cut_trimmed (P ++ m ∷ q))) (sym e)
            (cut_after front inside h (omega (arith, less, count)))
        go (without h) = elim is.which [ inl e ↦ cut_here Q e h | inr e ↦ cut_before Q e h ]

    -- If the bracket at the gap is the last byte, the cuts are the same.
    cut_at_end : SameCut (cut_trimmed (P ++ g)) (cut_trimmed P)
    cut_at_end = go (last_cut P)
      where
        free : lacks 40 g ≡ true
        free = no_such is_blank 40 refl g blanks

        go : LastCut P → SameCut (cut_trimmed (P ++ g)) (cut_trimmed P)
        go (without h) = same_cut _ _ (rw (cut_last_none (P ++ g) (lacks_both 40 P g h free), cut_last_none P h) refl)
        go (last front inside e h) = same_cut _ _ (
            ap (λ l. cut_trimmed (l ++ g)) e ∙ ap cut_trimmed (append_assoc front (40 ∷ inside) g)
            ∙ ap parts_trimmed (cut_last_mid front (inside ++ g) (lacks_both 40 inside g h free))
            ∙ ap (λ y. Some (trimmed front, y)) (trimmed_before_gap inside g blanks)
            ∙ ap parts_trimmed (sym (cut_last_mid front inside h))
            ∙ ap cut_trimmed (sym e))

  closed : (t : Bool) (one other : Parts) → SameCut one other → SameCut (if t then one else None) (if t then other else None)
  closed true one other same = same
  closed false one other same = same_cut None None refl

  gap_within : (n : ℕ) → AlikeWithin n
  gap_within zero A gap gap' B h h' less = absurd (omega (arith, less))
  gap_within (suc n) A gap gap' B h h' less =
      let norm = normal m A gap gap' B is.solid h h' in
      subst (λ l. AreReadAlike l (trimmed (A ++ m ∷ B))) (sym (norm.other ∙ sym (append_assoc norm.P norm.g (m ∷ (norm.g' ++ norm.Q)))))
      (subst (λ l. AreReadAlike ((norm.P ++ norm.g) ++ m ∷ (norm.g' ++ norm.Q)) l) (sym norm.one)
      (from_cuts m is (norm.P ++ norm.g) (norm.g' ++ norm.Q) norm.P norm.Q (elim norm.side [
        | inl e ↦ at_end norm.P norm.g norm.Q norm.g' norm.blanks e.0 e.1
        | inr e ↦ before_end norm.P norm.g norm.Q norm.g' norm.blanks norm.blanks' e.0 e.1 e.2 (gap_within n)
            (omega (arith, less, norm.shorter, ap length e.2 ∙ length-append e.0 (e.1 ∷ [])))
      ])))
    where
      at_end : (P g Q g' : List ℕ) → AreBlanks g → Q ≡ [] → g' ≡ [] → SameCut (bracket_parts ((P ++ g) ++ m ∷ (g' ++ Q))) (bracket_parts (P ++ m ∷ Q))
      at_end P g Q g' b e e' =
          rw (e, e', bracketed_snoc (P ++ g) m, bracketed_snoc P m)
          (closed (eqb m 41) _ _ (cut_at_end zero (λ _ _ _ _ _ _ less. absurd (omega (arith, less))) P g [] b refl))

      before_end : (P g Q g' : List ℕ) → AreBlanks g → AreBlanks g' → (front : List ℕ) (c : ℕ) → Q ≡ front ++ c ∷ [] → AlikeWithin n → length front < n
          → SameCut (bracket_parts ((P ++ g) ++ m ∷ (g' ++ Q))) (bracket_parts (P ++ m ∷ Q))
      before_end P g Q g' b b' front c e within fits =
          let left : (P ++ g) ++ m ∷ (g' ++ Q) ≡ (P ++ (g ++ m ∷ (g' ++ front))) ++ c ∷ []
          = append_assoc P g (m ∷ (g' ++ Q)) ∙ ap (λ q. P ++ (g ++ m ∷ (g' ++ q))) e ∙ ap (λ l. P ++ (g ++ m ∷ l)) (sym (append_assoc g' front (c ∷ [])))
          ∙ ap (λ l. P ++ l) (sym (append_assoc g (m ∷ (g' ++ front)) (c ∷ []))) ∙ sym (append_assoc P (g ++ m ∷ (g' ++ front)) (c ∷ [])) in
          let right : P ++ m ∷ Q ≡ (P ++ m ∷ front) ++ c ∷ [] = ap (λ q. P ++ m ∷ q) e ∙ sym (append_assoc P (m ∷ front) (c ∷ [])) in
          rw (left, right, bracketed_snoc (P ++ (g ++ m ∷ (g' ++ front))) c, bracketed_snoc (P ++ m ∷ front) c)
          (closed (eqb c 41) _ _ (cut_same n within P g g' b b' front fits))

  -- Blanks on either side of a bracket do not change how an operand is read.
  pub gap_alike : (A gap gap' B : List ℕ) → AreBlanks gap → AreBlanks gap' → AreReadAlike (trimmed (A ++ (gap ++ m ∷ (gap' ++ B)))) (trimmed (A ++ m ∷ B))
  gap_alike A gap gap' B h h' = gap_within (suc (length B)) A gap gap' B h h' (omega arith)
