-- What was taken from each processor, followed by the rest of its queue, is what it sent, one queue after another.
use Rattle.std.proofs.Common.{◌≡◌, ◌∙◌, ℕ, zero, suc, ◌<◌, List, [], ◌∷◌, ◌++◌, length, map, ap, sym, refl, append_assoc, arith, inl, inr, ◌⊎◌, subst}
use Rattle.std.specs.Prelude.{slice_set, slice_index_or}
use Rattle.std.proofs.lemmas.List.{map-set, append-nil, get_or-map, length-append}
use Rattle.std.proofs.Math.Seq.{map-set_same}
use Rattle.atomic_table.specs.Seated.{TableId}
use Rattle.console_monitor.specs.Ends.{joined, at, taken_of, sender_queue, inlet_queue, sent_by}
use Rattle.console_monitor.specs.declared.queue.Inlet.{Inlet}
use Rattle.console_monitor.specs.declared.monitor.End.{End}

pub joined_snoc : (ts rs : List (List ℕ)) (t r : List ℕ) → length ts ≡ length rs
    → joined (ts ++ t ∷ []) (rs ++ r ∷ []) ≡ joined ts rs ++ (t ++ r) ∷ []
joined_snoc [] [] t r e = refl
joined_snoc [] (x ∷ rs) t r e = absurd (omega (arith, e))
joined_snoc (x ∷ ts) [] t r e = absurd (omega (arith, e))
joined_snoc (x ∷ ts) (y ∷ rs) t r e = ap (λ l. (x ++ y) ∷ l) (joined_snoc ts rs t r (omega (arith, e)))

-- If an element is replaced by one with the same image, the images stay.
pub map_kept : {A B : Type 0} (f : A → B) (xs : List A) (p : ℕ) (y d : A) → f y ≡ f (slice_index_or xs p d)
    → map f (slice_set xs p y) ≡ map f xs
map_kept f xs p y d e = map-set_same f xs p y d e

-- If an element is replaced by one whose image has more at its end, so has its place among the images.
pub map_put : {A : Type 0} (f : A → List ℕ) (xs : List A) (p : ℕ) (y d : A) (new : List ℕ) → p < length xs
    → f y ≡ f (slice_index_or xs p d) ++ new
    → map f (slice_set xs p y) ≡ slice_set (map f xs) p (at (map f xs) p ++ new)
map_put f xs p y d new lt e = map-set f xs p y ∙ ap (λ v. slice_set (map f xs) p v) (e ∙ ap (λ v. v ++ new) (sym (get_or-map f xs p d [] lt)))

abbrev pub end_queue : End → TableId
end_queue e = sender_queue e.sender

-- The queues at these ends are still to be emptied. `done` is what was taken from those that were emptied.
abbrev pub Emptied : List (List ℕ) → List (List ℕ) → List (List ℕ) → List End → List Inlet → Type 0
Emptied takens gives rests ends inlets =
    (done : List (List ℕ)) × (length done ≡ length rests) × (takens ≡ done ++ map taken_of inlets)
    × (gives ≡ joined done rests ++ map sent_by ends)

-- After one more queue is emptied, those at the other ends are still to be emptied.
pub emptied_more : (takens gives rests : List (List ℕ)) (end : End) (ends : List End) (inlet : Inlet) (inlets : List Inlet) (r : List ℕ)
    → taken_of inlet ++ r ≡ sent_by end → Emptied takens gives rests (end ∷ ends) (inlet ∷ inlets)
    → Emptied takens gives (rests ++ r ∷ []) ends inlets
emptied_more takens gives rests end ends inlet inlets r e h =
    let t = taken_of inlet in (
      h.0 ++ t ∷ [],
      (let same = h.1 in omega (arith, length-append h.0 (t ∷ []), length-append rests (r ∷ []))),
      h.2 ∙ sym (append_assoc h.0 (t ∷ []) (map taken_of inlets)),
      h.3 ∙ sym (ap (λ l. l ++ map sent_by ends) (joined_snoc h.0 rests t r h.1 ∙ ap (λ v. joined h.0 rests ++ v ∷ []) e)
          ∙ append_assoc (joined h.0 rests) (sent_by end ∷ []) (map sent_by ends)),
    )

joined_length : (ts rs : List (List ℕ)) → length ts ≡ length rs → length (joined ts rs) ≡ length rs
joined_length [] [] e = refl
joined_length [] (x ∷ rs) e = absurd (omega (arith, e))
joined_length (x ∷ ts) [] e = absurd (omega (arith, e))
joined_length (x ∷ ts) (y ∷ rs) e = ap suc (joined_length ts rs (omega (arith, e)))

-- After all queues are emptied, what was taken and the rests together are what was sent.
pub emptied_all : (takens gives rests : List (List ℕ)) → Emptied takens gives rests [] []
    → (joined takens rests ≡ gives) × (length rests ≡ length gives)
emptied_all takens gives rests h =
    let all : takens ≡ h.0 = h.2 ∙ append-nil h.0 in
    let whole : gives ≡ joined h.0 rests = h.3 ∙ append-nil (joined h.0 rests) in
    (ap (λ l. joined l rests) all ∙ sym whole, sym (ap length whole ∙ joined_length h.0 rests h.1))

-- If one list of ends is used up, so is the other, and all queues are emptied.
pub emptied_end : (takens gives rests : List (List ℕ)) (ends : List End) (inlets : List Inlet)
    → map end_queue ends ≡ map inlet_queue inlets → (length ends ≡ 0) ⊎ (length inlets ≡ 0) → Emptied takens gives rests ends inlets
    → (joined takens rests ≡ gives) × (length rests ≡ length gives)
emptied_end takens gives rests [] [] e out h = emptied_all takens gives rests h
emptied_end takens gives rests [] (y ∷ inlets) e out h =
    let bad : 0 ≡ suc (length (map inlet_queue inlets)) = ap length e in absurd (omega (arith, bad))
emptied_end takens gives rests (x ∷ ends) [] e out h =
    let bad : suc (length (map end_queue ends)) ≡ 0 = ap length e in absurd (omega (arith, bad))
emptied_end takens gives rests (x ∷ ends) (y ∷ inlets) e (inl z) h = absurd (omega (arith, z))
emptied_end takens gives rests (x ∷ ends) (y ∷ inlets) e (inr z) h = absurd (omega (arith, z))

first_same : (x : End) (ends : List End) (y : Inlet) (inlets : List Inlet)
    → map end_queue (x ∷ ends) ≡ map inlet_queue (y ∷ inlets) → map end_queue ends ≡ map inlet_queue inlets
first_same x ends y inlets e = cc

-- A step of the loop empties one queue.
pub emptied_step : (takens gives rests more : List (List ℕ)) (all ends : List End) (full inlets : List Inlet)
    (end : End) (inlet : Inlet) (r : List ℕ)
    → all ≡ end ∷ ends → full ≡ inlet ∷ inlets → more ≡ rests ++ r ∷ [] → taken_of inlet ++ r ≡ sent_by end
    → map end_queue all ≡ map inlet_queue full → Emptied takens gives rests all full
    → (map end_queue ends ≡ map inlet_queue inlets) × Emptied takens gives more ends inlets
emptied_step takens gives rests more all ends full inlets end inlet r a b m e same h = (
  first_same end ends inlet inlets (sym (ap (map end_queue) a) ∙ same ∙ ap (map inlet_queue) b),
  subst (λ l. Emptied takens gives l ends inlets) (sym m)
      (emptied_more takens gives rests end ends inlet inlets r e
      (subst (λ (l : List Inlet). Emptied takens gives rests (end ∷ ends) l) b
      (subst (λ (l : List End). Emptied takens gives rests l full) a h))),
)
