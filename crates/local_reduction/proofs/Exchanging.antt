-- Moves of states with exchanged processors.
use Rattle.std.proofs.Common.{◌≡◌, ◌≢◌, ◌⊎◌, inl, inr, ℕ, zero, suc, List, [], ◌∷◌, Some, length, refl, sym, ap, subst, ◌∙◌, cond, eqb, eq-eqb, ne_eqb}
use Rattle.std.specs.Prelude.{slice_get, slice_set, slice_index}
use Rattle.std.proofs.lemmas.Bool.{cases_eq}
use Rattle.flat_machine.specs.declared.setting.Setting.{Setting}
use Rattle.flat_machine.proofs.Lemmas.{set_other}
use Rattle.local_reduction.specs.LocalStates.{LocalState, retire, alone, IsReference, IsAtReference}
use Rattle.local_reduction.specs.Closing.{MacroState, gone, IsMove, IsShort, IsWay, MayMove, HasSpinner}
use Rattle.local_reduction.specs.Exchanging.{IsBeside, AreAlike, Exchange, IsExchanged, IsExchangeOf, IsUniform}
use Rattle.local_reduction.specs.Exchanging.{IsMoveOfAny, IsMoveUpTo, IsShortUpTo, IsWayUpTo}
use Rattle.local_reduction.proofs.OneTurn.{set_there}
use Rattle.local_reduction.proofs.Numbers.{reference_same}

-- ---- exchanges

module _ (classes : List ℕ) where
  -- the exchange in which each processor keeps its place
  abbrev pub none : Exchange classes
  none = record { place = λ k. k; taker = λ k. k; taken = λ i. refl; takes = λ k. refl; alike = λ k. refl }

  -- the exchange that undoes x
  abbrev pub back : Exchange classes → Exchange classes
  back x = record {
    place = x.taker;
    taker = x.place;
    taken = x.takes;
    takes = x.taken;
    alike = λ k. sym (x.alike (x.taker k)) ∙ ap (slice_get classes) (x.taken k);
  }

  -- the exchange from s to u, if x exchanges s to t, and y exchanges t to u
  abbrev pub both : (x y : Exchange classes) → Exchange classes
  both x y = record {
    place = λ k. x.place (y.place k);
    taker = λ i. y.taker (x.taker i);
    taken = λ i. ap x.place (y.taken (x.taker i)) ∙ x.taken i;
    takes = λ k. ap y.taker (x.takes (y.place k)) ∙ y.takes k;
    alike = λ k. x.alike (y.place k) ∙ y.alike k;
  }

  -- the place that k takes if j and i trade places
  abbrev pub traded : (j i k : ℕ) → ℕ
  traded j i k = cond (eqb k i) j (cond (eqb k j) i k)

  -- The processor from j is at i after the trade.
  pub traded_first : (j i : ℕ) → traded j i i ≡ j
  traded_first j i = ap (λ b. cond b j (cond (eqb i j) i i)) (eq-eqb i i refl)

  traded_second : (j i : ℕ) → traded j i j ≡ i
  traded_second j i = by (cases_eq j i)
    where
      by : (j ≡ i) ⊎ (j ≡ i → ⊥) → traded j i j ≡ i
      by (inl e) = ap (λ b. cond b j (cond (eqb j j) i j)) (eq-eqb j i e) ∙ e
      by (inr ne) = ap (λ b. cond b j (cond (eqb j j) i j)) (ne_eqb j i ne) ∙ ap (λ b. cond b i j) (eq-eqb j j refl)

  traded_other : (j i k : ℕ) → k ≢ i → k ≢ j → traded j i k ≡ k
  traded_other j i k a b = ap (λ c. cond c j (cond (eqb k j) i k)) (ne_eqb k i a) ∙ ap (λ c. cond c i k) (ne_eqb k j b)

  -- What holds of both processors that trade, and of all others, holds of all.
  pub traded_all : (P : ℕ → ℕ → Type 0) (j i : ℕ) → P j i → P i j → ((k : ℕ) → k ≢ i → k ≢ j → P k k) → (k : ℕ) → P (traded j i k) k
  traded_all P j i first second others k = by (cases_eq k i) (cases_eq k j)
    where
      by : (k ≡ i) ⊎ (k ≡ i → ⊥) → (k ≡ j) ⊎ (k ≡ j → ⊥) → P (traded j i k) k
      by (inl e) d = subst (λ l. P (traded j i l) l) (sym e) (subst (λ l. P l i) (sym (traded_first j i)) first)
      by (inr a) (inl e) = subst (λ l. P (traded j i l) l) (sym e) (subst (λ l. P l j) (sym (traded_second j i)) second)
      by (inr a) (inr b) = subst (λ l. P l k) (sym (traded_other j i k a b)) (others k a b)

  -- A trade made twice changes nothing.
  pub traded_twice : (j i k : ℕ) → traded j i (traded j i k) ≡ k
  traded_twice j i k = traded_all (λ l k. traded j i l ≡ k) j i (traded_second j i) (traded_first j i) (traded_other j i) k

  -- the exchange in which j and i trade places
  unfoldable pub trade : (j i : ℕ) → AreAlike classes j i → Exchange classes
  trade j i e = record {
    place = traded j i;
    taker = traded j i;
    taken = traded_twice j i;
    takes = traded_twice j i;
    alike = traded_all (λ l k. AreAlike classes l k) j i e (sym e) (λ k a b. refl);
  }

  -- What holds of both processors that trade, and of all others, holds of each place that is taken.
  pub trade_all : (P : ℕ → ℕ → Type 0) (j i : ℕ) (e : AreAlike classes j i) → P j i → P i j →
      ((k : ℕ) → k ≢ i → k ≢ j → P k k) → (k : ℕ) → P ((trade j i e).place k) k
  unfolding trade
  trade_all P j i e first second others k = traded_all P j i first second others k

  -- ---- states with exchanged processors

  -- Each state is an exchange of itself.
  pub as_it_is : (s : MacroState) → IsExchangeOf classes s s
  as_it_is s = (none, record { shared = refl; each = λ k. refl })

  -- If processors of one class are in equal states, each exchange leaves the state as it is.
  pub uniform_stays : (s : MacroState) → IsUniform classes s → (x : Exchange classes) → IsExchanged x.place s s
  uniform_stays s u x = record { shared = refl; each = λ k. sym (u (x.place k) k (x.alike k)) }

  -- If two processors in equal states trade, the state is left as it is.
  trade_stays : (s : MacroState) (j i : ℕ) → slice_get s.local_states j ≡ slice_get s.local_states i → IsExchanged (traded j i) s s
  trade_stays s j i e = record {
    shared = refl;
    each = traded_all (λ l k. slice_get s.local_states k ≡ slice_get s.local_states l) j i (sym e) e (λ k a b. refl);
  }

  -- An exchange of an exchange of s is an exchange of s.
  pub exchanged_both : (x y : ℕ → ℕ) (s t u : MacroState) → IsExchanged x s t → IsExchanged y t u → IsExchanged (λ k. x (y k)) s u
  exchanged_both x y s t u f g = record { shared = g.shared ∙ f.shared; each = λ k. g.each k ∙ f.each (y k) }

  -- If x exchanges s to t, the exchange that undoes x exchanges t to s.
  pub exchanged_back : (x : Exchange classes) (s t : MacroState) → IsExchanged x.place s t → IsExchanged x.taker t s
  exchanged_back x s t f = record {
    shared = sym f.shared;
    each = λ i. ap (slice_get s.local_states) (sym (x.taken i)) ∙ sym (f.each (x.taker i));
  }

  -- ---- moves of such states

  module _ (at : ℕ → Setting) (code : List ℕ) (kept : LocalState → LocalState) where
    -- State t is s exchanged by x, which puts place i at k, and a move at place i leads from s to v.
    module _ (s v t : MacroState) (i : ℕ) (x : Exchange classes) (k : ℕ) (is : x.place k ≡ i) (e : IsExchanged x.place s t)
        (move : IsMoveOfAny at code kept classes s i v) where
      mine : IsMove (λ j. at k) code kept s i v
      mine = move k (sym (x.alike k) ∙ ap (slice_get classes) is)

      arrived : ℕ → LocalState
      arrived old = kept (alone mine.count (at k) code (retire mine.local_state (mine.after old)))

      after_move : MacroState
      after_move = gone t k (arrived (slice_index t.shared mine.word)) mine.word (mine.change (slice_index t.shared mine.word))

      there_t : slice_get t.local_states k ≡ Some mine.local_state
      there_t = e.each k ∙ (ap (slice_get s.local_states) is ∙ mine.there)

      -- The processor at k makes in t the move that was made at i in s. It leads to an exchange of v.
      pub move_exchanged : (w : MacroState) × IsMove at code kept t k w × IsExchanged x.place v w
      unfolding arrived after_move
      move_exchanged = (
        after_move,
        record {
          local_state = mine.local_state;
          there = there_t;
          runs = mine.runs;
          word = mine.word;
          change = mine.change;
          after = mine.after;
          turn = mine.turn;
          count = mine.count;
          at_reference = subst (λ ws. IsAtReference (at k) code (alone mine.count (at k) code
              (retire mine.local_state (mine.after (slice_index ws mine.word)))).processor)
              (sym e.shared) mine.at_reference;
          leaves = refl;
        },
        subst (λ z. IsExchanged x.place z after_move) (sym mine.leaves) (record {
          shared = ap (λ ws. slice_set ws mine.word (mine.change (slice_index ws mine.word))) e.shared;
          each = λ j. by j (cases_eq j k);
        }),
      )
        where
          by : (j : ℕ) → (j ≡ k) ⊎ (j ≡ k → ⊥) →
              slice_get (slice_set t.local_states k (arrived (slice_index t.shared mine.word))) j
              ≡ slice_get (slice_set s.local_states i (arrived (slice_index s.shared mine.word))) (x.place j)
          by j (inl same) =
              ap (slice_get (slice_set t.local_states k (arrived (slice_index t.shared mine.word)))) same
              ∙ (set_there t.local_states k (arrived (slice_index t.shared mine.word)) mine.local_state there_t
              ∙ (ap (λ ws. Some (arrived (slice_index ws mine.word))) e.shared
              ∙ (sym (set_there s.local_states i (arrived (slice_index s.shared mine.word)) mine.local_state mine.there)
              ∙ ap (slice_get (slice_set s.local_states i (arrived (slice_index s.shared mine.word)))) (sym (ap x.place same ∙ is)))))
          by j (inr ne) =
              set_other t.local_states k j (arrived (slice_index t.shared mine.word)) ne
              ∙ (e.each j
              ∙ sym (set_other s.local_states i (x.place j) (arrived (slice_index s.shared mine.word))
              (λ same. ne (sym (x.takes j) ∙ (ap x.taker (same ∙ sym is) ∙ x.takes k)))))

    -- A move up to exchanges from s to u is a plain move from each exchange of s, to an exchange of u. How u is
    -- exchanged depends on one exchange y, which is the same for all exchanges of s.
    pub led : (s u : MacroState) (i : ℕ) → IsMoveUpTo at code kept classes s i u →
        (y : Exchange classes) × ((x : Exchange classes) (t : MacroState) (k : ℕ) → x.place k ≡ i → IsExchanged x.place s t →
        (w : MacroState) × IsMove at code kept t k w × IsExchanged (λ j. y.place (x.place j)) u w)
    unfolding trade
    led s u i m = (
      both (back m.exchange.0) (trade m.mover i m.alike),
      λ x t k is e.
          let first : IsExchanged (λ j. traded m.mover i (x.place j)) s t =
          exchanged_both (traded m.mover i) x.place s s t (trade_stays s m.mover i m.same) e in
          let moved = move_exchanged s m.left t m.mover (both (trade m.mover i m.alike) x) k
          (ap (traded m.mover i) is ∙ traded_first m.mover i) first m.move in (
            moved.0,
            moved.1,
            exchanged_both m.exchange.0.taker (λ j. traded m.mover i (x.place j)) u m.left moved.0 (exchanged_back m.exchange.0 m.left u m.exchange.1) moved.2,
          ),
    )

    -- ---- ways

    -- A way up to exchanges is a plain way from each exchange of where it begins, to an exchange of where it ends.
    pub way_led : (way : List (ℕ × MacroState)) (s t : MacroState) → IsWayUpTo at code kept classes s way t →
        (y : Exchange classes) × ((x : Exchange classes) (u : MacroState) → IsExchanged x.place s u →
        (real : List (ℕ × MacroState)) × (w : MacroState) × IsWay at code kept u real w × IsExchanged (λ j. y.place (x.place j)) t w
        × (length real ≡ length way))
    way_led [] s t e = (none, λ x u f. ([], u, refl, subst (λ z. IsExchanged x.place z u) e f, refl))
    way_led ((i, v) ∷ way) s t h =
        let first = led s v i h.0 in
        let rest = way_led way v t h.1 in (
          both rest.0 first.0,
          λ x u f.
              let moved = first.1 x u (x.taker i) (x.taken i) f in
              let gone_on = rest.1 (both first.0 x) moved.0 moved.2 in (
                (x.taker i, moved.0) ∷ gone_on.0,
                gone_on.1,
                (moved.1, gone_on.2),
                gone_on.3,
                ap suc gone_on.4,
              ),
        )

    -- ---- if settings differ by numbers alone

    module _ (beside : (j k : ℕ) → IsBeside (at j) (at k)) where
      -- A processor that may move in an exchange of s may move in s, at the place that it takes.
      pub may_exchanged : (x : Exchange classes) (s t : MacroState) (k : ℕ) → IsExchanged x.place s t → MayMove at code t k → MayMove at code s (x.place k)
      may_exchanged x s t k e w = record {
        local_state = w.local_state;
        there = sym (e.each k) ∙ w.there;
        runs = w.runs;
        refers = subst IsReference (reference_same (at k) (at (x.place k)) (beside k (x.place k)) code w.local_state.processor w.refers) w.refers;
      }

      -- If a processor spins in s, one spins in each exchange of s.
      pub spinner_exchanged : (x : Exchange classes) (s t : MacroState) → IsExchanged x.place s t → HasSpinner at code s → HasSpinner at code t
      spinner_exchanged x s t e h =
          let k = x.taker h.processor in record {
            processor = k;
            local_state = h.local_state;
            there = e.each k ∙ (ap (slice_get s.local_states) (x.taken h.processor) ∙ h.there);
            goes_on = (
              h.goes_on.0,
              λ refers. h.goes_on.1 (subst IsReference
                  (reference_same (at k) (at h.processor) (beside k h.processor) code h.local_state.processor refers) refers),
            );
          }

      -- If at most n moves follow one another from s up to exchanges, at most n follow one another from an exchange of
      -- s.
      pub short_exchanged : (n : ℕ) (x : Exchange classes) (s t : MacroState) → IsExchanged x.place s t → IsShortUpTo at code kept classes n s →
          IsShort at code kept n t
      short_exchanged zero x s t e h = (
        λ spins. h.0 (spinner_exchanged (back x) t s (exchanged_back x s t e) spins),
        λ k w. h.1 (x.place k) (may_exchanged x s t k e w),
      )
      short_exchanged (suc n) x s t e h = (
        λ spins. h.0 (spinner_exchanged (back x) t s (exchanged_back x s t e) spins),
        λ k w.
            let m = h.1 (x.place k) (may_exchanged x s t k e w) in
            let l = led s m.0 (x.place k) m.1 in
            let moved = l.1 x t k refl e in
            (moved.0, moved.1, short_exchanged n (both l.0 x) m.0 moved.0 moved.2 m.2),
      )
