-- What moves of messages, services and writes from outside change.
use Rattle.std.proofs.Common.{◌≡◌, ℕ, zero, suc, ◌+◌, ◌*◌, ◌/◌, ◌%◌, ◌^◌, ◌⊎◌, inl, inr, Bool, true, false, List, [], ◌∷◌, ◌++◌}
use Rattle.std.proofs.Common.{Option, Some, None, refl, sym, ap, ap₂, ◌∙◌, arith, nat_lt}
use Rattle.std.specs.Prelude.{if◌then◌else◌, length, slice_get}
use Rattle.std.proofs.lemmas.Bool.{cases_eq}
use Rattle.std.proofs.lemmas.Nat.{div-mul-add, mod_below, pow_pos}
use Rattle.flat_machine.specs.declared.config.Config.{Config}
use Rattle.omega_wires.specs.Wires.{bit, bit_of_stage, rotated_right, wire_after, wire_before}
use Rattle.messages.specs.declared.message.Request.{Request}
use Rattle.messages.specs.declared.message.Record.{Record}
use Rattle.messages.specs.declared.message.Reply.{Reply}
use Rattle.messages.specs.declared.moves.UpMove.TheVariants as up
use Rattle.messages.specs.declared.moves.DownMove.TheVariants as down
use Rattle.messages.specs.Moves.{accepted, answer, answered, down_from, has_room, module_replied, module_taken, push_all, up_from}
use Rattle.messages.specs.Network.{Net, put_records, put_replies, put_requests}
use Rattle.messages.specs.Places.{In}
use Rattle.messages.specs.Queues.{Combination, answers, combination, records_but, records_of, unmarked}
use Rattle.messages.proofs.Lemmas.{put2_other, put_other}
use Rattle.machine_steps.specs.machine_theory.Processors.{ObservedCore, sizes_of}
use Rattle.machine_steps.specs.machine_theory.Theory as theory
use Rattle.page_command.specs.Steps.{parts_of_down, parts_of_serve, parts_of_up}
use Rattle.page_command.specs.Views.{Core, Part, Place, Register, Word, view_on}
use Rattle.page_command.proofs.Frames.{IsSamePlace, core_kept, place_kept, register_kept, word_kept}

-- ---- places that stay as they are

-- A place holds what it holds.
pub same_place : (net : Net) (d w : ℕ) → IsSamePlace net net d w
same_place net d w = record { requests = refl; records = refl; replies = refl }

then_same : {L M N : Net} (d w : ℕ) → IsSamePlace L M d w → IsSamePlace M N d w → IsSamePlace L N d w
then_same d w one other = record {
  requests = one.requests ∙ other.requests;
  records = one.records ∙ other.records;
  replies = one.replies ∙ other.replies;
}

requests_put : (net : Net) (e v : ℕ) (xs : List Request) (d w : ℕ) → (d ≡ e → w ≡ v → ⊥) → IsSamePlace net (put_requests net e v xs) d w
requests_put net e v xs d w away =
    record { requests = sym (put2_other net.requests e v xs d w away); records = refl; replies = refl }

replies_put : (net : Net) (e v : ℕ) (ys : List Reply) (d w : ℕ) → (d ≡ e → w ≡ v → ⊥) → IsSamePlace net (put_replies net e v ys) d w
replies_put net e v ys d w away =
    record { requests = refl; records = refl; replies = sym (put2_other net.replies e v ys d w away) }

-- The wait buffer of an output stands at the place after it.
records_put : (net : Net) (s v : ℕ) (es : List Record) (d w : ℕ) → (d ≡ suc s → w ≡ v → ⊥) → IsSamePlace net (put_records net s v es) d w
records_put net s v es zero w away = record { requests = refl; records = refl; replies = refl }
records_put net s v es (suc n) w away = record {
  requests = refl;
  records = sym (put2_other net.records s v es n w (λ e f. away (ap suc e) f));
  replies = refl;
}

-- ---- moves that change the network alone

-- the machine with another network
abbrev over : theory.Machine ObservedCore → Net → theory.Machine ObservedCore
over M net = record { net = net; mem = M.mem; core = M.core; is_open = M.is_open }

-- If only messages have moved, and those of each place that is not listed stand where they stood, each part shows the
-- same, or is listed.
moved_shows : (c : Config) (code : List ℕ) (M : theory.Machine ObservedCore) (net : Net) (parts : List Part) →
    ((d w : ℕ) → IsSamePlace M.net net d w ⊎ In (Place d w) parts) → (x : Part) →
    (view_on c code M x ≡ view_on c code (over M net) x) ⊎ In x parts
moved_shows c code M net parts places (Core p) = inl (core_kept c code M (over M net) p refl refl)
moved_shows c code M net parts places (Register p r) = inl (register_kept c code M (over M net) p r refl)
moved_shows c code M net parts places (Word i) = inl (word_kept c code M (over M net) i refl)
moved_shows c code M net parts places (Place d w) = by (places d w)
  where
    N : theory.Machine ObservedCore
    N = over M net

    by : IsSamePlace M.net net d w ⊎ In (Place d w) parts → (view_on c code M (Place d w) ≡ view_on c code N (Place d w)) ⊎ In (Place d w) parts
    by (inl same) = inl (place_kept c code M N d w same)
    by (inr there) = inr there

-- ---- up

-- one of two places
two_places : (e v f u : ℕ) (net net' : Net) →
    ((d w : ℕ) → (d ≡ e → w ≡ v → ⊥) → (d ≡ f → w ≡ u → ⊥) → IsSamePlace net net' d w) → (d w : ℕ) →
    IsSamePlace net net' d w ⊎ In (Place d w) (Place e v ∷ Place f u ∷ [])
two_places e v f u net net' others d w = go (cases_eq d e) (cases_eq w v) (cases_eq d f) (cases_eq w u)
  where
    Goal : Type 0
    Goal = IsSamePlace net net' d w ⊎ In (Place d w) (Place e v ∷ Place f u ∷ [])

    second : (d ≡ e → w ≡ v → ⊥) → (d ≡ f) ⊎ (d ≡ f → ⊥) → (w ≡ u) ⊎ (w ≡ u → ⊥) → Goal
    second away (inl i) (inl j) = inr (inr (inl (ap₂ Place i j)))
    second away (inl i) (inr n) = inl (others d w away (λ a b. n b))
    second away (inr n) j = inl (others d w away (λ a b. n a))

    go : (d ≡ e) ⊎ (d ≡ e → ⊥) → (w ≡ v) ⊎ (w ≡ v → ⊥) → (d ≡ f) ⊎ (d ≡ f → ⊥) → (w ≡ u) ⊎ (w ≡ u → ⊥) → Goal
    go (inl i) (inl j) k l = inr (inl (ap₂ Place i j))
    go (inl i) (inr n) k l = second (λ a b. n b) k l
    go (inr n) j k l = second (λ a b. n a) k l

module _ (c : Config) (code : List ℕ) (M : theory.Machine ObservedCore) (s w : ℕ) where
  abbrev shows_all : theory.Machine ObservedCore → List Part → Type 0
  shows_all N parts = (x : Part) → (view_on c code M x ≡ view_on c code N x) ⊎ In x parts

  accepted_shows : (x : Request) (rest : List Request) (v : ℕ) → let z = sizes_of c in let taken = put_requests M.net s w rest in
      (j : Option Combination) → shows_all (theory.went_up M (accepted z M.net taken s v x j)).machine (Place s w ∷ Place (suc s) v ∷ [])
  accepted_shows x rest v None = go (nat_lt (length (taken.requests (suc s) v)) c.c)
    where
      taken : Net
      taken = put_requests M.net s w rest

      placed : Net
      placed = put_requests taken (suc s) v (taken.requests (suc s) v ++ unmarked x ∷ [])

      go : (b : Bool) → shows_all (theory.went_up M (if b then (up.Moved, placed) else (up.Stalled, M.net))).machine
          (Place s w ∷ Place (suc s) v ∷ [])
      go true = moved_shows c code M placed (Place s w ∷ Place (suc s) v ∷ []) (two_places s w (suc s) v M.net placed (λ d e one other.
          then_same d e (requests_put M.net s w rest d e one)
          (requests_put taken (suc s) v (taken.requests (suc s) v ++ unmarked x ∷ []) d e other)))
      go false = λ part. inl refl
  accepted_shows x rest v (Some j) =
      let taken = put_requests M.net s w rest in
      let joined = put_requests taken (suc s) v j.queue in
      let kept = put_records joined s v (taken.records s v ++ j.made ∷ []) in
      moved_shows c code M kept (Place s w ∷ Place (suc s) v ∷ []) (two_places s w (suc s) v M.net kept (λ d e one other.
      then_same d e (requests_put M.net s w rest d e one) (then_same d e (requests_put taken (suc s) v j.queue d e other)
      (records_put joined s v (taken.records s v ++ j.made ∷ []) d e other))))

  -- After a move up each part shows the same, or is one of those that the move may change.
  pub up_shows : (requests : List Request) → shows_all (theory.went_up M (up_from (sizes_of c) M.net s w requests)).machine
      (parts_of_up c.k s w (slice_get requests 0))
  up_shows [] = λ part. inl refl
  up_shows (x ∷ rest) =
      let v = wire_after c.k s w (x.word % 2 ^ c.k) in
      let taken = put_requests M.net s w rest in
      accepted_shows x rest v (combination c.b c.r x (taken.requests (suc s) v) (taken.records s v))

-- ---- down

-- the wire before a stage depends on one bit of the processor
either_wire : (k s w p : ℕ) → (wire_before k s w p ≡ wire_before k s w 0) ⊎ (wire_before k s w p ≡ wire_before k s w (2 ^ bit_of_stage k s))
unfolding wire_before
either_wire k s w p = go (bit (bit_of_stage k s) p) refl
  where
    n : ℕ
    n = bit_of_stage k s

    low : bit n 0 ≡ 0
    low =
        let none : 0 ≡ 0 * 2 ^ n + 0 = omega arith in
        ap (λ m. m / 2 ^ n % 2) none ∙ ap (λ q. q % 2) (div-mul-add 0 (2 ^ n) 0 (pow_pos n))

    high : bit n (2 ^ n) ≡ 1
    high =
        let whole : 2 ^ n ≡ 1 * 2 ^ n + 0 = omega arith in
        ap (λ m. m / 2 ^ n % 2) whole ∙ ap (λ q. q % 2) (div-mul-add 1 (2 ^ n) 0 (pow_pos n))

    go : (b : ℕ) → bit n p ≡ b → (wire_before k s w p ≡ wire_before k s w 0) ⊎ (wire_before k s w p ≡ wire_before k s w (2 ^ n))
    go zero e = inl (ap (λ b. rotated_right k (2 * (w / 2) + b)) (e ∙ sym low))
    go (suc zero) e = inr (ap (λ b. rotated_right k (2 * (w / 2) + b)) (e ∙ sym high))
    go (suc (suc b)) e = absurd (let small = mod_below (p / 2 ^ n) 2 (omega arith) in omega (arith, small, e))

-- Replies that are put before a stage leave all else as it is.
pushed_away : (wire : ℕ → ℕ) (s : ℕ) (ys : List Reply) (net : Net) (d w : ℕ) → ((l : ℕ) → d ≡ s → w ≡ wire l → ⊥) →
    IsSamePlace net (push_all wire s ys net) d w
unfolding push_all
pushed_away wire s [] net d w away = same_place net d w
pushed_away wire s (y ∷ ys) net d w away =
    then_same d w (replies_put net s (wire y.leader) _ d w (away y.leader)) (pushed_away wire s ys _ d w away)

-- one of three places
three_places : (e v f u t : ℕ) (net net' : Net) →
    ((d w : ℕ) → (d ≡ e → w ≡ v → ⊥) → (d ≡ f → w ≡ u → ⊥) → (d ≡ f → w ≡ t → ⊥) → IsSamePlace net net' d w) → (d w : ℕ) →
    IsSamePlace net net' d w ⊎ In (Place d w) (Place e v ∷ Place f u ∷ Place f t ∷ [])
three_places e v f u t net net' others d w = go (cases_eq d e) (cases_eq w v)
  where
    Goal : Type 0
    Goal = IsSamePlace net net' d w ⊎ In (Place d w) (Place e v ∷ Place f u ∷ Place f t ∷ [])

    at : (d ≡ e → w ≡ v → ⊥) → d ≡ f → (w ≡ u) ⊎ (w ≡ u → ⊥) → (w ≡ t) ⊎ (w ≡ t → ⊥) → Goal
    at away i (inl j) l = inr (inr (inl (ap₂ Place i j)))
    at away i (inr n) (inl j) = inr (inr (inr (inl (ap₂ Place i j))))
    at away i (inr n) (inr m) = inl (others d w away (λ a b. n b) (λ a b. m b))

    second : (d ≡ e → w ≡ v → ⊥) → (d ≡ f) ⊎ (d ≡ f → ⊥) → Goal
    second away (inl i) = at away i (cases_eq w u) (cases_eq w t)
    second away (inr n) = inl (others d w away (λ a b. n a) (λ a b. n a))

    go : (d ≡ e) ⊎ (d ≡ e → ⊥) → (w ≡ v) ⊎ (w ≡ v → ⊥) → Goal
    go (inl i) (inl j) = inr (inl (ap₂ Place i j))
    go (inl i) (inr n) = second (λ a b. n b) (cases_eq d f)
    go (inr n) j = second (λ a b. n a) (cases_eq d f)

module _ (c : Config) (code : List ℕ) (M : theory.Machine ObservedCore) (s w : ℕ) where
  abbrev one_wire : ℕ
  one_wire = wire_before c.k s w 0

  abbrev other_wire : ℕ
  other_wire = wire_before c.k s w (2 ^ bit_of_stage c.k s)

  answered_shows : (x : Reply) (rest : List Reply) (records : List Record) → (y : Part) →
      (view_on c code M y ≡ view_on c code
      (theory.went_down M (answer (sizes_of c) M.net (put_replies M.net (suc s) w rest) s w x records)).machine y)
      ⊎ In y (Place (suc s) w ∷ Place s one_wire ∷ Place s other_wire ∷ [])
  answered_shows x rest records = go (has_room c.c (wire_before c.k s w) s all (answers records x)) records
    where
      taken : Net
      taken = put_replies M.net (suc s) w rest

      left : Net
      left = put_records taken s w (records_but x.leader (taken.records s w))

      all : Net
      all = push_all (wire_before c.k s w) s (answers records x) left

      neither : (d v : ℕ) → (d ≡ s → v ≡ one_wire → ⊥) → (d ≡ s → v ≡ other_wire → ⊥) → (l : ℕ) → d ≡ s → v ≡ wire_before c.k s w l → ⊥
      neither d v one other l depth wire = by (either_wire c.k s w l)
        where
          by : (wire_before c.k s w l ≡ one_wire) ⊎ (wire_before c.k s w l ≡ other_wire) → ⊥
          by (inl is) = one depth (wire ∙ is)
          by (inr is) = other depth (wire ∙ is)

      listed : List Part
      listed = Place (suc s) w ∷ Place s one_wire ∷ Place s other_wire ∷ []

      places : (d v : ℕ) → IsSamePlace M.net all d v ⊎ In (Place d v) (Place (suc s) w ∷ Place s one_wire ∷ Place s other_wire ∷ [])
      places = three_places (suc s) w s one_wire other_wire M.net all (λ d v here one other.
          then_same d v (replies_put M.net (suc s) w rest d v here) (then_same d v (records_put taken s w _ d v here)
          (pushed_away (wire_before c.k s w) s (answers records x) left d v (neither d v one other))))

      moved : (to : List Record) (y : Part) → (view_on c code M y ≡ view_on c code (theory.went_down M (answered to, all)).machine y)
          ⊎ In y (Place (suc s) w ∷ Place s one_wire ∷ Place s other_wire ∷ [])
      moved [] = moved_shows c code M all listed places
      moved (e ∷ es) = moved_shows c code M all listed places

      go : (b : Bool) (to : List Record) (y : Part) →
          (view_on c code M y ≡ view_on c code (theory.went_down M (if b then (answered to, all) else (down.Stalled, M.net))).machine y)
          ⊎ In y (Place (suc s) w ∷ Place s one_wire ∷ Place s other_wire ∷ [])
      go true to = moved to
      go false to = λ y. inl refl

  -- After an answer each part shows the same, or is one of those that the answer may change.
  pub down_shows : (replies : List Reply) (y : Part) →
      (view_on c code M y ≡ view_on c code (theory.went_down M (down_from (sizes_of c) M.net s w replies)).machine y)
      ⊎ In y (parts_of_down c.k s w (slice_get replies 0))
  down_shows [] = λ y. inl refl
  down_shows (x ∷ rest) = answered_shows x rest (records_of x.leader (M.net.records s w))

-- ---- services

-- the machine after a module has served its first request
abbrev served_by : Config → theory.Machine ObservedCore → (number : ℕ) → Request → List Request → theory.Machine ObservedCore
served_by c M m x rest = (theory.serve_from (sizes_of c) M m (x ∷ rest) []).machine

-- After a service each part shows the same, or is one of those that the service may change.
pub serve_shows : (c : Config) (code : List ℕ) (M : theory.Machine ObservedCore) (m : ℕ) (requests : List Request) (replies : List Reply) →
    (y : Part) → (view_on c code M y ≡ view_on c code (theory.serve_from (sizes_of c) M m requests replies).machine y)
    ⊎ In y (parts_of_serve c.k m (slice_get requests 0))
unfolding module_taken module_replied
serve_shows c code M m [] replies y = inl refl
serve_shows c code M m (x ∷ rest) (r ∷ rs) y = inl refl
serve_shows c code M m (x ∷ rest) [] (Core p) = inl (core_kept c code M (served_by c M m x rest) p refl refl)
serve_shows c code M m (x ∷ rest) [] (Register p r) = inl (register_kept c code M (served_by c M m x rest) p r refl)
serve_shows c code M m (x ∷ rest) [] (Word i) = by (cases_eq i x.word)
  where
    N : theory.Machine ObservedCore
    N = served_by c M m x rest

    by : (i ≡ x.word) ⊎ (i ≡ x.word → ⊥) → (view_on c code M (Word i) ≡ view_on c code N (Word i)) ⊎ In (Word i) (Place c.k m ∷ Word x.word ∷ [])
    by (inl is) = inr (inr (inl (ap Word is)))
    by (inr other) = inl (word_kept c code M N i (sym (put_other M.mem x.word _ i other)))
serve_shows c code M m (x ∷ rest) [] (Place d w) = by (cases_eq d c.k) (cases_eq w m)
  where
    N : theory.Machine ObservedCore
    N = served_by c M m x rest

    elsewhere : (d ≡ c.k → w ≡ m → ⊥) → IsSamePlace M.net N.net d w
    elsewhere away = record {
      requests = sym (put2_other M.net.requests c.k m _ d w away);
      records = refl;
      replies = sym (put2_other M.net.replies c.k m _ d w away);
    }

    by : (d ≡ c.k) ⊎ (d ≡ c.k → ⊥) → (w ≡ m) ⊎ (w ≡ m → ⊥) →
        (view_on c code M (Place d w) ≡ view_on c code N (Place d w)) ⊎ In (Place d w) (Place c.k m ∷ Word x.word ∷ [])
    by (inl i) (inl j) = inr (inl (ap₂ Place i j))
    by (inl i) (inr n) = inl (place_kept c code M N d w (elsewhere (λ a b. n b)))
    by (inr n) j = inl (place_kept c code M N d w (elsewhere (λ a b. n a)))
