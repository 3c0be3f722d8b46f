-- Places that a move does not change.
use Rattle.std.proofs.Common.{◌≡◌, ℕ, zero, suc, ◌+◌, ◌*◌, ◌/◌, ◌%◌, ◌<◌, Bool, true, false, ◌⊎◌, inl, inr, nat_lt}
use Rattle.std.proofs.Common.{List, [], ◌∷◌, ◌++◌, length, Option, Some, None, refl, ap, ◌∙◌, arith}
use Rattle.std.specs.Prelude.{if◌then◌else◌}
use Rattle.omega_wires.specs.Wires.{bit, bit_of_stage, rotated_left, rotated_right, wire_after, wire_before}
use Rattle.messages.specs.declared.message.Request.{Request}
use Rattle.messages.specs.declared.message.Reply.{Reply}
use Rattle.messages.specs.declared.message.Record.{Record}
use Rattle.messages.specs.declared.moves.UpMove.{UpMove}
use Rattle.messages.specs.declared.moves.DownMove.{DownMove}
use Rattle.messages.specs.Queues.{Combination, answers, combination, records_but, records_of}
use Rattle.messages.specs.Network.{Net, Sizes, put_records, put_replies, put_requests, wires}
use Rattle.messages.specs.Moves.{accepted, answer, down_from, has_room, moved_down, moved_up, push_all, up_from}
use Rattle.messages.proofs.Lemmas.{put2_other}

-- What holds of both results holds of the chosen one.
either : {X : Type 0} (P : X → Type 0) (b : Bool) (x y : X) → P x → P y → P (if b then x else y)
either P true x y p q = p
either P false x y p q = q

-- ---- up

module _ (z : Sizes) (net : Net) (s w : ℕ) where
  -- The place is not the wire whose request is taken, nor an output of the switch that the wire goes into.
  abbrev Away : ℕ → ℕ → Type 0
  Away d v = (d ≡ s → v ≡ w → ⊥) × (d ≡ suc s → v / 2 ≡ rotated_left z.k w / 2 → ⊥)

  module _ (rest : List Request) (x : Request) (out : ℕ) (there : out / 2 ≡ rotated_left z.k w / 2) where
    abbrev taken : Net
    taken = put_requests net s w rest

    apart : (d v : ℕ) → Away d v → d ≡ suc s → v ≡ out → ⊥
    apart d v away at is = away.1 at (ap (λ n. n / 2) is ∙ there)

    same_accepted : (j : Option Combination) (d v : ℕ) → Away d v → (accepted z net taken s out x j).1.requests d v ≡ net.requests d v
    same_accepted None d v away =
        either (λ (r : UpMove × Net). r.1.requests d v ≡ net.requests d v) (nat_lt (length (taken.requests (suc s) out)) z.c) _ _
        (put2_other taken.requests (suc s) out _ d v (apart d v away) ∙ put2_other net.requests s w rest d v away.0) refl
    same_accepted (Some j) d v away = put2_other taken.requests (suc s) out j.queue d v (apart d v away) ∙ put2_other net.requests s w rest d v away.0

    same_replies : (j : Option Combination) → (accepted z net taken s out x j).1.replies ≡ net.replies
    same_replies None = either (λ (r : UpMove × Net). r.1.replies ≡ net.replies) (nat_lt (length (taken.requests (suc s) out)) z.c) _ _ refl refl
    same_replies (Some j) = refl

  out_there : (m : ℕ) → wire_after z.k s w m / 2 ≡ rotated_left z.k w / 2
  unfolding wire_after
  out_there m = omega arith

  from_there : (xs : List Request) (d v : ℕ) → Away d v → (up_from z net s w xs).1.requests d v ≡ net.requests d v
  from_there [] d v away = refl
  from_there (x ∷ rest) d v away =
      let out = wire_after z.k s w (x.word % wires z) in
      let net' : Net = put_requests net s w rest in
      same_accepted rest x out (out_there (x.word % wires z)) (combination z.b z.r x (net'.requests (suc s) out) (net'.records s out)) d v away

  replies_from : (xs : List Request) → (up_from z net s w xs).1.replies ≡ net.replies
  replies_from [] = refl
  replies_from (x ∷ rest) =
      let out = wire_after z.k s w (x.word % wires z) in
      let net' : Net = put_requests net s w rest in
      same_replies rest x out (out_there (x.word % wires z)) (combination z.b z.r x (net'.requests (suc s) out) (net'.records s out))

  -- A move up changes no requests but those on its wire and at the outputs of the switch that the wire goes into.
  pub up_elsewhere : (d v : ℕ) → Away d v → (moved_up z net s w).1.requests d v ≡ net.requests d v
  unfolding moved_up
  up_elsewhere d v away = either (λ (r : UpMove × Net). r.1.requests d v ≡ net.requests d v) (nat_lt s z.k) _ _ (from_there (net.requests s w) d v away) refl

  -- A move up changes no reply.
  pub up_replies : (moved_up z net s w).1.replies ≡ net.replies
  unfolding moved_up
  up_replies = either (λ (r : UpMove × Net). r.1.replies ≡ net.replies) (nat_lt s z.k) _ _ (replies_from (net.requests s w)) refl

-- ---- down

-- Putting replies changes only the wires that lead to their leaders.
pushed_elsewhere : (wire : ℕ → ℕ) (s : ℕ) (ys : List Reply) (net : Net) (d v : ℕ) → ((p : ℕ) → d ≡ s → v ≡ wire p → ⊥) →
    (push_all wire s ys net).replies d v ≡ net.replies d v
unfolding push_all
pushed_elsewhere wire s [] net d v away = refl
pushed_elsewhere wire s (y ∷ ys) net d v away =
    pushed_elsewhere wire s ys (put_replies net s (wire y.leader) (net.replies s (wire y.leader) ++ y ∷ [])) d v away
    ∙ put2_other net.replies s (wire y.leader) (net.replies s (wire y.leader) ++ y ∷ []) d v (away y.leader)

pushed_requests : (wire : ℕ → ℕ) (s : ℕ) (ys : List Reply) (net : Net) → (push_all wire s ys net).requests ≡ net.requests
unfolding push_all
pushed_requests wire s [] net = refl
pushed_requests wire s (y ∷ ys) net = pushed_requests wire s ys (put_replies net s (wire y.leader) (net.replies s (wire y.leader) ++ y ∷ []))

module _ (z : Sizes) (net : Net) (s w : ℕ) where
  -- The place is not the wire whose reply is taken, nor an input of the switch that the wire comes from.
  abbrev AwayBack : ℕ → ℕ → Type 0
  AwayBack d v = (d ≡ suc s → v ≡ w → ⊥) × ((p : ℕ) → d ≡ s → v ≡ wire_before z.k s w p → ⊥)

  module _ (rest : List Reply) (x : Reply) (records : List Record) where
    abbrev taken_back : Net
    taken_back = put_replies net (suc s) w rest

    abbrev ready : Net
    ready = put_records taken_back s w (records_but x.leader (taken_back.records s w))

    answered_elsewhere : (d v : ℕ) → AwayBack d v → (answer z net taken_back s w x records).1.replies d v ≡ net.replies d v
    answered_elsewhere d v away =
        either (λ (r : DownMove × Net). r.1.replies d v ≡ net.replies d v)
        (has_room z.c (wire_before z.k s w) s (push_all (wire_before z.k s w) s (answers records x) ready) (answers records x)) _ _
        (pushed_elsewhere (wire_before z.k s w) s (answers records x) ready d v away.1 ∙ put2_other net.replies (suc s) w rest d v away.0) refl

    answered_requests : (answer z net taken_back s w x records).1.requests ≡ net.requests
    answered_requests =
        either (λ (r : DownMove × Net). r.1.requests ≡ net.requests)
        (has_room z.c (wire_before z.k s w) s (push_all (wire_before z.k s w) s (answers records x) ready) (answers records x)) _ _
        (pushed_requests (wire_before z.k s w) s (answers records x) ready) refl

  back_from : (xs : List Reply) (d v : ℕ) → AwayBack d v → (down_from z net s w xs).1.replies d v ≡ net.replies d v
  back_from [] d v away = refl
  back_from (x ∷ rest) d v away = answered_elsewhere rest x (records_of x.leader (net.records s w)) d v away

  requests_from : (xs : List Reply) → (down_from z net s w xs).1.requests ≡ net.requests
  requests_from [] = refl
  requests_from (x ∷ rest) = answered_requests rest x (records_of x.leader (net.records s w))

  -- A move down changes no replies but those on its wire and at the inputs of the switch that the wire comes from.
  pub down_elsewhere : (d v : ℕ) → AwayBack d v → (moved_down z net s w).1.replies d v ≡ net.replies d v
  unfolding moved_down
  down_elsewhere d v away =
      either (λ (r : DownMove × Net). r.1.replies d v ≡ net.replies d v) (nat_lt s z.k) _ _ (back_from (net.replies (suc s) w) d v away) refl

  -- A move down changes no request.
  pub down_requests : (moved_down z net s w).1.requests ≡ net.requests
  unfolding moved_down
  down_requests = either (λ (r : DownMove × Net). r.1.requests ≡ net.requests) (nat_lt s z.k) _ _ (requests_from (net.replies (suc s) w)) refl

  -- A reply goes on to one of the two inputs of the switch.
  pub input_is : (p : ℕ) → (wire_before z.k s w p ≡ rotated_right z.k (2 * (w / 2))) ⊎ (wire_before z.k s w p ≡ rotated_right z.k (2 * (w / 2) + 1))
  unfolding wire_before
  input_is p = by (bit (bit_of_stage z.k s) p) (omega arith)
    where
      by : (b : ℕ) → b < 2 → (rotated_right z.k (2 * (w / 2) + b) ≡ rotated_right z.k (2 * (w / 2)))
          ⊎ (rotated_right z.k (2 * (w / 2) + b) ≡ rotated_right z.k (2 * (w / 2) + 1))
      by zero few = inl (ap (rotated_right z.k) (omega arith))
      by (suc zero) few = inr refl
      by (suc (suc b)) few = absurd (omega (arith, few))
