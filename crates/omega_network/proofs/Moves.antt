-- A move is what the switch does with a message that was taken out of its place, if the switch would take the message.
use Rattle.std.proofs.Common.{◌≡◌, ℕ, suc, ◌^◌, ◌%◌, ◌<◌, Bool, true, false, ◌&&◌, List, [], ◌∷◌, ◌++◌, length, drop}
use Rattle.std.proofs.Common.{nat_lt, Option, Some, None, ◌⊎◌, inl, inr, refl, sym, ap, ◌∙◌, arith, lt-ltb}
use Rattle.std.specs.Prelude.{IsTrue, is_some, nat_le, not, slice_get, if◌then◌else◌}
use Rattle.omega_wires.specs.Wires.{wire_after, wire_before}
use Rattle.messages.specs.declared.message.Request.{Request}
use Rattle.messages.specs.declared.message.Reply.{Reply}
use Rattle.messages.specs.declared.message.Record.{Record}
use Rattle.messages.specs.declared.moves.UpMove.{UpMove}
use Rattle.messages.specs.declared.moves.UpMove.TheVariants as up
use Rattle.messages.specs.declared.moves.DownMove.{DownMove}
use Rattle.messages.specs.declared.moves.DownMove.TheVariants as down
use Rattle.messages.specs.Places.{put2}
use Rattle.messages.specs.Queues.{Combination, answers, combination, records_but, records_of, unmarked}
use Rattle.messages.specs.Seconds.{answered_seconds}
use Rattle.messages.specs.Network.{Net, Sizes, put_records, put_replies, put_requests, wires}
use Rattle.messages.specs.Moves as moves
use Rattle.messages.proofs.Lemmas.{put2_comm, put2_other}
use Rattle.omega_network.specs.Networks.{NetworkLists, net_of, sizes_of}

-- A list with a first element is this element, followed by the rest.
pub first_is : {X : Type 0} (q : List X) (x : X) → slice_get q 0 ≡ Some x → q ≡ x ∷ drop 1 q
first_is [] x e = cc
first_is (y ∷ ys) x e = let same : y ≡ x = cc in ap (λ z. z ∷ ys) same

-- A list that has no first element is empty.
pub none_is : {X : Type 0} (q : List X) → slice_get q 0 ≡ None → q ≡ []
none_is [] e = refl
none_is (y ∷ ys) e = cc

-- The test for a first element decides whether a list is empty.
pub free_is : {X : Type 0} (q : List X) (o : Option X) (b : Bool) → o ≡ slice_get q 0 → is_some o ≡ not b → (IsTrue b → q ≡ []) × (q ≡ [] → IsTrue b)
free_is {X} [] o true e f = ((λ t. refl), (λ g. refl))
free_is {X} [] o false e f = absurd (let g : false ≡ true = sym (ap is_some e) ∙ f in cc)
free_is {X} (y ∷ ys) o true e f = absurd (let g : true ≡ false = sym (ap is_some e) ∙ f in cc)
free_is {X} (y ∷ ys) o false e f = ((λ t. absurd (let h : false ≡ true = t in cc)), (λ g. absurd (let h : y ∷ ys ≡ [] = g in cc)))

apart : (s : ℕ) → s ≡ suc s → ⊥
apart s e = omega arith

-- If one of two results stalls and the other does not, the outcome tells which one it is.
either_case : {Kind : Type 0} (b : Bool) (stalled : Kind) (went : Kind × Net) (net taken : Net) → (went.0 ≡ stalled → ⊥) →
    ((if b then went else (stalled, net)).0 ≡ stalled → (if b then went else (stalled, net)) ≡ (stalled, net))
    × (((if b then went else (stalled, net)).0 ≡ stalled → ⊥) → (if b then went else (stalled, net)) ≡ (if b then went else (stalled, taken)))
either_case true stalled went net taken moves = ((λ e. absurd (moves e)), (λ n. refl))
either_case false stalled went net taken moves = ((λ e. refl), (λ n. absurd (n refl)))

-- If the test says that a message does not move, the move stalls.
stalls : {Kind : Type 0} (stalled answer : Kind) (b : Bool) → (answer ≡ stalled) ⊎ (answer ≡ stalled → ⊥) → ((answer ≡ stalled → ⊥) → IsTrue b) → b ≡ false
    → answer ≡ stalled
stalls stalled answer b (inl e) fact none = e
stalls stalled answer b (inr n) fact none = absurd (let no : true ≡ false = sym (fact n) ∙ none in cc)

-- ---- up

pub up_stalls_or_not : (u : UpMove) → (u ≡ up.Stalled) ⊎ (u ≡ up.Stalled → ⊥)
up_stalls_or_not up.Moved = inr (λ e. cc)
up_stalls_or_not (up.Combined p q) = inr (λ e. cc)
up_stalls_or_not up.Stalled = inl refl

module _ (z : Sizes) (s out : ℕ) (x : Request) where
  -- the answer to the request, by the queue and the combination
  answer_by : List Request → Option Combination → UpMove
  answer_by q None = if nat_lt (length q) z.c then up.Moved else up.Stalled
  answer_by q (Some j) = up.Combined j.made.leader j.made.second

  module _ (net taken : Net) where
    answer_is : (j : Option Combination) → (moves.accepted z net taken s out x j).0 ≡ answer_by (taken.requests (suc s) out) j
    unfolding answer_by
    answer_is (Some j) = refl
    answer_is None = go (nat_lt (length (taken.requests (suc s) out)) z.c) refl
      where
        go : (b : Bool) → nat_lt (length (taken.requests (suc s) out)) z.c ≡ b
            → (moves.queued z net taken s out x).0 ≡ (if nat_lt (length (taken.requests (suc s) out)) z.c then up.Moved else up.Stalled)
        go true e = rw e refl
        go false e = rw e refl

    by_combination : (j : Option Combination) →
        ((moves.accepted z net taken s out x j).0 ≡ up.Stalled → moves.accepted z net taken s out x j ≡ (up.Stalled, net))
        × (((moves.accepted z net taken s out x j).0 ≡ up.Stalled → ⊥) → moves.accepted z net taken s out x j ≡ moves.accepted z taken taken s out x j)
    by_combination (Some j) = ((λ e. absurd (let no : up.Combined j.made.leader j.made.second ≡ up.Stalled = e in cc)), (λ n. refl))
    by_combination None = either_case (nat_lt (length (taken.requests (suc s) out)) z.c) up.Stalled
        (up.Moved, put_requests taken (suc s) out (taken.requests (suc s) out ++ unmarked x ∷ [])) net taken
        (λ e. let no : up.Moved ≡ up.Stalled = e in cc)

    pub offered_cases : ((moves.offered z net taken s out x).0 ≡ up.Stalled → moves.offered z net taken s out x ≡ (up.Stalled, net))
        × (((moves.offered z net taken s out x).0 ≡ up.Stalled → ⊥) → moves.offered z net taken s out x ≡ moves.offered z taken taken s out x)
    offered_cases = by_combination (combination z.b z.r x (taken.requests (suc s) out) (taken.records s out))

  -- The answer is the same in the network with the request still in its place.
  pub same_answer : (net : Net) (w : ℕ) (rest : List Request) →
      (moves.offered z net (put_requests net s w rest) s out x).0 ≡ (moves.offered z net net s out x).0
  same_answer net w rest =
      answer_is net (put_requests net s w rest)
      (combination z.b z.r x ((put_requests net s w rest).requests (suc s) out) (net.records s out))
      ∙ ap (λ q. answer_by q (combination z.b z.r x q (net.records s out))) (put2_other net.requests s w rest (suc s) out (λ e _. apart s (sym e)))
      ∙ sym (answer_is net net (combination z.b z.r x (net.requests (suc s) out) (net.records s out)))

pub up_is : (z : Sizes) (net : Net) (s w out : ℕ) (x : Request) → s < z.k → slice_get (net.requests s w) 0 ≡ Some x →
    out ≡ wire_after z.k s w (x.word % wires z)
    → moves.moved_up z net s w ≡ moves.offered z net (put_requests net s w (drop 1 (net.requests s w))) s out x
unfolding moves.moved_up
up_is z net s w out x stage found way =
    ap (λ (b : Bool). if b then moves.up_from z net s w (net.requests s w) else (up.Stalled, net)) (lt-ltb s z.k stage)
    ∙ ap (moves.up_from z net s w) (first_is (net.requests s w) x found)
    ∙ ap (λ o. moves.offered z net (put_requests net s w (drop 1 (net.requests s w))) s o x) (sym way)

-- ---- down

pub down_stalls_or_not : (u : DownMove) → (u ≡ down.Stalled) ⊎ (u ≡ down.Stalled → ⊥)
down_stalls_or_not down.Moved = inr (λ e. cc)
down_stalls_or_not (down.Answered p) = inr (λ e. cc)
down_stalls_or_not down.Stalled = inl refl

module _ (wire : ℕ → ℕ) (s w : ℕ) (rest : List Reply) where
  -- Replacing the replies on a wire after a stage leaves those before the stage.
  before_same : (net : Net) (v : ℕ) → (put_replies net (suc s) w rest).replies s v ≡ net.replies s v
  before_same net v = put2_other net.replies (suc s) w rest s v (λ e _. apart s e)

  -- Putting replies before a stage and replacing the replies on a wire after it can be done in either order.
  pub push_taken : (ys : List Reply) (net : Net) → moves.push_all wire s ys (put_replies net (suc s) w rest)
      ≡ put_replies (moves.push_all wire s ys net) (suc s) w rest
  unfolding moves.push_all
  push_taken [] net = refl
  push_taken (y ∷ ys) net =
      ap (moves.push_all wire s ys) (λ j. record {
        requests = net.requests;
        records = net.records;
        replies = (ap (λ (zs : List Reply). put2 (put2 net.replies (suc s) w rest) s (wire y.leader) (zs ++ y ∷ [])) (before_same net (wire y.leader))
            ∙ put2_comm net.replies (suc s) w rest s (wire y.leader) (net.replies s (wire y.leader) ++ y ∷ []) (λ e. apart s (sym e))) j;
      })
      ∙ push_taken ys (put_replies net s (wire y.leader) (net.replies s (wire y.leader) ++ y ∷ []))

  -- Whether replies have room before a stage does not depend on the replies on a wire after it.
  pub room_same : (c : ℕ) (ys : List Reply) (net : Net) → moves.has_room c wire s (put_replies net (suc s) w rest) ys ≡ moves.has_room c wire s net ys
  room_same c [] net = refl
  room_same c (y ∷ ys) net = λ j. nat_le (length (before_same net (wire y.leader) j)) c && room_same c ys net j

moved_on : (es : List Record) → moves.answered es ≡ down.Stalled → ⊥
moved_on [] e = let no : down.Moved ≡ down.Stalled = e in cc
moved_on (f ∷ es) e = let no : down.Answered (answered_seconds f es) ≡ down.Stalled = e in cc

module _ (z : Sizes) (s w : ℕ) (x : Reply) (es : List Record) where
  abbrev wire : ℕ → ℕ
  wire = wire_before z.k s w

  abbrev ys : List Reply
  ys = answers es x

  abbrev without : Net → Net
  without net = put_records net s w (records_but x.leader (net.records s w))

  abbrev all : Net → Net
  all net = moves.push_all wire s ys (without net)

  pub answer_cases : (net taken : Net) → ((moves.answer z net taken s w x es).0 ≡ down.Stalled → moves.answer z net taken s w x es ≡ (down.Stalled, net))
      × (((moves.answer z net taken s w x es).0 ≡ down.Stalled → ⊥) → moves.answer z net taken s w x es ≡ moves.answer z taken taken s w x es)
  answer_cases net taken = either_case (moves.has_room z.c wire s (all taken) ys) down.Stalled (moves.answered es, all taken) net taken (moved_on es)

  pub same_answer_down : (net : Net) (rest : List Reply) →
      (moves.answer z net (put_replies net (suc s) w rest) s w x es).0 ≡ (moves.answer z net net s w x es).0
  same_answer_down net rest = go (moves.has_room z.c wire s (all net) ys) refl
    where
      room : moves.has_room z.c wire s (all (put_replies net (suc s) w rest)) ys ≡ moves.has_room z.c wire s (all net) ys
      room = ap (λ (n : Net). moves.has_room z.c wire s n ys) (push_taken wire s w rest ys (without net)) ∙ room_same wire s w rest z.c ys (all net)

      go : (b : Bool) → moves.has_room z.c wire s (all net) ys ≡ b →
          (moves.answer z net (put_replies net (suc s) w rest) s w x es).0 ≡ (moves.answer z net net s w x es).0
      go true e = rw (e, room ∙ e) refl
      go false e = rw (e, room ∙ e) refl

pub down_is : (z : Sizes) (net : Net) (s w : ℕ) (x : Reply) → s < z.k → slice_get (net.replies (suc s) w) 0 ≡ Some x
    → moves.moved_down z net s w
    ≡ moves.answer z net (put_replies net (suc s) w (drop 1 (net.replies (suc s) w))) s w x (records_of x.leader (net.records s w))
unfolding moves.moved_down
down_is z net s w x stage found =
    ap (λ (b : Bool). if b then moves.down_from z net s w (net.replies (suc s) w) else (down.Stalled, net)) (lt-ltb s z.k stage)
    ∙ ap (moves.down_from z net s w) (first_is (net.replies (suc s) w) x found)

-- ---- for the calls

way_is : (m l : NetworkLists) (s w out target : ℕ) (x : Request) → l ≡ m → out ≡ wire_after l.k s w target →
    target ≡ x.word % 2 ^ l.k → out ≡ wire_after m.k s w (x.word % 2 ^ m.k)
way_is m l s w out target x view way aim =
    way ∙ ap (wire_after l.k s w) aim ∙ ap (λ (n : NetworkLists). wire_after n.k s w (x.word % 2 ^ n.k)) view

-- If the switch would not take the first request on a wire, moving it up stalls and leaves the network as it was.
pub up_stalled : (m : NetworkLists) (w : ℕ) {l : NetworkLists} {s out target : ℕ} {x : Request} {b : Bool} → l ≡ m → s < m.k →
    slice_get ((net_of m).requests s w) 0 ≡ Some x → out ≡ wire_after l.k s w target → target ≡ x.word % 2 ^ l.k →
    (IsTrue b → (moves.offered (sizes_of m) (net_of m) (net_of m) s out x).0 ≡ up.Stalled → ⊥)
    × (((moves.offered (sizes_of m) (net_of m) (net_of m) s out x).0 ≡ up.Stalled → ⊥) → IsTrue b) → b ≡ false →
    moves.moved_up (sizes_of m) (net_of m) s w ≡ (up.Stalled, net_of m)
up_stalled m w {l} {s} {out} {target} {x} {b} view stage found way aim fact none =
    up_is (sizes_of m) (net_of m) s w out x stage found (way_is m l s w out target x view way aim)
    ∙ (offered_cases (sizes_of m) s out x (net_of m) (put_requests (net_of m) s w (drop 1 ((net_of m).requests s w)))).0
    (same_answer (sizes_of m) s out x (net_of m) w (drop 1 ((net_of m).requests s w))
    ∙ stalls up.Stalled _ b (up_stalls_or_not ((moves.offered (sizes_of m) (net_of m) (net_of m) s out x).0)) fact.1 none)

-- If the switch would take the first request on a wire, moving it up is offering it in the network without it.
pub up_went : (m : NetworkLists) (w : ℕ) {l : NetworkLists} {s out target : ℕ} {x : Request} {b : Bool} {net : Net} → l ≡ m → s < m.k →
    slice_get ((net_of m).requests s w) 0 ≡ Some x → out ≡ wire_after l.k s w target → target ≡ x.word % 2 ^ l.k →
    (IsTrue b → (moves.offered (sizes_of m) (net_of m) (net_of m) s out x).0 ≡ up.Stalled → ⊥)
    × (((moves.offered (sizes_of m) (net_of m) (net_of m) s out x).0 ≡ up.Stalled → ⊥) → IsTrue b) → b ≡ true →
    net ≡ put_requests (net_of m) s w (drop 1 ((net_of m).requests s w)) →
    moves.moved_up (sizes_of m) (net_of m) s w ≡ moves.offered (sizes_of m) net net s out x
up_went m w {l} {s} {out} {target} {x} {b} {net} view stage found way aim fact goes taken =
    up_is (sizes_of m) (net_of m) s w out x stage found (way_is m l s w out target x view way aim)
    ∙ (offered_cases (sizes_of m) s out x (net_of m) (put_requests (net_of m) s w (drop 1 ((net_of m).requests s w)))).1
    (λ e. fact.0 goes (sym (same_answer (sizes_of m) s out x (net_of m) w (drop 1 ((net_of m).requests s w))) ∙ e))
    ∙ ap (λ (n : Net). moves.offered (sizes_of m) n n s out x) (sym taken)

-- If the switch has no room for the replies, moving the first reply down stalls and leaves the network as it was.
pub down_stalled : (m : NetworkLists) (w : ℕ) {s : ℕ} {x : Reply} {b : Bool} → s < m.k → slice_get ((net_of m).replies (suc s) w) 0 ≡ Some x →
    (IsTrue b → (moves.answer (sizes_of m) (net_of m) (net_of m) s w x (records_of x.leader ((net_of m).records s w))).0 ≡ down.Stalled → ⊥)
    × (((moves.answer (sizes_of m) (net_of m) (net_of m) s w x (records_of x.leader ((net_of m).records s w))).0 ≡ down.Stalled → ⊥) → IsTrue b)
    → b ≡ false → moves.moved_down (sizes_of m) (net_of m) s w ≡ (down.Stalled, net_of m)
down_stalled m w {s} {x} {b} stage found fact none =
    down_is (sizes_of m) (net_of m) s w x stage found
    ∙ (answer_cases (sizes_of m) s w x (records_of x.leader ((net_of m).records s w)) (net_of m)
    (put_replies (net_of m) (suc s) w (drop 1 ((net_of m).replies (suc s) w)))).0
    (same_answer_down (sizes_of m) s w x (records_of x.leader ((net_of m).records s w)) (net_of m) (drop 1 ((net_of m).replies (suc s) w))
    ∙ stalls down.Stalled _ b
    (down_stalls_or_not ((moves.answer (sizes_of m) (net_of m) (net_of m) s w x (records_of x.leader ((net_of m).records s w))).0)) fact.1 none)

-- If the switch has room for the replies, moving the first reply down is answering it in the network without it.
pub down_went : (m : NetworkLists) (w : ℕ) {s : ℕ} {x : Reply} {b : Bool} {net : Net} → s < m.k → slice_get ((net_of m).replies (suc s) w) 0 ≡ Some x →
    (IsTrue b → (moves.answer (sizes_of m) (net_of m) (net_of m) s w x (records_of x.leader ((net_of m).records s w))).0 ≡ down.Stalled → ⊥)
    × (((moves.answer (sizes_of m) (net_of m) (net_of m) s w x (records_of x.leader ((net_of m).records s w))).0 ≡ down.Stalled → ⊥) → IsTrue b)
    → b ≡ true → net ≡ put_replies (net_of m) (suc s) w (drop 1 ((net_of m).replies (suc s) w))
    → moves.moved_down (sizes_of m) (net_of m) s w ≡ moves.answer (sizes_of m) net net s w x (records_of x.leader (net.records s w))
down_went m w {s} {x} {b} {net} stage found fact goes taken =
    down_is (sizes_of m) (net_of m) s w x stage found
    ∙ (answer_cases (sizes_of m) s w x (records_of x.leader ((net_of m).records s w)) (net_of m)
    (put_replies (net_of m) (suc s) w (drop 1 ((net_of m).replies (suc s) w)))).1
    (λ e. fact.0 goes (sym (same_answer_down (sizes_of m) s w x (records_of x.leader ((net_of m).records s w)) (net_of m)
    (drop 1 ((net_of m).replies (suc s) w))) ∙ e))
    ∙ ap (λ (n : Net). moves.answer (sizes_of m) n n s w x (records_of x.leader (n.records s w))) (sym taken)
