-- A move is what a switch did with the message, which is then taken from its place.
use Rattle.std.proofs.Common.{◌≡◌, ℕ, suc, ◌%◌, ◌^◌, ◌<◌, Bool, true, false, List, [], ◌∷◌, ◌++◌, length}
use Rattle.std.proofs.Common.{drop, nat_lt, Option, Some, None, refl, sym, ap, ◌∙◌, arith, lt-ltb}
use Rattle.std.specs.Prelude.{if◌then◌else◌, slice_get}
use Rattle.omega_wires.specs.Wires.{wire_after, wire_before}
use Rattle.messages.specs.declared.message.Request.{Request}
use Rattle.messages.specs.declared.message.Reply.{Reply}
use Rattle.messages.specs.declared.message.Record.{Record}
use Rattle.messages.specs.declared.moves.UpMove.{UpMove}
use Rattle.messages.specs.declared.moves.UpMove.TheVariants as up
use Rattle.messages.specs.declared.moves.DownMove.{DownMove}
use Rattle.messages.specs.declared.moves.DownMove.TheVariants as down
use Rattle.messages.specs.Places.{put2}
use Rattle.messages.specs.Queues.{Combination, answers, combination, records_but, records_of, unmarked}
use Rattle.messages.specs.Network.{Net, Sizes, put_records, put_replies, put_requests, wires}
use Rattle.messages.specs.Moves as moves
use Rattle.combining_switch.specs.declared.answers.Accepted.{Accepted}
use Rattle.combining_switch.specs.declared.answers.Accepted.TheVariants.{Queued, Combined, Full}
use Rattle.combining_switch.specs.declared.answers.Answered.{Answered}
use Rattle.combining_switch.specs.declared.answers.Answered.TheVariants.{One, Many, NoRoom}
use Rattle.combining_switch.specs.Switches.{answered_for}
use Rattle.ring_network.specs.Networks.{NetworkLists, net_of, sizes_of}
use Rattle.ring_network.specs.Offers.{accepted_on, accepted_where, answered_on, answered_where, first_reply_taken, first_request_taken}
use Rattle.messages.proofs.Lemmas.{combination_joins, put2_comm, put2_other}
use Rattle.omega_network.specs.Answers.{down_of, up_of}
use Rattle.omega_network.proofs.Lemmas.{first_is, push_taken, room_same}

apart : (s : ℕ) → s ≡ suc s → ⊥
apart s e = omega arith

-- ---- up

-- The second of a combination is the leader of the request that came.
combined_second : (b r : ℕ) (x : Request) (queue : List Request) (records : List Record) (j : Combination) → combination b r x queue records ≡ Some j →
    j.made.second ≡ x.leader
combined_second b r x queue records j e = ap (λ (i : Combination). i.made.second) ((combination_joins b r x queue records j e).is)

abbrev pub net_after_up : Accepted → Net → (s w : ℕ) → Net
net_after_up Queued net s w = first_request_taken net s w
net_after_up (Combined first) net s w = first_request_taken net s w
net_after_up Full net s w = net

module _ (z : Sizes) (net : Net) (s w out : ℕ) (x : Request) (rest : List Request) (first : net.requests s w ≡ x ∷ rest) where
  abbrev taken : Net
  taken = put_requests net s w rest

  queue_same : taken.requests (suc s) out ≡ net.requests (suc s) out
  queue_same = put2_other net.requests s w rest (suc s) out (λ e _. apart s (sym e))

  -- What is put at the output, and then taken before it, may be taken first.
  swapped : (q : List Request) (es : List Record) →
      put_records (put_requests taken (suc s) out q) s out es ≡ first_request_taken (put_records (put_requests net (suc s) out q) s out es) s w
  swapped q es = λ j. record {
    requests = (put2_comm net.requests s w rest (suc s) out q (apart s)
        ∙ ap (put2 (put2 net.requests (suc s) out q) s w)
        (ap (drop 1) (sym first) ∙ ap (drop 1) (sym (put2_other net.requests (suc s) out q s w (λ e _. apart s e))))) j;
    records = put2 net.records s out es;
    replies = net.replies;
  }

  swapped_queue : (q : List Request) → put_requests taken (suc s) out q ≡ first_request_taken (put_requests net (suc s) out q) s w
  swapped_queue q = λ j. record {
    requests = (put2_comm net.requests s w rest (suc s) out q (apart s)
        ∙ ap (put2 (put2 net.requests (suc s) out q) s w)
        (ap (drop 1) (sym first) ∙ ap (drop 1) (sym (put2_other net.requests (suc s) out q s w (λ e _. apart s e))))) j;
    records = net.records;
    replies = net.replies;
  }

  offered_is : moves.offered z net taken s out x
      ≡ (up_of (accepted_on z net s out x).0 x.leader, net_after_up (accepted_on z net s out x).0 (accepted_on z net s out x).1 s w)
  unfolding accepted_on
  offered_is =
      ap (λ q. moves.accepted z net taken s out x (combination z.b z.r x q (net.records s out))) queue_same
      ∙ go (combination z.b z.r x (net.requests (suc s) out) (net.records s out))
      (λ j e. combined_second z.b z.r x (net.requests (suc s) out) (net.records s out) j e)
    where
      Goal : Option Combination → Type 0
      Goal j = moves.accepted z net taken s out x j
          ≡ (up_of (accepted_where z net s out x j).0 x.leader, net_after_up (accepted_where z net s out x j).0 (accepted_where z net s out x j).1 s w)

      queued : (b : Bool) → nat_lt (length (net.requests (suc s) out)) z.c ≡ b
          → moves.accepted z net taken s out x None ≡ (
            up_of (accepted_where z net s out x None).0 x.leader,
            net_after_up (accepted_where z net s out x None).0 (accepted_where z net s out x None).1 s w,
          )
      queued true e =
          rw (e, ap (λ q. nat_lt (length q) z.c) queue_same ∙ e)
          (λ j. (
            up.Moved,
            (ap (λ q. put_requests taken (suc s) out (q ++ unmarked x ∷ [])) queue_same
                ∙ swapped_queue (net.requests (suc s) out ++ unmarked x ∷ [])) j,
          ))
      queued false e = rw (e, ap (λ q. nat_lt (length q) z.c) queue_same ∙ e) refl

      go : (j : Option Combination) → ((i : Combination) → j ≡ Some i → i.made.second ≡ x.leader)
          → moves.accepted z net taken s out x j ≡ (
            up_of (accepted_where z net s out x j).0 x.leader,
            net_after_up (accepted_where z net s out x j).0 (accepted_where z net s out x j).1 s w,
          )
      go None second = queued (nat_lt (length (net.requests (suc s) out)) z.c) refl
      go (Some i) second = λ j. (up.Combined i.made.leader (second i refl j), swapped i.queue (net.records s out ++ i.made ∷ []) j)

pub up_law : (z : Sizes) (net : Net) (s w out : ℕ) (x : Request) → s < z.k → slice_get (net.requests s w) 0 ≡ Some x →
    out ≡ wire_after z.k s w (x.word % wires z)
    → moves.moved_up z net s w ≡ (up_of (accepted_on z net s out x).0 x.leader, net_after_up (accepted_on z net s out x).0 (accepted_on z net s out x).1 s w)
unfolding moves.moved_up
up_law z net s w out x stage found way =
    let first : net.requests s w ≡ x ∷ drop 1 (net.requests s w) = first_is (net.requests s w) x found in
    ap (λ (b : Bool). if b then moves.up_from z net s w (net.requests s w) else (up.Stalled, net)) (lt-ltb s z.k stage)
    ∙ ap (moves.up_from z net s w) first
    ∙ ap (λ o. moves.offered z net (put_requests net s w (drop 1 (net.requests s w))) s o x) (sym way)
    ∙ offered_is z net s w out x (drop 1 (net.requests s w)) first

-- ---- down

abbrev pub net_after_down : Answered → Net → (d w : ℕ) → Net
net_after_down One net d w = first_reply_taken net d w
net_after_down (Many seconds) net d w = first_reply_taken net d w
net_after_down NoRoom net d w = net

module _ (wire : ℕ → ℕ) (s w : ℕ) (rest : List Reply) where
  -- Putting replies before a stage leaves those after it.
  after_same : (ys : List Reply) (net : Net) → (moves.push_all wire s ys net).replies (suc s) w ≡ net.replies (suc s) w
  unfolding moves.push_all
  after_same [] net = refl
  after_same (y ∷ ys) net =
      after_same ys (put_replies net s (wire y.leader) (net.replies s (wire y.leader) ++ y ∷ []))
      ∙ put2_other net.replies s (wire y.leader) (net.replies s (wire y.leader) ++ y ∷ []) (suc s) w (λ e _. apart s (sym e))

answered_same : (es : List Record) → moves.answered es ≡ down_of (answered_for es)
answered_same [] = refl
answered_same (e ∷ es) = refl

not_refused : (es : List Record) (net : Net) (d w : ℕ) → net_after_down (answered_for es) net d w ≡ first_reply_taken net d w
not_refused [] net d w = refl
not_refused (e ∷ es) net d w = refl

module _ (z : Sizes) (net : Net) (s w : ℕ) (x : Reply) (rest : List Reply) (first : net.replies (suc s) w ≡ x ∷ rest) where
  abbrev wire : ℕ → ℕ
  wire = wire_before z.k s w

  abbrev es : List Record
  es = records_of x.leader (net.records s w)

  abbrev ys : List Reply
  ys = answers es x

  abbrev left : Net
  left = put_records net s w (records_but x.leader (net.records s w))

  abbrev before : Net
  before = put_records (put_replies net (suc s) w rest) s w (records_but x.leader (net.records s w))

  pushed : moves.push_all wire s ys before ≡ put_replies (moves.push_all wire s ys left) (suc s) w rest
  pushed = push_taken wire s w rest ys left

  then_taken : put_replies (moves.push_all wire s ys left) (suc s) w rest ≡ first_reply_taken (moves.push_all wire s ys left) (suc s) w
  then_taken = ap (put_replies (moves.push_all wire s ys left) (suc s) w) (sym (ap (drop 1) (after_same wire s w rest ys left ∙ first)))

  room : moves.has_room z.c wire s (moves.push_all wire s ys before) ys ≡ moves.has_room z.c wire s (moves.push_all wire s ys left) ys
  room = ap (λ (n : Net). moves.has_room z.c wire s n ys) pushed ∙ room_same wire s w rest z.c ys (moves.push_all wire s ys left)

  answer_is : moves.answer z net (put_replies net (suc s) w rest) s w x es
      ≡ (down_of (answered_on z net s w x).0, net_after_down (answered_on z net s w x).0 (answered_on z net s w x).1 (suc s) w)
  unfolding answered_on
  answer_is = go (moves.has_room z.c wire s (moves.push_all wire s ys left) ys) refl
    where
      go : (b : Bool) → moves.has_room z.c wire s (moves.push_all wire s ys left) ys ≡ b
          → moves.answer z net (put_replies net (suc s) w rest) s w x es
          ≡ (down_of (answered_where z net s w x es).0, net_after_down (answered_where z net s w x es).0 (answered_where z net s w x es).1 (suc s) w)
      go true e = rw (e, room ∙ e) (λ j. (answered_same es j, (pushed ∙ then_taken ∙ sym (not_refused es (moves.push_all wire s ys left) (suc s) w)) j))
      go false e = rw (e, room ∙ e) refl

pub down_law : (z : Sizes) (net : Net) (s w : ℕ) (x : Reply) → s < z.k → slice_get (net.replies (suc s) w) 0 ≡ Some x
    → moves.moved_down z net s w ≡ (down_of (answered_on z net s w x).0, net_after_down (answered_on z net s w x).0 (answered_on z net s w x).1 (suc s) w)
unfolding moves.moved_down
down_law z net s w x stage found =
    let first : net.replies (suc s) w ≡ x ∷ drop 1 (net.replies (suc s) w) = first_is (net.replies (suc s) w) x found in
    ap (λ (b : Bool). if b then moves.down_from z net s w (net.replies (suc s) w) else (down.Stalled, net)) (lt-ltb s z.k stage)
    ∙ ap (moves.down_from z net s w) first
    ∙ answer_is z net s w x (drop 1 (net.replies (suc s) w)) first

-- ---- for the calls, if the switch answers b; the code sees the network as l, a caller as m

-- If the switch answers b to the first request on a wire, b determines the outcome of moving it up and the network
-- then.
pub up_ends : (m : NetworkLists) (w : ℕ) {l : NetworkLists} {net : Net} {s out target : ℕ} {x : Request} {a b : Accepted} → l ≡ m → s < m.k →
    slice_get ((net_of m).requests s w) 0 ≡ Some x → out ≡ wire_after l.k s w target → target ≡ x.word % 2 ^ l.k →
    a ≡ (accepted_on (sizes_of m) (net_of m) s out x).0 → net ≡ (accepted_on (sizes_of m) (net_of m) s out x).1 → a ≡ b →
    (up_of b x.leader ≡ (moves.moved_up (sizes_of m) (net_of m) s w).0) × (net_after_up b net s w ≡ (moves.moved_up (sizes_of m) (net_of m) s w).1)
up_ends m w {l} {net} {s} {out} {target} {x} {a} {b} view stage found way aim answer after is =
    let same : out ≡ wire_after m.k s w (x.word % 2 ^ m.k) =
    way ∙ ap (wire_after l.k s w) aim ∙ ap (λ (n : NetworkLists). wire_after n.k s w (x.word % 2 ^ n.k)) view in
    let law = up_law (sizes_of m) (net_of m) s w out x stage found same in
    let fact : b ≡ (accepted_on (sizes_of m) (net_of m) s out x).0 = sym is ∙ answer in (
      ap (λ e. up_of e x.leader) fact ∙ sym (ap (λ (r : UpMove × Net). r.0) law),
      (λ j. net_after_up (fact j) (after j) s w) ∙ sym (ap (λ (r : UpMove × Net). r.1) law),
    )

-- If the switch answers b to the first reply on a wire, b determines the outcome of moving it down and the network
-- then.
pub down_ends : (m : NetworkLists) (w : ℕ) {net : Net} {s : ℕ} {x : Reply} {a b : Answered} → s < m.k →
    slice_get ((net_of m).replies (suc s) w) 0 ≡ Some x →
    a ≡ (answered_on (sizes_of m) (net_of m) s w x).0 → net ≡ (answered_on (sizes_of m) (net_of m) s w x).1 → a ≡ b →
    (down_of b ≡ (moves.moved_down (sizes_of m) (net_of m) s w).0) × (net_after_down b net (suc s) w ≡ (moves.moved_down (sizes_of m) (net_of m) s w).1)
down_ends m w {net} {s} {x} {a} {b} stage found answer after is =
    let law = down_law (sizes_of m) (net_of m) s w x stage found in
    let fact : b ≡ (answered_on (sizes_of m) (net_of m) s w x).0 = sym is ∙ answer in (
      ap down_of fact ∙ sym (ap (λ (r : DownMove × Net). r.0) law),
      (λ j. net_after_down (fact j) (after j) (suc s) w) ∙ sym (ap (λ (r : DownMove × Net). r.1) law),
    )
