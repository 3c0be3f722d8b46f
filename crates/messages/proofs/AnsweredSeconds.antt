-- A move names all seconds if there are at most three.
use Rattle.std.proofs.Common.{◌≡◌, ◌≤◌, ℕ, suc, Bool, true, false, List, [], ◌∷◌, map, length, nat_lt, Some, refl, sym, ap, ◌∙◌, subst, arith}
use Rattle.std.specs.Prelude.{if◌then◌else◌, slice_get}
use Rattle.omega_wires.specs.Wires.{wire_before}
use Rattle.messages.specs.declared.message.Record.{Record}
use Rattle.messages.specs.declared.message.Reply.{Reply}
use Rattle.messages.specs.declared.moves.DownMove.{DownMove}
use Rattle.messages.specs.declared.moves.DownMove.TheVariants as down
use Rattle.messages.specs.declared.seconds.Seconds.{Seconds}
use Rattle.messages.specs.Laws.{SecondsAreAnswered}
use Rattle.messages.specs.Moves.{answer, answered, down_from, has_room, moved_down, push_all}
use Rattle.messages.specs.Network.{Net, Sizes, put_records, put_replies}
use Rattle.messages.specs.Queues.{answers, records_but, records_of}
use Rattle.messages.specs.Seconds.{seconds_of, answered_seconds}

abbrev second : Record → ℕ
second e = e.second

three_answered : (e : Record) (es : List Record) → length (e ∷ es) ≤ 3 → seconds_of (answered_seconds e es) ≡ map second (e ∷ es)
three_answered e [] few = refl
three_answered e (f ∷ []) few = refl
three_answered e (f ∷ g ∷ []) few = refl
three_answered e (f ∷ g ∷ h ∷ rest) few = absurd (omega (arith, few))

module _ (net : Net) (to : Seconds) where
  by_room : (b : Bool) (es : List Record) (all : Net) → length es ≤ 3
      → (if◌then◌else◌ {A = DownMove × Net} b (answered es, all) (down.Stalled, net)).0 ≡ down.Answered to → seconds_of to ≡ map second es
  by_room false es all few e = absurd (let no : down.Stalled ≡ down.Answered to = e in cc)
  by_room true [] all few e = absurd (let no : down.Moved ≡ down.Answered to = e in cc)
  by_room true (d ∷ es) all few e =
      let is_answered : down.Answered (answered_seconds d es) ≡ down.Answered to = e in
      let same : answered_seconds d es ≡ to = cc in
      ap seconds_of (sym same) ∙ three_answered d es few

module _ (z : Sizes) (net : Net) (s w : ℕ) (x : Reply) (to : Seconds) (few : length (records_of x.leader (net.records s w)) ≤ 3) where
  abbrev AnsweredSeconds : DownMove × Net → Type 0
  AnsweredSeconds r = r.0 ≡ down.Answered to

  abbrev own : List Record
  own = records_of x.leader (net.records s w)

  by_answer : (taken : Net) → AnsweredSeconds (answer z net taken s w x own) → seconds_of to ≡ map second own
  by_answer taken e =
      let all = push_all (wire_before z.k s w) s (answers own x) (put_records taken s w (records_but x.leader (taken.records s w))) in
      by_room net to (has_room z.c (wire_before z.k s w) s all (answers own x)) own all few e

  by_replies : (q : List Reply) → slice_get q 0 ≡ Some x → AnsweredSeconds (down_from z net s w q) → seconds_of to ≡ map second own
  by_replies [] first e = cc
  by_replies (y ∷ rest) first e =
      let same : y ≡ x = cc in
      by_answer (put_replies net (suc s) w rest)
      (subst (λ (v : Reply). AnsweredSeconds (answer z net (put_replies net (suc s) w rest) s w v (records_of v.leader (net.records s w)))) same e)

  by_stage : (b : Bool) → slice_get (net.replies (suc s) w) 0 ≡ Some x
      → AnsweredSeconds (if◌then◌else◌ {A = DownMove × Net} b (down_from z net s w (net.replies (suc s) w)) (down.Stalled, net)) →
      seconds_of to ≡ map second own
  by_stage true first e = by_replies (net.replies (suc s) w) first e
  by_stage false first e = absurd (let no : down.Stalled ≡ down.Answered to = e in cc)

-- If a leader has at most three records, a move of its reply that answers seconds names those of all records,
-- in the order of the records.
pub all_answered : SecondsAreAnswered
unfolding moved_down
all_answered z net s w x to first few e = by_stage z net s w x to few (nat_lt s z.k) first e
