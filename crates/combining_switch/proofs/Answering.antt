-- The answer to a reply, by the test of room for its replies.
use Rattle.std.proofs.Common.{◌≡◌, ℕ, Bool, true, false, List, [], ◌∷◌, refl, sym, ap, ◌∙◌}
use Rattle.std.specs.Prelude.{if◌then◌else◌}
use Rattle.messages.specs.declared.message.Record.{Record}
use Rattle.messages.specs.declared.message.Reply.{Reply}
use Rattle.messages.specs.Queues.{answers, records_but, records_of}
use Rattle.messages.specs.Seconds.{answered_seconds}
use Rattle.combining_switch.specs.Pools.{PoolLists}
use Rattle.combining_switch.specs.declared.answers.Answered.{Answered}
use Rattle.combining_switch.specs.declared.answers.Answered.TheVariants.{One, Many, NoRoom}
use Rattle.combining_switch.specs.Switches.{SwitchState, answered, answered_for, has_room, put_replies, records_at, with_records}

-- the answer, the switch and the pool if there is room for these replies, and if there is none
abbrev pub answered_by : SwitchState → PoolLists → (out : ℕ) → Reply → List Reply → Bool → Answered × SwitchState × PoolLists
answered_by s pool out x ys b =
    if b
    then (
      answered_for (records_of x.leader (records_at s out)),
      with_records s out (records_but x.leader (records_at s out)),
      put_replies s.its_bit s.inputs ys pool,
    )
    else (NoRoom, s, pool)

-- What a switch does with a reply depends on whether there is room for all the replies that it gives.
pub by_room : (s : SwitchState) (pool : PoolLists) (out : ℕ) (x : Reply) (ys : List Reply) (b : Bool)
    → ys ≡ answers (records_of x.leader (records_at s out)) x
    → has_room s.c s.its_bit s.inputs (put_replies s.its_bit s.inputs ys pool) ys ≡ b → answered s pool out x ≡ answered_by s pool out x ys b
unfolding answered
by_room s pool out x ys b same room =
    ap (λ (zs : List Reply). answered_by s pool out x zs (has_room s.c s.its_bit s.inputs (put_replies s.its_bit s.inputs zs pool) zs)) (sym same)
    ∙ ap (answered_by s pool out x ys) room

never_none : (es : List Record) → answered_for es ≡ NoRoom → ⊥
never_none [] e = let no : One ≡ NoRoom = e in cc
never_none (f ∷ es) e = let no : Many (answered_seconds f es) ≡ NoRoom = e in cc

abbrev answer_of : Answered × SwitchState × PoolLists → Answered
answer_of r = r.0

-- The test of room holds exactly if the answer is not that there is no room.
pub room_holds : (s : SwitchState) (pool : PoolLists) (out : ℕ) (x : Reply) (ys : List Reply) (b : Bool)
    → ys ≡ answers (records_of x.leader (records_at s out)) x → has_room s.c s.its_bit s.inputs (put_replies s.its_bit s.inputs ys pool) ys ≡ b
    → (b ≡ true → (answered s pool out x).0 ≡ NoRoom → ⊥) × (((answered s pool out x).0 ≡ NoRoom → ⊥) → b ≡ true)
room_holds s pool out x ys true same room = (
  (λ t e. never_none (records_of x.leader (records_at s out)) (sym (ap answer_of (by_room s pool out x ys true same room)) ∙ e)),
  (λ n. refl),
)
room_holds s pool out x ys false same room = (
  (λ t. absurd (let no : false ≡ true = t in cc)),
  (λ n. absurd (n (ap answer_of (by_room s pool out x ys false same room)))),
)
