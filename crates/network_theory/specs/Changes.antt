-- What combining, answering and serving do to places and meanings. Nothing names a message that is on its way between
-- two places: it was taken out of its place before.
use Rattle.std.specs.Prelude.{◌≡◌, ℕ, suc, ◌<◌, ◌≤◌, Bool, List, [], ◌∷◌, ◌++◌, Option, Some}
use Rattle.messages.specs.phi_algebra.declared.phi.Phi.{Phi}
use Rattle.messages.specs.declared.message.Request.{Request}
use Rattle.messages.specs.declared.message.Reply.{Reply}
use Rattle.messages.specs.Places.{put}
use Rattle.messages.specs.Queues.{Combination, combination, records_of, records_but, answers}
use Rattle.messages.specs.Network.{Net, put_records, put_replies, records_on}
use Rattle.messages.specs.Naming.{Unnamed}
use Rattle.messages.specs.Moves.{combined, push_all}
use Rattle.network_theory.specs.Roles.{Role, Idle, Waiting, Replying, depth, Placed, replying_all}
use Rattle.network_theory.specs.Meaning.{RequestMeans, ReplyMeans, Means, Groups, Executed, execute_all, joined}

-- ---- combining

-- If a request is combined before it goes beyond stage s, it becomes the second of a record there.
abbrev pub CombiningKeepsPlaces : Type 0
CombiningKeepsPlaces =
    (k : ℕ) (path : ℕ → ℕ → ℕ) (role : ℕ → Role) (net : Net) (b r s w : ℕ) (x : Request) (j : Combination) →
    combination b r x (net.requests (suc s) w) (net.records s w) ≡ Some j →
    Placed k path role net → Unnamed net x.leader → depth (role x.leader) ≤ s → path x.leader (suc s) ≡ w →
    Placed k path (put role x.leader (Waiting s j.made.leader)) (combined net s w j).1

-- The entry then stands for both groups.
abbrev pub CombiningJoinsGroups : Type 0
CombiningJoinsGroups =
    (own : ℕ → Phi) (word : ℕ → ℕ) (path : ℕ → ℕ → ℕ) (group : ℕ → List ℕ) (owed : ℕ → Option ℕ) (k : ℕ) (role : ℕ →
    Role) (net : Net) (b r s w : ℕ)
    (x : Request) (j : Combination) →
    combination b r x (net.requests (suc s) w) (net.records s w) ≡ Some j →
    Placed k path role net → Means own word path group owed net → Unnamed net x.leader →
    RequestMeans own word group (records_on path net.records) s x →
    Means own word path (joined group j.made.leader j.made.second) owed (combined net s w j).1

-- ---- answering

-- the network after a reply is answered at output w of stage s: the replies made from it are on their leaders' wires,
-- and its records are gone
abbrev pub answered_net : (wire : ℕ → ℕ) → (s w : ℕ) → Reply → Net → Net
answered_net wire s w x net =
    push_all wire s (answers (records_of x.leader (net.records s w)) x)
    (put_records net s w (records_but x.leader (net.records s w)))

abbrev pub answered_roles : (s w : ℕ) → Reply → Net → (ℕ → Role) → ℕ → Role
answered_roles s w x net role = replying_all s (answers (records_of x.leader (net.records s w)) x) role

abbrev pub AnsweringKeepsPlaces : Type 0
AnsweringKeepsPlaces =
    (k : ℕ) (path : ℕ → ℕ → ℕ) (wire : ℕ → ℕ) (role : ℕ → Role) (net : Net) (s w : ℕ) (x : Reply) →
    Placed k path role net → s < k → Unnamed net x.leader → role x.leader ≡ Replying (suc s) →
    path x.leader (suc s) ≡ w →
    ((q : ℕ) → (role q ≡ Idle → ⊥) → path q (suc s) ≡ w → path q s ≡ wire q) →
    Placed k path (answered_roles s w x net role) (answered_net wire s w x net)

-- If the reply gives each processor what it is owed, so do the replies made from it.
abbrev pub AnsweringGivesEachItsOwn : Type 0
AnsweringGivesEachItsOwn =
    (own : ℕ → Phi) (word : ℕ → ℕ) (path : ℕ → ℕ → ℕ) (group : ℕ → List ℕ) (owed : ℕ → Option ℕ) (wire : ℕ →
    ℕ) (net : Net) (s w : ℕ) (x : Reply) →
    Means own word path group owed net → Unnamed net x.leader →
    ReplyMeans owed (records_on path net.records) (suc s) x → path x.leader (suc s) ≡ w →
    Means own word path group owed (answered_net wire s w x net)

-- ---- serving

-- The reply to a request at its module carries the word there. It gives each processor of the group what that processor
-- finds if they refer one after another on the flat side.
abbrev pub ServingExecutesTheGroup : Type 0
ServingExecutesTheGroup =
    (own : ℕ → Phi) (word : ℕ → ℕ) (open_now : ℕ → Bool) (path : ℕ → ℕ → ℕ) (group : ℕ →
    List ℕ) (f : Executed) (net : Net) (d w : ℕ) (x : Request)
    (y : Reply) →
    Means own word path group f.owed net → Groups word open_now group f.owed →
    RequestMeans own word group (records_on path net.records) d x
    → Unnamed net x.leader →
    y.leader ≡ x.leader → y.value ≡ f.mem x.word →
    Means own word path (put group x.leader []) (execute_all own word f (group x.leader)).owed
    (put_replies net d w (net.replies d w ++ y ∷ []))

abbrev pub ServingEndsTheGroup : Type 0
ServingEndsTheGroup =
    (own : ℕ → Phi) (word : ℕ → ℕ) (open_now : ℕ → Bool) (group : ℕ → List ℕ) (f : Executed) (p : ℕ) →
    Groups word open_now group f.owed → Groups word open_now (put group p []) (execute_all own word f (group p)).owed
