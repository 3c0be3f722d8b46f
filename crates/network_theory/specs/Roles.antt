-- Where messages and records may be, in one state of the network.
use Rattle.std.specs.Prelude.{◌≡◌, ℕ, suc, ◌<◌, ◌≤◌, List, [], ◌∷◌}
use Rattle.messages.specs.declared.message.Request.{Request}
use Rattle.messages.specs.declared.message.Reply.{Reply}
use Rattle.messages.specs.declared.message.Record.{Record}
use Rattle.messages.specs.Places.{In, ApartBy, put}
use Rattle.messages.specs.Network.{Net}

-- What names a processor: nothing, a request or a reply that it leads, at a depth, or a record of which it is the
-- second, at a stage and of a leader. There is never more than one.
pub data Role : Type 0 where
  Idle : Role
  Asking : (depth : ℕ) → Role
  Waiting : (stage leader : ℕ) → Role
  Replying : (depth : ℕ) → Role

abbrev pub depth : Role → ℕ
depth Idle = 0
depth (Asking d) = d
depth (Waiting s p) = s
depth (Replying d) = d

-- `path p d` is the wire of p's messages before stage d. A request is at its leader's depth and on its leader's path.
pub record RequestPlaced (k : ℕ) (path : ℕ → ℕ → ℕ) (role : ℕ → Role) (d w : ℕ) (x : Request) : Type 0 where
  pub asks : role x.leader ≡ Asking d
  pub wire : path x.leader d ≡ w
  pub deep : d ≤ k

-- A record is at its second's stage, at an output on the paths of both of its processors. Its leader is further on, so
-- the reply will come here.
pub record RecordPlaced (k : ℕ) (path : ℕ → ℕ → ℕ) (role : ℕ → Role) (s w : ℕ) (x : Record) : Type 0 where
  pub waits : role x.second ≡ Waiting s x.leader
  pub beyond : s < depth (role x.leader)
  pub wire : path x.leader (suc s) ≡ w
  pub wire_second : path x.second (suc s) ≡ w
  pub deep : s < k

pub record ReplyPlaced (k : ℕ) (path : ℕ → ℕ → ℕ) (role : ℕ → Role) (d w : ℕ) (x : Reply) : Type 0 where
  pub replying : role x.leader ≡ Replying d
  pub wire : path x.leader d ≡ w
  pub deep : d ≤ k

-- All messages and records are where roles and paths say, and no place has two for one processor.
pub record Placed (k : ℕ) (path : ℕ → ℕ → ℕ) (role : ℕ → Role) (net : Net) : Type 0 where
  pub requests : (d w : ℕ) (x : Request) → In x (net.requests d w) → RequestPlaced k path role d w x
  pub records : (s w : ℕ) (x : Record) → In x (net.records s w) → RecordPlaced k path role s w x
  pub replies : (d w : ℕ) (x : Reply) → In x (net.replies d w) → ReplyPlaced k path role d w x
  pub requests_apart : (d w : ℕ) → ApartBy (λ (x : Request). x.leader) (net.requests d w)
  pub records_apart : (s w : ℕ) → ApartBy (λ (x : Record). x.second) (net.records s w)
  pub replies_apart : (d w : ℕ) → ApartBy (λ (x : Reply). x.leader) (net.replies d w)

-- the roles after these replies are put at depth s
unfoldable pub replying_all : ℕ → List Reply → (ℕ → Role) → ℕ → Role
replying_all s [] role = role
replying_all s (y ∷ ys) role = replying_all s ys (put role y.leader (Replying s))
