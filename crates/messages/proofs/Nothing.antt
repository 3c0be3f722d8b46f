-- A move from a place without a message stalls.
use Rattle.std.proofs.Common.{◌≡◌, Bool, true, false, List, nat_lt, refl, ap, ◌∙◌}
use Rattle.std.specs.Prelude.{if◌then◌else◌}
use Rattle.messages.specs.declared.message.Request.{Request}
use Rattle.messages.specs.declared.message.Reply.{Reply}
use Rattle.messages.specs.declared.moves.UpMove.{UpMove}
use Rattle.messages.specs.declared.moves.UpMove.TheVariants as up
use Rattle.messages.specs.declared.moves.DownMove.{DownMove}
use Rattle.messages.specs.declared.moves.DownMove.TheVariants as down
use Rattle.messages.specs.Laws.{NothingMovesDown, NothingMovesUp}
use Rattle.messages.specs.Network.{Net}
use Rattle.messages.specs.Moves.{down_from, moved_down, moved_up, up_from}

one_of_both : {X : Type 0} (b : Bool) (x : X) → (if b then x else x) ≡ x
one_of_both true x = refl
one_of_both false x = refl

-- A move up from a wire with no request stalls, and the network is as before.
pub nothing_moves_up : NothingMovesUp
unfolding moved_up
nothing_moves_up z net s w none =
    ap (λ (q : List Request). if◌then◌else◌ {A = UpMove × Net} (nat_lt s z.k) (up_from z net s w q) (up.Stalled, net)) none
    ∙ one_of_both (nat_lt s z.k) (up.Stalled, net)

-- A move down from a wire with no reply stalls, and the network is as before.
pub nothing_moves_down : NothingMovesDown
unfolding moved_down
nothing_moves_down z net s w none =
    ap (λ (q : List Reply). if◌then◌else◌ {A = DownMove × Net} (nat_lt s z.k) (down_from z net s w q) (down.Stalled, net)) none
    ∙ one_of_both (nat_lt s z.k) (down.Stalled, net)
