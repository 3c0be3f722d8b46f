use Rattle.std.proofs.Common.{sym, ◌∙◌, ap}
use Rattle.ghost_map.proofs.Moves.{hires_as, frees_as}
use Rattle.ghost_map.proofs.authority.Authority.allocate.Goals as goal

pub load-requires : goal.load-requires
load-requires g c = let i = c.self.invariant in (i.1 ∙ sym i.0, i.2, hires_as _ _ _ _ _ _ i.3)

pub split_seat-own-requires : goal.split_seat-own-requires
split_seat-own-requires g c =
    let i = c.self.invariant in let l = c.load.ensures in
    (l.0 ∙ i.1 ∙ sym i.0, i.2, frees_as _ _ _ _ _ (ap (λ m. m.0) l.2))
