use Rattle.std.proofs.Common.{◌≡◌, ℕ, List, [], ◌∷◌, length, Some, slice_get, slice_set, sym, ◌∙◌, ap, subst}
use Rattle.ghost_map.specs.Rows.{authority, fragment, held_of, let_go}
use Rattle.ghost_map.proofs.Moves.{writes_as, frees_as, takes_as, known, joined}
use Rattle.ghost_map.proofs.authority.Authority.write.Goals as goal

pub join_seat-requires : goal.join_seat-requires
join_seat-requires g c =
    let i = c.self.invariant in let j = c.fragment.invariant in let s = c.into_seat.ensures in
    let v = ap (λ b. b.views) c.replace-badge.ensures.value in
    let k = known (held_of c.fragment.inside.badge.views) c.fragment.inside.badge.views c.into_seat.result.me.0 j.2 j.1 (sym v ∙ s.2) in
    let theirs = s.0 ∙ ap (λ b. b.table_id) c.replace-badge.ensures.value ∙ j.0 ∙ sym i.0 in
    (i.1 ∙ sym i.0, theirs, s.3, i.2, takes_as _ _ _ _ _ _ _ (ap (λ m. m.0) i.3) k.2)

pub load-requires : goal.load-requires
load-requires g c =
    let i = c.self.invariant in let j = c.fragment.invariant in let s = c.into_seat.ensures in
    let v = ap (λ b. b.views) c.replace-badge.ensures.value in
    let k = known (held_of c.fragment.inside.badge.views) c.fragment.inside.badge.views c.into_seat.result.me.0 j.2 j.1 (sym v ∙ s.2) in
    let t = c.join_seat.ensures in
    (t.0 ∙ i.1 ∙ sym i.0, i.2, writes_as _ _ _ _ _ _ _ _ (joined _ _ _ _ i.3 k.2 t.2))

pub split_seat-own-requires : goal.split_seat-own-requires
split_seat-own-requires g c =
    let i = c.self.invariant in let j = c.fragment.invariant in let s = c.into_seat.ensures in
    let v = ap (λ b. b.views) c.replace-badge.ensures.value in
    let k = known (held_of c.fragment.inside.badge.views) c.fragment.inside.badge.views c.into_seat.result.me.0 j.2 j.1 (sym v ∙ s.2) in
    let t = c.join_seat.ensures in let l = c.load.ensures in
    let w = l.2 _ _ (ap (λ m. m.0.held) (joined _ _ _ _ i.3 k.2 t.2)) in
    (l.0 ∙ t.0 ∙ i.1 ∙ sym i.0, i.2, frees_as _ _ _ _ _ (ap (λ m. m.0) w.1))

pub invariant_of-self : goal.invariant_of-self
invariant_of-self g c =
    let i = c.self.invariant in let j = c.fragment.invariant in let s = c.into_seat.ensures in
    let v = ap (λ b. b.views) c.replace-badge.ensures.value in
    let k = known (held_of c.fragment.inside.badge.views) c.fragment.inside.badge.views c.into_seat.result.me.0 j.2 j.1 (sym v ∙ s.2) in
    let t = c.join_seat.ensures in let l = c.load.ensures in let o = c.split_seat-own.ensures in
    let m = joined _ _ _ _ i.3 k.2 t.2 in
    let w = l.2 _ _ (ap (λ m. m.0.held) m) in
    let now = o.2 ∙ (λ n. (let_go (w.1 n).0, (w.1 n).1)) in
    let whole = ap (λ x. authority x []) (sym (ap (λ m. m.0.all) now)) in
    let none = ap (λ x. (authority c.split_seat-own.new.seat.me.0.all [], x)) (ap (λ m. m.1) m) in
    (i.0, o.0 ∙ l.0 ∙ t.0 ∙ i.1, i.2, now ∙ ap (λ x. (x, c.join_seat.new.seat.me.1)) whole ∙ none)

pub invariant_of-fragment : goal.invariant_of-fragment
invariant_of-fragment g c =
    let i = c.self.invariant in let j = c.fragment.invariant in let s = c.into_seat.ensures in
    let v = ap (λ b. b.views) c.replace-badge.ensures.value in
    let k = known (held_of c.fragment.inside.badge.views) c.fragment.inside.badge.views c.into_seat.result.me.0 j.2 j.1 (sym v ∙ s.2) in
    let t = c.join_seat.ensures in let l = c.load.ensures in let o = c.split_seat-own.ensures in let e = c.into_badge.ensures in
    let m = joined _ _ _ _ i.3 k.2 t.2 in
    let w = l.2 _ _ (ap (λ m. m.0.held) m) in
    let views = e.2 ∙ ap (λ m. m.0 ∷ []) o.4 ∙ ap (λ m. fragment m.0.held ∷ []) w.1 in
    (e.0 ∙ o.3 ∙ l.0 ∙ t.0 ∙ i.1, views ∙ sym (ap (λ vs. fragment (held_of vs) ∷ []) views), ap (λ vs. length (held_of vs)) views)

pub returns : goal.returns
returns g c who row is =
    let i = c.self.invariant in let j = c.fragment.invariant in let s = c.into_seat.ensures in
    let v = ap (λ b. b.views) c.replace-badge.ensures.value in
    let k = known (held_of c.fragment.inside.badge.views) c.fragment.inside.badge.views c.into_seat.result.me.0 j.2 j.1 (sym v ∙ s.2) in
    let t = c.join_seat.ensures in let l = c.load.ensures in let o = c.split_seat-own.ensures in let e = c.into_badge.ensures in
    let m = joined _ _ _ _ i.3 k.2 t.2 in
    let w = l.2 _ _ (ap (λ m. m.0.held) m) in
    let views = e.2 ∙ ap (λ m. m.0 ∷ []) o.4 ∙ ap (λ m. fragment m.0.held ∷ []) w.1 in
    let one : (k.0.0, k.0.1) ≡ (who, row) = cc (k.1, c.fragment.view_is, is) in
    let all = ap (λ m. m.0.all) m ∙ c.self.view_is in
    record {
      agreed = subst (λ (x : List g.row.R.Denot × (ℕ × g.row.R.Denot)). slice_get x.0 x.1.0 ≡ Some x.1.1) (λ n. (all n, one n)) w.0;
      authority = ap (λ m. m.0.all) o.2 ∙ ap (λ m. m.0.all) w.1 ∙ (λ n. slice_set (all n) (one n).0 g.M.Next.next);
      fragment = ap held_of views ∙ ap (λ x. (x, g.M.Next.next) ∷ []) (ap (λ x. x.0) one);
    }
