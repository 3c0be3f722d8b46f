use Rattle.std.proofs.Common.{◌≡◌, inl, ℕ, List, [], ◌∷◌, ◌++◌, sym, ap, subst, ◌∙◌, arith}
use Rattle.local_reduction.specs.Results.{FinalResult, HaveStopped, result_at}
use Rattle.state_search.specs.state_store.StateTables.{means}
use Rattle.exploration.specs.Endings.{AreShown, IsAdded, IsRowAdded}
use Rattle.exploration.proofs.Shown.{order_stands, order_stopped, result_added, result_there, shown_more}
use Rattle.exploration.proofs.ending.add_ending.Goals as goal

pub returns-then-not-branch-clause-added : goal.returns-then-not-branch-clause-added
returns-then-not-branch-clause-added g c =
    let e = c.args.extent in
    let t = c.args.state_tables.now in
    let row = c.in_order-shown.result in
    let x = c.in_order-shown.ensures.exchanged in
    let stopped : HaveStopped (means e t c.args.row.now) = c.has_stopped.ensures.0 c.if-not-has_stopped.false in
    let halted = order_stopped e c.args.classes.now t c.args.row.now row c.requires.classes x stopped in
    let added = subst (λ b. IsRowAdded c.args.endings.now.shown.keys row b c.is_new.new.rows.keys) c.if-not-branch.true c.in_ok-is_new.ensures in
    inl (
      stopped,
      result_at (means e t row),
      order_stands e c.args.classes.now t c.args.row.now row c.requires.classes x,
      result_there g.row.N e t c.args.endings.now.shown.keys c.args.endings.now.results.items c.requires.shown row c.in_order-shown.ensures.row
          (omega arith) halted c.is_new.new.rows.keys added,
    )

pub returns-clause-added : goal.returns-clause-added
returns-clause-added g c =
    let e = c.args.extent in
    let t = c.args.state_tables.now in
    let row = c.in_order-shown.result in
    let x = c.in_order-shown.ensures.exchanged in
    let old = c.args.endings.now.results.items in
    let stopped : HaveStopped (means e t c.args.row.now) = c.has_stopped.ensures.0 c.if-not-has_stopped.false in
    let halted = order_stopped e c.args.classes.now t c.args.row.now row c.requires.classes x stopped in
    let added = subst (λ b. IsRowAdded c.args.endings.now.shown.keys row b c.is_new.new.rows.keys) c.if-not-branch.false c.in_ok-is_new.ensures in
    let items : c.push.new.self.items ≡ old ++ result_at (means e t row) ∷ [] =
    c.in_ok-push.ensures.items ∙ ap (λ (r : FinalResult). old ++ r ∷ []) c.in_ok-last.ensures in
    inl (
      stopped,
      result_at (means e t row),
      order_stands e c.args.classes.now t c.args.row.now row c.requires.classes x,
      subst (IsAdded old (result_at (means e t row))) (sym items)
          (result_added g.row.N e t c.args.endings.now.shown.keys old c.requires.shown row c.in_order-shown.ensures.row (omega arith) halted
          c.requires.different c.is_new.new.rows.keys added),
    )

pub returns-clause-shown : goal.returns-clause-shown
returns-clause-shown g c =
    let e = c.args.extent in
    let t = c.args.state_tables.now in
    let row = c.in_order-shown.result in
    let x = c.in_order-shown.ensures.exchanged in
    let old = c.args.endings.now.results.items in
    let stopped : HaveStopped (means e t c.args.row.now) = c.has_stopped.ensures.0 c.if-not-has_stopped.false in
    let halted = order_stopped e c.args.classes.now t c.args.row.now row c.requires.classes x stopped in
    let added = subst (λ b. IsRowAdded c.args.endings.now.shown.keys row b c.is_new.new.rows.keys) c.if-not-branch.false c.in_ok-is_new.ensures in
    let items : c.push.new.self.items ≡ old ++ result_at (means e t row) ∷ [] =
    c.in_ok-push.ensures.items ∙ ap (λ (r : FinalResult). old ++ r ∷ []) c.in_ok-last.ensures in
    subst (λ (x : List (List ℕ) × List FinalResult). AreShown g.row.N e t x.0 x.1) (λ i. (sym added.1 i, sym items i))
    (shown_more g.row.N e t c.args.endings.now.shown.keys old c.requires.shown row c.in_order-shown.ensures.row (omega arith) halted)
