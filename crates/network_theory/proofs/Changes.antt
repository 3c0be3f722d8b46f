-- What combining and answering do, as a whole.
use Rattle.std.proofs.Common.{◌≡◌, ℕ, suc, ◌<◌, List, ◌==◌, not, inl, inr, refl, sym, ap, ap₂, ◌∙◌, subst, arith, eqb-true}
use Rattle.std.proofs.lemmas.Bool.{cases_eq}
use Rattle.messages.specs.declared.message.Reply.{Reply}
use Rattle.messages.specs.declared.message.Record.{Record}
use Rattle.messages.specs.Places.{put, In, Distinct, ApartBy}
use Rattle.messages.specs.Queues.{Combination, merged, record_of, records_of, records_but, answers}
use Rattle.messages.specs.Network.{Net, put_records}
use Rattle.messages.specs.Naming.{Unnamed}
use Rattle.messages.specs.Moves.{combined}
use Rattle.network_theory.specs.Roles.{Role, Idle, Waiting, Replying, Placed, RecordPlaced}
use Rattle.network_theory.specs.Meaning.{Means, joined}
use Rattle.network_theory.specs.Changes.{CombiningKeepsPlaces, CombiningJoinsGroups, AnsweringKeepsPlaces, AnsweringGivesEachItsOwn}
use Rattle.messages.proofs.Lemmas.{ApartBy-filter, In-filter, In-map_from, In-put2, combination_joins, from_answers}
use Rattle.network_theory.proofs.Roles.{combine, drop_records, drop_records_unnamed, placed_push_all, below_role, unnamed_fewer, not_led, seconds}
use Rattle.network_theory.proofs.Meaning.{means_combine, means_drop, means_push_all, answers_mean}

-- If a request is combined, its leader waits at that stage, and each message and record is where its role says.
pub combining_places : CombiningKeepsPlaces
combining_places k path role net b r s w x j e ok free near on =
    let J = combination_joins b r x (net.requests (suc s) w) (net.records s w) j e in
    subst (λ (i : Combination). Placed k path (put role x.leader (Waiting s i.made.leader)) (combined net s w i).1) (sym J.is)
    (combine k path role net s w J.front J.behind J.entry (merged J.entry J.function) (record_of x J.entry) ok J.was refl refl free near on)

-- Messages keep their meanings if a request is combined: the entry then stands for both groups.
pub combining_meaning : CombiningJoinsGroups
combining_meaning own word path group owed k role net b r s w x j e placed ok free ask =
    let J = combination_joins b r x (net.requests (suc s) w) (net.records s w) j e in
    subst (λ (i : Combination). Means own word path (joined group i.made.leader i.made.second) owed (combined net s w i).1) (sym J.is)
    (means_combine own word path group owed k role net s w J.front J.behind J.entry (merged J.entry J.function) x
    (record_of x J.entry) placed ok J.was free ask J.law refl refl refl refl refl)

-- After a reply is answered, the leaders of the replies made from it reply before that stage, and each message and
-- record is where its role says.
pub answering_places : AnsweringKeepsPlaces
answering_places k path wire role net s w x ok l free replying on way =
    let p : ℕ = x.leader in
    let rs : List Record = records_of p (net.records s w) in
    let left : List Record = records_but p (net.records s w) in
    let net' : Net = put_records net s w left in
    let ys : List Reply = answers rs x in
    let placed : Placed k path role net' = drop_records k path role net s w p ok in
    let sub : (a : Record) → In a left → In a (net.records s w) = (λ a m. (In-filter (λ (e : Record). not (e.leader == p)) a (net.records s w) m).0) in
    let known : (r : Record) → In r rs → RecordPlaced k path role s w r × (r.leader ≡ p) × In r (net.records s w)
    = (λ r m. let g = In-filter (λ (e : Record). e.leader == p) r (net.records s w) m in (ok.records s w r g.0, eqb-true r.leader p g.1, g.0)) in
    let back : (q : ℕ) (r : Role) → role q ≡ r → (r ≡ Idle → ⊥) → path q (suc s) ≡ w → path q s ≡ wire q = (λ q r is n at. way q (λ i. n (sym is ∙ i)) at) in
    let below_p : (t v : ℕ) (r : Record) → In r (net'.records t v) → r.leader ≡ p → t < s
    = (λ t v r m g. elim (In-put2 net.records s w left t v r m) [
      | inl h ↦ absurd (not_led r.leader p g ((In-filter (λ (e : Record). not (e.leader == p)) r (net.records s w) h.2).1))
      | inr h ↦ (let b : t < suc s = below_role k path role net p (Replying (suc s)) ok replying t v r h.1 g in
          elim (cases_eq t s) [
            | inl same ↦ absurd (h.0 same (sym ((ok.records t v r h.1).wire) ∙ ap₂ (λ i j. path i (suc j)) g same ∙ on))
            | inr n ↦ omega arith
          ])
    ]) in
    let each : (y : Reply) → In y ys
    → Unnamed net' y.leader × (path y.leader s ≡ wire y.leader) × ((t v : ℕ) (r : Record) → In r (net'.records t v) → r.leader ≡ y.leader → t < s)
    = (λ y m. elim (from_answers x y rs m) [
      | inl a ↦ (
        subst (Unnamed net') (sym a) (unnamed_fewer net s w left p free sub),
        back y.leader (Replying (suc s)) (ap role a ∙ replying) (λ c. cc) (ap (λ j. path j (suc s)) a ∙ on),
        (λ t v r i g. below_p t v r i (g ∙ a)),
      )
      | inr a ↦ (let g = known a.0 a.1 in (
        subst (Unnamed net') (sym a.2) (drop_records_unnamed k path role net s w p a.0 ok g.2 g.1),
        back y.leader (Waiting s a.0.leader) (ap role a.2 ∙ g.0.waits) (λ c. cc) (ap (λ j. path j (suc s)) a.2 ∙ g.0.wire_second),
        (λ t v r i f. below_role k path role net' a.0.second (Waiting s a.0.leader) placed g.0.waits t v r i (f ∙ a.2)),
      ))
    ]) in
    let apart : ApartBy (λ (y : Reply). y.leader) ys = (
      (λ m. let g = In-map_from (λ (r : Record). r.second) p rs (subst (In p) (seconds x rs) m) in
          let f = known g.0 g.1 in
          let c : Waiting s g.0.leader ≡ Replying (suc s) = sym f.0.waits ∙ ap role g.2 ∙ replying in cc),
      subst Distinct (sym (seconds x rs)) (ApartBy-filter (λ (r : Record). r.second) (λ (e : Record). e.leader == p) (net.records s w) (ok.records_apart s w)),
    ) in
    placed_push_all k path wire s ys role net' placed (omega arith) apart each

-- No leader of the replies made from a reply was idle before.
pub answers_led : (k : ℕ) (path : ℕ → ℕ → ℕ) (role : ℕ → Role) (net : Net) (s w : ℕ) (x : Reply) → Placed k path role net → role x.leader ≡ Replying (suc s)
    → (y : Reply) → In y (answers (records_of x.leader (net.records s w)) x) → role y.leader ≡ Idle → ⊥
answers_led k path role net s w x ok replying y m i = elim (from_answers x y (records_of x.leader (net.records s w)) m) [
  | inl a ↦ (let c : Replying (suc s) ≡ Idle = sym replying ∙ ap role (sym a) ∙ i in cc)
  | inr a ↦ (let g = In-filter (λ (e : Record). e.leader == x.leader) a.0 (net.records s w) a.1 in
      let c : Waiting s a.0.leader ≡ Idle = sym ((ok.records s w a.0 g.0).waits) ∙ ap role (sym a.2) ∙ i in cc)
]

-- If the reply gives each processor what it is owed, messages keep their meanings after it is answered.
pub answering_meaning : AnsweringGivesEachItsOwn
answering_meaning own word path group owed wire net s w x ok free means on =
    let left : List Record = records_but x.leader (net.records s w) in
    means_push_all own word path group owed wire s (answers (records_of x.leader (net.records s w)) x) (put_records net s w left)
    (means_drop own word path group owed net s w x.leader ok free)
    (λ y m. answers_mean path owed net.records s w x left means on y m)
