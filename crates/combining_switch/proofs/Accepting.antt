-- What an output does with a request, by whether some entry combines with it and whether there is room.
use Rattle.std.proofs.Common.{◌≡◌, ◌⊎◌, inl, inr, ℕ, zero, suc, ◌<◌, ◌≤◌, List, [], ◌∷◌, ◌++◌}
use Rattle.std.proofs.Common.{length, Option, Some, None, refl, sym, ap, ◌∙◌, arith, Bool}
use Rattle.std.proofs.Common.{true, false, ◌&&◌, nat_lt, ltb-true, eqb-true, eq-eqb}
use Rattle.std.specs.Prelude.{slice_set, ◌==◌, if◌then◌else◌}
use Rattle.std.proofs.lemmas.Bool.{lt-ltb, ltb-false, le-ltb}
use Rattle.std.proofs.lemmas.Option.{slice_get_within}
use Rattle.phi_algebra.specs.declared.phi.Phi.{Phi}
use Rattle.phi_algebra.specs.Composition.{composed}
use Rattle.messages.specs.declared.message.Request.{Request}
use Rattle.messages.specs.Queues.{Combination, combination, combined_in, joint, merged, record_of, unmarked}
use Rattle.combining_switch.specs.declared.answers.Accepted.{Accepted}
use Rattle.combining_switch.specs.declared.answers.Accepted.TheVariants.{Queued, Combined, Full}
use Rattle.combining_switch.specs.Outputs.{OutputLists, accepted, accepted_as}
use Rattle.combining_switch.specs.Accepting.{CombinesAt, CanCombine, NoneInFront, CombinesWhereItCan}
use Rattle.combining_switch.specs.Accepting.{CombinesWithTheFirst, QueuesWhereThereIsRoom, RefusesWhereThereIsNone}
use Rattle.messages.proofs.Lemmas.{NoneBefore, combined_at, combined_nowhere}

-- ---- one entry

joint_is : (r : ℕ) (x e : Request) (phi : Phi) → e.marks < r → e.word ≡ x.word → composed e.phi x.phi ≡ Some phi → joint r x e ≡ Some phi
unfolding joint
joint_is r x e phi few same composes =
    let fewer : nat_lt e.marks r ≡ true = lt-ltb e.marks r few in
    let word : (e.word == x.word) ≡ true = eq-eqb e.word x.word same in
    ap (λ b. if (b && (e.word == x.word)) then composed e.phi x.phi else None) fewer ∙ ap (λ b. if b then composed e.phi x.phi else None) word ∙ composes

-- If an entry and a request have a joint function, the entry may be combined, has the same word, and its function
-- composes.
joint_parts : (r : ℕ) (x e : Request) (phi : Phi) → joint r x e ≡ Some phi → (e.marks < r) × (e.word ≡ x.word) × (composed e.phi x.phi ≡ Some phi)
unfolding joint
joint_parts r x e phi is = go (nat_lt e.marks r) refl (e.word == x.word) refl
  where
    go : (a : Bool) → nat_lt e.marks r ≡ a → (b : Bool) → (e.word == x.word) ≡ b →
        (e.marks < r) × (e.word ≡ x.word) × (composed e.phi x.phi ≡ Some phi)
    go false f b g =
        let none : None ≡ Some phi = sym (ap (λ b. if (b && (e.word == x.word)) then composed e.phi x.phi else None) f) ∙ is in
        absurd (cc)
    go true f false g =
        let none : None ≡ Some phi =
        sym (ap (λ b. if (b && (e.word == x.word)) then composed e.phi x.phi else None) f ∙ ap (λ b. if b then composed e.phi x.phi else None) g) ∙ is in
        absurd (cc)
    go true f true g =
        let both : composed e.phi x.phi ≡ Some phi =
        sym (ap (λ b. if (b && (e.word == x.word)) then composed e.phi x.phi else None) f ∙ ap (λ b. if b then composed e.phi x.phi else None) g) ∙ is in
        (ltb-true e.marks r f, eqb-true e.word x.word g, both)

none_joint : (r : ℕ) (queue : List Request) (x : Request) (i : ℕ) → NoneInFront r queue x i → NoneBefore r x queue i
none_joint r queue x i none j e below there = go (joint r x e) refl
  where
    go : (f : Option Phi) → joint r x e ≡ f → joint r x e ≡ None
    go None is = is
    go (Some phi) is =
        let parts = joint_parts r x e phi is in
        absurd (none j e phi below (record { there = there; fewer = parts.0; same_word = parts.1; composes = parts.2 }))

-- ---- a queue

record First (r : ℕ) (queue : List Request) (x : Request) : Type 0 where
  place : ℕ
  entry : Request
  phi : Phi
  combines : CombinesAt r queue x place entry phi
  first : NoneInFront r queue x place

combines_later : (r : ℕ) (d : Request) (ds : List Request) (x : Request) (i : ℕ) (e : Request) (phi : Phi) → CombinesAt r ds x i e phi →
    CombinesAt r (d ∷ ds) x (suc i) e phi
combines_later r d ds x i e phi at = record { there = at.there; fewer = at.fewer; same_word = at.same_word; composes = at.composes }

-- If an entry that does not combine is put in front, still no entry before the place combines.
none_after : (r : ℕ) (d : Request) (ds : List Request) (x : Request) (i : ℕ) → joint r x d ≡ None → NoneInFront r ds x i → NoneInFront r (d ∷ ds) x (suc i)
none_after r d ds x i is none zero e phi below at =
    let there : d ≡ e = let some : Some d ≡ Some e = at.there in cc in
    let joins : joint r x e ≡ Some phi = joint_is r x e phi at.fewer at.same_word at.composes in
    let some : None ≡ Some phi = sym is ∙ ap (joint r x) there ∙ joins in
    cc
none_after r d ds x i is none (suc j) e phi below at =
    none j e phi (omega arith) (record { there = at.there; fewer = at.fewer; same_word = at.same_word; composes = at.composes })

-- Either some entry is the first that combines, or none combines.
first_or_none : (r : ℕ) (queue : List Request) (x : Request) → First r queue x ⊎ NoneInFront r queue x (length queue)
first_or_none r [] x = inr (λ i e phi below at. absurd (omega arith))
first_or_none r (d ∷ ds) x = go (joint r x d) refl (first_or_none r ds x)
  where
    go : (f : Option Phi) → joint r x d ≡ f → First r ds x ⊎ NoneInFront r ds x (length ds) → First r (d ∷ ds) x ⊎ NoneInFront r (d ∷ ds) x (length (d ∷ ds))
    go (Some phi) is later =
        let parts = joint_parts r x d phi is in
        inl (record {
          place = 0;
          entry = d;
          phi = phi;
          combines = record { there = refl; fewer = parts.0; same_word = parts.1; composes = parts.2 };
          first = λ i e psi below at. absurd (omega arith);
        })
    go None is (inl f) = inl (record {
      place = suc f.place;
      entry = f.entry;
      phi = f.phi;
      combines = combines_later r d ds x f.place f.entry f.phi f.combines;
      first = none_after r d ds x f.place is f.first;
    })
    go None is (inr none) = inr (none_after r d ds x (length ds) is none)

-- ---- an output

accepted_is : (o : OutputLists) (x : Request) (j : Option Combination) → combination o.b o.r x o.requests o.records ≡ j →
    accepted o x ≡ accepted_as o x j
unfolding accepted
accepted_is o x j is = ap (accepted_as o x) is

with_a_record : (o : OutputLists) (x : Request) → length o.records < o.b →
    combination o.b o.r x o.requests o.records ≡ combined_in o.r x o.requests
with_a_record o x free = ap (λ b. if b then combined_in o.r x o.requests else None) (lt-ltb (length o.records) o.b free)

without_a_record : (o : OutputLists) (x : Request) → o.b ≤ length o.records → combination o.b o.r x o.requests o.records ≡ None
without_a_record o x full = ap (λ b. if b then combined_in o.r x o.requests else None) (le-ltb (length o.records) o.b full)

-- If a record is free, a request is combined with the first entry that combines with it, as `CombinesWithTheFirst`
-- says.
pub with_the_first : CombinesWithTheFirst
with_the_first o x i e phi free at none =
    let joins : joint o.r x e ≡ Some phi = joint_is o.r x e phi at.fewer at.same_word at.composes in
    accepted_is o x (Some (record { queue = slice_set o.requests i (merged e phi); made = record_of x e }))
    (with_a_record o x free ∙ combined_at o.r x o.requests i e phi at.there (none_joint o.r o.requests x i none) joins)

-- A record is free and some entry is the first that combines, or there is no combination.
data Decided (o : OutputLists) (x : Request) : Type 0 where
  can : length o.records < o.b → First o.r o.requests x → Decided o x
  cannot : (CanCombine o x → ⊥) → combination o.b o.r x o.requests o.records ≡ None → Decided o x

decided : (o : OutputLists) (x : Request) → Decided o x
decided o x = go (nat_lt (length o.records) o.b) refl (first_or_none o.r o.requests x)
  where
    go : (b : Bool) → nat_lt (length o.records) o.b ≡ b → First o.r o.requests x ⊎ NoneInFront o.r o.requests x (length o.requests) → Decided o x
    go true f (inl first) = can (ltb-true (length o.records) o.b f) first
    go true f (inr none) = cannot
        (λ c. none c.place c.entry c.phi (slice_get_within o.requests c.place c.entry c.combines.there) c.combines)
        (with_a_record o x (ltb-true (length o.records) o.b f) ∙ combined_nowhere o.r x o.requests (none_joint o.r o.requests x (length o.requests) none))
    go false f either =
        let full : o.b ≤ length o.records = ltb-false (length o.records) o.b f in
        cannot (λ c. let free : length o.records < o.b = c.free in absurd (omega arith)) (without_a_record o x full)

can_combine : (o : OutputLists) (x : Request) → length o.records < o.b → First o.r o.requests x → CanCombine o x
can_combine o x free f = record { free = free; place = f.place; entry = f.entry; phi = f.phi; combines = f.combines }

-- the output with the request as the last of its queue
abbrev with_request : OutputLists → Request → OutputLists
with_request o x = record { c = o.c; b = o.b; r = o.r; requests = o.requests ++ unmarked x ∷ []; records = o.records }

queued_with_room : (o : OutputLists) (x : Request) → combination o.b o.r x o.requests o.records ≡ None → length o.requests < o.c →
    accepted o x ≡ (Queued, with_request o x)
queued_with_room o x is room = accepted_is o x None is ∙ ap (λ b. if b then (Queued, with_request o x) else (Full, o)) (lt-ltb (length o.requests) o.c room)

refused_without : (o : OutputLists) (x : Request) → combination o.b o.r x o.requests o.records ≡ None → o.c ≤ length o.requests →
    accepted o x ≡ (Full, o)
refused_without o x is none = accepted_is o x None is ∙ ap (λ b. if b then (Queued, with_request o x) else (Full, o)) (le-ltb (length o.requests) o.c none)

-- ---- the laws

-- A request is combined exactly if a record is free and some entry combines with it.
pub combines_where_it_can : CombinesWhereItCan
combines_where_it_can o x = (
  (λ made. elim (decided o x) [
    | can free first ↦ can_combine o x free first
    | cannot none is ↦ absurd (not_made (nat_lt (length o.requests) o.c) refl is made.0 made.1)
  ]),
  (λ c. elim (decided o x) [
    | can free f ↦ (f.entry.leader, ap (λ (r : Accepted × OutputLists). r.0) (with_the_first o x f.place f.entry f.phi free f.combines f.first))
    | cannot none is ↦ absurd (none c)
  ]),
)
  where
    not_made : (b : Bool) → nat_lt (length o.requests) o.c ≡ b → combination o.b o.r x o.requests o.records ≡ None → (leader : ℕ) →
        (accepted o x).0 ≡ Combined leader → ⊥
    not_made true f is leader made =
        let other : Queued ≡ Combined leader =
        sym (ap (λ (r : Accepted × OutputLists). r.0) (queued_with_room o x is (ltb-true (length o.requests) o.c f))) ∙ made in
        cc
    not_made false f is leader made =
        let other : Full ≡ Combined leader =
        sym (ap (λ (r : Accepted × OutputLists). r.0) (refused_without o x is (ltb-false (length o.requests) o.c f))) ∙ made in
        cc

-- If the answer is not a combination, the request cannot combine.
not_combined : (o : OutputLists) (x : Request) (a : Accepted) → (accepted o x).0 ≡ a → ((leader : ℕ) → a ≡ Combined leader → ⊥) →
    (CanCombine o x → ⊥) × (combination o.b o.r x o.requests o.records ≡ None)
not_combined o x a is other = elim (decided o x) [
  | can free f ↦
      let made : (accepted o x).0 ≡ Combined f.entry.leader =
      ap (λ (r : Accepted × OutputLists). r.0) (with_the_first o x f.place f.entry f.phi free f.combines f.first) in
      absurd (other f.entry.leader (sym is ∙ made))
  | cannot none e ↦ (none, e)
]

no_combination : (o : OutputLists) (x : Request) → (CanCombine o x → ⊥) → combination o.b o.r x o.requests o.records ≡ None
no_combination o x none = elim (decided o x) [
  | can free f ↦ absurd (none (can_combine o x free f))
  | cannot other is ↦ is
]

-- A request is queued, unmarked, exactly if it cannot combine and there is room.
pub queues_where_there_is_room : QueuesWhereThereIsRoom
queues_where_there_is_room o x = (
  (λ is.
      let answer : (accepted o x).0 ≡ Queued = ap (λ (r : Accepted × OutputLists). r.0) is in
      let n = not_combined o x Queued answer (λ leader e. cc) in
      (n.0, room (nat_lt (length o.requests) o.c) refl answer n.1)),
  (λ h. queued_with_room o x (no_combination o x h.0) h.1),
)
  where
    room : (b : Bool) → nat_lt (length o.requests) o.c ≡ b → (accepted o x).0 ≡ Queued → combination o.b o.r x o.requests o.records ≡ None →
        length o.requests < o.c
    room true f answer none = ltb-true (length o.requests) o.c f
    room false f answer none =
        let other : Full ≡ Queued = sym (ap (λ (r : Accepted × OutputLists). r.0) (refused_without o x none (ltb-false (length o.requests) o.c f))) ∙ answer in
        absurd (cc)

-- A request is refused, and the output left as it was, exactly if it cannot combine and there is no room.
pub refuses_where_there_is_none : RefusesWhereThereIsNone
refuses_where_there_is_none o x = (
  (λ is.
      let answer : (accepted o x).0 ≡ Full = ap (λ (r : Accepted × OutputLists). r.0) is in
      let n = not_combined o x Full answer (λ leader e. cc) in
      (n.0, full (nat_lt (length o.requests) o.c) refl answer n.1)),
  (λ h. refused_without o x (no_combination o x h.0) h.1),
)
  where
    full : (b : Bool) → nat_lt (length o.requests) o.c ≡ b → (accepted o x).0 ≡ Full → combination o.b o.r x o.requests o.records ≡ None →
        o.c ≤ length o.requests
    full false f answer none = ltb-false (length o.requests) o.c f
    full true f answer none =
        let other : Queued ≡ Full = sym (ap (λ (r : Accepted × OutputLists). r.0) (queued_with_room o x none (ltb-true (length o.requests) o.c f))) ∙ answer in
        absurd (cc)
