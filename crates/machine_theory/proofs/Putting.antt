-- Cores put in places: the last one counts, and the machine stays steady.
use Rattle.std.proofs.Common.{◌≡◌, ◌≢◌, ℕ, ◌%◌, false, length, ◌⊎◌, inl, inr, sym, ap, ◌∙◌, subst, suc, arith}
use Rattle.std.proofs.lemmas.Bool.{cases_eq, true≢false}
use mathlib.Core.Path.{fun_ext}
use Rattle.serialization.specs.messages.declared.message.Record.{Record}
use Rattle.serialization.specs.messages.Places.{put, In}
use Rattle.serialization.specs.messages.Network.{Sizes, wires}
use Rattle.serialization.specs.omega_wires.Wires.{path as way}
use Rattle.serialization.specs.network_theory.Roles.{Role, Idle, Placed}
use Rattle.serialization.specs.Program.{Program, path_of}
use Rattle.serialization.specs.Machine.{Machine}
use Rattle.serialization.specs.Steadiness.{Steady}
use Rattle.serialization.proofs.Lemmas.messages.{put_other, put_same}
use Rattle.serialization.proofs.Lemmas.network_theory.{below_role, placed_change, records_path, unnamed_idle}
use Rattle.machine_theory.specs.Cores.{with_core}
use Rattle.machine_theory.proofs.PortSets.{put_self}

module _ {X : Type 0} where
  -- Two functions are equal if they are equal at one place and at all others.
  by_place : (f g : ℕ → X) (p : ℕ) → f p ≡ g p → ((q : ℕ) → q ≢ p → f q ≡ g q) → f ≡ g
  by_place f g p here others = fun_ext (λ q. at q (cases_eq q p))
    where
      at : (q : ℕ) → (q ≡ p) ⊎ (q ≡ p → ⊥) → f q ≡ g q
      at q (inl e) = ap f e ∙ here ∙ sym (ap g e)
      at q (inr n) = others q n

  -- Of two values that are put in the same place, the last counts.
  pub put_twice : (f : ℕ → X) (p : ℕ) (x y : X) → put (put f p x) p y ≡ put f p y
  put_twice f p x y = by_place (put (put f p x) p y) (put f p y) p
      (put_same (put f p x) p y ∙ sym (put_same f p y))
      (λ q n. put_other (put f p x) p y q n ∙ put_other f p x q n ∙ sym (put_other f p y q n))

  -- Values put in two different places may be put in either order.
  pub put_swap : (f : ℕ → X) (p q : ℕ) (x y : X) → q ≢ p → put (put f p x) q y ≡ put (put f q y) p x
  put_swap f p q x y apart = by_place (put (put f p x) q y) (put (put f q y) p x) q
      (put_same (put f p x) q y ∙ sym (put_other (put f q y) p x q apart ∙ put_same f q y))
      (λ j n. put_other (put f p x) q y j n ∙ at j n (cases_eq j p))
    where
      at : (j : ℕ) → j ≢ q → (j ≡ p) ⊎ (j ≡ p → ⊥) → put f p x j ≡ put (put f q y) p x j
      at j n (inl e) = ap (put f p x) e ∙ put_same f p x ∙ sym (put_same (put f q y) p x) ∙ ap (put (put f q y) p x) (sym e)
      at j n (inr m) = put_other f p x j m ∙ sym (put_other f q y j n) ∙ sym (put_other (put f q y) p x j m)

module _ {Core : Type 0} where
  -- Of two cores that are put in the same place, the last counts.
  pub last_counts : (M : Machine Core) (p : ℕ) (first second : Core) → with_core (with_core M p first) p second ≡ with_core M p second
  last_counts M p first second = ap (λ f. record { net = M.net; mem = M.mem; core = f; is_open = M.is_open }) (put_twice M.core p first second)

  -- A machine is as before if a processor's own core is put in its place.
  pub stays_put : (M : Machine Core) (p : ℕ) → with_core M p (M.core p) ≡ M
  stays_put M p = ap (λ f. record { net = M.net; mem = M.mem; core = f; is_open = M.is_open }) (put_self M.core p)

module _ {Core Pokes Entry : Type 0} where
  -- A steady machine is still steady with another core of a processor without an open reference.
  pub steady_with : (z : Sizes) (P : Program Core Pokes Entry) (M : Machine Core) (role : ℕ → Role) (p : ℕ) (core : Core) → Steady z P M role →
      M.is_open p ≡ false → Steady z P (with_core M p core) role
  steady_with z P M role p core ok shut =
      let path = path_of z P M.core in
      let core' = put M.core p core in
      let path' = path_of z P core' in
      let idle_p = (ok.shut p).0 shut in
      let free = unnamed_idle z.k path role M.net p ok.placed idle_p in
      let same : (q : ℕ) → (q ≡ p → ⊥) → core' q ≡ M.core q = (λ q n. put_other M.core p core q n) in
      let same_way : (q d : ℕ) → (q ≡ p → ⊥) → path' q d ≡ path q d = (λ q d n. ap (λ g. way z.k q (P.word_of q g % wires z) d) (same q n)) in
      let leads_none : (s w : ℕ) (a : Record) → In a (M.net.records s w) → a.leader ≡ p
      → ⊥ = (λ s w a m f. let h = below_role z.k path role M.net p Idle ok.placed idle_p s w a m f in absurd (omega arith)) in
      let kept : put role p Idle ≡ role = ap (put role p) (sym idle_p) ∙ put_self role p in
      record {
        placed = subst (λ r. Placed z.k path' r M.net) kept (placed_change z.k path path' role Idle M.net p ok.placed free leads_none same_way);
        worded = λ d w x m. ok.worded d w x m ∙ sym (ap (P.word_of x.leader) (same x.leader (free.requests d w x m)));
        marked = λ t u b m. ok.marked t u b m
            ∙ ap length (sym (records_path path path' M.net.records b.leader t (same_way b.leader (suc t) (free.requests (suc t) u b m))));
        few = ok.few;
        stands = ok.stands;
        shut = ok.shut;
        small = ok.small;
        refers = λ q f. elim (cases_eq q p) [
          | inl g ↦ absurd (true≢false (sym f ∙ ap M.is_open g ∙ shut))
          | inr n ↦ ap (P.kind q) (same q n) ∙ ok.refers q f
        ];
      }
