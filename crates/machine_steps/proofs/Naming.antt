-- Processors that the network does not name: one that is not open, and the leader of the request that a module has just
-- taken.
use Rattle.std.proofs.Common.{◌≡◌, ℕ, suc, ◌<◌, ◌^◌, false, List, [], ◌∷◌, ◌⊎◌, inl, inr, Option, Some, None, refl, sym, ap, ◌∙◌, subst, arith}
use Rattle.std.specs.Prelude.{drop, slice_get}
use Rattle.messages.specs.declared.message.Request.{Request}
use Rattle.messages.specs.declared.message.Record.{Record}
use Rattle.messages.specs.Places.{In}
use Rattle.messages.specs.Network.{Net, Sizes, put_requests}
use Rattle.messages.specs.Naming.{Names, Unnamed}
use Rattle.messages.specs.Moves.{module_taken}
use Rattle.machine_theory.specs.network_theory.Roles.{Role, Idle, Asking, depth}
use Rattle.machine_theory.proofs.Lemmas.network_theory.{below_role, pop_request_unnamed, unnamed_idle}
use Rattle.omega_network.specs.Networks.{NetworkLists, net_of}
use Rattle.omega_network.specs.Networks as network
use Rattle.machine_theory.specs.Processors.{port_at, sizes_of, program}
use Rattle.machine_theory.specs.Steps.{machine_of_parts}
use Rattle.machine_theory.specs.serialization.Program.{path_of}
use Rattle.machine_steps.specs.Machines.{MachineLists, IsMachine, machine_of}
use Rattle.machine_steps.specs.Serving.{MayBeAnswered, MayReply}

module _ (m : MachineLists) (is : IsMachine m) where
  path : ℕ → ℕ → ℕ
  path = path_of (sizes_of m.config) (program m.config m.code) (machine_of m (λ q. [])).core

  -- The network does not name a processor that is not open.
  pub not_named : (p : ℕ) → (port_at m.ports p).is_open ≡ false → Names (net_of m.network) p → ⊥
  unfolding machine_of_parts path
  not_named p shut named =
      let idle : is.role p ≡ Idle = (is.steady.shut p).0 shut in
      let none : Unnamed (net_of m.network) p = unnamed_idle m.config.k path is.role (net_of m.network) p is.steady.placed idle in
      elim named [
        | inl h ↦ none.requests h.0 h.1 h.2 h.3 h.4
        | inr rest ↦ elim rest [
          | inl h ↦ elim h.4 [
            | inl leads ↦ (let below : h.0 < depth Idle =
                below_role m.config.k path is.role (net_of m.network) p Idle is.steady.placed idle h.0 h.1 h.2 h.3 leads in absurd (omega arith))
            | inr second ↦ none.records h.0 h.1 h.2 h.3 second
          ]
          | inr h ↦ none.replies h.0 h.1 h.2 h.3 h.4
        ]
      ]

  -- After a module takes its first request, the network does not name the request's leader.
  pub taken_unnamed : (i : ℕ) → MayReply m.network i
  unfolding machine_of_parts module_taken path
  taken_unnamed i x first = by ((net_of m.network).requests m.network.k i) refl first
    where
      k_is : m.network.k ≡ m.config.k
      k_is = ap (λ (z : Sizes). z.k) is.sizes

      by : (xs : List Request) → (net_of m.network).requests m.network.k i ≡ xs → slice_get xs 0 ≡ Some x → MayBeAnswered m.network i x.leader
      by [] e at = absurd (cc)
      by (y ∷ rest) e at =
          let same : y ≡ x = cc in
          let here : (net_of m.network).requests m.network.k i ≡ x ∷ rest = e ∙ ap (λ z. z ∷ rest) same in
          let asks : is.role x.leader ≡ Asking m.network.k =
          (is.steady.placed.requests m.network.k i x (subst (In x) (sym here) (inl refl))).asks in
          record {
            within = subst (λ k. x.leader < 2 ^ k) (sym k_is) (elim (is.steady.small x.leader) [
              | inl idle ↦ (let no : Asking m.network.k ≡ Idle = sym asks ∙ idle in absurd (cc))
              | inr small ↦ small
            ]);
            unnamed = subst (λ xs. Unnamed (put_requests (net_of m.network) m.network.k i (drop 1 xs)) x.leader) (sym here)
                (pop_request_unnamed m.config.k path is.role (net_of m.network) m.network.k i x rest is.steady.placed here);
          }
