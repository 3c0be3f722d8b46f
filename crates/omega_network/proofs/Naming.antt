-- What looks through the pool and the records tell of the whole network.
use Rattle.std.proofs.Common.{◌≡◌, ℕ, Bool, true, false, ◌||◌, List, ◌⊎◌, inl, inr, refl, sym, ap, ◌∙◌, subst, eq-eqb, eqb-true}
use Rattle.std.specs.Prelude.{IsTrue, ◌↔◌, ◌==◌, not}
use Rattle.std.specs.List.{list_any}
use Rattle.messages.specs.declared.message.Record.{Record}
use Rattle.messages.specs.Naming.{Names, Unnamed}
use Rattle.combining_switch.specs.Pools.{IsFree}
use Rattle.combining_switch.specs.Switches.{SwitchState, records_at}
use Rattle.omega_network.specs.Networks.{IsNetwork, NetworkLists, is_named, is_second, net_of}
use Rattle.omega_network.proofs.Names.{Leads, by_reply, by_request, free_leads_none, leads_or_free, record_seen, seen_record}

module _ (n : NetworkLists) (is : IsNetwork n) (p : ℕ) where
  either_is : (e : Record) → (e.leader ≡ p) ⊎ (e.second ≡ p) → ((e.leader == p) || (e.second == p)) ≡ true
  either_is e (inl q) = ap (λ b. b || (e.second == p)) (eq-eqb e.leader p q)
  either_is e (inr q) = ap (λ b. (e.leader == p) || b) (eq-eqb e.second p q) ∙ or_true (e.leader == p)
    where
      or_true : (b : Bool) → (b || true) ≡ true
      or_true true = refl
      or_true false = refl

  is_either : (e : Record) → ((e.leader == p) || (e.second == p)) ≡ true → (e.leader ≡ p) ⊎ (e.second ≡ p)
  is_either e fact = go (e.leader == p) refl fact
    where
      go : (b : Bool) → (e.leader == p) ≡ b → (b || (e.second == p)) ≡ true → (e.leader ≡ p) ⊎ (e.second ≡ p)
      go true f t = inl (eqb-true e.leader p f)
      go false f t = inr (eqb-true e.second p t)

  led_is_named : Leads n p → Names (net_of n) p
  led_is_named (by_request d w x m e) = inl (d, w, x, m, e)
  led_is_named (by_reply d w y m e) = inr (inr (d, w, y, m, e))

  pub not_free_is_named : (IsFree n.pool p → ⊥) → Names (net_of n) p
  not_free_is_named busy = elim (leads_or_free n p) [ inl led ↦ led_is_named led | inr free ↦ absurd (busy free) ]

  pub recorded_is_named : list_any (λ t. is_named p (records_at t 0) || is_named p (records_at t 1)) n.switches ≡ true →
      Names (net_of n) p
  recorded_is_named fact =
      let h = record_seen n is (λ (e : Record). (e.leader == p) || (e.second == p)) fact in
      inr (inl (h.0, h.1, h.2, h.3, is_either h.2 h.4))

  pub named_is_recorded : Names (net_of n) p → IsFree n.pool p →
      list_any (λ t. is_named p (records_at t 0) || is_named p (records_at t 1)) n.switches ≡ true
  named_is_recorded named free = elim named [
    | inl h ↦ absurd (free_leads_none n p free (by_request h.0 h.1 h.2 h.3 h.4))
    | inr rest ↦ elim rest [
      | inl h ↦ seen_record n is (λ (e : Record). (e.leader == p) || (e.second == p)) h.0 h.1 h.2 h.3 (either_is h.2 h.4)
      | inr h ↦ absurd (free_leads_none n p free (by_reply h.0 h.1 h.2 h.3 h.4))
    ]
  ]

  -- If a processor leads no message and is the second of no record, its cell is free.
  pub unnamed_is_free : Unnamed (net_of n) p → IsFree n.pool p
  unnamed_is_free none = elim (leads_or_free n p) [
    | inl led ↦ absurd (elim led [ by_request d w x m e ↦ none.requests d w x m e | by_reply d w y m e ↦ none.replies d w y m e ])
    | inr free ↦ free
  ]

  pub unnamed_is_unrecorded : Unnamed (net_of n) p →
      list_any (λ t. is_second p (records_at t 0) || is_second p (records_at t 1)) n.switches ≡ false
  unnamed_is_unrecorded none = go (list_any (λ t. is_second p (records_at t 0) || is_second p (records_at t 1)) n.switches) refl
    where
      go : (b : Bool) → list_any (λ t. is_second p (records_at t 0) || is_second p (records_at t 1)) n.switches ≡ b → b ≡ false
      go false fact = refl
      go true fact =
          let h = record_seen n is (λ (e : Record). e.second == p) fact in
          absurd (none.records h.0 h.1 h.2 h.3 (eqb-true h.2.second p h.4))

  pub free_and_unrecorded : IsFree n.pool p → list_any (λ t. is_second p (records_at t 0) || is_second p (records_at t 1)) n.switches ≡ false →
      Unnamed (net_of n) p
  free_and_unrecorded free fact = record {
    requests = λ d w x m e. free_leads_none n p free (by_request d w x m e);
    records = λ s w e m q. go (seen_record n is (λ (f : Record). f.second == p) s w e m (eq-eqb e.second p q));
    replies = λ d w y m e. free_leads_none n p free (by_reply d w y m e);
  }
    where
      go : list_any (λ t. is_second p (records_at t 0) || is_second p (records_at t 1)) n.switches ≡ true → ⊥
      go holds = let no : true ≡ false = sym holds ∙ fact in cc

-- ---- for the calls

module _ (n m : NetworkLists) (view : n ≡ m) (is : IsNetwork n) (p : ℕ) (free : Bool) (fact : IsTrue free ↔ IsFree n.pool p) where
  in_view : Names (net_of n) p → Names (net_of m) p
  in_view h = subst (λ (l : NetworkLists). Names (net_of l) p) view h

  out_of_view : Names (net_of m) p → Names (net_of n) p
  out_of_view h = subst (λ (l : NetworkLists). Names (net_of l) p) (sym view) h

  seen_unnamed : Unnamed (net_of n) p → Unnamed (net_of m) p
  seen_unnamed h = subst (λ (l : NetworkLists). Unnamed (net_of l) p) view h

  unseen_unnamed : Unnamed (net_of m) p → Unnamed (net_of n) p
  unseen_unnamed h = subst (λ (l : NetworkLists). Unnamed (net_of l) p) (sym view) h

  -- If a processor's cell is not free, the network names the processor, as the call says.
  pub names_where_led : free ≡ false → (IsTrue (not free) → Names (net_of m) p) × (Names (net_of m) p → IsTrue (not free))
  names_where_led busy = (
    (λ t. in_view (not_free_is_named n is p (λ f. let no : true ≡ false = sym (fact.1 f) ∙ busy in cc))),
    (λ h. ap not busy),
  )

  -- If a processor's cell is not free, no reply for it may be put in, as the call says.
  pub may_not_where_led : free ≡ false → (IsTrue free → Unnamed (net_of m) p) × (Unnamed (net_of m) p → IsTrue free)
  may_not_where_led busy = (
    (λ t. absurd (let no : true ≡ false = sym t ∙ busy in cc)),
    (λ h. fact.1 (unnamed_is_free n is p (unseen_unnamed h))),
  )

  module _ (switches : List SwitchState) (same : switches ≡ n.switches) (seen : Bool) where
    -- If a processor's cell is free, the network names it exactly if the look finds a record that names it.
    pub names_where_free : free ≡ true → seen ≡ list_any (λ t. is_named p (records_at t 0) || is_named p (records_at t 1)) switches
        → (IsTrue seen → Names (net_of m) p) × (Names (net_of m) p → IsTrue seen)
    names_where_free f look =
        let there : seen ≡ list_any (λ t. is_named p (records_at t 0) || is_named p (records_at t 1)) n.switches =
        look ∙ ap (list_any (λ t. is_named p (records_at t 0) || is_named p (records_at t 1))) same in (
          (λ t. in_view (recorded_is_named n is p (sym there ∙ t))),
          (λ h. there ∙ named_is_recorded n is p (out_of_view h) (fact.0 f)),
        )

    -- If a processor's cell is free, a reply for it may be put in exactly if no record is found with it as the second.
    pub may_where_free : free ≡ true → seen ≡ list_any (λ t. is_second p (records_at t 0) || is_second p (records_at t 1)) switches
        → (IsTrue (not seen) → Unnamed (net_of m) p) × (Unnamed (net_of m) p → IsTrue (not seen))
    may_where_free f look =
        let there : seen ≡ list_any (λ t. is_second p (records_at t 0) || is_second p (records_at t 1)) n.switches =
        look ∙ ap (list_any (λ t. is_second p (records_at t 0) || is_second p (records_at t 1))) same in (
          (λ t. seen_unnamed (free_and_unrecorded n is p (fact.0 f) (sym there ∙ unseen seen t))),
          (λ h. ap not (there ∙ unnamed_is_unrecorded n is p (unseen_unnamed h))),
        )
      where
        unseen : (b : Bool) → not b ≡ true → b ≡ false
        unseen true e = let no : false ≡ true = e in cc
        unseen false e = refl
