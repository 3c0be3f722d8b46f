-- Each step keeps a machine steady, and each move brings a reference nearer to its end.
use Rattle.network_theory.proofs.Lemmas.{answering_places, answers_led, below_role, combine, not_led, others_request}
use Rattle.network_theory.proofs.Lemmas.{placed_change, placed_nowhere, pop_reply, pop_reply_unnamed, pop_request}
use Rattle.network_theory.proofs.Lemmas.{pop_request_unnamed, push_reply, push_request, records_drop_other}
use Rattle.network_theory.proofs.Lemmas.{records_none, records_other_stage, records_path, records_push_other}
use Rattle.network_theory.proofs.Lemmas.{records_push_same, small_put, replying_other, unnamed_idle}
use Rattle.std.proofs.Common.{zero, ◌≡◌, ℕ, suc, ◌+◌, ◌-◌, ◌*◌, ◌%◌, ◌<◌, ◌≤◌, Bool, true, false, ◌&&◌, not, List}
use Rattle.std.proofs.Common.{[], ◌∷◌, ◌++◌, length, map, ◌==◌, nat_lt, ◌⊎◌, inl, inr, ◌↔◌, Option, Some, None, refl}
use Rattle.std.proofs.Common.{sym, ap, ap₂, ◌∙◌, subst, arith, ltb-true, eqb-true, length-append, drop}
use Rattle.std.specs.Prelude.{if◌then◌else◌}
use Rattle.std.proofs.lemmas.Bool.{cases_eq, true≢false, and_parts}
use Rattle.network_theory.specs.messages.declared.message.Request.{Request}
use Rattle.network_theory.specs.messages.declared.message.Reply.{Reply}
use Rattle.network_theory.specs.messages.declared.message.Record.{Record}
use Rattle.network_theory.specs.messages.Places.{put, put2, In}
use Rattle.network_theory.specs.messages.Queues.{applied, Combination, merged, combination, unmarked, records_of, records_but, answers}
use Rattle.network_theory.specs.messages.Network.{Sizes, wires, Net, put_requests, put_records, put_replies, records_on}
use Rattle.network_theory.specs.messages.declared.moves.UpMove.TheVariants as up
use Rattle.network_theory.specs.messages.declared.moves.DownMove.TheVariants as down
use Rattle.network_theory.specs.messages.Naming.{Unnamed}
use Rattle.network_theory.specs.messages.Moves.{combined, accepted, up_from, moved_up, push_all}
use Rattle.network_theory.specs.messages.Moves.{has_room, answered, down_from, moved_down, injected}
use Rattle.network_theory.specs.messages.Moves.{module_taken, module_replied, port_taken}
use Rattle.network_theory.specs.omega_wires.Wires.{path as way, wire_after, wire_before}
use Rattle.network_theory.proofs.Lemmas.omega_wires.{before_path, path_suc, path_zero}
use Rattle.network_theory.specs.Roles.{Role, Idle, Asking, Waiting, Replying, depth, Placed, RecordPlaced, replying_all}
use Rattle.serialization.specs.Program.{Program, Kind, Rests, Alone, Refers, word_of, path_of}
use Rattle.serialization.specs.Machine.{Machine, Step, Turn, Up, Serve, Down, Poke, stalled, with_net}
use Rattle.serialization.specs.Machine.{retire_from, request_of, issue, advance, begin, turned, went_up}
use Rattle.serialization.specs.Machine.{went_down, serve_from, all_shut, poked, step, new_machine}
use Rattle.serialization.specs.Steadiness.{Few, Stands, Steady, Far, idle, asking, replying, waiting, Lower, MovedOn, GoesOn}
use Rattle.network_theory.proofs.Lemmas.messages.{In-append, In-append_left, In-append_right, In-filter}
use Rattle.network_theory.proofs.Lemmas.messages.{In-put2, filter_none, put2_other, put2_same, put_other}
use Rattle.network_theory.proofs.Lemmas.messages.{put_same, Joins, combination_joins, from_answers}
use Rattle.serialization.proofs.Standing.{stands_pop_request, stands_pop_reply, stands_push_request}
use Rattle.serialization.proofs.Standing.{stands_push_reply, stands_push_record, stands_entry}
use Rattle.serialization.proofs.Standing.{stands_drop, stands_push_all, stands_pushed}
use Rattle.serialization.proofs.Distances.{far_asking, far_replying, far_waiting, far_lower}

shut_put : (role : ℕ → Role) (p : ℕ) (r : Role) (b : ℕ → Bool) → ((q : ℕ) → (b q ≡ false) ↔ (role q ≡ Idle)) → (role p ≡ Idle → ⊥) → (r ≡ Idle → ⊥) → (q : ℕ)
    → (b q ≡ false) ↔ (put role p r q ≡ Idle)
shut_put role p r b h n m q = (
  (λ e. let i = (h q).0 e in put_other role p r q (λ f. n (ap role (sym f) ∙ i)) ∙ i),
  (λ e. elim (cases_eq q p) [
    | inl f ↦ absurd (m (sym (ap (put role p r) f ∙ put_same role p r) ∙ e))
    | inr g ↦ (h q).1 (sym (put_other role p r q g) ∙ e)
  ]),
)

-- If one processor gets a role that is nearer, no distance grows and one falls.
lower_put : (k n : ℕ) (role : ℕ → Role) (p : ℕ) (r : Role) → p < n → ((i : ℕ) → Far k role p i → (j : ℕ) × Far k (put role p r) p j × (j < i))
    → Lower k n role (put role p r)
lower_put k n role p r l h = record {
  none_grows = far_lower k role (put role p r) (λ q. elim (cases_eq q p) [
    | inl e ↦ inr (λ i f. let g = h i (subst (λ v. Far k role v i) e f) in (g.0, subst (λ v. Far k (put role p r) v g.0) (sym e) g.1, omega (arith, g.2)))
    | inr m ↦ inl (put_other role p r q m)
  ]);
  mover = p;
  within = l;
  falls = h;
}

asks_n : (role : ℕ → Role) (n p : ℕ) (r : Role) → ((q : ℕ) → (role q ≡ Idle) ⊎ (q < n)) → role p ≡ r → (r ≡ Idle → ⊥) → p < n
asks_n role n p r small is m = elim (small p) [ inl i ↦ absurd (m (sym is ∙ i)) | inr l ↦ l ]

stands_put : (net : Net) (role : ℕ → Role) (p : ℕ) (r : Role) → ((q : ℕ) → (q ≡ p → ⊥) → Stands net q (role q)) → Stands net p r → (q : ℕ)
    → Stands net q (put role p r q)
stands_put net role p r others mine q = elim (cases_eq q p) [
  | inl e ↦ subst (λ v. Stands net v (put role p r v)) (sym e) (subst (Stands net p) (sym (put_same role p r)) mine)
  | inr m ↦ subst (Stands net q) (sym (put_other role p r q m)) (others q m)
]

pub steady_moved : {Core Pokes Entry : Type 0}
    → (z : Sizes) (P : Program Core Pokes Entry) (M : Machine Core) (role : ℕ → Role) (s w v : ℕ) (x : Request) (rest : List Request) → Steady z P M role
    → s < z.k → M.net.requests s w ≡ x ∷ rest
    → path_of z P M.core x.leader (suc s) ≡ v
    → MovedOn z P role (with_net M (put_requests (put_requests M.net s w rest) (suc s) v ((put_requests M.net s w rest).requests (suc s) v ++ unmarked x ∷ [])))
steady_moved z P M role s w v x rest ok l e on =
    let path = path_of z P M.core in
    let p : ℕ = x.leader in
    let y : Request = unmarked x in
    let here : In x (M.net.requests s w) = rw e (inl refl) in
    let at = ok.placed.requests s w x here in
    let net1 : Net = put_requests M.net s w rest in
    let placed1 = pop_request z.k path role M.net s w x rest ok.placed e in
    let free : Unnamed net1 p = pop_request_unnamed z.k path role M.net s w x rest ok.placed e in
    let below : (t u : ℕ) (r : Record) → In r (M.net.records t u) → r.leader ≡ p
    → t < s = (λ t u r i g. below_role z.k path role M.net p (Asking s) ok.placed at.asks t u r i g) in
    let none : records_on path M.net.records p s ≡ [] = records_none path M.net.records p s (λ u r i g. let b = below s u r i g in omega arith) in
    let old : (d u : ℕ) (b : Request) → In b (net1.requests d u)
    → In b (M.net.requests d u) = (λ d u b m. elim (In-put2 M.net.requests s w rest d u b m) [ inl h ↦ rw (h.0, h.1, e) (inr h.2) | inr h ↦ h.1 ]) in
    let role' : ℕ → Role = put role p (Asking (suc s)) in
    record {
      role' = role';
      steady = record {
        placed = push_request z.k path role net1 (suc s) v y placed1 free (λ t u r i g. let b = below t u r i g in omega arith) on l;
        worded = λ d u b m. elim (In-put2 net1.requests (suc s) v (net1.requests (suc s) v ++ y ∷ []) d u b m) [
          | inl h ↦ elim (In-append b (net1.requests (suc s) v) (y ∷ []) h.2) [
            | inl o ↦ ok.worded (suc s) v b (old (suc s) v b o)
            | inr (inl f) ↦ (λ i. (f i).word) ∙ ok.worded s w x here ∙ ap (λ (c : Request). word_of P M.core c.leader) (sym f)
            | inr (inr o) ↦ absurd o
          ]
          | inr h ↦ ok.worded d u b (old d u b h.1)
        ];
        marked = λ t u b m. elim (In-put2 net1.requests (suc s) v (net1.requests (suc s) v ++ y ∷ []) (suc t) u b m) [
          | inl h ↦ (let ts : t ≡ s = omega arith in elim (In-append b (net1.requests (suc s) v) (y ∷ []) h.2) [
            | inl o ↦ ok.marked t u b (rw (h.0, h.1) (old (suc s) v b o))
            | inr (inl f) ↦ (λ i. (f i).marks) ∙ ap length (sym none) ∙ (λ i. length (records_on path M.net.records (sym f i).leader (sym ts i)))
            | inr (inr o) ↦ absurd o
          ])
          | inr h ↦ ok.marked t u b (old (suc t) u b h.1)
        ];
        few = ok.few;
        stands = stands_put (put_requests net1 (suc s) v (net1.requests (suc s) v ++ y ∷ [])) role p (Asking (suc s))
            (λ q n. stands_push_request net1 (suc s) v y q (role q) (stands_pop_request M.net s w x rest q (role q) e n (ok.stands q))) (
              v,
              y,
              subst (In y) (sym (put2_same net1.requests (suc s) v (net1.requests (suc s) v ++ y ∷ [])))
                  (In-append_right y (net1.requests (suc s) v) (y ∷ []) (inl refl)),
              refl,
            );
        refers = ok.refers;
        shut = shut_put role p (Asking (suc s)) M.is_open ok.shut (λ i. let c = sym at.asks ∙ i in cc) (λ c. cc);
        small = small_put role (wires z) p (Asking (suc s)) ok.small (asks_n role (wires z) p (Asking s) ok.small at.asks (λ c. cc));
      };
      lower = lower_put z.k (wires z) role p (Asking (suc s)) (asks_n role (wires z) p (Asking s) ok.small at.asks (λ c. cc))
          (λ i f. let g = far_asking z.k role p i s f at.asks in
          (2 * z.k + 2 - suc s, asking p (2 * z.k + 2 - suc s) (suc s) (put_same role p (Asking (suc s))) (omega arith), omega arith));
    }

-- Each leader has records only in the buffers on its path. So what holds of the buffer on the path of each leader holds
-- of all buffers.
few_everywhere : (z : Sizes) (path : ℕ → ℕ → ℕ) (role : ℕ → Role) (net : Net) → Placed z.k path role net
    → ((p s : ℕ) → length (records_on path net.records p s) ≤ z.r) → Few z net
few_everywhere z path role net placed on_path p s w = elim (cases_eq (path p (suc s)) w) [
  | inl e ↦ subst (λ v. length (records_of p (net.records s v)) ≤ z.r) e (on_path p s)
  | inr n ↦ subst (λ m. m ≤ z.r) (ap length (sym (none_there n))) (omega arith)
]
  where
    none_there : (path p (suc s) ≡ w → ⊥) → records_of p (net.records s w) ≡ []
    none_there n = filter_none (λ (x : Record). x.leader == p) (net.records s w)
        (λ x m is. n (ap (λ q. path q (suc s)) (sym (eqb-true x.leader p is)) ∙ (placed.records s w x m).wire))

pub steady_combined : {Core Pokes Entry : Type 0}
    → (z : Sizes) (P : Program Core Pokes Entry) (M : Machine Core) (role : ℕ → Role) (s w v : ℕ) (x : Request) (rest : List Request) (j : Combination)
    → Steady z P M role → s < z.k → M.net.requests s w ≡ x ∷ rest
    → path_of z P M.core x.leader (suc s) ≡ v → Joins z.r x ((put_requests M.net s w rest).requests (suc s) v) j
    → MovedOn z P role (with_net M (combined (put_requests M.net s w rest) s v j).1)
steady_combined z P M role s w v x rest j ok l e on J =
    let path = path_of z P M.core in
    let q : ℕ = x.leader in
    let p : ℕ = J.entry.leader in
    let y : Request = merged J.entry J.function in
    let made : Record = record { leader = p; phi = J.entry.phi; second = q } in
    let here : In x (M.net.requests s w) = rw e (inl refl) in
    let at = ok.placed.requests s w x here in
    let net1 : Net = put_requests M.net s w rest in
    let old : (d u : ℕ) (b : Request) → In b (net1.requests d u)
    → In b (M.net.requests d u) = (λ d u b m. elim (In-put2 M.net.requests s w rest d u b m) [ inl h ↦ rw (h.0, h.1, e) (inr h.2) | inr h ↦ h.1 ]) in
    let placed1 = pop_request z.k path role M.net s w x rest ok.placed e in
    let free : Unnamed net1 q = pop_request_unnamed z.k path role M.net s w x rest ok.placed e in
    let there : In J.entry (net1.requests (suc s) v) = rw J.was (In-append_right J.entry J.front (J.entry ∷ J.behind) (inl refl)) in
    let n : p ≡ q → ⊥ = free.requests (suc s) v J.entry there in
    let lone : Unnamed (put_requests net1 (suc s) v (J.front ++ J.behind)) p =
    others_request z.k path role net1 (suc s) v J.front J.behind J.entry placed1 J.was in
    let place = placed1.requests (suc s) v J.entry there in
    let S : ℕ → ℕ → List Record = put2 M.net.records s v (M.net.records s v ++ made ∷ []) in
    let more : records_on path S p s ≡ records_on path M.net.records p s ++ made ∷ [] = records_push_same path M.net.records s v made place.wire in
    let longer : length (records_on path S p s) ≡ suc (length (records_on path M.net.records p s)) = ap length more
    ∙ omega (arith, length-append (records_on path M.net.records p s) (made ∷ [])) in
    let mark : J.entry.marks ≡ length (records_on path M.net.records p s) = ok.marked s v J.entry (old (suc s) v J.entry there) in
    let same : (i t : ℕ) → (i ≡ p → ⊥)
    → records_on path S i t ≡ records_on path M.net.records i t = (λ i t m. records_push_other path M.net.records s v made i t m) in
    let other_stage : (i t : ℕ) → (t ≡ s → ⊥)
    → records_on path S i t ≡ records_on path M.net.records i t =
    (λ i t m. records_other_stage path M.net.records s v (M.net.records s v ++ made ∷ []) i t m) in
    let role' : ℕ → Role = put role q (Waiting s p) in
    let asks_p : role' p ≡ Asking (suc s) = put_other role q (Waiting s p) p n ∙ place.asks in
    let queue : List Request = J.front ++ y ∷ J.behind in
    let placed' = combine z.k path role net1 s v J.front J.behind J.entry y made placed1 J.was refl refl free
    (subst (λ r. depth r ≤ s) (sym at.asks) (omega arith)) on in
    let done : MovedOn z P role (with_net M (combined net1 s v (record { queue = queue; made = made })).1) = record {
      role' = role';
      steady = record {
        placed = placed';
        worded = λ d u b m. elim (In-put2 net1.requests (suc s) v queue d u b m) [
          | inl h ↦ elim (In-append b J.front (y ∷ J.behind) h.2) [
            | inl o ↦ ok.worded (suc s) v b (old (suc s) v b (rw J.was (In-append_left b J.front (J.entry ∷ J.behind) o)))
            | inr (inl f) ↦ (λ i. (f i).word) ∙ ok.worded (suc s) v J.entry (old (suc s) v J.entry there)
                ∙ ap (λ (c : Request). word_of P M.core c.leader) (sym f)
            | inr (inr o) ↦ ok.worded (suc s) v b (old (suc s) v b (rw J.was (In-append_right b J.front (J.entry ∷ J.behind) (inr o))))
          ]
          | inr h ↦ ok.worded d u b (old d u b h.1)
        ];
        marked = λ t u b m. elim (In-put2 net1.requests (suc s) v queue (suc t) u b m) [
          | inl h ↦ (let ts : t ≡ s = omega arith in
              let keep : In b (net1.requests (suc s) v) → In b (J.front ++ J.behind) → b.marks ≡ length (records_on path S b.leader t) = (λ o i.
              ok.marked t u b (rw (h.0, h.1) (old (suc s) v b o))
              ∙ ap length (sym (same b.leader t (lone.requests (suc s) v b (rw (put2_same net1.requests (suc s) v (J.front ++ J.behind)) i))))) in
              elim (In-append b J.front (y ∷ J.behind) h.2) [
                | inl o ↦ keep (rw J.was (In-append_left b J.front (J.entry ∷ J.behind) o)) (In-append_left b J.front J.behind o)
                | inr (inl f) ↦ (λ i. (f i).marks) ∙ ap suc mark ∙ sym longer ∙ (λ i. length (records_on path S (sym f i).leader (sym ts i)))
                | inr (inr o) ↦ keep (rw J.was (In-append_right b J.front (J.entry ∷ J.behind) (inr o))) (In-append_right b J.front J.behind o)
              ])
          | inr h ↦ ok.marked t u b (old (suc t) u b h.1)
              ∙ ap length (sym (same b.leader t (lone.requests (suc t) u b (rw (put2_other net1.requests (suc s) v (J.front ++ J.behind) (suc t) u h.0) h.1))))
        ];
        few = few_everywhere z path role' (combined net1 s v (record { queue = queue; made = made })).1 placed'
            (λ i t. elim (cases_eq i p) [
              | inl f ↦ elim (cases_eq t s) [
                | inl g ↦ rw (f, g) (let a = J.fewer in omega arith)
                | inr m ↦ rw (other_stage i t m) (ok.few i t (path i (suc t)))
              ]
              | inr m ↦ rw (same i t m) (ok.few i t (path i (suc t)))
            ]);
        stands = stands_put (put_records (put_requests net1 (suc s) v queue) s v (M.net.records s v ++ made ∷ [])) role q (Waiting s p)
            (λ i m. stands_push_record (put_requests net1 (suc s) v queue) s v made i (role i)
            (stands_entry net1 (suc s) v J.front J.behind J.entry y i (role i) J.was refl
            (stands_pop_request M.net s w x rest i (role i) e m (ok.stands i)))) (
              v,
              made,
              subst (In made) (sym (put2_same M.net.records s v (M.net.records s v ++ made ∷ [])))
                  (In-append_right made (M.net.records s v) (made ∷ []) (inl refl)),
              refl,
              refl,
            );
        refers = ok.refers;
        shut = shut_put role q (Waiting s p) M.is_open ok.shut (λ i. let c = sym at.asks ∙ i in cc) (λ c. cc);
        small = small_put role (wires z) q (Waiting s p) ok.small (asks_n role (wires z) q (Asking s) ok.small at.asks (λ c. cc));
      };
      lower = lower_put z.k (wires z) role q (Waiting s p) (asks_n role (wires z) q (Asking s) ok.small at.asks (λ c. cc))
          (λ i f. let g = far_asking z.k role q i s f at.asks in (
            2 * z.k + 2 - suc s,
            waiting q (2 * z.k + 2 - suc s) s p (put_same role q (Waiting s p))
                (asking p (2 * z.k + 2 - suc s) (suc s) asks_p (omega arith)),
            omega arith,
          ));
    } in
    subst (λ i. MovedOn z P role (with_net M (combined net1 s v i).1)) (sym J.is) done

pub steady_serve : {Core Pokes Entry : Type 0}
    → (z : Sizes) (P : Program Core Pokes Entry) (M : Machine Core) (role : ℕ → Role) (m : ℕ) (x : Request) (rest : List Request) → Steady z P M role
    → M.net.requests z.k m ≡ x ∷ rest
    → MovedOn z P role (serve_from {Pokes = Pokes} z M m (x ∷ rest) []).machine
unfolding module_taken module_replied
steady_serve z P M role m x others ok from =
    let path = path_of z P M.core in
    let p : ℕ = x.leader in
    let rest : List Request = drop 1 (M.net.requests z.k m) in
    let e : M.net.requests z.k m ≡ x ∷ rest = from ∙ ap (λ xs. x ∷ xs) (sym (ap (drop 1) from)) in
    let here : In x (M.net.requests z.k m) = rw e (inl refl) in
    let at = ok.placed.requests z.k m x here in
    let y : Reply = record { leader = p; value = M.mem x.word } in
    let net1 : Net = put_requests M.net z.k m rest in
    let old : (d u : ℕ) (b : Request) → In b (net1.requests d u)
    → In b (M.net.requests d u) = (λ d u b i. elim (In-put2 M.net.requests z.k m rest d u b i) [ inl h ↦ rw (h.0, h.1, e) (inr h.2) | inr h ↦ h.1 ]) in
    let placed1 = pop_request z.k path role M.net z.k m x rest ok.placed e in
    let free : Unnamed net1 p = pop_request_unnamed z.k path role M.net z.k m x rest ok.placed e in
    let l : p < wires z = asks_n role (wires z) p (Asking z.k) ok.small at.asks (λ c. cc) in
    record {
      role' = put role p (Replying z.k);
      steady = record {
        placed = push_reply z.k path role net1 z.k m y placed1 free
            (λ s w r i g. below_role z.k path role M.net p (Asking z.k) ok.placed at.asks s w r i g) at.wire (omega arith);
        worded = λ d u b i. ok.worded d u b (old d u b i);
        marked = λ t u b i. ok.marked t u b (old (suc t) u b i);
        few = ok.few;
        stands = stands_put (put_replies net1 z.k m (M.net.replies z.k m ++ y ∷ [])) role p (Replying z.k)
            (λ q n. stands_push_reply net1 z.k m y q (role q) (stands_pop_request M.net z.k m x rest q (role q) e n (ok.stands q))) (
              m,
              y,
              subst (In y) (sym (put2_same M.net.replies z.k m (M.net.replies z.k m ++ y ∷ [])))
                  (In-append_right y (M.net.replies z.k m) (y ∷ []) (inl refl)),
              refl,
            );
        refers = ok.refers;
        shut = shut_put role p (Replying z.k) M.is_open ok.shut (λ i. let c = sym at.asks ∙ i in cc) (λ c. cc);
        small = small_put role (wires z) p (Replying z.k) ok.small l;
      };
      lower = lower_put z.k (wires z) role p (Replying z.k) l
          (λ i f. let g = far_asking z.k role p i z.k f at.asks in (suc z.k, replying p (suc z.k) z.k (put_same role p (Replying z.k)) refl, omega arith));
    }

kept_requests : (wire : ℕ → ℕ) (s : ℕ) (ys : List Reply) (net : Net) → (push_all wire s ys net).requests ≡ net.requests
unfolding push_all
kept_requests wire s [] net = refl
kept_requests wire s (y ∷ ys) net = kept_requests wire s ys (put_replies net s (wire y.leader) (net.replies s (wire y.leader) ++ y ∷ []))

kept_records : (wire : ℕ → ℕ) (s : ℕ) (ys : List Reply) (net : Net) → (push_all wire s ys net).records ≡ net.records
unfolding push_all
kept_records wire s [] net = refl
kept_records wire s (y ∷ ys) net = kept_records wire s ys (put_replies net s (wire y.leader) (net.replies s (wire y.leader) ++ y ∷ []))

-- Either one of these replies is led by q, or none is.
led_by : (ys : List Reply) (q : ℕ) → ((y : Reply) × In y ys × (y.leader ≡ q)) ⊎ ((y : Reply) → In y ys → y.leader ≡ q → ⊥)
led_by [] q = inr (λ y m e. m)
led_by (x ∷ ys) q = elim (cases_eq x.leader q) [
  | inl e ↦ inl (x, inl refl, e)
  | inr n ↦ elim (led_by ys q) [
    | inl h ↦ inl (h.0, inr h.1, h.2)
    | inr h ↦ inr (λ y m e. elim m [ inl f ↦ n (ap (λ (b : Reply). b.leader) (sym f) ∙ e) | inr o ↦ h y o e ])
  ]
]

replying_in : (s : ℕ) (ys : List Reply) (role : ℕ → Role) (y : Reply) → In y ys → replying_all s ys role y.leader ≡ Replying s
unfolding replying_all
replying_in s [] role y m = elim m [ ]
replying_in s (x ∷ ys) role y (inr m) = replying_in s ys (put role x.leader (Replying s)) y m
replying_in s (x ∷ ys) role y (inl e) = elim (led_by ys y.leader) [
  | inl h ↦ ap (replying_all s ys (put role x.leader (Replying s))) (sym h.2) ∙ replying_in s ys (put role x.leader (Replying s)) h.0 h.1
  | inr n ↦ replying_other s ys (put role x.leader (Replying s)) y.leader n ∙ (λ i. put role x.leader (Replying s) ((e i).leader))
      ∙ put_same role x.leader (Replying s)
]

pub steady_answer : {Core Pokes Entry : Type 0}
    → (z : Sizes) (P : Program Core Pokes Entry) (M : Machine Core) (role : ℕ → Role) (s w : ℕ) (x : Reply) (rest : List Reply) → Steady z P M role → s < z.k
    → M.net.replies (suc s) w ≡ x ∷ rest
    → MovedOn z P role (with_net M
    (push_all (wire_before z.k s w) s (answers (records_of x.leader (M.net.records s w)) x)
    (put_records (put_replies M.net (suc s) w rest) s w (records_but x.leader (M.net.records s w)))))
steady_answer z P M role s w x rest ok l e =
    let path = path_of z P M.core in
    let word = word_of P M.core in
    let p : ℕ = x.leader in
    let here : In x (M.net.replies (suc s) w) = rw e (inl refl) in
    let at = ok.placed.replies (suc s) w x here in
    let rs : List Record = records_of p (M.net.records s w) in
    let left : List Record = records_but p (M.net.records s w) in
    let net1 : Net = put_replies M.net (suc s) w rest in
    let net2 : Net = put_records net1 s w left in
    let ys : List Reply = answers rs x in
    let net3 : Net = push_all (wire_before z.k s w) s ys net2 in
    let role' : ℕ → Role = replying_all s ys role in
    let placed1 = pop_reply z.k path role M.net (suc s) w x rest ok.placed e in
    let free : Unnamed net1 p = pop_reply_unnamed z.k path role M.net (suc s) w x rest ok.placed e in
    let known : (r : Record) → In r rs → RecordPlaced z.k path role s w r × (r.leader ≡ p)
    = (λ r m. let g = In-filter (λ (e : Record). e.leader == p) r (M.net.records s w) m in (ok.placed.records s w r g.0, eqb-true r.leader p g.1)) in
    let back : (q : ℕ) → (role q ≡ Idle → ⊥) → path q (suc s) ≡ w → path q s ≡ wire_before z.k s w q
    = (λ q n on. sym (before_path z.k q (word q % wires z) s l (asks_n role (wires z) q (role q) ok.small refl n)) ∙ ap (λ v. wire_before z.k s v q) on) in
    let not_idle_led : (y : Reply) → In y ys → role y.leader ≡ Idle → ⊥ = (λ y m i. answers_led z.k path role net1 s w x placed1 at.replying y m i) in
    let gone : records_on path (put2 M.net.records s w left) p s ≡ [] =
    filter_none (λ (r : Record). r.leader == p) (put2 M.net.records s w left s (path p (suc s)))
    (λ r m g. elim (In-put2 M.net.records s w left s (path p (suc s)) r m) [
      | inl h ↦ not_led r.leader p (eqb-true r.leader p g) ((In-filter (λ (e : Record). not (e.leader == p)) r (M.net.records s w) h.2).1)
      | inr h ↦ h.0 refl at.wire
    ]) in
    let placed' = answering_places z.k path (wire_before z.k s w) role net1 s w x placed1 l free at.replying at.wire back in
    record {
      role' = role';
      steady = record {
        placed = placed';
        worded = λ d u b i. ok.worded d u b (subst (λ (f : ℕ → ℕ → List Request). In b (f d u)) (kept_requests (wire_before z.k s w) s ys net2) i);
        marked = λ t u b i. let o = subst (λ (f : ℕ → ℕ → List Request). In b (f (suc t) u)) (kept_requests (wire_before z.k s w) s ys net2) i in
            ok.marked t u b o ∙ ap length (sym (records_drop_other path M.net.records s w p b.leader t (free.requests (suc t) u b o)))
            ∙ (λ i. length (records_on path (sym (kept_records (wire_before z.k s w) s ys net2) i) b.leader t));
        few = few_everywhere z path role' net3 placed'
            (λ i t. subst (λ (f : ℕ → ℕ → List Record). length (records_on path f i t) ≤ z.r) (sym (kept_records (wire_before z.k s w) s ys net2))
            (elim (cases_eq i p) [
              | inl f ↦ elim (cases_eq t s) [
                | inl g ↦ subst (λ n. n ≤ z.r) (ap length (sym gone) ∙ (λ j. length (records_on path (put2 M.net.records s w left) (sym f j) (sym g j))))
                    (omega arith)
                | inr n ↦ subst (λ r. length r ≤ z.r) (sym (records_other_stage path M.net.records s w left i t n)) (ok.few i t (path i (suc t)))
              ]
              | inr n ↦ subst (λ r. length r ≤ z.r) (sym (records_drop_other path M.net.records s w p i t n)) (ok.few i t (path i (suc t)))
            ]));
        stands = λ q. elim (led_by ys q) [
          | inl h ↦ subst (λ v. Stands net3 v (role' v)) h.2
              (subst (Stands net3 h.0.leader) (sym (replying_in s ys role h.0 h.1)) (stands_pushed (wire_before z.k s w) s ys net2 h.0 h.1))
          | inr n ↦ subst (Stands net3 q) (sym (replying_other s ys role q n))
              (stands_push_all (wire_before z.k s w) s ys net2 q (role q)
              (stands_drop net1 s w p q (role q) (λ a m g. n (record { leader = a.second; value = applied a.phi x.value }) (inr (to_answers x rs a m)) g)
              (stands_pop_reply M.net (suc s) w x rest q (role q) e (λ g. n x (inl refl) (sym g)) (ok.stands q))))
        ];
        refers = ok.refers;
        shut = λ q. (
          (λ f. let i = (ok.shut q).0 f in replying_other s ys role q (λ y m g. not_idle_led y m (ap role g ∙ i)) ∙ i),
          (λ f. elim (led_by ys q) [
            | inl h ↦ (let c : Replying s ≡ Idle = sym (replying_in s ys role h.0 h.1) ∙ ap role' h.2 ∙ f in cc)
            | inr n ↦ (ok.shut q).1 (sym (replying_other s ys role q n) ∙ f)
          ]),
        );
        small = λ q. elim (ok.small q) [ inl i ↦ inl (replying_other s ys role q (λ y m g. not_idle_led y m (ap role g ∙ i)) ∙ i) | inr j ↦ inr j ];
      };
      lower = record {
        none_grows = far_lower z.k role role' (λ q. elim (led_by ys q) [
          | inl h ↦ inr (λ i f. (
            suc s,
            replying q (suc s) s (ap role' (sym h.2) ∙ replying_in s ys role h.0 h.1) refl,
            elim (from_answers x h.0 rs h.1) [
              | inl a ↦ (let g = far_replying z.k role q i (suc s) f (ap role (sym h.2 ∙ a) ∙ at.replying) in omega arith)
              | inr a ↦ (let k = known a.0 a.1 in
                  let g = far_replying z.k role a.0.leader i (suc s) (far_waiting z.k role q i s a.0.leader f (ap role (sym h.2 ∙ a.2) ∙ k.0.waits))
                  (ap role k.1 ∙ at.replying) in omega arith)
            ],
          ))
          | inr n ↦ inl (replying_other s ys role q n)
        ]);
        mover = p;
        within = asks_n role (wires z) p (Replying (suc s)) ok.small at.replying (λ c. cc);
        falls = λ i f. let g = far_replying z.k role p i (suc s) f at.replying in
            (suc s, replying p (suc s) s (replying_in s ys role x (inl refl)) refl, omega arith);
      };
    }
  where
    to_answers : (x : Reply) (rs : List Record) (a : Record) → In a rs → In {X = Reply} (record {
      leader = a.second;
      value = applied a.phi x.value;
    }) (map (λ (r : Record). record { leader = r.second; value = applied r.phi x.value }) rs)
    to_answers x [] a m = elim m [ ]
    to_answers x (r ∷ rs) a (inl f) = inl (λ i. record { leader = (f i).second; value = applied (f i).phi x.value })
    to_answers x (r ∷ rs) a (inr m) = inr (to_answers x rs a m)

pub steady_retire : {Core Pokes Entry : Type 0}
    → (z : Sizes) (P : Program Core Pokes Entry) (M : Machine Core) (role : ℕ → Role) (p : ℕ) (y : Reply) (rest : List Reply) → Steady z P M role
    → M.net.replies 0 p ≡ y ∷ rest
    → MovedOn z P role (retire_from P M p (y ∷ rest)).machine
unfolding port_taken
steady_retire z P M role p y others ok from =
    let path = path_of z P M.core in
    let core' = put M.core p (P.retire p (M.core p) y.value) in
    let path' = path_of z P core' in
    let rest : List Reply = drop 1 (M.net.replies 0 p) in
    let e : M.net.replies 0 p ≡ y ∷ rest = from ∙ ap (λ ys. y ∷ ys) (sym (ap (drop 1) from)) in
    let here : In y (M.net.replies 0 p) = rw e (inl refl) in
    let at = ok.placed.replies 0 p y here in
    let is : y.leader ≡ p = sym (path_zero z.k y.leader (P.word_of y.leader (M.core y.leader) % wires z)) ∙ at.wire in
    let replying_p : role p ≡ Replying 0 = ap role (sym is) ∙ at.replying in
    let net1 : Net = put_replies M.net 0 p rest in
    let placed1 = pop_reply z.k path role M.net 0 p y rest ok.placed e in
    let free : Unnamed net1 p = subst (Unnamed net1) is (pop_reply_unnamed z.k path role M.net 0 p y rest ok.placed e) in
    let same : (q : ℕ) → (q ≡ p → ⊥) → core' q ≡ M.core q = (λ q n. put_other M.core p (P.retire p (M.core p) y.value) q n) in
    let same_way : (q d : ℕ) → (q ≡ p → ⊥) → path' q d ≡ path q d = (λ q d n. ap (λ g. way z.k q (P.word_of q g % wires z) d) (same q n)) in
    let leads_none : (s w : ℕ) (a : Record) → In a (M.net.records s w) → a.leader ≡ p
    → ⊥ = (λ s w a m f. let h = below_role z.k path role M.net p (Replying 0) ok.placed replying_p s w a m f in absurd (omega arith)) in
    record {
      role' = put role p Idle;
      steady = record {
        placed = placed_change z.k path path' role Idle net1 p placed1 free leads_none same_way;
        worded = λ d w x m. ok.worded d w x m ∙ sym (ap (P.word_of x.leader) (same x.leader (free.requests d w x m)));
        marked = λ t u b m. ok.marked t u b m
            ∙ ap length (sym (records_path path path' M.net.records b.leader t (same_way b.leader (suc t) (free.requests (suc t) u b m))));
        few = ok.few;
        stands = stands_put net1 role p Idle (λ q n. stands_pop_reply M.net 0 p y rest q (role q) e (λ f. n (f ∙ is)) (ok.stands q)) tt;
        refers = λ q f. elim (cases_eq q p) [
          | inl g ↦ absurd (true≢false (sym f ∙ ap (put M.is_open p false) g ∙ put_same M.is_open p false))
          | inr n ↦ ap (P.kind q) (same q n) ∙ ok.refers q (sym (put_other M.is_open p false q n) ∙ f)
        ];
        shut = λ q. (
          (λ f. elim (cases_eq q p) [
            | inl g ↦ ap (put role p Idle) g ∙ put_same role p Idle
            | inr n ↦ put_other role p Idle q n
                ∙ (ok.shut q).0 (sym (put_other M.is_open p false q n) ∙ f)
          ]),
          (λ f. elim (cases_eq q p) [
            | inl g ↦ ap (put M.is_open p false) g ∙ put_same M.is_open p false
            | inr n ↦ put_other M.is_open p false q n
                ∙ (ok.shut q).1 (sym (put_other role p Idle q n) ∙ f)
          ]),
        );
        small = small_put role (wires z) p Idle ok.small (asks_n role (wires z) p (Replying 0) ok.small replying_p (λ c. cc));
      };
      lower = lower_put z.k (wires z) role p Idle (asks_n role (wires z) p (Replying 0) ok.small replying_p (λ c. cc))
          (λ i f. let g = far_replying z.k role p i 0 f replying_p in (0, idle p 0 (put_same role p Idle) refl, omega arith));
    }

pub steady_issue : {Core Pokes Entry : Type 0} → (z : Sizes) (P : Program Core Pokes Entry) (M : Machine Core) (role : ℕ → Role) (p : ℕ) → Steady z P M role
    → p < wires z → M.is_open p ≡ false → P.kind p (M.core p) ≡ Refers → Steady z P (issue P M p).machine (put role p (Asking 0))
unfolding injected
steady_issue z P M role p ok l shut is =
    let path = path_of z P M.core in
    let idle_p = (ok.shut p).0 shut in
    let free = unnamed_idle z.k path role M.net p ok.placed idle_p in
    let x : Request = request_of P M.core p in
    record {
      placed = push_request z.k path role M.net 0 p x ok.placed free (λ s w a m e. below_role z.k path role M.net p Idle ok.placed idle_p s w a m e)
          (path_zero z.k p (P.word_of p (M.core p) % wires z)) (omega arith);
      worded = λ d u b m. elim (In-put2 M.net.requests 0 p (M.net.requests 0 p ++ x ∷ []) d u b m) [
        | inl h ↦ elim (In-append b (M.net.requests 0 p) (x ∷ []) h.2) [
          | inl o ↦ ok.worded 0 p b o
          | inr (inl f) ↦ (λ i. (f i).word) ∙ ap (λ (c : Request). word_of P M.core c.leader) (sym f)
          | inr (inr o) ↦ absurd o
        ]
        | inr h ↦ ok.worded d u b h.1
      ];
      marked = λ t u b m. elim (In-put2 M.net.requests 0 p (M.net.requests 0 p ++ x ∷ []) (suc t) u b m) [
        | inl h ↦ absurd (let z0 = h.0 in omega arith)
        | inr h ↦ ok.marked t u b h.1
      ];
      few = ok.few;
      stands = stands_put (put_requests M.net 0 p (M.net.requests 0 p ++ x ∷ [])) role p (Asking 0)
          (λ q n. stands_push_request M.net 0 p x q (role q) (ok.stands q)) (
            p,
            x,
            subst (In x) (sym (put2_same M.net.requests 0 p (M.net.requests 0 p ++ x ∷ [])))
                (In-append_right x (M.net.requests 0 p) (x ∷ []) (inl refl)),
            refl,
          );
      refers = λ q f. elim (cases_eq q p) [
        | inl g ↦ ap (λ i. P.kind i (M.core i)) g ∙ is
        | inr n ↦ ok.refers q (sym (put_other M.is_open p true q n) ∙ f)
      ];
      shut = λ q. (
        (λ f. elim (cases_eq q p) [
          | inl g ↦ absurd (true≢false (sym (ap (put M.is_open p true) g ∙ put_same M.is_open p true) ∙ f))
          | inr n ↦ put_other role p (Asking 0) q n ∙ (ok.shut q).0 (sym (put_other M.is_open p true q n) ∙ f)
        ]),
        (λ f. elim (cases_eq q p) [
          | inl g ↦ (let c : Asking 0 ≡ Idle = sym (ap (put role p (Asking 0)) g ∙ put_same role p (Asking 0)) ∙ f in cc)
          | inr n ↦ put_other M.is_open p true q n ∙ (ok.shut q).1 (sym (put_other role p (Asking 0) q n) ∙ f)
        ]),
      );
      small = small_put role (wires z) p (Asking 0) ok.small l;
    }

pub steady_advance : {Core Pokes Entry : Type 0} → (z : Sizes) (P : Program Core Pokes Entry) (M : Machine Core) (role : ℕ → Role) (p : ℕ) → Steady z P M role
    → p < wires z → M.is_open p ≡ false → Steady z P (advance P M p).machine (put role p Idle)
steady_advance z P M role p ok l shut =
    let path = path_of z P M.core in
    let core' = put M.core p (P.alone p (M.core p)) in
    let path' = path_of z P core' in
    let idle_p = (ok.shut p).0 shut in
    let free = unnamed_idle z.k path role M.net p ok.placed idle_p in
    let same : (q : ℕ) → (q ≡ p → ⊥) → core' q ≡ M.core q = (λ q n. put_other M.core p (P.alone p (M.core p)) q n) in
    let same_way : (q d : ℕ) → (q ≡ p → ⊥) → path' q d ≡ path q d = (λ q d n. ap (λ g. way z.k q (P.word_of q g % wires z) d) (same q n)) in
    let leads_none : (s w : ℕ) (a : Record) → In a (M.net.records s w) → a.leader ≡ p
    → ⊥ = (λ s w a m f. let h = below_role z.k path role M.net p Idle ok.placed idle_p s w a m f in absurd (omega arith)) in
    record {
      placed = placed_change z.k path path' role Idle M.net p ok.placed free leads_none same_way;
      worded = λ d w x m. ok.worded d w x m ∙ sym (ap (P.word_of x.leader) (same x.leader (free.requests d w x m)));
      marked = λ t u b m. ok.marked t u b m
          ∙ ap length (sym (records_path path path' M.net.records b.leader t (same_way b.leader (suc t) (free.requests (suc t) u b m))));
      few = ok.few;
      stands = stands_put M.net role p Idle (λ q n. ok.stands q) tt;
      refers = λ q f. elim (cases_eq q p) [
        | inl g ↦ absurd (true≢false (sym f ∙ ap M.is_open g ∙ shut))
        | inr n ↦ ap (P.kind q) (same q n) ∙ ok.refers q f
      ];
      shut = λ q. (
        (λ f. elim (cases_eq q p) [ inl g ↦ ap (put role p Idle) g ∙ put_same role p Idle | inr n ↦ put_other role p Idle q n ∙ (ok.shut q).0 f ]),
        (λ f. elim (cases_eq q p) [ inl g ↦ ap M.is_open g ∙ shut | inr n ↦ (ok.shut q).1 (sym (put_other role p Idle q n) ∙ f) ]),
      );
      small = small_put role (wires z) p Idle ok.small l;
    }

-- A new machine is steady, with each processor idle.
pub steady_start : {Core Pokes Entry : Type 0} → (z : Sizes) (P : Program Core Pokes Entry) (mem : ℕ → ℕ) (core : ℕ → Core)
    → Steady z P (new_machine mem core) (λ p. Idle)
steady_start z P mem core = record {
  placed = record {
    requests = λ d w x m. absurd m;
    records = λ s w x m. absurd m;
    replies = λ d w x m. absurd m;
    requests_apart = λ d w. tt;
    records_apart =
        λ s w. tt;
    replies_apart = λ d w. tt;
  };
  worded = λ d w x m. absurd m;
  marked = λ s w x m. absurd m;
  few = λ p s w. omega arith;
  stands = λ p. tt;
  shut = λ p. ((λ e. refl), (λ e. refl));
  small = λ p. inl refl;
  refers = λ p e. absurd (true≢false (sym e));
}

-- If all of the first n are shut, none of them is open.
pub all_shut_is : (n : ℕ) (open_now : ℕ → Bool) → all_shut n open_now ≡ true → (p : ℕ) → p < n → open_now p ≡ false
unfolding all_shut
all_shut_is zero open_now e p l = absurd (omega arith)
all_shut_is (suc n) open_now e p l = elim (cases_eq p n) [
  | inl f ↦ ap open_now f ∙ is_shut (open_now n) (parts.0)
  | inr m ↦ all_shut_is n open_now parts.1 p (omega arith)
]
  where
    parts : (not (open_now n) ≡ true) × (all_shut n open_now ≡ true)
    parts = and_parts (not (open_now n)) (all_shut n open_now) e

    is_shut : (b : Bool) → not b ≡ true → b ≡ false
    is_shut true f = absurd (true≢false (sym f))
    is_shut false f = refl

-- A steady machine without an open reference is still steady after a poke.
pub steady_poked : {Core Pokes Entry : Type 0} → (z : Sizes) (P : Program Core Pokes Entry) (M : Machine Core) (role : ℕ → Role) (q : Pokes)
    → Steady z P M role → ((p : ℕ) → p < wires z → M.is_open p ≡ false) → Steady z P (poked P M q).machine role
steady_poked z P M role q ok shut =
    let idle : (p : ℕ) → role p ≡ Idle = (λ p. elim (ok.small p) [ inl i ↦ i | inr l ↦ (ok.shut p).0 (shut p l) ]) in
    let no_request : (d w : ℕ) (x : Request) → In x (M.net.requests d w)
    → ⊥ = (λ d w x m. let h = (ok.placed.requests d w x m).asks in let c : Asking d ≡ Idle = sym h ∙ idle x.leader in cc) in
    let no_record : (s w : ℕ) (x : Record) → In x (M.net.records s w)
    → ⊥ = (λ s w x m. let h = (ok.placed.records s w x m).waits in let c : Waiting s x.leader ≡ Idle = sym h ∙ idle x.second in cc) in
    record {
      placed = placed_nowhere z.k (path_of z P M.core) (path_of z P (P.poked_core q M.core)) role M.net ok.placed idle;
      worded = λ d w x m. absurd (no_request d w x m);
      marked = λ s w x m. absurd (no_request (suc s) w x m);
      few = ok.few;
      stands = ok.stands;
      shut = ok.shut;
      small = ok.small;
      refers = λ p e. absurd (true≢false (sym e ∙ (ok.shut p).1 (idle p)));
    }

goes_stalled : {Core Pokes Entry : Type 0} → (z : Sizes) (P : Program Core Pokes Entry) (M : Machine Core) (role : ℕ → Role) → Steady z P M role
    → GoesOn z P role (stalled M)
goes_stalled z P M role ok = (role, ok, tt)

goes_up : {Core Pokes Entry : Type 0} → (z : Sizes) (P : Program Core Pokes Entry) (M : Machine Core) (role : ℕ → Role) (s w : ℕ) (xs : List Request)
    → Steady z P M role → s < z.k → M.net.requests s w ≡ xs → GoesOn z P role (went_up M (up_from z M.net s w xs))
goes_up z P M role s w [] ok l e = goes_stalled z P M role ok
goes_up z P M role s w (x ∷ rest) ok l e =
    let here : In x (M.net.requests s w) = rw e (inl refl) in
    let at = ok.placed.requests s w x here in
    let v : ℕ = wire_after z.k s w (x.word % wires z) in
    let on : path_of z P M.core x.leader (suc s) ≡ v = path_suc z.k x.leader (word_of P M.core x.leader % wires z) s
    ∙ ap₂ (λ a b. wire_after z.k s a (b % wires z)) at.wire (sym (ok.worded s w x here)) in
    go v on (combination z.b z.r x ((put_requests M.net s w rest).requests (suc s) v) (M.net.records s v))
    (λ j f. combination_joins z.b z.r x ((put_requests M.net s w rest).requests (suc s) v) (M.net.records s v) j f)
  where
    queue_go : (v : ℕ) → MovedOn z P role
        (with_net M (put_requests (put_requests M.net s w rest) (suc s) v ((put_requests M.net s w rest).requests (suc s) v ++ unmarked x ∷ []))) → (b : Bool)
        → GoesOn z P role (went_up M
        (if b then (
          up.Moved,
          put_requests (put_requests M.net s w rest) (suc s) v
              ((put_requests M.net s w rest).requests (suc s) v ++ unmarked x ∷ []),
        ) else (up.Stalled, M.net)))
    queue_go v h true = (h.role', h.steady, h.lower)
    queue_go v h false = goes_stalled z P M role ok

    go : (v : ℕ) → path_of z P M.core x.leader (suc s) ≡ v → (o : Option Combination)
        → ((j : Combination) → o ≡ Some j → Joins z.r x ((put_requests M.net s w rest).requests (suc s) v) j)
        → GoesOn z P role (went_up M (accepted z M.net (put_requests M.net s w rest) s v x o))
    go v on None h = queue_go v (steady_moved z P M role s w v x rest ok l e on) (nat_lt (length ((put_requests M.net s w rest).requests (suc s) v)) z.c)
    go v on (Some j) h = let g = steady_combined z P M role s w v x rest j ok l e on (h j refl) in (g.role', g.steady, g.lower)

goes_down : {Core Pokes Entry : Type 0} → (z : Sizes) (P : Program Core Pokes Entry) (M : Machine Core) (role : ℕ → Role) (s w : ℕ) (xs : List Reply)
    → Steady z P M role → s < z.k → M.net.replies (suc s) w ≡ xs → GoesOn z P role (went_down M (down_from z M.net s w xs))
goes_down z P M role s w [] ok l e = goes_stalled z P M role ok
goes_down z P M role s w (x ∷ rest) ok l e =
    let rs : List Record = records_of x.leader (M.net.records s w) in
    let net3 : Net = push_all (wire_before z.k s w) s (answers rs x)
    (put_records (put_replies M.net (suc s) w rest) s w (records_but x.leader (M.net.records s w))) in
    go (has_room z.c (wire_before z.k s w) s net3 (answers rs x)) rs net3 (steady_answer z P M role s w x rest ok l e)
  where
    named : (rs : List Record) (net : Net) → MovedOn z P role (with_net M net) → GoesOn z P role (went_down M (answered rs, net))
    named [] net h = (h.role', h.steady, h.lower)
    named (r ∷ rs) net h = (h.role', h.steady, h.lower)

    go : (b : Bool) (rs : List Record) (net : Net) → MovedOn z P role (with_net M net)
        → GoesOn z P role (went_down M (if b then (answered rs, net) else (down.Stalled, M.net)))
    go true rs net h = named rs net h
    go false rs net h = goes_stalled z P M role ok

-- Each step keeps a machine steady, and each that moves a message lowers a distance.
pub goes_step : {Core Pokes Entry : Type 0} → (z : Sizes) (P : Program Core Pokes Entry) (M : Machine Core) (role : ℕ → Role) (st : Step Pokes)
    → Steady z P M role → GoesOn z P role (step z P M st)
unfolding moved_up moved_down
goes_step z P M role (Turn p) ok = go (nat_lt p (wires z)) refl (M.is_open p) refl
  where
    retire : (xs : List Reply) → M.net.replies 0 p ≡ xs → GoesOn z P role (retire_from P M p xs)
    retire [] e = goes_stalled z P M role ok
    retire (y ∷ rest) e = let h = steady_retire z P M role p y rest ok e in (h.role', h.steady, h.lower)

    start_go : (k : Kind) → P.kind p (M.core p) ≡ k → p < wires z → M.is_open p ≡ false → GoesOn z P role (begin P M p k)
    start_go Rests e l f = goes_stalled z P M role ok
    start_go Alone e l f = (put role p Idle, steady_advance z P M role p ok l f, tt)
    start_go Refers e l f = (put role p (Asking 0), steady_issue z P M role p ok l f e, tt)

    go : (b : Bool) → nat_lt p (wires z) ≡ b → (o : Bool) → M.is_open p ≡ o → GoesOn z P role (if b then turned P M p o else stalled M)
    go false e o f = goes_stalled z P M role ok
    go true e true f = retire (M.net.replies 0 p) refl
    go true e false f = start_go (P.kind p (M.core p)) refl (ltb-true p (wires z) e) f
goes_step z P M role (Up s w) ok = go (nat_lt w (wires z)) (nat_lt s z.k) refl
  where
    go : (n b : Bool) → nat_lt s z.k ≡ b
        → GoesOn z P role (if n then went_up M (if b then up_from z M.net s w (M.net.requests s w) else (up.Stalled, M.net)) else stalled M)
    go false b e = goes_stalled z P M role ok
    go true true e = goes_up z P M role s w (M.net.requests s w) ok (ltb-true s z.k e) refl
    go true false e = goes_stalled z P M role ok
goes_step z P M role (Serve m) ok = go (nat_lt m (wires z)) (M.net.requests z.k m) refl (M.net.replies z.k m)
  where
    go : (n : Bool) (xs : List Request) → M.net.requests z.k m ≡ xs → (ys : List Reply) → GoesOn z P role (if n then serve_from z M m xs ys else stalled M)
    go false xs e ys = goes_stalled z P M role ok
    go true [] e ys = goes_stalled z P M role ok
    go true (x ∷ rest) e [] = let h = steady_serve z P M role m x rest ok e in (h.role', h.steady, h.lower)
    go true (x ∷ rest) e (y ∷ ys) = goes_stalled z P M role ok
goes_step z P M role (Down s w) ok = go (nat_lt w (wires z)) (nat_lt s z.k) refl
  where
    go : (n b : Bool) → nat_lt s z.k ≡ b
        → GoesOn z P role (if n then went_down M (if b then down_from z M.net s w (M.net.replies (suc s) w) else (down.Stalled, M.net)) else stalled M)
    go false b e = goes_stalled z P M role ok
    go true true e = goes_down z P M role s w (M.net.replies (suc s) w) ok (ltb-true s z.k e) refl
    go true false e = goes_stalled z P M role ok
goes_step z P M role (Poke q) ok = go (all_shut (wires z) M.is_open && P.is_lawful M.core q) refl
  where
    go : (b : Bool) → (all_shut (wires z) M.is_open && P.is_lawful M.core q) ≡ b → GoesOn z P role (if b then poked P M q else stalled M)
    go false e = goes_stalled z P M role ok
    go true e = let a = and_parts (all_shut (wires z) M.is_open) (P.is_lawful M.core q) e in
        (role, steady_poked z P M role q ok (all_shut_is (wires z) M.is_open a.0), tt)
