-- Bytes spell a trace, or have a fault.
use Rattle.std.proofs.Common.{◌≡◌, ◌≢◌, ◌⊎◌, ℕ, zero, suc, ◌+◌, ◌*◌, ◌<◌, ◌≤◌, Bool, true, false, ◌&&◌, nat_eq}
use Rattle.std.proofs.Common.{nat_le, nat_lt, List, [], ◌∷◌, ◌++◌, length, take, drop, Option, Some, None}
use Rattle.std.proofs.Common.{sym, ap, subst, refl, ◌∙◌, arith, inl, inr, append_assoc, append-nil}
use Rattle.std.specs.Prelude.{slice_index}
use Rattle.std.specs.Cmp.Lexicographic.{pointwise, same_text}
use Rattle.std.proofs.lemmas.Bool.{cases_lt, and_parts, and_from, eqb-true, leb-true, le-leb, lt-ltb, ltb-true}
use Rattle.std.proofs.lemmas.Cmp.{nat_list_eq_equiv}
use Rattle.std.proofs.lemmas.List.{take-append-drop, length-take-le, get_or-take, get_or-drop, get_or_past}
use Rattle.std.proofs.lemmas.List.Elements.{All-nil, All-cons}
use Rattle.steps.specs.declared.step.Step.{Step}
use Rattle.trace_file.specs.declared.fields.Fields.{Fields}
use Rattle.trace_file.specs.declared.header.Header.{Header}
use Rattle.trace_file.specs.declared.error.TraceError.{TraceError}
use Rattle.trace_file.specs.declared.error.TraceError.TheVariants as error
use Rattle.trace_file.specs.Records.{fields_of, field_bytes, record_bytes, named_step, has_record, HasRecord}
use Rattle.trace_file.specs.Traces.{TraceContents, header_of, header_bytes, header_length, records_bytes, IsHeader, IsTrace, HaveRecords}
use Rattle.trace_file.specs.Faults.{BeginsWith, RecordFault, header_size}
use Rattle.trace_file.specs.Reading.{fields_in, header_in}
use Rattle.trace_file.specs.Laws.{Spells, HasFault, AreBytes}
use Rattle.trace_file.proofs.Numbers.{field_bytes-fields_in, header_in-header_bytes, same_fields}
use Rattle.trace_file.proofs.Named.{only_named}
use Rattle.trace_file.proofs.Pieces.{no_record}

-- ---- bytes

abbrev Small : List ℕ → Type 0
Small bytes = (p : ℕ) → slice_index bytes p < 256

small_bytes : (bytes : List ℕ) → AreBytes bytes → Small bytes
small_bytes bytes h p = elim (cases_lt p (length bytes)) [
  | inl below ↦ h p 0 below
  | inr above ↦ let none : slice_index bytes p ≡ 0 = get_or_past bytes p 0 above in omega arith
]

small_drop : (n : ℕ) (bytes : List ℕ) → Small bytes → Small (drop n bytes)
small_drop n bytes h p = let same : slice_index (drop n bytes) p ≡ slice_index bytes (n + p) = get_or-drop n bytes p 0 in omega (arith, h (n + p))

small_take : (n : ℕ) (bytes : List ℕ) → n ≤ length bytes → Small bytes → Small (take n bytes)
small_take n bytes long h p = elim (cases_lt p n) [
  | inl below ↦ let same : slice_index (take n bytes) p ≡ slice_index bytes p = get_or-take n bytes p 0 below in omega (arith, h p)
  | inr above ↦
      let none : slice_index (take n bytes) p ≡ 0 = get_or_past (take n bytes) p 0 (omega (arith, length-take-le n bytes long)) in
      omega arith
]

-- ---- records

abbrev equal : Fields → Fields → Bool
equal f g = nat_eq f.kind g.kind && (nat_eq f.a g.a && (nat_eq f.b g.b && (nat_eq f.unused g.unused && (nat_eq f.address g.address && nat_eq f.value g.value))))

made : (kind a b unused address value : ℕ) → Fields
made kind a b unused address value = record { kind = kind; a = a; b = b; unused = unused; address = address; value = value }

equal_same : (f g : Fields) → equal f g ≡ true → f ≡ g
unfolding made
equal_same f g h =
    let p = and_parts (nat_eq f.kind g.kind) _ h in
    let q = and_parts (nat_eq f.a g.a) _ p.1 in
    let r = and_parts (nat_eq f.b g.b) _ q.1 in
    let s = and_parts (nat_eq f.unused g.unused) _ r.1 in
    let t = and_parts (nat_eq f.address g.address) _ s.1 in
    ap (λ (x : ℕ). made x f.a f.b f.unused f.address f.value) (eqb-true f.kind g.kind p.0)
    ∙ ap (λ (x : ℕ). made g.kind x f.b f.unused f.address f.value) (eqb-true f.a g.a q.0)
    ∙ ap (λ (x : ℕ). made g.kind g.a x f.unused f.address f.value) (eqb-true f.b g.b r.0)
    ∙ ap (λ (x : ℕ). made g.kind g.a g.b x f.address f.value) (eqb-true f.unused g.unused s.0)
    ∙ ap (λ (x : ℕ). made g.kind g.a g.b g.unused x f.value) (eqb-true f.address g.address t.0)
    ∙ ap (λ (x : ℕ). made g.kind g.a g.b g.unused g.address x) (eqb-true f.value g.value t.1)

abbrev IsRecord : (k : ℕ) → List ℕ → Type 0
IsRecord k bytes = ((step : Step) × HasRecord k step × (bytes ≡ record_bytes step)) ⊎ ((step : Step) → HasRecord k step → bytes ≢ record_bytes step)

module _ (k : ℕ) (bytes : List ℕ) (size : length bytes ≡ 12) (small : Small bytes) where
  with_test : (s : Step) → Some s ≡ named_step (fields_in bytes) → (test : Bool) → test ≡ (has_record k s && equal (fields_of s) (fields_in bytes)) →
      IsRecord k bytes
  with_test s e true t =
      let parts = and_parts (has_record k s) (equal (fields_of s) (fields_in bytes)) (sym t) in
      inl (s, parts.0, sym (field_bytes-fields_in bytes size small) ∙ ap field_bytes (sym (equal_same (fields_of s) (fields_in bytes) parts.1)))
  with_test s e false t =
      inr (no_record k bytes (λ step has same.
      let found = only_named k (fields_in bytes) (Some s) step e has same in
      let one : s ≡ step = cc in
      let passes = and_from (has_record k s) (equal (fields_of s) (fields_in bytes)) (ap (has_record k) one ∙ has)
      (same_fields (fields_of s) (fields_in bytes) (ap fields_of one ∙ same)) in
      cc))

  with_named : (named : Option Step) → named ≡ named_step (fields_in bytes) → IsRecord k bytes
  with_named None e = inr (no_record k bytes (λ step has same. let found = only_named k (fields_in bytes) None step e has same in cc))
  with_named (Some s) e = with_test s e (has_record k s && equal (fields_of s) (fields_in bytes)) refl

  record_or_none : IsRecord k bytes
  record_or_none = with_named (named_step (fields_in bytes)) refl

-- ---- the header

abbrev in_range : Header → Bool
in_range h =
    nat_le h.k 6 && (nat_le 2 h.c && (nat_le h.c 16 && (nat_le h.b 16 && (nat_le 1 h.r && (nat_le h.r 3 && (nat_lt h.r h.c && nat_le h.count 4194304))))))

range_true : (h : Header) → IsHeader h → in_range h ≡ true
range_true h is =
    and_from _ _ (le-leb h.k 6 is.stages)
    (and_from _ _ (le-leb 2 h.c is.some_capacity)
    (and_from _ _ (le-leb h.c 16 is.capacity)
    (and_from _ _ (le-leb h.b 16 is.records)
    (and_from _ _ (le-leb 1 h.r is.some_combinations)
    (and_from _ _ (le-leb h.r 3 is.combinations) (and_from _ _ (lt-ltb h.r h.c is.answers) (le-leb h.count 4194304 is.count)))))))

range_holds : (h : Header) → in_range h ≡ true → IsHeader h
range_holds h t =
    let p = and_parts (nat_le h.k 6) _ t in
    let q = and_parts (nat_le 2 h.c) _ p.1 in
    let r = and_parts (nat_le h.c 16) _ q.1 in
    let s = and_parts (nat_le h.b 16) _ r.1 in
    let u = and_parts (nat_le 1 h.r) _ s.1 in
    let v = and_parts (nat_le h.r 3) _ u.1 in
    let w = and_parts (nat_lt h.r h.c) _ v.1 in
    record {
      stages = leb-true h.k 6 p.0;
      some_capacity = leb-true 2 h.c q.0;
      capacity = leb-true h.c 16 r.0;
      records = leb-true h.b 16 s.0;
      some_combinations = leb-true 1 h.r u.0;
      combinations = leb-true h.r 3 v.0;
      answers = ltb-true h.r h.c w.0;
      count = leb-true h.count 4194304 w.1;
    }

abbrev IsHeaded : List ℕ → Type 0
IsHeaded bytes = ((h : Header) × IsHeader h × (bytes ≡ header_bytes h)) ⊎ ((h : Header) → IsHeader h → bytes ≢ header_bytes h)

-- whether the numbers in these bytes are in range, and their header has these bytes
abbrev is_headed : List ℕ → Bool
is_headed bytes = in_range (header_in bytes) && pointwise nat_eq (header_bytes (header_in bytes)) bytes

with_tests : (bytes : List ℕ) → (test : Bool) → test ≡ is_headed bytes → IsHeaded bytes
with_tests bytes true t =
    let parts = and_parts (in_range (header_in bytes)) (pointwise nat_eq (header_bytes (header_in bytes)) bytes) (sym t) in
    inl (header_in bytes, range_holds (header_in bytes) parts.0, sym (same_text (header_bytes (header_in bytes)) bytes (sym parts.1)))
with_tests bytes false t =
    inr (λ h is same.
    let few = is.count in
    let one : header_in bytes ≡ h = ap header_in same ∙ header_in-header_bytes h (omega arith) in
    let equal : pointwise nat_eq (header_bytes (header_in bytes)) bytes ≡ true =
    ap (λ (x : List ℕ). pointwise nat_eq x bytes) (ap header_bytes one ∙ sym same) ∙ nat_list_eq_equiv.refl bytes in
    let passes = and_from (in_range (header_in bytes)) (pointwise nat_eq (header_bytes (header_in bytes)) bytes) (ap in_range one ∙ range_true h is) equal in
    cc)

header_or_none : (bytes : List ℕ) → IsHeaded bytes
header_or_none bytes = with_tests bytes (is_headed bytes) refl

-- ---- records in a row

record Body (k count : ℕ) (bytes : List ℕ) : Type 0 where
  steps : List Step
  rest : List ℕ
  records : HaveRecords k steps
  spelled : bytes ≡ records_bytes steps ++ rest
  state : (length steps ≡ count) ⊎ ((length steps < count) × ((fault : TraceError) × RecordFault k rest fault))

body_more : (k n : ℕ) (bytes : List ℕ) (step : Step) → HasRecord k step → 12 ≤ length bytes → take 12 bytes ≡ record_bytes step → Body k n (drop 12 bytes) →
    Body k (suc n) bytes
body_more k n bytes step has long same body = record {
  steps = step ∷ body.steps;
  rest = body.rest;
  records = All-cons (HasRecord k) step body.steps has body.records;
  spelled =
      sym (take-append-drop 12 bytes)
      ∙ ap (λ (x : List ℕ). x ++ drop 12 bytes) same
      ∙ ap (λ (x : List ℕ). record_bytes step ++ x) body.spelled
      ∙ sym (append_assoc (record_bytes step) (records_bytes body.steps) body.rest);
  state = elim body.state [ inl whole ↦ inl (omega (arith, whole)) | inr x ↦ inr (omega (arith, x.0), x.1) ];
}

body_of : (k count : ℕ) (bytes : List ℕ) → Small bytes → Body k count bytes
body_of k zero bytes small = record { steps = []; rest = bytes; records = All-nil (HasRecord k); spelled = refl; state = inl refl }
body_of k (suc n) bytes small =
    let more = body_of k n (drop 12 bytes) (small_drop 12 bytes small) in
    elim (cases_lt (length bytes) 12) [
      | inl short ↦ record { steps = []; rest = bytes; records = All-nil (HasRecord k); spelled = refl; state = inr (omega arith, (error.Truncated, short)) }
      | inr long ↦ elim (record_or_none k (take 12 bytes) (length-take-le 12 bytes long) (small_take 12 bytes long small)) [
        | inl x ↦ body_more k n bytes x.0 x.1 long x.2 more
        | inr none ↦ record {
          steps = [];
          rest = bytes;
          records = All-nil (HasRecord k);
          spelled = refl;
          state = inr (omega arith, (error.Record, (long, none)));
        }
      ]
    ]

-- ---- the whole trace

module _ (bytes : List ℕ) (h : Header) (is : IsHeader h) (steps : List Step) (records : HaveRecords h.k steps) where
  ended : (rest : List ℕ) → length steps ≡ h.count → bytes ≡ header_bytes h ++ (records_bytes steps ++ rest) →
      ((t : TraceContents) × Spells bytes t) ⊎ HasFault bytes
  ended [] whole spelled =
      let same : header_of (record { k = h.k; c = h.c; b = h.b; r = h.r; steps = steps }) ≡ h =
      ap (λ (n : ℕ). let x : Header = record { k = h.k; c = h.c; b = h.b; r = h.r; count = n } in x) whole in
      let t : TraceContents = record { k = h.k; c = h.c; b = h.b; r = h.r; steps = steps } in
      let is_trace : IsTrace t = record { header = subst IsHeader (sym same) is; records = records } in
      inl (
        t,
        (
          is_trace,
          ap (λ (x : Header). header_bytes x ++ records_bytes steps) same
              ∙ ap (λ (x : List ℕ). header_bytes h ++ x) (sym (append-nil (records_bytes steps))) ∙ sym spelled,
        ),
      )
  ended (b ∷ rest) whole spelled =
      let begins : BeginsWith h steps (b ∷ rest) bytes = record { header = is; records = records; few = omega arith; spelled = spelled } in
      inr (header_length h + 12 * length steps, error.Trailing, inr (h, steps, b ∷ rest, begins, refl, inr (whole, omega arith, refl)))

-- Bytes spell a trace or have a fault.
pub spelled_or_faulty : (bytes : List ℕ) → AreBytes bytes → ((t : TraceContents) × Spells bytes t) ⊎ HasFault bytes
spelled_or_faulty bytes are =
    let small = small_bytes bytes are in
    let size = header_size bytes in
    elim (cases_lt (length bytes) size) [
      | inl short ↦ inr (0, error.Truncated, inl (refl, short))
      | inr long ↦ elim (header_or_none (take size bytes)) [
        | inr none ↦ inr (0, error.Header, inl (refl, (long, none)))
        | inl x ↦
            let h = x.0 in
            let body = body_of h.k h.count (drop size bytes) (small_drop size bytes small) in
            let spelled : bytes ≡ header_bytes h ++ (records_bytes body.steps ++ body.rest) =
            sym (take-append-drop size bytes) ∙ ap (λ (y : List ℕ). y ++ drop size bytes) x.2 ∙ ap (λ (y : List ℕ). header_bytes h ++ y) body.spelled in
            elim body.state [
              | inl whole ↦ ended bytes h x.1 body.steps body.records body.rest whole spelled
              | inr y ↦
                  let begins : BeginsWith h body.steps body.rest bytes =
                  record { header = x.1; records = body.records; few = omega (arith, y.0); spelled = spelled } in
                  inr (header_length h + 12 * length body.steps, y.1.0, inr (h, body.steps, body.rest, begins, refl, inl (y.0, y.1.1)))
            ]
      ]
    ]
