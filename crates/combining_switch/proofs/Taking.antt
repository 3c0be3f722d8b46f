-- Whether a request is taken, by whether there is room and whether it combines.
use Rattle.std.proofs.Common.{◌≡◌, ◌<◌, ◌≤◌, Bool, true, false, [], ◌∷◌, ◌++◌, length, Option, Some, None, refl, sym, ap, ◌∙◌, nat_lt, ◌⊎◌, inl, inr}
use Rattle.std.specs.Prelude.{is_some, option_map, if◌then◌else◌}
use Rattle.std.proofs.lemmas.Bool.{cases_lt, lt-ltb, le-ltb}
use Rattle.messages.specs.declared.message.Request.{Request}
use Rattle.messages.specs.Queues.{Combination, combination, unmarked}
use Rattle.combining_switch.specs.declared.answers.Accepted.{Accepted}
use Rattle.combining_switch.specs.declared.answers.Accepted.TheVariants.{Queued, Combined, Full}
use Rattle.combining_switch.specs.declared.output.Partner.{Partner}
use Rattle.combining_switch.specs.Partners.{partnership}
use Rattle.combining_switch.specs.Outputs.{OutputLists, accepted, accepted_as, queued}

as_is : (o : OutputLists) (x : Request) (j : Option Combination) → combination o.b o.r x o.requests o.records ≡ j →
    (accepted o x).0 ≡ (accepted_as o x j).0
unfolding accepted
as_is o x j is = ap (λ k. (accepted_as o x k).0) is

abbrev with_request : OutputLists → Request → OutputLists
with_request o x = record { c = o.c; b = o.b; r = o.r; requests = o.requests ++ unmarked x ∷ []; records = o.records }

answer_of : (o : OutputLists) (x : Request) (b : Bool) → nat_lt (length o.requests) o.c ≡ b →
    queued o x ≡ (if b then (Queued, with_request o x) else (Full, o))
answer_of o x b f = ap (λ (v : Bool). if v then (Queued, with_request o x) else (Full, o)) f

abbrev first_of : Accepted × OutputLists → Accepted
first_of r = r.0

pub combined_is_taken : (o : OutputLists) (x : Request) (j : Combination) → combination o.b o.r x o.requests o.records ≡ Some j →
    (accepted o x).0 ≡ Full → ⊥
combined_is_taken o x j is full = let no : Combined j.made.leader ≡ Full = sym (as_is o x (Some j) is) ∙ full in cc

-- An output whose queue has room does not refuse a request.
pub with_room_is_taken : (o : OutputLists) (x : Request) → length o.requests < o.c → (accepted o x).0 ≡ Full → ⊥
with_room_is_taken o x room full = go (combination o.b o.r x o.requests o.records) refl
  where
    go : (j : Option Combination) → combination o.b o.r x o.requests o.records ≡ j → ⊥
    go (Some j) is = combined_is_taken o x j is full
    go None is =
        let no : Queued ≡ Full = sym (as_is o x None is ∙ ap first_of (answer_of o x true (lt-ltb (length o.requests) o.c room))) ∙ full in
        cc

pub else_refused : (o : OutputLists) (x : Request) → o.c ≤ length o.requests → combination o.b o.r x o.requests o.records ≡ None →
    (accepted o x).0 ≡ Full
else_refused o x full none = as_is o x None none ∙ ap first_of (answer_of o x false (le-ltb (length o.requests) o.c full))

-- ---- for the code

-- If the test for room fails, there is no room.
pub no_place : (o : OutputLists) (b : Bool) → (length o.requests < o.c → b ≡ true) → b ≡ false → o.c ≤ length o.requests
no_place o b fact none = go (cases_lt (length o.requests) o.c)
  where
    go : (length o.requests < o.c) ⊎ (o.c ≤ length o.requests) → o.c ≤ length o.requests
    go (inl room) = absurd (let no : true ≡ false = sym (fact room) ∙ none in cc)
    go (inr full) = full

-- An output whose queue is full takes a request exactly if there is a partner with which it combines.
pub by_partner : (o : OutputLists) (x : Request) (p : Option Partner) (b : Bool) → is_some p ≡ b →
    option_map (partnership o.requests x) p ≡ combination o.b o.r x o.requests o.records → o.c ≤ length o.requests
    → (b ≡ true → (accepted o x).0 ≡ Full → ⊥) × (((accepted o x).0 ≡ Full → ⊥) → b ≡ true)
by_partner o x (Some p) b is first full = ((λ t. combined_is_taken o x (partnership o.requests x p) (sym first)), (λ n. sym is))
by_partner o x None b is first full =
    ((λ t. absurd (let no : false ≡ true = is ∙ t in cc)), (λ n. absurd (n (else_refused o x full (sym first)))))
