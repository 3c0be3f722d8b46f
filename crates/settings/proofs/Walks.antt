-- If every use of an argument keeps a property of the rows, so does a level of the parse of words without a fault.
use Rattle.std.proofs.Common.{◌≡◌, ◌&&◌, ℕ, Bool, cond, true, false, zero, suc, refl, sym, subst, List, [], ◌∷◌, length, drop, Option, Some, None, is_some}
use Rattle.std.specs.Option.{option_map_or}
use Rattle.std.specs.Prelude.{encode_utf8, find, slice_get}
use Rattle.std.specs.List.{fold, list_all}
use Rattle.std.specs.Str.{bytes_eq, chars}
use Rattle.clap.specs.Lexer.{long_of, short_of}
use Rattle.clap.specs.Kinds.{Kinds, or_else}
use Rattle.clap.specs.Faults.{bundle_fault, bundle_step_fault, check_fault, defaults_fault, flag_word_fault}
use Rattle.clap.specs.Faults.{flags_fault, level_fault, long_fault, option_fault, other_fault, positional_fault}
use Rattle.clap.specs.Faults.{react_fault, settle_fault, short_fault, step_fault, stray_fault, turn_fault}
use Rattle.clap.specs.Faults.{use_fault, walk_fault, word_fault}
use Rattle.clap.specs.Simple.{Shape}
use Rattle.clap.specs.Walk.{Held, Names, Outcome, Row, Rule, Step, Text, Waiting, Walk, after_flag, after_step}
use Rattle.clap.specs.Walk.{arg_by_id, arg_by_index, arg_by_long, arg_by_short, attached_value, bundle, bundle_met}
use Rattle.clap.specs.Walk.{bundle_step, done, flag_met, idle, is_pending, long_met, long_or_other, next}
use Rattle.clap.specs.Walk.{nothing_held, option, option_met, option_word, plain, plain_word, positional, reacted}
use Rattle.clap.specs.Walk.{refused, rows_after, settled, settled_rows, short_met, short_or_plain, subcommand}
use Rattle.clap.specs.Walk.{subcommand_met, subcommand_or_other, takes_several, takes_values, to_positional, trailing}
use Rattle.clap.specs.Walk.{used, used_by_id, value, waits, walk, walk_from, walked, walked_from, with_default}
use Rattle.clap.specs.Walk.{word_met}
use Rattle.clap.proofs.WalkLemmas.{both}
use Rattle.clap.specs.declared.error.kind.ErrorKind.TheVariants as kind

-- If two steps together have no fault, neither has one.
pub neither : (a b : Kinds) → or_else a b ≡ [] → (a ≡ []) × (b ≡ [])
neither [] b e = (refl, e)
neither (k ∷ ks) b e = cc

-- An element found in a list passes every test that all elements pass.
pub found_passes : {X : Type 0} (p q : X → Bool) (xs : List X) (x : X) → find p xs ≡ Some x → list_all q xs ≡ true → q x ≡ true
found_passes p q [] x is all = cc
found_passes p q (y ∷ ys) x is all = go (p y) is (both (q y) (list_all q ys) all) (found_passes p q ys x)
  where
    go : (b : Bool) → cond b (Some y) (find p ys) ≡ Some x → (q y ≡ true) × (list_all q ys ≡ true) → (find p ys ≡ Some x → list_all q ys ≡ true → q x ≡ true) →
        q x ≡ true
    go true e h rest = let same : y ≡ x = cc in rw (← same) h.0
    go false e h rest = rest e h.1

-- A use of a good argument without a fault keeps the property.
abbrev pub Keeps : (List Row → Type 0) → (Rule → Bool) → Type 0
Keeps P good =
    (again : Bool) (a : Rule) (values : List Text) (rows : List Row) → good a ≡ true → use_fault again a values rows ≡ [] → P rows → P (used a values rows)

-- The default values of a good argument keep the property.
abbrev pub KeepsDefault : (List Row → Type 0) → (Rule → Bool) → Type 0
KeepsDefault P good = (rows : List Row) (a : Rule) → good a ≡ true → P rows → P (with_default rows a)

-- ---- the walk

module _ (P : List Row → Type 0) (good : Rule → Bool) (keeps : Keeps P good) (c : List Rule) (again : Bool) (all : list_all good c ≡ true) where
  ready : (p : Rule → Bool) (a : Rule) → find p c ≡ Some a → good a ≡ true
  ready p a is = found_passes p good c a is all

  kept_settled : (h : Held) → settle_fault c again h ≡ [] → P h.rows → P (settled c h).rows
  kept_settled h fault rows = go h.pending fault
    where
      by_id : (p : Text × List Text) (o : Option Rule) → arg_by_id c p.0 ≡ o → option_map_or (λ a. use_fault again a p.1 h.rows) o [] ≡ [] →
          P (used_by_id o p.1 h.rows)
      by_id p None is e = rows
      by_id p (Some a) is e = keeps again a p.1 h.rows (ready _ a is) e rows

      go : (o : Option (Text × List Text)) → option_map_or (λ p. option_map_or (λ a. use_fault again a p.1 h.rows) (arg_by_id c p.0) []) o [] ≡ []
          → P (settled_rows c o h.rows)
      go None e = rows
      go (Some p) e = by_id p (arg_by_id c p.0) refl e

  kept_reacted : (a : Rule) (values : List Text) (h : Held) → good a ≡ true → react_fault c again a values h ≡ [] → P h.rows → P (reacted c a values h).rows
  kept_reacted a values h gives e rows =
      let p = neither (settle_fault c again h) (use_fault again a values (settled c h).rows) e in
      keeps again a values (settled c h).rows gives p.1 (kept_settled h p.0 rows)

  kept_option : (a : Rule) (v : Option Text) (h : Held) → good a ≡ true → option_fault c again a v h ≡ [] → P h.rows → P (option_met c a v h).0.rows
  kept_option a (Some v) h gives e rows = kept_reacted a (v ∷ []) h gives e rows
  kept_option a None h gives e rows = kept_settled h e rows

  kept_long : (found : Option Rule) (v : Option Text) (h : Held) → ((a : Rule) → found ≡ Some a → good a ≡ true) → long_fault c again found v h ≡ [] → P h.rows
      → P (long_met c found v h).0.rows
  kept_long None v h gives e rows = rows
  kept_long (Some a) v h gives e rows = go (takes_values a) v e
    where
      go : (b : Bool) (v : Option Text)
          → cond b (option_fault c again a v h) (cond (is_some v) (kind.TooManyValues ∷ []) (react_fault c again a [] h)) ≡ []
          → P (cond b (option_met c a v h) (flag_met c a v h)).0.rows
      go true v e = kept_option a v h (gives a refl) e rows
      go false (Some v) e = rows
      go false None e = kept_reacted a [] h (gives a refl) e rows

  kept_short : (found : Option Rule) (rest : Text) (h : Held) (more : Held → Held × Outcome) (faults : Held → Kinds)
      → ((a : Rule) → found ≡ Some a → good a ≡ true)
      → ((k : Held) → faults k ≡ [] → P k.rows → P (more k).0.rows)
      → short_fault c again found rest h faults ≡ [] → P h.rows → P (short_met c found rest h more).0.rows
  kept_short None rest h more faults gives keeps e rows = rows
  kept_short (Some a) rest h more faults gives keeps e rows = go (takes_values a) e
    where
      go : (b : Bool) → cond b (option_fault c again a (attached_value rest) h) (or_else (react_fault c again a [] h) (faults (reacted c a [] h))) ≡ []
          → P (cond b (option_met c a (attached_value rest) h) (more (reacted c a [] h))).0.rows
      go true e = kept_option a (attached_value rest) h (gives a refl) e rows
      go false e =
          let p = neither (react_fault c again a [] h) (faults (reacted c a [] h)) e in
          keeps (reacted c a [] h) p.1 (kept_reacted a [] h (gives a refl) p.0 rows)

  kept_bundle : (k : ℕ) (flags : Text) (skip : ℕ) (so_far : Outcome) (h : Held) → flags_fault c again k flags skip h ≡ [] → P h.rows
      → P (bundle_met c k flags skip so_far h).0.rows
  unfolding bundle_met flags_fault
  kept_bundle zero flags skip so_far h e rows = rows
  kept_bundle (suc k) flags skip so_far h e rows = go (slice_get (chars flags) 0) skip e (kept_bundle k)
    where
      go : (o : Option ℕ) (skip : ℕ) → bundle_step_fault c again o flags skip h (flags_fault c again k) ≡ []
          → ((t : Text) (n : ℕ) (x : Outcome) (g : Held) → flags_fault c again k t n g ≡ [] → P g.rows → P (bundle_met c k t n x g).0.rows)
          → P (bundle_step c o flags skip so_far h (bundle_met c k)).0.rows
      go None skip e rest = rows
      go (Some x) zero e rest =
          let left = drop (length (encode_utf8 x)) flags in
          kept_short (arg_by_short c x) left h (bundle_met c k left 0 done) (flags_fault c again k left 0) (λ a is. ready _ a is)
          (λ g. rest left 0 done g) e rows
      go (Some x) (suc skip) e rest = rest (drop (length (encode_utf8 x)) flags) skip so_far h e rows

-- A word that is not a flag does not change the rows.
plain_rows : (c : List Rule) (waiting : Waiting) (word : Text) (h : Held) → (plain_word c waiting word h).0.rows ≡ h.rows
plain_rows c idle word h = refl
plain_rows c positional word h = refl
plain_rows c (option id) word h = go (arg_by_id c id)
  where
    go : (o : Option Rule) → (option_word o id word h).0.rows ≡ h.rows
    go None = refl
    go (Some a) = refl

-- The outcome of a flag does not change the rows.
flag_rows : (c : List Rule) (waiting : Waiting) (word : Text) (h : Held) (o : Outcome) → (after_flag c waiting word h o).0.rows ≡ h.rows
flag_rows c waiting word h done = refl
flag_rows c waiting word h (waits id) = refl
flag_rows c waiting word h plain = plain_rows c waiting word h
flag_rows c waiting word h refused = plain_rows c waiting word h

module _ (P : List Row → Type 0) (good : Rule → Bool) (keeps : Keeps P good) (s : Shape) (names : Names) (all : list_all good s.rules ≡ true) where
  kept_short_word : (waiting : Waiting) (word : Text) (short : Option Text) (h : Held) →
      option_map_or (λ flags. bundle_fault s.rules s.args_override_self flags h) short [] ≡ []
      → P h.rows → P (short_or_plain s.rules waiting word short h).0.rows
  kept_short_word waiting word None h e rows = subst P (sym (plain_rows s.rules waiting word h)) rows
  kept_short_word waiting word (Some flags) h e rows =
      let met = bundle s.rules flags h in
      subst P (sym (flag_rows s.rules waiting word met.0 met.1))
      (kept_bundle P good keeps s.rules s.args_override_self all (length flags) flags h.skip plain (record h { skip = 0 }) e rows)

  kept_flag_word : (waiting : Waiting) (word : Text) (long : Option (Text × Option Text)) (h : Held) →
      flag_word_fault s.rules s.args_override_self long word h ≡ []
      → P h.rows → P (long_or_other s.rules waiting word long h).0.rows
  kept_flag_word waiting word None h e rows = kept_short_word waiting word (short_of word) h e rows
  kept_flag_word waiting word (Some p) h e rows =
      let met = long_met s.rules (arg_by_long s.rules p.0) p.1 h in
      subst P (sym (flag_rows s.rules waiting word met.0 met.1))
      (kept_long P good keeps s.rules s.args_override_self all (arg_by_long s.rules p.0) p.1 h
      (λ a is. ready P good keeps s.rules s.args_override_self all _ a is) e rows)

  kept_word : (waiting : Waiting) (position : ℕ) (word : Text) (met : Option Text) (h : Held) → other_fault s met word h ≡ [] → P h.rows
      → P (subcommand_or_other s.rules met waiting position word h).0.rows
  kept_word waiting position word (Some name) h e rows = rows
  kept_word waiting position word None h e rows = go (bytes_eq word (45 ∷ 45 ∷ [])) e
    where
      go : (b : Bool) → cond b [] (flag_word_fault s.rules s.args_override_self (long_of word) word h) ≡ []
          → P (cond b (h, trailing position) (long_or_other s.rules waiting word (long_of word) h)).0.rows
      go true e = rows
      go false e = kept_flag_word waiting word (long_of word) h e rows

  kept_met : (is_trailing : Bool) (waiting : Waiting) (position : ℕ) (word : Text) (h : Held) → word_fault s names is_trailing waiting word h ≡ [] → P h.rows
      → P (word_met s.rules names is_trailing waiting position word h).0.rows
  kept_met true waiting position word h e rows = rows
  kept_met false waiting position word h e rows = kept_word waiting position word (subcommand_met names waiting word) h e rows

  kept_positional : (found : Option Rule) (word : Text) (w : Walk) (h : Held)
      → option_map_or (λ a. positional_fault s.rules s.args_override_self a h) found (stray_fault s) ≡ [] → P h.rows →
      P (to_positional s.rules found word w h).held.rows
  kept_positional None word w h e rows = rows
  kept_positional (Some a) word w h e rows = go (is_pending a h.pending && takes_several a) e
    where
      go : (b : Bool) → cond b [] (settle_fault s.rules s.args_override_self h) ≡ [] → P (cond b h (settled s.rules h)).rows
      go true e = rows
      go false e = kept_settled P good keeps s.rules s.args_override_self all h e rows

  kept_step : (word : Text) (w : Walk) (h : Held) (step : Step) → step_fault s w.position h step ≡ [] → P h.rows →
      P (after_step s.rules word w h step).held.rows
  kept_step word w h (next waiting) e rows = rows
  kept_step word w h (trailing position) e rows = rows
  kept_step word w h (subcommand name) e rows = rows
  kept_step word w h value e rows = kept_positional (arg_by_index s.rules w.position) word w h e rows

  kept_turn : (w : Walk) (word : Text) → turn_fault s names w word ≡ [] → P w.held.rows → P (walked s.rules names w word).held.rows
  unfolding walked
  kept_turn w word e rows = go w.stopped e
    where
      met : Held × Step
      met = word_met s.rules names w.is_trailing w.waiting w.position word w.held

      go : (stopped : Option (Text × List Text))
          → cond (is_some stopped) [] (or_else (word_fault s names w.is_trailing w.waiting word w.held) (step_fault s w.position met.0 met.1)) ≡ []
          → P (walked_from s.rules names stopped w word).held.rows
      go (Some p) e = rows
      go None e =
          let p = neither (word_fault s names w.is_trailing w.waiting word w.held) (step_fault s w.position met.0 met.1) e in
          kept_step word w met.0 met.1 p.1 (kept_met w.is_trailing w.waiting w.position word w.held p.0 rows)

  kept_walk : (words : List Text) (w : Walk) → walk_fault s names w words ≡ [] → P w.held.rows → P (fold (walked s.rules names) w words).held.rows
  unfolding walk_fault
  kept_walk [] w e rows = rows
  kept_walk (word ∷ rest) w e rows =
      let p = neither (turn_fault s names w word) (walk_fault s names (walked s.rules names w word) rest) e in
      kept_walk rest (walked s.rules names w word) p.1 (kept_turn w word p.0 rows)

-- ---- the level

kept_defaults : (P : List Row → Type 0) (good : Rule → Bool) → KeepsDefault P good → (rules : List Rule) (rows : List Row) → list_all good rules ≡ true →
    P rows → P (fold with_default rows rules)
kept_defaults P good default [] rows all h = h
kept_defaults P good default (a ∷ rest) rows all h =
    let p = both (good a) (list_all good rest) all in
    kept_defaults P good default rest (with_default rows a) p.1 (default rows a p.0 h)

-- The property holds of the rows at the end of the level, and the level's last check finds no fault in them.
pub rows_kept : (P : List Row → Type 0) (good : Rule → Bool) → Keeps P good → KeepsDefault P good → P [] → (s : Shape) (words : List Text) →
    list_all good s.rules ≡ true
    → level_fault s [] nothing_held words false [] ≡ [] → P (rows_after s.rules [] words) × (check_fault s (rows_after s.rules [] words) false ≡ [])
rows_kept P good keeps default none s words all e =
    let end = (walk s.rules [] nothing_held words).held in
    let walks = neither (walk_fault s [] (walk_from nothing_held) words) _ e in
    let settles = neither (settle_fault s.rules s.args_override_self end) _ walks.1 in
    let defaults = neither (defaults_fault (settled s.rules end).rows s.rules) _ settles.1 in
    let rows = kept_settled P good keeps s.rules s.args_override_self all end settles.0
    (kept_walk P good keeps s [] all words (walk_from nothing_held) walks.0 none) in
    (kept_defaults P good default s.rules (settled s.rules end).rows all rows, defaults.1)
