-- Lists of passes and ends whose last ones go and come back.
use Rattle.std.proofs.Common.{◌≡◌, ℕ, zero, suc, List, [], ◌∷◌, ◌++◌, length, length-append, refl, sym, ap, ◌∙◌, subst, arith}
use Rattle.std.specs.Prelude.{map, replicate, Option, Some, None, slice_get}
use Rattle.std.proofs.lemmas.List.{map-append}
use Rattle.machine_lock.specs.Passes.{Held, held, IsWhole, new_passes}
use Rattle.machine_lock.specs.Rows.{new_row}
use Rattle.console_monitor.specs.Ends.{sent_by}
use Rattle.console_monitor.specs.declared.monitor.End.{End}
use Rattle.processor_threads.specs.declared.fault.RunFault.{RunFault}
use Rattle.processor_threads.specs.Consoles.{console_of, end_queue}
use Rattle.processor_threads.specs.Faults.{fault_of}
use Rattle.processor_threads.specs.Endings.{AllComeBack, AreEnded, AreSent, ComesBack, EndsWithStop, processors_of}
use Rattle.processor_threads.proofs.Reported.{all_none}

-- ---- the last of a list

module _ {A : Type 0} where
  -- Equal lists are equal without their last elements.
  pub fronts : (xs ys : List A) (x y : A) → xs ++ x ∷ [] ≡ ys ++ y ∷ [] → xs ≡ ys
  fronts [] [] x y e = refl
  fronts [] (b ∷ ys) x y e = let n = ap length e in let m = length-append ys (y ∷ []) in absurd (omega (arith, n, m))
  fronts (a ∷ xs) [] x y e = let n = ap length e in let m = length-append xs (x ∷ []) in absurd (omega (arith, n, m))
  fronts (a ∷ xs) (b ∷ ys) x y e =
      let h : a ≡ b = cc in
      let t : xs ++ x ∷ [] ≡ ys ++ y ∷ [] = cc in
      let r = fronts xs ys x y t in
      λ i. h i ∷ r i

  pub lasts : (xs ys : List A) (x y : A) → xs ++ x ∷ [] ≡ ys ++ y ∷ [] → x ≡ y
  lasts [] [] x y e = cc
  lasts [] (b ∷ ys) x y e = let n = ap length e in let m = length-append ys (y ∷ []) in absurd (omega (arith, n, m))
  lasts (a ∷ xs) [] x y e = let n = ap length e in let m = length-append xs (x ∷ []) in absurd (omega (arith, n, m))
  lasts (a ∷ xs) (b ∷ ys) x y e = let t : xs ++ x ∷ [] ≡ ys ++ y ∷ [] = cc in lasts xs ys x y t

-- If all ends sent what their passes store, all but the last did, and the last did.
pub sent_apart : (passes : List Held) (ends : List End) (pass : Held) (end : End) → AreSent (passes ++ pass ∷ []) (ends ++ end ∷ []) →
    AreSent passes ends × (console_of pass ≡ sent_by end)
sent_apart passes ends pass end e =
    let both = sym (map-append console_of passes (pass ∷ [])) ∙ e ∙ map-append sent_by ends (end ∷ []) in (
      fronts (map console_of passes) (map sent_by ends) (console_of pass) (sent_by end) both,
      lasts (map console_of passes) (map sent_by ends) (console_of pass) (sent_by end) both,
    )

pub sent_together : (passes : List Held) (ends : List End) (pass : Held) (end : End) → AreSent passes ends → console_of pass ≡ sent_by end →
    AreSent (passes ++ pass ∷ []) (ends ++ end ∷ [])
sent_together passes ends pass end e l =
    map-append console_of passes (pass ∷ []) ∙ (λ i. e i ++ l i ∷ []) ∙ sym (map-append sent_by ends (end ∷ []))

-- ---- faults

ended_together : (faults : List (Option RunFault)) (passes : List Held) (fault : Option RunFault) (pass : Held) → AreEnded faults passes →
    (fault ≡ None → EndsWithStop pass) → AreEnded (faults ++ fault ∷ []) (passes ++ pass ∷ [])
ended_together [] [] fault pass e h = (h, tt)
ended_together [] (p ∷ passes) fault pass e h = absurd e
ended_together (f ∷ faults) [] fault pass e h = absurd e
ended_together (f ∷ faults) (p ∷ passes) fault pass e h = (e.0, ended_together faults passes fault pass e.1 h)

pub length-ended : (faults : List (Option RunFault)) (passes : List Held) → AreEnded faults passes → length faults ≡ length passes
length-ended [] [] e = refl
length-ended [] (p ∷ passes) e = absurd e
length-ended (f ∷ faults) [] e = absurd e
length-ended (f ∷ faults) (p ∷ passes) e = ap suc (length-ended faults passes e.1)

-- ---- one more comes back

-- If there are no passes, all passes and ends come back, without a fault.
pub none_comes_back : (passes : List Held) (ends : List End) (passes' : List Held) (ends' : List End) (faults faults' : List (Option RunFault)) →
    passes ≡ [] → passes' ≡ passes → ends' ≡ ends → AreSent passes ends → faults ≡ [] → faults' ≡ faults → AllComeBack passes ends passes' ends' faults'
none_comes_back passes ends passes' ends' faults faults' none same alike sent empty kept =
    subst (λ (x : List Held × List End × List (Option RunFault)). AllComeBack passes ends x.0 x.1 x.2) (λ i. (sym same i, sym alike i, sym (kept ∙ empty) i))
    (by passes none sent)
  where
    by : (passes : List Held) → passes ≡ [] → AreSent passes ends → AllComeBack passes ends passes ends []
    by [] e sent = record { processors = refl; queues = refl; sent = sent; ended = tt }
    by (p ∷ passes) e sent = absurd (cc)

-- If all passes and ends come back, and one more pass and end whose bytes were sent, all of these come back.
pub one_more : (passes : List Held) (ends : List End) (pass : Held) (end : End) (passes' : List Held) (ends' : List End) (pass' : Held) (end' : End)
    (faults : List (Option RunFault)) (fault : Option RunFault) → AllComeBack passes ends passes' ends' faults → ComesBack pass end pass' end' fault →
    console_of pass' ≡ sent_by end' →
    AllComeBack (passes ++ pass ∷ []) (ends ++ end ∷ []) (passes' ++ pass' ∷ []) (ends' ++ end' ∷ []) (faults ++ fault ∷ [])
one_more passes ends pass end passes' ends' pass' end' faults fault all one sent = record {
  processors = map-append (λ (h : Held). h.processor) passes' (pass' ∷ []) ∙ (λ i. all.processors i ++ one.processor i ∷ [])
      ∙ sym (map-append (λ (h : Held). h.processor) passes (pass ∷ []));
  queues = map-append end_queue ends' (end' ∷ []) ∙ (λ i. all.queues i ++ one.queue i ∷ []) ∙ sym (map-append end_queue ends (end ∷ []));
  sent = sent_together passes' ends' pass' end' all.sent sent;
  ended = ended_together faults passes' fault pass' all.ended one.stopped;
}

-- ---- the same processors in the same order

length-processors_of : (hs : List Held) → length (processors_of hs) ≡ length hs
length-processors_of [] = refl
length-processors_of (h ∷ hs) = ap suc (length-processors_of hs)

get-processors_of : (hs : List Held) (k : ℕ) (h : Held) → slice_get hs k ≡ Some h → slice_get (processors_of hs) k ≡ Some h.processor
get-processors_of [] k h e = absurd (cc)
get-processors_of (x ∷ hs) zero h e = let same : x ≡ h = cc in ap (λ (y : Held). Some y.processor) same
get-processors_of (x ∷ hs) (suc k) h e = get-processors_of hs k h e

from-processors_of : (hs : List Held) (k p : ℕ) → slice_get (processors_of hs) k ≡ Some p → (h : Held) × (slice_get hs k ≡ Some h) × (h.processor ≡ p)
from-processors_of [] k p e = absurd (cc)
from-processors_of (x ∷ hs) zero p e = (x, refl, cc)
from-processors_of (x ∷ hs) (suc k) p e = from-processors_of hs k p e

-- Passes of the same processors in the same order are again the passes of all processors.
pub whole_again : (n : ℕ) (hs now : List Held) → IsWhole n hs → processors_of now ≡ processors_of hs → IsWhole n now
whole_again n hs now w e = record {
  many = sym (length-processors_of now) ∙ ap length e ∙ length-processors_of hs ∙ w.many;
  own = λ k h g.
      let p = sym (ap (λ (xs : List ℕ). slice_get xs k) e) ∙ get-processors_of now k h g in
      let f = from-processors_of hs k h.processor p in
      sym f.2 ∙ w.own k f.0 f.1;
}

-- ---- new passes have sent nothing

-- New passes have given the console nothing.
pub new_sent : (n : ℕ) → map console_of (new_passes n) ≡ replicate n []
new_sent zero = refl
new_sent (suc n) = map-append console_of (new_passes n) (held n new_row ∷ []) ∙ ap (λ bs. bs ++ [] ∷ []) (new_sent n) ∙ more n
  where
    more : (n : ℕ) → replicate {A = List ℕ} n [] ++ [] ∷ [] ≡ [] ∷ replicate n []
    more zero = refl
    more (suc n) = ap (λ bs. [] ∷ bs) (more n)

-- ---- if there is no fault, all have stopped

in_front : (ends more : List (Option RunFault)) (k : ℕ) (end : Option RunFault) → slice_get ends k ≡ Some end → slice_get (ends ++ more) k ≡ Some end
in_front [] more k end at = absurd (cc)
in_front (x ∷ ends) more zero end at = at
in_front (x ∷ ends) more (suc k) end at = in_front ends more k end at

stopped_at : (faults : List (Option RunFault)) (passes : List Held) → AreEnded faults passes →
    ((k : ℕ) (end : Option RunFault) → slice_get faults k ≡ Some end → end ≡ None) → (p : ℕ) (h : Held) → slice_get passes p ≡ Some h → EndsWithStop h
stopped_at [] [] ended none p h at = absurd (cc)
stopped_at [] (x ∷ passes) ended none p h at = absurd ended
stopped_at (f ∷ faults) [] ended none p h at = absurd ended
stopped_at (f ∷ faults) (x ∷ passes) ended none zero h at = let same : x ≡ h = cc in subst EndsWithStop same (ended.0 (none zero f refl))
stopped_at (f ∷ faults) (x ∷ passes) ended none (suc p) h at = stopped_at faults passes ended.1 (λ k end there. none (suc k) end there) p h at

-- If no fault is reported of the threads and of the listener, each pass ends with the stop of its processor.
pub all_stopped : (faults : List (Option RunFault)) (listener : Option RunFault) (passes : List Held) → AreEnded faults passes →
    fault_of (faults ++ listener ∷ []) ≡ None → (p : ℕ) (h : Held) → slice_get passes p ≡ Some h → EndsWithStop h
all_stopped faults listener passes ended none =
    stopped_at faults passes ended (λ k end at. all_none (faults ++ listener ∷ []) none k end (in_front faults (listener ∷ []) k end at))
