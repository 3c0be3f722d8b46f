-- The lines of one more size.
use Rattle.std.proofs.Common.{◌≡◌, ℕ, ◌+◌, ◌<◌, zero, suc, max, Bool, List, [], ◌∷◌, ◌++◌, length, Option, Some}
use Rattle.std.proofs.Common.{append_assoc, length-append, refl, sym, ap, subst, ◌∙◌, arith}
use Rattle.std.specs.Prelude.{option_to_list, slice_get}
use Rattle.std.specs.Io.KnownBytes.{Appends}
use Rattle.std.specs.List.{flat_map}
use Rattle.std.proofs.KnownBytes.{Appends-nil, Appends-trans}
use Rattle.std.proofs.lemmas.List.{append-nil}
use Rattle.link.specs.Transfer.{AppendsPart, EndsInTheRest}
use Rattle.command_io.specs.declared.fault.Fault.{Fault}
use Rattle.command_io.specs.declared.fault.Fault.TheVariants as fault
use Rattle.command_io.specs.ErrorOutputs.{errors_to}
use Rattle.explore_command.specs.Explorations.{Problem}
use Rattle.explore_command.specs.Sizes.{AreReported, AreSizeReports, AreSizesReported, FailsSize, FailsSizes}
use Rattle.explore_command.specs.Sizes.{IsSizeLine, IsSizeReport, PrintsFirst, PrintsSize, SizeReport}
use Rattle.explore_command.specs.Sizes.{faults_of, greatest_exit, lines_of, sizes, with_stages}

-- ---- lists

-- The list of one more element comes after the lists of the others.
flat_map_last : {X A : Type 0} (f : X → List A) (xs : List X) (x : X) → flat_map f (xs ++ x ∷ []) ≡ flat_map f xs ++ f x
flat_map_last f [] x = append-nil (f x)
flat_map_last f (y ∷ ys) x = ap (λ zs. f y ++ zs) (flat_map_last f ys x) ∙ sym (append_assoc (f y) (flat_map f ys) (f x))

greatest_last : (rs : List SizeReport) (r : SizeReport) → greatest_exit (rs ++ r ∷ []) ≡ max (greatest_exit rs) r.status
greatest_last [] r = omega arith
greatest_last (x ∷ rs) r = ap (max x.status) (greatest_last rs r) ∙ (omega arith)

-- ---- faults that are reported

-- If faults are reported, and then others, all of them are reported.
reported_on : {E : Type 0} (contents : E → Option (List ℕ)) (old between new : E) (fs gs : List Fault) →
    AreReported fs (errors_to contents old between) → AreReported gs (errors_to contents between new) →
    AreReported (fs ++ gs) (errors_to contents old new)
reported_on contents old between new [] gs same more = subst (λ e. AreReported gs (errors_to contents e new)) same more
reported_on contents old between new (f ∷ fs) gs h more = (h.0, h.1, reported_on contents h.0 between new fs gs h.2 more)

-- ---- one more size

module _ (p : Problem) where
  -- The reports of the first sizes and of the next one are the reports of the first sizes with one more.
  reports_last : (rs before : List SizeReport) (r : SizeReport) →
      ((k : ℕ) (x : SizeReport) → slice_get rs k ≡ Some x → IsSizeReport (with_stages p (length before + k)) x) →
      IsSizeReport (with_stages p (length before + length rs)) r →
      (k : ℕ) (x : SizeReport) → slice_get (rs ++ r ∷ []) k ≡ Some x → IsSizeReport (with_stages p (length before + k)) x
  reports_last [] before r each one zero x there =
      let same : r ≡ x = cc in subst (IsSizeReport (with_stages p (length before + 0))) same one
  reports_last [] before r each one (suc k) x there = absurd (cc)
  reports_last (y ∷ rs) before r each one zero x there = each zero x there
  reports_last (y ∷ rs) before r each one (suc k) x there =
      subst (λ n. IsSizeReport (with_stages p n) x) (step k)
      (reports_last rs (y ∷ before) r
      (λ j z at. subst (λ n. IsSizeReport (with_stages p n) z) (sym (step j)) (each (suc j) z at))
      (subst (λ n. IsSizeReport (with_stages p n) r) (sym (step (length rs))) one) k x there)
    where
      step : (j : ℕ) → suc (length before) + j ≡ length before + suc j
      step j = omega arith

  reports_more : (rs : List SizeReport) (count : ℕ) (r : SizeReport) → length rs ≡ count → AreSizeReports p rs →
      IsSizeReport (with_stages p count) r → AreSizeReports p (rs ++ r ∷ [])
  reports_more rs count r all each one = λ k x there.
      subst (λ n. IsSizeReport (with_stages p n) x) (let same : 0 + k ≡ k = omega arith in same)
      (reports_last rs [] r
      (λ j y at. subst (λ n. IsSizeReport (with_stages p n) y) (let same : j ≡ 0 + j = omega arith in same) (each j y at))
      (subst (λ n. IsSizeReport (with_stages p n) r) (let same : count ≡ 0 + length rs = omega (arith, all) in same) one) k x there)

  module _ {E : Type 0} (contents : E → Option (List ℕ)) (start : E) where
    -- After one more line, the property holds of all lines, and its fault is reported, if it has one.
    said_more : (said said' : List ℕ → Type 0) (rs : List SizeReport) (count : ℕ) (between new : E) (line : List ℕ) (status : ℕ) →
        length rs ≡ count → AreSizesReported p rs said (errors_to contents start between) →
        (l : IsSizeLine (with_stages p count) (errors_to contents between new) line status) →
        (said (lines_of rs) → said' (lines_of rs ++ line)) →
        AreSizesReported p (rs ++ (record { line = line; status = status; fault = l.fault }) ∷ []) said' (errors_to contents start new)
    said_more said said' rs count between new line status all h l to = record {
      are = reports_more rs count (record { line = line; status = status; fault = l.fault }) all h.are l.is;
      lines = subst said' (sym (flat_map_last (λ (r : SizeReport). r.line) rs (record { line = line; status = status; fault = l.fault }))) (to h.lines);
      reported =
          subst (λ fs. AreReported fs (errors_to contents start new))
          (sym (flat_map_last (λ (r : SizeReport). option_to_list r.fault) rs (record { line = line; status = status; fault = l.fault })))
          (reported_on contents start between new (faults_of rs) (option_to_list l.fault) h.reported l.reported);
    }

    -- ---- what is printed

    -- If nothing is printed, the lines of no sizes are.
    pub none_printed : (old : Option (List ℕ)) (has_failed : Bool) →
        PrintsFirst p 0 (record { old = old; new = old; has_failed = has_failed }) (errors_to contents start start) 0
    none_printed old has_failed = record {
      reports = [];
      all = refl;
      exit = refl;
      are = record { are = λ k r there. absurd (cc); lines = Appends-nil old; reported = refl };
    }

    -- If the next line is printed, one more size is.
    pub printed_more : (count : ℕ) (old between new : Option (List ℕ)) (b b' b'' : Bool) (middle end : E) (status exit : ℕ) →
        PrintsFirst p count (record { old = old; new = between; has_failed = b }) (errors_to contents start middle) status →
        PrintsSize (with_stages p count) (record { old = between; new = new; has_failed = b' }) (errors_to contents middle end) exit →
        PrintsFirst p (count + 1) (record { old = old; new = new; has_failed = b'' }) (errors_to contents start end) (max status exit)
    printed_more count old between new b b' b'' middle end status exit h more = record {
      reports = h.reports ++ (record { line = more.line; status = exit; fault = more.is.fault }) ∷ [];
      all = length-append h.reports ((record { line = more.line; status = exit; fault = more.is.fault }) ∷ []) ∙ ap (λ n. n + 1) h.all;
      exit = ap (λ n. max n exit) h.exit ∙ sym (greatest_last h.reports (record { line = more.line; status = exit; fault = more.is.fault }));
      are = said_more (Appends old between) (Appends old new) h.reports count middle end more.line exit h.all h.are more.is
          (λ said. Appends-trans old between new (lines_of h.reports) more.line said more.printed);
    }

    -- If the next line is not printed, the lines are not all printed, for the same fault.
    pub not_printed : EndsInTheRest → (count : ℕ) (old between new : Option (List ℕ)) (b b' b'' : Bool) (middle end : E) (status : ℕ)
        (f : Fault) → count < sizes →
        PrintsFirst p count (record { old = old; new = between; has_failed = b }) (errors_to contents start middle) status →
        FailsSize (with_stages p count) (record { old = between; new = new; has_failed = b' }) (errors_to contents middle end) f →
        FailsSizes p (record { old = old; new = new; has_failed = b'' }) (errors_to contents start end) f
    not_printed law count old between new b b' b'' middle end status (fault.Line number) few h why = absurd why
    not_printed law count old between new b b' b'' middle end status (fault.Text e) few h why = absurd why
    not_printed law count old between new b b' b'' middle end status fault.NotUtf8 few h why = absurd why
    not_printed law count old between new b b' b'' middle end status (fault.Image e) few h why = absurd why
    not_printed law count old between new b b' b'' middle end status (fault.Trace e) few h why = absurd why
    not_printed law count old between new b b' b'' middle end status fault.Size few h why = absurd why
    not_printed law count old between new b b' b'' middle end status (fault.Stalled place) few h why = absurd why
    not_printed law count old between new b b' b'' middle end status fault.Budget few h why = absurd why
    not_printed law count old between new b b' b'' middle end status fault.Full few h why = absurd why
    not_printed law count old between new b b' b'' middle end status fault.Loan few h why = absurd why
    not_printed law count old between new b b' b'' middle end status fault.Start few h why = absurd why
    not_printed law count old between new b b' b'' middle end status fault.States few h why = absurd why
    not_printed law count old between new b b' b'' middle end status fault.Alone few h why = absurd why
    not_printed law count old between new b b' b'' middle end status fault.Link few h why = record {
      reports = h.reports ++ (record { line = why.line; status = why.status; fault = why.is.fault }) ∷ [];
      few =
          let all = h.all in
          let more = length-append h.reports ((record { line = why.line; status = why.status; fault = why.is.fault }) ∷ []) in
          omega (arith, few, all, more);
      are = said_more (Appends old between) (AppendsPart old new) h.reports count middle end why.line why.status h.all h.are why.is
          (λ said. law old between new (lines_of h.reports) why.line said why.part);
    }
    not_printed law count old between new b b' b'' middle end status fault.Memory few h why = record {
      reports = h.reports;
      few = let all = h.all in omega (arith, few, all);
      are = subst (λ (x : Option (List ℕ) × E). AreSizesReported p h.reports (Appends old x.0) (errors_to contents start x.1))
          (λ i. (sym why.0 i, sym why.1 i)) h.are;
    }
