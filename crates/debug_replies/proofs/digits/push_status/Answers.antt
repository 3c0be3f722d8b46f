use Rattle.std.proofs.Common.{◌≡◌, ◌+◌, ◌<◌, ◌++◌, ◌∷◌, [], append_assoc, arith, sym, subst, ℕ, List}
use Rattle.std.specs.Prelude.{codes}
use Rattle.std.specs.Fmt.{decimal}
use Rattle.std.proofs.lemmas.Fmt.{decimal_digit}
use Rattle.flat_machine.specs.declared.fault.Fault.{Fault}
use Rattle.flat_machine.specs.declared.fault.Fault.TheVariants.{NoRow, FetchOutsideCode, TargetNotAligned}
use Rattle.flat_machine.specs.declared.fault.Fault.TheVariants.{AddressNotAligned, NoRegion, StoreToCode, UnknownCall}
use Rattle.flat_machine.specs.declared.fault.Fault.TheVariants.{Breakpoint}
use Rattle.command_io.specs.Digits.{status_text}
use Rattle.flat_machine.specs.State.{number_of_fault}
use Rattle.debug_replies.proofs.digits.push_status.Goals as goal

one_digit : (fault : Fault) → number_of_fault fault < 10
one_digit NoRow = omega arith
one_digit FetchOutsideCode = omega arith
one_digit TargetNotAligned = omega arith
one_digit AddressNotAligned = omega arith
one_digit NoRegion = omega arith
one_digit StoreToCode = omega arith
one_digit UnknownCall = omega arith
one_digit Breakpoint = omega arith

joined : (old mid new : List ℕ) (n number : ℕ) → mid ≡ old ++ codes "fault " → new ≡ mid ++ (48 + n) ∷ [] → n ≡ number → decimal number ≡ (48 + number) ∷ []
    → new ≡ old ++ (codes "fault " ++ decimal number)
joined old mid new n number e f g d = rw (f, e, g, d) (append_assoc old (codes "fault ") ((48 + number) ∷ []))

pub returns-in-Faulted : goal.returns-in-Faulted
returns-in-Faulted c =
    let n = number_of_fault c.in-Faulted.fault in
    let digit : decimal n ≡ (48 + n) ∷ [] = decimal_digit n (one_digit c.in-Faulted.fault) in
    subst (λ status. c.push-in-Faulted-2.new.text.items ≡ c.args.text.now.items ++ status_text status) (sym c.in-Faulted.is)
    (joined c.args.text.now.items c.push-in-Faulted.new.text.items c.push-in-Faulted-2.new.text.items c.number.result n
    c.push-in-Faulted.ensures.items c.push-in-Faulted-2.ensures.items c.number.ensures digit)
