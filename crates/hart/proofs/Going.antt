-- A run of local instructions so far, one step further, and at its end.
use Rattle.std.proofs.Common.{◌≡◌, ℕ, ◌+◌, ◌<◌, List, [], ◌∷◌, ◌++◌, length, Option, Some, None, All}
use Rattle.std.proofs.Common.{refl, sym, ap, ◌∙◌, subst, append_assoc, append-nil, length-append}
use Rattle.std.proofs.lemmas.List.Elements.{All-nil, All-cons, All-append}
use Rattle.flat_machine.specs.declared.event.Retired.{Retired}
use Rattle.flat_machine.specs.declared.setting.Setting.{Setting}
use Rattle.flat_machine.specs.State.{Processor}
use Rattle.hart.specs.State.{CoreState}
use Rattle.hart.specs.declared.run.LocalEnd.{LocalEnd}
use Rattle.hart.specs.declared.run.LocalEnd.TheVariants.{Out, Most, Other}
use Rattle.hart.specs.LocalRuns.{RetirementList, TakesOne, TakesLocal, TakesNoMore, IsQuiet, HasRunLocally, end_of, IsListed, HasTaken}

takes_more : (s : Setting) (code : List ℕ) (first last next : Processor) (taken : List Retired) (retired : Retired) →
    TakesLocal s code first taken last → TakesOne s code last retired next → TakesLocal s code first (taken ++ retired ∷ []) next
takes_more s code first last next [] retired run one = (next, subst (λ p. TakesOne s code p retired next) run one, refl)
takes_more s code first last next (r ∷ rs) retired (between, this, run) one =
    (between, this, takes_more s code between last next rs retired run one)

all_more : (taken : List Retired) (retired : Retired) → All IsQuiet taken → IsQuiet retired → All IsQuiet (taken ++ retired ∷ [])
all_more taken retired quiet silent =
    All-append IsQuiet taken (retired ∷ []) quiet (All-cons IsQuiet retired [] silent (All-nil IsQuiet))

-- A run so far, none of whose instructions has written to the console.
pub record HasGone (code : List ℕ) (old new : CoreState) (before after : RetirementList) : Type 0 where
  -- the instructions taken so far
  pub taken : List Retired
  pub turns : TakesLocal old.setting code old.state taken new.state
  -- The setting has not changed.
  pub setting : new.setting ≡ old.setting
  -- The list's capacity has not changed.
  pub most : after.most ≡ before.most
  -- The list has the retirements of these instructions appended.
  pub listed : after.items ≡ before.items ++ taken
  -- None of the instructions writes to the console.
  pub quiet : All IsQuiet taken

-- A run that has taken no instruction leaves the core and the list as they are.
pub not_gone : (code : List ℕ) (core : CoreState) (list : RetirementList) → HasGone code core core list list
not_gone code core list = record { taken = []; turns = refl; setting = refl; most = refl; listed = sym (append-nil list.items); quiet = All-nil IsQuiet }

module _ (code : List ℕ) (old new now : CoreState) (before after list : RetirementList) (gone : HasGone code old new before after) where
  module _ (end : Option LocalEnd) (next : IsListed code new now after list end) where
    turns_on : TakesLocal old.setting code old.state (gone.taken ++ next.retired ∷ []) now.state
    turns_on = takes_more old.setting code old.state new.state now.state gone.taken next.retired gone.turns
        (subst (λ s. TakesOne s code new.state next.retired now.state) gone.setting next.turn)

    listed_on : list.items ≡ before.items ++ (gone.taken ++ next.retired ∷ [])
    listed_on =
        ap (λ (l : RetirementList). l.items) next.list ∙ ap (λ xs. xs ++ next.retired ∷ []) gone.listed
        ∙ append_assoc before.items gone.taken (next.retired ∷ [])

    most_on : list.most ≡ before.most
    most_on = ap (λ (l : RetirementList). l.most) next.list ∙ gone.most

    goes_on : IsQuiet next.retired → HasGone code old now before list
    goes_on silent = record {
      taken = gone.taken ++ next.retired ∷ [];
      turns = turns_on;
      setting = next.setting ∙ gone.setting;
      most = most_on;
      listed = listed_on;
      quiet = all_more gone.taken next.retired gone.quiet silent;
    }

    gives : (byte : ℕ) → next.retired.out ≡ Some byte → HasRunLocally code old now before list (Out byte)
    gives byte out = record {
      taken = gone.taken ++ next.retired ∷ [];
      turns = turns_on;
      setting = next.setting ∙ gone.setting;
      most = most_on;
      listed = listed_on;
      ends = record { earlier = gone.taken; last = next.retired; taken_are = refl; quiet = gone.quiet; gives = out };
    }

  -- ---- what the next instruction does

  quiet_by : (out : Option ℕ) → None ≡ end_of out → out ≡ None
  quiet_by None e = refl
  quiet_by (Some byte) e = absurd (cc)

  out_by : (byte : ℕ) (out : Option ℕ) → Some (Out byte) ≡ end_of out → out ≡ Some byte
  out_by byte None e = absurd (cc)
  out_by byte (Some given) e = let same : byte ≡ given = cc in ap Some (sym same)

  not_most : (out : Option ℕ) → Some Most ≡ end_of out → ⊥
  not_most None e = absurd (cc)
  not_most (Some given) e = absurd (cc)

  -- If the next instruction is taken and writes nothing to the console, the run so far extends by it.
  pub gone_on : HasTaken code new now after list None → HasGone code old now before list
  gone_on next = goes_on None next (quiet_by next.retired.out next.ends)

  -- If the next instruction is taken and writes nothing to the console, the list has one more retirement.
  pub one_more : HasTaken code new now after list None → length list.items ≡ length after.items + 1
  one_more next = ap (λ (l : RetirementList). length l.items) next.list ∙ length-append after.items (next.retired ∷ [])

  -- If the list has room, and the run ends after the next instruction or before it, the whole run ends like this.
  pub ended : (end : LocalEnd) → length after.items < after.most → HasTaken code new now after list (Some end) → HasRunLocally code old now before list end
  ended (Out byte) room next = gives (Some (Out byte)) next byte (out_by byte next.retired.out next.ends)
  ended Most room next = absurd (not_most next.retired.out next.ends)
  ended Other room (same, listed, no_more) = record {
    taken = gone.taken;
    turns = subst (λ (c : CoreState). TakesLocal old.setting code old.state gone.taken c.state) (sym same) gone.turns;
    setting = ap (λ (c : CoreState). c.setting) same ∙ gone.setting;
    most = ap (λ (l : RetirementList). l.most) listed ∙ gone.most;
    listed = ap (λ (l : RetirementList). l.items) listed ∙ gone.listed;
    ends = (
      gone.quiet,
      subst (λ (l : RetirementList). length l.items < l.most) (sym listed) room,
      subst (λ (c : CoreState). TakesNoMore old.setting code c.state) (sym same) (subst (λ s. TakesNoMore s code new.state) gone.setting no_more),
    );
  }

-- A run whose list is full has ended.
pub full : (code : List ℕ) (old new : CoreState) (before after : RetirementList) → HasGone code old new before after → length after.items ≡ after.most →
    HasRunLocally code old new before after Most
full code old new before after gone all =
    record { taken = gone.taken; turns = gone.turns; setting = gone.setting; most = gone.most; listed = gone.listed; ends = (gone.quiet, all) }
