-- Steps that name places of the machine, and none of which writes from outside, have records.
use Rattle.std.proofs.Common.{◌≡◌, ℕ, true, false, List, [], ◌∷◌}
use Rattle.std.proofs.lemmas.Bool.{and_parts, true≢false}
use Rattle.std.proofs.lemmas.List.Elements.{All-cons, All-nil}
use Rattle.steps.specs.declared.step.Step.{Step}
use Rattle.steps.specs.declared.step.Step.TheVariants as step
use Rattle.steps.specs.Kinds.{all_within, is_poke, is_within, no_poke}
use Rattle.steps.proofs.Lemmas.{no_poke_parts}
use Rattle.trace_file.specs.Records.{HasRecord}
use Rattle.trace_file.specs.Traces.{HaveRecords}

-- A step that names places of the machine, and does not write from outside, has a record.
pub has_record : (k : ℕ) (s : Step) → is_poke s ≡ false → is_within k s ≡ true → HasRecord k s
has_record k (step.Turn p) own within = within
has_record k (step.Up s w) own within = within
has_record k (step.Serve m) own within = within
has_record k (step.Down s w) own within = within
has_record k (step.Poke q) own within = absurd (true≢false own)

-- So does each of a list of such steps.
pub have_records : (k : ℕ) (steps : List Step) → no_poke steps ≡ true → all_within k steps ≡ true → HaveRecords k steps
have_records k [] own within = All-nil (HasRecord k)
have_records k (s ∷ ss) own within =
    let o = no_poke_parts s ss own in
    let w = and_parts (is_within k s) (all_within k ss) within in
    All-cons (HasRecord k) s ss (has_record k s o.0 w.0) (have_records k ss o.1 w.1)
