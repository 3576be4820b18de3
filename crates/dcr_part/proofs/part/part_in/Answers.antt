use Rattle.std.proofs.Common.{◌≡◌, Result, Ok, Err}
use Rattle.std.specs.Result.{IfOk}
use Rattle.std.proofs.lemmas.Option.{MatchOption-at_none, MatchOption-at_some}
use Rattle.dcr_part.specs.PartOf.{IsPartOf}
use Rattle.dcr_part.specs.Read.{AreFields, IsFound}
use Rattle.dcr_part.specs.Whole.{Whole, IsWhole, part_of, part_text}
use Rattle.dcr_part.proofs.WholeLemmas.{is_told}
use Rattle.dcr_part.proofs.part.part_in.Goals as goal

-- what follows of what was answered
weaker : {T E : Type 0} (r : Result T E) (P Q : T → Type 0) → ((x : T) → P x → Q x) → IfOk r P → IfOk r Q
weaker (Ok x) P Q h p = h x p
weaker (Err e) P Q h p = p

pub returns-in_default-clause-each_case : goal.returns-in_default-clause-each_case
returns-in_default-clause-each_case c = λ W it is. MatchOption-at_none _ _ c.in_default.is (c.in_ok-fields.ensures.read (part_of W) (is_told W it) is)

pub returns-clause-each_case : goal.returns-clause-each_case
returns-clause-each_case c =
    weaker c.part_from.result (λ found. (W : Whole) → IsWhole W → AreFields (part_of W) c.in-Some.fields → c.args.bytes.now ≡ part_text W → IsFound found (IsPartOf W))
    (λ found. (W : Whole) → IsWhole W → c.args.bytes.now ≡ part_text W → IsFound found (IsPartOf W))
    (λ found each W it is. each W it (MatchOption-at_some _ _ c.in-Some.fields c.in-Some.is (c.in_ok-fields.ensures.read (part_of W) (is_told W it) is)) is) c.part_from.ensures.each_case
