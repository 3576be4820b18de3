use Rattle.std.proofs.Common.{◌≡◌, get_or, arith, refl, ap, below_more, eqb-true, eq-eqb}
use Rattle.std.proofs.lemmas.Grind.{same_number_lists}
use Rattle.dcr_greet.proofs.BitLemmas.{gathered_more}
use Rattle.dcr_greet.proofs.mac.are_same.Goals as goal

pub bytes-init : goal.bytes-init
bytes-init c = (λ _ k below. absurd (omega arith), λ _. refl)

pub bytes-preserved : goal.bytes-preserved
bytes-preserved c =
    let one = c.args.one.now in
    let other = c.args.other.now in
    let i = c.bytes.i in
    let step = gathered_more c.bytes.differing (get_or one i 0) (get_or other i 0) in (
      λ none. let both = step.0 none in below_more _ _ (c.bytes.invariant.0 both.0) both.1,
      λ all. step.1 (c.bytes.invariant.1 (λ k below. all k (omega arith)), all i (omega arith)),
    )

pub returns : goal.returns
returns c =
    let one = c.args.one.now in
    let other = c.args.other.now in
    let done = c.bytes.auto.i-end in
    let e : c.bytes.i ≡ 32 = omega arith in (
      λ yes. same_number_lists one other (omega arith) (λ k below. c.bytes.invariant.0 (eqb-true c.bytes.differing 0 yes) k (omega arith)),
      λ same. eq-eqb c.bytes.differing 0 (c.bytes.invariant.1 (λ k below. ap (λ l. get_or l k 0) same)),
    )
