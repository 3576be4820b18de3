use Rattle.std.proofs.Common.{◌≡◌, ◌+◌, ◌<◌, ◌++◌, ◌∷◌, [], ℕ, List, length, take, drop, arith, refl, sym, ap, ◌∙◌, slice_index}
use Rattle.std.proofs.lemmas.List.{get_or-drop, length-drop, length-replicate, length-set, take_all, take_more, take_more_set}
use Rattle.dcr_greet.proofs.places.part.Goals as goal

pub bytes-init : goal.bytes-init
bytes-init g c = (length-replicate _ _, refl)

pub bytes-preserved : goal.bytes-preserved
bytes-preserved g c =
    let len = c.bytes.invariant.0 in
    let at = c.args.at in
    let bytes = c.args.bytes.now in
    let i = c.bytes.i in
    let byte = slice_index bytes (at + i) in
    let long : i < length (drop at bytes) = omega (arith, length-drop at bytes) in (
      length-set _ _ _ ∙ len,
      take_more_set c.bytes.found i byte (omega arith) ∙ ap (λ (l : List ℕ). l ++ byte ∷ []) c.bytes.invariant.1
          ∙ sym (take_more (drop at bytes) i 0 long ∙ ap (λ b. take i (drop at bytes) ++ b ∷ []) (get_or-drop at bytes i 0)),
    )

pub returns : goal.returns
returns g c =
    let len = c.bytes.invariant.0 in
    let done = c.bytes.auto.i-end in
    let e : c.bytes.i ≡ g.row.N = omega arith in
    sym (take_all g.row.N c.bytes.found (omega arith)) ∙ rw e at c.bytes.invariant.1
