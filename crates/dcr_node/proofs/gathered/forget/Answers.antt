use Rattle.std.proofs.Common.{length, sym, ◌∙◌, arith}
use Rattle.std.proofs.lemmas.List.{length-replicate, get_or-replicate, ext_get_or}
use Rattle.dcr_node.specs.Gathering.{nothing_told, nothing_gathered}
use Rattle.dcr_node.proofs.gathered.forget.Goals as goal

pub returns : goal.returns
returns c =
    let all = c.loop-place.gathered.items in
    let n = length c.args.gathered.now.items in
    let many = length-replicate n nothing_told in
    let len = c.loop-place.invariant.len in
    ext_get_or nothing_told all (nothing_gathered n) (len ∙ sym many) (λ k below.
    c.loop-place.invariant.done k (omega arith) ∙ sym (get_or-replicate n k nothing_told nothing_told (omega arith)))
