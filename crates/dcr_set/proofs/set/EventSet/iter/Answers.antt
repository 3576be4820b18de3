use Rattle.std.proofs.Common.{◌∙◌, sym, arith}
use Rattle.dcr_set.specs.EventSet.{has}
use Rattle.dcr_set.specs.Bits.{bit}
use Rattle.dcr_set.proofs.SetLemmas.{has_past}
use Rattle.dcr_set.proofs.StandsLemmas.{stands}
use Rattle.dcr_set.proofs.NumbersLemmas.{numbers_is, numbers-those, passing-ext, passing_room}
use Rattle.dcr_set.proofs.set.EventSet.iter.Goals as goal

pub returns : goal.returns
returns c =
    let s = c.args.self.now in let whole = stands c.self.inside s c.self.invariant c.self.view_is in
    c.new.ensures ∙ numbers-those 1024 (bit c.self.inside.words)
    ∙ passing-ext 0 1024 (bit c.self.inside.words) (has s) (λ k _ _. whole.members k)
    ∙ passing_room 0 _ 1024 (has s) (omega (arith, whole.room_is, whole.most)) (λ k past. has_past s k (omega arith))
    ∙ sym (numbers_is s)
