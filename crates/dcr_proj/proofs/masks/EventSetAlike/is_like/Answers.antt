use Rattle.std.proofs.Common.{◌≡◌, length, sym, ◌∙◌, arith}
use Rattle.std.proofs.lemmas.Bool.Decides.{nat_tests}
use Rattle.dcr_proj.proofs.MaskLemmas.{same_events}
use Rattle.dcr_proj.proofs.masks.EventSetAlike.is_like.Goals.{then-room, else-room}
use Rattle.dcr_proj.proofs.masks.EventSetAlike.is_like.Goals as goal

pub returns-then-has_all-clause-same : goal.returns-then-has_all-clause-same
returns-then-has_all-clause-same c = λ both. elim c.if-room.branch [
  | then-room w ↦
      let rooms = w.if-room.true in let here = c.room.ensures.room in let there = c.room-2.ensures.room in
      let room : length c.args.self.now ≡ length c.args.other.now = grind (arith, nat_tests) in
      same_events c.args.self.now c.args.other.now room (w.has_all.ensures.all (sym w.value-is ∙ c.if-has_all.true)) (c.has_all-then-has_all.ensures.all both)
  | else-room w ↦ absurd (w.if-room.false (let told = sym w.value-is ∙ c.if-has_all.true in grind (arith, nat_tests)))
]
