use Rattle.std.proofs.Common.{sym, ◌∙◌, arith}
use Rattle.dcr_load.specs.LoadCover.{owns}
use Rattle.dcr_load.proofs.SetLemmas.{filled_none, filled_with, filled_without, filled_as, filled_end}
use Rattle.dcr_load.proofs.cover.owned.Goals as goal
use Rattle.dcr_load.proofs.cover.owned.Goals.{then-owns, else-owns}

pub loop-atom-init : goal.loop-atom-init
loop-atom-init c = filled_as 200 0 (owns c.args.number c.args.site) _ _ c.new-set.ensures.empty (filled_none 200 (owns c.args.number c.args.site))

pub loop-atom-preserved : goal.loop-atom-preserved
loop-atom-preserved c = elim c.if-owns.branch [
  | then-owns w ↦ filled_as 200 _ (owns c.args.number c.args.site) _ _ (w.set-is ∙ w.insert.ensures.added)
      (filled_with 200 c.loop-atom.atom (owns c.args.number c.args.site) c.loop-atom.set c.loop-atom.invariant c.loop-atom-test.true (sym c.owns.ensures ∙ w.if-owns.true))
  | else-owns w ↦ filled_as 200 _ (owns c.args.number c.args.site) _ _ w.set-is
      (filled_without 200 c.loop-atom.atom (owns c.args.number c.args.site) c.loop-atom.set c.loop-atom.invariant (sym c.owns.ensures ∙ w.if-owns.false))
]

pub returns : goal.returns
returns c = filled_end 200 c.loop-atom.atom (owns c.args.number c.args.site) c.loop-atom.set (omega arith) c.loop-atom.invariant
