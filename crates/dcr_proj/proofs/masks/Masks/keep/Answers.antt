use Rattle.std.proofs.Common.{sym, ap, length, subst, ◌∙◌}
use Rattle.std.specs.Prelude.{IfSome}
use Rattle.dcr_set.specs.EventSet.{has, no_event}
use Rattle.dcr_set.proofs.LeastLemmas.{least-some}
use Rattle.dcr_graph.specs.Rows.{row}
use Rattle.dcr_proj.specs.Masks.{HasAlone}
use Rattle.dcr_proj.proofs.MaskLemmas.{nothing_first, alone_there}
use Rattle.dcr_proj.proofs.masks.Masks.keep.Goals.{then-has_others, else-has_others}
use Rattle.dcr_proj.proofs.masks.Masks.keep.Goals as goal

pub returns-in_default-clause-mask : goal.returns-in_default-clause-mask
returns-in_default-clause-mask c =
    ap (row c.args.self.now.sets.items.items) c.nothing.ensures.number ∙ c.args.self.now.masks.nothing ∙ ap no_event (sym c.requires.room)
    ∙ sym (nothing_first c.args.mask (sym c.first.ensures ∙ c.in_default.is))

pub has_others-requires : goal.has_others-requires
has_others-requires c = (least-some (length c.args.mask) (has c.args.mask) c.in-Some.e (sym c.first.ensures ∙ c.in-Some.is)).below

pub returns-clause-place : goal.returns-clause-place
returns-clause-place c =
    let new = c.keep.new.self.items.items in let number = c.in_ok-number.number in
    record {
      within = c.in_ok-number.ensures.within;
      alone = elim c.if-has_others.branch [
        | then-has_others w ↦ subst (λ alone. IfSome alone (HasAlone new number)) (sym w.alone-is) tt
        | else-has_others w ↦ subst (λ alone. IfSome alone (HasAlone new number)) (sym w.alone-is)
            (alone_there c.args.self.now.sets.items.items new c.args.mask number c.in-Some.e c.args.self.now.masks c.in_ok-number.ensures.grown c.requires.room
            (c.in_ok-number.ensures.number _) (sym c.first.ensures ∙ c.in-Some.is) (sym c.has_others.ensures ∙ w.if-has_others.false))
      ];
    }
