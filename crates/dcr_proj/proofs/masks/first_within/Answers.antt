use Rattle.std.proofs.Common.{◌≡◌, true, not, ◌&&◌, eqb, cond, Some, None, ap, sym, ◌∙◌}
use Rattle.dcr_set.specs.EventSet.{has, those, first_in_three}
use Rattle.dcr_proj.specs.CoverValue.{atoms_of}
use Rattle.dcr_graph.specs.Rows.{row}
use Rattle.dcr_proj.proofs.PlaceLemmas.{nothing_pending, one_pending, empty_place, alone_place}
use Rattle.dcr_proj.proofs.masks.first_within.Goals as goal
use Rattle.dcr_proj.proofs.masks.first_within.Goals.{In-Some, else-contains-via-then-contains+else-contains-2, else-contains-via-else-contains}

pub returns-then-place-eq0 : goal.returns-then-place-eq0
returns-then-place-eq0 c =
    nothing_pending (atoms_of c.args.masks.now) c.args.second.now c.args.third.now
    ∙ ap (λ m. first_in_three m c.args.second.now c.args.third.now) (sym (empty_place c.args.masks.now c.args.place.now.number c.requires.masks c.if-place-eq0.true))

-- what is told of the one event
told : (c : In-Some) → cond (has c.args.second.now c.in-Some.e && has c.args.third.now c.in-Some.e) (Some c.in-Some.e) None ≡ first_in_three (row c.args.masks.now c.args.place.now.number) c.args.second.now c.args.third.now
told c =
    let alone = alone_place c.args.masks.now c.args.place.now c.in-Some.e c.requires.place c.in-Some.is in
    one_pending (atoms_of c.args.masks.now) c.in-Some.e c.args.second.now c.args.third.now alone.atom ∙ ap (λ m. first_in_three m c.args.second.now c.args.third.now) (sym alone.only)

pub returns-then-contains-2 : goal.returns-then-contains-2
returns-then-contains-2 c =
    sym (ap (λ t. cond (t && has c.args.third.now c.in-Some.e) (Some c.in-Some.e) None) (sym c.contains.ensures ∙ c.if-contains.true)
    ∙ ap (λ t. cond (true && t) (Some c.in-Some.e) None) (sym c.contains-then-contains.ensures ∙ c.if-contains-2.true))
    ∙ told (goal.at.returns-then-contains-2 c).In-Some

pub returns-else-contains : goal.returns-else-contains
returns-else-contains c = elim c.else-contains.branch [
  | else-contains-via-then-contains+else-contains-2 w ↦
      sym (ap (λ t. cond (t && has c.args.third.now c.in-Some.e) (Some c.in-Some.e) None) (sym c.contains.ensures ∙ w.if-contains.true)
      ∙ ap (λ t. cond (true && t) (Some c.in-Some.e) None) (sym w.contains-then-contains.ensures ∙ w.if-contains-2.false))
      ∙ told (goal.at.returns-else-contains c).In-Some
  | else-contains-via-else-contains w ↦
      sym (ap (λ t. cond (t && has c.args.third.now c.in-Some.e) (Some c.in-Some.e) None) (sym c.contains.ensures ∙ w.if-contains.false))
      ∙ told (goal.at.returns-else-contains c).In-Some
]
