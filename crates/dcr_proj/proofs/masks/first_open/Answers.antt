use Rattle.std.proofs.Common.{◌≡◌, true, not, ◌&&◌, eqb, cond, Some, None, ap, sym, ◌∙◌}
use Rattle.dcr_set.specs.EventSet.{has, those, first_in_both_without}
use Rattle.dcr_proj.specs.CoverValue.{atoms_of}
use Rattle.dcr_graph.specs.Rows.{row}
use Rattle.dcr_proj.proofs.PlaceLemmas.{nothing_open, one_open, empty_place, alone_place}
use Rattle.dcr_proj.proofs.masks.first_open.Goals as goal
use Rattle.dcr_proj.proofs.masks.first_open.Goals.{In-Some, else-contains-via-then-contains+else-not-contains, else-contains-via-else-contains}

pub returns-then-place-eq0 : goal.returns-then-place-eq0
returns-then-place-eq0 c =
    nothing_open (atoms_of c.args.masks.now) c.args.inside.now c.args.outside.now
    ∙ ap (λ m. first_in_both_without m c.args.inside.now c.args.outside.now) (sym (empty_place c.args.masks.now c.args.place.now.number c.requires.masks c.if-place-eq0.true))

-- what is told of the one event
told : (c : In-Some) → cond (has c.args.inside.now c.in-Some.e && not (has c.args.outside.now c.in-Some.e)) (Some c.in-Some.e) None ≡ first_in_both_without (row c.args.masks.now c.args.place.now.number) c.args.inside.now c.args.outside.now
told c =
    let alone = alone_place c.args.masks.now c.args.place.now c.in-Some.e c.requires.place c.in-Some.is in
    one_open (atoms_of c.args.masks.now) c.in-Some.e c.args.inside.now c.args.outside.now alone.atom ∙ ap (λ m. first_in_both_without m c.args.inside.now c.args.outside.now) (sym alone.only)

pub returns-then-not-contains : goal.returns-then-not-contains
returns-then-not-contains c =
    sym (ap (λ t. cond (t && not (has c.args.outside.now c.in-Some.e)) (Some c.in-Some.e) None) (sym c.contains.ensures ∙ c.if-contains.true)
    ∙ ap (λ t. cond (true && not t) (Some c.in-Some.e) None) (sym c.contains-then-contains.ensures ∙ c.if-not-contains.true))
    ∙ told (goal.at.returns-then-not-contains c).In-Some

pub returns-else-contains : goal.returns-else-contains
returns-else-contains c = elim c.else-contains.branch [
  | else-contains-via-then-contains+else-not-contains w ↦
      sym (ap (λ t. cond (t && not (has c.args.outside.now c.in-Some.e)) (Some c.in-Some.e) None) (sym c.contains.ensures ∙ w.if-contains.true)
      ∙ ap (λ t. cond (true && not t) (Some c.in-Some.e) None) (sym w.contains-then-contains.ensures ∙ w.if-not-contains.false))
      ∙ told (goal.at.returns-else-contains c).In-Some
  | else-contains-via-else-contains w ↦
      sym (ap (λ t. cond (t && not (has c.args.outside.now c.in-Some.e)) (Some c.in-Some.e) None) (sym c.contains.ensures ∙ w.if-contains.false))
      ∙ told (goal.at.returns-else-contains c).In-Some
]
