use Rattle.std.proofs.Common.{◌&&◌, ◌||◌, ◌<◌, eqb, length, refl, sym, ap, ◌∙◌}
use Rattle.std.specs.List.{list_any}
use Rattle.std.proofs.lemmas.List.Elements.{All-same, All-rest}
use Rattle.dcr_set.specs.EventSet.{numbers}
use Rattle.dcr_set.proofs.NumbersLemmas.{numbers-below}
use Rattle.dcr_graph.specs.Rows.{leads}
use Rattle.dcr_part.proofs.FrontLemmas.{listed_all}
use Rattle.dcr_part.proofs.PairLemmas.{target_added, none_ahead}
use Rattle.dcr_part.proofs.tables.add_targets.Goals as goal

pub loop-b-init : goal.loop-b-init
loop-b-init c =
    let table = c.args.table.now in let targets = c.args.targets.now in let a = c.args.a in
    let all = c.into_iter-b-iterator.ensures.into_iter_gives ∙ c.iter-b-items.ensures in
    record {
      room = refl;
      ahead = All-same (λ b. b < length targets) c.into_iter-b-iterator.result (numbers targets) all (numbers-below targets);
      pairs = λ x y. ap (λ bs. leads table x y || (eqb a x && list_any (λ b. eqb b y) bs)) all ∙ ap (λ t. leads table x y || (eqb a x && t)) (listed_all targets y);
    }

pub loop-b-preserved : goal.loop-b-preserved
loop-b-preserved c =
    let old = c.loop-b.table in let a = c.args.a in let b = c.in-Some.b in let rest = c.next.new.self in
    record {
      room = c.add.ensures.atoms ∙ c.loop-b.invariant.room;
      ahead = All-rest (λ k. k < length c.args.targets.now) b rest c.loop-b.b-iterator c.in-Some.ensures.steps c.loop-b.invariant.ahead;
      pairs = λ x y.
          ap (λ t. t || (eqb a x && list_any (λ k. eqb k y) rest)) (c.add.ensures.pairs x y)
          ∙ target_added (leads old x y) (eqb a x) (eqb b y) (list_any (λ k. eqb k y) rest)
          ∙ ap (λ bs. leads old x y || (eqb a x && list_any (λ k. eqb k y) bs)) (sym c.in-Some.ensures.steps)
          ∙ c.loop-b.invariant.pairs x y;
    }

pub returns-clause-pairs : goal.returns-clause-pairs
returns-clause-pairs c = λ x y.
    let table = c.loop-b.table in let a = c.args.a in
    sym (none_ahead (leads table x y) (eqb a x))
    ∙ ap (λ bs. leads table x y || (eqb a x && list_any (λ b. eqb b y) bs)) (sym c.in-None.ensures.steps.0)
    ∙ c.loop-b.invariant.pairs x y
