use Rattle.std.proofs.Common.{length, sym, ap, ◌∙◌, arith}
use Rattle.dcr_set.specs.EventSet.{no_event}
use Rattle.dcr_graph.specs.Names.{number_of}
use Rattle.dcr_line.proofs.ListLemmas.{listed_is, low_found, more_from}
use Rattle.dcr_line.proofs.NameLemmas.{name_found}
use Rattle.dcr_line.proofs.mark.read_names.Goals as goal

pub loop-name-init : goal.loop-name-init
loop-name-init c =
    let names = c.args.directory.now.atoms in
    record {
      room = c.new-set.ensures.room ∙ c.atoms.ensures.atoms;
      read =
          ap (λ set. more_from names 0 set c.into_iter-name-iterator.result) (c.new-set.ensures.empty ∙ ap no_event c.atoms.ensures.atoms)
          ∙ ap (more_from names 0 (no_event (length names))) (c.into_iter-name-iterator.ensures.into_iter_gives ∙ c.of-name-items.ensures)
          ∙ listed_is names c.args.text.now;
    }

pub insert-requires : goal.insert-requires
insert-requires c =
    let below = (name_found c.args.directory.now.atoms c.in-Some.name.now c.in_ok-e.e (low_found c.loop-name.low c.in_ok-e.e (number_of c.args.directory.now.atoms c.in-Some.name.now) (sym c.in_ok-e.was ∙ c.atom_from.ensures)).0).0 in
    omega (arith, c.loop-name.invariant.room)

pub overflow_add-low : goal.overflow_add-low
overflow_add-low c =
    let below = (name_found c.args.directory.now.atoms c.in-Some.name.now c.in_ok-e.e (low_found c.loop-name.low c.in_ok-e.e (number_of c.args.directory.now.atoms c.in-Some.name.now) (sym c.in_ok-e.was ∙ c.atom_from.ensures)).0).0 in
    omega (arith, c.atoms.ensures.most, c.e.view_is)
