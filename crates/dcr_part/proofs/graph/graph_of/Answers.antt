use Rattle.std.proofs.Common.{◌≡◌, List, length, sym, ap, subst, ◌∙◌, arith}
use Rattle.std.proofs.lemmas.List.Elements.{All-weaker}
use Rattle.std.proofs.lemmas.List.FromFn.{length-map-range_with_len}
use Rattle.std.proofs.lemmas.Option.{none-some}
use Rattle.dcr_set.specs.EventSet.{Set}
use Rattle.dcr_graph.specs.Names.{AreDistinct}
use Rattle.dcr_graph.specs.Pairs.{first_clash, TellsClash}
use Rattle.dcr_part.specs.Read.{stand_in, table_rules}
use Rattle.dcr_part.proofs.NameLemmas.{stand_ins_distinct}
use Rattle.dcr_part.proofs.graph.graph_of.Goals as goal
use Rattle.dcr_part.proofs.graph.graph_of.Goals.{In_ok-names, In_ok-stand_ins}

many_stand_ins : (c : In_ok-stand_ins) → length c.in_ok-stand_ins.stand_ins.items ≡ c.args.atoms
many_stand_ins c = ap (λ names. length names) c.in_ok-stand_ins.ensures ∙ length-map-range_with_len stand_in 0 c.args.atoms

many : (c : In_ok-names) → length c.in_ok-names.names ≡ c.args.atoms
many c = ap (λ names. length names) (c.in_ok-names.ensures ∙ c.in_ok-stand_ins.ensures) ∙ length-map-range_with_len stand_in 0 c.args.atoms

pub new-requires : goal.new-requires
new-requires c = let m = many_stand_ins (goal.at.new-requires c).In_ok-stand_ins in omega (arith, c.in_ok-stand_ins.stand_ins.ok.0, c.requires.most)

pub of_tables-requires-clause-distinct : goal.of_tables-requires-clause-distinct
of_tables-requires-clause-distinct c =
    subst AreDistinct (sym (c.in_ok-names.ensures ∙ c.in_ok-stand_ins.ensures)) (stand_ins_distinct c.args.atoms (omega arith))

pub of_tables-requires-clause-as_many_rows : goal.of_tables-requires-clause-as_many_rows
of_tables-requires-clause-as_many_rows c =
    All-weaker (λ (table : List Set). length table ≡ c.args.atoms) (λ (table : List Set). length table ≡ length c.in_ok-names.names)
    (λ table rows. rows ∙ sym (many (goal.at.of_tables-requires-clause-as_many_rows c).In_ok-names)) c.args.tables.items c.requires.rows

pub returns-in-Ok-clause-unclashed : goal.returns-in-Ok-clause-unclashed
returns-in-Ok-clause-unclashed c =
    ap (λ n. first_clash (table_rules n c.args.tables.items)) (sym (many (goal.at.returns-in-Ok-clause-unclashed c).In_ok-names)) ∙ c.in-Ok.ensures.no_clash

pub returns-in-Err-Clash-clause-clash : goal.returns-in-Err-Clash-clause-clash
returns-in-Err-Clash-clause-clash c = λ _ none.
    let clash = subst (TellsClash (first_clash (table_rules (length c.in_ok-names.names) c.args.tables.items))) c.in-Err-Clash.field-0-is c.in-Err-Clash.ensures.clash in
    none-some _ (sym none ∙ ap (λ n. first_clash (table_rules n c.args.tables.items)) (sym (many (goal.at.returns-in-Err-Clash-clause-clash c).In_ok-names)) ∙ clash)
