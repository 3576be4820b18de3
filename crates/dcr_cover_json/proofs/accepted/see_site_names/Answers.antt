use Rattle.std.proofs.Common.{◌≡◌, ℕ, List, true, sym, subst}
use Rattle.std.proofs.lemmas.List.{take_all}
use Rattle.std.proofs.lemmas.List.Elements.{All-more, All-same}
use Rattle.dcr_graph.specs.Names.{is_name}
use Rattle.dcr_cover_json.proofs.accepted.see_site_names.Goals as goal

abbrev Is : List ℕ → Type 0
Is name = is_name name ≡ true

pub loop-name-preserved : goal.loop-name-preserved
loop-name-preserved c =
    All-more Is c.args.names.now c.loop-name.name-index c.name-item.result c.loop-name-test.true c.loop-name.invariant (subst Is c.name-item.is c.text-text.ensures.name)

pub returns : goal.returns
returns c = All-same Is _ _ (sym (take_all c.loop-name.name-index c.args.names.now c.loop-name-test.false)) c.loop-name.invariant
