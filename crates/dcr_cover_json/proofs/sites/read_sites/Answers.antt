use Rattle.std.proofs.Common.{◌≡◌, ◌≢◌, ◌<◌, [], Some, length, map, ap, ◌∙◌, below_more, rules, arith}
use Rattle.std.proofs.lemmas.List.{length-map}
use Rattle.dcr_proj.specs.CoverValue.{owners}
use Rattle.dcr_format.specs.Facts.{facts_below, first}
use Rattle.dcr_format.proofs.FactLemmas.{facts_none, facts_stop}
use Rattle.dcr_format.proofs.ValueLemmas.{map_more, map_whole}
use Rattle.dcr_graph_json.specs.Build.{atom_names}
use Rattle.dcr_cover_json.specs.Build.{site_fact}
use Rattle.dcr_cover_json.specs.Check.{stop_of}
use Rattle.dcr_cover_json.specs.Sites.{Site, cover_in, names_in, set_meant}
use Rattle.dcr_cover_json.specs.declared.stop.CoverStop.TheVariants.{NoMemory}
use Rattle.dcr_cover_json.proofs.sites.read_sites.Goals as goal

pub returns-in_err-name-clause-facts : goal.returns-in_err-name-clause-facts
returns-in_err-name-clause-facts g c =
    let N = c.args.index.now.nested.now in
    let sites = map g.S.AsSiteText.written c.args.sites.now in
    let stop = c.in_err-name.field-0.0 in
    let stopped : stop ≢ NoMemory → first (facts_below (length sites) (site_fact N sites)) ≡ Some (stop_of (atom_names N) stop) = λ told.
    facts_stop (site_fact N sites) (length sites) c.loop-i.i (stop_of (atom_names N) stop) (omega (arith, length-map c.args.sites.now g.S.AsSiteText.written)) c.loop-i.invariant.good (c.in_err-name.ensures.fact told) in
    search rules

pub loop-i-preserved : goal.loop-i-preserved
loop-i-preserved g c =
    let N = c.args.index.now.nested.now in
    let sites = map g.S.AsSiteText.written c.args.sites.now in
    let within : c.loop-i.i < length sites = omega (arith, length-map c.args.sites.now g.S.AsSiteText.written) in
    record {
      names_are = map_more (λ (site : Site). site.0) sites c.loop-i.i ([], []) c.loop-i.names.items _ c.in_ok-name.name within c.loop-i.invariant.names_are c.in_ok-push.ensures.items c.in_ok-name.ensures.name;
      owned_are = map_more (λ (site : Site). set_meant N site.1) sites c.loop-i.i ([], []) c.loop-i.owned.items _ c.in_ok-name.set within c.loop-i.invariant.owned_are c.in_ok-push-2.ensures.items c.in_ok-name.ensures.owned;
      good = below_more _ _ c.loop-i.invariant.good c.in_ok-name.ensures.fact;
    }

pub returns-clause-facts : goal.returns-clause-facts
returns-clause-facts g c =
    let sites = map g.S.AsSiteText.written c.args.sites.now in
    facts_none (site_fact c.args.index.now.nested.now sites) (length sites) (λ k l. c.loop-i.invariant.good k (omega (arith, length-map c.args.sites.now g.S.AsSiteText.written)))

pub returns-clause-cover : goal.returns-clause-cover
unfolding cover_in
returns-clause-cover g c =
    let N = c.args.index.now.nested.now in
    let sites = map g.S.AsSiteText.written c.args.sites.now in
    let names = map_whole (λ (site : Site). site.0) sites c.loop-i.i c.loop-i.names.items (omega (arith, length-map c.args.sites.now g.S.AsSiteText.written)) c.loop-i.invariant.names_are in
    let owned = map_whole (λ (site : Site). set_meant N site.1) sites c.loop-i.i c.loop-i.owned.items (omega (arith, length-map c.args.sites.now g.S.AsSiteText.written)) c.loop-i.invariant.owned_are in
    ap (λ ns. owners ns c.loop-i.owned.items) names ∙ ap (owners (names_in sites)) owned
