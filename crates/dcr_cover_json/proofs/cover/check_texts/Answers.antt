use Rattle.std.proofs.Common.{◌≡◌, ◌≢◌, not, Some, None, Result, Err, length, map, sym, ap, subst, ◌∙◌, arith, rules}
use Rattle.std.proofs.lemmas.List.{length-map}
use Rattle.std.proofs.lemmas.List.Elements.{All-weaker}
use Rattle.std.proofs.lemmas.Result.{err_from_is_err_and}
use Rattle.dcr_set.specs.Least.{IsLeast, least}
use Rattle.dcr_proj.specs.CoverValue.{IsCover, Owners, is_owned, owners}
use Rattle.dcr_format.specs.Facts.{facts_below, first}
use Rattle.dcr_graph_json.specs.Build.{atom_names}
use Rattle.dcr_cover_json.specs.Accepted.{IsAcceptedCover}
use Rattle.dcr_cover_json.specs.Build.{build_facts, site_fact}
use Rattle.dcr_cover_json.specs.Check.{stop_of}
use Rattle.dcr_cover_json.specs.Sites.{atom_count, cover_in}
use Rattle.dcr_cover_json.specs.declared.stop.CoverStop.{CoverStop}
use Rattle.dcr_cover_json.specs.declared.stop.CoverStop.TheVariants.{NoMemory, Uncovered}
use Rattle.dcr_cover_json.proofs.BuildLemmas.{atom_read, cover_accepted, cover_read, facts_read}
use Rattle.dcr_cover_json.proofs.FactLemmas.{sites_stop}
use Rattle.dcr_cover_json.proofs.MeaningLemmas.{many_names}
use Rattle.dcr_cover_json.proofs.cover.check_texts.Goals as goal
use Rattle.dcr_cover_json.proofs.cover.check_texts.Goals.{After-first_unowned}

-- the cover that was read, its facts where no atom was found, and that it is an accepted one
read : (g : _) (c : After-first_unowned g) → owners c.in_ok-names.names.items c.in_ok-names.owned.items ≡ cover_in c.args.nested.now (map g.S.AsSiteText.written c.args.sites.now)
read g c =
    cover_read c.in_ok-index.index.nested.now c.args.nested.now (map g.S.AsSiteText.written c.args.sites.now) c.in_ok-names.names.items c.in_ok-names.owned.items c.deref.result.now c.atoms.result
    c.in_ok-index.ensures c.in_ok-names.ensures.cover c.deref.ensures.value (c.atoms.ensures.atoms ∙ many_names c.args.nested.now c.args.graph.now c.requires.flat)

hold : (g : _) (c : After-first_unowned g) → None ≡ least c.atoms.result (λ atom. not (is_owned c.deref.result.now atom)) → first (build_facts c.args.nested.now (map g.S.AsSiteText.written c.args.sites.now)) ≡ None
hold g c none =
    facts_read c.in_ok-index.index.nested.now c.args.nested.now (map g.S.AsSiteText.written c.args.sites.now) c.in_ok-names.names.items c.in_ok-names.owned.items c.deref.result.now c.atoms.result
    c.in_ok-index.ensures c.in_ok-names.ensures.cover c.deref.ensures.value (c.atoms.ensures.atoms ∙ many_names c.args.nested.now c.args.graph.now c.requires.flat) c.in_ok-names.ensures.facts None none

accepted : (g : _) (c : After-first_unowned g) → None ≡ least c.atoms.result (λ atom. not (is_owned c.deref.result.now atom)) → IsAcceptedCover c.args.nested.now (cover_in c.args.nested.now (map g.S.AsSiteText.written c.args.sites.now))
accepted g c none =
    let sites = map g.S.AsSiteText.written c.args.sites.now in
    let many = length-map c.args.sites.now g.S.AsSiteText.written in
    cover_accepted c.args.nested.now sites (omega (arith, c.requires.some_site)) (omega (arith, c.requires.most_sites)) (hold g c none)

pub returns-in_err-names-clause-facts : goal.returns-in_err-names-clause-facts
returns-in_err-names-clause-facts g c =
    let N = c.args.nested.now in
    let sites = map g.S.AsSiteText.written c.args.sites.now in
    let stop = c.in_err-names.field-0.0 in
    let stopped : stop ≢ NoMemory → first (build_facts N sites) ≡ Some (stop_of (atom_names N) stop) = λ memory.
    sites_stop N sites (stop_of (atom_names N) stop)
    (ap (λ K. first (facts_below (length sites) (site_fact K sites))) (sym c.in_ok-index.ensures) ∙ c.in_err-names.ensures.facts memory ∙ ap (λ K. Some (stop_of (atom_names K) stop)) c.in_ok-index.ensures) in
    search rules

-- what was told is what is returned
same_stop : (result : Result Owners CoverStop) (told given stop : CoverStop) → result ≡ Err given → given ≡ told → result ≡ Err stop → told ≡ stop
same_stop result told given stop is from same = cc

pub returns-in_err-names-clause-uncovered : goal.returns-in_err-names-clause-uncovered
returns-in_err-names-clause-uncovered g c = λ a same.
    let told = err_from_is_err_and c.from_residual-in_err-names.result c.from_residual-in_err-names.ensures.1 in
    absurd (c.in_err-names.ensures.atoms a (same_stop c.from_residual-in_err-names.result c.in_err-names.field-0.0 told.0 (Uncovered a) told.1 told.2 same))

pub returns-in-Some-clause-facts : goal.returns-in-Some-clause-facts
returns-in-Some-clause-facts g c = λ memory.
    facts_read c.in_ok-index.index.nested.now c.args.nested.now (map g.S.AsSiteText.written c.args.sites.now) c.in_ok-names.names.items c.in_ok-names.owned.items c.deref.result.now c.atoms.result
    c.in_ok-index.ensures c.in_ok-names.ensures.cover c.deref.ensures.value (c.atoms.ensures.atoms ∙ many_names c.args.nested.now c.args.graph.now c.requires.flat) c.in_ok-names.ensures.facts (Some c.in-Some.a) c.in-Some.ensures

pub returns-in-Some-clause-uncovered : goal.returns-in-Some-clause-uncovered
returns-in-Some-clause-uncovered g c = λ a same.
    let N = c.args.nested.now in
    let sites = map g.S.AsSiteText.written c.args.sites.now in
    let is : c.in-Some.a ≡ a = cc in
    subst (IsLeast (atom_count N) (λ b. not (is_owned (cover_in N sites).owned b))) is
    (atom_read c.in_ok-index.index.nested.now N sites c.in_ok-names.names.items c.in_ok-names.owned.items c.deref.result.now c.atoms.result
    c.in_ok-index.ensures c.in_ok-names.ensures.cover c.deref.ensures.value (c.atoms.ensures.atoms ∙ many_names N c.args.graph.now c.requires.flat) c.in-Some.a c.in-Some.ensures)

pub new-requires-2 : goal.new-requires-2
new-requires-2 g c = subst IsCover (sym (read g (goal.at.new-requires-2 g c).After-first_unowned)) (accepted g (goal.at.new-requires-2 g c).After-first_unowned c.in_default.ensures).is_cover

pub returns-clause-facts : goal.returns-clause-facts
returns-clause-facts g c = hold g (goal.at.returns-clause-facts g c).After-first_unowned c.in_default.ensures

pub returns-clause-accepted : goal.returns-clause-accepted
returns-clause-accepted g c =
    subst (IsAcceptedCover c.args.nested.now) (sym (c.new-2.ensures ∙ read g (goal.at.returns-clause-accepted g c).After-first_unowned)) (accepted g (goal.at.returns-clause-accepted g c).After-first_unowned c.in_default.ensures)

pub returns-clause-rooms : goal.returns-clause-rooms
returns-clause-rooms g c =
    let N = c.args.nested.now in
    let ok = subst (IsAcceptedCover N) (sym (c.new-2.ensures ∙ read g (goal.at.returns-clause-rooms g c).After-first_unowned)) (accepted g (goal.at.returns-clause-rooms g c).After-first_unowned c.in_default.ensures) in
    All-weaker (λ set. length set ≡ atom_count N) (λ set. length set ≡ length c.args.graph.now.names) (λ set room. room ∙ sym (many_names N c.args.graph.now c.requires.flat)) _ ok.rooms
