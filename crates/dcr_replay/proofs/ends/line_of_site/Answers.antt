use Rattle.std.proofs.Common.{◌≡◌, [], length, get_or, sym, ap, subst, ◌∙◌, arith}
use Rattle.std.proofs.lemmas.List.{get_or_default}
use Rattle.std.proofs.lemmas.Result.{IfOk-weaker}
use Rattle.dcr_set.specs.EventSet.{intersection}
use Rattle.dcr_graph.specs.GraphValue.{rules_of}
use Rattle.dcr_graph.specs.Rows.{row}
use Rattle.dcr_graph.specs.Projection.{HasRoom, project, FitsAtoms}
use Rattle.dcr_graph.specs.declared.marking.Marking.{Marking}
use Rattle.dcr_graph.specs.declared.marking.SiteMark.{SiteMark}
use Rattle.dcr_report.specs.Report.{site_text}
use Rattle.dcr_report.proofs.LegalLemmas.{marks_fit}
use Rattle.dcr_replay.specs.Tracks.{tracked_of}
use Rattle.dcr_replay.proofs.TrackedLemmas.{tracked_at, tracked_rooms, HasRooms, cut_told}
use Rattle.dcr_replay.proofs.ends.line_of_site.Goals as goal
use Rattle.dcr_replay.proofs.ends.line_of_site.Goals.{After-marking}

-- the site tracks what the list says at its number
tracks : (c : After-marking) → c.index.result.now ≡ tracked_of (rules_of c.args.run.now.graph.now) (row c.args.run.now.cover.now.owned c.args.i)
tracks c =
    let run = c.args.run.now in
    tracked_at (rules_of run.graph.now) run.cover.now.owned run.tracked.items c.args.i c.index.result.now c.requires.sound.tracked
    (omega (arith, c.requires.site, c.requires.sound.is_cover.as_many)) c.index.ensures

rooms : (c : After-marking) → HasRooms (length c.args.run.now.graph.now.names) c.index.result.now
rooms c = tracked_rooms (rules_of c.args.run.now.graph.now) (row c.args.run.now.cover.now.owned c.args.i) c.index.result.now (tracks c)

room : (c : After-marking) → HasRoom (length c.args.run.now.graph.now.names) c.args.run.now.plain.marking
room c = subst (λ g. HasRoom (length g.names) c.args.run.now.plain.marking) c.requires.sound.graph c.marking.ensures.room

pub cut-mark-requires-clause-executed : goal.cut-mark-requires-clause-executed
cut-mark-requires-clause-executed c =
    ap (λ (M : Marking). length M.executed) c.marking.ensures.marking ∙ (room c).executed ∙ sym (rooms c).executed

pub cut-mark-requires-clause-pending : goal.cut-mark-requires-clause-pending
cut-mark-requires-clause-pending c =
    ap (λ (M : Marking). length M.pending) c.marking.ensures.marking ∙ (room c).pending ∙ sym (rooms c).pending

pub cut-mark-requires-clause-included : goal.cut-mark-requires-clause-included
cut-mark-requires-clause-included c =
    ap (λ (M : Marking). length M.included) c.marking.ensures.marking ∙ (room c).included ∙ sym (rooms c).included

-- the marks that are cut are the site's
marks : (c : After-marking) (m : SiteMark) → m.executed ≡ intersection c.marking.result.now.executed c.index.result.now.executed
    → m.pending ≡ intersection c.marking.result.now.pending c.index.result.now.pending → m.included ≡ intersection c.marking.result.now.included c.index.result.now.included
    → m ≡ project (rules_of c.args.run.now.graph.now) (row c.args.run.now.cover.now.owned c.args.i) c.args.run.now.plain.marking
marks c m executed pending included =
    let run = c.args.run.now in
    let T = c.index.result.now in
    let same = c.marking.ensures.marking in
    cut_told (rules_of run.graph.now) (row run.cover.now.owned c.args.i) run.plain.marking T m (tracks c) (room c)
    (executed ∙ ap (λ (M : Marking). intersection M.executed T.executed) same)
    (pending ∙ ap (λ (M : Marking). intersection M.pending T.pending) same)
    (included ∙ ap (λ (M : Marking). intersection M.included T.included) same)

pub site_line-requires : goal.site_line-requires
site_line-requires c =
    let run = c.args.run.now in
    let G = rules_of run.graph.now in
    let S = row run.cover.now.owned c.args.i in
    let told = marks (goal.at.site_line-requires c).After-marking c.cut-mark.result c.cut-mark.ensures.executed c.cut-mark.ensures.pending c.cut-mark.ensures.included in
    subst (λ (m : SiteMark). FitsAtoms (length run.graph.now.names) m.executed m.pending m.included) (sym told)
    (marks_fit G S run.plain.marking)

pub returns : goal.returns
returns c =
    let run = c.args.run.now in
    let names = run.graph.now.names in
    let site = c.index-site_names-i.result in
    let named = c.index-site_names-i.is ∙ ap (λ all. get_or all c.args.i site) c.site_names.ensures.names ∙ get_or_default run.cover.now.names c.args.i site [] c.requires.site in
    let cut = marks (goal.at.returns c).After-marking c.cut-mark.result c.cut-mark.ensures.executed c.cut-mark.ensures.pending c.cut-mark.ensures.included in
    IfOk-weaker c.site_line.result _ _ (λ _ told. told ∙ ap (λ s. site_text names s c.cut-mark.result) named
    ∙ ap (site_text names (get_or run.cover.now.names c.args.i [])) cut) c.site_line.ensures
