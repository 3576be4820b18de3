use Rattle.std.proofs.Common.{◌∙◌, arith}
use Rattle.dcr_load.proofs.CaseLemmas.{spelled_as, sessions_as}
use Rattle.dcr_load.proofs.LoadLemmas.{unclashed_as, atom_count, rooms_as, site_count, opening_as}
use Rattle.dcr_load.proofs.text.load_case.Goals as goal

pub flat-requires : goal.flat-requires
flat-requires c = unclashed_as c.args.number _ c.in_ok-nested.ensures

pub see_graph-requires : goal.see_graph-requires
see_graph-requires c = unclashed_as c.args.number _ c.in_ok-nested.ensures

pub see_cover-requires-clause-rooms : goal.see_cover-requires-clause-rooms
see_cover-requires-clause-rooms c =
    rooms_as c.args.number _ _ c.in_ok-cover.ensures (atom_count c.args.number _ _ c.in_ok-nested.ensures c.in_ok-graph.ensures)

pub returns-clause-load : goal.returns-clause-load
returns-clause-load c = spelled_as c.args.number _ _ _ _ c.in_ok-nested.ensures c.in_ok-cover.ensures c.opening.ensures (c.new.ensures ∙ c.in_ok-sessions.ensures)

pub returns-clause-fits : goal.returns-clause-fits
returns-clause-fits c =
    let atoms = atom_count c.args.number _ _ c.in_ok-nested.ensures c.in_ok-graph.ensures in
    let sites = site_count c.args.number _ c.in_ok-cover.ensures in
    let sessions = sessions_as c.args.number _ _ _ (c.new.ensures ∙ c.in_ok-sessions.ensures) sites atoms in
    record {
      accepted_graph = c.see_graph.ensures;
      accepted_cover = c.see_cover.ensures;
      flat = c.in_ok-graph.ensures;
      rooms = rooms_as c.args.number _ _ c.in_ok-cover.ensures atoms;
      opening = opening_as _ _ c.opening.ensures atoms;
      most_sessions = (let few = sessions.few in omega arith);
      most_calls = (let calls = sessions.calls in omega arith);
      calls_in_range = sessions.in_range;
    }
