-- The marks that a site tracks.
use Rattle.dcr_set.specs.EventSet.{Set, those}
use Rattle.dcr_graph.specs.Rules.{Rules}
use Rattle.dcr_graph.specs.Projection.{tracks_executed, tracks_pending, tracks_included}
use Rattle.dcr_replay.specs.declared.tracked.Tracked.{Tracked}

-- the atoms whose marks the site with these owned atoms tracks
abbrev pub tracked_of : Rules → Set → Tracked
tracked_of G S = record {
  executed = those G.atoms (tracks_executed G S);
  pending = those G.atoms (tracks_pending G S);
  included = those G.atoms (tracks_included G S);
}
