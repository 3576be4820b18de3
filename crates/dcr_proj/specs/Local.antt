-- A projection as contracts see it, and the one that belongs to a graph and an owned set.
use Rattle.std.specs.Prelude.{List, Option}
use Rattle.dcr_set.specs.EventSet.{Set, those, intersection}
use Rattle.dcr_graph.specs.Rules.{Rules}
use Rattle.dcr_graph.specs.Projection.{tracks_included, tracks_executed, tracks_pending, in_alphabet}
use Rattle.dcr_graph.specs.declared.marking.Marking.{Marking}
use Rattle.dcr_graph.specs.declared.marking.SiteMark.{SiteMark}
use Rattle.dcr_proj.specs.Rows.{GuardMasks, EffectMasks, guard_rows, effect_rows}

pub record Local : Type 0 where
  pub own : Set
  pub tracked_in : Set
  pub tracked_ex : Set
  pub tracked_re : Set
  pub alphabet : Set
  -- for each atom: what guards it where it is owned, what it does where it is in the alphabet
  pub guards : List (Option GuardMasks)
  pub effects : List (Option EffectMasks)

-- the projection of the rules G to the owned set S
abbrev pub projection_of : Rules → Set → Local
projection_of G S = record {
  own = S;
  tracked_in = those G.atoms (tracks_included G S);
  tracked_ex = those G.atoms (tracks_executed G S);
  tracked_re = those G.atoms (tracks_pending G S);
  alphabet = those G.atoms (in_alphabet G S);
  guards = guard_rows G S;
  effects = effect_rows G S;
}

-- the marks of a marking that are tracked
abbrev pub cut_to : Local → Marking → SiteMark
cut_to P M = record {
  executed = intersection M.executed P.tracked_ex;
  pending = intersection M.pending P.tracked_re;
  included = intersection M.included P.tracked_in;
}
