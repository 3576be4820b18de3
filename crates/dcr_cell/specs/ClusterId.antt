-- Which cluster it is: its graph and cover, and what it began with.
use Rattle.std.specs.Prelude.{◌≡◌, ◌≤◌, List, [], length, map, fold, false}
use Rattle.std.specs.List.{All}
use Rattle.dcr_set.specs.EventSet.{Set}
use Rattle.dcr_graph.specs.Projection.{HasRoom}
use Rattle.dcr_graph.specs.Rules.{Rules}
use Rattle.dcr_graph.specs.Step.{step}
use Rattle.dcr_graph.specs.declared.kind.Kind.{Kind}
use Rattle.dcr_graph.specs.declared.marking.Marking.{Marking}
use Rattle.dcr_journal.specs.Answer.{answer}
use Rattle.dcr_journal.specs.Run.{IsInRange, IsLegal, IsSound, after}
use Rattle.dcr_journal.specs.declared.call.Call.{Call}
use Rattle.dcr_journal.specs.declared.call.Outcome.{Outcome}
use Rattle.dcr_journal.specs.declared.call.Entry.{Entry}
use Rattle.dcr_proj.specs.CoverValue.{IsCovered}
use Rattle.dcr_proj.specs.Local.{projection_of}
use Rattle.dcr_tape.specs.declared.entry.TapeEntry.{TapeEntry}
use Rattle.dcr_turn.specs.TurnId.{TurnId}

pub record ClusterId : Type 0 where
  -- the rules of the graph
  pub rules : Rules
  -- the owned sets of the sites, in order
  pub owned : List Set
  -- the marking of the case
  pub opening : Marking
  -- the executions from before, with which the cluster goes on
  pub old : List TapeEntry

-- no cluster
abbrev pub no_cluster : ClusterId
no_cluster = record {
  rules = record { atoms = 0; related = λ (_ : Kind) _ _. false };
  owned = [];
  opening = record { executed = []; pending = []; included = [] };
  old = [];
}

-- the marking of the case stepped by these executions
abbrev pub marking_by : ClusterId → List TapeEntry → Marking
marking_by c executions = fold (λ M (x : TapeEntry). step c.rules M x.event) c.opening executions

-- the marking that the cluster begins with: that of the case, stepped by the executions from before
abbrev pub begun : ClusterId → Marking
begun c = marking_by c c.old

-- the marking after entries of the cluster's journal
abbrev pub marking_after : ClusterId → List Entry → Marking
marking_after c J = after c.rules (begun c) J

-- what the graph answers to a call after these entries
abbrev pub answer_after : ClusterId → List Entry → Call → Outcome
answer_after c J call = answer c.rules c.owned (marking_after c J) call

-- the call's numbers are those of a site and an atom
abbrev pub IsCall : ClusterId → Call → Type 0
IsCall c call = IsInRange (length c.owned) c.rules.atoms call

-- the entries are a run of the graph
abbrev pub IsRunOf : ClusterId → List Entry → Type 0
IsRunOf c J = IsLegal c.rules c.owned (begun c) J

-- they are one in which nothing failed
abbrev pub IsSoundRunOf : ClusterId → List Entry → Type 0
IsSoundRunOf c J = IsSound c.rules c.owned (begun c) J

-- what the site with this owned set must hear of
abbrev pub alphabet_of : ClusterId → Set → Set
alphabet_of c S = (projection_of c.rules S).alphabet

-- The turn is that of the cluster's sites, 1 to 64, which own all atoms. The marking and the sets are over the atoms, and
-- there are no more executions from before than a tape is opened with.
pub record IsNamed (c : ClusterId) (turn : TurnId) : Type 0 where
  pub alphabets : turn.alphabets ≡ map (alphabet_of c) c.owned
  pub some_site : 1 ≤ length c.owned
  pub most_sites : length c.owned ≤ 64
  pub rooms : All (λ set. length set ≡ c.rules.atoms) c.owned
  pub covered : IsCovered c.rules.atoms c.owned
  pub opening : HasRoom c.rules.atoms c.opening
  pub few_old : length c.old ≤ 1000000
