-- When a world is right: the journal is a run of the graph, every message, question and answer that was ever sent is true
-- and stays so, what was gathered is the graph's, and each site stands where the executions that it has heard of lead.
use Rattle.std.specs.Prelude.{◌≡◌, ℕ, ◌+◌, ◌<◌, ◌≤◌, ◌==◌, List, ◌++◌, length, map, take, slice_get, Option, Some, option_map, option_to_list}
use Rattle.std.specs.List.{All}
use Rattle.dcr_set.specs.EventSet.{Set, has}
use Rattle.dcr_set.specs.Least.{least}
use Rattle.dcr_graph.specs.Cause.{enabled_in}
use Rattle.dcr_graph.specs.Rows.{row}
use Rattle.dcr_graph.specs.Rules.{Rules}
use Rattle.dcr_graph.specs.Projection.{project, HasRoom}
use Rattle.dcr_graph.specs.declared.marking.Marking.{Marking}
use Rattle.dcr_graph.specs.declared.marking.SiteMark.{SiteMark}
use Rattle.dcr_proj.specs.CoverValue.{IsCovered}
use Rattle.dcr_proj.specs.Local.{projection_of}
use Rattle.dcr_site.specs.Decision.{decision, owned_waits}
use Rattle.dcr_site.specs.Seen.{StandsAt}
use Rattle.dcr_journal.specs.Run.{IsInRange, IsSound, after, touches}
use Rattle.dcr_journal.specs.declared.call.Call.{Call}
use Rattle.dcr_journal.specs.declared.call.Call.TheVariants.{Exec}
use Rattle.dcr_journal.specs.declared.call.Entry.{Entry}
use Rattle.dcr_wire.specs.declared.answer.Answer.{Answer}
use Rattle.dcr_wire.specs.declared.answer.Told.{Told}
use Rattle.dcr_wire.specs.declared.answer.Told.TheVariants as told
use Rattle.dcr_wire.specs.declared.message.Message.{Message}
use Rattle.dcr_wire.specs.declared.message.Message.TheVariants.{Ask, Vote, Apply}
use Rattle.dcr_wire.specs.declared.question.Asked.{Asked}
use Rattle.dcr_wire.specs.declared.question.Asked.TheVariants.{Marks, Can, Waits}
use Rattle.dcr_wire.specs.declared.question.Question.{Question}
use Rattle.dcr_node.specs.Heard.{heard, stepped_by_all}
use Rattle.dcr_node.specs.SiteState.{SiteState}
use Rattle.dcr_node.specs.JournalState.{JournalState, asked_by, stream_of}
use Rattle.dcr_node.specs.WorldState.{WorldState, alphabets_over}
use Rattle.dcr_node.specs.declared.gathered.Gathered.{Gathered}
use Rattle.dcr_node.specs.declared.journal_node.Proposal.{Proposal}

-- the alphabet of the site that owns S
abbrev pub alphabet_of : Rules → Set → Set
alphabet_of G S = (projection_of G S).alphabet

-- sites that own sets of the atoms and together all of them, one site at least, and a marking over the atoms
pub record IsCase (G : Rules) (C : List Set) (M : Marking) : Type 0 where
  pub some_site : 1 ≤ length C
  pub rooms : All (λ set. length set ≡ G.atoms) C
  pub covers : IsCovered G.atoms C
  pub opening : HasRoom G.atoms M

-- the calls that were ever asked: those of the entries, and then that of the proposal that is out
abbrev pub asked : JournalState → List Call
asked j = map (λ (entry : Entry). entry.call) j.history.entries ++ option_to_list (option_map (λ p. (asked_by p).1) j.out)

-- Message by message: a question is for the call of its number, at the count of what its site takes part in before; a
-- vote is the graph's decision of the call of its number after the entries before; an execution stands at its index in
-- the site's stream.
abbrev pub IsTrueAt : Rules → List Set → Marking → JournalState → Message → Type 0
IsTrueAt G C M j (Ask number site event count) =
    (slice_get (asked j) number ≡ Some (Exec site event))
    × (count ≡ length (heard (has (row j.alphabets site)) (take number j.history.entries)))
IsTrueAt G C M j (Vote number site answer) =
    (event : ℕ) × (slice_get (asked j) number ≡ Some (Exec site event))
    × (answer ≡ decision G (row C site) (after G M (take number j.history.entries)) event)
IsTrueAt G C M j (Apply site index event) = slice_get (stream_of j site) index ≡ Some event

-- a site has heard of no more than its stream has, and stands at the opening stepped by what it has heard of
pub record IsNodeAt (G : Rules) (C : List Set) (M : Marking) (j : JournalState) (i : ℕ) (node : SiteState) : Type 0 where
  pub id : node.id ≡ i
  pub count : node.count ≤ length (stream_of j i)
  pub stands : StandsAt G (row C i) (stepped_by_all G M (take node.count (stream_of j i))) node.site

-- the proposal that is out is for a site and an atom
abbrev pub IsOutAt : Rules → List Set → Proposal → Type 0
IsOutAt G C p = IsInRange (length C) G.atoms p.call

-- A question asks a site for what it tells after so many entries as its number says, at the count of what the site takes
-- part in among these.
pub record IsAskedAt (j : JournalState) (q : Question) : Type 0 where
  pub site : q.site < length j.alphabets
  pub number : q.number ≤ length j.history.entries
  pub count : q.count ≡ length (heard (has (row j.alphabets q.site)) (take q.number j.history.entries))

-- what the graph has for the site that owns S at a marking
abbrev pub graph_tells : Rules → Set → Marking → Asked → Told
graph_tells G S N Marks = told.Marks (project G S N)
graph_tells G S N Can = told.Can (enabled_in G S N)
graph_tells G S N Waits = told.Waits (owned_waits G S N)

-- what a site told is what the graph has for it after so many entries as the number says
pub record IsAnswerAt (G : Rules) (C : List Set) (M : Marking) (j : JournalState) (a : Answer) : Type 0 where
  pub site : a.site < length C
  pub number : a.number ≤ length j.history.entries
  pub asked : Asked
  pub told : a.told ≡ graph_tells G (row C a.site) (after G M (take a.number j.history.entries)) asked

-- what was gathered of the site that owns S is what the graph has at a marking
pub record IsGatheredAt (G : Rules) (S : Set) (N : Marking) (g : Gathered) : Type 0 where
  pub marks : (mark : SiteMark) → g.marks ≡ Some mark → mark ≡ project G S N
  pub waits : (event : Option ℕ) → g.waits ≡ Some event → event ≡ owned_waits G S N

-- and so of each site after all entries
pub record AreGathered (G : Rules) (C : List Set) (M : Marking) (j : JournalState) : Type 0 where
  pub as_many : length j.gathered ≡ length C
  pub each : (i : ℕ) (g : Gathered) → slice_get j.gathered i ≡ Some g → IsGatheredAt G (row C i) (after G M j.history.entries) g

-- the world is right for the rules G, the owned sets C and the opening M
pub record IsRight (G : Rules) (C : List Set) (M : Marking) (w : WorldState) : Type 0 where
  pub is_case : IsCase G C M
  pub opening : w.opening ≡ M
  pub alphabets : w.journal.alphabets ≡ alphabets_over G C
  pub sound : IsSound G C M w.journal.history.entries
  pub out : (p : Proposal) → w.journal.out ≡ Some p → IsOutAt G C p
  pub as_many : length w.sites ≡ length C
  pub sites : (i : ℕ) (node : SiteState) → slice_get w.sites i ≡ Some node → IsNodeAt G C M w.journal i node
  pub sent : (k : ℕ) (message : Message) → slice_get w.sent k ≡ Some message → IsTrueAt G C M w.journal message
  pub gathered : AreGathered G C M w.journal
  pub questions : (k : ℕ) (q : Question) → slice_get w.questions k ≡ Some q → IsAskedAt w.journal q
  pub answers : (k : ℕ) (a : Answer) → slice_get w.answers k ≡ Some a → IsAnswerAt G C M w.journal a

-- ---- what that means for the marks of a site

-- how many entries the shortest beginning of J has with so many executions of the alphabet
abbrev pub shortest_beginning : Set → ℕ → List Entry → Option ℕ
shortest_beginning alphabet count J = least (length J + 1) (λ n. touches (has alphabet) (take n J) == count)

-- A site has heard of a beginning of the journal: its count is at most the number of executions of its alphabet; after
-- each beginning with just so many of them its marks are the projection, and there is such a beginning; so they are the
-- projection after the shortest one.
pub record HeardABeginning (G : Rules) (S : Set) (M : Marking) (J : List Entry) (node : SiteState) : Type 0 where
  pub count : node.count ≤ touches (has (alphabet_of G S)) J
  pub marks : (n : ℕ) → n ≤ length J → touches (has (alphabet_of G S)) (take n J) ≡ node.count → node.site.mark ≡ project G S (after G M (take n J))
  pub shortest : (n : ℕ) × (shortest_beginning (alphabet_of G S) node.count J ≡ Some n) × (node.site.mark ≡ project G S (after G M (take n J)))
