-- What lies beside the turn's list under its lock.
use Rattle.std.specs.Prelude.{◌≡◌, ℕ, ◌+◌, ◌≤◌, not, List, [], ◌++◌, length, map, filter, replicate, take, slice_get, slice_index_or, Option, Some, None}
use Rattle.std.specs.List.{All, range_with_len}
use Rattle.dcr_base.specs.Disk.{DiskView}
use Rattle.dcr_base.specs.Link.{Links}
use Rattle.dcr_set.specs.EventSet.{Set}
use Rattle.dcr_graph.specs.Projection.{HasRoom}
use Rattle.dcr_proj.specs.CoverValue.{IsCovered}
use Rattle.dcr_journal.specs.JournalValue.{History}
use Rattle.dcr_journal.specs.declared.call.Call.TheVariants.{Exec}
use Rattle.dcr_journal.specs.Run.{made_by}
use Rattle.dcr_journal.specs.declared.call.Entry.{Entry}
use Rattle.dcr_journal.specs.declared.call.Outcome.TheVariants.{Done, Faulted}
use Rattle.dcr_line.specs.Fits.{FitsEntry}
use Rattle.dcr_tape.specs.declared.entry.TapeEntry.{TapeEntry}
use Rattle.dcr_tape.specs.declared.tape.Store.{Store}
use Rattle.dcr_turn.specs.Pushing.{is_fault}
use Rattle.dcr_turn.specs.TurnId.{TurnId}
use Rattle.dcr_cell.specs.ClusterId.{ClusterId, alphabet_of}
use Rattle.dcr_cell.specs.Stored.{StoreStands}
use Rattle.dcr_node.specs.Gathering.{nothing_gathered}
use Rattle.dcr_node.specs.JournalState.{JournalState}
use Rattle.dcr_order.specs.Linked.{HasVoted, IsLedFrom}
use Rattle.dcr_order.specs.declared.place.Place.{Place}

-- The turn is that of as many sites as there are owned sets, 1 to 64, which hear of nothing there. The sets own all atoms; they
-- and the marking are over the atoms.
pub record IsNamedApart (c : ClusterId) (turn : TurnId) : Type 0 where
  pub alphabets : turn.alphabets ≡ replicate (length c.owned) []
  pub sessions : turn.sessions ≤ 1024
  pub some_site : 1 ≤ length c.owned
  pub most_sites : length c.owned ≤ 64
  pub rooms : All (λ set. length set ≡ c.rules.atoms) c.owned
  pub covered : IsCovered c.rules.atoms c.owned
  pub opening : HasRoom c.rules.atoms c.opening

-- there is room for so many entries behind the executions from before
abbrev pub HasRoomAfter : ClusterId → ℕ → Type 0
HasRoomAfter c capacity = capacity + length c.old ≤ 200000

-- the executions from before as entries of a session of their own
abbrev pub old_entry : ℕ → List TapeEntry → ℕ → Entry
old_entry session old k =
    let none : TapeEntry = record { event = 0; site = 0 } in
    let x = slice_index_or old k none in
    record { session = session; seq = k; call = Exec x.site x.event; outcome = Done }

abbrev pub old_entries : ℕ → List TapeEntry → List Entry
old_entries session old = map (old_entry session old) (range_with_len 0 (length old))

-- the journal apart of sites with these alphabets, with the executions from before as entries of this session, the last one
abbrev pub begun_of : List Set → ℕ → List TapeEntry → JournalState
begun_of alphabets session old =
    let history : History = record { entries = old_entries session old; capacity = 200000 } in
    record {
      alphabets = alphabets;
      history = history;
      sessions = session + 1;
      out = None;
      gathered = nothing_gathered (length alphabets);
    }

-- the journal apart with which an order begins
abbrev pub begun_journal : ClusterId → ℕ → JournalState
begun_journal c sessions = begun_of (map (alphabet_of c) c.owned) sessions c.old

-- the entries but those of executions that failed
abbrev pub unfaulted : List Entry → List Entry
unfaulted J = filter (λ (entry : Entry). not (is_fault entry.outcome)) J

-- An execution failed, which stands last. Its number counts the entries of its session before it, and its site had voted that it can
-- be done.
pub record HasFailed {L R : Type 0} (each : Links L R) (links : Option (List L)) (before : Option (List (ℕ × R))) (greets : ℕ → List ℕ → List ℕ → Type 0) (c : ClusterId) (J : List Entry)
    (node : JournalState) (places : List (Place L)) (back : Option (List (ℕ × R))) (k : ℕ) (entry : Entry) : Type 0 where
  pub last : k + 1 ≡ length J
  pub seq : entry.seq ≡ made_by entry.session (take k J)
  pub site : ℕ
  pub event : ℕ
  pub call : entry.call ≡ Exec site event
  pub voted : HasVoted each links before greets c node places back entry.session site event

-- What is kept stands for the list: the journal apart has the entries from before and then the list's, but for an execution that
-- failed; nothing is out; each entry of the list has a text; the store is that of the run; and the journal was led by what was read
-- of the links.
pub record IsOrdering {D L R : Type 0} (view : D → DiskView) (faults : D → ℕ) (each : Links L R) (links : Option (List L)) (before : Option (List (ℕ × R))) (greets : ℕ → List ℕ → List ℕ → Type 0)
    (c : ClusterId) (turn : TurnId) (first : Option (Store D)) (J : List Entry) (node : JournalState) (places : List (Place L)) (back : Option (List (ℕ × R))) (store : Store D) : Type 0 where
  pub alphabets : node.alphabets ≡ map (alphabet_of c) c.owned
  pub entries : node.history.entries ≡ old_entries turn.sessions c.old ++ unfaulted J
  pub capacity : node.history.capacity ≡ 200000
  pub sessions : node.sessions ≡ turn.sessions + 1
  pub out : node.out ≡ None
  pub fits : All (FitsEntry (length c.owned) c.rules.atoms) J
  pub failed : (k : ℕ) (entry : Entry) → slice_get J k ≡ Some entry → entry.outcome ≡ Faulted → HasFailed each links before greets c J node places back k entry
  pub stored : StoreStands view faults first c.old J store
  pub led : IsLedFrom each links before greets c (begun_journal c turn.sessions) node places back
