-- What comes of the sessions of a cluster that are served over links.
use Rattle.std.specs.Prelude.{◌≡◌, ℕ, ◌<◌, ◌≤◌, List, length, take, Option, Some, slice_get}
use Rattle.std.specs.List.{All}
use Rattle.dcr_base.specs.Disk.{DiskView}
use Rattle.dcr_base.specs.Link.{Links}
use Rattle.dcr_journal.specs.Run.{calls_of}
use Rattle.dcr_journal.specs.declared.call.Call.{Call}
use Rattle.dcr_journal.specs.declared.call.Entry.{Entry}
use Rattle.dcr_journal.specs.declared.closed.Closed.{Closed}
use Rattle.dcr_tape.specs.declared.tape.Store.{Store}
use Rattle.dcr_cell.specs.ClusterId.{ClusterId}
use Rattle.dcr_link.specs.Replies.{Terms, asked_in, calls_in, whole_lines}
use Rattle.dcr_link.specs.declared.end.WorkCause.TheVariants.{Ended}
use Rattle.dcr_serving.specs.History.{pass_in}
use Rattle.dcr_serving.specs.Serving.{IsServedOf}
use Rattle.dcr_serving.specs.declared.end.LinkEnd.{LinkEnd}
use Rattle.dcr_engine.specs.Ran.{IsWhole}

-- the calls of a session that the whole lines of bytes spell, and that are allowed to it
abbrev pub calls_asked : Terms → ℕ → List ℕ → List Call
calls_asked terms session asked = calls_in (asked_in terms session (whole_lines asked))

-- the most entries that a history has whose sessions come over links
abbrev pub most_served : ℕ
most_served = 200000

-- The session's calls are the first ones of those that the whole lines of its link spell and that are allowed, where that tells
-- the bytes that it had left, and all of them where the link's input ended.
abbrev pub HasAsked : {L R : Type 0} → Links L R → Terms → Option (List L) → ℕ → List Call → LinkEnd L R → Type 0
HasAsked tells terms links k calls end =
    (all : List _) (link : _) (asked : List ℕ) → links ≡ Some all → slice_get all k ≡ Some link → (tells.gives link).bytes ≡ Some asked
    → (calls ≡ take end.end.calls (calls_asked terms k asked)) × (end.end.cause ≡ Ended → calls ≡ calls_asked terms k asked)

-- Of so many sessions the first ones were served, each over the link of its number among these: what was asked over it, what
-- was answered and how it ended is told by the whole history, which has no entry of another session.
pub record ServedIn {D L R : Type 0} (tells : Links L R) (first : Store D) (terms : Terms) (links : Option (List L)) (sessions : ℕ) (ends : List (LinkEnd L R)) (J : List Entry) : Type 0 where
  pub most : length ends ≤ sessions
  pub each : (k : ℕ) (end : LinkEnd L R) → slice_get ends k ≡ Some end → IsServedOf tells (Some first) most_served terms links (pass_in J k) end
  pub calls : (k : ℕ) (end : LinkEnd L R) → slice_get ends k ≡ Some end → HasAsked tells terms links k (calls_of k J) end
  pub no_other : All (λ (entry : Entry). entry.session < length ends) J

-- the serving of so many sessions, over this store
pub record HasServed {D L R : Type 0} (view : D → DiskView) (faults : D → ℕ) (tells : Links L R) (c : ClusterId) (first : Store D) (terms : Terms) (links : Option (List L)) (sessions : ℕ)
    (ends : List (LinkEnd L R)) (closed : Closed) (store : Store D) : Type 0 where
  pub whole : IsWhole view faults c first closed store
  pub sessions_served : ServedIn tells first terms links sessions ends closed.history.entries
