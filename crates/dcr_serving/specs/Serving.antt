-- How the sessions of a cluster are served over the links of a door.
use Rattle.std.specs.Prelude.{◌≡◌, ◌≢◌, ◌⊎◌, ℕ, ◌≤◌, ◌++◌, Bool, true, false, IsTrue, List, [], length, map, drop, Option, IsSome}
use Rattle.std.specs.List.{All, Any}
use Rattle.std.specs.Io.KnownBytes.{IsAtEnd}
use Rattle.dcr_base.specs.Count.{Fails}
use Rattle.dcr_base.specs.Door.{Doors}
use Rattle.dcr_base.specs.Link.{IsUnfailed, Links}
use Rattle.dcr_tape.specs.declared.tape.Store.{Store}
use Rattle.dcr_turn.specs.PassValue.{PassValue, new_passes}
use Rattle.dcr_cluster.specs.Calls.{Shows}
use Rattle.dcr_cluster.specs.declared.halt.Halt.{Halt}
use Rattle.dcr_link.specs.Replies.{Terms}
use Rattle.dcr_serve.specs.Left.{numbers_from, AreAllButFirst, HasNumber}
use Rattle.dcr_serve.specs.declared.stand.DoorStand.{DoorStand}
use Rattle.dcr_serve.specs.Stand.{StandsSo}
use Rattle.dcr_link.specs.Serving.{CountsCause, Serves}
use Rattle.dcr_link.specs.declared.end.WorkCause.TheVariants.{Ended, Halted, NoMemory}
use Rattle.dcr_link.specs.declared.end.WorkEnd.{WorkEnd}
use Rattle.dcr_serving.specs.declared.end.LinkEnd.{LinkEnd}

-- the pass of a session that has seen and done nothing
abbrev pub new_pass : ℕ → PassValue
new_pass session = record { session = session; front = []; made = 0 }

module _ {D L R : Type 0} (tells : Links L R) (first : Option (Store D)) (capacity : ℕ) (terms : Terms) where
  -- The session of this pass was served over a link that had failed in nothing, from its first call on, and ended so.
  pub record IsServed (link : L) (pass : PassValue) (end : WorkEnd) (rest : R) : Type 0 where
    pub unfailed : IsUnfailed tells link
    pub calls : end.calls ≡ pass.made
    pub serves : Serves first capacity terms (new_pass pass.session) pass (tells.gives link) (tells.unread rest) (tells.takes link) (tells.sent rest) end
    pub ended : end.cause ≡ Ended → IsAtEnd (tells.unread rest).bytes
    -- no read that failed was passed over, and no write but that of last words
    pub counts : CountsCause end.cause (tells.gives link).faults (tells.unread rest).faults (tells.takes link).faults (tells.sent rest).faults
    pub halted : (halt : Halt) → end.cause ≡ Halted halt → Shows first capacity pass.front halt
    pub told : IsSome (tells.gives link).bytes → IsSome (tells.unread rest).bytes

  -- the same over the link that has the session's number among these, where they are told
  pub record IsServedOf (links : Option (List L)) (pass : PassValue) (end : LinkEnd L R) : Type 0 where
    pub link : L
    pub number : HasNumber links pass.session link
    pub session : end.session ≡ pass.session
    pub served : IsServed link pass end.end end.rest

  -- Of so many sessions the first ones were served, each over the link of its number, and the others have done nothing: the
  -- passes of all, and how those that were served have ended, in order.
  pub record AreServed (links : Option (List L)) (sessions : ℕ) (all_passes : List PassValue) (all_ends : List (LinkEnd L R)) : Type 0 where
    pub served : List (PassValue × LinkEnd L R)
    pub within : length served ≤ sessions
    pub in_order : map (λ (one : PassValue × LinkEnd L R). one.0.session) served ≡ numbers_from 0 (length served)
    pub each : All (λ (one : PassValue × LinkEnd L R). IsServedOf links one.0 one.1) served
    pub passes : all_passes ≡ map (λ (one : PassValue × LinkEnd L R). one.0) served ++ drop (length served) (new_passes sessions)
    pub ends : all_ends ≡ map (λ (one : PassValue × LinkEnd L R). one.1) served

-- a door has counted a fault exactly where it is told to have failed
abbrev pub CountsDoor : Bool → ℕ → ℕ → Type 0
CountsDoor true old new = Fails old new
CountsDoor false old new = new ≡ old

-- What became of a door over which so many sessions were served, that have ended so: it has left the links that no session
-- had; where it didn't fail and no memory was missing, each session had one or the door has shut; that it failed was told
-- only where its count rose, and that memory was missing only where a session wanted it, or before the door was asked.
pub record DoorEnds {B L R : Type 0} (doors : Doors B L R) (before after : B) (sessions : ℕ) (all_ends : List (LinkEnd L R)) (door_failed no_memory : Bool) : Type 0 where
  pub left : AreAllButFirst (doors.links before) (length all_ends) (doors.links after)
  pub all : door_failed ≡ false → no_memory ≡ false → (length all_ends ≡ sessions) ⊎ doors.is_shut after
  pub counts : CountsDoor door_failed (doors.faults before) (doors.faults after)
  pub wanted : IsTrue no_memory → ((all_ends ≡ []) × (after ≡ before)) ⊎ Any (λ (end : LinkEnd L R). end.end.cause ≡ NoMemory) all_ends
  pub had : no_memory ≡ false → All (λ (end : LinkEnd L R). end.end.cause ≢ NoMemory) all_ends

-- how a door stands that was asked for links until it had given so many, where it had these links and this count of faults
pub record Stands {B L R : Type 0} (doors : Doors B L R) (all : Option (List L)) (first given : ℕ) (stand : DoorStand) (door : B) : Type 0 where
  pub left : AreAllButFirst all given (doors.links door)
  pub stands : StandsSo doors first stand door
