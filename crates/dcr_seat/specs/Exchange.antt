-- What went over a link since it was brought.
use Rattle.std.specs.Prelude.{◌≡◌, ℕ, List, ◌++◌, Option, Some, slice_get}
use Rattle.std.specs.Io.KnownBytes.{Appends, Consumes}
use Rattle.dcr_base.specs.Link.{Links}
use Rattle.dcr_base.specs.Side.{Side}
use Rattle.dcr_wire.specs.Laws.{Sent}
use Rattle.dcr_talk.specs.Frames.{SpellAll}
use Rattle.dcr_seat.specs.InStep.{AreInStep}

-- These bytes were read of the link with this number and these written to it, where it tells that; then it had this left and had
-- taken this.
pub record Exchange {L R : Type 0} (tells : Links L R) (links : Option (List L)) (number : ℕ) (read written : List ℕ) (unread sent : Side) : Type 0 where
  pub link : L
  pub numbered : (all : List L) → links ≡ Some all → slice_get all number ≡ Some link
  pub gave : Consumes (tells.gives link).bytes unread.bytes read
  pub took : Appends (tells.takes link).bytes sent.bytes written

-- Over the link with this number site i has greeted, and then these were asked of it, in step, and these answers read, and behind
-- them these bytes, which are nothing as long as the link serves. `greets` says of a number, of bytes that a link took first and
-- of bytes that it gave first that they are a greeting of the site of this number.
pub record Talk {L R : Type 0} (tells : Links L R) (links : Option (List L)) (greets : ℕ → List ℕ → List ℕ → Type 0) (number i : ℕ) (asked answers : List Sent) (unheard unasked : List ℕ)
    (unread sent : Side) : Type 0 where
  pub challenge : List ℕ
  pub hello : List ℕ
  pub greeted : greets i challenge hello
  pub taken : List ℕ
  pub spelled : SpellAll taken asked
  pub given : List ℕ
  pub answered : SpellAll given answers
  pub went : Exchange tells links number (hello ++ (given ++ unheard)) (challenge ++ (taken ++ unasked)) unread sent
  pub in_step : AreInStep i asked
