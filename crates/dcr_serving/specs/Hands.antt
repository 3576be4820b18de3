-- What a worker has in hand.
use Rattle.std.specs.Prelude.{◌≡◌, ℕ, ◌<◌, ◌≤◌, List, [], length, Option, vec_capacity}
use Rattle.std.specs.List.{All}
use Rattle.dcr_tape.specs.declared.tape.Store.{Store}
use Rattle.dcr_base.specs.Link.{Links}
use Rattle.dcr_link.specs.Replies.{Terms}
use Rattle.dcr_serving.specs.Serving.{IsServedOf}
use Rattle.dcr_serving.specs.declared.work.Hand.{Hand}

-- it has one part of the desk's, nothing was taken with it, and there is room for so many sessions
pub record IsReady {L N M R : Type 0} (room : ℕ) (hand : Hand L N M R) : Type 0 where
  pub part : hand.share.parts ≡ 1
  pub none_taken : hand.share.taken ≡ 0
  pub none : hand.records.items ≡ []
  pub room_left : room ≤ vec_capacity hand.records

-- it has served as many of so many sessions as were taken with it, each over its link
pub record HasServed {D L N M R : Type 0} (tells : Links L R) (first : Option (Store D)) (capacity : ℕ) (terms : Terms) (links : Option (List L)) (sessions : ℕ)
    (hand : Hand L N M R) : Type 0 where
  pub part : hand.share.parts ≡ 1
  pub count : length hand.records.items ≡ hand.share.taken
  pub within : All (λ one. one.pass.session < sessions) hand.records.items
  pub each : All (λ one. IsServedOf tells first capacity terms links one.pass one.end) hand.records.items
