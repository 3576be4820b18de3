-- The parts of a policy in the order in which they are tried: the roles of each event, `users`, each user, `by`, and each
-- item of `by`. The first part that fails is the one that is refused, by the least index.
use Rattle.std.specs.Prelude.{ℕ, codes, Option, Some, None, Result, Ok, Err, if◌then◌else◌}
use Rattle.serde_json.specs.Data.{Data}
use Rattle.serde_json.specs.Find.{get}
use Rattle.dcr_roles.specs.Stages.{◌>>=◌}
use Rattle.dcr_roles.specs.Elements.{elements_at, graph_elements}
use Rattle.dcr_roles.specs.Written.{first_wrong, fits_event, fits_item, fits_user, is_array, so_where_there}
use Rattle.dcr_roles.specs.declared.stop.PolicyPart.{PolicyPart}
use Rattle.dcr_roles.specs.declared.stop.PolicyPart.TheVariants as part
use Rattle.dcr_roles.specs.declared.stop.PolicyStop.{PolicyStop}
use Rattle.dcr_roles.specs.declared.stop.PolicyStop.TheVariants.{Policy}

-- a part that fails at this index, if at one
abbrev pub failing : PolicyPart → Option ℕ → Result (Unit {0}) PolicyStop
failing kind None = Ok tt
failing kind (Some i) = Err (Policy kind i)

abbrev pub events_fit : Data → Result (Unit {0}) PolicyStop
events_fit d = failing part.Event (first_wrong (λ _ event. fits_event event) (graph_elements (codes "events") d))

-- a member that is an array, where it is there
abbrev pub array_fits : PolicyPart → Option Data → Result (Unit {0}) PolicyStop
array_fits kind member = if so_where_there is_array member then Ok tt else Err (Policy kind 0)

abbrev pub users_fit : Data → Result (Unit {0}) PolicyStop
users_fit d = let users = elements_at (codes "users") d in failing part.User (first_wrong (fits_user users) users)

abbrev pub items_fit : Data → Result (Unit {0}) PolicyStop
items_fit d = failing part.By (first_wrong (λ _ item. fits_item (elements_at (codes "users") d) item) (elements_at (codes "by") d))

unfoldable pub parts_fit : Data → Result (Unit {0}) PolicyStop
parts_fit d = do
  events ← events_fit d
  users ← array_fits part.Users (get (codes "users") d)
  each_user ← users_fit d
  by ← array_fits part.By (get (codes "by") d)
  items_fit d
