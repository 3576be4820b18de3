use Rattle.std.proofs.Common.{◌≡◌, ℕ, ◌<◌, false, map, take}
use Rattle.std.specs.List.{AllZip}
use Rattle.serde_json.specs.View.{view}
use Rattle.dcr_roles.specs.Numbering.{AreNumbersOf, GoesOn, IsNumbering}
use Rattle.dcr_roles.specs.Written.{fits_event, roles_at}
use Rattle.dcr_roles.proofs.WordLemmas.{is_wrong}
use Rattle.dcr_roles.proofs.events.read_events.Given as goal

-- the events before i are as they should be, and have these roles
abbrev pub invariant-loop-i : goal.invariant-loop-i
invariant-loop-i l = record {
  numbered : IsNumbering l.names.numbers l.names.names.items;
  goes_on : GoesOn l.fn.names.names.items l.names.names.items;
  right : (j : ℕ) → j < l.i → is_wrong (λ _ event. fits_event event) (map view l.events) j ≡ false;
  roles : AllZip (λ event roles. AreNumbersOf l.names.names.items (roles_at event) roles) (map view (take l.i l.events)) l.own.items;
}
