use Rattle.std.proofs.Common.{◌≡◌, ℕ, ◌<◌, false, map, take}
use Rattle.std.specs.List.{All, AllZip}
use Rattle.serde_json.specs.View.{view}
use Rattle.dcr_roles.specs.Numbering.{AreNumbers, AreNumbersOf, GoesOn, HasName, IsNumbering}
use Rattle.dcr_roles.specs.Written.{fits_user, roles_at}
use Rattle.dcr_roles.proofs.UserLemmas.{names_in}
use Rattle.dcr_roles.proofs.WordLemmas.{is_wrong}
use Rattle.dcr_roles.proofs.users.read_users.Given as goal

-- the users before i are users, and have these numbers and roles
abbrev pub invariant-loop-i : goal.invariant-loop-i
invariant-loop-i l = record {
  numbered : IsNumbering l.names.numbers l.names.names.items;
  goes_on : GoesOn l.fn.names.names.items l.names.names.items;
  right : (j : ℕ) → j < l.i → is_wrong (fits_user (map view l.values)) (map view l.values) j ≡ false;
  called : All HasName (map view (take l.i l.values));
  users : AreNumbers l.users.numbers (names_in (map view (take l.i l.values)));
  roles : AllZip (λ user roles. AreNumbersOf l.names.names.items (roles_at user) roles) (map view (take l.i l.values)) l.users.roles.items;
}
