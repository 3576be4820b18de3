use Rattle.std.proofs.Common.{◌≡◌, ℕ, ◌<◌, false, is_some, map, take, Some}
use Rattle.serde_json.specs.View.{view}
use Rattle.dcr_roles.specs.Numbering.{user_in}
use Rattle.dcr_roles.proofs.WordLemmas.{is_wrong}
use Rattle.dcr_roles.proofs.by.read_by.Given as goal

-- the items before i are users' names, and these are the users
abbrev pub invariant-loop-i : goal.invariant-loop-i
invariant-loop-i l = record {
  right : (j : ℕ) → j < l.i → is_wrong (λ _ item. is_some (user_in l.users item)) (map view l.items) j ≡ false;
  by : map (user_in l.users) (map view (take l.i l.items)) ≡ map Some l.by.items;
}
