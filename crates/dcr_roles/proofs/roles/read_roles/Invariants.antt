use Rattle.std.proofs.Common.{◌≡◌, true, map, take}
use Rattle.std.specs.List.{list_all}
use Rattle.serde_json.specs.View.{view}
use Rattle.dcr_roles.specs.Numbering.{AreNumbersOf, GoesOn, IsNumbering}
use Rattle.dcr_roles.specs.Written.{is_name_text, text_of}
use Rattle.dcr_roles.proofs.roles.read_roles.Given as goal

-- the items so far are names, and have these numbers
abbrev pub invariant-loop-item : goal.invariant-loop-item
invariant-loop-item l = record {
  numbered : IsNumbering l.names.numbers l.names.names.items;
  goes_on : GoesOn l.fn.names.names.items l.names.names.items;
  are_names : list_all (λ item. is_name_text (view item)) (take l.item-index l.items) ≡ true;
  numbers : AreNumbersOf l.names.names.items (map (λ item. text_of (view item)) (take l.item-index l.items)) l.numbers.items;
}
