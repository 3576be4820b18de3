-- The opening marking of a case by the members of its events.
use Rattle.std.proofs.Common.{◌≡◌, ◌≢◌, ℕ, Bool, true, false, codes, List, length, get_or, Option, Some, None, unwrap_or, refl, sym, ap, ◌∙◌, subst}
use Rattle.std.specs.Prelude.{◌↔◌}
use Rattle.std.specs.List.{slice_get}
use Rattle.std.specs.Option.{option_and_then}
use Rattle.std.proofs.lemmas.List.{length-map}
use Rattle.std.proofs.lemmas.Option.{get_or_from_slice_get, slice_get_within, same_Some}
use Rattle.serde_json.specs.Data.{Data, null, boolean, number, string, array, object}
use Rattle.serde_json.specs.Find.{as_bool, get}
use Rattle.dcr_set.specs.EventSet.{has, those}
use Rattle.dcr_set.proofs.SetLemmas.{has-those}
use Rattle.dcr_nest.specs.Nest.{parents_of}
use Rattle.dcr_nest.specs.Tree.{atoms}
use Rattle.dcr_graph_json.specs.Build.{nest_in, node_in, opening_in, opening_with}
use Rattle.dcr_graph_json.specs.Written.{Written as Graph, event_at, names_in}
use Rattle.dcr_format.specs.Members.{mark_at}
use Rattle.dcr_json.specs.Opens.{OpensAs, OpensAsWritten, OpeningIsWritten}
use Rattle.dcr_json.specs.Written.{spelled_in, written_in}
use Rattle.dcr_json.proofs.RefusalLemmas.{cases_law}
use Rattle.dcr_json.proofs.RoomLemmas.{room_with}

is_true : (m : Option Data) → (unwrap_or (option_and_then as_bool m) false ≡ true) ↔ (m ≡ Some (boolean true))
is_true None = ((λ e. absurd cc), (λ e. absurd cc))
is_true (Some null) = ((λ e. absurd cc), (λ e. absurd cc))
is_true (Some (boolean b)) = ((λ e. ap (λ c. Some (boolean c)) e), (λ e. (let same : b ≡ true = cc in same)))
is_true (Some (number n)) = ((λ e. absurd cc), (λ e. absurd cc))
is_true (Some (string s)) = ((λ e. absurd cc), (λ e. absurd cc))
is_true (Some (array ds)) = ((λ e. absurd cc), (λ e. absurd cc))
is_true (Some (object ms)) = ((λ e. absurd cc), (λ e. absurd cc))

other_than_false : (b : Bool) → (b ≡ true) ↔ ((let m : Option Data = Some (boolean b) in m) ≢ Some (boolean false))
other_than_false true = ((λ e f. absurd cc), (λ h. refl))
other_than_false false = ((λ e. absurd cc), (λ h. absurd (h refl)))

is_not_false : (m : Option Data) → (unwrap_or (option_and_then as_bool m) true ≡ true) ↔ (m ≢ Some (boolean false))
is_not_false None = ((λ e f. absurd cc), (λ h. refl))
is_not_false (Some null) = ((λ e f. absurd cc), (λ h. refl))
is_not_false (Some (boolean b)) = other_than_false b
is_not_false (Some (number n)) = ((λ e f. absurd cc), (λ h. refl))
is_not_false (Some (string s)) = ((λ e f. absurd cc), (λ h. refl))
is_not_false (Some (array ds)) = ((λ e f. absurd cc), (λ h. refl))
is_not_false (Some (object ms)) = ((λ e f. absurd cc), (λ h. refl))

-- the same of what is told by a test
told_so : (told test : Bool) (P : Type 0) → told ≡ test → (test ≡ true) ↔ P → (told ≡ true) ↔ P
told_so told test P same h = ((λ e. h.0 (sym same ∙ e)), (λ p. same ∙ h.1 p))

module _ (events : List Data) (places : List ℕ) where
  -- an atom has the mark that its event has, by whichever test
  marked_as : (test : Data → Bool) (a x : ℕ) (event : Data) → slice_get places a ≡ Some x → slice_get events x ≡ Some event
      → has (those (length places) (λ b. test (event_at events (get_or places b 0)))) a ≡ test event
  marked_as test a x event at here =
      has-those (length places) (λ b. test (event_at events (get_or places b 0))) a (slice_get_within places a x at)
      ∙ ap (λ p. test (event_at events p)) (get_or_from_slice_get places a x 0 at)
      ∙ ap test (get_or_from_slice_get events x event null here)

  opens_with : OpensAs events places (opening_with places events)
  opens_with = record {
    room = room_with places events;
    executed = λ a x event at here. told_so _ _ _ (marked_as (λ e. unwrap_or (mark_at (codes "executed") e) false) a x event at here) (is_true (get (codes "executed") event));
    pending = λ a x event at here. told_so _ _ _ (marked_as (λ e. unwrap_or (mark_at (codes "pending") e) false) a x event at here) (is_true (get (codes "pending") event));
    included = λ a x event at here. told_so _ _ _ (marked_as (λ e. unwrap_or (mark_at (codes "included") e) true) a x event at here) (is_not_false (get (codes "included") event));
  }

opens_in : (g : Graph) → OpensAs g.events (atoms (parents_of (nest_in g).nodes)) (opening_in g)
unfolding nest_in opening_in
opens_in g = opens_with g.events (atoms (parents_of (nest_in g).nodes))

as_many_in : (g : Graph) → length g.events ≡ length (nest_in g).nodes
unfolding nest_in
as_many_in g = sym (length-map g.events (node_in (names_in g.events)))

written_so : (d : Data) → OpensAsWritten d (spelled_in (written_in d))
unfolding spelled_in
written_so d = record { as_many = as_many_in (written_in d).graph; opens = opens_in (written_in d).graph }

pub opening_law : OpeningIsWritten
opening_law bytes d case json e =
    let spells = (cases_law bytes case).0 e in
    let same : spells.value ≡ d = same_Some _ _ (sym spells.json.json ∙ json.json) in
    subst (λ (v : Data). OpensAsWritten v case) same (subst (OpensAsWritten spells.value) (sym spells.is) (written_so spells.value))
