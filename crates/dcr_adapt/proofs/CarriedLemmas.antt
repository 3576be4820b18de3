-- A marking that is carried: by the marks of those who own the atoms, and one atom after another.
use Rattle.std.proofs.Common.{◌≡◌, ℕ, ◌+◌, ◌<◌, ◌&&◌, ◌||◌, Bool, true, false, cond, List, [], length, get_or, Option, Some, None, refl, sym, ap, ◌∙◌, arith}
use Rattle.std.specs.List.{All, slice_get}
use Rattle.std.specs.Option.{option_and_then, option_map, option_map_or}
use Rattle.std.specs.Str.{bytes_eq}
use Rattle.std.proofs.Math.Bool.{and-true}
use Rattle.std.proofs.lemmas.Bool.{false≢true}
use Rattle.std.proofs.lemmas.List.Elements.{All-get_or}
use Rattle.std.proofs.lemmas.List.Folds.{Any-from_list_any}
use Rattle.std.proofs.lemmas.Option.{get_or_from_slice_get, slice_get-get_or, slice_get-map, slice_get_read}
use Rattle.dcr_set.specs.EventSet.{Set, has, those, with_event}
use Rattle.dcr_set.specs.Least.{least}
use Rattle.dcr_set.proofs.LeastLemmas.{least-none, least-some}
use Rattle.dcr_set.proofs.SetLemmas.{has-those, length-those, those-ext}
use Rattle.dcr_set.proofs.ToldLemmas.{filled, filled_more, filled_same}
use Rattle.dcr_graph.specs.Names.{number_of}
use Rattle.dcr_graph.specs.Projection.{HasRoom, is_condition_source, is_milestone_source, project, tracks_executed, tracks_included, tracks_pending}
use Rattle.dcr_graph.specs.Rows.{row}
use Rattle.dcr_graph.specs.Rules.{Rules}
use Rattle.dcr_graph.specs.declared.marking.Marking.{Marking}
use Rattle.dcr_graph.specs.declared.marking.SiteMark.{SiteMark}
use Rattle.dcr_proj.specs.CoverValue.{Owners, IsCover, atoms_of, is_owned}
use Rattle.dcr_journal.specs.Run.{marks_at}
use Rattle.dcr_adapt.specs.Carried.{is_carried, keeps, keeps_executed, keeps_included, keeps_pending}

-- ---- one atom after another

-- the atom at i is added where it is to be in the set
pub filled_next : (n i : ℕ) (p : ℕ → Bool) (s : Set) (b : Bool) → s ≡ filled n p i → b ≡ p i → cond b (with_event s i) s ≡ filled n p (i + 1)
filled_next n i p s true is e = ap (λ t. with_event t i) is ∙ filled_more n i p (sym e)
filled_next n i p s false is e = is ∙ filled_same n i p (sym e)

-- ---- who owns an atom

-- the least of those who own it is there
pub record IsOwner (C : List Set) (a i : ℕ) : Type 0 where
  pub least_is : least (length C) (λ k. has (row C k) a) ≡ Some i
  pub within : i < length C
  pub owns : has (row C i) a ≡ true

owner_by : (C : List Set) (a : ℕ) (o : Option ℕ) → least (length C) (λ k. has (row C k) a) ≡ o → is_owned C a ≡ true → (i : ℕ) × IsOwner C a i
owner_by C a None none owned =
    let one = Any-from_list_any (λ set. has set a) C owned in
    let here : row C one.0 ≡ one.1 = get_or_from_slice_get C one.0 one.1 [] (slice_get_read C (length C) one.0 one.1 refl one.2 (sym one.3)) in
    absurd (false≢true (sym (least-none (length C) (λ k. has (row C k) a) none one.0 one.2) ∙ ap (λ set. has set a) here ∙ one.4))
owner_by C a (Some i) found owned =
    let first = least-some (length C) (λ k. has (row C k) a) i found in
    (i, record { least_is = found; within = first.below; owns = first.passes })

owner : (C : List Set) (a : ℕ) → is_owned C a ≡ true → (i : ℕ) × IsOwner C a i
owner C a owned = owner_by C a (least (length C) (λ k. has (row C k) a)) refl owned

-- ---- what the owner has of a marking

tracked : (x t : Bool) → t ≡ true → (x && t) ≡ x
tracked x t e = ap (λ b. x && b) e ∙ and-true x

module _ (G : Rules) (C : List Set) (M : Marking) (a : ℕ) (atom : a < G.atoms) (owned : is_owned C a ≡ true) where
  at_owner : (part : SiteMark → Set) (i : ℕ) → IsOwner C a i → keeps part C (marks_at G C M) a ≡ has (part (project G (row C i) M)) a
  at_owner part i it =
      ap (λ o. option_map_or (λ m. has (part m) a) (option_and_then (slice_get (marks_at G C M)) o) false) it.least_is
      ∙ ap (λ o. option_map_or (λ m. has (part m) a) o false)
      (slice_get-map (λ S. project G S M) C i ∙ ap (option_map (λ S. project G S M)) (slice_get-get_or C i [] it.within))

  pub executed_kept : keeps_executed C (marks_at G C M) a ≡ has M.executed a
  executed_kept =
      let it = owner C a owned in let S = row C it.0 in
      at_owner (λ m. m.executed) it.0 it.1 ∙ has-those G.atoms (λ k. has M.executed k && tracks_executed G S k) a atom
      ∙ tracked (has M.executed a) (tracks_executed G S a) (ap (λ b. b || is_condition_source G S a) it.1.owns)

  pub pending_kept : keeps_pending C (marks_at G C M) a ≡ has M.pending a
  pending_kept =
      let it = owner C a owned in let S = row C it.0 in
      at_owner (λ m. m.pending) it.0 it.1 ∙ has-those G.atoms (λ k. has M.pending k && tracks_pending G S k) a atom
      ∙ tracked (has M.pending a) (tracks_pending G S a) (ap (λ b. b || is_milestone_source G S a) it.1.owns)

  pub included_kept : keeps_included C (marks_at G C M) a ≡ has M.included a
  included_kept =
      let it = owner C a owned in let S = row C it.0 in
      at_owner (λ m. m.included) it.0 it.1 ∙ has-those G.atoms (λ k. has M.included k && tracks_included G S k) a atom
      ∙ tracked (has M.included a) (tracks_included G S a) (ap (λ b. b || (is_condition_source G S a || is_milestone_source G S a)) it.1.owns)

-- the cover of a graph's atoms has an owner for each
pub covers : (atoms : ℕ) (C : Owners) → IsCover C → All (λ set. length set ≡ atoms) C.owned → (a : ℕ) → a < atoms → is_owned C.owned a ≡ true
covers atoms C cover rooms a atom =
    let first : atoms_of C.owned ≡ atoms = All-get_or (λ set. length set ≡ atoms) C.owned 0 [] (let some = cover.some_site in let many = cover.as_many in omega (arith, some, many)) rooms in
    cover.covered a (omega (arith, atom, first))

-- ---- what is carried

-- it depends on the marks of the atoms with these names alone
carried_by : (names next : List (List ℕ)) (had other : ℕ → Bool) (given : Set) (b : ℕ) → ((a : ℕ) → a < length names → had a ≡ other a) → (o : Option ℕ)
    → number_of names (get_or next b []) ≡ o → option_map_or had o (has given b) ≡ option_map_or other o (has given b)
carried_by names next had other given b same None e = refl
carried_by names next had other given b same (Some a) e = same a (least-some (length names) (λ k. bytes_eq (get_or names k []) (get_or next b [])) a e).below

pub carried_same : (names next : List (List ℕ)) (had other : ℕ → Bool) (given : Set) → ((a : ℕ) → a < length names → had a ≡ other a)
    → those (length next) (is_carried names had next given) ≡ those (length next) (is_carried names other next given)
carried_same names next had other given same =
    those-ext (length next) _ _ (λ b below. carried_by names next had other given b same (number_of names (get_or next b [])) refl)

-- three sets are a marking
pub marking_is : (M : Marking) (Ex Re In : Set) → M.executed ≡ Ex → M.pending ≡ Re → M.included ≡ In → (let N : Marking = record { executed = Ex; pending = Re; included = In } in M ≡ N)
marking_is M Ex Re In ex re inc =
    let f : Set → Set → Set → Marking = λ x y z. record { executed = x; pending = y; included = z } in
    ap (λ x. f x M.pending M.included) ex ∙ ap (λ y. f Ex y M.included) re ∙ ap (f Ex Re) inc

pub room_of : (n : ℕ) (M : Marking) (p q r : ℕ → Bool) → M.executed ≡ those n p → M.pending ≡ those n q → M.included ≡ those n r → HasRoom n M
room_of n M p q r ex re inc = record {
  executed = ap (λ s. length s) ex ∙ length-those n p;
  pending = ap (λ s. length s) re ∙ length-those n q;
  included = ap (λ s. length s) inc ∙ length-those n r;
}
