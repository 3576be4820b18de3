-- The roles of events and of users by their numbers, and by their names what the file writes.
use Rattle.std.proofs.Common.{◌≡◌, ℕ, ◌<◌, codes, List, [], ◌∷◌, ◌++◌, length, get_or, map, Some, refl, sym, ap, subst, ◌∙◌, arith}
use Rattle.std.specs.List.{All, AllZip}
use Rattle.std.proofs.lemmas.List.{get_or-map}
use Rattle.std.proofs.lemmas.List.Elements.{All-nil, All-cons}
use Rattle.serde_json.specs.Data.{Data, null}
use Rattle.dcr_graph.specs.IndexModel.{Numbers}
use Rattle.dcr_nest.specs.Tree.{Parents, atoms}
use Rattle.dcr_policy.specs.Numbered.{all_named, AreBelow}
use Rattle.dcr_policy.specs.Roles.{Roles, roles_of}
use Rattle.dcr_policy.specs.Upward.{upward}
use Rattle.dcr_roles.specs.Elements.{elements_at, graph_elements}
use Rattle.dcr_roles.specs.Numbering.{name_of, user_in, AreNumbers, AreNumbersOf, GoesOn, HasName}
use Rattle.dcr_roles.specs.Policy.{policy_written}
use Rattle.dcr_roles.specs.Written.{roles_at, roles_by}
use Rattle.dcr_roles.proofs.NumberLemmas.{numbers_kept}
use Rattle.dcr_roles.proofs.UserLemmas.{roles_numbered}

-- each has these roles, by their numbers
abbrev pub HaveRoles : List (List ℕ) → List Data → List (List ℕ) → Type 0
HaveRoles names ds own = AllZip (λ d roles. AreNumbersOf names (roles_at d) roles) ds own

-- they stay where the names go on
pub roles_kept : (old new : List (List ℕ)) (ds : List Data) (own : List (List ℕ)) → GoesOn old new → HaveRoles old ds own → HaveRoles new ds own
roles_kept old new [] [] on h = tt
roles_kept old new [] (roles ∷ own) on h = absurd h
roles_kept old new (d ∷ ds) [] on h = absurd h
roles_kept old new (d ∷ ds) (roles ∷ own) on h = (numbers_kept old new (roles_at d) roles on h.0, roles_kept old new ds own on h.1)

-- one more behind all
pub roles_push : (names : List (List ℕ)) (ds : List Data) (own : List (List ℕ)) (d : Data) (roles : List ℕ) → HaveRoles names ds own → AreNumbersOf names (roles_at d) roles → HaveRoles names (ds ++ d ∷ []) (own ++ roles ∷ [])
roles_push names [] [] d roles h here = (here, tt)
roles_push names [] (other ∷ own) d roles h here = absurd h
roles_push names (e ∷ ds) [] d roles h here = absurd h
roles_push names (e ∷ ds) (other ∷ own) d roles h here = (h.0, roles_push names ds own d roles h.1 here)

pub roles_next : (old new : List (List ℕ)) (ds more : List Data) (own longer : List (List ℕ)) (d : Data) (roles : List ℕ) → GoesOn old new → HaveRoles old ds own → AreNumbersOf new (roles_at d) roles
    → more ≡ ds ++ d ∷ [] → longer ≡ own ++ roles ∷ [] → HaveRoles new more longer
roles_next old new ds more own longer d roles on h here with_value with_roles =
    subst (HaveRoles new more) (sym with_roles) (subst (λ vs. HaveRoles new vs (own ++ roles ∷ [])) (sym with_value) (roles_push new ds own d roles (roles_kept old new ds own on h) here))

pub roles_many : (names : List (List ℕ)) (ds : List Data) (own : List (List ℕ)) → HaveRoles names ds own → length own ≡ length ds
roles_many names [] [] h = refl
roles_many names [] (roles ∷ own) h = absurd h
roles_many names (d ∷ ds) [] h = absurd h
roles_many names (d ∷ ds) (roles ∷ own) h = (let more = roles_many names ds own h.1 in omega arith)

pub roles_below : (names : List (List ℕ)) (ds : List Data) (own : List (List ℕ)) → HaveRoles names ds own → AreBelow (length names) own
roles_below names [] [] h = All-nil (λ roles. All (λ role. role < length names) roles)
roles_below names [] (roles ∷ own) h = absurd h
roles_below names (d ∷ ds) [] h = absurd h
roles_below names (d ∷ ds) (roles ∷ own) h = (let here = h.0 in All-cons (λ list. All (λ role. role < length names) list) roles own here.known (roles_below names ds own h.1))

pub roles_named : (names : List (List ℕ)) (ds : List Data) (own : List (List ℕ)) → HaveRoles names ds own → all_named names own ≡ map roles_at ds
roles_named names [] [] h = refl
roles_named names [] (roles ∷ own) h = absurd h
roles_named names (d ∷ ds) [] h = absurd h
roles_named names (d ∷ ds) (roles ∷ own) h = (
    let here = h.0 in
    ap (λ list. list ∷ all_named names own) here.named ∙ ap (λ lists. roles_at d ∷ lists) (roles_named names ds own h.1))

-- ---- sessions

at_users : (users : List Data) (n : ℕ) → n < length users → get_or (map roles_at users) n [] ≡ roles_at (get_or users n null)
at_users [] n within = absurd (omega arith)
at_users (user ∷ users) n within = get_or-map roles_at (user ∷ users) n null [] within

module _ (numbers : Numbers) (users : List Data) (all : All HasName users) (are : AreNumbers numbers (map name_of users)) where
  pub sessions_below : (items : List Data) (by : List ℕ) → map (user_in numbers) items ≡ map Some by → All (λ user. user < length users) by
  sessions_below [] [] e = All-nil (λ user. user < length users)
  sessions_below [] (user ∷ by) e = absurd cc
  sessions_below (item ∷ items) [] e = absurd cc
  sessions_below (item ∷ items) (user ∷ by) e =
      let here : user_in numbers item ≡ Some user = cc in
      let rest : map (user_in numbers) items ≡ map Some by = cc in
      All-cons (λ u. u < length users) user by (roles_numbered numbers users item user all are here).0 (sessions_below items by rest)

  -- a session has the roles of the user whose name its item is
  pub sessions_named : (items : List Data) (by : List ℕ) → map (user_in numbers) items ≡ map Some by → map (λ user. get_or (map roles_at users) user []) by ≡ map (roles_by users) items
  sessions_named [] [] e = refl
  sessions_named [] (user ∷ by) e = absurd cc
  sessions_named (item ∷ items) [] e = absurd cc
  sessions_named (item ∷ items) (user ∷ by) e =
      let here : user_in numbers item ≡ Some user = cc in
      let rest : map (user_in numbers) items ≡ map Some by = cc in
      let known = roles_numbered numbers users item user all are here in
      ap (λ roles. roles ∷ map (λ u. get_or (map roles_at users) u []) by) (at_users users user known.0 ∙ sym known.1)
      ∙ ap (λ lists. roles_by users item ∷ lists) (sessions_named items by rest)

-- ---- the policy

abbrev both_lists : List (List (List ℕ)) → List (List (List ℕ)) → Roles
both_lists asked had = record { atoms = asked; sessions = had }

-- what was read is what is written
pub policy_is : (d : Data) (parents : Parents) (names own roles : List (List ℕ)) (by : List ℕ) (numbers : Numbers) → HaveRoles names (graph_elements (codes "events") d) own
    → HaveRoles names (elements_at (codes "users") d) roles → All HasName (elements_at (codes "users") d) → AreNumbers numbers (map name_of (elements_at (codes "users") d))
    → map (user_in numbers) (elements_at (codes "by") d) ≡ map Some by → roles_of parents (all_named names own) (all_named names roles) by ≡ policy_written d parents
policy_is d parents names own roles by numbers events users all are items =
    let event_values = graph_elements (codes "events") d in
    let user_values = elements_at (codes "users") d in
    let asked = map (upward parents (map roles_at event_values)) (atoms parents) in
    ap (λ lists. both_lists (map (upward parents lists) (atoms parents)) (map (λ user. get_or (all_named names roles) user []) by)) (roles_named names event_values own events)
    ∙ ap (λ lists. both_lists asked (map (λ user. get_or lists user []) by)) (roles_named names user_values roles users)
    ∙ ap (both_lists asked) (sessions_named numbers user_values all are (elements_at (codes "by") d) by items)
