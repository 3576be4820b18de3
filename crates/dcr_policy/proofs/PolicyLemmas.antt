-- The fields of a policy: what they are seen as, and what a session and an atom have by them.
use Rattle.std.proofs.Common.{◌≡◌, ℕ, ◌<◌, false, List, [], length, get_or, map, Some, None, inl, inr, refl, sym, ap, ◌∙◌, arith}
use Rattle.std.specs.List.{All, slice_get}
use Rattle.std.specs.Option.{option_map}
use Rattle.std.proofs.Math.ListN.{get_or-map as map_at}
use Rattle.std.proofs.lemmas.Bool.{cases_lt}
use Rattle.std.proofs.lemmas.List.{get_or-map, get_or_past, length-map}
use Rattle.std.proofs.lemmas.List.Folds.{list_any_none}
use Rattle.std.proofs.lemmas.Option.{get_or_from_slice_get, none-some, slice_get-get_or, slice_get_within}
use Rattle.dcr_set.specs.EventSet.{has, Set}
use Rattle.dcr_set.proofs.SetLemmas.{has-those}
use Rattle.dcr_nest.specs.Tree.{Parents, atoms}
use Rattle.dcr_policy.specs.Deny.{shares_role}
use Rattle.dcr_policy.specs.Numbered.{named, all_named, shares}
use Rattle.dcr_policy.specs.PolicyModel.{roles_in, IsPolicy}
use Rattle.dcr_policy.specs.Roles.{Roles, roles_of}
use Rattle.dcr_policy.specs.Sets.{asking_for}
use Rattle.dcr_policy.specs.Upward.{upward}
use Rattle.dcr_policy.specs.declared.policy.Policy.TheInside.{Inside}
use Rattle.dcr_policy.proofs.ListLemmas.{map_same}
use Rattle.dcr_policy.proofs.NumberedLemmas.{first_named, shares_named}
use Rattle.dcr_policy.proofs.UpwardLemmas.{climbed-map, upward_all}

-- ---- what they are seen as

abbrev pub both_lists : List (List (List ℕ)) → List (List (List ℕ)) → Roles
both_lists asked had = record { atoms = asked; sessions = had }

-- roles by their numbers, and then named, are those of the lists of names
pub seen_as : (names : List (List ℕ)) (parents : Parents) (own users : List (List ℕ)) (nodes by : List ℕ) → nodes ≡ atoms parents
    → both_lists (map (λ node. named names (upward parents own node)) nodes) (map (λ user. named names (get_or users user [])) by) ≡ roles_of parents (all_named names own) (all_named names users) by
seen_as names parents own users nodes by are =
    let asked = map (upward parents (all_named names own)) (atoms parents) in
    ap (λ t. both_lists t (map (λ user. named names (get_or users user [])) by))
    (map_same (λ node. named names (upward parents own node)) (upward parents (all_named names own)) nodes
    (λ k d within. climbed-map (λ number. get_or names number []) parents own (length parents) (get_or nodes k d))
    ∙ ap (map (upward parents (all_named names own))) are)
    ∙ ap (both_lists asked)
    (map_same (λ user. named names (get_or users user [])) (λ user. get_or (all_named names users) user []) by
    (λ k d within. sym (map_at (named names) users (get_or by k d) [])))

-- ---- what they have

module _ (x : Inside) (h : IsPolicy x) where
  asked_seen : (e : ℕ) → e < length x.nodes.items → get_or (roles_in x).atoms e [] ≡ named x.names.items (upward x.parents.items x.own.items (get_or x.nodes.items e 0))
  asked_seen e within = get_or-map (λ node. named x.names.items (upward x.parents.items x.own.items node)) x.nodes.items e 0 [] within

  below_names : (node : ℕ) → All (λ role. role < length x.names.items) (upward x.parents.items x.own.items node)
  below_names node = upward_all (λ role. role < length x.names.items) x.parents.items x.own.items node h.own

  -- a session with this user has a role that the atom asks for where the atom is in the user's set
  pub has_user : (session user e : ℕ) (d : Set) → slice_get x.by.items session ≡ Some user → e < length x.nodes.items
      → has (get_or x.may.items user d) e ≡ shares_role (get_or (roles_in x).atoms e []) (get_or (roles_in x).sessions session [])
  has_user session user e d is inside =
      let users = x.users.items in
      let here : session < length x.by.items = slice_get_within x.by.items session user is in
      let at : get_or x.by.items session 0 ≡ user = get_or_from_slice_get x.by.items session user 0 is in
      let known : user < length users = omega (arith, h.by session 0 here, at) in
      let had = get_or users user [] in
      let up = upward x.parents.items x.own.items (get_or x.nodes.items e 0) in
      ap (λ sets. has (get_or sets user d) e) h.may
      ∙ ap (λ set. has set e) (get_or-map (asking_for x.parents.items x.own.items x.nodes.items) users user [] d known)
      ∙ has-those (length x.nodes.items) (λ a. shares (upward x.parents.items x.own.items (get_or x.nodes.items a 0)) had) e inside
      ∙ sym (shares_named x.names.items h.distinct up had (below_names (get_or x.nodes.items e 0)) (h.users user [] known))
      ∙ ap (λ roles. shares_role roles (named x.names.items had)) (sym (asked_seen e inside))
      ∙ ap (shares_role (get_or (roles_in x).atoms e []))
      (sym (get_or-map (λ u. named x.names.items (get_or users u [])) x.by.items session 0 [] here ∙ ap (λ u. named x.names.items (get_or users u [])) at))

  -- a session without a user has none
  pub has_none : (session : ℕ) (roles : List (List ℕ)) → slice_get x.by.items session ≡ None → false ≡ shares_role roles (get_or (roles_in x).sessions session [])
  has_none session roles none = elim (cases_lt session (length x.by.items)) [
    | inl within ↦ absurd (none-some (get_or x.by.items session 0) (sym none ∙ slice_get-get_or x.by.items session 0 within))
    | inr past ↦ (
        let seen = λ (user : ℕ). named x.names.items (get_or x.users.items user []) in
        let nobody : get_or (roles_in x).sessions session [] ≡ [] = get_or_past (map seen x.by.items) session [] (omega (arith, length-map x.by.items seen)) in
        sym (ap (shares_role roles) nobody ∙ list_any_none (λ role. false) roles (λ k d here. refl)))
  ]

  -- the number of the first role upwards of a node is that of a name
  pub first_below : (node role : ℕ) → Some role ≡ slice_get (upward x.parents.items x.own.items node) 0 → role < length x.names.items
  first_below node role is =
      let up = upward x.parents.items x.own.items node in
      let within = slice_get_within up 0 role (sym is) in
      let at = get_or_from_slice_get up 0 role 0 (sym is) in
      omega (arith, below_names node 0 0 within, at)

  -- the first role that an atom asks for is the first upwards of its node
  pub first_seen : (e : ℕ) → e < length x.nodes.items
      → option_map (λ role. get_or x.names.items role []) (slice_get (upward x.parents.items x.own.items (get_or x.nodes.items e 0)) 0) ≡ slice_get (get_or (roles_in x).atoms e []) 0
  first_seen e inside = sym (ap (λ roles. slice_get roles 0) (asked_seen e inside) ∙ first_named x.names.items (upward x.parents.items x.own.items (get_or x.nodes.items e 0)))
