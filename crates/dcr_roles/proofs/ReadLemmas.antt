-- What is read of a value: the parts one after the other, and the policy of them.
use Rattle.std.proofs.Common.{◌≡◌, ℕ, zero, suc, Bool, true, false, not, codes, cond, List, [], length, get_or, map, replicate, Option, Some, None, is_some, unwrap_or, Result, Ok, Err, refl, sym, ap, subst, ◌∙◌}
use Rattle.std.specs.List.{All, slice_get}
use Rattle.std.specs.Option.{option_map_or}
use Rattle.std.proofs.lemmas.List.{length-map}
use Rattle.std.proofs.lemmas.List.Elements.{All-cons, All-nil, All-weaker}
use Rattle.serde_json.specs.Data.{Data, null, boolean, number, string, array, object}
use Rattle.serde_json.specs.Find.{get}
use Rattle.dcr_set.proofs.LeastLemmas.{least-ext}
use Rattle.dcr_graph.specs.IndexModel.{Numbers}
use Rattle.dcr_nest.specs.FlatRelation.{IsFlattening}
use Rattle.dcr_nest.specs.Nest.{Nest, names_of, parents_of}
use Rattle.dcr_nest.specs.Tree.{Parents, atoms}
use Rattle.dcr_nest.proofs.FlatLemmas.{length-of_atoms}
use Rattle.dcr_graph.specs.GraphValue.{Flat}
use Rattle.dcr_journal.specs.Run.{IsInRange}
use Rattle.dcr_journal.specs.declared.call.Call.{Call}
use Rattle.dcr_journal.specs.declared.call.Call.TheVariants.{Exec, Look, Enabled, Accepting}
use Rattle.dcr_policy.specs.Deny.{IsOfAtoms}
use Rattle.dcr_policy.specs.Numbered.{all_named, named}
use Rattle.dcr_policy.specs.Roles.{Roles, roles_of}
use Rattle.dcr_policy.specs.Upward.{upward}
use Rattle.dcr_policy.proofs.ListLemmas.{map_same}
use Rattle.dcr_policy.proofs.UpwardLemmas.{upward_none}
use Rattle.dcr_roles.specs.Elements.{◌>>=◌}
use Rattle.dcr_format.specs.Members.{elements}
use Rattle.dcr_format.specs.Members.{elements_or_none}
use Rattle.dcr_roles.specs.Stages.{next_stage}
use Rattle.dcr_roles.specs.Elements.{elements_at, graph_elements}
use Rattle.dcr_roles.specs.Numbering.{name_of, user_in, AreNumbers, HasName}
use Rattle.dcr_roles.specs.Parts.{array_fits, events_fit, failing, parts_fit, users_fit}
use Rattle.dcr_roles.specs.Policy.{nothing_asked, policy_if_fit, policy_told, policy_written}
use Rattle.dcr_roles.specs.Written.{first_wrong, fits_event, fits_item, fits_user, is_array, is_third, so_where_there}
use Rattle.dcr_roles.specs.declared.stop.PolicyPart.TheVariants as part
use Rattle.dcr_roles.specs.declared.stop.PolicyStop.{PolicyStop}
use Rattle.dcr_roles.specs.declared.stop.PolicyStop.TheVariants.{Policy}
use Rattle.dcr_roles.proofs.RoleLemmas.{HaveRoles, policy_is}
use Rattle.dcr_roles.proofs.UserLemmas.{item_known}

-- ---- nothing is asked for

no_names : (n : ℕ) → All (λ (roles : List (List ℕ)). roles ≡ []) (all_named [] (replicate n []))
no_names zero = All-nil (λ (roles : List (List ℕ)). roles ≡ [])
no_names (suc n) = All-cons (λ (roles : List (List ℕ)). roles ≡ []) [] (all_named [] (replicate n [])) refl (no_names n)

abbrev both_lists : List (List (List ℕ)) → List (List (List ℕ)) → Roles
both_lists asked had = record { atoms = asked; sessions = had }

-- where no event has a role of its own
nothing_is : (parents : Parents) (n : ℕ) → roles_of parents (all_named [] (replicate n [])) [] [] ≡ nothing_asked parents
nothing_is parents n =
    ap (λ asked. both_lists asked [])
    (map_same (upward parents (all_named [] (replicate n []))) (upward parents []) (atoms parents) (λ k d within.
    upward_none parents (all_named [] (replicate n [])) (get_or (atoms parents) k d) (no_names n)
    ∙ sym (upward_none parents [] (get_or (atoms parents) k d) (All-nil (λ (roles : List (List ℕ)). roles ≡ [])))))

pub nothing_read : (parents : Parents) (names own users : List (List ℕ)) (by : List ℕ) (n : ℕ) → names ≡ [] → own ≡ replicate n [] → users ≡ [] → by ≡ []
    → roles_of parents (all_named names own) (all_named names users) by ≡ nothing_asked parents
nothing_read parents names own users by n no_name no_own no_user no_session =
    ap (λ ns. roles_of parents (all_named ns own) (all_named ns users) by) no_name
    ∙ ap (λ roles. roles_of parents (all_named [] roles) (all_named [] users) by) no_own
    ∙ ap (λ roles. roles_of parents (all_named [] (replicate n [])) (all_named [] roles) by) no_user
    ∙ ap (λ sessions. roles_of parents (all_named [] (replicate n [])) [] sessions) no_session
    ∙ nothing_is parents n

-- ---- the parts, one after the other

-- the elements of a member that is an array, where it is there
pub array_there : (m : Option Data) (vs : List Data) → Some vs ≡ elements_or_none m → (so_where_there is_array m ≡ true) × (unwrap_or (m >>= elements) [] ≡ vs)
array_there None vs e = (refl, let same : vs ≡ [] = cc in sym same)
array_there (Some null) vs e = absurd cc
array_there (Some (boolean b)) vs e = absurd cc
array_there (Some (number n)) vs e = absurd cc
array_there (Some (string s)) vs e = absurd cc
array_there (Some (array ds)) vs e = (refl, ap (λ o. unwrap_or o []) (sym e))
array_there (Some (object ms)) vs e = absurd cc

first_wrong_same : {A : Type 0} (p q : ℕ → A → Bool) (xs : List A) → ((i : ℕ) (x : A) → p i x ≡ q i x) → first_wrong p xs ≡ first_wrong q xs
first_wrong_same {A = A} p q xs same = least-ext (length xs) _ _ (λ i below. at i (slice_get xs i))
  where
    at : (i : ℕ) (o : Option A) → option_map_or (λ x. not (p i x)) o false ≡ option_map_or (λ x. not (q i x)) o false
    at i None = refl
    at i (Some x) = ap not (same i x)

behind : (r s : Result (Unit {0}) PolicyStop) → r ≡ Ok tt → next_stage (λ _. s) r ≡ s
behind r s e = ap (next_stage (λ _. s)) e

-- where the events, the users and `by` are as they should be, it hangs on the items of `by` alone
pub parts_as : (d : Data) (events users items : List Data) (numbers : Numbers) → events ≡ graph_elements (codes "events") d → Some users ≡ elements_or_none (get (codes "users") d) → Some items ≡ elements_or_none (get (codes "by") d)
    → failing part.Event (first_wrong (λ _ event. fits_event event) events) ≡ Ok tt → failing part.User (first_wrong (fits_user users) users) ≡ Ok tt → All HasName users → AreNumbers numbers (map name_of users)
    → parts_fit d ≡ failing part.By (first_wrong (λ _ item. is_some (user_in numbers item)) items)
unfolding parts_fit
parts_as d events users items numbers events_are users_are items_are events_ok users_ok named are =
    let there = array_there (get (codes "users") d) users users_are in
    let by = array_there (get (codes "by") d) items items_are in
    behind (events_fit d) _ (ap (λ ds. failing part.Event (first_wrong (λ _ event. fits_event event) ds)) (sym events_are) ∙ events_ok)
    ∙ behind (array_fits part.Users (get (codes "users") d)) _ (ap (λ b. cond b (Ok (tt {0})) (Err (Policy part.Users 0))) there.0)
    ∙ behind (users_fit d) _ (ap (λ us. failing part.User (first_wrong (fits_user us) us)) there.1 ∙ users_ok)
    ∙ behind (array_fits part.By (get (codes "by") d)) _ (ap (λ b. cond b (Ok (tt {0})) (Err (Policy part.By 0))) by.0)
    ∙ ap (λ us. failing part.By (first_wrong (λ _ item. fits_item us item) (elements_at (codes "by") d))) there.1
    ∙ ap (λ is. failing part.By (first_wrong (λ _ item. fits_item users item) is)) by.1
    ∙ ap (failing part.By) (first_wrong_same (λ _ item. fits_item users item) (λ _ item. is_some (user_in numbers item)) items (λ _ item. item_known numbers users item named are))

pub fit_from : (d : Data) (parents : Parents) (r : Result (Unit {0}) PolicyStop) → parts_fit d ≡ r → policy_if_fit d parents ≡ next_stage (λ _. Ok (policy_written d parents)) r
fit_from d parents r e = ap (next_stage (λ _. Ok (policy_written d parents))) e

-- what was read is what is written
pub policy_as : (d : Data) (parents : Parents) (events users items : List Data) (names own roles : List (List ℕ)) (by : List ℕ) (numbers : Numbers) → events ≡ graph_elements (codes "events") d
    → Some users ≡ elements_or_none (get (codes "users") d) → Some items ≡ elements_or_none (get (codes "by") d) → HaveRoles names events own → HaveRoles names users roles → All HasName users
    → AreNumbers numbers (map name_of users) → map (user_in numbers) items ≡ map Some by → roles_of parents (all_named names own) (all_named names roles) by ≡ policy_written d parents
policy_as d parents events users items names own roles by numbers events_are users_are items_are asked had named are read =
    let there = sym (array_there (get (codes "users") d) users users_are).1 in
    policy_is d parents names own roles by numbers (subst (λ ds. HaveRoles names ds own) events_are asked) (subst (λ ds. HaveRoles names ds roles) there had) (subst (All HasName) there named)
    (subst (λ ds. AreNumbers numbers (map name_of ds)) there are) (ap (map (user_in numbers)) (array_there (get (codes "by") d) items items_are).1 ∙ read)

-- ---- it is over the atoms

abbrev told : Roles → Result Roles PolicyStop
told P = Ok P

same_atoms : (parents : Parents) (P Q : Roles) → told Q ≡ told P → length Q.atoms ≡ length (atoms parents) → length P.atoms ≡ length (atoms parents)
same_atoms parents P Q is many = let same : Q ≡ P = cc in ap (λ (R : Roles). length R.atoms) (sym same) ∙ many

pub told_atoms : (d : Data) (parents : Parents) (P : Roles) → policy_told d parents ≡ Ok P → length P.atoms ≡ length (atoms parents)
unfolding policy_told
told_atoms d parents P e = at (is_third d) (parts_fit d) e
  where
    at : (b : Bool) (r : Result (Unit {0}) PolicyStop) → cond b (next_stage (λ _. told (policy_written d parents)) r) (told (nothing_asked parents)) ≡ told P → length P.atoms ≡ length (atoms parents)
    at true (Ok done) is = same_atoms parents P (policy_written d parents) is (length-map (atoms parents) _)
    at true (Err stop) is = absurd cc
    at false r is = same_atoms parents P (nothing_asked parents) is (length-map (atoms parents) _)

-- as many as the graph has
pub flat_atoms : (N : Nest) (G : Flat) → IsFlattening N G → length G.names ≡ length (atoms (parents_of N.nodes))
flat_atoms N G flat = ap (λ names. length names) flat.names ∙ length-of_atoms (parents_of N.nodes) (names_of N.nodes)

in_range_of : (sites n : ℕ) (call : Call) → IsInRange sites n call → IsOfAtoms n call
in_range_of sites n (Exec i e) h = h.1
in_range_of sites n (Look i) h = tt
in_range_of sites n (Enabled i) h = tt
in_range_of sites n Accepting h = tt

pub calls_of_atoms : (sites n m : ℕ) (sessions : List (List Call)) → n ≡ m → All (λ calls. All (IsInRange sites n) calls) sessions → All (λ calls. All (IsOfAtoms m) calls) sessions
calls_of_atoms sites n m sessions same all =
    All-weaker (λ calls. All (IsInRange sites n) calls) (λ calls. All (IsOfAtoms m) calls)
    (λ calls here. All-weaker (IsInRange sites n) (IsOfAtoms m) (λ call h. subst (λ k. IsOfAtoms k call) same (in_range_of sites n call h)) calls here) sessions all
