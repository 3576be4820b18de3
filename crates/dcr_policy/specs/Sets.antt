-- The atoms that ask for a role, as sets.
use Rattle.std.specs.Prelude.{◌≡◌, ℕ, ◌<◌, Bool, ◌||◌, ◌&&◌, List, [], length, slice_index_or}
use Rattle.std.specs.List.{list_any}
use Rattle.dcr_set.specs.EventSet.{Set, has, those}
use Rattle.dcr_graph.specs.Rows.{row, leads}
use Rattle.dcr_nest.specs.Tree.{Parents}
use Rattle.dcr_policy.specs.Numbered.{is_in, shares}
use Rattle.dcr_policy.specs.Upward.{upward}

-- whether one of these nodes has the role for its own and the atom below it
abbrev pub is_asked : List (List ℕ) → List Set → List ℕ → ℕ → ℕ → Bool
is_asked own below nodes role a = list_any (λ x. is_in (slice_index_or own x []) role && leads below x a) nodes

-- for each of so many roles the atoms that ask for it by one of these nodes
pub record AreAsking (own : List (List ℕ)) (below : List Set) (nodes : List ℕ) (count room : ℕ) (asking : List Set) : Type 0 where
  pub many : length asking ≡ count
  pub rooms : (role : ℕ) → role < count → length (row asking role) ≡ room
  pub asked : (role a : ℕ) → role < count → leads asking role a ≡ is_asked own below nodes role a

-- the sets of these roles have gained what another set has
pub record AreJoined (old : List Set) (roles : List ℕ) (more : Set) (now : List Set) : Type 0 where
  pub many : length now ≡ length old
  pub rooms : (role : ℕ) → length (row now role) ≡ length (row old role)
  pub joined : (role a : ℕ) → leads now role a ≡ (leads old role a || (is_in roles role && has more a))

-- the atoms at these nodes that ask for one of the roles
abbrev pub asking_for : Parents → List (List ℕ) → List ℕ → List ℕ → Set
asking_for parents own nodes roles = those (length nodes) (λ a. shares (upward parents own (slice_index_or nodes a 0)) roles)
