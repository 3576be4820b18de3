-- Objects of the members that are there.
use Rattle.std.specs.Prelude.{ℕ, List, [], ◌∷◌, Option, Some, None}
use Rattle.serde_json.specs.Data.{Data, Members, no_members, member, put}

-- a member by its key, where it is there
abbrev pub Entry : Type 0
Entry = List ℕ × Option Data

-- the members that are there, in order
abbrev pub members_of : List Entry → Members
members_of [] = no_members
members_of ((key, None) ∷ entries) = members_of entries
members_of ((key, Some d) ∷ entries) = member key d (members_of entries)

-- these members, and the one of this key where it is there
abbrev pub with_entry : List ℕ → Option Data → Members → Members
with_entry key None members = members
with_entry key (Some d) members = put key d members
