-- The text of a part: a line of compact JSON.
use Rattle.std.specs.Prelude.{ℕ, Bool, List, [], ◌∷◌, ◌++◌, codes, map, Option}
use Rattle.serde_json.specs.Data.{Data, unsigned, boolean, number, string, array, object, no_items, item, no_members, member}
use Rattle.serde_json.specs.View.{items_of}
use Rattle.serde_json.specs.Written.{compact_text}
use Rattle.hex.specs.Hex.{encode_lower}
use Rattle.dcr_set.specs.Least.{some_below}
use Rattle.dcr_set.specs.EventSet.{Set, has, those, numbers}
use Rattle.dcr_graph.specs.Rules.{Rules}
use Rattle.dcr_graph.specs.KindText.{kind_text}
use Rattle.dcr_graph.specs.declared.kind.Kind.{Kind}
use Rattle.dcr_graph.specs.declared.kind.Kind.TheVariants.{Condition, Response, Milestone, Include, Exclude, Cancel}
use Rattle.dcr_graph.specs.declared.marking.SiteMark.{SiteMark}
use Rattle.dcr_part.specs.Told.{Told, name_told}

abbrev pub number_value : ℕ → Data
number_value n = number (unsigned n)

-- the numbers in a set, ascending
abbrev pub set_value : Set → Data
set_value set = array (items_of (map number_value (numbers set)))

-- an event: its number, its name, and whether the site owns it
abbrev pub event_value : Set → List (Option (List ℕ)) → ℕ → Data
event_value own names e = array (item (number_value e) (item (string (name_told names e)) (item (boolean (has own e)) no_items)))

-- the events of the alphabet
abbrev pub alphabet_value : Set → List (Option (List ℕ)) → Set → Data
alphabet_value own names alphabet = array (items_of (map (event_value own names) (numbers alphabet)))

-- the atoms that have a target, and the targets of one, by a relation between n atoms
abbrev pub sources : ℕ → (ℕ → ℕ → Bool) → Set
sources n related = those n (λ a. some_below n (related a))

abbrev pub targets : ℕ → (ℕ → ℕ → Bool) → ℕ → Set
targets n related a = those n (related a)

-- a source with its targets
abbrev pub row_value : ℕ → (ℕ → ℕ → Bool) → ℕ → Data
row_value n related a = array (item (number_value a) (item (set_value (targets n related a)) no_items))

-- a relation between n atoms
abbrev pub rows_value : ℕ → (ℕ → ℕ → Bool) → Data
rows_value n related = array (items_of (map (row_value n related) (numbers (sources n related))))

-- the relation of each kind, under its word
abbrev pub relations_value : Rules → Data
relations_value R =
    let rows : Kind → Data = λ kind. rows_value R.atoms (R.related kind) in
    object (member (kind_text Cancel) (rows Cancel) (member (kind_text Condition) (rows Condition) (member (kind_text Exclude) (rows Exclude)
    (member (kind_text Include) (rows Include) (member (kind_text Milestone) (rows Milestone) (member (kind_text Response) (rows Response) no_members))))))

-- the marks that are tracked
abbrev pub opening_value : SiteMark → Data
opening_value m =
    object (member (codes "executed") (set_value m.executed) (member (codes "included") (set_value m.included) (member (codes "pending") (set_value m.pending) no_members)))

unfoldable pub part_value : Told → Data
part_value P =
    object (member (codes "alphabet") (alphabet_value P.own P.names P.alphabet)
    (member (codes "atoms") (number_value P.rules.atoms)
    (member (codes "digest") (string (encode_lower P.head.digest))
    (member (codes "format") (string (codes "dcr part 1"))
    (member (codes "number") (number_value P.head.site)
    (member (codes "opening") (opening_value P.mark)
    (member (codes "relations") (relations_value P.rules)
    (member (codes "site") (string P.head.name) no_members))))))))

-- the text of what is told, with its line end
unfoldable pub told_text : Told → List ℕ
told_text P = compact_text (part_value P) ++ 10 ∷ []
