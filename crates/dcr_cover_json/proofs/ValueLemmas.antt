-- The value of a cover is read back from its text; how long that is, and that it is UTF-8.
use Rattle.std.proofs.Common.{◌≡◌, ℕ, suc, ◌+◌, ◌≤◌, inl, inr, true, codes, List, [], ◌∷◌, ◌++◌, length, get_or, Some, IsUtf8, refl, ap, arith}
use Rattle.std.specs.List.{All, range_with_len}
use Rattle.std.proofs.lemmas.Bool.{cases_lt}
use Rattle.std.proofs.lemmas.List.{get_or_past, length-append}
use Rattle.std.proofs.lemmas.List.Elements.{recursion_from_All}
use Rattle.std.proofs.lemmas.List.FromFn.{length-range_with_len}
use Rattle.std.proofs.lemmas.List.Sums.{length-filter, count_by-le-length}
use Rattle.json.specs.Print.{quoted}
use Rattle.json.proofs.Printed.Utf8.{IsUtf8-are_ascii}
use Rattle.serde_json.specs.Data.{string, array, no_members, member}
use Rattle.serde_json.specs.View.{items_of}
use Rattle.serde_json.specs.Written.{compact_text, members_text}
use Rattle.dcr_format.specs.SizeLaws.{json_in}
use Rattle.dcr_set.specs.EventSet.{Set, has, numbers}
use Rattle.dcr_nest.specs.Nest.{Nest, IsNested}
use Rattle.dcr_proj.specs.CoverValue.{Owners}
use Rattle.dcr_format.specs.Texts.{AreAllNames}
use Rattle.dcr_format.specs.declared.json_value.TheConstants.{MAX_BYTES}
use Rattle.dcr_format.proofs.EscapeLemmas.{quoted_any, quoted_word}
use Rattle.dcr_format.proofs.LengthLemmas.{list_short}
use Rattle.dcr_format.proofs.NameLemmas.{names_utf8}
use Rattle.dcr_format.proofs.PlainLemmas.{IsPlain, json_written, plain_array, plain_items, plain_pair, plain_string}
use Rattle.dcr_format.proofs.Utf8Lemmas.{IsUtf8Value, all_utf8, name_utf8, value_utf8}
use Rattle.dcr_graph_json.specs.Build.{atom_names}
use Rattle.dcr_graph_json.specs.Text.{name_value}
use Rattle.dcr_cover_json.specs.Accepted.{IsAcceptedCover}
use Rattle.dcr_cover_json.specs.Text.{cover_text, cover_value, owned_values, site_value, site_value_at}

-- ---- it is read back

plain_site : (atoms : List (List ℕ)) (name : List ℕ) (owned : Set) → IsPlain 2 (site_value atoms name owned)
plain_site atoms name owned =
    plain_pair 1 (codes "events") (codes "site") _ _ refl
    (plain_array 0 _ (plain_items 0 (name_value atoms) (λ e. plain_string 0 (get_or atoms e [])) (numbers owned))) (plain_string 1 name)

pub plain_cover : (atoms : List (List ℕ)) (cover : Owners) → IsPlain 3 (cover_value atoms cover)
unfolding cover_value
plain_cover atoms cover =
    plain_array 2 _ (plain_items 2 (site_value_at atoms cover) (λ i. plain_site atoms (get_or cover.names i []) (get_or cover.owned i [])) (range_with_len 0 (length cover.names)))

-- ---- it is UTF-8

pub cover_utf8 : (atoms : List (List ℕ)) (cover : Owners) → All IsUtf8 atoms → All IsUtf8 cover.names → IsUtf8Value (cover_value atoms cover)
unfolding cover_value
cover_utf8 atoms cover named sited =
    let names = recursion_from_All IsUtf8 atoms named in
    let sites = recursion_from_All IsUtf8 cover.names sited in
    all_utf8 (site_value_at atoms cover)
    (λ i. (
      IsUtf8-are_ascii (codes "events") refl,
      all_utf8 (name_value atoms) (λ e. name_utf8 atoms names e) (numbers (get_or cover.owned i [])),
      (IsUtf8-are_ascii (codes "site") refl, name_utf8 cover.names sites i, tt),
    )) (range_with_len 0 (length cover.names))

pub text_json : (atoms : List (List ℕ)) (cover : Owners) → AreAllNames atoms → AreAllNames cover.names → json_in (cover_text atoms cover) ≡ Some (cover_value atoms cover)
unfolding cover_text
text_json atoms cover named sited =
    json_written 3 (cover_value atoms cover) (compact_text (cover_value atoms cover)) (plain_cover atoms cover) (omega arith) refl
    (value_utf8 (cover_value atoms cover) (cover_utf8 atoms cover (names_utf8 atoms named) (names_utf8 cover.names sited)))

-- ---- how long it is

-- a set has at most as many numbers as it has room for
numbers_few : (owned : Set) → length (numbers owned) ≤ length owned
unfolding numbers
numbers_few owned =
    let kept = length-filter (has owned) (range_with_len 0 (length owned)) in
    let most = count_by-le-length (has owned) (range_with_len 0 (length owned)) in
    let tried = length-range_with_len 0 (length owned) in omega arith

-- a site that owns 1,024 atoms, where all names have 64 bytes, has so many
site_short : (atoms : List (List ℕ)) → AreAllNames atoms → (name : List ℕ) (owned : Set) → length (quoted name) ≤ 66 → length owned ≤ 1024
    → length (compact_text (site_value atoms name owned)) ≤ 68694
site_short atoms are name owned own few =
    let events = array (items_of (owned_values atoms owned)) in
    let site = member (codes "site") (string name) no_members in
    let rest = compact_text events ++ members_text true site in
    let first : length (compact_text (site_value atoms name owned)) ≡ suc (length (quoted (codes "events")) + suc (length rest)) = ap suc (length-append (quoted (codes "events")) (58 ∷ rest)) in
    let parts : length rest ≡ length (compact_text events) + length (members_text true site) = length-append (compact_text events) (members_text true site) in
    let second : length (members_text true site) ≡ suc (length (quoted (codes "site")) + suc (length (quoted name ++ 125 ∷ []))) = ap suc (length-append (quoted (codes "site")) (58 ∷ (quoted name ++ 125 ∷ []))) in
    let last : length (quoted name ++ 125 ∷ []) ≡ length (quoted name) + 1 = length-append (quoted name) (125 ∷ []) in
    let events_key = quoted_word (codes "events") refl in
    let site_key = quoted_word (codes "site") refl in
    let count = numbers_few owned in
    let each = list_short 66 1024 (name_value atoms) (numbers owned) (λ k e is. quoted_any atoms are e) (omega arith) (omega arith) in omega arith

-- a set of a cover, which is empty where there is none, has room for 1,024 atoms at most
rooms_few : (N : Nest) (C : Owners) → IsNested N → IsAcceptedCover N C → (i : ℕ) → length (get_or C.owned i []) ≤ 1024
rooms_few N C nested ok i = elim (cases_lt i (length C.owned)) [
  | inl within ↦ (let room = ok.rooms i [] within in let most = nested.most_atoms in omega arith)
  | inr past ↦ (let none : length (get_or C.owned i []) ≡ 0 = ap (λ (set : Set). length set) (get_or_past C.owned i [] past) in omega arith)
]

-- no accepted cover has a longer text
pub text_short : (N : Nest) (C : Owners) → IsNested N → AreAllNames (atom_names N) → IsAcceptedCover N C → length (cover_text (atom_names N) C) ≤ MAX_BYTES
unfolding cover_text cover_value
text_short N C nested are ok =
    let many = length-range_with_len 0 (length C.names) in
    let few = ok.is_cover.most_sites in
    let sites = list_short 68694 64 (site_value_at (atom_names N) C) (range_with_len 0 (length C.names))
    (λ k i is. site_short (atom_names N) are (get_or C.names i []) (get_or C.owned i []) (quoted_any C.names ok.names i) (rooms_few N C nested ok i)) (omega arith) (omega arith) in omega arith
