-- What is read of the values of sites, and that their texts are few.
use Rattle.std.proofs.Common.{Bor, option_map, ◌≡◌, ℕ, ◌<◌, ◌≤◌, codes, List, [], length, get_or, map, Option, Some, None, unwrap_or, refl, sym, ap, ◌∙◌, arith, ◌^◌}
use Rattle.std.specs.List.{All, slice_get}
use Rattle.std.specs.Option.{option_and_then}
use Rattle.std.proofs.lemmas.List.{get_or-map, length-map}
use Rattle.std.proofs.lemmas.Option.{slice_get-get_or}
use Rattle.std.proofs.lemmas.Simd.{map-map}
use Rattle.serde_json.specs.Data.{Data, null, boolean, number, string, array, object, Items, no_items, item}
use Rattle.serde_json.specs.Find.{get, as_str}
use Rattle.serde_json.specs.View.{items_view, view}
use Rattle.serde_json.specs.declared.value.Value.{Value}
use Rattle.dcr_format.specs.Size.{size, items_size}
use Rattle.dcr_format.proofs.SizeLemmas.{size-get, size-item, size-some}
use Rattle.dcr_format.specs.Members.{array_at, elements, listed}
use Rattle.dcr_format.proofs.ValueLemmas.{value_at}
use Rattle.dcr_cover_json.specs.Shape.{sites_in}
use Rattle.dcr_cover_json.specs.Sites.{owned_in, site_in}
use Rattle.dcr_cover_json.specs.Seen.{site_lent}

listed_few : (ds : Items) → length (listed ds) ≤ items_size ds
listed_few no_items = omega arith
listed_few (item d ds) = omega (arith, listed_few ds, size-some d)

elements_few : (d : Data) (ds : List Data) → elements d ≡ Some ds → length ds < size d
elements_few null ds e = absurd cc
elements_few (boolean b) ds e = absurd cc
elements_few (number n) ds e = absurd cc
elements_few (string s) ds e = absurd cc
elements_few (array items) ds e = let same : listed items ≡ ds = cc in omega (arith, listed_few items, ap (λ (xs : List Data). length xs) same)
elements_few (object ms) ds e = absurd cc

-- the text that a value is
abbrev text : Data → List ℕ
text t = unwrap_or (as_str t) []

-- a site has fewer texts than it is large
pub owned_few : (d : Data) → length (owned_in d) ≤ size d
owned_few d = at (get (codes "events") d) refl
  where
    of : (part : Data) → get (codes "events") d ≡ Some part → (r : Option (List Data)) → elements part ≡ r → length (map text (unwrap_or r [])) ≤ size d
    of part e None is = omega arith
    of part e (Some ds) is = omega (arith, elements_few part ds is, size-get (codes "events") d part e, length-map ds text)

    at : (o : Option Data) → get (codes "events") d ≡ o → length (map text (unwrap_or (option_and_then elements o) [])) ≤ size d
    at None e = omega arith
    at (Some part) e = of part e (elements part) refl

pub texts_few : (vs : List Value) → items_size (items_view vs) < 2 ^ 32 → All (λ v. length (site_lent v).1 < 2 ^ 32) vs
texts_few vs few k v l = omega (arith, owned_few (view (get_or vs k v)), size-item vs k v l)

-- the text at a place of a site that is lent
pub text_lent : (d : Data) (vs : List Value) (j : ℕ) (v : Value) (t : List ℕ) → map view vs ≡ unwrap_or (array_at (codes "events") d) [] → v ≡ get_or vs j v → j < length (owned_in d) → t ≡ text (view v)
    → slice_get (owned_in d) j ≡ Some t
text_lent d vs j v t same is within here =
    let many : length (owned_in d) ≡ length vs = length-map (unwrap_or (array_at (codes "events") d) []) text ∙ ap (λ (ds : List Data). length ds) (sym same) ∙ length-map vs view in
    let at : get_or (owned_in d) j [] ≡ text (view v) =
    ap (λ ds. get_or (map text ds) j []) (sym same) ∙ get_or-map text (map view vs) j null [] (omega (arith, length-map vs view)) ∙ ap text (value_at vs j v (omega arith) is) in
    slice_get-get_or (owned_in d) j [] within ∙ ap Some (at ∙ sym here)

-- the sites that are lent are those that are written
pub sites_lent : (o : Option (Bor Value)) (v : Bor Value) (vs : List Value) → o ≡ Some v → Some (map view vs) ≡ elements (view v.now) → map site_lent vs ≡ sites_in (option_map (λ (w : Bor Value). view w.now) o)
sites_lent o v vs is e =
    sym (map-map site_in view vs) ∙ ap (λ (ds : Option (List Data)). map site_in (unwrap_or ds [])) e ∙ ap (λ (p : Option (Bor Value)). sites_in (option_map (λ (w : Bor Value). view w.now) p)) (sym is)
