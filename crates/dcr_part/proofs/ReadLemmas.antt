-- What is read at the places of lists of JSON values.
use Rattle.std.proofs.Common.{◌≡◌, ℕ, ◌<◌, List, length, get_or, map, Some, None, sym, ap, ◌∙◌, arith}
use Rattle.std.proofs.lemmas.List.{get_or-map, length-map}
use Rattle.std.proofs.lemmas.Option.{none-some, same_Some}
use Rattle.serde_json.specs.Data.{Data, array}
use Rattle.serde_json.specs.View.{items_of, view}
use Rattle.serde_json.specs.declared.value.Value.{Value}
use Rattle.dcr_format.specs.Members.{elements}
use Rattle.dcr_format.proofs.MemberLemmas.{listed-items_of}

-- the elements of an array of these
pub elements_are : (ds : List Data) (d : Data) (found : List Data) → Some found ≡ elements d → d ≡ array (items_of ds) → found ≡ ds
elements_are ds d found is array_is = same_Some _ _ (is ∙ ap elements array_is ∙ ap Some (listed-items_of ds))

pub no_elements : (ds : List Data) (d : Data) → None ≡ elements d → d ≡ array (items_of ds) → ⊥
no_elements ds d none array_is = none-some ds (none ∙ ap elements array_is ∙ ap Some (listed-items_of ds))

-- what stands at a place of values that are those of numbers
pub value_at : (f : ℕ → Data) (values : List Value) (ns : List ℕ) (i : ℕ) (v : Value) (d : ℕ) → map view values ≡ map f ns → i < length values → v ≡ get_or values i v
    → (i < length ns) × (view v ≡ f (get_or ns i d))
value_at f values ns i v d same within is =
    let many : length values ≡ length ns = sym (length-map values view) ∙ ap (λ ds. length ds) same ∙ length-map ns f in
    let inside : i < length ns = omega arith in
    (inside, ap view is ∙ sym (get_or-map view values i v (view v) within) ∙ ap (λ ds. get_or ds i (view v)) same ∙ get_or-map f ns i d (view v) inside)

pub as_many : (f : ℕ → Data) (values : List Value) (ns : List ℕ) → map view values ≡ map f ns → length values ≡ length ns
as_many f values ns same = sym (length-map values view) ∙ ap (λ ds. length ds) same ∙ length-map ns f
