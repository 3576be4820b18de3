-- The elements of a value, as they are lent.
use Rattle.std.proofs.Common.{◌≡◌, ◌<◌, Bor, List, ℕ, [], ◌∷◌, map, Option, Some, None, option_map, refl, sym, ap}
use Rattle.std.specs.Prelude.{IfSome}
use Rattle.serde_json.specs.Data.{Data}
use Rattle.serde_json.specs.Find.{get, as_array}
use Rattle.serde_json.specs.View.{items_of, items_view, view}
use Rattle.serde_json.specs.declared.value.Value.{Value}
use Rattle.dcr_format.specs.Size.{size, items_size}
use Rattle.dcr_format.proofs.SizeLemmas.{size-get, size-elements}
use Rattle.dcr_format.specs.Members.{listed, elements}

-- a member that was lent is smaller than its object
pub member_small : (r : Option (Bor Value)) (name : List ℕ) (d : Data) → option_map (λ v. view v.now) r ≡ get name d → IfSome r (λ v. size (view v.now) < size d)
member_small None name d e = tt
member_small (Some v) name d e = size-get name d (view v.now) (sym e)

pub listed-items_of : (ds : List Data) → listed (items_of ds) ≡ ds
listed-items_of [] = refl
listed-items_of (d ∷ ds) = ap (λ xs. d ∷ xs) (listed-items_of ds)

-- the elements of an array, as the slice of its values has them
pub elements_seen : (d : Data) (vs : List Value) → Some (items_view vs) ≡ as_array d → Some (map view vs) ≡ elements d
elements_seen d vs e = rw (← e) (ap Some (sym (listed-items_of (map view vs))))

pub elements_small : (d : Data) (vs : List Value) → Some (items_view vs) ≡ as_array d → items_size (items_view vs) < size d
elements_small d vs e = (size-elements d vs (sym e)).total
