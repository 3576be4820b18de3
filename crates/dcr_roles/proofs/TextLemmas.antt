-- Arrays of names, read item by item.
use Rattle.std.proofs.Common.{◌≡◌, ℕ, ◌<◌, true, false, Bool, List, [], ◌∷◌, length, get_or, map, Option, Some, None, unwrap_or, refl, sym, ap, ◌∙◌}
use Rattle.std.specs.List.{list_all}
use Rattle.std.specs.Option.{option_map_or}
use Rattle.std.proofs.lemmas.Bool.{and_parts, false≢true}
use Rattle.std.proofs.lemmas.List.Folds.{list_all-map, list_all_at}
use Rattle.std.proofs.lemmas.Simd.{map-map}
use Rattle.serde_json.specs.Data.{Data}
use Rattle.serde_json.specs.Find.{as_str}
use Rattle.serde_json.specs.View.{view}
use Rattle.serde_json.specs.declared.value.Value.{Value}
use Rattle.dcr_graph.specs.Names.{is_name}
use Rattle.dcr_roles.specs.Elements.{◌>>=◌, each}
use Rattle.dcr_format.specs.Members.{elements}
use Rattle.dcr_roles.specs.Elements.{texts_in}
use Rattle.dcr_roles.specs.Written.{are_names, is_name_text, text_of, texts_of}

abbrev pub is_name_value : Value → Bool
is_name_value v = is_name_text (view v)

abbrev pub text_value : Value → List ℕ
text_value v = text_of (view v)

-- names are texts
each_texts : (ds : List Data) → list_all is_name_text ds ≡ true → each as_str ds ≡ Some (map text_of ds)
each_texts [] all = refl
each_texts (d ∷ ds) all = (let parts = and_parts (is_name_text d) (list_all is_name_text ds) all in at (as_str d) refl parts.0 (each_texts ds parts.1))
  where
    at : (o : Option (List ℕ)) → as_str d ≡ o → is_name_text d ≡ true → each as_str ds ≡ Some (map text_of ds) → each as_str (d ∷ ds) ≡ Some (map text_of (d ∷ ds))
    at None is named later = absurd (false≢true (sym (ap (λ o. option_map_or is_name o false) is) ∙ named))
    at (Some text) is named later = rw (is, later) refl

module _ (d : Data) (items : List Value) (are : elements d ≡ Some (map view items)) where
  -- an item is no name
  pub no_names : (i : ℕ) (item : Value) → i < length items → item ≡ get_or items i item → is_name_value item ≡ false → are_names d ≡ false
  no_names i item within read fails =
      ap (λ o. option_map_or (list_all is_name_text) o false) are
      ∙ list_all-map is_name_text view items
      ∙ list_all_at is_name_value items i item within (ap is_name_value (sym read) ∙ fails)

  -- each is
  pub all_names : list_all is_name_value items ≡ true → are_names d ≡ true
  all_names all = ap (λ o. option_map_or (list_all is_name_text) o false) are ∙ list_all-map is_name_text view items ∙ all

  pub texts_read : list_all is_name_value items ≡ true → texts_of d ≡ map text_value items
  unfolding texts_in
  texts_read all =
      ap (λ o. unwrap_or (o >>= each as_str) []) are
      ∙ ap (λ o. unwrap_or o []) (each_texts (map view items) (list_all-map is_name_text view items ∙ all))
      ∙ map-map text_of view items
