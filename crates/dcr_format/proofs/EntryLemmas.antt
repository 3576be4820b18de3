-- An object of the members that are there: what is found in it by a key, how it is put together, and its text.
use Rattle.std.proofs.Common.{◌≡◌, ℕ, suc, ◌+◌, ◌*◌, ◌≤◌, ◌||◌, Bool, true, false, List, [], ◌∷◌, ◌++◌, length, Option, Some, None, option_map, option_and_then, Ordering, Less, Equal, Greater, IsUtf8, refl, sym, ap, ◌∙◌, arith}
use Rattle.std.specs.Prelude.{⊤, IfSome}
use Rattle.std.specs.Ordering.{nat_cmp, match_ordering}
use Rattle.std.specs.Cmp.Lexicographic.{slice_cmp}
use Rattle.std.proofs.lemmas.List.{append-nil, append_assoc}
use Rattle.json.specs.Tree as tree
use Rattle.serde_json.specs.Data.{Data, object, Members, no_members, member, put}
use Rattle.serde_json.specs.Find.{get_member}
use Rattle.serde_json.specs.Read.{of_members}
use Rattle.serde_json.specs.Written.{members_outline, members_have_float, compact_text, members_text}
use Rattle.dcr_format.proofs.PlainLemmas.{IsPlain}
use Rattle.dcr_format.proofs.Utf8Lemmas.{IsUtf8Value, AreUtf8Members}
use Rattle.dcr_format.proofs.LengthLemmas.{member_short}
use Rattle.dcr_format.specs.Objects.{Entry, members_of, with_entry}

-- ---- what is found by a key

-- the entry where it is there, and else what the later ones have
abbrev or_later : Option Data → Option Data → Option Data
or_later None later = later
or_later (Some d) later = Some d

abbrev pub entry_at : List ℕ → List Entry → Option Data
entry_at key [] = None
entry_at key ((name, o) ∷ entries) = match_ordering (slice_cmp nat_cmp key name) (entry_at key entries) (or_later o (entry_at key entries)) (entry_at key entries)

passed_by : (order : Ordering) (r : Option Data) → r ≡ match_ordering order r (or_later None r) r
passed_by Less r = refl
passed_by Equal r = refl
passed_by Greater r = refl

pub get_entry : (key : List ℕ) (entries : List Entry) → get_member key (members_of entries) ≡ entry_at key entries
get_entry key [] = refl
get_entry key ((name, None) ∷ entries) = get_entry key entries ∙ passed_by (slice_cmp nat_cmp key name) (entry_at key entries)
get_entry key ((name, Some d) ∷ entries) = ap (λ r. match_ordering (slice_cmp nat_cmp key name) r (Some d) r) (get_entry key entries)

-- nothing later has the key
pub alone : (o : Option Data) → or_later o None ≡ o
alone None = refl
alone (Some d) = refl

-- ---- put together by ascending keys

abbrev IsAbove : List ℕ → List Entry → Type 0
IsAbove key [] = ⊤
IsAbove key ((name, o) ∷ entries) = (slice_cmp nat_cmp key name ≡ Greater) × IsAbove key entries

-- each key is above those before it
abbrev pub AscendAfter : List Entry → List Entry → Type 0
AscendAfter before [] = ⊤
AscendAfter before ((key, o) ∷ entries) = IsAbove key before × AscendAfter (before ++ (key, o) ∷ []) entries

none_last : (key : List ℕ) (entries : List Entry) → members_of entries ≡ members_of (entries ++ (key, None) ∷ [])
none_last key [] = refl
none_last key ((name, None) ∷ entries) = none_last key entries
none_last key ((name, Some d) ∷ entries) = ap (member name d) (none_last key entries)

some_last : (key : List ℕ) (d : Data) (entries : List Entry) → IsAbove key entries → put key d (members_of entries) ≡ members_of (entries ++ (key, Some d) ∷ [])
some_last key d [] above = refl
some_last key d ((name, None) ∷ entries) above = some_last key d entries above.1
some_last key d ((name, Some e) ∷ entries) above =
    ap (λ order. match_ordering order (member key d (member name e (members_of entries))) (member name d (members_of entries)) (member name e (put key d (members_of entries)))) above.0
    ∙ ap (member name e) (some_last key d entries above.1)

pub entry_last : (key : List ℕ) (o : Option Data) (entries : List Entry) → IsAbove key entries → with_entry key o (members_of entries) ≡ members_of (entries ++ (key, o) ∷ [])
entry_last key None entries above = none_last key entries
entry_last key (Some d) entries above = some_last key d entries above

pub one_more : (key : List ℕ) (o : Option Data) (entries : List Entry) (before after : Members) → IsAbove key entries → after ≡ with_entry key o before → before ≡ members_of entries → after ≡ members_of (entries ++ (key, o) ∷ [])
one_more key o entries before after above put so_far = put ∙ ap (with_entry key o) so_far ∙ entry_last key o entries above

-- ---- what holds of each member that is there

abbrev pub EachEntry : (Data → Type 0) → List Entry → Type 0
EachEntry P [] = ⊤
EachEntry P ((key, o) ∷ entries) = IfSome o P × EachEntry P entries

pub of_mapped : {X : Type 0} (P : Data → Type 0) (f : X → Data) → ((x : X) → P (f x)) → (o : Option X) → IfSome (option_map f o) P
of_mapped P f h None = tt
of_mapped P f h (Some x) = h x

-- ---- it is read back

module _ (n : ℕ) where
  no_float : (entries : List Entry) → EachEntry (IsPlain n) entries → members_have_float (members_of entries) ≡ false
  no_float [] h = refl
  no_float ((key, None) ∷ entries) h = no_float entries h.1
  no_float ((key, Some d) ∷ entries) h = ap (λ b. b || members_have_float (members_of entries)) h.0.no_float ∙ no_float entries h.1

  numbers : (entries : List Entry) → EachEntry (IsPlain n) entries → tree.MembersHaveNumbers (members_outline (members_of entries))
  numbers [] h = tt
  numbers ((key, None) ∷ entries) h = numbers entries h.1
  numbers ((key, Some d) ∷ entries) h = (h.0.numbers, numbers entries h.1)

  shallow : (entries : List Entry) → EachEntry (IsPlain n) entries → tree.members_depth (members_outline (members_of entries)) ≤ n
  shallow [] h = omega arith
  shallow ((key, None) ∷ entries) h = shallow entries h.1
  shallow ((key, Some d) ∷ entries) h = let here = h.0.shallow in let later = shallow entries h.1 in omega arith

  reads : (before entries : List Entry) → AscendAfter before entries → EachEntry (IsPlain n) entries → of_members (members_outline (members_of entries)) (members_of before) ≡ Some (members_of (before ++ entries))
  reads before [] above h = ap (λ (es : List Entry). Some (members_of es)) (sym (append-nil before))
  reads before ((key, None) ∷ entries) above h =
      ap (of_members (members_outline (members_of entries))) (none_last key before)
      ∙ reads (before ++ (key, None) ∷ []) entries above.1 h.1
      ∙ ap (λ (es : List Entry). Some (members_of es)) (append_assoc before ((key, None) ∷ []) entries)
  reads before ((key, Some d) ∷ entries) above h =
      ap (option_and_then (λ e. of_members (members_outline (members_of entries)) (put key e (members_of before)))) h.0.reads
      ∙ ap (of_members (members_outline (members_of entries))) (some_last key d before above.0)
      ∙ reads (before ++ (key, Some d) ∷ []) entries above.1 h.1
      ∙ ap (λ (es : List Entry). Some (members_of es)) (append_assoc before ((key, Some d) ∷ []) entries)

  pub plain_entries : (entries : List Entry) → AscendAfter [] entries → EachEntry (IsPlain n) entries → IsPlain (suc n) (object (members_of entries))
  plain_entries entries above h = record {
    no_float = no_float entries h;
    numbers = numbers entries h;
    reads = ap (option_map object) (reads [] entries above h);
    shallow = let inside = shallow entries h in omega arith;
  }

-- ---- its bytes

abbrev pub KeysAreUtf8 : List Entry → Type 0
KeysAreUtf8 [] = ⊤
KeysAreUtf8 ((key, o) ∷ entries) = IsUtf8 key × KeysAreUtf8 entries

pub entries_utf8 : (entries : List Entry) → KeysAreUtf8 entries → EachEntry IsUtf8Value entries → AreUtf8Members (members_of entries)
entries_utf8 [] keys h = tt
entries_utf8 ((key, None) ∷ entries) keys h = entries_utf8 entries keys.1 h.1
entries_utf8 ((key, Some d) ∷ entries) keys h = (keys.0, h.0, entries_utf8 entries keys.1 h.1)

-- the bytes of a value, where it is there
abbrev pub bytes_of : Option Data → ℕ
bytes_of None = 0
bytes_of (Some d) = length (compact_text d)

-- each key as six bytes a byte at most, and each value
abbrev pub most_bytes : List Entry → ℕ
most_bytes [] = 0
most_bytes ((key, o) ∷ entries) = 4 + 6 * length key + bytes_of o + most_bytes entries

pub entries_short : (entries : List Entry) (later : Bool) → length (members_text later (members_of entries)) ≤ 1 + most_bytes entries
entries_short [] later = let none : length (members_text later no_members) ≡ 1 = refl in omega arith
entries_short ((key, None) ∷ entries) later = let more = entries_short entries later in omega arith
entries_short ((key, Some d) ∷ entries) later =
    let whole = member_short later key d (members_of entries) in
    let more = entries_short entries true in omega arith
