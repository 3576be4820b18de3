-- What covers what: a list itself, a longer one, and which of two beginnings of one list is the longer.
use Rattle.std.proofs.Common.{◌≡◌, ◌≤◌, Bool, true, false, List, [], ◌∷◌, ◌++◌, length, sym, refl, ap, ◌∙◌, subst, arith, cond}
use Rattle.std.specs.List.{All, count_by}
use Rattle.std.proofs.lemmas.Bool.{false≢true}
use Rattle.std.proofs.lemmas.List.{append-nil, append_assoc}
use Rattle.std.proofs.lemmas.List.Sums.{sum_by-append}
use Rattle.std.proofs.lemmas.List.Elements.{All-nil, All-cons, All-push, All-head, All-tail}
use Rattle.dcr_journal.specs.declared.call.Entry.{Entry}
use Rattle.dcr_turn.specs.Covers.{Covers}

-- of two beginnings of one list, what the longer has more
pub record Longer (front other rest rest_of_other : List Entry) : Type 0 where
  pub more : List Entry
  pub whole : front ++ more ≡ other
  pub left : more ++ rest_of_other ≡ rest

pub longer_of : (front other rest rest_of_other : List Entry) → front ++ rest ≡ other ++ rest_of_other → length front ≤ length other → Longer front other rest rest_of_other
longer_of [] other rest rest_of_other is le = record { more = other; whole = refl; left = sym is }
longer_of (e ∷ front) [] rest rest_of_other is le = absurd (omega arith)
longer_of (e ∷ front) (f ∷ other) rest rest_of_other is le =
    let head : e ≡ f = cc in
    let tail : front ++ rest ≡ other ++ rest_of_other = cc in
    let l = longer_of front other rest rest_of_other tail (omega arith) in
    record { more = l.more; whole = ap (λ (x : List Entry). e ∷ x) l.whole ∙ ap (λ (x : Entry). x ∷ other) head; left = l.left }

All-left : (P : Entry → Type 0) (xs ys : List Entry) → All P (xs ++ ys) → All P xs
All-left P [] ys all = All-nil P
All-left P (x ∷ xs) ys all = All-cons P x xs (All-head P x (xs ++ ys) all) (All-left P xs ys (All-tail P x (xs ++ ys) all))

pub All-right : (P : Entry → Type 0) (xs ys : List Entry) → All P (xs ++ ys) → All P ys
All-right P [] ys all = all
All-right P (x ∷ xs) ys all = All-right P xs ys (All-tail P x (xs ++ ys) all)

module _ (concerns : Entry → Bool) where
  pub covers_itself : (J : List Entry) → Covers concerns J J
  covers_itself J = record { rest = []; whole = append-nil J; spared = All-nil _ }

  -- an entry that doesn't concern the holder may come
  pub covers_one_more : (front J : List Entry) (entry : Entry) → Covers concerns front J → concerns entry ≡ false → Covers concerns front (J ++ entry ∷ [])
  covers_one_more front J entry c spared = record {
    rest = c.rest ++ entry ∷ [];
    whole = sym (append_assoc front c.rest (entry ∷ [])) ∙ ap (λ (x : List Entry). x ++ entry ∷ []) c.whole;
    spared = All-push (λ e. concerns e ≡ false) c.rest entry c.spared spared;
  }

  nothing_spared : ((entry : Entry) → concerns entry ≡ true) → (rest : List Entry) → All (λ e. concerns e ≡ false) rest → rest ≡ []
  nothing_spared all [] spared = refl
  nothing_spared all (e ∷ rest) spared = absurd (false≢true (sym (All-head (λ x. concerns x ≡ false) e rest spared) ∙ all e))

  -- what every entry concerns has seen all
  pub covers_all : ((entry : Entry) → concerns entry ≡ true) → (front J : List Entry) → Covers concerns front J → front ≡ J
  covers_all all front J c = sym (append-nil front) ∙ ap (λ (x : List Entry). front ++ x) (sym (nothing_spared all c.rest c.spared)) ∙ c.whole

  -- the longer of two beginnings, of which the shorter covers the list, is covered by it and covers the list
  module _ (front other J : List Entry) (c : Covers concerns front J) (rest : List Entry) (whole : other ++ rest ≡ J) (le : length front ≤ length other) where
    more_of : Longer front other c.rest rest
    more_of = longer_of front other c.rest rest (c.whole ∙ sym whole) le

    parted : All (λ e. concerns e ≡ false) (more_of.more ++ rest)
    parted = subst (All (λ e. concerns e ≡ false)) (sym more_of.left) c.spared

    pub covers_longer : Covers concerns front other
    covers_longer = record { rest = more_of.more; whole = more_of.whole; spared = All-left (λ e. concerns e ≡ false) more_of.more rest parted }

    pub longer_covers : Covers concerns other J
    longer_covers = record { rest = rest; whole = whole; spared = All-right (λ e. concerns e ≡ false) more_of.more rest parted }

  none_counted : (rest : List Entry) → All (λ e. concerns e ≡ false) rest → count_by concerns rest ≡ 0
  none_counted [] spared = refl
  none_counted (e ∷ rest) spared =
      let h = All-head (λ x. concerns x ≡ false) e rest spared in
      let t = none_counted rest (All-tail (λ x. concerns x ≡ false) e rest spared) in
      rw h t

  -- as many entries concern the holder in the front as in the list
  pub covers_count : (front J : List Entry) → Covers concerns front J → count_by concerns front ≡ count_by concerns J
  covers_count front J c =
      let n = none_counted c.rest c.spared in
      let s = sum_by-append (λ e. cond (concerns e) 1 0) front c.rest in
      let w = ap (count_by concerns) c.whole in omega arith
