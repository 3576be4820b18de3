-- One session more of a worker.
use Rattle.std.proofs.Common.{inl, inr, ◌≡◌, ℕ, ◌+◌, ◌<◌, Bool, true, false, List, [], ◌∷◌, ◌++◌, length, map, refl, sym, ap, subst, ◌∙◌, append_assoc, arith}
use Rattle.std.specs.Prelude.{◌⊎◌, Option, slice_get, slice_index_or}
use Rattle.std.specs.List.{All, AllPairs}
use Rattle.std.proofs.lemmas.Option.{slice_get_within, slice_get_read, get_or_from_slice_get}
use Rattle.std.proofs.lemmas.List.Elements.{All-head, All-tail, All-cons, All-push, All-weaker}
use Rattle.std.proofs.lemmas.List.{map-append}
use Rattle.std.proofs.lemmas.List.Quantifiers.{all_pairs_push}
use Rattle.dcr_journal.specs.declared.call.Call.{Call}
use Rattle.dcr_journal.specs.declared.call.Entry.{Entry}
use Rattle.dcr_tape.specs.declared.tape.Store.{Store}
use Rattle.dcr_turn.specs.Covers.{is_by}
use Rattle.dcr_turn.specs.PassValue.{PassValue, HasMadeAll}
use Rattle.dcr_cell.specs.ClusterId.{ClusterId, IsRunOf}
use Rattle.dcr_work.specs.Dealing.{IsNew}
use Rattle.dcr_work.specs.Working.{BeganWith, HasWorked, HasWorkedOf, HaveWorked}

abbrev session_of : PassValue → ℕ
session_of pass = pass.session

pub legal_nothing : (c : ClusterId) → IsRunOf c []
legal_nothing c place entry here = let none = slice_get_within [] place entry here in absurd (omega arith)

all_before : {X : Type 0} (P : X → Type 0) (J K : List X) → All P (J ++ K) → All P J
all_before P [] K all = λ k d within. absurd (omega arith)
all_before P (entry ∷ J) K all = All-cons P entry J (All-head P entry (J ++ K) all) (all_before P J K (All-tail P entry (J ++ K) all))

last_of : (P : PassValue → Type 0) (rest : List PassValue) (pass : PassValue) → All P (rest ++ pass ∷ []) → P pass
last_of P [] pass all = All-head P pass [] all
last_of P (x ∷ rest) pass all = last_of P rest pass (All-tail P x (rest ++ pass ∷ []) all)

pub first_new : (n : ℕ) (passes rest : List PassValue) (pass : PassValue) → passes ≡ rest ++ pass ∷ [] → All (IsNew n) passes → IsNew n pass
first_new n passes rest pass is all = last_of (IsNew n) rest pass (subst (All (IsNew n)) is all)

pub rest_new : (n : ℕ) (passes rest : List PassValue) (pass : PassValue) → passes ≡ rest ++ pass ∷ [] → All (IsNew n) passes → All (IsNew n) rest
rest_new n passes rest pass is all = all_before (IsNew n) rest (pass ∷ []) (subst (All (IsNew n)) is all)

nothing_whole : (J rest : List Entry) → J ++ rest ≡ [] → J ≡ []
nothing_whole [] rest is = refl
nothing_whole (entry ∷ J) rest is = absurd (let e : length (entry ∷ (J ++ rest)) ≡ 0 = ap (λ (K : List Entry). length K) is in omega arith)

-- a pass that had seen nothing has then seen what the other has
pub learnt : (next last to : PassValue) → next.front ≡ [] → (to.front ≡ next.front) ⊎ (to.front ≡ last.front) → HasMadeAll last to.front → to.front ≡ last.front
learnt next last to none (inr is) all = is
learnt next last to none (inl is) all = is ∙ none ∙ sym (nothing_whole last.front all.seen.rest (all.seen.whole ∙ is ∙ none))

pub legal_learnt : (c : ClusterId) (last to : PassValue) → to.front ≡ last.front → IsRunOf c last.front → IsRunOf c to.front
legal_learnt c last to is legal = subst (IsRunOf c) (sym is) legal

began_then : (J : List Entry) (pass later : PassValue) → BeganWith J pass → BeganWith pass.front later → BeganWith J later
began_then J pass later began then = record {
  rest = began.rest ++ then.rest;
  whole = sym (append_assoc J began.rest then.rest) ∙ ap (λ (K : List Entry). K ++ then.rest) began.whole ∙ then.whole;
  none_before = all_before (λ entry. is_by later.session entry ≡ false) J began.rest
      (subst (All (λ entry. is_by later.session entry ≡ false)) (sym began.whole) then.none_before);
}

pub all_after : (J : List Entry) (to pass last : PassValue) (left : List PassValue) → to.front ≡ J → BeganWith to.front pass → last ≡ pass → All (BeganWith pass.front) left → All (BeganWith J) (left ++ last ∷ [])
all_after J to pass last left same began is after =
    let here : BeganWith J pass = subst (λ (K : List Entry). BeganWith K pass) same began in
    All-push (BeganWith J) left last (All-weaker (BeganWith pass.front) (BeganWith J) (λ later then. began_then J pass later here then) left after) (subst (BeganWith J) (sym is) here)

pub worked_of : {D : Type 0} (c : ClusterId) (first : Option (Store D)) (capacity : ℕ) (sessions : List (List Call)) (calls : List Call) (session : ℕ) (pass : PassValue)
    → session < length sessions → calls ≡ slice_index_or sessions session calls → pass.session ≡ session → HasWorked c first capacity calls pass → HasWorkedOf c first capacity sessions pass
worked_of c first capacity sessions calls session pass within is same worked =
    subst (λ (l : List Call). HasWorked c first capacity l pass)
    (sym (ap (λ (s : ℕ). slice_index_or sessions s []) same ∙ get_or_from_slice_get sessions session calls [] (slice_get_read sessions (length sessions) session calls refl within is)))
    worked

pub one_more : {D : Type 0} (c : ClusterId) (first : Option (Store D)) (capacity : ℕ) (sessions : List (List Call)) (before rest : List PassValue) (next pass last : PassValue) (left : List PassValue)
    → before ≡ rest ++ next ∷ [] → pass.session ≡ next.session → HasWorkedOf c first capacity sessions pass → last ≡ pass → All (BeganWith pass.front) left
    → HaveWorked c first capacity sessions rest left → HaveWorked c first capacity sessions before (left ++ last ∷ [])
one_more c first capacity sessions before rest next pass last left is same worked kept after work = record {
  same_sessions =
      map-append session_of left (last ∷ [])
      ∙ ap (λ (s : ℕ). map session_of left ++ s ∷ []) (ap session_of kept ∙ same)
      ∙ ap (λ (l : List ℕ). l ++ next.session ∷ []) work.same_sessions
      ∙ sym (map-append session_of rest (next ∷ []))
      ∙ ap (map session_of) (sym is);
  each = All-push (HasWorkedOf c first capacity sessions) left last work.each (subst (HasWorkedOf c first capacity sessions) (sym kept) worked);
  in_turn = all_pairs_push (λ (later earlier : PassValue). BeganWith earlier.front later) left last work.in_turn (subst (λ (p : PassValue). All (BeganWith p.front) left) (sym kept) after);
}

pub none_worked : {D : Type 0} (c : ClusterId) (first : Option (Store D)) (capacity : ℕ) (sessions : List (List Call)) (before : List PassValue) → length before ≡ 0
    → HaveWorked c first capacity sessions before before
none_worked c first capacity sessions before none = record {
  same_sessions = refl;
  each = λ k d within. absurd (omega arith);
  in_turn = λ i j d less within. absurd (omega arith);
}
