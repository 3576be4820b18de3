-- A front that covers a list says of its holder what the list says.
use Rattle.std.proofs.Common.{◌≡◌, Bool, false, List, [], ◌∷◌, ◌++◌, map, sym, refl, ap, ◌∙◌, subst}
use Rattle.std.specs.List.{All, filter}
use Rattle.std.proofs.lemmas.List.{append-nil}
use Rattle.std.proofs.lemmas.List.Elements.{All-head, All-tail, filter-append}
use Rattle.dcr_graph.specs.Projection.{project}
use Rattle.dcr_journal.specs.Run.{IsInRange, after, touches}
use Rattle.dcr_journal.specs.declared.call.Entry.{Entry}
use Rattle.dcr_laws.proofs.TouchesLemmas.{untouched_by_the_set}
use Rattle.dcr_proj.specs.Local.{projection_of}
use Rattle.dcr_set.specs.EventSet.{has}
use Rattle.dcr_turn.specs.Covers.{is_heard, is_by}
use Rattle.dcr_turn.specs.Laws.{CoveredMarksStay, CoveredCallsStay, CoveredCountStays}
use Rattle.dcr_turn.proofs.Covering.{All-right, covers_count}

pub covered_marks_stay : CoveredMarksStay
covered_marks_stay G S M sites front J c range =
    let alphabet = (projection_of G S).alphabet in
    let count = covers_count (is_heard alphabet) front J c in
    let whole : All (λ (entry : Entry). IsInRange sites G.atoms entry.call) (front ++ c.rest) = subst (All (λ (entry : Entry). IsInRange sites G.atoms entry.call)) (sym c.whole) range in
    let touched : touches (has alphabet) front ≡ touches (has alphabet) (front ++ c.rest) = count ∙ ap (touches (has alphabet)) (sym c.whole) in
    untouched_by_the_set G S M sites front c.rest (All-right (λ (entry : Entry). IsInRange sites G.atoms entry.call) front c.rest whole) touched
    ∙ ap (λ (l : List Entry). project G S (after G M l)) c.whole

none_left : (concerns : Entry → Bool) (rest : List Entry) → All (λ e. concerns e ≡ false) rest → filter concerns rest ≡ []
none_left concerns [] spared = refl
none_left concerns (e ∷ rest) spared =
    let h = All-head (λ x. concerns x ≡ false) e rest spared in
    rw h (none_left concerns rest (All-tail (λ x. concerns x ≡ false) e rest spared))

pub covered_calls_stay : CoveredCallsStay
covered_calls_stay session front J c =
    let kept : filter (is_by session) J ≡ filter (is_by session) front =
    ap (filter (is_by session)) (sym c.whole) ∙ filter-append (is_by session) front c.rest
    ∙ ap (λ (l : List Entry). filter (is_by session) front ++ l) (none_left (is_by session) c.rest c.spared) ∙ append-nil (filter (is_by session) front) in
    ap (map (λ (entry : Entry). entry.call)) (sym kept)

pub covered_count_stays : CoveredCountStays
covered_count_stays session front J c = covers_count (is_by session) front J c
