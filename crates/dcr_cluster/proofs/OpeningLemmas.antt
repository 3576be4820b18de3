-- Sites that stand together, the executions that they go on from, and the marking that is put together from them.
use Rattle.std.proofs.Common.{◌≡◌, ℕ, ◌+◌, ◌<◌, ◌≤◌, Bool, true, false, ◌&&◌, ◌||◌, List, [], ◌∷◌, length, get_or, take, map, Some, refl, sym, ap, subst, ◌∙◌, arith}
use Rattle.std.specs.Prelude.{slice_get, fold}
use Rattle.std.specs.List.{All}
use Rattle.std.proofs.lemmas.List.{ext_get_or, get_or-map, length-map, take_all, take_more}
use Rattle.std.proofs.lemmas.List.Folds.{list_any_more}
use Rattle.std.proofs.lemmas.List.Sums.{fold-append}
use Rattle.std.proofs.lemmas.Option.{slice_get_within, get_or_from_slice_get, slice_get-get_or}
use mathlib.Core.Logic.{dite}
use native.Mathlib.Decide.{dec_lt}
use Rattle.dcr_set.specs.EventSet.{Set, has, those, no_event, union, intersection}
use Rattle.dcr_set.proofs.SetLemmas.{has-those, length-those, same_set}
use Rattle.dcr_graph.specs.Projection.{FitsAtoms, HasRoom, tracks_executed, tracks_pending, tracks_included, is_condition_source, is_milestone_source}
use Rattle.dcr_graph.specs.Rows.{row}
use Rattle.dcr_graph.specs.Rules.{Rules}
use Rattle.dcr_graph.specs.Step.{step}
use Rattle.dcr_graph.specs.declared.marking.Marking.{Marking}
use Rattle.dcr_graph.specs.declared.marking.SiteMark.{SiteMark}
use Rattle.dcr_proj.specs.CoverValue.{is_owned, IsCovered}
use Rattle.dcr_proj.specs.Local.{projection_of}
use Rattle.dcr_run.specs.SitesModel.{alphabets_in}
use Rattle.dcr_site.specs.Seen.{Seen, StandsAt}
use Rattle.dcr_site.specs.Together.{AllStand, AreOver}
use Rattle.dcr_tape.specs.declared.entry.TapeEntry.{TapeEntry}
use Rattle.dcr_turn.specs.TurnId.{TurnId}
use Rattle.dcr_cell.specs.ClusterId.{ClusterId, IsNamed, begun, marking_by}
use Rattle.dcr_cluster.specs.Opening.{ArePossible, IsPossible}

-- ---- sites that stand together

pub over_of_stand : (G : Rules) (C : List Set) (M : Marking) (sites : List Seen) → All (λ set. length set ≡ G.atoms) C → AllStand G C M sites → AreOver G.atoms sites
over_of_stand G C M sites rooms stand i site is =
    let at = stand.each i site is in
    let within : i < length C = (let below = slice_get_within sites i site is in let many = stand.as_many in omega arith) in
    let room : length (row C i) ≡ G.atoms = rooms i [] within in
    record { own = ap (λ P. length P.own) at.projection ∙ room; alphabet = ap (λ P. length P.alphabet) at.projection ∙ length-those G.atoms _ }

site_there : (l : List Seen) (i : ℕ) → i < length l → (site : Seen) × (slice_get l i ≡ Some site)
site_there [] i below = absurd (omega arith)
site_there (first ∷ rest) i below = (get_or (first ∷ rest) i first, slice_get-get_or (first ∷ rest) i first below)

pub alphabets_of_stand : (G : Rules) (C : List Set) (M : Marking) (sites : List Seen) → AllStand G C M sites
    → alphabets_in sites ≡ map (λ S. (projection_of G S).alphabet) C
alphabets_of_stand G C M sites stand =
    ext_get_or [] (alphabets_in sites) (map (λ S. (projection_of G S).alphabet) C)
    (length-map sites (λ (site : Seen). site.projection.alphabet) ∙ stand.as_many ∙ sym (length-map C (λ S. (projection_of G S).alphabet)))
    (λ i l.
    let below : i < length sites = (let len = length-map sites (λ (site : Seen). site.projection.alphabet) in omega arith) in
    let within : i < length C = (let len = stand.as_many in omega arith) in
    let there = site_there sites i below in
    get_or-map (λ (site : Seen). site.projection.alphabet) sites i there.0 [] below
    ∙ ap (λ (s : Seen). s.projection.alphabet) (get_or_from_slice_get sites i there.0 there.0 there.1)
    ∙ ap (λ P. P.alphabet) (stand.each i there.0 there.1).projection
    ∙ sym (get_or-map (λ S. (projection_of G S).alphabet) C i [] [] within))

-- ---- the executions from before

step_room : (G : Rules) (M : Marking) (e : ℕ) → HasRoom G.atoms (step G M e)
step_room G M e = record { executed = length-those G.atoms _; pending = length-those G.atoms _; included = length-those G.atoms _ }

steps_room : (G : Rules) (M : Marking) (old : List TapeEntry) → HasRoom G.atoms M → HasRoom G.atoms (fold (λ N (x : TapeEntry). step G N x.event) M old)
steps_room G M [] room = room
steps_room G M (x ∷ old) room = steps_room G (step G M x.event) old (step_room G M x.event)

pub begun_room : (c : ClusterId) (turn : TurnId) → IsNamed c turn → HasRoom c.rules.atoms (begun c)
begun_room c turn named = steps_room c.rules c.opening c.old named.opening

-- one more is done
pub marking_more : (c : ClusterId) (k : ℕ) (x : TapeEntry) → slice_get c.old k ≡ Some x → marking_by c (take (k + 1) c.old) ≡ step c.rules (marking_by c (take k c.old)) x.event
marking_more c k x is =
    let within = slice_get_within c.old k x is in
    let here : get_or c.old k x ≡ x = get_or_from_slice_get c.old k x x is in
    ap (marking_by c) (take_more c.old k x within)
    ∙ fold-append (λ M (y : TapeEntry). step c.rules M y.event) c.opening (take k c.old) (get_or c.old k x ∷ [])
    ∙ ap (λ (y : TapeEntry). step c.rules (marking_by c (take k c.old)) y.event) here

pub possible_none : (c : ClusterId) → ArePossible c 0
possible_none c place x below is = absurd (omega arith)

pub possible_more : (c : ClusterId) (k : ℕ) (x : TapeEntry) → ArePossible c k → slice_get c.old k ≡ Some x → IsPossible c (marking_by c (take k c.old)) x → ArePossible c (k + 1)
possible_more c k x before is here place y below at =
    dite (dec_lt place k)
    (λ earlier. before place y earlier at)
    (λ not_earlier.
    let same : place ≡ k = omega arith in
    let one : Some x ≡ Some y = sym is ∙ ap (slice_get c.old) (sym same) ∙ at in
    let both : x ≡ y = cc in
    subst (λ (z : TapeEntry). IsPossible c (marking_by c (take place c.old)) z) both (subst (λ (p : ℕ). IsPossible c (marking_by c (take p c.old)) x) (sym same) here))

pub possible_all : (c : ClusterId) (k : ℕ) → length c.old ≤ k → ArePossible c k → ArePossible c (length c.old)
possible_all c k all before place x below is = before place x (omega arith) is

pub marking_all : (c : ClusterId) (k : ℕ) → length c.old ≤ k → marking_by c (take k c.old) ≡ begun c
marking_all c k all = ap (marking_by c) (take_all k c.old all)

-- ---- the marking, put together

-- what a site adds: its own part of a mark
one_site : (o m s x : Bool) → ((o && m) || ((m && (s || x)) && s)) ≡ ((o || s) && m)
one_site true true true x = refl
one_site true true false x = refl
one_site true false true x = refl
one_site true false false x = refl
one_site false true true x = refl
one_site false true false true = refl
one_site false true false false = refl
one_site false false true x = refl
one_site false false false x = refl

-- a mark of the marking is had so far where the sites so far own its event
abbrev pub Has : ℕ → List Set → ℕ → Set → Set → Type 0
Has atoms C i mark so_far = (a : ℕ) → a < atoms → has so_far a ≡ (is_owned (take i C) a && has mark a)

pub has_none : (atoms : ℕ) (C : List Set) (mark empty : Set) → empty ≡ no_event atoms → Has atoms C 0 mark empty
has_none atoms C mark empty is a below = ap (λ (s : Set). has s a) is ∙ has-those atoms (λ _. false) a below

pub has_more : (atoms : ℕ) (C : List Set) (i : ℕ) (mark so_far own seen : Set) (tracks : ℕ → Bool) (x : ℕ → Bool) → i < length C → ((a : ℕ) → tracks a ≡ (has own a || x a))
    → own ≡ row C i → length so_far ≡ atoms → length seen ≡ atoms → seen ≡ those atoms (λ a. has mark a && tracks a) → Has atoms C i mark so_far
    → Has atoms C (i + 1) mark (union so_far (intersection seen own))
has_more atoms C i mark so_far own seen tracks x within tracked owns room seen_room is before a below =
    has-those (length so_far) (λ k. has so_far k || has (intersection seen own) k) a (omega (arith, room, below))
    ∙ ap (λ b. b || has (intersection seen own) a) (before a below)
    ∙ ap (λ b. (is_owned (take i C) a && has mark a) || b) (has-those (length seen) (λ k. has seen k && has own k) a (omega (arith, seen_room, below)))
    ∙ ap (λ (s : Set). (is_owned (take i C) a && has mark a) || (has s a && has own a)) is
    ∙ ap (λ b. (is_owned (take i C) a && has mark a) || (b && has own a)) (has-those atoms (λ k. has mark k && tracks k) a below)
    ∙ ap (λ b. (is_owned (take i C) a && has mark a) || ((has mark a && b) && has own a)) (tracked a)
    ∙ one_site (is_owned (take i C) a) (has mark a) (has own a) (x a)
    ∙ ap (λ b. b && has mark a) (ap (λ (s : Set). is_owned (take i C) a || has s a) owns ∙ sym (list_any_more (λ set. has set a) C i [] within))

pub has_all : (atoms : ℕ) (C : List Set) (i : ℕ) (mark so_far : Set) → length C ≤ i → IsCovered atoms C → length mark ≡ atoms → length so_far ≡ atoms → Has atoms C i mark so_far → so_far ≡ mark
has_all atoms C i mark so_far all covered room room_so_far had =
    same_set so_far mark (room_so_far ∙ sym room) (λ a below.
    let within : a < atoms = omega (arith, room_so_far, below) in
    had a within ∙ ap (λ (l : List Set). is_owned l a && has mark a) (take_all i C all) ∙ ap (λ b. b && has mark a) (covered a within))

-- the marks of a site that stands have the room of the atoms
pub marks_room : (G : Rules) (S : Set) (M : Marking) (site : Seen) → StandsAt G S M site → FitsAtoms G.atoms site.mark.executed site.mark.pending site.mark.included
marks_room G S M site at = record {
  executed = ap (λ (m : SiteMark). length m.executed) at.mark ∙ length-those G.atoms _;
  pending = ap (λ (m : SiteMark). length m.pending) at.mark ∙ length-those G.atoms _;
  included = ap (λ (m : SiteMark). length m.included) at.mark ∙ length-those G.atoms _;
}

-- what a site has, in the three marks
module _ (G : Rules) (C : List Set) (M : Marking) (i : ℕ) (site : Seen) (own : Set) (within : i < length C) (owns : own ≡ row C i) (at : StandsAt G (row C i) M site) where
  pub executed_more : (so_far : Set) → length so_far ≡ G.atoms → Has G.atoms C i M.executed so_far → Has G.atoms C (i + 1) M.executed (union so_far (intersection site.mark.executed own))
  executed_more so_far room before =
      has_more G.atoms C i M.executed so_far own site.mark.executed (tracks_executed G (row C i)) (is_condition_source G (row C i)) within
      (λ a. ap (λ (s : Set). has s a || is_condition_source G (row C i) a) (sym owns)) owns room (marks_room G (row C i) M site at).executed (ap (λ (m : SiteMark). m.executed) at.mark) before

  pub pending_more : (so_far : Set) → length so_far ≡ G.atoms → Has G.atoms C i M.pending so_far → Has G.atoms C (i + 1) M.pending (union so_far (intersection site.mark.pending own))
  pending_more so_far room before =
      has_more G.atoms C i M.pending so_far own site.mark.pending (tracks_pending G (row C i)) (is_milestone_source G (row C i)) within
      (λ a. ap (λ (s : Set). has s a || is_milestone_source G (row C i) a) (sym owns)) owns room (marks_room G (row C i) M site at).pending (ap (λ (m : SiteMark). m.pending) at.mark) before

  pub included_more : (so_far : Set) → length so_far ≡ G.atoms → Has G.atoms C i M.included so_far → Has G.atoms C (i + 1) M.included (union so_far (intersection site.mark.included own))
  included_more so_far room before =
      has_more G.atoms C i M.included so_far own site.mark.included (tracks_included G (row C i)) (λ a. is_condition_source G (row C i) a || is_milestone_source G (row C i) a) within
      (λ a. ap (λ (s : Set). has s a || (is_condition_source G (row C i) a || is_milestone_source G (row C i) a)) (sym owns)) owns room (marks_room G (row C i) M site at).included
      (ap (λ (m : SiteMark). m.included) at.mark) before
