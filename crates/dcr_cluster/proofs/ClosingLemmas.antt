-- What comes back from the sites.
use Rattle.std.proofs.Common.{◌≡◌, ℕ, zero, suc, ◌+◌, ◌<◌, List, [], ◌∷◌, ◌++◌, length, get_or, map, Option, Some, None, refl, sym, ap, subst, ◌∙◌, arith}
use Rattle.std.specs.Prelude.{fold}
use Rattle.std.specs.List.{All, range_with_len}
use Rattle.std.proofs.lemmas.List.{ext_get_or, get_or-map, length-map, map_push}
use Rattle.std.proofs.lemmas.List.FromFn.{length-range_with_len, get_or-range_with_len}
use Rattle.std.proofs.lemmas.List.Sums.{fold-append}
use Rattle.dcr_set.specs.EventSet.{Set}
use Rattle.dcr_set.specs.Least.{lesser}
use Rattle.dcr_graph.specs.Cause.{waits}
use Rattle.dcr_graph.specs.Projection.{project}
use Rattle.dcr_graph.specs.Rows.{row}
use Rattle.dcr_graph.specs.declared.marking.SiteMark.{SiteMark}
use Rattle.dcr_journal.specs.Answer.{verdict_of}
use Rattle.dcr_journal.specs.Run.{marks_at}
use Rattle.dcr_journal.specs.declared.call.Entry.{Entry}
use Rattle.dcr_site.specs.Decision.{owned_waits}
use Rattle.dcr_site.specs.Seen.{Seen}
use Rattle.dcr_turn.specs.FrontValue.{FrontValue, HasMissedNone}
use Rattle.dcr_turn.specs.TurnId.{TurnId}
use Rattle.dcr_cell.specs.Asking.{sites_of}
use Rattle.dcr_cell.specs.CellStands.{CellStands}
use Rattle.dcr_cell.specs.ClusterId.{ClusterId, IsNamed, marking_after}
use Rattle.dcr_cell.specs.Laws.{AreCalls, waits_by}
use Rattle.dcr_cell.proofs.DecisionLemmas.{marks_stay, waits_hold}

-- the marks of the sites of fronts, each after the entries that its front has seen
abbrev pub marks_by : ClusterId → List FrontValue → List SiteMark
marks_by c fronts = map (λ (f : FrontValue). project c.rules (row c.owned f.site) (marking_after c f.front)) fronts

-- so many sites have given back what lay at their places
pub record GaveBack (c : ClusterId) (count : ℕ) (fronts : List FrontValue) (marks : List SiteMark) (least : Option ℕ) : Type 0 where
  pub sites : sites_of fronts ≡ range_with_len 0 count
  pub marked : marks ≡ marks_by c fronts
  pub waiting : least ≡ waits_by c fronts

pub gave_none : (c : ClusterId) → GaveBack c 0 [] [] None
gave_none c = record { sites = refl; marked = refl; waiting = refl }

range_last : (a n : ℕ) → range_with_len a (suc n) ≡ range_with_len a n ++ (a + n) ∷ []
range_last a zero = ap (λ (k : ℕ). k ∷ []) (omega arith)
range_last a (suc n) = ap (λ (l : List ℕ). a ∷ l) (range_last (a + 1) n ∙ ap (λ (k : ℕ). range_with_len (a + 1) n ++ k ∷ []) (omega arith))

pub range_more : (n : ℕ) → range_with_len 0 (n + 1) ≡ range_with_len 0 n ++ n ∷ []
range_more n =
    let on : n + 1 ≡ suc n = omega arith in
    let last : 0 + n ≡ n = omega arith in
    ap (range_with_len 0) on ∙ range_last 0 n ∙ ap (λ (k : ℕ). range_with_len 0 n ++ k ∷ []) last

pub gave_more : (c : ClusterId) (count : ℕ) (fronts : List FrontValue) (marks : List SiteMark) (least own : Option ℕ) (site : Seen) (front : FrontValue)
    → GaveBack c count fronts marks least → CellStands c count site front → own ≡ owned_waits c.rules (row c.owned count) (marking_after c front.front)
    → GaveBack c (count + 1) (fronts ++ front ∷ []) (marks ++ site.mark ∷ []) (lesser least own)
gave_more c count fronts marks least own site front so_far stands waits_here = record {
  sites = map_push (λ (f : FrontValue). f.site) fronts front ∙ ap (λ (l : List ℕ). l ++ front.site ∷ []) so_far.sites ∙ ap (λ (k : ℕ). range_with_len 0 count ++ k ∷ []) stands.at ∙ sym (range_more count);
  marked =
      ap (λ (l : List SiteMark). l ++ site.mark ∷ []) so_far.marked
      ∙ ap (λ (m : SiteMark). marks_by c fronts ++ m ∷ []) (stands.stands.mark ∙ ap (λ (k : ℕ). project c.rules (row c.owned k) (marking_after c front.front)) (sym stands.at))
      ∙ sym (map_push (λ (f : FrontValue). project c.rules (row c.owned f.site) (marking_after c f.front)) fronts front);
  waiting =
      ap (λ (o : Option ℕ). lesser o own) so_far.waiting
      ∙ ap (lesser (waits_by c fronts)) (waits_here ∙ ap (λ (k : ℕ). owned_waits c.rules (row c.owned k) (marking_after c front.front)) (sym stands.at))
      ∙ sym (fold-append lesser None (map waits_of fronts) (waits_of front ∷ []))
      ∙ ap (fold lesser None) (sym (map_push waits_of fronts front));
}
  where
    waits_of : FrontValue → Option ℕ
    waits_of f = owned_waits c.rules (row c.owned f.site) (marking_after c f.front)

-- the same of lists that are these
pub gave_as : (c : ClusterId) (count : ℕ) (fronts fronts_now : List FrontValue) (marks marks_now : List SiteMark) (least least_now : Option ℕ) → fronts_now ≡ fronts → marks_now ≡ marks
    → least_now ≡ least → GaveBack c count fronts marks least → GaveBack c count fronts_now marks_now least_now
gave_as c count fronts fronts_now marks marks_now least least_now fs ms l gave =
    subst (λ (x : List FrontValue). GaveBack c count x marks_now least_now) (sym fs)
    (subst (λ (y : List SiteMark). GaveBack c count fronts y least_now) (sym ms) (subst (λ (z : Option ℕ). GaveBack c count fronts marks z) (sym l) gave))

same_verdict : (a b : Option ℕ) → verdict_of a ≡ verdict_of b → a ≡ b
same_verdict None None is = refl
same_verdict None (Some b) is = absurd cc
same_verdict (Some a) None is = absurd cc
same_verdict (Some a) (Some b) is = cc

module _ (c : ClusterId) (turn : TurnId) (fronts : List FrontValue) (J : List Entry) (named : IsNamed c turn) (are : sites_of fronts ≡ range_with_len 0 (length c.owned)) (calls : AreCalls c J)
    (none : All (λ f. HasMissedNone turn f J) fronts) where
  pub waits_close : waits_by c fronts ≡ waits c.rules.atoms (marking_after c J)
  waits_close = same_verdict (waits_by c fronts) (waits c.rules.atoms (marking_after c J)) (waits_hold c turn fronts J named are calls none)

  many : length fronts ≡ length c.owned
  many = sym (length-map fronts (λ (f : FrontValue). f.site)) ∙ ap length are ∙ length-range_with_len 0 (length c.owned)

  site_at : (i : ℕ) (d : FrontValue) → i < length fronts → (get_or fronts i d).site ≡ i
  site_at i d below =
      sym (get_or-map (λ (f : FrontValue). f.site) fronts i d 0 below) ∙ ap (λ (l : List ℕ). get_or l i 0) are ∙ get_or-range_with_len 0 (length c.owned) i 0 (let m = many in omega arith) ∙ (let none : 0 + i ≡ i = omega arith in none)

  pub marks_close : marks_by c fronts ≡ marks_at c.rules c.owned (marking_after c J)
  marks_close =
      let g : FrontValue → SiteMark = λ f. project c.rules (row c.owned f.site) (marking_after c f.front) in
      let h : Set → SiteMark = λ S. project c.rules S (marking_after c J) in
      let d : FrontValue = record { site = 0; front = J } in
      ext_get_or (h []) (map g fronts) (map h c.owned) (length-map fronts g ∙ many ∙ sym (length-map c.owned h)) (λ i l.
      let below : i < length fronts = (let len = length-map fronts g in omega arith) in
      let within : i < length c.owned = (let m = many in omega arith) in
      let f : FrontValue = get_or fronts i d in
      let at : f.site ≡ i = site_at i d below in
      get_or-map g fronts i d (h []) below
      ∙ marks_stay c turn f J named (subst (λ (k : ℕ). k < length c.owned) (sym at) within) calls (none i d below)
      ∙ ap (λ (k : ℕ). h (row c.owned k)) at
      ∙ sym (get_or-map h c.owned i [] (h []) within))
