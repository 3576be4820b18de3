-- Sites that hear of what they missed.
use Rattle.std.proofs.Common.{◌≡◌, ◌≢◌, ◌⊎◌, ℕ, zero, suc, ◌+◌, ◌<◌, ◌≤◌, List, [], ◌∷◌, length, map, Some, inl, inr, refl, sym, ap, subst, ◌∙◌, arith}
use Rattle.std.specs.Prelude.{option_map, slice_get, slice_set, Result, Ok, Err, OnOk}
use Rattle.std.proofs.lemmas.Option.{slice_get-map, slice_get_within}
use Rattle.dcr_set.specs.EventSet.{Set}
use Rattle.dcr_graph.specs.Rules.{Rules}
use Rattle.dcr_graph.specs.declared.marking.Marking.{Marking}
use Rattle.dcr_node.specs.JournalState.{JournalState, stream_of, execution}
use Rattle.dcr_node.specs.Laws.{AnItemIsHeard, AskingTells, counts, with_told}
use Rattle.dcr_node.specs.Machine.{happens}
use Rattle.dcr_node.specs.Right.{IsRight}
use Rattle.dcr_node.specs.SiteState.{SiteState}
use Rattle.dcr_node.specs.WorldState.{HaveHeardAll, IsKept, WorldState}
use Rattle.dcr_node.specs.declared.event.WorldEvent.TheVariants.{AskAgain, Deliver, Item}
use Rattle.dcr_node.specs.declared.journal_node.Proposal.{Proposal}
use Rattle.dcr_schedule.specs.Playing.{HasHeard}

-- ---- a list with another element at a place

get_put : {X : Type 0} (xs : List X) (i : ℕ) (x : X) → i < length xs → slice_get (slice_set xs i x) i ≡ Some x
get_put [] i x within = absurd (omega (arith, within))
get_put (y ∷ xs) zero x within = refl
get_put (y ∷ xs) (suc i) x within = get_put xs i x (omega (arith, within))

get_beside : {X : Type 0} (xs : List X) (i j : ℕ) (x : X) → j ≢ i → slice_get (slice_set xs i x) j ≡ slice_get xs j
get_beside [] i j x other = refl
get_beside (y ∷ xs) zero zero x other = absurd (other refl)
get_beside (y ∷ xs) zero (suc j) x other = refl
get_beside (y ∷ xs) (suc i) zero x other = refl
get_beside (y ∷ xs) (suc i) (suc j) x other = get_beside xs i j x (λ same. other (ap suc same))

-- ---- what a site has heard of

-- of how many executions the node at a place has heard
counted : (w : WorldState) (i : ℕ) (node : SiteState) → slice_get w.sites i ≡ Some node → slice_get (counts w) i ≡ Some node.count
counted w i node here = slice_get-map (λ (n : SiteState). n.count) w.sites i ∙ ap (option_map (λ (n : SiteState). n.count)) here

-- the node of which that many are counted
at_count : (w : WorldState) (i count : ℕ) → slice_get (counts w) i ≡ Some count → (node : SiteState) × (slice_get w.sites i ≡ Some node) × (node.count ≡ count)
at_count w i count here = go w.sites i here
  where
    go : (nodes : List SiteState) (k : ℕ) → slice_get (map (λ (n : SiteState). n.count) nodes) k ≡ Some count
        → (node : SiteState) × (slice_get nodes k ≡ Some node) × (node.count ≡ count)
    go [] k e = absurd cc
    go (node ∷ nodes) zero e = (node, refl, cc)
    go (node ∷ nodes) (suc k) e = go nodes k e

-- ---- one site

-- it has heard of so many of its stream
pub record HeardTo (i count : ℕ) (before now : WorldState) : Type 0 where
  pub journal : now.journal ≡ before.journal
  pub here : slice_get (counts now) i ≡ Some count
  pub most : count ≤ length (stream_of before.journal i)
  pub others : (j : ℕ) → j ≢ i → slice_get (counts now) j ≡ slice_get (counts before) j

pub heard_first : (G : Rules) (C : List Set) (M : Marking) (w : WorldState) (i : ℕ) (node : SiteState) → IsRight G C M w → slice_get w.sites i ≡ Some node → HeardTo i node.count w w
heard_first G C M w i node right here = record { journal = refl; here = counted w i node here; most = (right.sites i node here).count; others = λ j other. refl }

-- an item was sent and delivered
pub heard_next : AnItemIsHeard → (G : Rules) (C : List Set) (M : Marking) (i count : ℕ) (before now told after : WorldState) (sent : ℕ) → IsRight G C M now
    → HeardTo i count before now → count < length (stream_of before.journal i) → sent ≡ length now.sent
    → told ≡ happens G C now (Item i count) → after ≡ happens G C told (Deliver sent) → HeardTo i (count + 1) before after
heard_next law G C M i count before now told after sent right heard more is told_is after_is =
    let node = at_count now i count heard.here in
    let again : told ≡ happens G C now (Item i node.0.count) = told_is ∙ ap (λ n. happens G C now (Item i n)) (sym node.2) in
    let below : node.0.count < length (stream_of now.journal i) =
    subst (λ n. n < length (stream_of now.journal i)) (sym node.2) (subst (λ (j : JournalState). count < length (stream_of j i)) (sym heard.journal) more) in
    let it = law G C M now i node.0 right node.1 below in
    let same : after ≡ happens G C (happens G C now (Item i node.0.count)) (Deliver (length now.sent)) =
    after_is ∙ (ap (λ (w : WorldState). happens G C w (Deliver sent)) again ∙ ap (λ n. happens G C (happens G C now (Item i node.0.count)) (Deliver n)) is) in
    let listed : counts after ≡ slice_set (counts now) i (node.0.count + 1) = ap counts same ∙ it.1 in
    let within : i < length (counts now) = slice_get_within (counts now) i count heard.here in
    record {
      journal = ap (λ (w : WorldState). w.journal) same ∙ (it.0 ∙ heard.journal);
      here = ap (λ (ns : List ℕ). slice_get ns i) listed ∙ (get_put (counts now) i (node.0.count + 1) within ∙ ap (λ n. Some (n + 1)) node.2);
      most = omega (arith, more);
      others = λ j other. ap (λ (ns : List ℕ). slice_get ns j) listed ∙ (get_beside (counts now) i j (node.0.count + 1) other ∙ heard.others j other);
    }

-- it has heard of all
pub heard_last : (i count all : ℕ) (before now : WorldState) → all ≡ length (stream_of before.journal i) → all ≤ count → HeardTo i count before now → HasHeard i before now
heard_last i count all before now is past heard =
    let most = heard.most in
    let same : count ≡ length (stream_of before.journal i) = omega (arith, is, past, most) in
    record { journal = heard.journal; heard = heard.here ∙ ap Some same; others = heard.others }

-- the node of a site that has heard of all
pub all_heard : (i : ℕ) (before now : WorldState) (node : SiteState) → HasHeard i before now → slice_get now.sites i ≡ Some node → node.count ≡ length (stream_of now.journal i)
all_heard i before now node heard here =
    let same : Some node.count ≡ Some (length (stream_of before.journal i)) = sym (counted now i node here) ∙ heard.heard in
    one same ∙ sym (ap (λ (j : JournalState). length (stream_of j i)) heard.journal)
  where
    one : {m n : ℕ} → Some m ≡ Some n → m ≡ n
    one e = cc

-- how far a site has heard, and what stayed meanwhile
pub record Hearing (i count : ℕ) (before now : WorldState) : Type 0 where
  pub kept : IsKept before now
  pub right : (G : Rules) (C : List Set) (M : Marking) → IsRight G C M before → IsRight G C M now
  pub heard : (G : Rules) (C : List Set) (M : Marking) → IsRight G C M before → HeardTo i count before now

-- ---- all sites

-- those before a place have heard of their whole streams
pub record HaveHeardBelow (count : ℕ) (before now : WorldState) : Type 0 where
  pub journal : now.journal ≡ before.journal
  pub below : (i : ℕ) → i < count → slice_get (counts now) i ≡ Some (length (stream_of before.journal i))

pub none_heard : (w : WorldState) → HaveHeardBelow 0 w w
none_heard w = record { journal = refl; below = λ i within. absurd (omega (arith, within)) }

last_or_before : (i n : ℕ) → i < n + 1 → (i ≡ n) ⊎ (i < n)
last_or_before zero zero within = inl refl
last_or_before zero (suc n) within = inr (omega arith)
last_or_before (suc i) zero within = absurd (omega (arith, within))
last_or_before (suc i) (suc n) within = elim (last_or_before i n (omega (arith, within))) [
  | inl same ↦ inl (ap suc same)
  | inr less ↦ inr (omega (arith, less))
]

pub one_heard : (count : ℕ) (before now after : WorldState) → HaveHeardBelow count before now → HasHeard count now after → HaveHeardBelow (count + 1) before after
one_heard count before now after have heard = record {
  journal = heard.journal ∙ have.journal;
  below = λ i within. each i within (last_or_before i count within);
}
  where
    each : (i : ℕ) → i < count + 1 → (i ≡ count) ⊎ (i < count) → slice_get (counts after) i ≡ Some (length (stream_of before.journal i))
    each i within (inl same) =
        subst (λ n. slice_get (counts after) n ≡ Some (length (stream_of before.journal n))) (sym same)
        (heard.heard ∙ ap (λ (j : JournalState). Some (length (stream_of j count))) have.journal)
    each i within (inr less) = heard.others i (λ same. absurd (omega (arith, less, same))) ∙ have.below i less

pub have_heard_all : (count : ℕ) (before now : WorldState) → count ≡ length now.sites → HaveHeardBelow count before now → HaveHeardAll now
have_heard_all count before now is have = λ i node here.
    let within : i < count = subst (λ n. i < n) (sym is) (slice_get_within now.sites i node here) in
    let same : Some node.count ≡ Some (length (stream_of before.journal i)) = sym (counted now i node here) ∙ have.below i within in
    one same ∙ sym (ap (λ (j : JournalState). length (stream_of j i)) have.journal)
  where
    one : {m n : ℕ} → Some m ≡ Some n → m ≡ n
    one e = cc

-- how far the sites have heard, and what stayed meanwhile
pub record HearingAll (count : ℕ) (before now : WorldState) : Type 0 where
  pub kept : IsKept before now
  pub right : (G : Rules) (C : List Set) (M : Marking) → IsRight G C M before → IsRight G C M now
  pub heard : (G : Rules) (C : List Set) (M : Marking) → IsRight G C M before → HaveHeardBelow count before now

-- ---- the asked site is asked

-- where the asked site has heard of its whole stream, the question and then the vote tell what is out
pub settles : AskingTells → {R E : Type 0} (result : Result R E) (w now again answered after : WorldState) (site question vote : ℕ)
    → ((G : Rules) (C : List Set) (M : Marking) → IsRight G C M w → HasHeard site w now)
    → ((G : Rules) (C : List Set) (M : Marking) → IsRight G C M w → IsRight G C M now) → question ≡ length now.sent
    → ((G : Rules) (C : List Set) (M : Marking) → IsRight G C M now → again ≡ happens G C now AskAgain)
    → ((G : Rules) (C : List Set) (M : Marking) → IsRight G C M now → IsRight G C M again) → vote ≡ length again.sent
    → ((G : Rules) (C : List Set) (M : Marking) → IsRight G C M again → answered ≡ happens G C again (Deliver question))
    → ((G : Rules) (C : List Set) (M : Marking) → IsRight G C M again → IsRight G C M answered)
    → OnOk result ((G : Rules) (C : List Set) (M : Marking) → IsRight G C M answered → after ≡ happens G C answered (Deliver vote))
    → OnOk result ((G : Rules) (C : List Set) (M : Marking) (session event : ℕ) → IsRight G C M w → w.journal.out ≡ Some (execution session site event)
    → after.journal ≡ with_told G C M w.journal (execution session site event))
settles law (Err e) w now again answered after site question vote heard right q asked right_again v delivered right_answered voted = tt
settles law (Ok r) w now again answered after site question vote heard right q asked right_again v delivered right_answered voted = λ G C M session event it out.
    let hears = heard G C M it in
    let node = at_count now site (length (stream_of w.journal site)) hears.heard in
    let all : node.0.count ≡ length (stream_of now.journal site) = node.2 ∙ ap (λ (j : JournalState). length (stream_of j site)) (sym hears.journal) in
    let p : Proposal = execution session site event in
    let is_now = right G C M it in
    let is_again = right_again G C M is_now in
    let is_out : now.journal.out ≡ Some p = ap (λ (j : JournalState). j.out) hears.journal ∙ out in
    let it_tells = law G C M now session site event node.0 is_now is_out node.1 all in
    let one : again ≡ happens G C now AskAgain = asked G C M is_now in
    let two : answered ≡ happens G C (happens G C now AskAgain) (Deliver (length now.sent)) =
    delivered G C M is_again ∙ (ap (λ (x : WorldState). happens G C x (Deliver question)) one ∙ ap (λ n. happens G C (happens G C now AskAgain) (Deliver n)) q) in
    let three : after ≡ happens G C (happens G C (happens G C now AskAgain) (Deliver (length now.sent))) (Deliver (length (happens G C now AskAgain).sent)) =
    voted G C M (right_answered G C M is_again)
    ∙ (ap (λ (x : WorldState). happens G C x (Deliver vote)) two
    ∙ ap (λ n. happens G C (happens G C (happens G C now AskAgain) (Deliver (length now.sent))) (Deliver n)) (v ∙ ap (λ (x : WorldState). length x.sent) one)) in
    ap (λ (x : WorldState). x.journal) three ∙ (it_tells.0 ∙ ap (λ (j : JournalState). with_told G C M j p) hears.journal)
