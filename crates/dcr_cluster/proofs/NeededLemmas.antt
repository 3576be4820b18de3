-- The sites whose locks a call takes.
use Rattle.std.proofs.Common.{◌≡◌, ◌⊎◌, inl, inr, Bool, ℕ, zero, suc, ◌+◌, ◌<◌, List, [], ◌∷◌, length, sym, refl, ap, ◌∙◌, subst, arith}
use Rattle.std.specs.Prelude.{slice_index_or, if◌then◌else◌}
use Rattle.std.specs.List.{All, range_with_len}
use Rattle.std.proofs.lemmas.List.FromFn.{length-range_with_len, get_or-range_with_len}
use Rattle.dcr_set.specs.EventSet.{Set}
use Rattle.dcr_set.proofs.SetLemmas.{length-those}
use Rattle.dcr_graph.specs.Projection.{in_alphabet}
use Rattle.dcr_graph.specs.Rows.{row}
use Rattle.dcr_journal.specs.declared.call.Call.{Call}
use Rattle.dcr_journal.specs.declared.call.Call.TheVariants.{Exec, Look, Enabled, Accepting}
use Rattle.dcr_journal.specs.declared.call.Outcome.{Outcome}
use Rattle.dcr_journal.specs.declared.call.Outcome.TheVariants.{NotHere, AllDone}
use Rattle.dcr_proj.specs.CoverValue.{atoms_of}
use Rattle.dcr_proj.specs.NetworkValue.{participants_of}
use Rattle.dcr_proj.proofs.NetworkLemmas.{participants_below}
use Rattle.dcr_turn.specs.TurnId.{TurnId}
use Rattle.dcr_cell.specs.Asking.{sites_for, Found}
use Rattle.dcr_cell.specs.ClusterId.{ClusterId, IsNamed, IsCall}
use Rattle.dcr_cell.proofs.AskLemmas.{as_many_sites}
use Rattle.dcr_cell.proofs.DecisionLemmas.{alphabet_at}

-- ---- participants

-- the alphabets are over the atoms
atoms_are : (c : ClusterId) (turn : TurnId) (network : List Set) → IsNamed c turn → network ≡ turn.alphabets → atoms_of network ≡ c.rules.atoms
atoms_are c turn network named is =
    ap atoms_of is ∙ ap length (alphabet_at c turn 0 named named.some_site) ∙ length-those c.rules.atoms (in_alphabet c.rules (row c.owned 0))

pub event_within : (c : ClusterId) (turn : TurnId) (network : List Set) (call : Call) (i e : ℕ) → IsNamed c turn → network ≡ turn.alphabets → IsCall c call → call ≡ Exec i e → e < atoms_of network
event_within c turn network call i e named is is_call exec = subst (λ n. e < n) (sym (atoms_are c turn network named is)) (subst (IsCall c) exec is_call).1

-- each is a site
pub participants_within : (c : ClusterId) (turn : TurnId) (network : List Set) (sites : List ℕ) (e : ℕ) → IsNamed c turn → network ≡ turn.alphabets → sites ≡ participants_of network e
    → All (λ i. i < length c.owned) sites
participants_within c turn network sites e named is are =
    subst (All (λ i. i < length c.owned)) (sym are)
    (subst (λ n. All (λ i. i < n) (participants_of network e)) (ap length is ∙ as_many_sites c turn named) (participants_below network e))

-- ---- all sites

pub all_within : (n : ℕ) (sites : List ℕ) → sites ≡ range_with_len 0 n → All (λ i. i < n) sites
all_within n sites are = subst (All (λ i. i < n)) (sym are) (λ k d below.
    let within : k < n = (let e = length-range_with_len 0 n in omega arith) in
    let at = get_or-range_with_len 0 n k d within in
    omega arith)

pub all_count : (n : ℕ) (sites : List ℕ) → sites ≡ range_with_len 0 n → length sites ≡ n
all_count n sites are = ap length are ∙ length-range_with_len 0 n

-- ---- one site

-- the call is one about this site's marks
abbrev pub IsOfOne : Call → ℕ → Type 0
IsOfOne call i = (call ≡ Look i) ⊎ (call ≡ Enabled i)

pub one_within : (c : ClusterId) (call : Call) (i : ℕ) → IsCall c call → IsOfOne call i → i < length c.owned
one_within c call i is_call (inl is) = subst (IsCall c) is is_call
one_within c call i is_call (inr is) = subst (IsCall c) is is_call

-- what stands at its place among all sites is its number
pub one_is : (sites : List ℕ) (n i j d : ℕ) → sites ≡ range_with_len 0 n → i < n → j ≡ slice_index_or sites i d → j ≡ i
one_is sites n i j d are within at = at ∙ ap (λ l. slice_index_or l i d) are ∙ get_or-range_with_len 0 n i d within ∙ (let e : 0 + i ≡ i = omega arith in e)

pub one_site : (c : ClusterId) (turn : TurnId) (call : Call) (i : ℕ) (sites : List ℕ) → IsOfOne call i → sites ≡ i ∷ [] → sites ≡ sites_for c turn call
one_site c turn call i sites (inl is) are = are ∙ ap (sites_for c turn) (sym is)
one_site c turn call i sites (inr is) are = are ∙ ap (sites_for c turn) (sym is)

pub one_all : (n i : ℕ) (sites : List ℕ) → sites ≡ i ∷ [] → i < n → All (λ k. k < n) sites
one_all n i sites are within = subst (All (λ k. k < n)) (sym are) (λ k d below. first k d below)
  where
    first : (k d : ℕ) → k < 1 → slice_index_or (i ∷ []) k d < n
    first zero d below = within
    first (suc k) d below = absurd (omega arith)

-- ---- what is found before a site was asked

pub found_nowhere : (c : ClusterId) (turn : TurnId) (call : Call) (sites : List ℕ) (found : Outcome) → sites ≡ sites_for c turn call
    → (call ≡ Accepting → found ≡ AllDone) → ((i e : ℕ) → call ≡ Exec i e → sites ≡ [] → found ≡ NotHere) → Found c call [] found
found_nowhere c turn (Exec i e) sites found are all nowhere = record {
  nowhere = λ none stranger. nowhere i e refl (are ∙ ap (λ (b : Bool). if b then participants_of turn.alphabets e else []) stranger);
  one = λ j at there. absurd (let below = there.1 in omega arith);
  all = λ none. absurd cc;
}
found_nowhere c turn (Look i) sites found are all nowhere = record {
  nowhere = λ none stranger. absurd stranger;
  one = λ j at there. absurd (let below = there.1 in omega arith);
  all = λ none. absurd cc;
}
found_nowhere c turn (Enabled i) sites found are all nowhere = record {
  nowhere = λ none stranger. absurd stranger;
  one = λ j at there. absurd (let below = there.1 in omega arith);
  all = λ none. absurd cc;
}
found_nowhere c turn Accepting sites found are all nowhere = record {
  nowhere = λ none stranger. absurd stranger;
  one = λ j at there. absurd cc;
  all = λ none. all refl;
}
