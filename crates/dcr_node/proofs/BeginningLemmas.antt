-- A site has heard of a beginning of the journal.
use Rattle.std.proofs.Common.{◌≡◌, ℕ, zero, suc, ◌+◌, ◌<◌, ◌≤◌, Bool, true, false, cond, eqb, List, [], length, get_or, take, Option, Some, None, inl, inr, refl, sym, ap, ◌∙◌, arith, add-one}
use Rattle.std.specs.Prelude.{slice_get}
use Rattle.std.specs.Option.{option_map_or}
use Rattle.std.proofs.lemmas.Bool.{cases_lt, eq-eqb, eqb-true, false≢true}
use Rattle.std.proofs.lemmas.List.{take_all}
use Rattle.std.proofs.lemmas.List.Sums.{sum_by_more}
use Rattle.std.proofs.lemmas.Option.{slice_get_within}
use Rattle.dcr_set.specs.EventSet.{Set, has}
use Rattle.dcr_set.specs.Least.{least}
use Rattle.dcr_set.proofs.LeastLemmas.{least-some, least-none}
use Rattle.dcr_graph.specs.Rows.{row}
use Rattle.dcr_graph.specs.Rules.{Rules}
use Rattle.dcr_graph.specs.Projection.{project}
use Rattle.dcr_graph.specs.declared.marking.Marking.{Marking}
use Rattle.dcr_journal.specs.Run.{event_done, after, touches}
use Rattle.dcr_journal.specs.declared.call.Call.TheVariants.{Accepting}
use Rattle.dcr_journal.specs.declared.call.Outcome.TheVariants.{AllDone}
use Rattle.dcr_journal.specs.declared.call.Entry.{Entry}
use Rattle.dcr_node.specs.Heard.{heard}
use Rattle.dcr_node.specs.SiteState.{SiteState}
use Rattle.dcr_node.specs.JournalState.{stream_of}
use Rattle.dcr_node.specs.WorldState.{WorldState}
use Rattle.dcr_node.specs.Right.{alphabet_of, IsRight, HeardABeginning}
use Rattle.dcr_node.proofs.HeardLemmas.{length-heard}
use Rattle.dcr_node.proofs.TruthLemmas.{marks_at_beginning}
use Rattle.dcr_node.proofs.RightLemmas.{right_alphabet}

-- a beginning of so many entries at most in which the alphabet is touched so often
record Beginning (alphabet : ℕ → Bool) (J : List Entry) (count most : ℕ) : Type 0 where
  long : ℕ
  within : long ≤ most
  touched : touches alphabet (take long J) ≡ count

-- each number up to that of all touches is that of some beginning, since one entry more touches once at most
beginning : (alphabet : ℕ → Bool) (J : List Entry) (count most : ℕ) → most ≤ length J → count ≤ touches alphabet (take most J) → Beginning alphabet J count most
beginning alphabet J count zero within few = record { long = 0; within = omega arith; touched = none }
  where
    none : touches alphabet (take 0 J) ≡ count
    none = let zero_touches : touches alphabet [] ≡ 0 = refl in omega arith
beginning alphabet J count (suc most) within few = elim (cases_lt (touches alphabet (take most J)) count) [
  | inl above ↦
      let d : Entry = record { session = 0; seq = 0; call = Accepting; outcome = AllDone } in
      let touch : Entry → Bool = λ entry. option_map_or alphabet (event_done entry.call entry.outcome) false in
      let more : touches alphabet (take (most + 1) J) ≡ touches alphabet (take most J) + cond (touch (get_or J most d)) 1 0 =
      sum_by_more (λ entry. cond (touch entry) 1 0) J most d (omega arith) in
      let one = once (touch (get_or J most d)) in
      let same : touches alphabet (take (suc most) J) ≡ touches alphabet (take (most + 1) J) = ap (λ n. touches alphabet (take n J)) (sym (add-one most)) in
      record { long = suc most; within = omega arith; touched = omega arith }
  | inr enough ↦
      let shorter = beginning alphabet J count most (omega arith) enough in
      record { long = shorter.long; within = (let w = shorter.within in omega arith); touched = shorter.touched }
]
  where
    once : (b : Bool) → cond b 1 0 ≤ 1
    once true = omega arith
    once false = omega arith

-- where a number below passes there is a least one
least_there : (n : ℕ) (p : ℕ → Bool) (k : ℕ) → k < n → p k ≡ true → (j : ℕ) × (least n p ≡ Some j)
least_there n p k below passes = by (least n p) refl
  where
    by : (o : Option ℕ) → least n p ≡ o → (j : ℕ) × (least n p ≡ Some j)
    by (Some j) is = (j, is)
    by None is = absurd (false≢true (sym (least-none n p is k below) ∙ passes))

pub heard_a_beginning : (G : Rules) (C : List Set) (M : Marking) (w : WorldState) → IsRight G C M w
    → (i : ℕ) (node : SiteState) → slice_get w.sites i ≡ Some node → HeardABeginning G (row C i) M w.journal.history.entries node
heard_a_beginning G C M w right i node is =
    let J = w.journal.history.entries in
    let S = row C i in
    let A : ℕ → Bool = has (alphabet_of G S) in
    let at = right.sites i node is in
    let within : i < length C = (let below : i < length w.sites = slice_get_within w.sites i node is in let room = right.as_many in omega arith) in
    let alphabet : row w.journal.alphabets i ≡ alphabet_of G S = right_alphabet G C M w i right within in
    let all : length (stream_of w.journal i) ≡ touches A J = ap (λ B. length (heard (has B) J)) alphabet ∙ length-heard A J in
    let count : node.count ≤ touches A J = (let most = at.count in omega arith) in
    let marks : (n : ℕ) → touches A (take n J) ≡ node.count → node.site.mark ≡ project G S (after G M (take n J)) =
    λ n same.
    marks_at_beginning G C M w.journal i n node right.sound alphabet at
    (sym same ∙ sym (length-heard A (take n J)) ∙ ap (λ B. length (heard (has B) (take n J))) (sym alphabet)) in
    let whole : touches A (take (length J) J) ≡ touches A J = ap (touches A) (take_all (length J) J (omega arith)) in
    let found = beginning A J node.count (length J) (omega arith) (omega arith) in
    let first = least_there (length J + 1) (λ n. eqb (touches A (take n J)) node.count) found.long (let w = found.within in omega arith) (eq-eqb (touches A (take found.long J)) node.count found.touched) in
    let passes = (least-some (length J + 1) (λ n. eqb (touches A (take n J)) node.count) first.0 first.1).passes in
    record {
      count = count;
      marks = λ n below same. marks n same;
      shortest = (first.0, first.1, marks first.0 (eqb-true (touches A (take first.0 J)) node.count passes));
    }
