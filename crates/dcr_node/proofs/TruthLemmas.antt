-- Messages that are true and sites that stand stay so as the journal grows.
use Rattle.std.proofs.Common.{◌≡◌, ℕ, ◌+◌, ◌<◌, ◌≤◌, Bool, true, false, cond, List, [], ◌∷◌, ◌++◌, length, get_or, map, take, drop, Option, Some, None, inl, inr, refl, sym, ap, subst, ◌∙◌, arith}
use Rattle.std.specs.Prelude.{slice_get}
use Rattle.std.specs.List.{All}
use Rattle.std.specs.Option.{option_map, option_and_then, option_to_list}
use Rattle.std.proofs.lemmas.List.{append-nil, get_or_append_left, get_or-map, length-append, length-map, take-append-le, take_at}
use Rattle.std.proofs.lemmas.List.Elements.{All-map, All-take}
use Rattle.std.proofs.lemmas.Option.{slice_get_within, slice_get-get_or, get_or_from_slice_get, same_Some, none-some}
use Rattle.std.proofs.Math.Seq.{get_or-append_seam}
use Rattle.dcr_set.specs.EventSet.{Set, has}
use Rattle.dcr_set.proofs.ListLemmas.{push_cases}
use Rattle.dcr_graph.specs.Cause.{cause}
use Rattle.dcr_graph.specs.Rows.{row}
use Rattle.dcr_graph.specs.Rules.{Rules}
use Rattle.dcr_graph.specs.Projection.{project}
use Rattle.dcr_graph.specs.declared.kind.Cause.{Cause}
use Rattle.dcr_graph.specs.declared.marking.Marking.{Marking}
use Rattle.dcr_graph.proofs.LocalLaws.{local_cause}
use Rattle.dcr_journal.specs.Answer.{answer, outcome_of, outcome_decided}
use Rattle.dcr_journal.specs.Run.{IsInRange, IsSound, after as marking_after}
use Rattle.dcr_journal.specs.declared.call.Call.{Call}
use Rattle.dcr_journal.specs.declared.call.Call.TheVariants.{Exec, Look, Enabled, Accepting}
use Rattle.dcr_journal.specs.declared.call.Entry.{Entry}
use Rattle.dcr_journal.specs.declared.call.Outcome.TheVariants as outcome
use Rattle.dcr_site.specs.Decision.{by_cause, decision}
use Rattle.dcr_site.specs.Seen.{StandsAt}
use Rattle.dcr_site.specs.declared.site.Decision.TheVariants.{NotHere}
use Rattle.dcr_laws.specs.AtSites.{cause_at}
use Rattle.dcr_wire.specs.declared.answer.Answer.{Answer}
use Rattle.dcr_wire.specs.declared.message.Message.{Message}
use Rattle.dcr_wire.specs.declared.message.Message.TheVariants.{Ask, Vote, Apply}
use Rattle.dcr_wire.specs.declared.question.Question.{Question}
use Rattle.dcr_node.specs.Heard.{heard, stepped_by_all}
use Rattle.dcr_node.specs.SiteState.{SiteState, decision_at}
use Rattle.dcr_node.specs.JournalState.{JournalState, asked_by, execution, execution_in, execution_out, stream_of}
use Rattle.dcr_node.specs.WorldState.{alphabets_over}
use Rattle.dcr_node.specs.Right.{alphabet_of, asked, IsTrueAt, IsNodeAt, IsOutAt, IsAskedAt, graph_tells, IsAnswerAt}
use Rattle.dcr_node.specs.declared.journal_node.Execution.{Execution}
use Rattle.dcr_node.specs.declared.journal_node.Proposal.{Proposal}
use Rattle.dcr_node.proofs.HeardLemmas.{heard-append, heard_front, heard_marks}

-- ---- lists that grow at the end

pub slice_get_left : {X : Type 0} (xs ys : List X) (k : ℕ) (x : X) → slice_get xs k ≡ Some x → slice_get (xs ++ ys) k ≡ Some x
slice_get_left xs ys k x is =
    let within : k < length xs = slice_get_within xs k x is in
    let room = length-append xs ys in
    slice_get-get_or (xs ++ ys) k x (omega arith) ∙ ap Some (get_or_append_left xs ys x k within ∙ get_or_from_slice_get xs k x x is)

-- what was put at the end stands there
pub slice_get_last : {X : Type 0} (xs : List X) (x : X) (k : ℕ) → k ≡ length xs → slice_get (xs ++ x ∷ []) k ≡ Some x
slice_get_last xs x k is =
    let room = length-append xs (x ∷ []) in
    slice_get-get_or (xs ++ x ∷ []) k x (omega arith) ∙ ap Some (ap (λ n. get_or (xs ++ x ∷ []) n x) is ∙ get_or-append_seam xs x [] x)

-- ---- the journal grows

-- the alphabets stay, and entries and calls that were asked come at the end
pub record Grows (before after : JournalState) : Type 0 where
  pub alphabets : after.alphabets ≡ before.alphabets
  pub new_entries : List Entry
  pub entries : after.history.entries ≡ before.history.entries ++ new_entries
  pub new_asked : List Call
  pub calls : asked after ≡ asked before ++ new_asked

-- no more than one call is out
asked_room : (j : JournalState) → length (asked j) ≤ length j.history.entries + 1
asked_room j =
    let calls : List Call = map (λ (entry : Entry). entry.call) j.history.entries in
    let last : List Call = option_to_list (option_map (λ (p : Proposal). (asked_by p).1) j.out) in
    let both : length (asked j) ≡ length calls + length last = length-append calls last in
    let many : length calls ≡ length j.history.entries = length-map j.history.entries (λ (entry : Entry). entry.call) in
    let few : length last ≤ 1 = one j.out in
    omega arith
  where
    one : (out : Option Proposal) → length (option_to_list (option_map (λ (p : Proposal). (asked_by p).1) out)) ≤ 1
    one None = omega arith
    one (Some p) = omega arith

pub asked_within : (j : JournalState) (n : ℕ) (call : Call) → slice_get (asked j) n ≡ Some call → n ≤ length j.history.entries
asked_within j n call is = let below : n < length (asked j) = slice_get_within (asked j) n call is in let room = asked_room j in omega arith

-- the call that is out stands behind those of the entries
pub asked_last : (j : JournalState) (p : Proposal) → j.out ≡ Some p → slice_get (asked j) (length j.history.entries) ≡ Some p.call
asked_last j p out =
    let calls : List Call = map (λ (entry : Entry). entry.call) j.history.entries in
    ap (λ (o : Option Proposal). slice_get (calls ++ option_to_list (option_map (λ (q : Proposal). (asked_by q).1) o)) (length j.history.entries)) out
    ∙ slice_get_last calls p.call (length j.history.entries) (sym (length-map j.history.entries (λ (entry : Entry). entry.call)))

module _ (before after : JournalState) (grows : Grows before after) where
  -- beginnings stay
  beginning_kept : (n : ℕ) → n ≤ length before.history.entries → take n after.history.entries ≡ take n before.history.entries
  beginning_kept n within = ap (λ J. take n J) grows.entries ∙ take-append-le n before.history.entries grows.new_entries within

  asked_kept : (n : ℕ) (call : Call) → slice_get (asked before) n ≡ Some call → slice_get (asked after) n ≡ Some call
  asked_kept n call is = ap (λ calls. slice_get calls n) grows.calls ∙ slice_get_left (asked before) grows.new_asked n call is

  pub stream_grows : (i : ℕ) → stream_of after i ≡ stream_of before i ++ heard (has (row before.alphabets i)) grows.new_entries
  stream_grows i =
      ap (λ A. heard (has (row A i)) after.history.entries) grows.alphabets
      ∙ ap (λ J. heard (has (row before.alphabets i)) J) grows.entries
      ∙ heard-append (has (row before.alphabets i)) before.history.entries grows.new_entries

  pub truth_kept : (G : Rules) (C : List Set) (M : Marking) (message : Message) → IsTrueAt G C M before message → IsTrueAt G C M after message
  truth_kept G C M (Ask number site event count) true_before = (
    asked_kept number (Exec site event) true_before.0,
    true_before.1
        ∙ sym (ap (λ A. length (heard (has (row A site)) (take number after.history.entries))) grows.alphabets
        ∙ ap (λ J. length (heard (has (row before.alphabets site)) J)) (beginning_kept number (asked_within before number (Exec site event) true_before.0))),
  )
  truth_kept G C M (Vote number site told) true_before = (
    true_before.0,
    asked_kept number (Exec site true_before.0) true_before.1,
    true_before.2
        ∙ ap (λ J. decision G (row C site) (marking_after G M J) true_before.0) (sym (beginning_kept number (asked_within before number (Exec site true_before.0) true_before.1))),
  )
  truth_kept G C M (Apply site index event) true_before =
      ap (λ es. slice_get es index) (stream_grows site) ∙ slice_get_left (stream_of before site) (heard (has (row before.alphabets site)) grows.new_entries) index event true_before

  -- questions and answers stay true
  more_entries : length before.history.entries ≤ length after.history.entries
  more_entries = let both = length-append before.history.entries grows.new_entries in let same : length after.history.entries ≡ length (before.history.entries ++ grows.new_entries) = ap (λ J. length J) grows.entries in omega arith

  pub question_kept : (q : Question) → IsAskedAt before q → IsAskedAt after q
  question_kept q was = record {
    site = (let many : length after.alphabets ≡ length before.alphabets = ap (λ A. length A) grows.alphabets in let below = was.site in omega arith);
    number = (let room = more_entries in let below = was.number in omega arith);
    count =
        was.count
        ∙ sym (ap (λ A. length (heard (has (row A q.site)) (take q.number after.history.entries))) grows.alphabets
        ∙ ap (λ J. length (heard (has (row before.alphabets q.site)) J)) (beginning_kept q.number was.number));
  }

  pub answer_kept : (G : Rules) (C : List Set) (M : Marking) (a : Answer) → IsAnswerAt G C M before a → IsAnswerAt G C M after a
  answer_kept G C M a was = record {
    site = was.site;
    number = (let room = more_entries in let below = was.number in omega arith);
    asked = was.asked;
    told = was.told ∙ ap (λ J. graph_tells G (row C a.site) (marking_after G M J) was.asked) (sym (beginning_kept a.number was.number));
  }

  pub node_kept : (G : Rules) (C : List Set) (M : Marking) (i : ℕ) (node : SiteState) → IsNodeAt G C M before i node → IsNodeAt G C M after i node
  node_kept G C M i node at =
      let more = heard (has (row before.alphabets i)) grows.new_entries in
      let room : length (stream_of after i) ≡ length (stream_of before i) + length more = ap (λ es. length es) (stream_grows i) ∙ length-append (stream_of before i) more in
      let within : node.count ≤ length (stream_of before i) = at.count in
      record {
        id = at.id;
        count = omega arith;
        stands = subst (λ es. StandsAt G (row C i) (stepped_by_all G M es) node.site)
            (sym (ap (λ es. take node.count es) (stream_grows i) ∙ take-append-le node.count (stream_of before i) more within)) at.stands;
      }

-- ---- calls in range

-- the calls of a sound journal are in range
pub calls_in_range : (G : Rules) (C : List Set) (M : Marking) (J : List Entry) → IsSound G C M J → All (λ (entry : Entry). IsInRange (length C) G.atoms entry.call) J
calls_in_range G C M J sound = λ k d below. (sound.legal k (get_or J k d) (slice_get-get_or J k d below)).in_range

-- and so is each call that was asked
pub asked_in_range : (G : Rules) (C : List Set) (M : Marking) (j : JournalState) → IsSound G C M j.history.entries → ((p : Proposal) → j.out ≡ Some p → IsOutAt G C p)
    → (n : ℕ) (call : Call) → slice_get (asked j) n ≡ Some call → IsInRange (length C) G.atoms call
asked_in_range G C M j sound out n call is = by_out j.out refl is
  where
    old : slice_get (map (λ (entry : Entry). entry.call) j.history.entries) n ≡ Some call → IsInRange (length C) G.atoms call
    old found =
        let cs : List Call = map (λ (entry : Entry). entry.call) j.history.entries in
        let all : All (IsInRange (length C) G.atoms) cs = All-map (IsInRange (length C) G.atoms) (λ (entry : Entry). entry.call) j.history.entries (calls_in_range G C M j.history.entries sound) in
        subst (IsInRange (length C) G.atoms) (get_or_from_slice_get cs n call call found) (all n call (slice_get_within cs n call found))

    by_out : (o : Option Proposal) → j.out ≡ o
        → slice_get (map (λ (entry : Entry). entry.call) j.history.entries ++ option_to_list (option_map (λ (p : Proposal). (asked_by p).1) o)) n ≡ Some call
        → IsInRange (length C) G.atoms call
    by_out None none found = old (ap (λ cs. slice_get cs n) (sym (append-nil (map (λ (entry : Entry). entry.call) j.history.entries))) ∙ found)
    by_out (Some p) some found = elim (push_cases (map (λ (entry : Entry). entry.call) j.history.entries) p.call n call found) [
      | inl at ↦ subst (IsInRange (length C) G.atoms) (sym at.1) (out p some)
      | inr before ↦ old before
    ]

-- the execution that is out is the proposal
pub out_is : (j : JournalState) (x : Execution) → execution_out j ≡ Some x → j.out ≡ Some (execution x.session x.site x.event)
out_is j x is = by_out j.out refl is
  where
    by_call : (p : Proposal) (call : Call) → p.call ≡ call → execution_in p call ≡ Some x → Some p ≡ Some (execution x.session x.site x.event)
    by_call p (Exec i e) same found =
        ap (λ c. let q : Proposal = record { session = p.session; call = c } in Some q) same
        ∙ ap (λ (y : Execution). Some (execution y.session y.site y.event)) (same_Some (record { session = p.session; site = i; event = e }) x found)
    by_call p (Look i) same none = absurd (none-some x none)
    by_call p (Enabled i) same none = absurd (none-some x none)
    by_call p Accepting same none = absurd (none-some x none)

    by_out : (o : Option Proposal) → j.out ≡ o → option_and_then (λ (p : Proposal). execution_in p p.call) o ≡ Some x → j.out ≡ Some (execution x.session x.site x.event)
    by_out None same none = absurd (none-some x none)
    by_out (Some p) same found = same ∙ by_call p p.call refl found

-- ---- decisions

-- what a site decides by its projection of a marking is the graph's decision at the marking
pub decided_by_projection : (G : Rules) (S : Set) (N : Marking) (e : ℕ) → e < G.atoms → decision_at G S (project G S N) e ≡ decision G S N e
decided_by_projection G S N e below = by_owner (has S e) refl
  where
    by_owner : (b : Bool) → has S e ≡ b → cond b (by_cause (cause_at G S (project G S N) e)) NotHere ≡ cond b (by_cause (cause G N e)) NotHere
    by_owner true owned = ap by_cause (local_cause G S N e owned below)
    by_owner false owned = refl

-- and its outcome is the graph's answer
pub decided_is_answered : (G : Rules) (C : List Set) (N : Marking) (i e : ℕ) → outcome_decided (decision G (row C i) N e) ≡ answer G C N (Exec i e)
decided_is_answered G C N i e = by_owner (has (row C i) e) (cause G N e)
  where
    by_owner : (b : Bool) (why : Option Cause) → outcome_decided (cond b (by_cause why) NotHere) ≡ cond b (outcome_of why) outcome.NotHere
    by_owner true None = refl
    by_owner true (Some why) = refl
    by_owner false why = refl

-- ---- sites

-- the alphabet of a site among all of them
pub alphabet_row : (G : Rules) (C : List Set) (i : ℕ) → i < length C → row (alphabets_over G C) i ≡ alphabet_of G (row C i)
alphabet_row G C i below = get_or-map (alphabet_of G) C i [] [] below

-- A site whose count is the number of executions that it hears of in a beginning of the journal has the marks of the
-- marking after that beginning.
pub marks_at_beginning : (G : Rules) (C : List Set) (M : Marking) (j : JournalState) (i n : ℕ) (node : SiteState) → IsSound G C M j.history.entries
    → row j.alphabets i ≡ alphabet_of G (row C i) → IsNodeAt G C M j i node → node.count ≡ length (heard (has (row j.alphabets i)) (take n j.history.entries))
    → node.site.mark ≡ project G (row C i) (marking_after G M (take n j.history.entries))
marks_at_beginning G C M j i n node sound alphabet at count =
    let A = row j.alphabets i in
    let J = j.history.entries in
    let front = heard (has A) (take n J) in
    let is : take node.count (stream_of j i) ≡ front = ap (λ es. take node.count es) (heard_front (has A) J n) ∙ take_at front (heard (has A) (drop n J)) node.count (sym count) in
    at.stands.mark
    ∙ ap (λ es. project G (row C i) (stepped_by_all G M es)) is
    ∙ ap (λ B. project G (row C i) (stepped_by_all G M (heard (has B) (take n J)))) alphabet
    ∙ heard_marks G (row C i) (length C) M (take n J) (All-take (λ (entry : Entry). IsInRange (length C) G.atoms entry.call) n J (calls_in_range G C M J sound))
