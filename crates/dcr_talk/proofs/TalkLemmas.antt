-- What a site's machine answers, one after the other, and that it is true.
use Rattle.std.proofs.Common.{◌≡◌, ℕ, ◌<◌, Bool, true, false, ◌&&◌, cond, eqb, List, [], ◌∷◌, ◌++◌, length, map, set, Some, None, refl, sym, ap, subst, ◌∙◌, append_assoc, arith, length-set}
use Rattle.std.specs.Prelude.{slice_get}
use Rattle.std.specs.List.{range_with_len}
use Rattle.std.specs.Option.{option_to_list}
use Rattle.std.proofs.lemmas.Bool.{and_parts, eqb-true}
use Rattle.std.proofs.lemmas.List.{append-nil, get_or-set_same}
use Rattle.std.proofs.lemmas.List.Sums.{fold_push}
use Rattle.std.proofs.lemmas.List.Elements.{All-nil, All-cons, All-head, All-tail, All-append}
use Rattle.std.proofs.lemmas.List.FromFn.{get_or-map-range_with_len, length-map-range_with_len}
use Rattle.std.proofs.lemmas.Option.{slice_get_within, slice_get-get_or, get_or_from_slice_get, none-some}
use Rattle.dcr_set.specs.EventSet.{Set}
use Rattle.dcr_graph.specs.Rows.{row}
use Rattle.dcr_graph.specs.Rules.{Rules}
use Rattle.dcr_graph.specs.Step.{step}
use Rattle.dcr_graph.specs.Projection.{local_step}
use Rattle.dcr_graph.specs.declared.marking.Marking.{Marking}
use Rattle.dcr_graph.proofs.LocalLaws.{local_step_is}
use Rattle.dcr_site.specs.Seen.{StandsAt}
use Rattle.dcr_wire.specs.Laws.{Sent, sent_message, sent_question, sent_answer}
use Rattle.dcr_wire.specs.declared.message.Message.{Message}
use Rattle.dcr_wire.specs.declared.message.Message.TheVariants.{Ask, Vote, Apply}
use Rattle.dcr_wire.specs.declared.question.Question.{Question}
use Rattle.dcr_node.specs.SiteState.{SiteState, heard_one, decision_at, is_ready, answer_at, site_step}
use Rattle.dcr_node.specs.JournalState.{JournalState}
use Rattle.dcr_node.specs.WorldState.{WorldState, site_at}
use Rattle.dcr_node.specs.Machine.{sending, with_site, told_site, delivered_if, of_executions}
use Rattle.dcr_node.specs.Parts.{world_with}
use Rattle.dcr_node.specs.Right.{IsTrueAt, IsNodeAt, IsAskedAt, IsRight}
use Rattle.dcr_node.specs.declared.event.WorldEvent.TheVariants.{Deliver}
use Rattle.dcr_node.proofs.TruthLemmas.{slice_get_last}
use Rattle.dcr_node.proofs.RightLemmas.{right_sent, right_site, vote_is_true}
use Rattle.dcr_node.proofs.AnsweredLemmas.{answer_is_true}
use Rattle.dcr_node.proofs.LawLemmas.{node_at_opening, right_comes}
use Rattle.dcr_talk.specs.Talk.{told_to, stepped, after_all, told_by}
use Rattle.dcr_talk.specs.Truth.{IsRightJournal, IsTrueSent, AreTrue}

-- ---- one after the other

pub in_order : (G : Rules) (S : Set) (node : SiteState) (asked more : List Sent)
    → told_by G S node (asked ++ more) ≡ told_by G S node asked ++ told_by G S (after_all G S node asked) more
unfolding told_by
in_order G S node [] more = refl
in_order G S node (one ∷ asked) more =
    let next = stepped G S node one in
    ap (λ said. told_to G S node one ++ said) (in_order G S next asked more)
    ∙ sym (append_assoc (told_to G S node one) (told_by G S next asked) (told_by G S (after_all G S next asked) more))

-- one more
pub told_push : (G : Rules) (S : Set) (node : SiteState) (asked : List Sent) (one : Sent)
    → told_by G S node (asked ++ one ∷ []) ≡ told_by G S node asked ++ told_to G S (after_all G S node asked) one
unfolding told_by
told_push G S node asked one =
    in_order G S node asked (one ∷ []) ∙ ap (λ said. told_by G S node asked ++ said) (append-nil (told_to G S (after_all G S node asked) one))

pub after_push : (G : Rules) (S : Set) (node : SiteState) (asked : List Sent) (one : Sent)
    → after_all G S node (asked ++ one ∷ []) ≡ stepped G S (after_all G S node asked) one
after_push G S node asked one = fold_push (stepped G S) node asked one

-- a site that stands goes on standing
heard_stands : (G : Rules) (S : Set) (N : Marking) (node : SiteState) (event : ℕ) → StandsAt G S N node.site → (b : Bool)
    → (N' : Marking) × StandsAt G S N' (cond b (heard_one node (local_step G S node.site.mark event)) node).site
heard_stands G S N node event at false = (N, at)
heard_stands G S N node event at true =
    (step G N event, record { projection = at.projection; mark = ap (λ m. local_step G S m event) at.mark ∙ local_step_is G S N event })

pub stands_stepped : (G : Rules) (S : Set) (N : Marking) (node : SiteState) (one : Sent) → StandsAt G S N node.site
    → (N' : Marking) × StandsAt G S N' (stepped G S node one).site
stands_stepped G S N node (sent_message (Ask number site event count)) at = (N, at)
stands_stepped G S N node (sent_message (Vote number site decision)) at = (N, at)
stands_stepped G S N node (sent_message (Apply site index event)) at = heard_stands G S N node event at (is_ready node site index)
stands_stepped G S N node (sent_question q) at = (N, at)
stands_stepped G S N node (sent_answer a) at = (N, at)

-- ---- what is answered is true

-- what was put at a place stands there
set_there : {X : Type 0} (xs : List X) (k : ℕ) (x : X) → k < length xs → slice_get (set xs k x) k ≡ Some x
set_there xs k x below =
    let room = length-set xs k x in
    slice_get-get_or (set xs k x) k x (omega arith) ∙ ap Some (get_or-set_same xs k x x below)

module _ (G : Rules) (C : List Set) (M : Marking) (j : JournalState) (right : IsRightJournal G C M j) (i : ℕ) (below : i < length C) where
  -- the sites of all, which have heard of nothing
  abbrev begun : List SiteState
  begun = map (site_at G C M) (range_with_len 0 (length C))

  many : length begun ≡ length C
  many = length-map-range_with_len (site_at G C M) 0 (length C)

  -- the world of this journal and of these, where nothing was sent
  abbrev bare : WorldState
  bare = world_with M j begun [] [] []

  bare_is_right : IsRight G C M bare
  bare_is_right = record {
    is_case = right.is_case;
    opening = refl;
    alphabets = right.alphabets;
    sound = right.sound;
    out = right.out;
    as_many = many;
    sites = λ k node found.
        let within : k < length C = (let here : k < length begun = slice_get_within begun k node found in let room = many in omega arith) in
        let there : site_at G C M k ≡ node =
        sym (get_or-map-range_with_len (site_at G C M) 0 (length C) k k node within (omega arith)) ∙ get_or_from_slice_get begun k node node found in
        subst (IsNodeAt G C M j k) there (node_at_opening G C M j k);
    sent = λ k message none. absurd (none-some message none);
    gathered = right.gathered;
    questions = λ k q none. absurd (none-some q none);
    answers = λ k a none. absurd (none-some a none);
  }

  -- the same with this one at the place of the site
  with_it : (node : SiteState) → IsNodeAt G C M j i node → IsRight G C M (with_site bare i node)
  with_it node at = right_site G C M bare i node bare_is_right (let room = many in omega arith) at

  it_is_there : (node : SiteState) (site : ℕ) → site ≡ i → slice_get (with_site bare i node).sites site ≡ Some node
  it_is_there node site here = ap (λ k. slice_get (set begun i node) k) here ∙ set_there begun i node (let room = many in omega arith)

  its_own : (node : SiteState) (site : ℕ) (b : Bool) → IsNodeAt G C M j i node → (eqb site node.id && b) ≡ true → site ≡ i
  its_own node site b at ready = eqb-true site node.id (and_parts (eqb site node.id) b ready).0 ∙ at.id

  vote_true : (node : SiteState) → IsNodeAt G C M j i node → (number site event count : ℕ) → IsTrueAt G C M j (Ask number site event count)
      → (b : Bool) → is_ready node site count ≡ b
      → AreTrue G C M j (map sent_message (option_to_list (cond b (Some (Vote number site (decision_at G (row C i) node.site.mark event))) None)))
  vote_true node at number site event count is false ready = All-nil (IsTrueSent G C M j)
  vote_true node at number site event count is true ready =
      let here = its_own node site (eqb count node.count) at ready in
      let vote : IsTrueAt G C M j (Vote number site (decision_at G (row C site) node.site.mark event)) =
      vote_is_true G C M (with_site bare i node) (with_it node at) number site event count node (it_is_there node site here) is ready in
      All-cons (IsTrueSent G C M j) (sent_message (Vote number site (decision_at G (row C i) node.site.mark event))) []
      (subst (λ k. IsTrueAt G C M j (Vote number site (decision_at G (row C k) node.site.mark event))) here vote)
      (All-nil (IsTrueSent G C M j))

  answer_true : (node : SiteState) → IsNodeAt G C M j i node → (q : Question) → IsAskedAt j q → (b : Bool) → is_ready node q.site q.count ≡ b
      → AreTrue G C M j (map sent_answer (option_to_list (cond b (Some (answer_at G (row C i) node q)) None)))
  answer_true node at q is false ready = All-nil (IsTrueSent G C M j)
  answer_true node at q is true ready =
      let here = its_own node q.site (eqb q.count node.count) at ready in
      let told : IsTrueSent G C M j (sent_answer (answer_at G (row C q.site) node q)) =
      answer_is_true G C M (with_site bare i node) (with_it node at) q node (it_is_there node q.site here) is ready in
      All-cons (IsTrueSent G C M j) (sent_answer (answer_at G (row C i) node q)) []
      (subst (λ k. IsTrueSent G C M j (sent_answer (answer_at G (row C k) node q))) here told)
      (All-nil (IsTrueSent G C M j))

  one_true : (node : SiteState) → IsNodeAt G C M j i node → (one : Sent) → IsTrueSent G C M j one → AreTrue G C M j (told_to G (row C i) node one)
  one_true node at (sent_message (Ask number site event count)) is = vote_true node at number site event count is (is_ready node site count) refl
  one_true node at (sent_message (Vote number site decision)) is = All-nil (IsTrueSent G C M j)
  one_true node at (sent_message (Apply site index event)) is = All-nil (IsTrueSent G C M j)
  one_true node at (sent_question q) is = answer_true node at q is (is_ready node q.site q.count) refl
  one_true node at (sent_answer a) is = All-nil (IsTrueSent G C M j)

  -- an execution that is told to the site leaves it where it should stand
  told_its_own : (node : SiteState) → IsNodeAt G C M j i node → (site index event : ℕ) → site ≡ i → IsTrueAt G C M j (Apply site index event)
      → IsNodeAt G C M j site (site_step G (row C site) node (Apply site index event))
  told_its_own node at site index event here is =
      let message : Message = Apply site index event in
      let w : WorldState = sending (with_site bare i node) (Some message) in
      let sent : IsRight G C M w = right_sent G C M (with_site bare i node) message (with_it node at) is in
      let next : IsRight G C M (delivered_if G C w (slice_get w.sent 0)) = right_comes G C M w sent (of_executions (Deliver 0)) tt in
      let there : IsRight G C M (told_site G C w site message (slice_get w.sites site)) =
      subst (λ o. IsRight G C M (delivered_if G C w o)) (slice_get_last [] message 0 refl) next in
      let moved : IsRight G C M (told_site G C w site message (Some node)) =
      subst (λ o. IsRight G C M (told_site G C w site message o)) (it_is_there node site here) there in
      let room : site < length (set begun i node) = (let sets = length-set begun i node in let all = many in omega arith) in
      moved.sites site (site_step G (row C site) node message) (set_there (set begun i node) site (site_step G (row C site) node message) room)

  told_true : (node : SiteState) → IsNodeAt G C M j i node → (site index event : ℕ) → IsTrueAt G C M j (Apply site index event) → (b : Bool) → eqb site node.id ≡ b
      → IsNodeAt G C M j i (cond (b && eqb index node.count) (heard_one node (local_step G (row C i) node.site.mark event)) node)
  told_true node at site index event is false other = at
  told_true node at site index event is true same =
      let here : site ≡ i = eqb-true site node.id same ∙ at.id in
      subst (λ b. IsNodeAt G C M j i (cond (b && eqb index node.count) (heard_one node (local_step G (row C i) node.site.mark event)) node)) same
      (subst (λ k. IsNodeAt G C M j k (site_step G (row C k) node (Apply site index event))) here (told_its_own node at site index event here is))

  steps_true : (node : SiteState) → IsNodeAt G C M j i node → (one : Sent) → IsTrueSent G C M j one → IsNodeAt G C M j i (stepped G (row C i) node one)
  steps_true node at (sent_message (Ask number site event count)) is = at
  steps_true node at (sent_message (Vote number site decision)) is = at
  steps_true node at (sent_message (Apply site index event)) is = told_true node at site index event is (eqb site node.id) refl
  steps_true node at (sent_question q) is = at
  steps_true node at (sent_answer a) is = at

  pub all_true : (asked : List Sent) (node : SiteState) → IsNodeAt G C M j i node → AreTrue G C M j asked → AreTrue G C M j (told_by G (row C i) node asked)
  unfolding told_by
  all_true [] node at are = All-nil (IsTrueSent G C M j)
  all_true (one ∷ asked) node at are =
      let first = All-head (IsTrueSent G C M j) one asked are in
      let next = stepped G (row C i) node one in
      All-append (IsTrueSent G C M j) (told_to G (row C i) node one) (told_by G (row C i) next asked)
      (one_true node at one first) (all_true asked next (steps_true node at one first) (All-tail (IsTrueSent G C M j) one asked are))
