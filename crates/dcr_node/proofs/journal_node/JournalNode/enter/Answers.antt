use Rattle.std.proofs.Common.{◌≡◌, ℕ, ◌+◌, ◌≤◌, [], ◌∷◌, ◌++◌, List, length, set, None, sym, ap, subst, ◌∙◌, arith, length-set}
use Rattle.std.specs.Vec.{with_items}
use Rattle.std.proofs.lemmas.Grind.{get_or_default_zero}
use Rattle.std.proofs.lemmas.List.{with_items_is, length-append, length-replicate}
use Rattle.std.proofs.lemmas.List.Sums.{count_by-le-length}
use Rattle.std.proofs.lemmas.Option.{none-some}
use Rattle.dcr_journal.specs.JournalValue.{History}
use Rattle.dcr_journal.specs.Run.{made_by}
use Rattle.dcr_journal.specs.declared.call.Call.TheVariants.{Exec}
use Rattle.dcr_journal.specs.declared.call.Outcome.{Outcome}
use Rattle.dcr_journal.specs.declared.call.Entry.{Entry}
use Rattle.dcr_journal.specs.Answer.{outcome_decided}
use Rattle.dcr_node.specs.Gathering.{nothing_told, nothing_gathered}
use Rattle.dcr_node.specs.JournalState.{JournalState, execution, entry_of, with_entry}
use Rattle.dcr_node.specs.JournalNodeModel.{journal_state_of, IsOut}
use Rattle.dcr_node.specs.Streams.{HaveRoom, AreTold}
use Rattle.dcr_node.proofs.JournalLemmas.{AreStreams, streams_more, streams_have_room, AreMade, made_more}
use Rattle.dcr_node.proofs.journal_node.JournalNode.enter.Goals as goal
use Rattle.dcr_node.proofs.journal_node.JournalNode.enter.Goals.{After-index_mut-made}

-- the proposal that is out
out : (c : After-index_mut-made) → IsOut (journal_state_of c.self.inside) (execution c.args.p.now.session c.args.p.now.site c.args.p.now.event)
out c = c.self.invariant.out (execution c.args.p.now.session c.args.p.now.site c.args.p.now.event) (ap (λ (j : JournalState). j.out) c.self.view_is ∙ c.requires)

-- how many entries its session has
made : (c : After-index_mut-made) → c.index_mut-made.result.now ≡ made_by c.args.p.now.session c.self.inside.journal.entries
made c =
    let below = (out c).proposal.session in
    c.index_mut-made.ensures.value
    ∙ get_or_default_zero c.self.inside.made.items c.args.p.now.session c.index_mut-made.result.now below
    ∙ c.self.invariant.made c.args.p.now.session below

pub overflow_add-made : goal.overflow_add-made
overflow_add-made c =
    let b = (goal.at.overflow_add-made c).After-index_mut-made in
    let few : made_by c.args.p.now.session c.self.inside.journal.entries ≤ length c.self.inside.journal.entries = count_by-le-length _ c.self.inside.journal.entries in
    let same = made b in let room = (out b).room in let most = c.self.invariant.most in omega arith

pub tell-requires-clause-rooms : goal.tell-requires-clause-rooms
tell-requires-clause-rooms c =
    let b = (goal.at.tell-requires-clause-rooms c).After-index_mut-made in
    subst HaveRoom (sym c.deref_mut.ensures.value) (streams_have_room (journal_state_of c.self.inside) c.self.inside.streams.items c.self.invariant.streams (out b).room)

pub invariant_of-self : goal.invariant_of-self
invariant_of-self c =
    let b = (goal.at.invariant_of-self c).After-index_mut-made in
    let j = journal_state_of c.self.inside in
    let p = c.args.p.now in
    let entry = entry_of j (execution p.session p.site p.event) (outcome_decided c.args.decision.now) in
    let n = c.index_mut-made.result.now in
    let session = p.session in
    let told : (seq : ℕ) (o : Outcome) → List Entry =
    λ seq o. c.self.inside.journal.entries ++ record { session = session; seq = seq; call = Exec p.site p.event; outcome = o } ∷ [] in
    let entries : c.push_call.new.self.entries ≡ c.self.inside.journal.entries ++ entry ∷ [] =
    c.push_call.ensures.entries ∙ ap (λ seq. told seq c.outcome_of-outcome.result) (made b) ∙ ap (told (made_by session c.self.inside.journal.entries)) c.outcome_of-outcome.ensures in
    let capacity = c.push_call.ensures.capacity in
    let streams : (with_items c.self.inside.streams c.tell.new.streams).items ≡ c.tell.new.streams =
    with_items_is c.self.inside.streams c.tell.new.streams (c.tell.auto.streams ∙ c.deref_mut.ensures.len) in
    let j' : JournalState = record { alphabets = j.alphabets; history = c.push_call.new.self; sessions = length (set c.self.inside.made.items session (n + 1)); out = None; gathered = c.forget.new.gathered.items } in
    let state : List Entry → ℕ → ℕ → JournalState =
    λ es most sessions. (let history : History = record { entries = es; capacity = most } in record { alphabets = j.alphabets; history = history; sessions = sessions; out = None; gathered = nothing_gathered (length j.alphabets) }) in
    let same : with_entry j entry ≡ j' =
    ap (λ es. state es j.history.capacity j.sessions) (sym entries)
    ∙ ap (λ most. state c.push_call.new.self.entries most j.sessions) (sym capacity)
    ∙ ap (λ sessions. state c.push_call.new.self.entries c.push_call.new.self.capacity sessions) (sym (length-set c.self.inside.made.items session (n + 1)))
    ∙ ap (λ g. record j' { gathered = g }) (sym (c.forget.ensures ∙ ap nothing_gathered c.self.invariant.gathered)) in
    record {
      network = c.self.invariant.network;
      most = (let most = c.self.invariant.most in omega arith);
      within = (let room = (out b).room in let long = ap (λ es. length es) entries in let more = length-append c.self.inside.journal.entries (entry ∷ []) in omega arith);
      made = subst (λ J. AreMade J (set c.self.inside.made.items session (n + 1))) (sym entries)
          (made_more c.self.inside.journal.entries c.self.inside.made.items entry n c.self.invariant.made (out b).proposal.session (made b));
      as_many = ap (λ s. length s) streams ∙ c.tell.ensures.as_many ∙ ap (λ s. length s) c.deref_mut.ensures.value ∙ c.self.invariant.as_many;
      streams = subst (AreStreams j') (sym streams)
          (subst (λ k. AreStreams k c.tell.new.streams) same
          (streams_more j p c.args.decision.now c.self.inside.streams.items c.tell.new.streams c.self.invariant.streams
          (subst (λ before. AreTold c.self.inside.network p.event c.args.decision.now before c.tell.new.streams) c.deref_mut.ensures.value c.tell.ensures)));
      out = λ q none. absurd (none-some q none);
      gathered = ap (λ g. length g) c.forget.ensures ∙ length-replicate (length c.self.inside.gathered.items) nothing_told ∙ c.self.invariant.gathered;
    }
