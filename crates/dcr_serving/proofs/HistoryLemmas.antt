-- What holds of a session by what its pass has seen holds by the whole history.
use Rattle.std.proofs.Common.{◌≡◌, ◌⊎◌, ℕ, ◌+◌, ◌<◌, ◌≤◌, List, [], ◌∷◌, ◌++◌, length, get_or, map, drop, Option, Some, sym, ap, subst, ◌∙◌, arith, inl, inr}
use Rattle.std.specs.Prelude.{slice_get}
use Rattle.std.proofs.lemmas.List.{append-nil, get_or_append_left, length-append}
use Rattle.std.proofs.lemmas.Option.{get_or_from_slice_get, slice_get-get_or, slice_get_within}
use Rattle.dcr_base.specs.Link.{Links}
use Rattle.dcr_graph.specs.Rules.{Rules}
use Rattle.dcr_graph.specs.declared.marking.Marking.{Marking}
use Rattle.dcr_set.specs.EventSet.{Set}
use Rattle.dcr_journal.specs.Run.{IsLegal}
use Rattle.dcr_journal.specs.declared.call.Entry.{Entry}
use Rattle.dcr_journal.specs.declared.call.Outcome.TheVariants.{Faulted}
use Rattle.dcr_journal.proofs.SoundLemmas.{answer_no_fault}
use Rattle.dcr_tape.specs.declared.tape.Store.{Store}
use Rattle.dcr_turn.specs.PassValue.{HasMadeAll, PassValue}
use Rattle.dcr_cluster.specs.Calls.{Shows}
use Rattle.dcr_cluster.specs.declared.halt.Halt.{Halt}
use Rattle.dcr_cluster.specs.declared.halt.Halt.TheVariants.{Full, Stopped}
use Rattle.dcr_link.specs.Replies.{Placed, Terms, call_of, made_since, replies}
use Rattle.dcr_link.specs.Serving.{AnyRose, EndsBy, Served}
use Rattle.dcr_link.specs.declared.end.WorkCause.{WorkCause}
use Rattle.dcr_link.specs.declared.end.WorkCause.TheVariants.{Ended, LinkFault, LongLine, ManyLines, Halted, NoMemory}
use Rattle.dcr_link.specs.declared.end.WorkEnd.{WorkEnd}
use Rattle.dcr_link.proofs.ReplyLemmas.{placed_seen}
use Rattle.dcr_serving.specs.History.{pass_in}
use Rattle.dcr_serving.specs.Serving.{IsServedOf, new_pass}
use Rattle.dcr_serving.specs.declared.end.LinkEnd.{LinkEnd}

-- where a call halted nothing comes after what was seen
shows_whole : {D : Type 0} (G : Rules) (C : List Set) (M : Marking) (first : Option (Store D)) (capacity : ℕ) (front rest H : List Entry) (halt : Halt) → front ++ rest ≡ H → IsLegal G C M H → length H ≤ capacity
    → Shows first capacity front halt → length rest ≡ 0
shows_whole G C M first capacity front rest H (Full most) whole legal few shows =
    let long : length H ≡ length front + length rest = ap (λ (l : List Entry). length l) (sym whole) ∙ length-append front rest in
    let full = shows.1 in
    omega (arith, long, full, few)
shows_whole G C M first capacity front rest H (Stopped at) whole legal few shows =
    let entry = shows.2.0 in
    let is = shows.2.1 in
    let fault : entry.outcome ≡ Faulted = shows.2.2 in
    let within : at < length front = slice_get_within front at entry is in
    let long : length H ≡ length front + length rest = ap (λ (l : List Entry). length l) (sym whole) ∙ length-append front rest in
    let here : slice_get H at ≡ Some entry =
    slice_get-get_or H at entry (omega (arith, long, within))
    ∙ ap Some (ap (λ (l : List Entry). get_or l at entry) (sym whole) ∙ get_or_append_left front rest entry at within ∙ get_or_from_slice_get front at entry entry is) in
    elim ((legal at entry here).outcome) [
      | inl answered ↦ absurd (answer_no_fault G C _ entry.call (sym answered ∙ fault))
      | inr last ↦ (let at_last = last.last in let at_front = shows.1 in omega (arith, long, at_last, at_front))
    ]

none_behind : (front rest H : List Entry) → front ++ rest ≡ H → length rest ≡ 0 → front ≡ H
none_behind front [] H whole none = sym (append-nil front) ∙ whole
none_behind front (entry ∷ rest) H whole none = absurd (omega (arith, none))

shows_in : {D : Type 0} (G : Rules) (C : List Set) (M : Marking) (first : Option (Store D)) (capacity : ℕ) (pass : PassValue) (H : List Entry) (halt : Halt) → HasMadeAll pass H → IsLegal G C M H → length H ≤ capacity
    → Shows first capacity pass.front halt → Shows first capacity H halt
shows_in G C M first capacity pass H halt all legal few shows =
    subst (λ (l : List Entry). Shows first capacity l halt)
    (none_behind pass.front all.seen.rest H all.seen.whole (shows_whole G C M first capacity pass.front all.seen.rest H halt all.seen.whole legal few shows)) shows

fewer_too : (m n k : ℕ) → m ≡ n → n < k → m < k
fewer_too m n k same fewer = omega (arith, same, fewer)

module _ {D : Type 0} (first : Option (Store D)) (capacity : ℕ) (terms : Terms) (asked : List ℕ) (pass : PassValue) (H : List Entry) (written : List ℕ) (failed : Type 0)
    (all : HasMadeAll pass H) (shows : (halt : Halt) → Shows first capacity pass.front halt → Shows first capacity H halt) where
  abbrev pub before : PassValue
  before = new_pass pass.session

  abbrev pub after : PassValue
  after = pass_in H pass.session

  same : made_since before after ≡ made_since before pass
  same = ap (λ (l : List Placed). drop 0 l) (placed_seen pass H all)

  many : (n : ℕ) → length (made_since before pass) ≡ n → length (made_since before after) ≡ n
  many n is = ap (λ (l : List Placed). length l) same ∙ is

  said : (cause : WorkCause) (text : List ℕ) → text ≡ replies terms pass.session asked (made_since before pass) cause → text ≡ replies terms pass.session asked (made_since before after) cause
  said cause text is = is ∙ ap (λ (l : List Placed). replies terms pass.session asked l cause) (sym same)

  said_or : (cause : WorkCause) → (written ≡ replies terms pass.session asked (made_since before pass) cause) ⊎ failed → (written ≡ replies terms pass.session asked (made_since before after) cause) ⊎ failed
  said_or cause (inl is) = inl (said cause written is)
  said_or cause (inr fault) = inr fault

  ends_in : (cause : WorkCause) → EndsBy first capacity terms asked before pass written failed cause → EndsBy first capacity terms asked before after written failed cause
  ends_in Ended ends = (ends.0, many _ ends.1, said Ended written ends.2, ends.3, ends.4)
  ends_in LinkFault ends = ends
  ends_in LongLine ends = (ends.0, many _ ends.1, said_or LongLine ends.2)
  ends_in ManyLines ends = (ends.0, many _ ends.1, said_or ManyLines ends.2)
  ends_in (Halted halt) ends = (fewer_too _ _ _ (ap (λ (l : List Placed). length l) same) ends.0, shows halt ends.1, said_or (Halted halt) ends.2)
  ends_in NoMemory ends = tt

  pub served_in : (end : WorkEnd) → Served first capacity terms asked before pass written failed end → Served first capacity terms asked before after written failed end
  served_in end served = record {
    calls = served.calls ∙ sym (ap (λ (l : List Placed). length l) same);
    in_order = ap (map call_of) same ∙ served.in_order;
    rest = served.rest;
    replied = said end.cause (written ++ served.rest) served.replied;
    ends = ends_in end.cause served.ends;
  }

-- the session as the history tells it
pub session_in : {D L R : Type 0} (tells : Links L R) (G : Rules) (C : List Set) (M : Marking) (first : Option (Store D)) (capacity : ℕ) (terms : Terms) (links : Option (List L))
    (pass : PassValue) (end : LinkEnd L R) (H : List Entry) → HasMadeAll pass H → IsLegal G C M H → length H ≤ capacity
    → IsServedOf tells first capacity terms links pass end → IsServedOf tells first capacity terms links (pass_in H pass.session) end
session_in tells G C M first capacity terms links pass end H all legal few over =
    let shows : (halt : Halt) → Shows first capacity pass.front halt → Shows first capacity H halt = (λ halt. shows_in G C M first capacity pass H halt all legal few) in
    record {
      link = over.link;
      number = over.number;
      session = over.session;
      served = record {
        unfailed = over.served.unfailed;
        calls = over.served.calls ∙ all.made;
        serves = λ asked is_left.
            let told = over.served.serves asked is_left in
            (told.0, told.1, served_in first capacity terms asked pass H told.0 (AnyRose (tells.gives over.link).faults (tells.unread end.rest).faults (tells.takes over.link).faults (tells.sent end.rest).faults) all shows end.end told.2);
        ended = over.served.ended;
        counts = over.served.counts;
        halted = λ halt is. shows halt (over.served.halted halt is);
        told = over.served.told;
      };
    }
