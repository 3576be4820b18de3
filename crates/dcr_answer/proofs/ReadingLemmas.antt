-- Bytes that begin nothing by which a site is asked.
use Rattle.std.proofs.Common.{◌≡◌, ◌≢◌, ◌⊎◌, ℕ, ◌<◌, ◌≤◌, List, [], ◌++◌, length, inl, inr, sym, ap, subst, ◌∙◌, arith}
use Rattle.std.specs.Prelude.{slice_index}
use Rattle.std.proofs.lemmas.List.{append-nil, length-append, nil_from_length}
use Rattle.std.proofs.lemmas.Option.{same_Some}
use Rattle.dcr_wire.specs.Form.{fields_of, Spell}
use Rattle.dcr_wire.specs.QuestionForm.{SpellQuestion}
use Rattle.dcr_wire.specs.Laws.{Sent, sent_message, sent_question, sent_answer, SpellSent, length_told}
use Rattle.dcr_wire.specs.declared.message.Message.{Message}
use Rattle.dcr_wire.specs.declared.message.Message.TheVariants.{Ask, Vote, Apply}
use Rattle.dcr_wire.specs.declared.question.Question.{Question}
use Rattle.dcr_wire.proofs.WireLemmas.{have_fourteen}
use Rattle.dcr_node.specs.SiteState.{SiteState}
use Rattle.dcr_talk.specs.Frames.{HasNoFrame}
use Rattle.dcr_talk.proofs.FrameLemmas.{first_byte, one_frame, told_is_long}
use Rattle.dcr_answer.specs.Reading.{IsAsk, IsInRange, BeginsNoAsk, BeginsNone, SpellNext}
use Rattle.dcr_answer.specs.declared.next.Next.TheVariants as next

-- fewer bytes than the shortest has
pub too_few : (bytes : List ℕ) → length bytes < 12 → HasNoFrame bytes
too_few bytes few n told = let long = told_is_long (slice_index bytes 0) n told in omega arith

-- fewer than its kind has
pub too_few_of : (bytes : List ℕ) → (slice_index bytes 0 ≡ 1) ⊎ (slice_index bytes 0 ≡ 3) → length bytes < 14 → HasNoFrame bytes
too_few_of bytes (inl kind) few n told = let same : 14 ≡ n = same_Some 14 n (sym (ap length_told kind) ∙ told) in omega arith
too_few_of bytes (inr kind) few n told = let same : 14 ≡ n = same_Some 14 n (sym (ap length_told kind) ∙ told) in omega arith

-- a message is of its kind, and a question of its own
kind_of_message : (bytes more : List ℕ) (m : Message) → 12 ≤ length bytes → Spell (bytes ++ more) m → slice_index bytes 0 ≡ (fields_of m).kind
kind_of_message bytes more m long spelled = sym (first_byte bytes more long) ∙ ap (λ xs. slice_index xs 0) spelled.same

kind_of_question : (bytes more : List ℕ) (q : Question) → 12 ≤ length bytes → SpellQuestion (bytes ++ more) q → slice_index bytes 0 ≡ 4
kind_of_question bytes more q long spelled = sym (first_byte bytes more long) ∙ ap (λ xs. slice_index xs 0) spelled.same

-- bytes of another kind
pub other_kind : (bytes : List ℕ) → 12 ≤ length bytes → slice_index bytes 0 ≢ 1 → slice_index bytes 0 ≢ 3 → slice_index bytes 0 ≢ 4 → BeginsNoAsk bytes
other_kind bytes long no_ask no_apply no_question more (sent_message (Ask number site event count)) ask spelled =
    no_ask (kind_of_message bytes more (Ask number site event count) long spelled)
other_kind bytes long no_ask no_apply no_question more (sent_message (Vote number site decision)) ask spelled = ask
other_kind bytes long no_ask no_apply no_question more (sent_message (Apply site index event)) ask spelled =
    no_apply (kind_of_message bytes more (Apply site index event) long spelled)
other_kind bytes long no_ask no_apply no_question more (sent_question q) ask spelled = no_question (kind_of_question bytes more q long spelled)
other_kind bytes long no_ask no_apply no_question more (sent_answer a) ask spelled = ask

-- nothing is behind what is long enough
whole : (bytes more : List ℕ) (n : ℕ) → length bytes ≡ n → length (bytes ++ more) ≡ n → bytes ++ more ≡ bytes
whole bytes more n long all =
    let both = length-append bytes more in
    ap (λ m. bytes ++ m) (nil_from_length more (omega arith)) ∙ append-nil bytes

-- as many bytes as a message has, of such a kind, which are none
pub no_message : (bytes : List ℕ) → length bytes ≡ 14 → (slice_index bytes 0 ≡ 1) ⊎ (slice_index bytes 0 ≡ 3) → ((m : Message) → Spell bytes m → ⊥) → BeginsNoAsk bytes
no_message bytes long kind none more (sent_message m) ask spelled =
    none m (subst (λ b. Spell b m) (whole bytes more 14 long (have_fourteen (bytes ++ more) m spelled)) spelled)
no_message bytes long (inl kind) none more (sent_question q) ask spelled =
    let other = kind_of_question bytes more q (omega arith) spelled in absurd (omega arith)
no_message bytes long (inr kind) none more (sent_question q) ask spelled =
    let other = kind_of_question bytes more q (omega arith) spelled in absurd (omega arith)
no_message bytes long kind none more (sent_answer a) ask spelled = ask

-- and as many as a question has
pub no_question : (bytes : List ℕ) → length bytes ≡ 12 → slice_index bytes 0 ≡ 4 → ((q : Question) → SpellQuestion bytes q → ⊥) → BeginsNoAsk bytes
no_question bytes long kind none more (sent_message (Ask number site event count)) ask spelled =
    let other : slice_index bytes 0 ≡ 1 = kind_of_message bytes more (Ask number site event count) (omega arith) spelled in absurd (omega arith)
no_question bytes long kind none more (sent_message (Vote number site decision)) ask spelled = ask
no_question bytes long kind none more (sent_message (Apply site index event)) ask spelled =
    let other : slice_index bytes 0 ≡ 3 = kind_of_message bytes more (Apply site index event) (omega arith) spelled in absurd (omega arith)
no_question bytes long kind none more (sent_question q) ask spelled =
    none q (subst (λ b. SpellQuestion b q) (whole bytes more 12 long (ap (λ xs. length xs) spelled.same)) spelled)
no_question bytes long kind none more (sent_answer a) ask spelled = ask

-- a message of such a kind is one by which a site is asked
pub is_ask : (bytes : List ℕ) (m : Message) → (slice_index bytes 0 ≡ 1) ⊎ (slice_index bytes 0 ≡ 3) → Spell bytes m → IsAsk (sent_message m)
is_ask bytes (Ask number site event count) kind spelled = tt
is_ask bytes (Vote number site decision) (inl kind) spelled =
    let other : slice_index bytes 0 ≡ 2 = ap (λ xs. slice_index xs 0) spelled.same in absurd (omega arith)
is_ask bytes (Vote number site decision) (inr kind) spelled =
    let other : slice_index bytes 0 ≡ 2 = ap (λ xs. slice_index xs 0) spelled.same in absurd (omega arith)
is_ask bytes (Apply site index event) kind spelled = tt

-- a message whose bytes came in two pieces, of such a kind by the first of them
kind_of_both : (first last : List ℕ) → length first ≡ 12 → (slice_index first 0 ≡ 1) ⊎ (slice_index first 0 ≡ 3)
    → (slice_index (first ++ last) 0 ≡ 1) ⊎ (slice_index (first ++ last) 0 ≡ 3)
kind_of_both first last long (inl kind) = inl (first_byte first last (omega arith) ∙ kind)
kind_of_both first last long (inr kind) = inr (first_byte first last (omega arith) ∙ kind)

pub message_read : (first last bytes : List ℕ) (m : Message) → bytes ≡ first ++ last → length first ≡ 12 → (slice_index first 0 ≡ 1) ⊎ (slice_index first 0 ≡ 3) → Spell bytes m
    → SpellNext (first ++ last) (next.Message m)
message_read first last bytes m is long kind spelled =
    let both : Spell (first ++ last) m = subst (λ b. Spell b m) is spelled in
    record { spelled = both; ask = is_ask (first ++ last) m (kind_of_both first last long kind) both }

pub none_read : (first last bytes : List ℕ) → bytes ≡ first ++ last → length first ≡ 12 → length last ≡ 2 → (slice_index first 0 ≡ 1) ⊎ (slice_index first 0 ≡ 3)
    → ((m : Message) → Spell bytes m → ⊥) → BeginsNoAsk (first ++ last)
none_read first last bytes is long few kind none =
    no_message (first ++ last) (let all = length-append first last in omega arith) (kind_of_both first last long kind)
    (λ m spelled. none m (subst (λ b. Spell b m) (sym is) spelled))

-- ---- one that may not be asked

-- what is out of the site's range begins nothing by which it may be asked
pub out_of_range : (node : SiteState) (bytes : List ℕ) (one : Sent) → SpellSent bytes one → (IsInRange node one → ⊥) → BeginsNone node bytes
out_of_range node bytes one spelled out more two may others =
    let both = one_frame bytes more (bytes ++ more) [] one two spelled others (sym (append-nil (bytes ++ more))) in
    out (subst (IsInRange node) (sym both.2) may.in_range)

-- by which a site is asked there are fourteen bytes at most
pub not_long : (bytes : List ℕ) (one : Sent) → IsAsk one → SpellSent bytes one → length bytes ≤ 14
not_long bytes (sent_message m) ask spelled = let long = have_fourteen bytes m spelled in omega arith
not_long bytes (sent_question q) ask spelled = let long : length bytes ≡ 12 = ap (λ xs. length xs) spelled.same in omega arith
not_long bytes (sent_answer a) ask spelled = absurd ask
