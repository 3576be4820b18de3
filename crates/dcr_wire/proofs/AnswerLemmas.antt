-- The bytes of a question and of an answer mean it.
use Rattle.std.proofs.Common.{◌≡◌, ℕ, ◌≤◌, eqb, cond, List, [], ◌∷◌, length, take, Some, None, refl, sym, ap, ◌∙◌, arith}
use Rattle.std.specs.Prelude.{slice_index}
use Rattle.std.proofs.lemmas.Nat.{from_be_bytes-to_be_bytes_2, from_be_bytes-to_be_bytes_4}
use Rattle.dcr_set.specs.EventSet.{Set, those}
use Rattle.dcr_wire.specs.Form.{bytes_of, fields_of}
use Rattle.dcr_wire.specs.PacketModel.{two_at, four_at}
use Rattle.dcr_wire.specs.QuestionForm.{asked_number, fields_of_question, question_bytes, HaveQuestionWidths, SpellQuestion}
use Rattle.dcr_wire.specs.SetForm.{bit_from, HasSet}
use Rattle.dcr_wire.specs.AnswerForm.{told_number, told_event, first_set, second_set, third_set, head_of, head_bytes, HaveHeadWidths, SpellAnswer, IsTold}
use Rattle.dcr_wire.specs.Laws.{sent_message, sent_question, sent_answer, length_told, LengthIsTold, SpellOneSent}
use Rattle.dcr_wire.specs.declared.answer.Told.{Told}
use Rattle.dcr_wire.specs.declared.answer.Told.TheVariants as told
use Rattle.dcr_wire.specs.declared.answer.Answer.{Answer}
use Rattle.dcr_wire.specs.declared.head.Head.{Head}
use Rattle.dcr_wire.specs.declared.message.Message.{Message}
use Rattle.dcr_wire.specs.declared.message.Message.TheVariants.{Ask, Vote, Apply}
use Rattle.dcr_wire.specs.declared.question.Asked.{Asked}
use Rattle.dcr_wire.specs.declared.question.Asked.TheVariants.{Marks, Can, Waits}
use Rattle.dcr_wire.specs.declared.question.Question.{Question}
use Rattle.dcr_wire.proofs.SetFormLemmas.{set_means}
use Rattle.dcr_wire.proofs.WireLemmas.{have_fourteen, spell_one}

-- ---- questions

-- what is asked by its number
abbrev asked_meant : ℕ → Asked
asked_meant number = cond (eqb number 0) Marks (cond (eqb number 1) Can Waits)

asked_back : (a : Asked) → asked_meant (asked_number a) ≡ a
asked_back Marks = refl
asked_back Can = refl
asked_back Waits = refl

abbrev question_meant : List ℕ → Question
question_meant bytes = record { number = four_at bytes 3; site = two_at bytes 1; asked = asked_meant (slice_index bytes 7); count = four_at bytes 8 }

question_means : (q : Question) → HaveQuestionWidths (fields_of_question q) → question_meant (question_bytes (fields_of_question q)) ≡ q
question_means q fits =
    let bytes = question_bytes (fields_of_question q) in
    let made : ℕ → ℕ → Asked → ℕ → Question = λ n s a c. record { number = n; site = s; asked = a; count = c } in
    ap (λ n. made n (two_at bytes 1) (asked_meant (asked_number q.asked)) (four_at bytes 8)) (from_be_bytes-to_be_bytes_4 q.number fits.number)
    ∙ ap (λ s. made q.number s (asked_meant (asked_number q.asked)) (four_at bytes 8)) (from_be_bytes-to_be_bytes_2 q.site fits.site)
    ∙ ap (λ a. made q.number q.site a (four_at bytes 8)) (asked_back q.asked)
    ∙ ap (λ c. made q.number q.site q.asked c) (from_be_bytes-to_be_bytes_4 q.count fits.count)

one_question : (bytes : List ℕ) (one other : Question) → SpellQuestion bytes one → SpellQuestion bytes other → one ≡ other
one_question bytes one other first second =
    sym (ap question_meant first.same ∙ question_means one first.fits) ∙ (ap question_meant second.same ∙ question_means other second.fits)

-- ---- answers

-- what is told that has these parts
abbrev told_meant : ℕ → ℕ → Set → Set → Set → Told
told_meant number event first second third =
    cond (eqb number 0) (told.Marks (record { executed = first; pending = second; included = third }))
    (cond (eqb number 1) (told.Can first) (cond (eqb number 2) (told.Waits None) (told.Waits (Some event))))

told_back : (t : Told) → told_meant (told_number t) (told_event t) (first_set t) (second_set t) (third_set t) ≡ t
told_back (told.Marks mark) = refl
told_back (told.Can events) = refl
told_back (told.Waits None) = refl
told_back (told.Waits (Some event)) = refl

-- the answer of these numbers and these bytes
abbrev answer_meant : List ℕ → List ℕ → Answer
answer_meant head bytes = record {
  number = four_at head 3;
  site = two_at head 1;
  told = told_meant (slice_index head 7) (two_at head 8) (those (two_at head 10) (bit_from bytes 16)) (those (two_at head 12) (bit_from bytes 144))
      (those (two_at head 14) (bit_from bytes 272));
}

-- what the parts of an answer mean
parts_mean : (bytes : List ℕ) (a : Answer) → SpellAnswer bytes a → answer_meant (head_bytes (head_of a)) bytes ≡ a
parts_mean bytes a spelled =
    let fits = spelled.fits in
    let t = a.told in
    let h = head_bytes (head_of a) in
    let made : ℕ → ℕ → Told → Answer = λ n s x. record { number = n; site = s; told = x } in
    let sets : Set → Set → Set → Told = λ first second third. told_meant (told_number t) (told_event t) first second third in
    let first = those (two_at h 10) (bit_from bytes 16) in
    let second = those (two_at h 12) (bit_from bytes 144) in
    let third = those (two_at h 14) (bit_from bytes 272) in
    ap (λ n. made n (two_at h 1) (told_meant (told_number t) (two_at h 8) first second third)) (from_be_bytes-to_be_bytes_4 a.number fits.number)
    ∙ ap (λ s. made a.number s (told_meant (told_number t) (two_at h 8) first second third)) (from_be_bytes-to_be_bytes_2 a.site fits.site)
    ∙ ap (λ e. made a.number a.site (told_meant (told_number t) e first second third)) (from_be_bytes-to_be_bytes_2 (told_event t) fits.event)
    ∙ ap (λ n. made a.number a.site (sets (those n (bit_from bytes 16)) second third)) (from_be_bytes-to_be_bytes_2 (length (first_set t)) fits.first)
    ∙ ap (λ s. made a.number a.site (sets s second third)) (set_means bytes 16 (first_set t) spelled.first)
    ∙ ap (λ n. made a.number a.site (sets (first_set t) (those n (bit_from bytes 144)) third)) (from_be_bytes-to_be_bytes_2 (length (second_set t)) fits.second)
    ∙ ap (λ s. made a.number a.site (sets (first_set t) s third)) (set_means bytes 144 (second_set t) spelled.second)
    ∙ ap (λ n. made a.number a.site (sets (first_set t) (second_set t) (those n (bit_from bytes 272)))) (from_be_bytes-to_be_bytes_2 (length (third_set t)) fits.third)
    ∙ ap (λ s. made a.number a.site (sets (first_set t) (second_set t) s)) (set_means bytes 272 (third_set t) spelled.third)
    ∙ ap (made a.number a.site) (told_back t)

one_answer : (bytes : List ℕ) (one other : Answer) → SpellAnswer bytes one → SpellAnswer bytes other → one ≡ other
one_answer bytes one other first second =
    sym (ap (λ h. answer_meant h bytes) first.head ∙ parts_mean bytes one first) ∙ (ap (λ h. answer_meant h bytes) second.head ∙ parts_mean bytes other second)

-- ---- reading an answer

-- the numbers that bytes mean
abbrev head_meant : List ℕ → Head
head_meant bytes = record {
  kind = slice_index bytes 0;
  site = two_at bytes 1;
  number = four_at bytes 3;
  told = slice_index bytes 7;
  event = two_at bytes 8;
  first = two_at bytes 10;
  second = two_at bytes 12;
  third = two_at bytes 14;
}

head_means : (h : Head) → HaveHeadWidths h → head_meant (head_bytes h) ≡ h
head_means h fits =
    let b = head_bytes h in
    let made : ℕ → ℕ → ℕ → ℕ → ℕ → ℕ → Head = λ s n e f g i. record { kind = h.kind; site = s; number = n; told = h.told; event = e; first = f; second = g; third = i } in
    ap (λ s. made s (four_at b 3) (two_at b 8) (two_at b 10) (two_at b 12) (two_at b 14)) (from_be_bytes-to_be_bytes_2 h.site fits.site)
    ∙ ap (λ n. made h.site n (two_at b 8) (two_at b 10) (two_at b 12) (two_at b 14)) (from_be_bytes-to_be_bytes_4 h.number fits.number)
    ∙ ap (λ e. made h.site h.number e (two_at b 10) (two_at b 12) (two_at b 14)) (from_be_bytes-to_be_bytes_2 h.event fits.event)
    ∙ ap (λ f. made h.site h.number h.event f (two_at b 12) (two_at b 14)) (from_be_bytes-to_be_bytes_2 h.first fits.first)
    ∙ ap (λ g. made h.site h.number h.event h.first g (two_at b 14)) (from_be_bytes-to_be_bytes_2 h.second fits.second)
    ∙ ap (λ i. made h.site h.number h.event h.first h.second i) (from_be_bytes-to_be_bytes_2 h.third fits.third)

-- bytes have one head
pub head_one : (bytes : List ℕ) (one other : Head) → HaveHeadWidths one → HaveHeadWidths other → bytes ≡ head_bytes one → bytes ≡ head_bytes other → one ≡ other
head_one bytes one other fits_one fits_other is_one is_other = sym (ap head_meant is_one ∙ head_means one fits_one) ∙ (ap head_meant is_other ∙ head_means other fits_other)

-- the numbers of an answer that these bytes spell are those that were read
pub head_read : (bytes : List ℕ) (h : Head) (a : Answer) → HaveHeadWidths h → take 16 bytes ≡ head_bytes h → SpellAnswer bytes a → head_of a ≡ h
head_read bytes h a fits is spelled = head_one (take 16 bytes) (head_of a) h spelled.fits fits spelled.head is

-- bytes have one set with a room at a place
pub set_one : (bytes : List ℕ) (place : ℕ) (one other : Set) → HasSet bytes place one → HasSet bytes place other → length one ≡ length other → one ≡ other
set_one bytes place one other has_one has_other same =
    sym (set_means bytes place one has_one) ∙ ap (λ n. those n (bit_from bytes place)) same ∙ set_means bytes place other has_other

-- the parts that were read are those of each answer that the bytes spell
pub told_read : (bytes : List ℕ) (h : Head) (first second third : Set) (a : Answer) → HaveHeadWidths h → take 16 bytes ≡ head_bytes h
    → (length first ≡ h.first) × HasSet bytes 16 first → (length second ≡ h.second) × HasSet bytes 144 second → (length third ≡ h.third) × HasSet bytes 272 third
    → SpellAnswer bytes a → IsTold h.told h.event first second third a.told
told_read bytes h first second third a fits is has_first has_second has_third spelled =
    let same = head_read bytes h a fits is spelled in record {
      number = ap (λ (x : Head). x.told) same;
      event = ap (λ (x : Head). x.event) same;
      first = set_one bytes 16 (first_set a.told) first spelled.first has_first.1 (ap (λ (x : Head). x.first) same ∙ sym has_first.0);
      second = set_one bytes 144 (second_set a.told) second spelled.second has_second.1 (ap (λ (x : Head). x.second) same ∙ sym has_second.0);
      third = set_one bytes 272 (third_set a.told) third spelled.third has_third.1 (ap (λ (x : Head). x.third) same ∙ sym has_third.0);
    }

-- ---- all five kinds

twelve : (bytes : List ℕ) (q : Question) → SpellQuestion bytes q → length bytes ≡ 12
twelve bytes q spelled = ap (λ xs. length xs) spelled.same

pub spell_one_sent : SpellOneSent
spell_one_sent bytes (sent_message one) (sent_message other) first second = ap (λ m. sent_message m) (spell_one bytes one other first second)
spell_one_sent bytes (sent_message one) (sent_question other) first second = let a = have_fourteen bytes one first in let b = twelve bytes other second in absurd (omega arith)
spell_one_sent bytes (sent_message one) (sent_answer other) first second = let a = have_fourteen bytes one first in let b = second.len in absurd (omega arith)
spell_one_sent bytes (sent_question one) (sent_message other) first second = let a = twelve bytes one first in let b = have_fourteen bytes other second in absurd (omega arith)
spell_one_sent bytes (sent_question one) (sent_question other) first second = ap (λ q. sent_question q) (one_question bytes one other first second)
spell_one_sent bytes (sent_question one) (sent_answer other) first second = let a = twelve bytes one first in let b = second.len in absurd (omega arith)
spell_one_sent bytes (sent_answer one) (sent_message other) first second = let a = first.len in let b = have_fourteen bytes other second in absurd (omega arith)
spell_one_sent bytes (sent_answer one) (sent_question other) first second = let a = first.len in let b = twelve bytes other second in absurd (omega arith)
spell_one_sent bytes (sent_answer one) (sent_answer other) first second = ap (λ a. sent_answer a) (one_answer bytes one other first second)

-- the first byte of an answer is that of its numbers
first_byte : (bytes : List ℕ) → 16 ≤ length bytes → slice_index (take 16 bytes) 0 ≡ slice_index bytes 0
first_byte [] few = absurd (omega arith)
first_byte (b ∷ bytes) few = refl

pub length_is_told : LengthIsTold
length_is_told bytes (sent_message message) spelled = ap (λ xs. length_told (slice_index xs 0)) spelled.same ∙ by_kind message ∙ ap Some (sym (have_fourteen bytes message spelled))
  where
    by_kind : (m : Message) → length_told (slice_index (bytes_of (fields_of m)) 0) ≡ Some 14
    by_kind (Ask number site event count) = refl
    by_kind (Vote number site decision) = refl
    by_kind (Apply site index event) = refl
length_is_told bytes (sent_question question) spelled = ap (λ xs. length_told (slice_index xs 0)) spelled.same ∙ ap Some (sym (twelve bytes question spelled))
length_is_told bytes (sent_answer answer) spelled =
    ap length_told (sym (first_byte bytes (let long = spelled.len in omega arith)) ∙ ap (λ xs. slice_index xs 0) spelled.head) ∙ ap Some (sym spelled.len)
