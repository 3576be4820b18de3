-- The four hundred bytes of an answer: sixteen of its numbers, and three times 128 of its sets.
use Rattle.std.specs.Prelude.{◌≡◌, ℕ, ◌<◌, ◌^◌, List, [], ◌∷◌, ◌++◌, length, take, Option, Some, None}
use Rattle.std.specs.Int.{w16, w32, to_be_bytes}
use Rattle.dcr_set.specs.EventSet.{Set}
use Rattle.dcr_wire.specs.SetForm.{HasSet}
use Rattle.dcr_wire.specs.declared.answer.Told.{Told}
use Rattle.dcr_wire.specs.declared.answer.Told.TheVariants.{Marks, Can, Waits}
use Rattle.dcr_wire.specs.declared.answer.Answer.{Answer}
use Rattle.dcr_wire.specs.declared.head.Head.{Head}

-- the number of what is told
abbrev pub told_number : Told → ℕ
told_number (Marks mark) = 0
told_number (Can events) = 1
told_number (Waits None) = 2
told_number (Waits (Some event)) = 3

-- the event that is waited for, or 0
abbrev pub told_event : Told → ℕ
told_event (Marks mark) = 0
told_event (Can events) = 0
told_event (Waits None) = 0
told_event (Waits (Some event)) = event

-- the three sets of what is told; one that there isn't has no room
abbrev pub first_set : Told → Set
first_set (Marks mark) = mark.executed
first_set (Can events) = events
first_set (Waits event) = []

abbrev pub second_set : Told → Set
second_set (Marks mark) = mark.pending
second_set (Can events) = []
second_set (Waits event) = []

abbrev pub third_set : Told → Set
third_set (Marks mark) = mark.included
third_set (Can events) = []
third_set (Waits event) = []

-- the numbers of an answer with these three sets
abbrev pub head_with : ℕ → ℕ → ℕ → ℕ → Set → Set → Set → Head
head_with site number told event first second third = record {
  kind = 5;
  site = site;
  number = number;
  told = told;
  event = event;
  first = length first;
  second = length second;
  third = length third;
}

-- the numbers one behind the other, each with its higher bytes first
abbrev pub head_bytes : Head → List ℕ
head_bytes h =
    h.kind ∷ to_be_bytes w16 h.site ++ (to_be_bytes w32 h.number
    ++ (h.told ∷ to_be_bytes w16 h.event ++ (to_be_bytes w16 h.first ++ (to_be_bytes w16 h.second ++ to_be_bytes w16 h.third))))

-- each number has its width: one byte, two, four, one, and two each of the rest
pub record HaveHeadWidths (h : Head) : Type 0 where
  pub kind : h.kind < 2 ^ 8
  pub site : h.site < 2 ^ 16
  pub number : h.number < 2 ^ 32
  pub told : h.told < 2 ^ 8
  pub event : h.event < 2 ^ 16
  pub first : h.first < 2 ^ 16
  pub second : h.second < 2 ^ 16
  pub third : h.third < 2 ^ 16

-- the bytes are these numbers and these sets, one behind the other
pub record SpellParts (bytes : List ℕ) (numbers : Head) (s t u : Set) : Type 0 where
  pub fits : HaveHeadWidths numbers
  pub head : take 16 bytes ≡ head_bytes numbers
  pub len : length bytes ≡ 400
  pub first : HasSet bytes 16 s
  pub second : HasSet bytes 144 t
  pub third : HasSet bytes 272 u

-- the numbers of an answer
abbrev pub head_of : Answer → Head
head_of a = head_with a.site a.number (told_number a.told) (told_event a.told) (first_set a.told) (second_set a.told) (third_set a.told)

-- the bytes are those of the answer
abbrev pub SpellAnswer : List ℕ → Answer → Type 0
SpellAnswer bytes a = SpellParts bytes (head_of a) (first_set a.told) (second_set a.told) (third_set a.told)

-- what is told has these parts
pub record IsTold (n e : ℕ) (s t u : Set) (told : Told) : Type 0 where
  pub number : told_number told ≡ n
  pub event : told_event told ≡ e
  pub first : first_set told ≡ s
  pub second : second_set told ≡ t
  pub third : third_set told ≡ u

-- the bytes are those of the answer that was read, or of none
abbrev pub IsAnswerReading : List ℕ → Option Answer → Type 0
IsAnswerReading bytes (Some answer) = SpellAnswer bytes answer
IsAnswerReading bytes None = (answer : Answer) → SpellAnswer bytes answer → ⊥
