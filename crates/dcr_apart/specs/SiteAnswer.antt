-- What the call `site` answers, and what comes of its input and of its porter.
use Rattle.std.specs.Prelude.{◌≡◌, ◌≢◌, ◌⊎◌, ℕ, ◌<◌, ◌≤◌, List, [], ◌∷◌, codes, length, Option, Some, None, IfSome, ⊤}
use Rattle.dcr_app.specs.Outside.{IsStarved, IsUnread, WereLeft, Wrote}
use Rattle.dcr_base.specs.Side.{Adds, Side}
use Rattle.dcr_base.specs.declared.reading.ReadStop.{ReadStop}
use Rattle.dcr_base.specs.declared.reading.ReadStop.TheVariants.{TooLong}
use Rattle.dcr_base.specs.declared.status.Status.{Status}
use Rattle.dcr_base.specs.declared.status.Status.TheVariants.{Done, Usage, Refused, DoorFault, NoMemory}
use Rattle.dcr_greet.specs.KeyText.{IsKeyText}
use Rattle.dcr_part.specs.Whole.{Whole, IsWhole, part_text}
use Rattle.dcr_porter.specs.Porter.{Porters}
use Rattle.dcr_apart.specs.Served.{HasServedLinks}

-- the most bytes of a part
abbrev pub most_part : ℕ
most_part = 33554432

-- the same behind the word of the command, where the input is read: where no word stands there
abbrev pub limit_of : {A : Type 0} → List A → Option ℕ
limit_of [] = Some most_part
limit_of (word ∷ words) = None

-- ---- the key

-- the key that a text is, where there is one
abbrev pub GivesKey : Option (List ℕ) → Option (List ℕ) → Type 0
GivesKey None None = ⊤
GivesKey None (Some key) = ⊥
GivesKey (Some text) None = ⊥
GivesKey (Some text) (Some key) = IsKeyText text key

abbrev pub GivesNoKey : Option (List ℕ) → Type 0
GivesNoKey text = (key : Option (List ℕ)) → GivesKey text key → ⊥

-- ---- the text of the input

-- the text is that of a part, of some case at one of its sites
abbrev pub IsPartText : List ℕ → Type 0
IsPartText text = (W : Whole) × IsWhole W × (text ≡ part_text W)

-- What a text is answered: as a part by the links that are served, as every case serves them whose part it is, until the porter
-- is shut or has failed; else by a refusal, with the porter as it was. A line wants no memory.
pub data AnswersText {P L R : Type 0} (tells : Porters P L R) (text : List ℕ) (key : Option (List ℕ)) (had took : Side) (before after : P) (status : Status) : Type 0 where
  starved : IsStarved status had took → after ≡ before → AnswersText tells text key had took before after status
  not_part : (IsPartText text → ⊥) → status ≢ NoMemory → Wrote Refused (codes "refused 19 not-part\n") status had took → after ≡ before
      → AnswersText tells text key had took before after status
  not_key : IsPartText text → GivesNoKey key → status ≢ NoMemory → Wrote Refused (codes "refused 20 keys 1\n") status had took → after ≡ before
      → AnswersText tells text key had took before after status
  served : IsPartText text → (by : Option (List ℕ)) → GivesKey key by → ((W : Whole) → IsWhole W → text ≡ part_text W → HasServedLinks tells W by before after)
      → Adds [] had took → ((status ≡ Done) × tells.is_shut after) ⊎ (status ≡ DoorFault) → AnswersText tells text key had took before after status

-- ---- all

-- What `site` answers with these words behind it, where `left` is what the input had left at entry.
pub data AnswersSite {A P L R : Type 0} (tells : Porters P L R) (words : List A) (key : Option (List ℕ)) (left : Option (List ℕ)) (has_ended : Type 0) (had took : Side) (before after : P) (status : Status) : Type 0 where
  usage : words ≢ [] → status ≢ NoMemory → Wrote Usage (codes "usage\n") status had took → after ≡ before → AnswersSite tells words key left has_ended had took before after status
  unread : words ≡ [] → (stop : ReadStop) → (stop ≡ TooLong → IfSome left (λ text. most_part < length text)) → IsUnread stop status had took → after ≡ before
      → AnswersSite tells words key left has_ended had took before after status
  read : words ≡ [] → (text : List ℕ) → WereLeft left text → length text ≤ most_part → has_ended → AnswersText tells text key had took before after status
      → AnswersSite tells words key left has_ended had took before after status
