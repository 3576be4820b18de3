-- The fourteen bytes of a message.
use Rattle.std.specs.Prelude.{◌≡◌, ℕ, ◌<◌, ◌^◌, List, [], ◌∷◌, ◌++◌, Option, Some, None}
use Rattle.std.specs.Int.{w16, w32, to_be_bytes}
use Rattle.dcr_graph.specs.declared.kind.Cause.TheVariants.{Excluded, Condition, Milestone}
use Rattle.dcr_site.specs.declared.site.Decision.{Decision}
use Rattle.dcr_site.specs.declared.site.Decision.TheVariants.{NotHere, Blocked, Enabled}
use Rattle.dcr_wire.specs.declared.fields.Fields.{Fields}
use Rattle.dcr_wire.specs.declared.message.Message.{Message}
use Rattle.dcr_wire.specs.declared.message.Message.TheVariants.{Ask, Vote, Apply}

-- the number of a decision
abbrev pub decision_number : Decision → ℕ
decision_number Enabled = 0
decision_number NotHere = 1
decision_number (Blocked Excluded) = 2
decision_number (Blocked (Condition c)) = 3
decision_number (Blocked (Milestone m)) = 4

-- the event of a decision's cause, or 0
abbrev pub decision_event : Decision → ℕ
decision_event Enabled = 0
decision_event NotHere = 0
decision_event (Blocked Excluded) = 0
decision_event (Blocked (Condition c)) = c
decision_event (Blocked (Milestone m)) = m

-- the fields of a message; one that it doesn't use is 0
abbrev pub fields_of : Message → Fields
fields_of (Ask number site event count) = record { kind = 1; site = site; number = number; event = event; count = count; decision = 0 }
fields_of (Vote number site decision) = record {
  kind = 2;
  site = site;
  number = number;
  event = decision_event decision;
  count = 0;
  decision = decision_number decision;
}
fields_of (Apply site index event) = record { kind = 3; site = site; number = index; event = event; count = 0; decision = 0 }

-- the fields one behind the other, each with its higher bytes first
abbrev pub bytes_of : Fields → List ℕ
bytes_of f =
    f.kind ∷ to_be_bytes w16 f.site ++ (to_be_bytes w32 f.number ++ (to_be_bytes w16 f.event ++ (to_be_bytes w32 f.count ++ f.decision ∷ [])))

-- each field has its width: one byte, two, four, two, four and one
pub record HaveWidths (f : Fields) : Type 0 where
  pub kind : f.kind < 2 ^ 8
  pub site : f.site < 2 ^ 16
  pub number : f.number < 2 ^ 32
  pub event : f.event < 2 ^ 16
  pub count : f.count < 2 ^ 32
  pub decision : f.decision < 2 ^ 8

-- the bytes are those of the message, whose fields have their widths
pub record Spell (bytes : List ℕ) (message : Message) : Type 0 where
  pub fits : HaveWidths (fields_of message)
  pub same : bytes ≡ bytes_of (fields_of message)

-- the bytes are those of the message that was read, or of none
abbrev pub IsReading : List ℕ → Option Message → Type 0
IsReading bytes (Some message) = Spell bytes message
IsReading bytes None = (message : Message) → Spell bytes message → ⊥
