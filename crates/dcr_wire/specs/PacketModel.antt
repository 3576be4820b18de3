-- Which message a packet's bytes stand for.
use Rattle.std.specs.Prelude.{ℕ, ◌==◌, List, take, drop, slice_index, if◌then◌else◌}
use Rattle.std.specs.Int.{w16, w32, from_be_bytes}
use Rattle.dcr_graph.specs.declared.kind.Cause.TheVariants.{Excluded, Condition, Milestone}
use Rattle.dcr_site.specs.declared.site.Decision.{Decision}
use Rattle.dcr_site.specs.declared.site.Decision.TheVariants.{NotHere, Blocked, Enabled}
use Rattle.dcr_wire.specs.Form.{Spell}
use Rattle.dcr_wire.specs.declared.message.Message.{Message}
use Rattle.dcr_wire.specs.declared.message.Message.TheVariants.{Ask, Vote, Apply}
use Rattle.dcr_wire.specs.declared.packet.Packet.TheInside.{Inside}

-- the decision with this number, and this event where its cause has one
abbrev pub decision_meant : ℕ → ℕ → Decision
decision_meant number event =
    if number == 0 then Enabled
    else if number == 1 then NotHere
    else if number == 2 then Blocked Excluded
    else if number == 3 then Blocked (Condition event)
    else Blocked (Milestone event)

-- the numbers at the places of the fields
abbrev pub two_at : List ℕ → ℕ → ℕ
two_at bytes place = from_be_bytes w16 (take 2 (drop place bytes))

abbrev pub four_at : List ℕ → ℕ → ℕ
four_at bytes place = from_be_bytes w32 (take 4 (drop place bytes))

-- the message that has these bytes, where one has
abbrev pub meant : List ℕ → Message
meant bytes =
    if slice_index bytes 0 == 1 then Ask (four_at bytes 3) (two_at bytes 1) (two_at bytes 7) (four_at bytes 9)
    else if slice_index bytes 0 == 2 then Vote (four_at bytes 3) (two_at bytes 1) (decision_meant (slice_index bytes 13) (two_at bytes 7))
    else Apply (two_at bytes 1) (four_at bytes 3) (two_at bytes 7)

abbrev pub message_of : Inside → Message
message_of packet = meant packet.bytes

-- the bytes are those of a message
abbrev pub IsPacket : Inside → Type 0
IsPacket packet = Spell packet.bytes (meant packet.bytes)
