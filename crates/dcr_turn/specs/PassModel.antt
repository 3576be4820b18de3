-- What the fields of a pass stand for.
use Rattle.std.specs.Prelude.{◌≡◌, ◌<◌, List, [], ◌∷◌, length, slice_index_or}
use Rattle.dcr_journal.specs.Run.{made_by}
use Rattle.dcr_journal.specs.declared.call.Entry.{Entry}
use Rattle.dcr_turn.specs.PassValue.{PassValue}
use Rattle.dcr_turn.specs.Records.{first_seen, knowing}
use Rattle.dcr_turn.specs.TurnId.{TurnId}
use Rattle.dcr_turn.specs.declared.pass.Pass.TheInside.{Inside}
use Rattle.dcr_turn.specs.declared.record.Holder.TheVariants.{Session}

-- the list that its record has
abbrev pub seen_in : {N : Type 0} → Inside N → List Entry
seen_in p = first_seen (slice_index_or p.badge.views 0 [])

abbrev pub pass_of : {N : Type 0} → Inside N → PassValue
pass_of p = record { session = p.session; front = seen_in p; made = p.made }

-- the record is the session's, and the calls made are all that its list has of the session
pub record IsPass {N : Type 0} (turn : TurnId) (p : Inside N) : Type 0 where
  pub mark : p.badge.table_id ≡ turn.mark
  pub views : p.badge.views ≡ (knowing (seen_in p) (Session p.session) ∷ []) ∷ []
  pub seen : p.seen ≡ length (seen_in p)
  pub made : p.made ≡ made_by p.session (seen_in p)
  pub session : p.session < turn.sessions
