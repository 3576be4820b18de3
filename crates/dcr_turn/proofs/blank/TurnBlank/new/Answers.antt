use Rattle.dcr_turn.proofs.Keeping.{opens}
use Rattle.dcr_turn.proofs.blank.TurnBlank.new.Goals as goal

pub of_words-requires : goal.of_words-requires
of_words-requires c = opens c.of.result.value c.args.sessions
