use Rattle.dcr_replay.proofs.OneLemmas.{verdict_is_one}
use Rattle.dcr_replay.proofs.laws.a_text_has_one_verdict.Goals as goal

pub returns : goal.returns
returns c = verdict_is_one c.canonical_texts.ensures.one_line c.canonical_texts.ensures.one
