-- What the fields of a `Talk` stand for.
use Rattle.std.specs.Prelude.{◌≡◌, ℕ, ◌≤◌, List}
use Rattle.dcr_text.specs.Cutting.{Cutter}
use Rattle.dcr_link.specs.Replies.{Terms, most_bytes, most_lines}
use Rattle.dcr_link.specs.declared.talk.Talk.TheInside.{Inside}

pub record TalkValue : Type 0 where
  pub terms : Terms
  -- what came since the last line end
  pub cutter : Cutter
  -- how many lines were cut off
  pub lines : ℕ
  -- the last reply to a line, with its line end
  pub reply : List ℕ

abbrev pub talk_of : Inside → TalkValue
talk_of t = record { terms = t.scene.now; cutter = t.cutter; lines = t.lines; reply = t.reply.items }

-- no more lines are answered than may be
pub record IsTalk (t : Inside) : Type 0 where
  pub limit : t.cutter.limit ≡ most_bytes
  pub few : t.lines ≤ most_lines
