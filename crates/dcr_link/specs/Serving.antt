-- How a session over a link ends.
use Rattle.std.specs.Prelude.{◌≡◌, ◌≢◌, ◌⊎◌, ℕ, ◌+◌, ◌<◌, ◌≤◌, List, [], ◌++◌, length, map, take, Option, Some, None, ⊤}
use Rattle.std.specs.Io.KnownBytes.{Appends}
use Rattle.dcr_base.specs.Count.{Fails, Rose}
use Rattle.dcr_base.specs.Side.{Side}
use Rattle.dcr_text.specs.Cutting.{HasNoEnd}
use Rattle.dcr_journal.specs.declared.call.Call.{Call}
use Rattle.dcr_tape.specs.declared.tape.Store.{Store}
use Rattle.dcr_turn.specs.PassValue.{PassValue}
use Rattle.dcr_cluster.specs.Calls.{Shows}
use Rattle.dcr_link.specs.declared.end.WorkCause.{WorkCause}
use Rattle.dcr_link.specs.declared.end.WorkCause.TheVariants.{Ended, LinkFault, LongLine, ManyLines, Halted, NoMemory}
use Rattle.dcr_link.specs.declared.end.WorkEnd.{WorkEnd}
use Rattle.dcr_link.specs.Replies.{Terms, asked_in, call_of, calls_in, lines_met, lines_text, made_since, most_bytes, most_lines, replies, whole_lines}

-- after the lines that were met come more bytes than a line may have, without a line end, and more lines might be answered
pub record HasLongLine (asked : List ℕ) : Type 0 where
  pub rest : List ℕ
  pub whole : asked ≡ lines_text (lines_met asked) ++ rest
  pub long : most_bytes < length rest
  pub no_end : HasNoEnd (take (most_bytes + 1) rest)
  pub spare : length (lines_met asked) < most_lines

-- after as many lines as are answered comes a further byte
pub record HasManyLines (asked : List ℕ) : Type 0 where
  pub rest : List ℕ
  pub whole : asked ≡ lines_text (lines_met asked) ++ rest
  pub further : rest ≢ []
  pub most : length (lines_met asked) ≡ most_lines

-- A session over a link that had these bytes to ask has ended: by the entries that the pass has made since, as they stand in
-- what it has seen, and by what was written.
module _ {D : Type 0} (first : Option (Store D)) (capacity : ℕ) (terms : Terms) (asked : List ℕ) (before after : PassValue) (written : List ℕ) where
  -- the calls among the lines that are met that are allowed
  abbrev pub calls_met : List Call
  calls_met = calls_in (asked_in terms before.session (lines_met asked))

  -- each of them has its entry
  abbrev pub AllMade : Type 0
  AllMade = length (made_since before after) ≡ length calls_met

  -- all replies were written
  abbrev pub AllWritten : WorkCause → Type 0
  AllWritten cause = written ≡ replies terms before.session asked (made_since before after) cause

  -- What each cause says, where `failed` says that a count of the link rose. A session that has ended with its input had neither
  -- too many bytes without a line end nor a further byte.
  abbrev pub EndsBy : Type 0 → WorkCause → Type 0
  EndsBy failed Ended = (lines_met asked ≡ whole_lines asked) × AllMade × AllWritten Ended × (HasLongLine asked → ⊥) × (HasManyLines asked → ⊥)
  EndsBy failed LinkFault = failed
  EndsBy failed LongLine = HasLongLine asked × AllMade × (AllWritten LongLine ⊎ failed)
  EndsBy failed ManyLines = HasManyLines asked × AllMade × (AllWritten ManyLines ⊎ failed)
  EndsBy failed (Halted halt) = (length (made_since before after) < length calls_met) × Shows first capacity after.front halt × (AllWritten (Halted halt) ⊎ failed)
  EndsBy failed NoMemory = ⊤

  pub record Served (failed : Type 0) (end : WorkEnd) : Type 0 where
    pub calls : end.calls ≡ length (made_since before after)
    -- the entries are of the calls that were met, in order, each once
    pub in_order : map call_of (made_since before after) ≡ take end.calls calls_met
    -- a beginning of the replies was written
    pub rest : List ℕ
    pub replied : written ++ rest ≡ replies terms before.session asked (made_since before after) end.cause
    pub ends : EndsBy failed end.cause

-- a count of the link rose
abbrev pub AnyRose : ℕ → ℕ → ℕ → ℕ → Type 0
AnyRose reads reads_after writes writes_after = Rose reads reads_after ⊎ Rose writes writes_after

-- The same over a link that tells the bytes that it had left: of what it had taken, where it tells that, what was written is
-- what came behind.
abbrev pub ServesBy : {D : Type 0} → Option (Store D) → ℕ → Terms → PassValue → PassValue → Option (List ℕ) → Option (List ℕ) → Option (List ℕ) → Type 0 → WorkEnd → Type 0
ServesBy first capacity terms before after left taken now_taken failed end =
    (asked : List ℕ) → left ≡ Some asked → (written : List ℕ) × Appends taken now_taken written × Served first capacity terms asked before after written failed end

-- the same of what the link had left and has left, and of what it had taken and has taken
abbrev pub Serves : {D : Type 0} → Option (Store D) → ℕ → Terms → PassValue → PassValue → Side → Side → Side → Side → WorkEnd → Type 0
Serves first capacity terms before after left rest had took end =
    ServesBy first capacity terms before after left.bytes had.bytes took.bytes (AnyRose left.faults rest.faults had.faults took.faults) end

-- What an answer makes of the count of failed writes, where the session goes on or ends by it. By an answer it doesn't end with
-- its input.
abbrev pub CountsAnswer : Option WorkCause → ℕ → ℕ → Type 0
CountsAnswer None old new = new ≡ old
CountsAnswer (Some Ended) old new = ⊥
CountsAnswer (Some LinkFault) old new = Fails old new
CountsAnswer (Some LongLine) old new = old ≤ new
CountsAnswer (Some ManyLines) old new = old ≤ new
CountsAnswer (Some (Halted halt)) old new = old ≤ new
CountsAnswer (Some NoMemory) old new = new ≡ old

-- What a session makes of the counts of failed reads and writes: with `LinkFault` one of them rose, and with another cause no
-- read has failed, and no write but that of last words.
abbrev pub CountsCause : WorkCause → ℕ → ℕ → ℕ → ℕ → Type 0
CountsCause Ended reads reads_after writes writes_after = (reads_after ≡ reads) × (writes_after ≡ writes)
CountsCause LinkFault reads reads_after writes writes_after = (reads ≤ reads_after) × (writes ≤ writes_after) × AnyRose reads reads_after writes writes_after
CountsCause LongLine reads reads_after writes writes_after = (reads_after ≡ reads) × (writes ≤ writes_after)
CountsCause ManyLines reads reads_after writes writes_after = (reads_after ≡ reads) × (writes ≤ writes_after)
CountsCause (Halted halt) reads reads_after writes writes_after = (reads_after ≡ reads) × (writes ≤ writes_after)
CountsCause NoMemory reads reads_after writes writes_after = (reads_after ≡ reads) × (writes_after ≡ writes)
