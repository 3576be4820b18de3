-- A session over a link, line by line.
use Rattle.std.specs.Prelude.{◌≡◌, ◌⊎◌, ℕ, ◌+◌, ◌*◌, ◌-◌, ◌<◌, ◌≤◌, true, false, List, [], ◌++◌, length, map, Option, Some, None, Result, Ok, Err, IfOk, ⊤}
use Rattle.std.specs.List.{All}
use Rattle.dcr_text.specs.Cutting.{Cuts, HasNoEnd, begun}
use Rattle.dcr_text.specs.declared.cutter.Cut.{Cut}
use Rattle.dcr_text.specs.declared.cutter.Cut.TheVariants.{More, Line, TooLong}
use Rattle.dcr_journal.specs.declared.call.Call.{Call}
use Rattle.dcr_journal.specs.declared.call.Entry.{Entry}
use Rattle.dcr_journal.specs.declared.call.Outcome.{Outcome}
use Rattle.dcr_line.specs.Fits.{FitsEntry}
use Rattle.dcr_line.specs.Line.{entry_text}
use Rattle.dcr_set.specs.declared.id.NoMemory.{NoMemory as NoRoom}
use Rattle.dcr_tape.specs.declared.tape.Store.{Store}
use Rattle.dcr_turn.specs.PassValue.{PassValue}
use Rattle.dcr_turn.specs.Pushing.{entry_of}
use Rattle.dcr_cell.specs.ClusterId.{ClusterId}
use Rattle.dcr_cluster.specs.Calls.{AnsweredAfter, HaltedAfter}
use Rattle.dcr_cluster.specs.declared.halt.Halt.{Halt}
use Rattle.dcr_link.specs.declared.end.WorkCause.{WorkCause}
use Rattle.dcr_link.specs.declared.end.WorkCause.TheVariants.{LinkFault, Halted, NoMemory}
use Rattle.dcr_link.specs.Replies.{Asked, IsOfCluster, Terms, answers, asked_in, call_of, calls_in, ended, halt_text, is_short, lines_text, made_since, most_bytes, most_lines, placed_of}
use Rattle.dcr_link.specs.Serving.{Served}
use Rattle.dcr_link.specs.TalkModel.{TalkValue}

-- the talk is in a scene of the cluster
abbrev pub IsNamedBy : ClusterId → TalkValue → Type 0
IsNamedBy c talk = IsOfCluster c talk.terms

-- the entry that a pass has made last
abbrev pub last_of : PassValue → Call → Outcome → Entry
last_of pass call outcome = record { session = pass.session; seq = pass.made - 1; call = call; outcome = outcome }

-- the entry that the pass has made last has a text
pub record IsLast (talk : TalkValue) (pass : PassValue) (call : Call) (outcome : Outcome) : Type 0 where
  pub made : 0 < pass.made
  pub seen : 0 < length pass.front
  pub fits : FitsEntry (length talk.terms.sites) (length talk.terms.atoms) (last_of pass call outcome)

abbrev pub MayLay : TalkValue → PassValue → Call → Result Outcome Halt → Type 0
MayLay talk pass call answer = IfOk answer (IsLast talk pass call)

-- the text of the entry is there, or memory for it was wanted; a halt is told
abbrev pub HasLaid : Terms → PassValue → Call → Result Outcome Halt → List ℕ → Result (Option Halt) NoRoom → Type 0
HasLaid terms pass call (Ok outcome) reply (Ok None) = reply ≡ ended (entry_text terms.sites terms.atoms (length pass.front - 1) (last_of pass call outcome))
HasLaid terms pass call (Ok outcome) reply (Ok (Some halt)) = ⊥
HasLaid terms pass call (Ok outcome) reply (Err no_room) = ⊤
HasLaid terms pass call (Err halt) reply (Ok None) = ⊥
HasLaid terms pass call (Err halt) reply (Ok (Some told)) = told ≡ halt
HasLaid terms pass call (Err halt) reply (Err no_room) = ⊥

-- this is a beginning of the text with its line end; all of it, or a write has failed
pub record IsSent (failed : Type 0) (text written : List ℕ) : Type 0 where
  pub rest : List ℕ
  pub part : written ++ rest ≡ ended text
  pub whole : (rest ≡ []) ⊎ failed

module _ {D : Type 0} (c : ClusterId) (first : Option (Store D)) (capacity : ℕ) (terms : Terms) where
  -- What a line asks for was answered by this text: a call by that of its entry, which the pass made, and else by its own.
  abbrev pub IsAnswered : Asked → PassValue → PassValue → List ℕ → Type 0
  IsAnswered (Err reply) before after text = (after ≡ before) × (text ≡ reply)
  IsAnswered (Ok call) before after text =
      (J : List Entry) × (outcome : Outcome) × AnsweredAfter c first capacity J before after call outcome × (text ≡ entry_text terms.sites terms.atoms (length J) (entry_of before call outcome))

  -- the call halted
  abbrev pub IsHalted : Asked → PassValue → PassValue → Halt → Type 0
  IsHalted (Err reply) before after halt = ⊥
  IsHalted (Ok call) before after halt = HaltedAfter c first capacity after.front before after halt

  -- the reply is there, or memory for it was wanted, or the call halted
  abbrev pub HasReply : Asked → PassValue → PassValue → List ℕ → Result (Option Halt) NoRoom → Type 0
  HasReply asked before after reply (Ok None) = (text : List ℕ) × IsAnswered asked before after text × (reply ≡ ended text)
  HasReply asked before after reply (Ok (Some halt)) = IsHalted asked before after halt
  HasReply asked before after reply (Err no_room) = (text : List ℕ) × IsAnswered asked before after text

  -- a line was answered, or the session has ended with it
  abbrev pub HasAnswered : Asked → PassValue → PassValue → List ℕ → Type 0 → Option WorkCause → Type 0
  HasAnswered asked before after written failed None = (text : List ℕ) × IsAnswered asked before after text × (written ≡ ended text)
  HasAnswered asked before after written failed (Some LinkFault) = (text : List ℕ) × IsAnswered asked before after text × IsSent failed text written × failed
  HasAnswered asked before after written failed (Some (Halted halt)) = IsHalted asked before after halt × IsSent failed (halt_text halt) written
  HasAnswered asked before after written failed (Some NoMemory) = (text : List ℕ) × IsAnswered asked before after text × (written ≡ [])
  HasAnswered asked before after written failed (Some cause) = ⊥

  -- All lines that came were answered: the bytes that came are these lines and what the cutter has begun, and what was
  -- written is their replies, by the entries that were made.
  pub record Going (before now : PassValue) (talk : TalkValue) (came written : List ℕ) : Type 0 where
    pub lines : List (List ℕ)
    pub as_many : length lines ≡ talk.lines
    pub few : talk.lines ≤ most_lines
    pub came_is : came ≡ lines_text lines ++ begun talk.cutter
    pub no_end : All HasNoEnd lines
    pub none_begun : HasNoEnd (begun talk.cutter)
    pub short : All (λ line. is_short line ≡ true) lines
    pub not_long : talk.cutter.is_long ≡ false
    pub begun_short : length (begun talk.cutter) ≤ most_bytes
    pub none_further : talk.lines ≡ most_lines → begun talk.cutter ≡ []
    pub session : now.session ≡ before.session
    pub not_fewer : before.made ≤ length (placed_of before.session now.front)
    pub made : now.made ≡ before.made + length (made_since before now)
    pub in_order : map call_of (made_since before now) ≡ calls_in (asked_in terms before.session lines)
    pub written_is : written ≡ lines_text (answers terms (asked_in terms before.session lines) (made_since before now))

  -- the session has ended by this cause, whatever bytes come behind those that came
  abbrev pub HasEnded : PassValue → PassValue → List ℕ → List ℕ → Type 0 → WorkCause → Type 0
  HasEnded before after came written failed cause =
      (more : List ℕ) → Served first capacity terms (came ++ more) before after written failed (record { calls = length (made_since before after); cause = cause })

  -- a piece was answered whole, or the session has ended in it
  abbrev pub GoesOn : PassValue → PassValue → TalkValue → List ℕ → List ℕ → Type 0 → Option WorkCause → Type 0
  GoesOn before now talk came written failed None = Going before now talk came written
  GoesOn before now talk came written failed (Some cause) = HasEnded before now came written failed cause

-- how many lines a cut counts
abbrev pub cut_off : Cut → ℕ
cut_off More = 0
cut_off Line = 1
cut_off TooLong = 0

-- bytes of a piece were taken up to its first line end, and the line was counted
pub record CutsNext (before : TalkValue) (piece : List ℕ) (used : ℕ) (cut : Cut) (after : TalkValue) : Type 0 where
  pub cuts : Cuts before.cutter piece used cut after.cutter
  pub limit : before.cutter.limit ≡ most_bytes
  pub same : after ≡ record before { cutter = after.cutter; lines = before.lines + cut_off cut }

-- how many bytes may still come before the session ends
abbrev pub bytes_spare : TalkValue → ℕ
bytes_spare talk = (most_lines - talk.lines) * (most_bytes + 1) + (most_bytes - length (begun talk.cutter))
