-- What somebody who asks over a link is answered, line by line.
use Rattle.std.specs.Prelude.{◌≡◌, ℕ, ◌-◌, ◌==◌, Bool, nat_le, List, [], ◌∷◌, ◌++◌, length, map, filter, take, drop, codes, decimal, Option, Some, None, Result, Ok, Err, filter_map}
use Rattle.std.specs.List.{enumerate_from, flat_map, take_while}
use Rattle.dcr_text.specs.Cutting.{without_return}
use Rattle.dcr_journal.specs.declared.call.Call.{Call}
use Rattle.dcr_journal.specs.declared.call.Entry.{Entry}
use Rattle.dcr_policy.specs.Deny.{deny}
use Rattle.dcr_policy.specs.Roles.{Roles}
use Rattle.dcr_line.specs.CallLine.{call_in}
use Rattle.dcr_line.specs.Line.{entry_text}
use Rattle.dcr_text.specs.Lines.{pieces_of}
use Rattle.dcr_turn.specs.PassValue.{PassValue}
use Rattle.dcr_cell.specs.ClusterId.{ClusterId}
use Rattle.dcr_cluster.specs.declared.halt.Halt.{Halt}
use Rattle.dcr_cluster.specs.declared.halt.Halt.TheVariants.{Full, Stopped}
use Rattle.dcr_link.specs.declared.end.WorkCause.{WorkCause}
use Rattle.dcr_link.specs.declared.end.WorkCause.TheVariants.{Ended, LinkFault, LongLine, ManyLines, Halted, NoMemory}

-- the most bytes of a line before its line end, and the most lines that are answered
abbrev pub most_bytes : ℕ
most_bytes = 200

abbrev pub most_lines : ℕ
most_lines = 200000

-- the whole lines of bytes: what stands before each line end
abbrev pub whole_lines : List ℕ → List (List ℕ)
whole_lines bytes = take (length (pieces_of 10 bytes) - 1) (pieces_of 10 bytes)

abbrev pub is_short : List ℕ → Bool
is_short line = nat_le (length line) most_bytes

-- the lines that are met: those before the first that has too many bytes, and no more than are answered
abbrev pub lines_met : List ℕ → List (List ℕ)
lines_met bytes = take most_lines (take_while is_short (whole_lines bytes))

-- the terms of those who ask: the names of the sites and of the atoms, and who may execute what
pub record Terms : Type 0 where
  pub sites : List (List ℕ)
  pub atoms : List (List ℕ)
  pub policy : Roles

abbrev pub terms_of : List (List ℕ) → List (List ℕ) → Roles → Terms
terms_of sites atoms policy = record { sites = sites; atoms = atoms; policy = policy }

-- the names are those of as many sites and atoms as the cluster has, and the policy is over as many atoms
pub record IsOfCluster (c : ClusterId) (terms : Terms) : Type 0 where
  pub sites : length terms.sites ≡ length c.owned
  pub atoms : length terms.atoms ≡ c.rules.atoms
  pub policy : length terms.policy.atoms ≡ c.rules.atoms

-- what a line asks for: a call, or else what it is answered without one
abbrev pub Asked : Type 0
Asked = Result Call (List ℕ)

-- the call, where it lacks no role
abbrev pub unless_denied : Call → Option (List ℕ) → Asked
unless_denied call None = Ok call
unless_denied call (Some role) = Err (codes "denied " ++ role)

-- the call of a session, where the line is one and the policy allows it
abbrev pub allowed_by : Terms → ℕ → Option Call → Asked
allowed_by terms session None = Err (codes "bad-line")
allowed_by terms session (Some call) = unless_denied call (deny terms.policy session call)

-- what a line of a session asks for: a carriage return before the line end is no part of it
abbrev pub asked_by : Terms → ℕ → List ℕ → Asked
asked_by terms session line = allowed_by terms session (call_in terms.sites terms.atoms (without_return line))

abbrev pub asked_in : Terms → ℕ → List (List ℕ) → List Asked
asked_in terms session lines = map (asked_by terms session) lines

-- the calls among what lines ask for
abbrev pub call_asked : Asked → Option Call
call_asked (Ok call) = Some call
call_asked (Err reply) = None

abbrev pub calls_in : List Asked → List Call
calls_in asked = filter_map call_asked asked

-- an entry with its place in the history
abbrev pub Placed : Type 0
Placed = ℕ × Entry

abbrev pub call_of : Placed → Call
call_of placed = placed.1.call

-- the entries of a session in a history, in order
abbrev pub placed_of : ℕ → List Entry → List Placed
placed_of session J = filter (λ (placed : Placed). placed.1.session == session) (enumerate_from 0 J)

-- those that a pass has made since
abbrev pub made_since : PassValue → PassValue → List Placed
made_since before after = drop before.made (placed_of before.session after.front)

-- What is asked is answered one after the other: a call takes the next entry and is answered by its text, and where no
-- entry is left nothing more is answered; what is no call that is allowed is answered by its own reply.
abbrev pub answers : Terms → List Asked → List Placed → List (List ℕ)
answers terms [] entries = []
answers terms (Err reply ∷ asked) entries = reply ∷ answers terms asked entries
answers terms (Ok call ∷ asked) [] = []
answers terms (Ok call ∷ asked) (placed ∷ entries) = entry_text terms.sites terms.atoms placed.0 placed.1 ∷ answers terms asked entries

-- what is told of a halt
abbrev pub halt_text : Halt → List ℕ
halt_text (Full capacity) = codes "full " ++ decimal capacity
halt_text (Stopped at) = codes "stopped " ++ decimal at

-- what is told at the end
abbrev pub last_words : WorkCause → List (List ℕ)
last_words Ended = []
last_words LinkFault = []
last_words LongLine = codes "long-line" ∷ []
last_words ManyLines = codes "many-lines" ∷ []
last_words (Halted halt) = halt_text halt ∷ []
last_words NoMemory = []

-- the text with its line end
abbrev pub ended : List ℕ → List ℕ
ended text = text ++ 10 ∷ []

-- the bytes of these texts, each with its line end
abbrev pub lines_text : List (List ℕ) → List ℕ
lines_text texts = flat_map ended texts

-- the replies to the bytes that a session was asked by, by the entries that were made, where it ended by this cause
abbrev pub replies : Terms → ℕ → List ℕ → List Placed → WorkCause → List ℕ
replies terms session asked entries cause = lines_text (answers terms (asked_in terms session (lines_met asked)) entries ++ last_words cause)
