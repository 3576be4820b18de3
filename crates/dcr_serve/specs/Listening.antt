-- What a door asked of its handle and of its listener, and what it made of the answers.
use Rattle.std.specs.Prelude.{◌≡◌, ◌≢◌, ◌⊎◌, ◌-◌, ◌≤◌, ◌^◌, ℕ, suc, ℤ, pos, Bool, true, false, List, [], ◌∷◌, length, Option, Some, None, Result, Ok, Err, IsErr}
use Rattle.std.specs.IoError.{error_kind, raw_os_error}
use Rattle.std.specs.List.{list_any}
use Rattle.std.specs.Net.Addr.{ipv4_octets}
use Rattle.std.specs.Net.Socket.{v4_ip, v4_port}
use Rattle.std.specs.Ordering.{int_eq}
use Rattle.std.specs.declared.io.Error.{Error}
use Rattle.std.specs.declared.io.ErrorKind.TheVariants.{Interrupted}
use Rattle.std.specs.declared.net.socket_addr.SocketAddr.{SocketAddr}
use Rattle.std.specs.declared.net.socket_addr.SocketAddr.TheVariants.{V4, V6}
use Rattle.std.specs.declared.net.tcp.TcpStream.{TcpStream}
use Rattle.dcr_serve.specs.declared.tcp_door.TcpDoor.{TcpDoor}

-- ---- where is listened

-- this port of 127.0.0.1
abbrev pub IsLocal : ℕ → SocketAddr → Type 0
IsLocal port (V4 a) = (ipv4_octets (v4_ip a) ≡ 127 ∷ 0 ∷ 0 ∷ 1 ∷ []) × (v4_port a ≡ port)
IsLocal port (V6 a) = ⊥

-- ---- what is passed over

-- the errors by which accept(2) of Linux tells what the network had to say of one connection, and not of the listener
abbrev pub lost_codes : List ℤ
lost_codes = pos 1 ∷ pos 64 ∷ pos 71 ∷ pos 92 ∷ pos 95 ∷ pos 100 ∷ pos 101 ∷ pos 103 ∷ pos 112 ∷ pos 113 ∷ []

-- whether an error says that a connection was lost before it was taken
abbrev pub is_lost_code : Option ℤ → Bool
is_lost_code None = false
is_lost_code (Some code) = list_any (λ lost. int_eq lost code) lost_codes

abbrev pub is_lost : Error → Bool
is_lost e = is_lost_code (raw_os_error e)

-- why an answer is passed over: a signal interrupted the call, or a connection was lost
pub data Passed : Type 0 where
  interrupted : Passed
  lost : Passed

abbrev pub IsPassedAs : Passed → Error → Type 0
IsPassedAs interrupted e = error_kind e ≡ Interrupted
IsPassedAs lost e = is_lost e ≡ true

-- how many connections were lost
abbrev pub lost_in : List Passed → ℕ
lost_in [] = 0
lost_in (interrupted ∷ passed) = lost_in passed
lost_in (lost ∷ passed) = suc (lost_in passed)

-- as many connections in a row as may be lost
abbrev pub most_lost : ℕ
most_lost = 1000

-- a listener was asked, and each answer was passed over, the last one for the first of these reasons
unfoldable pub WerePassed : {L : Type 0} → (L → Result TcpStream Error → L → Type 0) → List Passed → L → L → Type 0
WerePassed answered [] before after = after ≡ before
WerePassed answered (how ∷ passed) before after =
    (between : _) × (e : Error) × WerePassed answered passed before between × answered between (Err e) after × IsPassedAs how e

-- ---- one connection

-- answers were passed over, and then it was asked once more, and answered this
pub record Answered {L : Type 0} (answered : L → Result TcpStream Error → L → Type 0) (before : L) (passed : List Passed) (answer : Result TcpStream Error) (after : L) : Type 0 where
  pub between : L
  pub were_passed : WerePassed answered passed before between
  pub few : lost_in passed ≤ most_lost
  pub asked : answered between answer after

-- it answered by an error that isn't passed over, or by one more connection that was lost; or all of 2^64 - 1 answers in a
-- row were passed over
pub data GaveUp {L : Type 0} (answered : L → Result TcpStream Error → L → Type 0) (before after : L) : Type 0 where
  by_error : (passed : List Passed) → (e : Error) → Answered answered before passed (Err e) after → error_kind e ≢ Interrupted
      → (is_lost e ≡ true → lost_in passed ≡ most_lost) → GaveUp answered before after
  tired : (passed : List Passed) → WerePassed answered passed before after → length passed ≡ 2 ^ 64 - 1 → GaveUp answered before after

-- the first connection that came was taken
abbrev pub Took : {L : Type 0} → (L → Result TcpStream Error → L → Type 0) → L → TcpStream → L → Type 0
Took answered before stream after = (passed : List Passed) × Answered answered before passed (Ok stream) after

-- a listener was asked for one connection
abbrev pub ToldAccept : {L E : Type 0} → (L → Result TcpStream Error → L → Type 0) → L → Result TcpStream E → L → Type 0
ToldAccept answered before (Ok stream) after = Took answered before stream after
ToldAccept answered before (Err e) after = GaveUp answered before after

-- What a door answers that listens: a link is over the first connection that came. It fails where the listener did, or where
-- the connection couldn't be made to send at once, which is closed then.
abbrev pub Accepts : {L T E : Type 0} → (L → Result TcpStream Error → L → Type 0) → L → Result T E → L → Type 0
Accepts answered before (Ok given) after = (stream : TcpStream) × Took answered before stream after
Accepts answered before (Err e) after = GaveUp answered before after ⊎ ((stream : TcpStream) × Took answered before stream after)

-- ---- the door

-- the handle was asked once, to listen at the door's port of 127.0.0.1, and answered this
abbrev pub Listens : {R L : Type 0} → (R → SocketAddr → Result L Error → R → Type 0) → TcpDoor R L → Result L Error → TcpDoor R L → Type 0
Listens bound old answer new = (address : SocketAddr) × IsLocal old.port address × bound old.rt address answer new.rt

-- A door that didn't listen has asked its handle once, to listen at its port of 127.0.0.1, and fails where that failed. One
-- that listens has left its handle alone, and asked its listener.
pub data Asks {R L T E : Type 0} (bound : R → SocketAddr → Result L Error → R → Type 0) (answered : L → Result TcpStream Error → L → Type 0)
    (old : TcpDoor R L) (result : Result T E) (new : TcpDoor R L) : Type 0 where
  no_port : (e : Error) → old.listener ≡ None → Listens bound old (Err e) new → new.listener ≡ None → IsErr result → Asks bound answered old result new
  began : (first last : L) → old.listener ≡ None → Listens bound old (Ok first) new → new.listener ≡ Some last → Accepts answered first result last → Asks bound answered old result new
  went_on : (first last : L) → old.listener ≡ Some first → new.rt ≡ old.rt → new.listener ≡ Some last → Accepts answered first result last → Asks bound answered old result new
