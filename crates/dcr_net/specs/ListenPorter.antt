-- What a `ListenPorter` is made of, and what it asked of its handle and of its listener.
use Rattle.std.specs.Prelude.{◌≡◌, ◌⊎◌, ℕ, true, Option, Some, None, Result, Ok, Err, IsOk, IsErr, ⊤}
use Rattle.std.specs.IoError.{error_kind}
use Rattle.std.specs.declared.io.Error.{Error}
use Rattle.std.specs.declared.io.ErrorKind.TheVariants.{Interrupted, WouldBlock}
use Rattle.std.specs.declared.net.socket_addr.SocketAddr.{SocketAddr}
use Rattle.std.specs.declared.net.tcp.TcpStream.{TcpStream}
use Rattle.dcr_porter.specs.Porter.{Porters}
use Rattle.dcr_porter.specs.declared.brought.Brought.{Brought}
use Rattle.dcr_porter.specs.declared.brought.Brought.TheVariants.{Link, Nobody, Shut}
use Rattle.dcr_serve.specs.Listening.{IsLocal, is_lost}
use Rattle.dcr_net.specs.SiteLink.{SiteLinkValue, site_links}
use Rattle.dcr_net.specs.declared.site_link.SiteRest.{SiteRest}
use Rattle.dcr_net.specs.declared.listen_porter.ListenPorter.{ListenPorter}

-- how many calls have failed, or 2^64 - 1 where there were more
abbrev pub failed_calls : {R L : Type 0} → ListenPorter R L → ℕ
failed_calls porter = porter.faults

-- where it listens, once it does
abbrev pub port_of : {R L : Type 0} → ListenPorter R L → ℕ
port_of porter = porter.port

-- the handle by which it listens
abbrev pub handle_of : {R L : Type 0} → ListenPorter R L → R
handle_of porter = porter.rt

-- what connections come to, once it listens
abbrev pub listener_of : {R L : Type 0} → ListenPorter R L → Option L
listener_of porter = porter.listener

-- it tells no links and nothing that it was handed back, and is never shut
abbrev pub told_by_listening : {R L : Type 0} → Porters (ListenPorter R L) SiteLinkValue SiteRest
told_by_listening = record { links = λ _. None; is_shut = λ _. ⊥; faults = failed_calls; back = λ _. None; each = site_links }

-- ---- the begin

-- the handle was asked once, to listen at the porter's port of 127.0.0.1, and answered this
abbrev pub Listens : {R L : Type 0} → (R → SocketAddr → Result L Error → R → Type 0) → ListenPorter R L → Result L Error → ListenPorter R L → Type 0
Listens bound old answer new = (address : SocketAddr) × IsLocal old.port address × bound old.rt address answer new.rt

-- a listener was made that waits no more, or why there is none
abbrev pub Listened : {R L E : Type 0} → (R → SocketAddr → Result L Error → R → Type 0) → (L → Result Unit Error → L → Type 0) → ListenPorter R L → Result L E → ListenPorter R L → Type 0
Listened {L = L} bound told old (Ok last) new = (first : L) × Listens bound old (Ok first) new × told first (Ok tt) last
Listened {L = L} bound told old (Err failed) new =
    ((e : Error) × Listens bound old (Err e) new) ⊎ ((first last : L) × (e : Error) × Listens bound old (Ok first) new × told first (Err e) last)

-- One that listens has nothing to do. One that doesn't has asked its handle once, and the listener once to wait no more; where
-- either failed it has failed, and doesn't listen.
pub data Begins {R L T E : Type 0} (bound : R → SocketAddr → Result L Error → R → Type 0) (told : L → Result Unit Error → L → Type 0)
    (old : ListenPorter R L) (result : Result T E) (new : ListenPorter R L) : Type 0 where
  listened : (listener : L) → old.listener ≡ Some listener → IsOk result → new ≡ old → Begins bound told old result new
  no_port : (e : Error) → old.listener ≡ None → Listens bound old (Err e) new → new.listener ≡ None → IsErr result → Begins bound told old result new
  waits : (first last : L) (e : Error) → old.listener ≡ None → Listens bound old (Ok first) new → told first (Err e) last → new.listener ≡ None → IsErr result → Begins bound told old result new
  began : (first last : L) → old.listener ≡ None → Listens bound old (Ok first) new → told first (Ok tt) last → new.listener ≡ Some last → IsOk result → Begins bound told old result new

-- ---- a try

-- the error says that no connection is there now: none has come, a signal interrupted the try, or the one that came was lost
abbrev pub IsNobody : Error → Type 0
IsNobody e = (error_kind e ≡ WouldBlock) ⊎ ((error_kind e ≡ Interrupted) ⊎ (is_lost e ≡ true))

-- What one try brought of what the listener answered: a link over the connection; a failure where it couldn't be made to send at
-- once and to wait no longer than it may, and is closed then; nobody where none is there now, and else a failure.
abbrev pub IsBrought : {L E : Type 0} → Result TcpStream Error → Result (Brought L) E → Type 0
IsBrought (Ok stream) (Ok (Link link)) = ⊤
IsBrought (Ok stream) (Ok Nobody) = ⊥
IsBrought (Ok stream) (Ok Shut) = ⊥
IsBrought (Ok stream) (Err failed) = ⊤
IsBrought (Err e) (Ok (Link link)) = ⊥
IsBrought (Err e) (Ok Nobody) = IsNobody e
IsBrought (Err e) (Ok Shut) = ⊥
IsBrought (Err e) (Err failed) = IsNobody e → ⊥

-- One that listens has asked its listener once. One that doesn't has asked nothing, and fails.
pub data Tries {R L T E : Type 0} (answered : L → Result TcpStream Error → L → Type 0) (old : ListenPorter R L) (result : Result (Brought T) E) (new : ListenPorter R L) : Type 0 where
  unbegun : old.listener ≡ None → new.listener ≡ None → IsErr result → Tries answered old result new
  tried : (first last : L) (answer : Result TcpStream Error) → old.listener ≡ Some first → new.listener ≡ Some last → answered first answer last → IsBrought answer result
      → Tries answered old result new
