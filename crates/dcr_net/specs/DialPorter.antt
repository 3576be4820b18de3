-- What a `DialPorter` is made of, and what it asked of its handle.
use Rattle.std.specs.Prelude.{ℕ, None, Result, Ok, Err}
use Rattle.std.specs.declared.io.Error.{Error}
use Rattle.std.specs.declared.net.socket_addr.SocketAddr.{SocketAddr}
use Rattle.std.specs.declared.net.tcp.TcpStream.{TcpStream}
use Rattle.dcr_porter.specs.Porter.{Porters}
use Rattle.dcr_porter.specs.declared.brought.Brought.{Brought}
use Rattle.dcr_porter.specs.declared.brought.Brought.TheVariants.{Link, Nobody, Shut}
use Rattle.dcr_serve.specs.Listening.{IsLocal}
use Rattle.dcr_net.specs.SiteLink.{SiteLinkValue, site_links}
use Rattle.dcr_net.specs.declared.site_link.SiteRest.{SiteRest}
use Rattle.dcr_net.specs.declared.dial_porter.DialPorter.{DialPorter}

-- how many calls have failed, or 2^64 - 1 where there were more
abbrev pub failed_calls : {R : Type 0} → DialPorter R → ℕ
failed_calls porter = porter.faults

-- where it connects
abbrev pub port_of : {R : Type 0} → DialPorter R → ℕ
port_of porter = porter.port

-- the handle by which it connects
abbrev pub handle_of : {R : Type 0} → DialPorter R → R
handle_of porter = porter.rt

-- it tells no links and nothing that it was handed back, and is never shut
abbrev pub told_by_dialing : {R : Type 0} → Porters (DialPorter R) SiteLinkValue SiteRest
told_by_dialing = record { links = λ _. None; is_shut = λ _. ⊥; faults = failed_calls; back = λ _. None; each = site_links }

-- the handle was asked once, to connect to the porter's port of 127.0.0.1, and answered this
abbrev pub Dials : {R : Type 0} → (R → SocketAddr → Result TcpStream Error → R → Type 0) → DialPorter R → Result TcpStream Error → DialPorter R → Type 0
Dials answered old answer new = (address : SocketAddr) × IsLocal old.port address × answered old.rt address answer new.rt

-- What was brought by one try: a link over the connection that was made; nobody where none was made; and it has failed where
-- one was made that couldn't be made to send at once, which is closed then.
abbrev pub Dialed : {R L E : Type 0} → (R → SocketAddr → Result TcpStream Error → R → Type 0) → DialPorter R → Result (Brought L) E → DialPorter R → Type 0
Dialed answered old (Ok (Link link)) new = (stream : TcpStream) × Dials answered old (Ok stream) new
Dialed answered old (Ok Nobody) new = (e : Error) × Dials answered old (Err e) new
Dialed answered old (Ok Shut) new = ⊥
Dialed answered old (Err failed) new = (stream : TcpStream) × Dials answered old (Ok stream) new
