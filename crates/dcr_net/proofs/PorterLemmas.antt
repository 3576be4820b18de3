-- What porters make of the answers that they get.
use Rattle.std.proofs.Common.{◌≡◌, ◌⊎◌, ℕ, true, false, inl, inr, is_some, Option, Some, None, Result, Ok, Err, refl, sym, subst}
use Rattle.std.specs.Prelude.{IsErr, IsOk}
use Rattle.std.proofs.lemmas.Bool.{false≢true}
use Rattle.std.specs.declared.io.Error.{Error}
use Rattle.std.specs.declared.net.socket_addr.SocketAddr.{SocketAddr}
use Rattle.std.specs.declared.net.tcp.TcpStream.{TcpStream}
use Rattle.dcr_base.specs.declared.failed.Failed.{Failed}
use Rattle.dcr_porter.specs.Porter.{IsFresh}
use Rattle.dcr_porter.specs.declared.brought.Brought.{Brought}
use Rattle.dcr_porter.specs.declared.brought.Brought.TheVariants.{Link, Nobody, Shut}
use Rattle.dcr_net.specs.SiteLink.{site_links, IsLinkOrFailure, SiteLinkValue}
use Rattle.dcr_net.specs.DialPorter.{Dialed, Dials}
use Rattle.dcr_net.specs.declared.dial_porter.DialPorter.{DialPorter}
use Rattle.dcr_net.specs.ListenPorter.{IsBrought, Tries, tried, unbegun, Begins, Listened, Listens, began, no_port, waits}
use Rattle.dcr_net.specs.declared.listen_porter.ListenPorter.{ListenPorter}

-- ---- one try

-- what came of a connection that was made
pub over_fresh : (r : Result (Brought SiteLinkValue) Failed) → IsLinkOrFailure r → IsFresh site_links r
over_fresh (Ok (Link link)) over = over
over_fresh (Ok Nobody) over = absurd over
over_fresh (Ok Shut) over = absurd over
over_fresh (Err failed) over = tt

pub over_dialed : {R : Type 0} (dialed : R → SocketAddr → Result TcpStream Error → R → Type 0) (old new : DialPorter R) (r : Result (Brought SiteLinkValue) Failed) (stream : TcpStream)
    → IsLinkOrFailure r → Dials dialed old (Ok stream) new → Dialed dialed old r new
over_dialed dialed old new (Ok (Link link)) stream over asked = (stream, asked)
over_dialed dialed old new (Ok Nobody) stream over asked = absurd over
over_dialed dialed old new (Ok Shut) stream over asked = absurd over
over_dialed dialed old new (Err failed) stream over asked = (stream, asked)

pub over_brought : (r : Result (Brought SiteLinkValue) Failed) (stream : TcpStream) → IsLinkOrFailure r → IsBrought (let a : Result TcpStream Error = Ok stream in a) r
over_brought (Ok (Link link)) stream over = tt
over_brought (Ok Nobody) stream over = over
over_brought (Ok Shut) stream over = over
over_brought (Err failed) stream over = tt

-- what was tried is told by a porter that has counted
pub tries_counted : {R L T E : Type 0} (answered : L → Result TcpStream Error → L → Type 0) (old between : ListenPorter R L) (faults : ℕ) (r : Result (Brought T) E) → Tries answered old r between
    → Tries answered old r (record between { faults = faults })
tries_counted answered old between faults r (unbegun none unlistening failed) = unbegun none unlistening failed
tries_counted answered old between faults r (tried first last answer some is asked brought) = tried first last answer some is asked brought

-- ---- the begin

-- what an option has
pub the_some : {A : Type 0} (o : Option A) → is_some o ≡ true → (x : A) × (o ≡ Some x)
the_some None is = absurd (false≢true is)
the_some (Some x) is = (x, refl)

pub the_none : {A : Type 0} (o : Option A) → is_some o ≡ false → o ≡ None
the_none None is = refl
the_none (Some x) is = absurd (false≢true (sym is))

module _ {R L : Type 0} (bound : R → SocketAddr → Result L Error → R → Type 0) (told : L → Result Unit Error → L → Type 0) (old : ListenPorter R L) where
  -- why there is no listener is told as a failure
  pub listened_failed : {E : Type 0} (result : Result L E) (new : ListenPorter R L) → IsErr result
      → ((e : Error) × Listens bound old (Err e) new) ⊎ ((first last : L) × (e : Error) × Listens bound old (Ok first) new × told first (Err e) last) → Listened bound told old result new
  listened_failed (Ok l) new failed why = absurd (false≢true failed)
  listened_failed (Err e) new failed why = why

  pub begins_failed : {T E F : Type 0} (e : F) (result : Result T E) (between new : ListenPorter R L) → old.listener ≡ None → new.rt ≡ between.rt → new.listener ≡ None → IsErr result
      → Listened bound told old (let r : Result L F = Err e in r) between → Begins bound told old result new
  begins_failed e result between new none handle unlistening failed (inl why) =
      no_port why.0 none (why.1.0, why.1.1, subst (λ rt. bound old.rt why.1.0 (Err why.0) rt) (sym handle) why.1.2) unlistening failed
  begins_failed e result between new none handle unlistening failed (inr why) =
      waits why.0 why.1 why.2 none (why.3.0, why.3.1, subst (λ rt. bound old.rt why.3.0 (Ok why.0) rt) (sym handle) why.3.2) why.4 unlistening failed

  pub begins_well : {T E : Type 0} (F : Type 0) (last : L) (result : Result T E) (between new : ListenPorter R L) → old.listener ≡ None → new.rt ≡ between.rt → new.listener ≡ Some last → IsOk result
      → Listened bound told old (let r : Result L F = Ok last in r) between → Begins bound told old result new
  begins_well F last result between new none handle listening done how =
      began how.0 last none (how.1.0, how.1.1, subst (λ rt. bound old.rt how.1.0 (Ok how.0) rt) (sym handle) how.1.2) how.2 listening done
