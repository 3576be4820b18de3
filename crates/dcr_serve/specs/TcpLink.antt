-- A `TcpLink` as contracts see it.
use Rattle.std.specs.Prelude.{ℕ, Bool, List, Option, None}
use Rattle.dcr_base.specs.Link.{Links, links_of}
use Rattle.dcr_base.specs.Side.{side}
use Rattle.dcr_serve.specs.declared.tcp_link.TcpLink.TheInside.{Inside}
use Rattle.dcr_serve.specs.declared.tcp_link.TcpRest.{TcpRest}

pub record TcpLinkValue : Type 0 where
  -- a read into room has given nothing
  pub has_ended : Bool
  -- what failed so far
  pub faults : TcpRest

abbrev pub link_of : Inside → TcpLinkValue
link_of l = record { has_ended = l.has_ended; faults = l.faults }

-- no bytes are told
abbrev pub untold : Option (List ℕ)
untold = None

-- what one tells, and what stays of it
abbrev pub tcp_links : Links TcpLinkValue TcpRest
tcp_links = links_of (λ l. side untold l.faults.failed_reads) (λ l. side untold l.faults.failed_writes) (λ rest. side untold rest.failed_reads) (λ rest. side untold rest.failed_writes)
