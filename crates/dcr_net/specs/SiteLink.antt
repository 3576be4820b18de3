-- A `SiteLink` as contracts see it.
use Rattle.std.specs.Prelude.{ℕ, Bool, List, Option, None, Result, Ok, Err, ⊤}
use Rattle.dcr_base.specs.Link.{IsUnfailed, Links, links_of}
use Rattle.dcr_base.specs.Side.{side}
use Rattle.dcr_porter.specs.declared.brought.Brought.{Brought}
use Rattle.dcr_porter.specs.declared.brought.Brought.TheVariants.{Link, Nobody, Shut}
use Rattle.dcr_net.specs.declared.site_link.SiteLink.TheInside.{Inside}
use Rattle.dcr_net.specs.declared.site_link.SiteRest.{SiteRest}

pub record SiteLinkValue : Type 0 where
  -- a read into room has given nothing
  pub has_ended : Bool
  -- what failed so far
  pub faults : SiteRest

abbrev pub link_of : Inside → SiteLinkValue
link_of l = record { has_ended = l.has_ended; faults = l.faults }

-- no bytes are told
abbrev pub untold : Option (List ℕ)
untold = None

-- what one tells, and what stays of it
abbrev pub site_links : Links SiteLinkValue SiteRest
site_links = links_of (λ l. side untold l.faults.failed_reads) (λ l. side untold l.faults.failed_writes) (λ rest. side untold rest.failed_reads) (λ rest. side untold rest.failed_writes)

-- a link that has counted no fault, or a failure
abbrev pub IsLinkOrFailure : {E : Type 0} → Result (Brought SiteLinkValue) E → Type 0
IsLinkOrFailure (Ok (Link link)) = IsUnfailed site_links link
IsLinkOrFailure (Ok Nobody) = ⊥
IsLinkOrFailure (Ok Shut) = ⊥
IsLinkOrFailure (Err failed) = ⊤
