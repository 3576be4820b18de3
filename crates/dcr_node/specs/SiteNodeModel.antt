-- What the fields of a site node stand for.
use Rattle.dcr_node.specs.SiteState.{SiteState}
use Rattle.dcr_node.specs.declared.site_node.SiteNode.TheInside.{Inside}

abbrev pub site_state_of : Inside → SiteState
site_state_of n = record { id = n.id; count = n.count; site = n.site }
