-- What contracts see of a case file that is lent.
use Rattle.dcr_cover_json.specs.Seen.{written as cover_written}
use Rattle.dcr_graph_json.specs.Seen.{written as graph_written}
use Rattle.dcr_session_json.specs.Seen.{written as sessions_written}
use Rattle.dcr_json.specs.Written.{Written}
use Rattle.dcr_json.specs.declared.file.FileText.{FileText}

abbrev pub written : FileText → Written
written file = record { graph = graph_written file.graph; sites = cover_written file.cover; sessions = sessions_written file.sessions }
