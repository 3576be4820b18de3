-- What the fields of `Calls` stand for.
use Rattle.dcr_fakes.specs.CallLog.{CallLog}
use Rattle.dcr_fakes.specs.declared.calls.Calls.TheInside.{Inside}

abbrev pub log_of : Inside → CallLog
log_of c = record { failing = c.failing.items; made = c.made; faults = c.faults }
