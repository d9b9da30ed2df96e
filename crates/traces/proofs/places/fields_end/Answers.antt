-- `traces::places::fields_end` meets its contract: what the record is picks its fields.
-- Assumes nothing.
use Rattle.laws.specs.Choice.{when◌then◌else◌}
use Rattle.traces.specs.Records.{fields_end}
use Rattle.std.proofs.Common.{rules}
use Rattle.traces.proofs.WalkLaws.{behind-onward, octets_onward, list_onward, refused, some_found, none_found}
use Rattle.traces.proofs.places.fields_end.Goals as goal

pub returns-in_err-octets_end-in-Setup : goal.returns-in_err-octets_end-in-Setup
unfolding fields_end when◌then◌else◌
returns-in_err-octets_end-in-Setup c = rw (c.in-Setup.is, refused (list_onward c.args.s.now _) (none_found _ c.in_err-octets_end-in-Setup.ensures)) (search rules)

pub returns-in_ok-octets_end-in-Setup : goal.returns-in_ok-octets_end-in-Setup
unfolding fields_end when◌then◌else◌
returns-in_ok-octets_end-in-Setup c = rw (c.in-Setup.is, ← (some_found c.in_ok-octets_end-in-Setup.ensures).0) c.list_end.ensures

pub returns-in-Clock : goal.returns-in-Clock
unfolding fields_end when◌then◌else◌
returns-in-Clock c = rw c.in-Clock.is c.behind.ensures.place

pub returns-in-LogTransition : goal.returns-in-LogTransition
unfolding fields_end when◌then◌else◌
returns-in-LogTransition c = rw c.in-LogTransition.is c.behind-in-LogTransition.ensures.place

pub returns-in_err-behind-in-TakeFrame : goal.returns-in_err-behind-in-TakeFrame
unfolding fields_end when◌then◌else◌
returns-in_err-behind-in-TakeFrame c = rw (c.in-TakeFrame.is, refused (octets_onward c.args.s.now _) (none_found _ c.in_err-behind-in-TakeFrame.ensures.place)) (search rules)

pub returns-in_ok-behind-in-TakeFrame : goal.returns-in_ok-behind-in-TakeFrame
unfolding fields_end when◌then◌else◌
returns-in_ok-behind-in-TakeFrame c = rw (c.in-TakeFrame.is, ← (some_found c.in_ok-behind-in-TakeFrame.ensures.place).0) c.octets_end-in-TakeFrame.ensures

pub returns-in-Report : goal.returns-in-Report
unfolding fields_end when◌then◌else◌
returns-in-Report c = rw c.in-Report.is c.report_call_end.ensures

pub returns-in_err-behind-in-Roam : goal.returns-in_err-behind-in-Roam
unfolding fields_end when◌then◌else◌
returns-in_err-behind-in-Roam c = rw (c.in-Roam.is, refused (list_onward c.args.s.now _) (none_found _ c.in_err-behind-in-Roam.ensures.place)) (search rules)

pub returns-in_ok-behind-in-Roam : goal.returns-in_ok-behind-in-Roam
unfolding fields_end when◌then◌else◌
returns-in_ok-behind-in-Roam c = rw (c.in-Roam.is, ← (some_found c.in_ok-behind-in-Roam.ensures.place).0) c.list_end-in-Roam.ensures

pub returns-in_err-behind-in-ChangeNetwork : goal.returns-in_err-behind-in-ChangeNetwork
unfolding fields_end when◌then◌else◌
returns-in_err-behind-in-ChangeNetwork c = rw (c.in-ChangeNetwork.is, refused (list_onward c.args.s.now _) (none_found _ c.in_err-behind-in-ChangeNetwork.ensures.place)) (search rules)

pub returns-in_ok-behind-in-ChangeNetwork : goal.returns-in_ok-behind-in-ChangeNetwork
unfolding fields_end when◌then◌else◌
returns-in_ok-behind-in-ChangeNetwork c = rw (c.in-ChangeNetwork.is, ← (some_found c.in_ok-behind-in-ChangeNetwork.ensures.place).0) c.list_end-in-ChangeNetwork.ensures

pub returns-in_err-behind-in-LogRsna : goal.returns-in_err-behind-in-LogRsna
unfolding fields_end when◌then◌else◌
returns-in_err-behind-in-LogRsna c = rw (c.in-LogRsna.is, refused (octets_onward c.args.s.now _) (none_found _ c.in_err-behind-in-LogRsna.ensures.place)) (search rules)

pub returns-in_ok-behind-in-LogRsna : goal.returns-in_ok-behind-in-LogRsna
unfolding fields_end when◌then◌else◌
returns-in_ok-behind-in-LogRsna c = rw (c.in-LogRsna.is, ← (some_found c.in_ok-behind-in-LogRsna.ensures.place).0) c.octets_end-in-LogRsna.ensures

pub returns-in-LogPeerLink : goal.returns-in-LogPeerLink
unfolding fields_end when◌then◌else◌
returns-in-LogPeerLink c = rw c.in-LogPeerLink.is c.behind-in-LogPeerLink.ensures.place

pub returns-in-WriteRequest : goal.returns-in-WriteRequest
unfolding fields_end when◌then◌else◌
returns-in-WriteRequest c = rw c.in-WriteRequest.is c.writer_call_end.ensures

pub returns-in_err-behind-in-ReadReport : goal.returns-in_err-behind-in-ReadReport
unfolding fields_end when◌then◌else◌
returns-in_err-behind-in-ReadReport c = rw (c.in-ReadReport.is, refused (octets_onward c.args.s.now _) (none_found _ c.in_err-behind-in-ReadReport.ensures.place)) (search rules)

pub returns-in_ok-behind-in-ReadReport : goal.returns-in_ok-behind-in-ReadReport
unfolding fields_end when◌then◌else◌
returns-in_ok-behind-in-ReadReport c = rw (c.in-ReadReport.is, ← (some_found c.in_ok-behind-in-ReadReport.ensures.place).0) c.octets_end-in-ReadReport.ensures

pub returns-in_err-octets_end-in-Explain : goal.returns-in_err-octets_end-in-Explain
unfolding fields_end when◌then◌else◌
returns-in_err-octets_end-in-Explain c = rw (c.in-Explain.is, refused (behind-onward c.args.s.now _ 4) (none_found _ c.in_err-octets_end-in-Explain.ensures)) (search rules)

pub returns-in_ok-octets_end-in-Explain : goal.returns-in_ok-octets_end-in-Explain
unfolding fields_end when◌then◌else◌
returns-in_ok-octets_end-in-Explain c = rw (c.in-Explain.is, ← (some_found c.in_ok-octets_end-in-Explain.ensures).0) c.behind-in-Explain.ensures.place
