-- `report_calls::report_frames::frame_events` meets its contract: the part behind the header is lent on, and the header put before it.
-- Assumes nothing.
use Rattle.octets.specs.declared.numbers.Kind.TheVariants.{Event}
use Rattle.octets.specs.Numbers.{report_action}
use Rattle.report_calls.proofs.FillLaws.{framed}
use Rattle.report_calls.proofs.report_frames.frame_events.Goals as goal

pub returns : goal.returns
returns c = framed (report_action Event) c.args.r.dialog c.args.buf.now c.frame_end-end.result c.requires c.frame_end-end.ensures c.fill_events-f.ensures _ c.put_header.ensures
