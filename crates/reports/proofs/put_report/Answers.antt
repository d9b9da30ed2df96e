-- `reports::put_report` meets its contract: head and rest stand one behind the other.
-- Assumes nothing.
use Rattle.std.proofs.Common.{arith, ◌∙◌, ◌≤◌, length}
use Rattle.reports.specs.Reports.{report_element}
use Rattle.reports.proofs.Laws.{put_short, put_long, put_two, element_parts, element-length}
use Rattle.reports.proofs.put_report.Goals as goal

pub returns-then-buf-rest : goal.returns-then-buf-rest
returns-then-buf-rest c = let a = c.args in put_short (omega (arith, c.if-buf-rest.true, element-length a.head.kind a.head.token a.head.ty a.head.status a.rest.now))

pub returns : goal.returns
returns c = let a = c.args in
    let fits : length (report_element a.head.kind a.head.token a.head.ty a.head.status a.rest.now) ≤ length a.buf.now = omega (arith, c.if-buf-rest.false, element-length a.head.kind a.head.token a.head.ty a.head.status a.rest.now) in
    put_long fits
    (put_two _ a.buf.now fits c.octets-octets.result a.rest.now (element_parts a.head.kind a.head.token a.head.ty a.head.status a.rest.now ∙ rw c.octets-octets.ensures) _ _ c.put-behind_head.ensures _ _ c.put.ensures)
