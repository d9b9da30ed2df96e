-- `reports::put_event` meets its contract: head, time fields and body stand one behind the other.
-- Assumes nothing.
use Rattle.std.proofs.Common.{arith, ◌≡◌, ◌≤◌, length, rules}
use Rattle.events.specs.Times.{draft_length, published_length}
use Rattle.events.specs.Log.{body_capacity}
use Rattle.events.proofs.LoggingLaws.{form-length}
use Rattle.reports.specs.Reports.{event_element}
use Rattle.reports.proofs.Laws.{put_short, put_long, event-length, put-event_parts}
use Rattle.reports.proofs.put_event.Goals as goal

pub returns-then-buf-rest : goal.returns-then-buf-rest
returns-then-buf-rest c = let a = c.args in
    let d : length a.entry.time ≡ draft_length = search rules in
    let p : length a.entry.published ≡ published_length = search rules in
    let b : length a.entry.body ≡ body_capacity = search rules in
    put_short
    (omega (arith, c.if-buf-rest.true, c.time_length.ensures.0, event-length a.form a.token a.entry (form-length a.form a.entry d p) b c.min-n.result c.min-n.ensures))

pub returns : goal.returns
returns c = let a = c.args in
    let d : length a.entry.time ≡ draft_length = search (rules, c.well_formed) in
    let p : length a.entry.published ≡ published_length = search (rules, c.well_formed) in
    let b : length a.entry.body ≡ body_capacity = search (rules, c.well_formed) in
    let t = form-length a.form a.entry d p in
    let fits : length (event_element a.form a.token a.entry) ≤ length a.buf.now = omega (arith, c.if-buf-rest.false, c.time_length.ensures.0, event-length a.form a.token a.entry t b _ c.min-n.ensures) in
    put_long fits
    (put-event_parts a.form a.token a.entry t b _ c.min-n.ensures a.buf.now _
    fits (rw (← c.time_length.ensures.0) c.octets-octets.ensures)
    _ _ c.put-behind_head.ensures _ _ c.put_time-behind_time.ensures _ _ c.put.ensures)
