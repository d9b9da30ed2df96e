-- `traces::calls::requesters_at` meets its contract: the first i requesters are read; past the end every requester is 0.
-- Assumes nothing.
use Rattle.std.proofs.Common.{◌≡◌, sym, ◌∙◌, ap, arith, length}
use Rattle.traces.specs.Records.{requesters_at}
use Rattle.traces.proofs.ListLaws.{requesters-length, requesters_next, requesters-cut, requesters_first}
use Rattle.traces.proofs.calls.requesters_at.Goals as goal

pub loop-i-init : goal.loop-i-init
unfolding requesters_at
loop-i-init c = c.new-list.ensures

pub push-requires : goal.push-requires
push-requires c = omega (arith, ap length c.loop-i.invariant, requesters-length c.args.s.now c.loop-i.i c.min-first.result)

pub loop-i-preserved : goal.loop-i-preserved
loop-i-preserved c = c.push.ensures.items ∙ requesters_next c.args.s.now c.loop-i.i c.min-first.result c.loop-i.invariant c.array_at.ensures

pub returns : goal.returns
returns c = let l = c.loop-i in let s = c.args.s.now in
    let all : l.i ≡ c.args.count = omega (arith, c.loop-i-test.false) in
    l.invariant ∙ rw all (requesters-cut s c.args.count c.args.from c.min-first.result c.min-first.ensures) ∙ sym (requesters_first s c.args.count 255 c.args.from (omega arith))
