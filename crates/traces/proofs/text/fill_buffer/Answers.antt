-- `traces::text::fill_buffer` meets its contract.
-- Assumes nothing.
use Rattle.std.proofs.Common.{◌≡◌, ◌+◌, ◌≤◌, ap, ◌∙◌, List, ◌++◌, ℕ, arith, length, take, replicate, length-take-le}
use Rattle.std.proofs.lemmas.List.{length-replicate}
use Rattle.laws.proofs.Arrays.{take_within}
use Rattle.texts.proofs.PutLaws.{put_tried, put-fits}
use Rattle.traces.specs.Places.{longest_length}
use Rattle.traces.proofs.text.fill_buffer.Goals as goal

pub returns : goal.returns
returns c = let t = c.try_extend_from_slice.ensures in
    let n = c.min-n.result in
    let filled = replicate longest_length c.args.fill in
    let all : length filled ≡ longest_length = length-replicate longest_length c.args.fill in
    let few : n ≤ length filled = omega (arith, all, c.min-n.ensures) in
    let empty = c.clear.ensures in
    let fits : length c.clear.new.self.items + length (take n filled) ≤ longest_length = omega (arith, ap length empty, length-take-le n filled few, all) in
    put_tried longest_length (take n filled) _ _ c.try_extend_from_slice.result t.variant t.ok t.err ∙ put-fits longest_length (take n filled) c.clear.new.self.items fits
    ∙ ap (λ (o : List ℕ). o ++ take n filled) empty ∙ take_within filled longest_length n all c.args.length c.min-n.ensures
