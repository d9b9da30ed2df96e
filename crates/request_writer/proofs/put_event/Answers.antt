-- `request_writer::put_event` meets its contract: the conditions are put first, and the head in front of them.
-- Assumes nothing.
use Rattle.std.proofs.Common.{◌≡◌, refl, ap, ◌∙◌, List, [], ◌∷◌, ◌++◌, ℕ, ◌+◌, arith, length, rules}
use Rattle.laws.proofs.Older.{put_mid}
use Rattle.octets.specs.declared.numbers.Kind.TheVariants.{Event}
use Rattle.laws.specs.Buffers.{onto}
use Rattle.laws.proofs.Buffers.{copied}
use Rattle.laws.proofs.Arrays.{length_mapped}
use Rattle.request_writer.specs.Frames.{filter_octets, element_octets}
use Rattle.request_writer.proofs.Lengths.{filter-length}
use Rattle.request_writer.proofs.Writing.{event-octets, headed, lent_array}
use Rattle.request_writer.proofs.put_event.Goals as goal

pub put_filter-n-requires : goal.put_filter-n-requires
put_filter-n-requires c = let a = c.args in
    let five : length a.e.filter ≡ 5 = search (rules, length_mapped) in
    omega (arith, filter-length a.e.ty a.e.filter five)

pub returns : goal.returns
returns c =
    let a = c.args in
    let s = a.buf.now in
    let f = c.put_filter-n in
    let id = c.request_id in
    let n = f.result in
    let is = f.ensures.length.0 in
    let o : List ℕ = filter_octets a.e.ty a.e.filter in
    let h : List ℕ = 78 ∷ (3 + n) ∷ a.e.token ∷ a.e.ty ∷ a.e.limit ∷ [] in
    let all : h ++ o ≡ element_octets Event a.e = event-octets a.e n is in
    let src : id.result ∷ (3 + n) ∷ a.e.token ∷ a.e.ty ∷ a.e.limit ∷ [] ≡ h = rw id.ensures in
    let long : length s ≡ 33 = search rules in
    let behind = lent_array o s f.new.buf 5 28 long f.ensures.put in
    record {
      length = (omega (arith, is, ap length all), omega (arith, f.ensures.length.1));
      put = copied h (id.result ∷ (3 + n) ∷ a.e.token ∷ a.e.ty ∷ a.e.limit ∷ []) (put_mid 5 28 s f.new.buf) c.copy.new.buf src c.copy.ensures.after ∙ ap (onto h) behind ∙ headed h o s 5 refl (omega (arith, long)) ∙ ap (λ (x : List ℕ). onto x s) all;
    }
