-- `report_reader::decoders::pad` meets its contract.
-- Assumes nothing.
use Rattle.std.proofs.Common.{refl}
use Rattle.report_reader.proofs.DecoderLaws.{first-padded}
use Rattle.report_reader.proofs.decoders.pad.Goals as goal

pub returns : goal.returns
returns c h = first-padded _ _ _ _ _ refl c.requires h c.put.ensures
