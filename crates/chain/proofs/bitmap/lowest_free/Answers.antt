use Rattle.std.proofs.Common.{sym}
use Rattle.chain.specs.BitmapLaws.{free-full}
use Rattle.chain.proofs.bitmap.lowest_free.Goals as goal

pub returns-then-is_full : goal.returns-then-is_full
returns-then-is_full c = sym (free-full c.args.map.now (c.is_full.ensures c.if-is_full.true))
