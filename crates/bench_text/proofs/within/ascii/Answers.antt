-- ASCII bytes are UTF-8, so `bench_text::within::ascii` is never refused. Assumes nothing.
use Rattle.std.proofs.lemmas.Str.{IsUtf8-from_ascii}
use Rattle.bench_text.proofs.within.ascii.Goals as goal

pub unreachable-requires : goal.unreachable-requires
unreachable-requires c = c.in_default.ensures.cases.0 (IsUtf8-from_ascii _ c.requires)
