use Rattle.std.proofs.Common.{sym, arith}
use Rattle.bench_text.specs.TextLaws.{wrote_more, decimal_small, decimal_more}
use Rattle.bench_text.proofs.+put_decimal.Goals as goal

pub returns-then-n-lt10 : goal.returns-then-n-lt10
returns-then-n-lt10 t c = rw (decimal_small c.args.n (omega arith)) c.put_last_digit.ensures

pub returns : goal.returns
returns t c =
    let a = c.args in
    let q = c.put_last_digit-2 in
    wrote_more a.out.now a.at _ c.put_decimal-p.result c.put_decimal-p.new.out _ q.result q.new.out _ c.put_decimal-p.ensures q.ensures (sym (decimal_more a.n (omega arith)))
