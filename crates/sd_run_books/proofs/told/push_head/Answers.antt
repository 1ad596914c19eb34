use Rattle.std.proofs.Common.{arith}
use Rattle.sd_run_books.proofs.ToldPeriods.{packet_fits}
use Rattle.sd_run_books.proofs.told.push_head.Goals as goal

pub overflow_mul-packet-3 : goal.overflow_mul-packet-3
overflow_mul-packet-3 c =
    let site = c.args.site.now in
    let fits = packet_fits c.args.turn site.span site.cryptos site.every c.requires site.span_in.1 site.cryptos_in.1
    site.every_in.1 in
    rw (c.from-3.ensures, c.from-4.ensures, c.from-5.ensures, c.from-6.ensures) (omega (arith, fits))
