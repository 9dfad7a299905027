use Rattle.std.proofs.Common.{arith}
use Rattle.crypto_ciphers.proofs.mac_kdf.Streams.{filled_is, starts_scheduled, schedule_more}
use Rattle.crypto_ciphers.proofs.mac_kdf.stream_cipher.Rc4.new.Goals as goal

pub schedule-init : goal.schedule-init
schedule-init c =
    let start = starts_scheduled c.args.key.now c.fill.table (filled_is c.fill.table c.fill.invariant.len
    (λ k l. c.fill.invariant.filled k (omega arith))) in
    record { table = start.0; place = start.1 }

pub schedule-preserved : goal.schedule-preserved
schedule-preserved c =
    let more = schedule_more c.args.key.now c.schedule.table c.swap.new.self c.schedule.n c.schedule.j _
    c.schedule.invariant.table c.schedule.invariant.place (omega arith) c.swap.ensures.after in
    record { table = more.0; place = more.1 }
