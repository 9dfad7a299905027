use Rattle.std.proofs.Common.{ap, arith, length}
use Rattle.spec_wire.specs.messages.Negotiate.{negotiate_request_in}
use Rattle.wire_bytes.specs.session_messages.Views.{negotiate_request}
use Rattle.conn_core.proofs.negotiating.Hellos.{unreadable}
use Rattle.conn_core.proofs.negotiating.greeting.hello_to.Goals as goal

pub returns-in-Err-clause-short : goal.returns-in-Err-clause-short
returns-in-Err-clause-short c = omega (arith, ap length c.refused.ensures.1)

pub returns-in-Err-clause-hello : goal.returns-in-Err-clause-hello
returns-in-Err-clause-hello c =
    let g = c.args.greeter.now in
    unreadable g.guid g.salt g.moment c.args.m.now c.refused.result c.in-Err.field-0 c.in-Err.ensures c.refused.ensures.0

pub returns-in-Ok-clause-hello : goal.returns-in-Ok-clause-hello
returns-in-Ok-clause-hello c =
    let m = c.args.m.now in
    let law = c.negotiate_request_law.ensures in
    let v = negotiate_request c.in-Ok.request in
    let reads = c.in-Ok.ensures in
    c.hello_by.ensures.hello m (record {
      is = law.one m v (negotiate_request_in m) reads.1 (law.given m reads.0);
      whole = reads.0;
    })
