use Rattle.client_ends.proofs.ends.Headers.{heads, header_is}
use Rattle.client_ends.proofs.ends.heard.heard_header.Goals as goal

pub returns-in-Ok : goal.returns-in-Ok
returns-in-Ok c = (heads c.args.m.now c.in-Ok.header c.in-Ok.ensures, header_is c.args.m.now c.in-Ok.header c.in-Ok.ensures)
