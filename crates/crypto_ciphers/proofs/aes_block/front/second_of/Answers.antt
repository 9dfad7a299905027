use Rattle.crypto_ciphers.proofs.aes_block.Fronts.{behind_is}
use Rattle.crypto_ciphers.proofs.aes_block.front.second_of.Goals as goal

pub returns : goal.returns
returns c =
    let f = c.front.inside in
    behind_is c.args.front.now f.column f.rest.a f.rest.b f.rest.c f.rest.d c.args.byte c.with_row3-a.result
    c.with_row0.result c.with_row3.result c.with_row2.result c.with_row1.result c.front.view_is c.with_row3-a.ensures
    c.with_row0.ensures c.with_row3.ensures c.with_row2.ensures c.with_row1.ensures
