use Rattle.crypto_ciphers.proofs.aes_block.Turns.{planes_of_turned}
use Rattle.crypto_ciphers.proofs.aes_block.turning.turned.Goals as goal

pub returns : goal.returns
returns c =
    planes_of_turned c.args.q.now _ _ _ _ _ _ _ _ _ _ _ _ _ _ _ _ _ _ _ _ _ _ _ _ c.turned_by_one-a.ensures.first
    c.turned_by_one-a.ensures.second c.turned_by_one-b.ensures.first c.turned_by_one-b.ensures.second
    c.turned_by_one-c.ensures.first c.turned_by_one-c.ensures.second c.turned_by_one-d.ensures.first
    c.turned_by_one-d.ensures.second c.turned_by_two-e.ensures.first c.turned_by_two-e.ensures.second
    c.turned_by_two-f.ensures.first c.turned_by_two-f.ensures.second c.turned_by_two-g.ensures.first
    c.turned_by_two-g.ensures.second c.turned_by_two-h.ensures.first c.turned_by_two-h.ensures.second
    c.turned_by_four-k.ensures.first c.turned_by_four-k.ensures.second c.turned_by_four-l.ensures.first
    c.turned_by_four-l.ensures.second c.turned_by_four-m.ensures.first c.turned_by_four-m.ensures.second
    c.turned_by_four-n.ensures.first c.turned_by_four-n.ensures.second
