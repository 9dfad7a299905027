use Rattle.std.proofs.Common.{length, nat_le, nat_lt, ap, ◌∙◌}
use Rattle.spec_exchange.specs.CheckSetup.{last_tree, max_trees}
use Rattle.spec_exchange.specs.Effects.{add_tree}
use Rattle.law_server.proofs.tables.Logic.{back_off}
use Rattle.server_effects.proofs.Steps.{session_pieces}
use Rattle.server_effects.proofs.Told.{connected_in}
use Rattle.server_effects.proofs.trees.add_tree.Goals as goal

pub returns-clause-shows : goal.returns-clause-shows
returns-clause-shows c = λ now s f h a.
    let x = c.args.m.now.session_id in
    let d = back_off (nat_le max_trees (length (s.trees x))) (nat_lt last_tree (s.next_tree x)) a.1 in
    record {
      shows = session_pieces c.args.t.now c.add_tree-tree.new.self (add_tree s x c.args.pipes) h.opens h.files
          (c.add_tree-tree.ensures.shows s h.sessions a.0 d) h.share_is h.room_is h.encrypts_is h.address_is h.version_is h.journal_is;
      reply = c.tree_answer.ensures.reply ∙ ap (connected_in x c.args.pipes) (c.add_tree-tree.ensures.id s h.sessions a.0 d);
      acted = c.tree_answer.ensures.acted;
    }
