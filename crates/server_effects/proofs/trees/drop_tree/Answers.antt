use Rattle.std.proofs.Common.{List, ℕ, subst, sym, ap, ◌∙◌}
use Rattle.spec_exchange.specs.Effects.{close_all, opens_of_tree, without_tree}
use Rattle.spec_exchange.specs.State.{Tree}
use Rattle.spec_exchange.specs.Table.{is_filled, put}
use Rattle.law_server.proofs.tables.Closing.{closed_beside}
use Rattle.server_checks.specs.Shown.{TablesShown}
use Rattle.server_checks.specs.session_table.Changes.{tree_dropped}
use Rattle.server_effects.proofs.ClosedOpens.{tree_closable}
use Rattle.server_effects.proofs.Steps.{session_pieces}
use Rattle.server_effects.specs.Closed.{AreClosable}
use Rattle.server_effects.proofs.trees.drop_tree.Goals as goal

pub returns-clause-shows : goal.returns-clause-shows
returns-clause-shows c = λ now s f h e.
    let x = c.args.m.now.session_id in
    let n = c.args.m.now.tree_id in
    let v = close_all s x (opens_of_tree s x n) in
    let k : TablesShown c.close_each.new.t v = subst (λ (os : List ℕ). TablesShown c.close_each.new.t (close_all s x os)) e
    (c.close_each.ensures.shows s x f h (subst (λ (os : List ℕ). AreClosable s x os) (sym e) (tree_closable s x n f))) in
    record {
      shows = subst (λ (g : ℕ → List Tree). TablesShown (record c.close_each.new.t { sessions = c.drop_tree.new.self })
          (record v { trees = put g x (without_tree n (g x)) })) (closed_beside s x (opens_of_tree s x n)).trees
          (session_pieces c.close_each.new.t c.drop_tree.new.self (tree_dropped v x n) k.opens k.files
          (c.drop_tree.ensures.shows v k.sessions) k.share_is k.room_is k.encrypts_is k.address_is k.version_is k.journal_is);
      reply = c.answer_with.ensures.reply;
      acted = c.answer_with.ensures.acted_is ∙ (c.is_any-acted.ensures ∙ ap is_filled e);
    }

pub returns-clause-bare : goal.returns-clause-bare
returns-clause-bare c = c.answer_with.ensures.bare

pub returns-clause-config : goal.returns-clause-config
returns-clause-config c = c.close_each.ensures.config

pub returns-clause-logons : goal.returns-clause-logons
returns-clause-logons c = λ keys pending k. c.drop_tree.ensures.logons keys pending (c.close_each.ensures.logons keys pending k)
