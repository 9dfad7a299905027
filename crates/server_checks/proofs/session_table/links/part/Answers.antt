use Rattle.std.proofs.Common.{ℕ, List, refl, ap, ◌∙◌}
use Rattle.spec_exchange.specs.Table.{has}
use Rattle.server_checks.proofs.session_table.Rows.{has_other}
use Rattle.server_checks.proofs.session_table.links.part.Goals as goal

pub returns : goal.returns
returns c = record {
  logon = record { user_is = refl; client_is = refl; cipher_is = refl; signing_is = refl; keys_are = refl };
  drawn_is = refl;
  others_stay = λ q e. ap (λ (v : List ℕ). has q v) c.drop_connection.ensures ∙ has_other q c.args.connection
      c.args.row.now.channels.items e;
  trees_are = refl;
  next_tree_is = refl;
}
