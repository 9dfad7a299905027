use Rattle.std.proofs.Common.{ℕ, List, [], ◌∷◌, ◌++◌, ap, refl, sym, ◌∙◌}
use Rattle.server_plan.proofs.reserving.logons.new_session.Goals as goal

pub returns-clause-row : goal.returns-clause-row
returns-clause-row c = λ q x y. record {
  is_new = record {
    drawn_is = refl;
    no_trees = c.new-trees.ensures.items;
    first_tree = refl;
    channels_are = c.in_ok-push.ensures.items ∙ ap (λ (xs : List ℕ). xs ++ c.args.m.now.connection ∷ []) c.new-channels.ensures.items;
  };
  user_is = c.in_ok-user.ensures;
  client_is = refl;
  cipher_is = sym x;
  signing_is = sym y;
}

pub returns-clause-keys : goal.returns-clause-keys
returns-clause-keys c = c.derive-keys.ensures
