use Rattle.std.proofs.Common.{◌∷◌, nat_eq, refl, sym, subst, ◌∙◌}
use Rattle.std.specs.HashMap.{get}
use Rattle.spec_exchange.specs.Ranges.{without_owner}
use Rattle.store_opens.specs.declared.share_modes.lists.Open.{Open}
use Rattle.store_opens.specs.open_index.Held.{HeldShown}
use Rattle.store_opens.proofs.open_table.Keys.{number_put}
use Rattle.store_opens.proofs.open_table.table.Opens.take_row.Goals as goal

pub returns-in-Some-clause-left : goal.returns-in-Some-clause-left
returns-in-Some-clause-left c = record {
  was = sym c.in-Some.ensures.value;
  rows = λ q. c.remove.ensures.updates.0 q ∙ number_put c.args.id q _ _;
  len = c.in-Some.ensures.len;
  guids = c.forget_name.ensures.at;
  file = λ os ranges. subst (λ (x : Open). HeldShown (get nat_eq c.args.self.now.files c.in-Some.row.file) (x ∷ os)
      ranges → HeldShown (get nat_eq c.uncount_open.new.files c.in-Some.row.file) os (without_owner x.id ranges))
      c.sharing_of-one.ensures (c.uncount_open.ensures.here os ranges);
  files = c.uncount_open.ensures.others;
  undated = refl;
  epoch = refl;
  given = refl;
  expired = refl;
  expired_count = refl;
  whole = refl;
  index = λ q d e h. h;
}
