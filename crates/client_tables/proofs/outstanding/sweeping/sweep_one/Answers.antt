use Rattle.std.proofs.Common.{◌≡◌, ℕ, ◌<◌, sym, ◌∙◌, subst}
use Rattle.base_lists.specs.number_set.Members.{count, member}
use Rattle.client_tables.proofs.outstanding.Swept.{more_behind, not_swept, place_least, place_least_same, swept_moved}
use Rattle.client_tables.proofs.outstanding.sweeping.sweep_one.Goals as goal

-- a member leaves, of which nothing is outstanding; else nothing changes. The last one comes to its place: those above the place that
-- are left are old ones from above it, of which each has something outstanding.

pub returns-then-not-is_out_at : goal.returns-then-not-is_out_at
returns-then-not-is_out_at c =
    let out = c.args.out.now in
    let o = c.remove.ensures in
    record {
      fits = o.fits;
      sized = o.size ∙ c.requires.sized;
      more = more_behind c.args.rows.now out c.remove.new.self c.at-index.result c.requires.sized c.requires.more o.has
          (sym c.is_out_at.ensures ∙ c.if-not-is_out_at.true);
      least = place_least (count out) (count c.remove.new.self) c.args.place o.count c.requires.within;
      swept = λ h. swept_moved c.args.rows.now out c.remove.new.self c.args.place
          (record {
            fewer = o.count;
            moved = λ a. subst (λ p. member c.remove.new.self p ≡ member out (count c.remove.new.self)) c.at-index.ensures.place o.moved;
            others = subst (λ p. (i : ℕ) → i < count c.remove.new.self → (i ≡ p → ⊥) → member c.remove.new.self i ≡ member out i)
                c.at-index.ensures.place o.others;
          }) h;
    }

pub returns-else-not-is_out_at : goal.returns-else-not-is_out_at
returns-else-not-is_out_at c =
    record {
      fits = c.requires.fits;
      sized = c.requires.sized;
      more = c.requires.more;
      least = place_least_same (count c.args.out.now) c.args.place c.requires.within;
      swept = λ h. not_swept c.args.rows.now c.args.out.now c.args.place c.at-index.result c.at-index.ensures.is
          (sym c.is_out_at.ensures ∙ c.if-not-is_out_at.false) h;
    }
