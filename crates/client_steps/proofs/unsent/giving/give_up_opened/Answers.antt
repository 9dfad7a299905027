use Rattle.std.proofs.Common.{◌≡◌, ℕ, ◌+◌, ◌-◌, ◌<◌, ◌≤◌, length, slice_index, refl, sym, ◌∙◌, subst, arith}
use Rattle.spec_exchange.specs.Client.{create_for}
use Rattle.spec_exchange.specs.Settling.{with_no_opens}
use Rattle.client_rows.specs.operation_rows.Rows.{owner}
use Rattle.client_rows.proofs.operation_rows.Walking.{positive}
use Rattle.client_tables.proofs.settling.Going.{goes_both, goes_none}
use Rattle.client_tables.specs.whole_table.Shown.{ShowsTable}
use Rattle.client_steps.specs.unsent.GivenUp.{given_below, reached}
use Rattle.client_steps.proofs.unsent.Given.{given_begun, given_skip, given_whole, last_row, lower_so, table_alike, table_itself}
use Rattle.client_steps.proofs.unsent.Walking.{fewer_left, goes_up, none_passed, reached_none, reached_some}
use Rattle.client_steps.proofs.unsent.giving.give_up_opened.Goals as goal

pub loop-at-init : goal.loop-at-init
loop-at-init c =
    let t = c.args.table.now in
    let k = c.args.create in
    let n = length t.rows.items in
    record {
      inside = c.requires.within;
      own = λ p. refl;
      fits = c.requires.fits;
      session = refl;
      settles = goes_none t.rows.items;
      shown = λ d gone makes kept s.
          subst (λ (x : ℕ). ShowsTable t (given_below d k x)) (sym (reached_some k n c.requires.above))
          (table_alike t.session t.rows.items t.holders.items t.prices t.watchers t.ops.items t.settled.items
          t.order.items t.dialogs.items d d.outcome (given_below d k k).outcome (given_begun d k (lower_so d k kept))
          (table_itself t.session t.rows.items t.holders.items t.prices t.watchers t.ops.items t.settled.items t.order.items t.dialogs.items
          d s));
    }

pub give_up_one-requires : goal.give_up_one-requires
give_up_one-requires c =
    let v = c.loop-at.invariant in
    record {
      fits = v.fits;
      above = positive c.loop-at.at c.loop-at-test.true;
      within = subst (λ m. c.loop-at.at < m) (sym v.settles.count) v.inside;
    }

pub next_of-at-requires : goal.next_of-at-requires
next_of-at-requires c = subst (λ m. c.loop-at.at < m) (sym c.requires.later.counted) c.loop-at.invariant.inside

pub loop-at-preserved : goal.loop-at-preserved
loop-at-preserved c =
    let v = c.loop-at.invariant in
    let e = c.give_up_one.ensures in
    let rows = c.args.table.now.rows.items in
    let n = length rows in
    let k = c.args.create in
    let x = c.loop-at.at in
    let u = c.give_up_one.new.table in
    let later = c.args.later.now in
    let a = c.requires.later in
    let p : 0 < x = positive x c.loop-at-test.true in
    let q : c.next_of-at.result ≡ slice_index later x = c.next_of-at.ensures in
    record {
      inside = subst (λ y. y < n) (sym q) (a.within x p v.inside);
      own = λ m. subst (λ y. owner rows y ≡ owner rows k) (sym q)
          (a.own x p v.inside (subst (λ y. 0 < y) q m) ∙ v.own p);
      fits = e.fits;
      session = e.session ∙ v.session;
      settles = goes_both rows c.loop-at.table.rows.items u.rows.items v.settles e.settles;
      shown = λ d gone makes kept s. (
          let before : ShowsTable c.loop-at.table (given_below d k x) =
          subst (λ (y : ℕ). ShowsTable c.loop-at.table (given_below d k y)) (reached_some x n p) (v.shown d gone makes kept s) in
          let m = reached (slice_index later x) n in
          let same : (g : ℕ) → 0 < g → g ≤ d.taken → create_for d g ≡ owner rows g = s.rows.places.creates in
          let own : create_for d k ≡ owner rows k = same k c.requires.above (s.rows.places.is_taken k c.requires.above c.requires.within) in
          subst (λ (y : ℕ). ShowsTable u (given_below d k (reached y n))) (sym q)
          (table_alike u.session u.rows.items u.holders.items u.prices u.watchers u.ops.items u.settled.items
          u.order.items u.dialogs.items d
          (given_below d k (x + 1)).outcome (given_below d k m).outcome
          (given_skip d k (x + 1) m (goes_up rows later a x p v.inside)
          (λ g b t i j o. none_passed rows later a x p v.inside g i j (s.rows.places.has_row g b t)
          (sym (same g b t) ∙ o ∙ sym (kept.ordered.itself k makes) ∙ own ∙ sym (v.own p))))
          (e.shown d gone kept before))
          );
    }

pub loop-at-smaller : goal.loop-at-smaller
loop-at-smaller c =
    let rows = c.args.table.now.rows.items in
    let n = length rows in
    let x = c.loop-at.at in
    let later = c.args.later.now in
    subst (λ y. n - reached y n < n - reached x n) (sym c.next_of-at.ensures)
    (fewer_left rows later c.requires.later x (positive x c.loop-at-test.true) c.loop-at.invariant.inside)

pub returns : goal.returns
returns c =
    let v = c.loop-at.invariant in
    let t = c.loop-at.table in
    let k = c.args.create in
    let n = length c.args.table.now.rows.items in
    record {
      fits = v.fits;
      session = v.session;
      settles = v.settles;
      shown = λ d gone makes kept s. (
          let w : ShowsTable t (given_below d k n) =
          subst (λ (y : ℕ). ShowsTable t (given_below d k y)) (reached_none c.loop-at.at n c.loop-at-test.false)
          (v.shown d gone makes kept s) in
          table_alike t.session t.rows.items t.holders.items t.prices t.watchers t.ops.items t.settled.items t.order.items
          t.dialogs.items d (given_below d k n).outcome (with_no_opens d k).outcome
          (given_whole d k n (last_row d.taken n n s.rows.places.has_row (same_at_most n) (some_rows k n c.requires.within))) w
          );
    }
  where
    same_at_most : (n : ℕ) → n ≤ n
    same_at_most n = omega arith

    some_rows : (k n : ℕ) → k < n → 0 < n
    some_rows k n l = omega arith
