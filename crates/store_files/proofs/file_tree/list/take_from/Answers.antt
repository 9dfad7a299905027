use Rattle.std.proofs.Common.{◌≡◌, ◌<◌, true, IfSome, length, refl, sym, ap, subst, ◌∙◌}
use Rattle.std.specs.String.{string_bytes}
use Rattle.store_files.specs.file_tree.Keys.{key_le}
use Rattle.store_files.specs.file_tree.Listed.{listing_given, any_at, listing_accepted, kids_left, from_key}
use Rattle.store_files.proofs.file_tree.list.take_from.Goals as goal

pub loop-from-init : goal.loop-from-init
loop-from-init c = λ names a l. (l, refl, refl)

pub loop-from-preserved : goal.loop-from-preserved
loop-from-preserved c = λ names a l.
    let v = c.loop-from.invariant names a l in
    let r = c.in_ok-next.ensures.given names a v.0 in (
      subst (λ o. IfSome o (λ k. key_le (string_bytes c.args.front.now) (string_bytes k) ≡ true)) c.in-Some.is c.in_ok-next.ensures.behind,
      ap (λ o. listing_given c.args.asked c.take_run.new.taken
          (listing_accepted c.args.asked.pattern.now (kids_left names (string_bytes c.args.front.now) o
          c.args.paths.now.entries))) (sym c.in-Some.is) ∙ (r.0 ∙ v.1),
      ap (λ o. any_at c.take_run.new.taken.stage
          (listing_accepted c.args.asked.pattern.now (kids_left names (string_bytes c.args.front.now) o
          c.args.paths.now.entries))) (sym c.in-Some.is) ∙ (r.1 ∙ v.2),
    )

pub loop-from-smaller : goal.loop-from-smaller
loop-from-smaller c =
    subst (λ o. IfSome o (λ k. length (from_key (string_bytes k) c.args.paths.now.entries) < length
    (from_key (string_bytes c.loop-from.from) c.args.paths.now.entries))) c.in-Some.is c.in_ok-next.ensures.fewer

pub returns-in-None-clause-given : goal.returns-in-None-clause-given
returns-in-None-clause-given c = λ names a l.
    let v = c.loop-from.invariant names a l in
    let r = c.in_ok-next.ensures.given names a v.0 in (
      ap (λ o. listing_given c.args.asked c.take_run.new.taken
          (listing_accepted c.args.asked.pattern.now (kids_left names (string_bytes c.args.front.now) o
          c.args.paths.now.entries))) (sym c.in-None.is) ∙ (r.0 ∙ v.1),
      ap (λ o. any_at c.take_run.new.taken.stage
          (listing_accepted c.args.asked.pattern.now (kids_left names (string_bytes c.args.front.now) o
          c.args.paths.now.entries))) (sym c.in-None.is) ∙ (r.1 ∙ v.2),
    )
