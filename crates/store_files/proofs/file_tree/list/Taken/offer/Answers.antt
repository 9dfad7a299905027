use Rattle.std.proofs.Common.{List, sym, ap, ◌∙◌}
use Rattle.spec_exchange.specs.State.{Named}
use Rattle.spec_exchange.specs.Listing.{accepts}
use Rattle.store_files.specs.file_tree.Shown.{model_info}
use Rattle.store_files.specs.file_tree.Listed.{listing_given, any_at}
use Rattle.store_files.proofs.file_tree.Listings.{full_given, full_any, any_some, accepted_so, not_accepted}
use Rattle.store_files.proofs.file_tree.list.Taken.offer.Goals as goal

pub returns-then-is_full : goal.returns-then-is_full
returns-then-is_full c = λ ns.
    let e = sym c.is_full.ensures ∙ c.if-is_full.true in
    (full_given c.args.self.now.stage _ _ _ e, full_any c.args.self.now.stage _ _ e)

pub returns-then-is_wanted : goal.returns-then-is_wanted
returns-then-is_wanted c = λ ns.
    let n : Named = record { name = c.args.name.now; info = model_info c.args.info } in
    let a = ap (accepts c.args.asked.pattern.now) (sym c.as_bytes.ensures.value) ∙ (sym c.in_ok-is_wanted.ensures ∙ c.if-is_wanted.true) in
    let e = accepted_so c.args.asked.pattern.now n ns a in (
      c.in_ok-put.ensures.given ns ∙ ap (λ (x : List Named). listing_given c.args.asked c.args.self.now x) e,
      c.in_ok-put.ensures.any ns ∙ (any_some c.args.self.now.stage n ns ∙ ap (λ (x : List Named). any_at c.args.self.now.stage x) e),
    )

pub returns : goal.returns
returns c = λ ns.
    let n : Named = record { name = c.args.name.now; info = model_info c.args.info } in
    let a = ap (accepts c.args.asked.pattern.now) (sym c.as_bytes.ensures.value) ∙ (sym c.in_ok-is_wanted.ensures ∙ c.if-is_wanted.false) in
    let e = not_accepted c.args.asked.pattern.now n ns a in (
      ap (λ (x : List Named). listing_given c.args.asked c.args.self.now x) e,
      ap (λ (x : List Named). any_at c.args.self.now.stage x) e,
    )
