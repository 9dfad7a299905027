use Rattle.std.proofs.Common.{List, ◌∷◌, [], option_map, sym, ap, ◌∙◌}
use Rattle.spec_exchange.specs.State as model
use Rattle.store_files.specs.file_tree.Listed.{listing_given, any_at, with_accepted}
use Rattle.store_files.proofs.file_tree.Listings.{dots_there, dots_not}
use Rattle.store_files.proofs.file_tree.Indexed.{dots_info}
use Rattle.store_files.proofs.file_tree.tree.Tree.take_dots.Goals as goal

pub returns-then-is_behind_dot : goal.returns-then-is_behind_dot
returns-then-is_behind_dot c = λ s f h r ns.
    let i = dots_info c.args.self.now s f c.args.row.now h r c.parent_number-parent.result c.info-info.result
    (c.parent_number-parent.ensures s h) (λ e. c.info-info.ensures s h e) in
    let b = sym c.is_behind_dot.ensures ∙ c.if-is_behind_dot.true in
    let o = c.in_ok-offer.ensures ns in (
      o.0 ∙ (ap (λ (x : model.Info). listing_given c.args.asked c.args.taken.now
          (with_accepted c.args.asked.pattern.now (record { name = 46 ∷ 46 ∷ []; info = x }) ns)) i
          ∙ ap (λ (x : List model.Named). listing_given c.args.asked c.args.taken.now x)
          (dots_there (option_map (λ l. l.now) c.args.last) c.args.asked.pattern.now s f ns b)),
      o.1 ∙ (ap (λ (x : model.Info). any_at c.args.taken.now.stage (with_accepted c.args.asked.pattern.now (record {
        name = 46 ∷ 46 ∷ [];
        info = x;
      }) ns)) i
          ∙ ap (λ (x : List model.Named). any_at c.args.taken.now.stage x)
          (dots_there (option_map (λ l. l.now) c.args.last) c.args.asked.pattern.now s f ns b)),
    )

pub returns : goal.returns
returns c = λ s f h r ns.
    let b = sym c.is_behind_dot.ensures ∙ c.if-is_behind_dot.false in
    let e = dots_not (option_map (λ l. l.now) c.args.last) c.args.asked.pattern.now s f ns b in (
      ap (λ (x : List model.Named). listing_given c.args.asked c.args.taken.now x) e,
      ap (λ (x : List model.Named). any_at c.args.taken.now.stage x) e,
    )
