use Rattle.std.proofs.Common.{List, ◌∷◌, [], option_map, ap, ◌∙◌}
use Rattle.spec_exchange.specs.State as model
use Rattle.store_files.specs.file_tree.Listed.{listing_given, any_at, with_accepted}
use Rattle.store_files.proofs.file_tree.Found.{found_info}
use Rattle.store_files.proofs.file_tree.Listings.{dot_so}
use Rattle.store_files.proofs.file_tree.list.take_dot.Goals as goal

pub returns-in-None : goal.returns-in-None
returns-in-None c = λ s r ns.
    let i = found_info s c.args.directory c.args.row.now c.info_of.result r c.info_of.ensures in
    let d = dot_so (option_map (λ l. l.now) c.args.last) c.args.asked.pattern.now s c.args.directory ns
    (ap (option_map (λ l. l.now)) c.in-None.is) in
    let o = c.in_ok-offer-in-None.ensures ns in (
      o.0 ∙ (ap (λ (x : model.Info). listing_given c.args.asked c.args.taken.now
          (with_accepted c.args.asked.pattern.now (record { name = 46 ∷ []; info = x }) ns)) i
          ∙ ap (λ (x : List model.Named). listing_given c.args.asked c.args.taken.now x) d),
      o.1 ∙ (ap (λ (x : model.Info). any_at c.args.taken.now.stage (with_accepted c.args.asked.pattern.now (record {
        name = 46 ∷ [];
        info = x;
      }) ns)) i
          ∙ ap (λ (x : List model.Named). any_at c.args.taken.now.stage x) d),
    )
