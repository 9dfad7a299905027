use Rattle.std.proofs.Common.{◌≡◌, List, ◌∷◌, [], ◌++◌, ℕ, map, ap, ◌∙◌}
use Rattle.spec_exchange.specs.State.{Named}
use Rattle.store_files.specs.file_tree.Shown.{model_info}
use Rattle.store_files.specs.file_tree.Listed.{model_named}
use Rattle.store_files.proofs.file_tree.Listings.{put_fits, put_not, named_pushed}
use Rattle.store_files.proofs.file_tree.list.Taken.put.Goals as goal

pub returns-in-Some-clause-given : goal.returns-in-Some-clause-given
returns-in-Some-clause-given c = λ ns.
    let old = c.args.self.now.entries.items in
    let n : Named = record { name = c.args.name.now; info = model_info c.args.info } in
    let items : map model_named c.push.new.self.items ≡ map model_named old ++ n ∷ [] =
    ap (map model_named) c.in_ok-push-in-Some.ensures.items
    ∙ (named_pushed old (record { name = c.in_ok-name-in-Some.name; info = c.args.info })
    ∙ ap (λ (t : List ℕ). map model_named old ++ record { name = t; info = model_info c.args.info } ∷ []) c.in_ok-name-in-Some.ensures) in
    put_fits c.args.asked c.args.self.now.stage c.stage_behind-self.result (map model_named old)
    (map model_named c.push.new.self.items) n ns c.args.self.now.at c.in-Some.end c.requires c.in-Some.ensures
    c.stage_behind-self.ensures items

pub returns-in-None-clause-given : goal.returns-in-None-clause-given
returns-in-None-clause-given c = λ ns.
    let n : Named = record { name = c.args.name.now; info = model_info c.args.info } in
    put_not c.args.asked c.args.self.now.stage (map model_named c.args.self.now.entries.items) n ns c.args.self.now.at
    c.requires c.in-None.ensures
