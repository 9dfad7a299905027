use Rattle.std.proofs.Common.{◌≡◌, ◌++◌, ◌∷◌, [], List, ap, sym, subst}
use Rattle.base_lists.specs.declared.watch_lists.Link.{Link}
use Rattle.base_lists.specs.watch_lists.Listed.{WatcherLists, no_link, watches, firsts, nexts}
use Rattle.base_lists.proofs.watch_lists.Columns.{moved, link_more}
use Rattle.base_lists.proofs.watch_lists.Watchers.push.Goals as goal

pub invariant_of-self-2 : goal.invariant_of-self-2
invariant_of-self-2 c =
    let old = c.self.inside.links.items in
    let is : c.push.new.self.items ≡ old ++ no_link ∷ [] = c.in_ok-push.ensures.items in
    subst (λ (xs : List Link). WatcherLists (watches xs) (firsts xs) (nexts xs)) (sym is)
    (moved (watches old) (firsts old) (nexts old) (watches (old ++ no_link ∷ [])) (firsts (old ++ no_link ∷ []))
    (nexts (old ++ no_link ∷ []))
    (λ g. ap (λ (r : Link). r.watch) (link_more old g)) (λ g. ap (λ (r : Link). r.first) (link_more old g))
    (λ g. ap (λ (r : Link). r.next) (link_more old g)) c.self.invariant)
