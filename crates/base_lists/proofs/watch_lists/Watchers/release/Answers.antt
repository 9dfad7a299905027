use Rattle.std.proofs.Common.{◌≡◌, ℕ, ◌<◌, ◌≤◌, List, arith, subst, sym, ap, ◌∙◌}
use Rattle.std.proofs.lemmas.Grind.{common_steps}
use Rattle.base_lists.specs.declared.watch_lists.Link.{Link}
use Rattle.base_lists.specs.watch_lists.Listed.{WatcherLists, watches, firsts, nexts}
use Rattle.base_lists.proofs.watch_lists.Watchers.release.Goals as goal

pub returns-then-index-eq0-clause-none : goal.returns-then-index-eq0-clause-none
returns-then-index-eq0-clause-none c =
    let v : c.self.inside.links.items ≡ c.args.self.now = c.self.view_is in
    let l : WatcherLists (watches c.args.self.now) (firsts c.args.self.now) (nexts c.args.self.now) =
    subst (λ (xs : List Link). WatcherLists (watches xs) (firsts xs) (nexts xs)) v c.self.invariant in
    let none : firsts c.args.self.now c.args.holder ≡ 0 = grind (arith, common_steps) in
    λ g e. no_watcher c.args.self.now c.args.holder l c.requires.above none g e
  where
    no_watcher : (links : List Link) (b : ℕ) → WatcherLists (watches links) (firsts links) (nexts links) → 0 < b
        → firsts links b ≡ 0 → (g : ℕ) → watches links g ≡ b → ⊥
    no_watcher links b l p none g e =
        let low : g ≤ firsts links b = l.top b g p e in
        let at : g ≡ 0 = omega arith in
        let z : 0 ≡ b = sym l.nought ∙ ap (watches links) (sym at) ∙ e in omega arith
