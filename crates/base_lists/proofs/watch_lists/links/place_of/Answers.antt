use Rattle.std.proofs.Common.{◌≡◌, ℕ, ◌<◌, ◌≤◌, List, arith, sym, ◌∙◌, ap, ◌⊎◌, inl, inr}
use Rattle.base_lists.specs.declared.watch_lists.Link.{Link}
use Rattle.base_lists.specs.watch_lists.Listed.{watches, firsts}
use Rattle.base_lists.proofs.watch_lists.Columns.{inside}
use Rattle.base_lists.proofs.watch_lists.links.place_of.Goals as goal

pub loop-at-init : goal.loop-at-init
loop-at-init c =
    let l = c.requires.lists in
    let f : 0 < firsts c.args.links.now c.args.holder = (let a = c.requires.higher in let b = c.requires.counted in omega arith) in
    let w : watches c.args.links.now (firsts c.args.links.now c.args.holder) ≡ c.args.holder = l.top_is c.args.holder c.requires.above f in
    let p : 0 < watches c.args.links.now (firsts c.args.links.now c.args.holder) = rw w c.requires.above in
    record {
      watch = w;
      higher = other c.args.links.now c.args.index c.args.holder c.requires.apart c.requires.above w c.requires.higher;
      inside = inside c.args.links.now (firsts c.args.links.now c.args.holder) p;
    }
  where
    other : (links : List Link) (index holder : ℕ) → watches links index ≡ 0 → 0 < holder
        → watches links (firsts links holder) ≡ holder → index ≤ firsts links holder → index < firsts links holder
    other links index holder a b w h =
        let case : (index < firsts links holder) ⊎ (firsts links holder ≡ index) = grind arith in
        elim case [ inl k ↦ k | inr e ↦ absurd (let z : holder ≡ 0 = sym w ∙ ap (watches links) e ∙ a in omega arith) ]
