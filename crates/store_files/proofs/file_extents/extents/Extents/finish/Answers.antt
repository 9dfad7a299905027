use Rattle.std.proofs.Common.{◌≡◌, ◌+◌, ◌-◌, ℕ, length, take, drop, arith, subst, refl, ◌∙◌, ap, Vec, Global}
use Rattle.std.specs.Prelude.{vec_items, Option}
use Rattle.std.specs.Ordering.{nat_cmp}
use Rattle.std.specs.BTreeMap.{get}
use Rattle.std.proofs.lemmas.List.{places}
use Rattle.spec_exchange.specs.Content.{written}
use Rattle.store_files.specs.file_extents.Shown.{Shows}
use Rattle.store_files.proofs.file_extents.Planned.{written-parts, left-kept, right-kept, left-away, length-any}
use Rattle.store_files.proofs.file_extents.extents.Extents.finish.Goals as goal

pub returns-clause-shown : goal.returns-clause-shown
returns-clause-shown c at b r s =
    let p = c.args.prepared.plan in
    let d = c.args.bytes.now in
    let o = r.plan.order in
    let f : ℕ → Option (Vec ℕ Global) = λ k. get nat_cmp c.args.self.now.pieces k in
    let g : ℕ → Option (Vec ℕ Global) = λ k. get nat_cmp c.put_middle-removed.new.pieces k in
    let h : ℕ → Option (Vec ℕ Global) = λ k. get nat_cmp c.put_part.new.pieces k in
    let lm : length c.args.prepared.middle.items ≡ p.until - p.from =
    (let m = ap (λ x. length x) r.middle in let n = r.some in grind (arith, places)) in
    let one = c.put_middle-removed.ensures.shown b lm r.marked (λ l k q e m. r.plan.clear l k q e m) r.plan.inner s.shows in
    let left = left-kept f g p.left at p.from c.put_middle-removed.ensures.before r.plan.left in
    let two = c.put_part.ensures.shown at at p.from (written p.from c.args.prepared.middle.items b) left (omega arith) (omega arith) one in
    let away = left-away f p.left at p.from p.until r.plan.left o.1 in
    let there = c.put_part.ensures.others p.until away ∙ c.put_middle-removed.ensures.behind p.until (omega arith) in
    let right = right-kept f h p.right at p.until (at + length d) r.plan.begins there r.plan.right in
    let three = c.put_part-2.ensures.shown at p.until (at + length d) _ right (omega arith) (omega arith) two in
    let whole = written-parts at p.from p.until (at + length d) d b o.0 o.1 o.2 refl r.some in
    record {
      shows = subst (λ v. Shows vec_items (λ k. get nat_cmp c.put_part-2.new.pieces k) v)
          (ap (λ m. written p.until (take (at + length d - p.until) (drop (p.until - at) d))
          (written at (take (p.from - at) (drop (at - at) d)) (written p.from m b))) r.middle ∙ whole) three;
      len = let l = length-any at d b in let z = r.some in let y = s.len in let x = c.max-self.ensures in let w = o.3 in grind arith;
    }
