use Rattle.std.proofs.Common.{◌≡◌, ◌≤◌, ◌<◌, ◌+◌, ◌==◌, Bool, true, false, List, ℕ, length, None, Some, Vec, Global, IsSome, arith}
use Rattle.std.proofs.Common.{sym, subst, refl, ◌∙◌, nat_lt, [], ◌∷◌}
use Rattle.std.specs.Prelude.{Option, vec_items}
use Rattle.std.specs.Ordering.{nat_cmp}
use Rattle.std.specs.BTreeMap.{get}
use Rattle.std.proofs.lemmas.Bool.Decides.{nat_tests}
use Rattle.spec_exchange.specs.Content.{is_empty}
use Rattle.store_files.specs.file_extents.Shown.{Shows, Agrees}
use Rattle.store_files.proofs.file_extents.Shown.{written-over}
use Rattle.store_files.proofs.file_extents.Planned.{written-none, still-there, not-there}
use Rattle.store_files.proofs.file_extents.put.put_middle.Goals as goal

pub returns-then-from-until-clause-shown : goal.returns-then-from-until-clause-shown
returns-then-from-until-clause-shown c b n marked clear inner s =
    let t = c.if-from-until.true in
    subst (λ v. Shows vec_items (λ k. get nat_cmp c.args.pieces.now k) v)
    (sym (written-none c.args.from c.args.bytes.items b (omega arith))) s

full : (d : List ℕ) → 0 < length d → is_empty d ≡ false
unfolding is_empty
full [] l = absurd (omega (arith, l))
full (x ∷ xs) l = refl

-- what is left behind the removal
module _ (f g : ℕ → Option (Vec ℕ Global)) (from until : ℕ) (others : (k : ℕ) → k ≤ from → g k ≡ f k)
    (gone : (k : ℕ) → from < k → k < until → g k ≡ None)
    (inner : (k : ℕ) (p : Vec ℕ Global) → f k ≡ Some p → from ≤ k → k < until → k + length p.items ≤ until)
    (clear : (k : ℕ) (p : Vec ℕ Global) → f k ≡ Some p → k < from → k + length p.items ≤ from) (l : from < until) where
  covered : (k : ℕ) (p : Vec ℕ Global) (b : Bool) → (k == from) ≡ b → g k ≡ Some p → k ≤ from → k + length p.items ≤ until
  covered k p true t e m = inner k p (sym (others k m) ∙ e) (grind (arith, nat_tests)) (grind (arith, nat_tests))
  covered k p false t e m = let v = clear k p (sym (others k m) ∙ e) (grind (arith, nat_tests)) in omega (arith, v, l)

  behind : (k : ℕ) (b : Bool) → nat_lt k until ≡ b → IsSome (g k) → from < k → until ≤ k
  behind k true t h m = absurd (not-there g k (gone k m (grind (arith, nat_tests))) h)
  behind k false t h m = grind (arith, nat_tests)

pub returns-clause-shown : goal.returns-clause-shown
returns-clause-shown c b n marked clear inner s =
    let l : c.args.from < c.args.until = (let t = c.if-from-until.false in omega arith) in
    let r = c.remove_inside-removed.ensures in
    let f : ℕ → Option (Vec ℕ Global) = λ k. get nat_cmp c.args.pieces.now k in
    let g : ℕ → Option (Vec ℕ Global) = λ k. get nat_cmp c.remove_inside-removed.new.pieces k in
    let w = r.kept b (λ k p e h m. inner k p e (omega arith) m) s in
    let d = c.args.bytes.items in
    let e : c.args.from + length d ≡ c.args.until = omega arith in
    let some : is_empty d ≡ false = full d (omega arith) in
    let shown = c.fill-replaced.ensures.shown w.0 some
    (still-there f g c.args.from (r.others c.args.from (omega arith)) (marked l))
    (λ k p h m. clear l k p (sym (r.others k (omega arith)) ∙ h) m)
    (λ k p h m. subst (λ v. k + length p.items ≤ v) (sym e)
    (covered f g c.args.from c.args.until r.others r.gone inner (clear l) l k p (k == c.args.from) refl h m))
    (λ k h m. subst (λ v. v ≤ k) (sym e) (behind f g c.args.from c.args.until r.others r.gone inner (clear l) l k
    (nat_lt k c.args.until) refl h m))
    w.2 in
    subst (λ v. Shows vec_items (λ k. get nat_cmp c.fill-replaced.new.pieces k) v)
    (written-over c.args.from d w.0 b some (subst (λ v. Agrees c.args.from v w.0 b) (sym n) w.1)) shown
