use Rattle.std.proofs.Common.{◌≡◌, ◌≢◌, ◌==◌, ℕ, Bool, true, false, None, Some, arith, sym, ap, ◌∙◌}
use Rattle.std.proofs.Common.{refl}
use Rattle.std.specs.Prelude.{Option}
use Rattle.std.specs.Ordering.{nat_cmp}
use Rattle.std.specs.BTreeMap.{get}
use Rattle.std.proofs.lemmas.Bool.Decides.{nat_tests}
use Rattle.store_files.proofs.file_extents.cut.remove_inside.Goals as goal

stays : {X : Type 0} (f g : ℕ → Option X) (m k : ℕ) (p : X) (b : Bool) → (k == m) ≡ b → g m ≡ None → ((q : ℕ) → q ≢ m → g q ≡ f q)
    → g k ≡ Some p → f k ≡ Some p
stays f g m k p true e a u h = absurd (let q : k ≡ m = grind (arith, nat_tests) in let w = ap g q in cc)
stays f g m k p false e a u h = let q : k ≢ m = grind (arith, nat_tests) in sym (u k q) ∙ h

pub loop-place-preserved : goal.loop-place-preserved
loop-place-preserved c =
    let i = c.loop-place.invariant in
    let n = c.in-Some.ensures.some in
    let e = c.remove_one.ensures in (
      i.0,
      (λ k p l r h. i.1 k p l r (stays (λ q. get nat_cmp c.loop-place.pieces q) (λ q. get nat_cmp c.remove_one.new.pieces q)
          c.in-Some.place k p
          (k == c.in-Some.place) refl e.gone e.others h)),
      (λ k l. e.others k (λ q. omega (arith, q, l, n)) ∙ i.2 k l),
      (λ k l. e.others k (λ q. omega (arith, q, l, n)) ∙ i.3 k l),
      (λ b fit s.
          let w = i.4 b fit s in
          e.kept w.0 b (λ p a. fit c.in-Some.place p (i.1 c.in-Some.place p n.0 n.1 a) n.0 n.1) w.1 w.2),
    )
