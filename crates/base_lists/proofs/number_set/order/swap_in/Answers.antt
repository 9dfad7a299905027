use Rattle.std.proofs.Common.{◌≡◌, ◌<◌, ◌^◌, ℕ, List, length, get_or, set, ap, sym, ◌∙◌, arith, subst}
use Rattle.std.proofs.lemmas.Grind.{common_steps}
use Rattle.base_lists.proofs.number_set.Swapping.{whole}
use Rattle.base_lists.proofs.number_set.order.swap_in.Goals as goal

pub swap-requires : goal.swap-requires
swap-requires c =
    let r = c.requires in
    let o = c.deref_mut.ensures.value in
    let p = c.deref_mut-2.ensures.value in
    record {
      i = subst (λ (xs : List ℕ). c.args.i < length xs) (sym o) r.i;
      j = subst (λ (xs : List ℕ). c.args.j < length xs) (sym o) r.j;
      few = subst (λ (xs : List ℕ). length xs < 2 ^ 32) (sym o) r.few;
      a = subst (λ (xs : List ℕ). get_or xs c.args.i 0 < length c.deref_mut-2.result.now) (sym o)
          (subst (λ (xs : List ℕ). get_or c.args.order.now.items c.args.i 0 < length xs) (sym p) r.a);
      b = subst (λ (xs : List ℕ). get_or xs c.args.j 0 < length c.deref_mut-2.result.now) (sym o)
          (subst (λ (xs : List ℕ). get_or c.args.order.now.items c.args.j 0 < length xs) (sym p) r.b);
    }

pub returns : goal.returns
returns c =
    let o = c.deref_mut.ensures.value in
    let p = c.deref_mut-2.ensures.value in
    let x : length c.args.order.now.items ≡ c.args.order.now.len = grind (arith, common_steps) in
    let y : length c.args.places.now.items ≡ c.args.places.now.len = grind (arith, common_steps) in
    record {
      order = whole c.args.order.now.len c.args.order.now.items c.swap.new.order x
          (c.swap.ensures.ordered ∙ ap (λ (xs : List ℕ). length xs) o) ∙ c.swap.ensures.order
          ∙ ap (λ (xs : List ℕ). set (set xs c.args.i (get_or xs c.args.j 0)) c.args.j (get_or xs c.args.i 0)) o;
      places = whole c.args.places.now.len c.args.places.now.items c.swap.new.places y
          (c.swap.ensures.placed ∙ ap (λ (xs : List ℕ). length xs) p) ∙ c.swap.ensures.places
          ∙ (λ t. set (set (p t) (get_or (o t) c.args.i 0) c.args.j) (get_or (o t) c.args.j 0) c.args.i);
    }
