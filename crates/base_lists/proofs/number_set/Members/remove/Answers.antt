use Rattle.std.proofs.Common.{◌≡◌, ◌+◌, ◌-◌, ◌<◌, ℕ, nat_lt, List, length, get_or, ap, ◌∙◌, subst, arith}
use Rattle.base_lists.specs.number_set.Members.{Pairs}
use Rattle.base_lists.proofs.number_set.Swapping.{has_removed, is_below, order', order_at_i, order_past, pairs_lists, swapped}
use Rattle.base_lists.proofs.number_set.Members.remove.Goals as goal

pub overflow_sub-last : goal.overflow_sub-last
overflow_sub-last c =
    let b = is_below (get_or c.args.self.now.places.items c.args.number 0) c.args.self.now.count c.requires.present in
    omega arith

pub swap_in-requires : goal.swap_in-requires
swap_in-requires c =
    let f = c.requires.fits in
    let few = f.few in
    let w = f.within in
    let o = c.args.self.now.order.items in
    let p = c.args.self.now.places.items in
    let n = length p in
    let m = c.args.self.now.count in
    let h : Pairs n o p = f.pairs in
    let i = c.place_of-place.result in
    let e : i ≡ get_or p c.args.number 0 = c.place_of-place.ensures in
    let s : length o ≡ n = h.ordered in
    let b : get_or p c.args.number 0 < m = is_below (get_or p c.args.number 0) m c.requires.present in
    let k : i < n = omega arith in
    let l : m - 1 < n = omega arith in
    record { i = omega arith; j = omega arith; few = omega arith; a = h.number i k; b = h.number (m - 1) l }

pub returns : goal.returns
returns c =
    let f = c.requires.fits in
    let few = f.few in
    let v = f.within in
    let o = c.args.self.now.order.items in
    let p = c.args.self.now.places.items in
    let n = length p in
    let m = c.args.self.now.count in
    let h : Pairs n o p = f.pairs in
    let q = c.args.number in
    let r : q < n = c.requires.within in
    let i = c.place_of-place.result in
    let e : i ≡ get_or p q 0 = c.place_of-place.ensures in
    let b : get_or p q 0 < m = is_below (get_or p q 0) m c.requires.present in
    let k : i < n = omega arith in
    let l : m - 1 < n = omega arith in
    let u : (m - 1) + 1 ≡ m = omega arith in
    let d = c.swap_in.ensures in
    let z = swapped n o p i (m - 1) h k l in
    let y : length c.swap_in.new.places.items ≡ n = ap (λ (xs : List ℕ). length xs) d.places ∙ z.placed in
    record {
      fits = record {
        pairs = pairs_lists n o p c.swap_in.new.order.items c.swap_in.new.places.items _ _ z d.order d.places;
        within = omega arith;
        few = omega arith;
      };
      size = y;
      count = u;
      has = λ x w. ap (λ (xs : List ℕ). nat_lt (get_or xs x 0) (m - 1)) d.places
          ∙ has_removed n o p i (m - 1) h k l q r e m u (omega arith) x w;
      members = λ x w. ap (λ (xs : List ℕ). get_or xs x 0) d.order
          ∙ order_past n o p i (m - 1) h k l x (λ a. (omega arith)) (λ a. (omega arith));
      moved = ap (λ (xs : List ℕ). get_or xs (get_or p q 0) 0) d.order
          ∙ subst (λ y. get_or (order' n o p i (m - 1) h k l) y 0 ≡ get_or o (m - 1) 0) e (order_at_i n o p i (m - 1) h k l);
      others = λ x w a. ap (λ (xs : List ℕ). get_or xs x 0) d.order
          ∙ order_past n o p i (m - 1) h k l x (λ f. a (f ∙ e)) (λ f. (omega arith));
    }
