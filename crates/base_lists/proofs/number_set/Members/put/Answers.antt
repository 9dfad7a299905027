use Rattle.std.proofs.Common.{◌≡◌, ◌+◌, ◌<◌, ◌≤◌, ℕ, nat_lt, List, length, get_or, refl, ap, ◌∙◌, arith}
use Rattle.base_lists.specs.number_set.Members.{Pairs}
use Rattle.base_lists.proofs.number_set.Swapping.{first_moves, has_put, not_below, order_past, pairs_lists, swapped}
use Rattle.base_lists.proofs.number_set.Members.put.Goals as goal

pub swap_in-requires : goal.swap_in-requires
swap_in-requires c =
    let f = c.requires.fits in
    let few = f.few in
    let o = c.args.self.now.order.items in
    let p = c.args.self.now.places.items in
    let n = length p in
    let m = c.args.self.now.count in
    let h : Pairs n o p = f.pairs in
    let i = c.place_of-place.result in
    let e : i ≡ get_or p c.args.number 0 = c.place_of-place.ensures in
    let s : length o ≡ n = h.ordered in
    let g : get_or p c.args.number 0 < n = h.place c.args.number c.requires.within in
    let b : m ≤ get_or p c.args.number 0 = not_below (get_or p c.args.number 0) m c.requires.apart in
    let k : i < n = omega arith in
    let l : m < n = omega arith in
    record { i = omega arith; j = omega arith; few = omega arith; a = h.number i k; b = h.number m l }

pub overflow_add-self : goal.overflow_add-self
overflow_add-self c =
    let f = c.requires.fits in
    let few = f.few in
    let w = f.within in omega arith

pub returns : goal.returns
returns c =
    let f = c.requires.fits in
    let few = f.few in
    let o = c.args.self.now.order.items in
    let p = c.args.self.now.places.items in
    let n = length p in
    let m = c.args.self.now.count in
    let h : Pairs n o p = f.pairs in
    let q = c.args.number in
    let r : q < n = c.requires.within in
    let i = c.place_of-place.result in
    let e : i ≡ get_or p q 0 = c.place_of-place.ensures in
    let g : get_or p q 0 < n = h.place q r in
    let b : m ≤ get_or p q 0 = not_below (get_or p q 0) m c.requires.apart in
    let k : i < n = omega arith in
    let l : m < n = omega arith in
    let d = c.swap_in.ensures in
    let z = swapped n o p i m h k l in
    let y : length c.swap_in.new.places.items ≡ n = ap (λ (xs : List ℕ). length xs) d.places ∙ z.placed in
    record {
      fits = record {
        pairs = pairs_lists n o p c.swap_in.new.order.items c.swap_in.new.places.items _ _ z d.order d.places;
        within = omega arith;
        few = omega arith;
      };
      size = y;
      count = refl;
      has = λ x w. ap (λ (xs : List ℕ). nat_lt (get_or xs x 0) (m + 1)) d.places
          ∙ has_put n o p i m h k l q r e (omega arith) x w;
      last = ap (λ (xs : List ℕ). get_or xs q 0) d.places ∙ first_moves n o p i m h k l q r e;
      members = λ x w. ap (λ (xs : List ℕ). get_or xs x 0) d.order
          ∙ order_past n o p i m h k l x (λ a. (omega arith)) (λ a. (omega arith));
    }
