use Rattle.std.proofs.Common.{◌≡◌, ℕ, List, length, get_or, refl, ap, arith}
use Rattle.base_lists.proofs.number_set.Swapping.{pairs_lists, same_test}
use Rattle.base_lists.proofs.number_set.Members.reserve.Goals as goal

pub returns : goal.returns
returns c =
    let f = c.requires.fits in
    let few = f.few in
    let w = f.within in
    let o = c.args.self.now.order.items in
    let p = c.args.self.now.places.items in
    let d = c.make_room.ensures in
    let y : length c.make_room.new.places.items ≡ length p = ap (λ (xs : List ℕ). length xs) d.placed in
    record {
      fits = record {
        pairs = pairs_lists (length p) o p c.make_room.new.order.items c.make_room.new.places.items o p f.pairs d.ordered d.placed;
        within = omega arith;
        few = omega arith;
      };
      size = y;
      count = refl;
      has = λ g. same_test (get_or c.make_room.new.places.items g 0) (get_or p g 0) c.args.self.now.count
          (ap (λ (xs : List ℕ). get_or xs g 0) d.placed);
      members = λ i. ap (λ (xs : List ℕ). get_or xs i 0) d.ordered;
      room = d.room;
    }
