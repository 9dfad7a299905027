use Rattle.std.proofs.Common.{◌≡◌, ◌+◌, ℕ, List, [], ◌∷◌, ◌++◌, length, get_or, refl, ap, ◌∙◌, arith, length-append}
use Rattle.base_lists.specs.number_set.Members.{Pairs}
use Rattle.base_lists.proofs.number_set.Swapping.{last_place, more_number, more_place, one_more, pairs_lists, past_so, same_test}
use Rattle.base_lists.proofs.number_set.Members.add.Goals as goal

pub add_last-requires : goal.add_last-requires
add_last-requires c =
    let few = c.requires.few in
    record { few = omega arith; ordered = c.requires.room.0; placed = c.requires.room.1 }

pub returns : goal.returns
returns c =
    let f = c.requires.fits in
    let few = c.requires.few in
    let w = f.within in
    let o = c.args.self.now.order.items in
    let p = c.args.self.now.places.items in
    let n = length p in
    let m = c.args.self.now.count in
    let h : Pairs n o p = f.pairs in
    let d = c.add_last.ensures in
    let z = length-append p (n ∷ []) in
    let y : length c.add_last.new.places.items ≡ n + 1 = ap (λ (xs : List ℕ). length xs) d.places ∙ z in
    record {
      fits = record {
        pairs = pairs_lists (n + 1) o p c.add_last.new.order.items c.add_last.new.places.items (o ++ n ∷ []) (p ++ n ∷ [])
            (one_more n o p h) d.order d.places;
        within = omega arith;
        few = omega arith;
      };
      size = y;
      count = refl;
      has = λ g l. same_test (get_or c.add_last.new.places.items g 0) (get_or p g 0) m
          (ap (λ (xs : List ℕ). get_or xs g 0) d.places ∙ more_place n o p h g l);
      apart = past_so (get_or c.add_last.new.places.items n 0) n m
          (ap (λ (xs : List ℕ). get_or xs n 0) d.places ∙ last_place n o p h) w;
      members = λ i l. ap (λ (xs : List ℕ). get_or xs i 0) d.order ∙ more_number n o p h i (omega arith);
    }
