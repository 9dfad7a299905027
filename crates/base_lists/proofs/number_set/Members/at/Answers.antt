use Rattle.std.proofs.Common.{◌≡◌, ◌<◌, length, get_or, ap, sym, ◌∙◌, arith, subst}
use Rattle.base_lists.specs.number_set.Members.{Pairs}
use Rattle.base_lists.proofs.number_set.Swapping.{below_so}
use Rattle.base_lists.proofs.number_set.Members.at.Goals as goal

pub number_at-requires : goal.number_at-requires
number_at-requires c =
    let f = c.requires.fits in
    let h = f.pairs in
    let a = c.requires.within in
    let b = f.within in
    let d = h.ordered in omega arith

pub returns : goal.returns
returns c =
    let f = c.requires.fits in
    let a = c.requires.within in
    let b = f.within in
    let n = length c.args.self.now.places.items in
    let h : Pairs n c.args.self.now.order.items c.args.self.now.places.items = f.pairs in
    let l : c.args.index < n = omega arith in
    let e : c.number_at.result ≡ get_or c.args.self.now.order.items c.args.index 0 = c.number_at.ensures in
    let p : get_or c.args.self.now.places.items c.number_at.result 0 ≡ c.args.index =
    ap (λ x. get_or c.args.self.now.places.items x 0) e ∙ h.there c.args.index l in
    record {
      is = e;
      has = below_so (get_or c.args.self.now.places.items c.number_at.result 0) c.args.index c.args.self.now.count p a;
      place = p;
      below = subst (λ x. x < n) (sym e) (h.number c.args.index l);
    }
