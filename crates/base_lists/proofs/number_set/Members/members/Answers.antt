use Rattle.std.proofs.Common.{List, ℕ, length, get_or, ◌<◌, ◌≡◌, true, sym, subst}
use Rattle.base_lists.specs.number_set.Members.{has, is_in, size}
use Rattle.base_lists.proofs.number_set.Listing.{all_in, all_within, fronted}
use Rattle.base_lists.proofs.number_set.Members.members.Goals as goal

pub front-requires : goal.front-requires
front-requires c = fronted c.args.self.now c.requires.fits

pub returns : goal.returns
returns c =
    let s = c.args.self.now in
    record {
      is = c.front.ensures;
      within = subst (λ (xs : List ℕ). (i : ℕ) → i < length xs → get_or xs i 0 < size s) (sym c.front.ensures)
          (all_within s c.requires.fits);
      all = subst (λ (xs : List ℕ). (g : ℕ) → g < size s → has s g ≡ true → is_in g xs ≡ true) (sym c.front.ensures)
          (all_in s c.requires.fits);
    }
