-- The ranges of a list of elements.
use Rattle.std.proofs.Common.{◌≡◌, ℕ, List, [], ◌∷◌, map, refl, ap}
use Rattle.spec_exchange.specs.Commands.{Element, is_exclusive}
use Rattle.spec_exchange.specs.Ranges.{ranges_of}
use Rattle.store_opens.specs.share_modes.Answers.{AllOf}
use Rattle.store_opens.specs.share_modes.Locking.{range_of}
use Rattle.store_opens.specs.declared.share_modes.lists.Range.{Range}
use Rattle.server_checks.specs.verdicts.Looks.{element_range}

pub named : (o : ℕ) (es : List Element) (rs : List Range) → rs ≡ map (element_range o) es → map range_of rs ≡ ranges_of o es
named o [] rs e = rw e refl
named o (x ∷ xs) rs e = rw e (ap (λ ts. record {
  owner = o;
  at = x.at;
  length = x.length;
  exclusive = is_exclusive x.flags;
} ∷ ts) (named o xs (map (element_range o) xs) refl))

pub owned : (o : ℕ) (es : List Element) (rs : List Range) → rs ≡ map (element_range o) es → AllOf o rs
owned o [] rs e = rw e tt
owned o (x ∷ xs) rs e = rw e (refl, owned o xs (map (element_range o) xs) refl)
