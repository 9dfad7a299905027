-- What is read of an open.
use Rattle.std.proofs.Common.{◌≡◌, ℕ, ◌<◌, false, List, length, get_or, ap, ◌∙◌}
use Rattle.std.proofs.lemmas.List.{get_or_default}
use Rattle.client_tables.specs.declared.attached_opens.opened.Opened.{Opened}
use Rattle.client_tables.specs.attached_opens.Known.{IsKnownAt}

-- what a read past the end would give
abbrev pub none_known : Opened
none_known = record { persist = false; shut = false; file = 0 }

pub known_at : (opened : List Opened) (i at : ℕ) → at ≡ i → i < length opened → IsKnownAt opened i (get_or opened at none_known)
known_at opened i at e l =
    ap (λ y. get_or opened y none_known) e ∙ get_or_default opened i none_known (get_or opened at none_known) l
