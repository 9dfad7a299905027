-- Which opens of a file keep another out (MS-FSA 2.1.5.1.2.2).
use Rattle.std.specs.Prelude.{◌≡◌, ℕ, ◌+◌, min, Bool, true, not, ◌&&◌, if◌then◌else◌, List, [], ◌∷◌, Option, Some}
use Rattle.std.specs.Prelude.{None}
use Rattle.spec_exchange.specs.Commands.{has_bit}
use Rattle.spec_exchange.specs.Opens.{is_shared, reads, writes, deletes}
use Rattle.store_opens.specs.declared.share_modes.lists.Open.{Open}
use Rattle.store_opens.specs.declared.share_modes.counts.ShareCounts.{ShareCounts}

-- the access of one isn't among what the other shares
abbrev pub conflicts : Open → ℕ → ℕ → Bool
conflicts o access share = not (is_shared access o.share && is_shared o.access share)

abbrev pub least_of : ℕ → Option ℕ → ℕ
least_of n None = n
least_of n (Some m) = min n m

-- the least id of an open that keeps out a new one with this access and sharing
abbrev pub least_conflict : List Open → ℕ → ℕ → Option ℕ
least_conflict [] access share = None
least_conflict (o ∷ os) access share = if conflicts o access share then Some (least_of o.id (least_conflict os access share))
    else least_conflict os access share

-- none keeps it out
abbrev pub admit_all : List Open → ℕ → ℕ → Bool
admit_all [] access share = true
admit_all (o ∷ os) access share = not (conflicts o access share) && admit_all os access share

-- ---- counts

abbrev pub count_of : (Open → Bool) → List Open → ℕ
count_of p [] = 0
count_of p (o ∷ os) = (if p o then 1 else 0) + count_of p os

abbrev pub sharing_lacks : ℕ → Open → Bool
sharing_lacks bit o = not (has_bit o.share bit)

pub record CountsShown (c : ShareCounts) (os : List Open) : Type 0 where
  pub readers : count_of (λ o. reads o.access) os ≡ c.readers
  pub writers : count_of (λ o. writes o.access) os ≡ c.writers
  pub deleters : count_of (λ o. deletes o.access) os ≡ c.deleters
  pub deny_read : count_of (sharing_lacks 0x1) os ≡ c.deny_read
  pub deny_write : count_of (sharing_lacks 0x2) os ≡ c.deny_write
  pub deny_delete : count_of (sharing_lacks 0x4) os ≡ c.deny_delete

-- the lesser of two ids, where they are there
abbrev pub least_both : Option ℕ → Option ℕ → Option ℕ
least_both None o = o
least_both (Some n) o = Some (least_of n o)
