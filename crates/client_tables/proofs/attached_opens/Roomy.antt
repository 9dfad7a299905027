-- Room for lock slots.
use Rattle.std.proofs.Common.{◌≡◌, ℕ, ◌+◌, ◌<◌, ◌≤◌, arith, ◌⊎◌, inl, inr}
use Rattle.client_tables.specs.attached_opens.Opens.{IsRoomy}

-- fewer locks, and no less room
pub roomy_less : (n m counted room after : ℕ) → m ≤ n → room ≤ after → IsRoomy n counted room → IsRoomy m counted after
roomy_less n m counted room after l h r = record { enough = by_case r.enough; within = more room r.within }
  where
    more : (x : ℕ) → counted ≤ room → counted ≤ after
    more x k = omega arith

    by_case : (64 ≤ counted) ⊎ (n ≤ counted) → (64 ≤ counted) ⊎ (m ≤ counted)
    by_case (inl k) = inl k
    by_case (inr k) = inr (omega arith)

-- one lock more, which was counted
pub roomy_one : (n counted room after : ℕ) → counted + 1 ≤ after → IsRoomy n counted room → IsRoomy (n + 1) (counted + 1) after
roomy_one n counted room after l r = record { enough = by_case r.enough; within = l }
  where
    by_case : (64 ≤ counted) ⊎ (n ≤ counted) → (64 ≤ counted + 1) ⊎ (n + 1 ≤ counted + 1)
    by_case (inl k) = inl (omega arith)
    by_case (inr k) = inr (omega arith)

-- there were 64 before it
pub roomy_all : (n m counted room : ℕ) → 64 ≤ counted → IsRoomy n counted room → IsRoomy m counted room
roomy_all n m counted room l r = record { enough = inl l; within = r.within }

-- nothing came yet
pub roomy_none : (counted room : ℕ) → counted ≡ 0 → IsRoomy 0 counted room
roomy_none counted room e = record { enough = inr (omega arith); within = omega arith }

-- one of 64 slots that stands behind those that were used finds room, where there is a lock more than slots
pub roomy_slot : (n counted room used slot : ℕ) → IsRoomy n counted room → used + 1 ≤ n → slot ≤ 64 → used < slot → used < room
roomy_slot n counted room used slot r l few k = by_case r.enough r.within
  where
    by_case : (64 ≤ counted) ⊎ (n ≤ counted) → counted ≤ room → used < room
    by_case (inl h) w = omega arith
    by_case (inr h) w = omega arith
