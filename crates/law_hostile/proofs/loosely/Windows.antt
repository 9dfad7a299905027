-- Which message ids a window can still take: what it holds, and what it is to be granted. What a frame takes can't be taken again.
use Rattle.std.proofs.Common.{◌≡◌, ℕ, ◌≤◌, ◌<◌, false, List, ◌⊎◌, inl, inr, ⊎_elim, arith}
use Rattle.std.proofs.lemmas.Bool.{cases_lt}
use Rattle.spec_wire.specs.credits.Ids.{times}
use Rattle.spec_wire.specs.credits.Window.{HeldIds}
use Rattle.spec_world.specs.Settings.{WorldSettings}
use Rattle.spec_hostile.specs.RepeatRuns.{RepeatWorld, RepeatEvent, repeat_happens}
use Rattle.law_hostile.specs.taken_ids.TakenIds.{ids_now, is_opened_by}
use Rattle.law_hostile.proofs.taken_ids.Spending.{Spends}
use Rattle.law_hostile.proofs.taken_ids.Runs.{event_window}
use Rattle.law_hostile.proofs.taken_ids.Once.{HeldOnce, window_at}

abbrev pub CanTake : HeldIds → ℕ → Type 0
CanTake w id = (1 ≤ times id w.held) ⊎ (w.next ≤ id)

held_before : (w v : HeldIds) (ids : List ℕ) (id : ℕ) → Spends w v ids → HeldOnce w → id < w.next → CanTake v id → CanTake w id
held_before w v ids id s f l (inl h) = let p = s.old f.added id l in inl (omega (arith, p, h))
held_before w v ids id s f l (inr m) = let p = s.next in absurd (omega (arith, p, l, m))

-- what it can take it could take
pub could_take : (w v : HeldIds) (ids : List ℕ) (id : ℕ) → Spends w v ids → HeldOnce w → CanTake v id → CanTake w id
could_take w v ids id s f can =
    ⊎_elim (λ (l : id < w.next). held_before w v ids id s f l can) (λ (l : w.next ≤ id). inr l) (cases_lt id w.next)

-- what was taken could be
pub taken_could : (w v : HeldIds) (ids : List ℕ) (id : ℕ) → Spends w v ids → HeldOnce w → 1 ≤ times id ids → CanTake w id
taken_could w v ids id s f one =
    ⊎_elim (λ (l : id < w.next). let p = s.old f.added id l in inl (omega (arith, p, one))) (λ (l : w.next ≤ id). inr l) (cases_lt id w.next)

none_held : (w v : HeldIds) (ids : List ℕ) (id : ℕ) → Spends w v ids → HeldOnce w → 1 ≤ times id ids → 1 ≤ times id v.held → ⊥
none_held w v ids id s f one h =
    ⊎_elim
    (λ (l : id < w.next). let p = s.old f.added id l in let q = f.once id in absurd (omega (arith, p, q, one, h)))
    (λ (l : w.next ≤ id). ⊎_elim
    (λ (m : id < v.next). let p = s.new f.added id l m in absurd (omega (arith, p, one, h)))
    (λ (m : v.next ≤ id). let p = s.far f.added id m in absurd (omega (arith, p, one)))
    (cases_lt id v.next))
    (cases_lt id w.next)

none_coming : (w v : HeldIds) (ids : List ℕ) (id : ℕ) → Spends w v ids → HeldOnce w → 1 ≤ times id ids → v.next ≤ id → ⊥
none_coming w v ids id s f one m = let p = s.far f.added id m in absurd (omega (arith, p, one))

-- and can't be again
pub taken_not_again : (w v : HeldIds) (ids : List ℕ) (id : ℕ) → Spends w v ids → HeldOnce w → 1 ≤ times id ids → CanTake v id → ⊥
taken_not_again w v ids id s f one (inl h) = none_held w v ids id s f one h
taken_not_again w v ids id s f one (inr m) = none_coming w v ids id s f one m

-- ---- along a repeat run, until the connection is opened anew

pub could_at : (z : WorldSettings) (r : RepeatWorld) (e : RepeatEvent) (k id : ℕ) → is_opened_by r k e ≡ false → HeldOnce (window_at r k)
    → CanTake (window_at (repeat_happens z r e) k) id → CanTake (window_at r k) id
could_at z r e k id same f can =
    could_take (window_at r k) (window_at (repeat_happens z r e) k) (ids_now r k e) id (event_window z r k e same) f can

pub taken_could_at : (z : WorldSettings) (r : RepeatWorld) (e : RepeatEvent) (k id : ℕ) → is_opened_by r k e ≡ false → HeldOnce (window_at r k)
    → 1 ≤ times id (ids_now r k e) → CanTake (window_at r k) id
taken_could_at z r e k id same f one =
    taken_could (window_at r k) (window_at (repeat_happens z r e) k) (ids_now r k e) id (event_window z r k e same) f one

pub not_again_at : (z : WorldSettings) (r : RepeatWorld) (e : RepeatEvent) (k id : ℕ) → is_opened_by r k e ≡ false → HeldOnce (window_at r k)
    → 1 ≤ times id (ids_now r k e) → CanTake (window_at (repeat_happens z r e) k) id → ⊥
not_again_at z r e k id same f one can =
    taken_not_again (window_at r k) (window_at (repeat_happens z r e) k) (ids_now r k e) id (event_window z r k e same) f one can
