-- Ranges that a LOCK names, and what refuses it.
use Rattle.std.proofs.Common.{◌≡◌, ℕ, true, false, List, [], ◌∷◌, Some, map, refl, sym, ap, ◌∙◌, subst}
use Rattle.std.specs.Prelude.{Result, MatchResult}
use Rattle.spec_exchange.specs.Commands.{Element, all_lock}
use Rattle.spec_exchange.specs.Ranges.{RangeAnswer, Stands, Denied, change_ranges, lock_ranges, unlock_ranges, ranges_of}
use Rattle.spec_exchange.specs.State as model
use Rattle.spec_exchange.specs.Table.{is_filled}
use Rattle.store_opens.specs.open_table.Locks.{DeniedBy}
use Rattle.store_opens.specs.share_modes.Locking.{range_of}
use Rattle.store_opens.specs.declared.share_modes.lists.Range.{Range}
use Rattle.store_opens.specs.declared.share_modes.ranges.RangeError.{RangeError}
use Rattle.store_opens.specs.declared.share_modes.ranges.RangeError.TheVariants.{Memory, NotGranted, NotLocked, Conflict, BadRange, TooMany}
use Rattle.server_checks.specs.verdicts.Looks.{told_by}

pub named_filled : (o : ℕ) (es : List Element) (rs : List Range) → map range_of rs ≡ ranges_of o es → is_filled es ≡ true
    → is_filled rs ≡ true
unfolding is_filled
named_filled o [] rs e f = absurd (cc)
named_filled o (x ∷ xs) [] e f = absurd (cc)
named_filled o (x ∷ xs) (r ∷ rs) e f = refl

some_same : (x y : ℕ) → Some x ≡ Some y → x ≡ y
some_same x y e = cc

pub denied : (e : RangeError) (a : RangeAnswer) (status : ℕ) → DeniedBy e a → Some status ≡ told_by e → a ≡ Denied status
denied Memory a status d e = absurd (cc)
denied (NotGranted r) a status d e = d ∙ ap Denied (sym (some_same status _ e))
denied (NotLocked r) a status d e = d ∙ ap Denied (sym (some_same status _ e))
denied (Conflict r) a status d e = d ∙ ap Denied (sym (some_same status _ e))
denied (BadRange r) a status d e = d ∙ ap Denied (sym (some_same status _ e))
denied TooMany a status d e = d ∙ ap Denied (sym (some_same status _ e))

lock_is : (rs : List model.Range) (o : ℕ) (es : List Element) (ws : List model.Range) → all_lock es ≡ true → ws ≡ ranges_of o es
    → lock_ranges rs o ws ≡ change_ranges rs o es
unfolding change_ranges
lock_is rs o es ws e h = rw (e, h) refl

unlock_is : (rs : List model.Range) (o : ℕ) (es : List Element) (ws : List model.Range) → all_lock es ≡ false → ws ≡ ranges_of o es
    → unlock_ranges rs ws ≡ change_ranges rs o es
unfolding change_ranges
unlock_is rs o es ws e h = rw (e, h) refl

answered : {X : Type 0} (r : Result X RangeError) (g : X → List model.Range) (a b : RangeAnswer) → a ≡ b
    → MatchResult r (λ v. a ≡ Stands (g v)) (λ e. DeniedBy e a) → MatchResult r (λ v. b ≡ Stands (g v)) (λ e. DeniedBy e b)
answered r g a b e h = subst (λ (z : RangeAnswer). MatchResult r (λ v. z ≡ Stands (g v)) (λ e. DeniedBy e z)) e h

pub locked : {X : Type 0} (r : Result X RangeError) (g : X → List model.Range) (rs : List model.Range) (o : ℕ) (es : List Element)
    (ws : List model.Range) → all_lock es ≡ true → ws ≡ ranges_of o es
    → MatchResult r (λ v. lock_ranges rs o ws ≡ Stands (g v)) (λ e. DeniedBy e (lock_ranges rs o ws))
    → MatchResult r (λ v. change_ranges rs o es ≡ Stands (g v)) (λ e. DeniedBy e (change_ranges rs o es))
locked r g rs o es ws a w h = answered r g (lock_ranges rs o ws) (change_ranges rs o es) (lock_is rs o es ws a w) h

pub unlocked : {X : Type 0} (r : Result X RangeError) (g : X → List model.Range) (rs : List model.Range) (o : ℕ) (es : List Element)
    (ws : List model.Range) → all_lock es ≡ false → ws ≡ ranges_of o es
    → MatchResult r (λ v. unlock_ranges rs ws ≡ Stands (g v)) (λ e. DeniedBy e (unlock_ranges rs ws))
    → MatchResult r (λ v. change_ranges rs o es ≡ Stands (g v)) (λ e. DeniedBy e (change_ranges rs o es))
unlocked r g rs o es ws a w h = answered r g (unlock_ranges rs ws) (change_ranges rs o es) (unlock_is rs o es ws a w) h
