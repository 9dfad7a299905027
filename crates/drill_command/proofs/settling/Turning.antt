-- One turn of each recursion of the definitions, by what is tested in front of it.
use Rattle.std.proofs.Common.{◌≡◌, ℕ, zero, suc, ◌+◌, ◌-◌, Bool, true, false, refl, sym, subst, ◌∙◌, arith}
use Rattle.spec_exchange.specs.Network.{Serve, Take, may_serve, may_take_reply}
use Rattle.spec_exchange.specs.Schedules.{has_more, is_linking, least}
use Rattle.spec_world.specs.Courses.{Course, drain, each, linking, serve_all, served_all, take_all, taken_all, went}
use Rattle.spec_world.specs.Settings.{WorldSettings}
use Rattle.drill_command.proofs.settling.Equations.{drain_off, drain_on, least_off, least_on, linking_off, linking_on, serve_off, serve_on}
use Rattle.drill_command.proofs.settling.Equations.{take_off, take_on}

pub one_more : (n : ℕ) → (n ≡ 0 → ⊥) → n ≡ suc (n - 1)
one_more zero e = absurd (e refl)
one_more (suc n) e = omega arith

-- ---- a link

pub link_over : (z : WorldSettings) (n : ℕ) (c : Course) (k : ℕ) → n ≡ 0 → c ≡ linking z n c k
unfolding linking
link_over z n c k e = subst (λ (m : ℕ). c ≡ linking z m c k) (sym e) refl

pub link_stops : (z : WorldSettings) (n : ℕ) (c : Course) (k : ℕ) → (n ≡ 0 → ⊥) → is_linking c.world.values k ≡ false
    → c ≡ linking z n c k
link_stops z n c k e t = subst (λ (m : ℕ). c ≡ linking z m c k) (sym (one_more n e)) (sym (linking_off z (n - 1) c k t))

pub link_goes : (z : WorldSettings) (n : ℕ) (c : Course) (k : ℕ) → (n ≡ 0 → ⊥) → is_linking c.world.values k ≡ true
    → linking z (n - 1) (went z (went z c (Serve k)) (Take k)) k ≡ linking z n c k
link_goes z n c k e t =
    subst (λ (m : ℕ). linking z (n - 1) (went z (went z c (Serve k)) (Take k)) k ≡ linking z m c k) (sym (one_more n e))
    (sym (linking_on z (n - 1) c k t))

-- ---- a list

pub serve_over : (z : WorldSettings) (n : ℕ) (c : Course) (k : ℕ) → n ≡ 0 → c ≡ serve_all z n c k
unfolding serve_all
serve_over z n c k e = subst (λ (m : ℕ). c ≡ serve_all z m c k) (sym e) refl

-- whatever number, where nothing can be served
pub serve_stops : (z : WorldSettings) (n : ℕ) (c : Course) (k : ℕ) → may_serve c.world.values k ≡ false → c ≡ serve_all z n c k
unfolding serve_all
serve_stops z zero c k t = refl
serve_stops z (suc n) c k t = sym (serve_off z n c k t)

pub serve_goes : (z : WorldSettings) (n : ℕ) (c : Course) (k : ℕ) → (n ≡ 0 → ⊥) → may_serve c.world.values k ≡ true
    → serve_all z (n - 1) (went z c (Serve k)) k ≡ serve_all z n c k
serve_goes z n c k e t =
    subst (λ (m : ℕ). serve_all z (n - 1) (went z c (Serve k)) k
    ≡ serve_all z m c k) (sym (one_more n e)) (sym (serve_on z (n - 1) c k t))

pub take_over : (z : WorldSettings) (n : ℕ) (c : Course) (k : ℕ) → n ≡ 0 → c ≡ take_all z n c k
unfolding take_all
take_over z n c k e = subst (λ (m : ℕ). c ≡ take_all z m c k) (sym e) refl

pub take_stops : (z : WorldSettings) (n : ℕ) (c : Course) (k : ℕ) → may_take_reply c.world.values k ≡ false → c ≡ take_all z n c k
unfolding take_all
take_stops z zero c k t = refl
take_stops z (suc n) c k t = sym (take_off z n c k t)

pub take_goes : (z : WorldSettings) (n : ℕ) (c : Course) (k : ℕ) → (n ≡ 0 → ⊥) → may_take_reply c.world.values k ≡ true
    → take_all z (n - 1) (went z c (Take k)) k ≡ take_all z n c k
take_goes z n c k e t =
    subst (λ (m : ℕ). take_all z (n - 1) (went z c (Take k)) k ≡ take_all z m c k) (sym (one_more n e)) (sym (take_on z (n - 1) c k t))

-- ---- a drain

pub drain_over : (z : WorldSettings) (n : ℕ) (c : Course) (k : ℕ) → n ≡ 0 → c ≡ drain z n c k
unfolding drain
drain_over z n c k e = subst (λ (m : ℕ). c ≡ drain z m c k) (sym e) refl

pub drain_stops : (z : WorldSettings) (n : ℕ) (c : Course) (k : ℕ) → (n ≡ 0 → ⊥)
    → has_more (taken_all z (served_all z c k) k).world.values k ≡ false → taken_all z (served_all z c k) k ≡ drain z n c k
drain_stops z n c k e t =
    subst (λ (m : ℕ). taken_all z (served_all z c k) k ≡ drain z m c k) (sym (one_more n e)) (sym (drain_off z (n - 1) c k t))

pub drain_goes : (z : WorldSettings) (n : ℕ) (c : Course) (k : ℕ) → (n ≡ 0 → ⊥)
    → has_more (taken_all z (served_all z c k) k).world.values k ≡ true
    → drain z (n - 1) (taken_all z (served_all z c k) k) k ≡ drain z n c k
drain_goes z n c k e t =
    subst (λ (m : ℕ). drain z (n - 1) (taken_all z (served_all z c k) k) k ≡ drain z m c k) (sym (one_more n e))
    (sym (drain_on z (n - 1) c k t))

-- ---- each connection

pub each_over : (act : Course → ℕ → Course) (k n : ℕ) (c : Course) → n ≡ 0 → c ≡ each act k n c
unfolding each
each_over act k n c e = subst (λ (m : ℕ). c ≡ each act k m c) (sym e) refl

each_next : (act : Course → ℕ → Course) (k n : ℕ) (c : Course) → each act (k + 1) n (act c k) ≡ each act k (suc n) c
unfolding each
each_next act k n c = refl

pub each_goes : (act : Course → ℕ → Course) (k n : ℕ) (c : Course) → (n ≡ 0 → ⊥)
    → each act (k + 1) (n - 1) (act c k) ≡ each act k n c
each_goes act k n c e =
    subst (λ (m : ℕ). each act (k + 1) (n - 1) (act c k) ≡ each act k m c) (sym (one_more n e)) (each_next act k (n - 1) c)

-- ---- the least one

pub least_over : (f : ℕ → Bool) (k n : ℕ) → n ≡ 0 → k ≡ least f k n
unfolding least
least_over f k n e = subst (λ (m : ℕ). k ≡ least f k m) (sym e) refl

pub least_stops : (f : ℕ → Bool) (k n : ℕ) → (n ≡ 0 → ⊥) → f k ≡ true → k ≡ least f k n
least_stops f k n e t = subst (λ (m : ℕ). k ≡ least f k m) (sym (one_more n e)) (sym (least_on f k (n - 1) t))

pub least_goes : (f : ℕ → Bool) (k n : ℕ) → (n ≡ 0 → ⊥) → f k ≡ false → least f (k + 1) (n - 1) ≡ least f k n
least_goes f k n e t =
    subst (λ (m : ℕ). least f (k + 1) (n - 1) ≡ least f k m) (sym (one_more n e)) (sym (least_off f k (n - 1) t))

-- of tests that agree
by_tests : (b d : Bool) (x y u v : ℕ) → (b ≡ true → x ≡ u) → (b ≡ false → y ≡ u) → (d ≡ true → x ≡ v)
    → (d ≡ false → y ≡ v) → b ≡ d → u ≡ v
by_tests true true x y u v p q r s e = sym (p refl) ∙ r refl
by_tests false false x y u v p q r s e = sym (q refl) ∙ s refl
by_tests true false x y u v p q r s e = absurd (cc)
by_tests false true x y u v p q r s e = absurd (cc)

pub same_least : (f g : ℕ → Bool) → ((j : ℕ) → f j ≡ g j) → (k n : ℕ) → least f k n ≡ least g k n
unfolding least
same_least f g same k zero = refl
same_least f g same k (suc n) =
    by_tests (f k) (g k) k (least f (k + 1) n) (least f k (suc n)) (least g k (suc n)) (λ t. sym (least_on f k n t))
    (λ t. sym (least_off f k n t)) (λ t. sym (least_on g k n t))
    (λ t. same_least f g same (k + 1) n ∙ sym (least_off g k n t)) (same k)
