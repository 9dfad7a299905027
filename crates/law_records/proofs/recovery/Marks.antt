-- Behind the epoch a start clears marks: what is delete pending still, without an open, is so no longer.
use Rattle.std.proofs.Common.{◌≡◌, ◌≢◌, ℕ, ◌==◌, Bool, true, false, not, ◌&&◌, ◌||◌, if◌then◌else◌, List, [], ◌∷◌, ◌++◌}
use Rattle.std.proofs.Common.{refl, arith, sym, subst, ◌∙◌, ap, eqb-true}
use Rattle.spec_exchange.specs.Table.{put}
use Rattle.spec_exchange.specs.State.{Server, Entry, DeleteRecord}
use Rattle.spec_exchange.specs.Files.{root, exists, exists_in, set_delete_pending}
use Rattle.spec_exchange.specs.Opens.{file_has_open}
use Rattle.spec_exchange.specs.Records.{origin_at}
use Rattle.spec_exchange.specs.Fold.{with_record, fold_from, epoch_records, is_left_pending, mark_records, unmark_records, opening_records}
use Rattle.law_server.proofs.tables.Logic.{either}
use Rattle.law_records.proofs.recovery.Leaves.{fold_append}

abbrev cleared : Server → ℕ → Server
cleared u f = with_record u (DeleteRecord (origin_at 0) f false)

-- u is b, but for marks of files without an open
pub record Unmarked (b u : Server) : Type 0 where
  pub same : u ≡ record b { delete_pending = u.delete_pending }
  pub fewer : (f : ℕ) → u.delete_pending f ≡ true → b.delete_pending f ≡ true
  pub held : (f : ℕ) → file_has_open b f ≡ true → u.delete_pending f ≡ b.delete_pending f

pub unmarked_itself : (b : Server) → Unmarked b b
unmarked_itself b = record { same = refl; fewer = λ f e. e; held = λ f e. refl }

-- ---- one mark

none_there : (m o : Bool) → (m && not o) ≡ true → o ≡ false
none_there m o e = grind arith

was_marked : (m o : Bool) → (m && not o) ≡ true → m ≡ true
was_marked m o e = grind arith

unopened : (b : Server) (f : ℕ) → is_left_pending b f ≡ true → file_has_open b f ≡ false
unfolding is_left_pending
unopened b f left = none_there (b.delete_pending f) (file_has_open b f) left

pending : (b : Server) (f : ℕ) → is_left_pending b f ≡ true → b.delete_pending f ≡ true
unfolding is_left_pending
pending b f left = was_marked (b.delete_pending f) (file_has_open b f) left

put_apart : (p : ℕ → Bool) (f g : ℕ) → g ≢ f → put p f false g ≡ p g
put_apart p f g n = grind arith

put_lower : (p : ℕ → Bool) (f g : ℕ) → put p f false g ≡ true → p g ≡ true
put_lower p f g e = grind arith

put_off : (p : ℕ → Bool) (f g : ℕ) → p g ≡ false → put p f false g ≡ false
put_off p f g e = grind arith

put_at : (p : ℕ → Bool) (f : ℕ) → put p f false f ≡ false
put_at p f = grind arith

apart : (b : Server) (f g : ℕ) → file_has_open b f ≡ false → file_has_open b g ≡ true → g ≢ f
apart b f g n h = λ e. clash (file_has_open b g) (subst (λ x. file_has_open b x ≡ false) (sym e) n) h
  where
    clash : (x : Bool) → x ≡ false → x ≡ true → ⊥
    clash x e f = cc

unmarked_once : (b u : Server) (f : ℕ) → is_left_pending b f ≡ true → Unmarked b u → Unmarked b (cleared u f)
unmarked_once b u f left h =
    either (λ x. Unmarked b x) (exists u f && not (f == root)) (set_delete_pending u f false) u
    (λ _. record {
      same = ap (λ (x : Server). record x { delete_pending = put u.delete_pending f false }) h.same;
      fewer = λ g e. h.fewer g (put_lower u.delete_pending f g e);
      held = λ g e. put_apart u.delete_pending f g (apart b f g (unopened b f left) e) ∙ h.held g e;
    })
    (λ _. h)

-- ---- all of them

pub unmarked_from : (b u : Server) (es : List Entry) → Unmarked b u → Unmarked b (fold_from u (unmark_records b es))
unfolding fold_from unmark_records mark_records
unmarked_from b u [] h = h
unmarked_from b u (e ∷ es) h =
    either (λ rs. Unmarked b (fold_from u (rs ++ unmark_records b es))) (is_left_pending b e.file)
    (DeleteRecord (origin_at 0) e.file false ∷ []) []
    (λ left. unmarked_from b (cleared u e.file) es (unmarked_once b u e.file left h)) (λ _. unmarked_from b u es h)

-- what a start's records leave is the epoch's state, but for marks
pub opened_same : (d : Server) → fold_from d (opening_records d)
    ≡ record (fold_from d (epoch_records d)) { delete_pending = (fold_from d (opening_records d)).delete_pending }
opened_same d =
    let b = fold_from d (epoch_records d) in let es = unmark_records b b.entries in
    subst (λ (x : Server). x ≡ record b { delete_pending = x.delete_pending }) (sym (fold_append d (epoch_records d) es))
    (unmarked_from b b b.entries (unmarked_itself b)).same

-- none comes back
off_once : (u : Server) (f g : ℕ) → u.delete_pending g ≡ false → (cleared u f).delete_pending g ≡ false
off_once u f g off = either (λ (x : Server). x.delete_pending g ≡ false) (exists u f && not (f == root)) (set_delete_pending u f false) u
    (λ _. put_off u.delete_pending f g off) (λ _. off)

off_from : (b u : Server) (es : List Entry) (g : ℕ) → u.delete_pending g ≡ false → (fold_from u (unmark_records b es)).delete_pending g ≡ false
unfolding fold_from unmark_records mark_records
off_from b u [] g off = off
off_from b u (e ∷ es) g off =
    either (λ rs. (fold_from u (rs ++ unmark_records b es)).delete_pending g ≡ false) (is_left_pending b e.file)
    (DeleteRecord (origin_at 0) e.file false ∷ []) []
    (λ _. off_from b (cleared u e.file) es g (off_once u e.file g off)) (λ _. off_from b u es g off)

not_root : (m : Bool) (f : ℕ) → m ≡ true → (f ≡ 0 → m ≡ false) → (f == 0) ≡ false
not_root m f e h = by (f == 0) refl
  where
    by : (c : Bool) → (f == 0) ≡ c → (f == 0) ≡ false
    by true q = absurd (let z = h (eqb-true f 0 q) in cc)
    by false q = q

may_be : (r x : Bool) → r ≡ false → x ≡ true → ((r || x) && not r) ≡ true
may_be r x a e = grind arith

off_at : (b u : Server) (f : ℕ) → b.delete_pending root ≡ false → exists_in b.entries f ≡ true → is_left_pending b f ≡ true
    → Unmarked b u → (cleared u f).delete_pending f ≡ false
unfolding exists
off_at b u f unmarked there left h =
    let apart = not_root (b.delete_pending f) f (pending b f left) (λ e. subst (λ x. b.delete_pending x ≡ false) (sym e) unmarked) in
    let may = may_be (f == root) (exists_in u.entries f) apart (ap (λ (x : Server). exists_in x.entries f) h.same ∙ there) in
    subst (λ c. (if c then set_delete_pending u f false else u).delete_pending f ≡ false) (sym may) (put_at u.delete_pending f)

other_there : (n f : ℕ) (x : Bool) → (if n == f then true else x) ≡ true → (n == f) ≡ false → x ≡ true
other_there n f x e q = grind arith

all_off : (b u : Server) (es : List Entry) (f : ℕ) → b.delete_pending root ≡ false → exists_in b.entries f ≡ true
    → is_left_pending b f ≡ true → Unmarked b u → exists_in es f ≡ true → (fold_from u (unmark_records b es)).delete_pending f ≡ false
unfolding fold_from unmark_records mark_records exists_in
all_off b u [] f unmarked there left h e = absurd (cc)
all_off b u (x ∷ es) f unmarked there left h e =
    either (λ rs. (fold_from u (rs ++ unmark_records b es)).delete_pending f ≡ false) (is_left_pending b x.file)
    (DeleteRecord (origin_at 0) x.file false ∷ []) []
    (λ l. at_it l (λ w k t. all_off b w es f unmarked there left k t) (x.file == f) refl)
    (λ n. all_off b u es f unmarked there left h (other_there x.file f (exists_in es f) e (skipped n (x.file == f) refl)))
  where
    clash : (y : Bool) → y ≡ false → y ≡ true → ⊥
    clash y n l = cc

    at_it : is_left_pending b x.file ≡ true
        → ((w : Server) → Unmarked b w → exists_in es f ≡ true → (fold_from w (unmark_records b es)).delete_pending f ≡ false)
        → (c : Bool) → (x.file == f) ≡ c
        → (fold_from (cleared u x.file) (unmark_records b es)).delete_pending f ≡ false
    at_it l rest true q = off_from b (cleared u x.file) es f
        (subst (λ g. (cleared u g).delete_pending f ≡ false) (sym (eqb-true x.file f q)) (off_at b u f unmarked there left h))
    at_it l rest false q = rest (cleared u x.file) (unmarked_once b u x.file l h)
        (other_there x.file f (exists_in es f) e q)

    skipped : is_left_pending b x.file ≡ false → (c : Bool) → (x.file == f) ≡ c → (x.file == f) ≡ false
    skipped n true q = absurd (clash (is_left_pending b x.file) n (subst (λ g. is_left_pending b g ≡ true) (sym (eqb-true x.file f q)) left))
    skipped n false q = q

-- what is delete pending behind them has an open
pub pending_opened : (b : Server) (f : ℕ) → b.delete_pending root ≡ false → exists_in b.entries f ≡ true
    → (fold_from b (unmark_records b b.entries)).delete_pending f ≡ true → file_has_open b f ≡ true
unfolding is_left_pending
pending_opened b f unmarked there e = by (file_has_open b f) refl
  where
    left_by : (m o : Bool) → m ≡ true → o ≡ false → (m && not o) ≡ true
    left_by m o a n = grind arith

    was : b.delete_pending f ≡ true
    was = (unmarked_from b b b.entries (unmarked_itself b)).fewer f e

    by : (c : Bool) → file_has_open b f ≡ c → file_has_open b f ≡ true
    by true q = q
    by false q = absurd (let off = all_off b b b.entries f unmarked there (left_by (b.delete_pending f) (file_has_open b f) was q)
        (unmarked_itself b) there in cc)
