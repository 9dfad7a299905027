-- Opens that leave one after the other: their files go, but for those that another open has.
use Rattle.std.proofs.Common.{◌≡◌, ◌≢◌, ℕ, ◌==◌, Bool, true, false, not, ◌&&◌, List, [], ◌∷◌, refl, arith, sym, subst, ◌∙◌}
use Rattle.spec_exchange.specs.Table.{put, has}
use Rattle.spec_exchange.specs.Commands.{deletes_on_close}
use Rattle.spec_exchange.specs.State.{Server}
use Rattle.spec_exchange.specs.Files.{root, exists, set_delete_pending, remove_file, is_full_directory}
use Rattle.spec_exchange.specs.Opens.{drop_open, file_has_open, goes, without_gone, is_kept_back, left_file, leave_open}
use Rattle.spec_exchange.specs.Effects.{leaves, plain_of, leave_all, files_behind}
use Rattle.law_server.specs.tables.Fits.{Fits, Listed, OpenFiles, FileNumbers, NotRoot}
use Rattle.law_server.proofs.tables.Logic.{either, front_of, back_of, not_true}
use Rattle.law_server.proofs.tables.Lists.{has-without, has-plain, none-open, exists-without}
use Rattle.law_server.proofs.tables.DropOpen.{drop_open_keeps}
use Rattle.law_server.proofs.tables.FileEffects.{remove_file_keeps, set_delete_pending_keeps}

-- ---- a file that goes has no open

gone_unopened : (s : Server) (f : ℕ) → goes s f ≡ true → file_has_open s f ≡ false
unfolding goes
gone_unopened s f e =
    let a = back_of (s.delete_pending f) (not (f == root) && (exists s f && (not (file_has_open s f) && not (is_full_directory s f)))) e in
    let b = back_of (not (f == root)) (exists s f && (not (file_has_open s f) && not (is_full_directory s f))) a in
    let c = back_of (exists s f) (not (file_has_open s f) && not (is_full_directory s f)) b in
    not_true (file_has_open s f) (front_of (not (file_has_open s f)) (not (is_full_directory s f)) c)

pub unopened_of : (s : Server) (f : ℕ) → file_has_open s f ≡ false → Listed s → (p : ℕ) → s.standing p ≡ true
    → ((s.opened p).file == f) ≡ false
unfolding file_has_open
unopened_of s f e listed p stands = none-open s.opened s.opens f p e (listed p ∙ stands)

pub gone_keeps : (s : Server) (f : ℕ) → Fits s → Fits (without_gone s f)
gone_keeps s f i = either (λ t. Fits t) (goes s f) _ _
    (λ g. remove_file_keeps s f (unopened_of s f (gone_unopened s f g) i.listed) i) (λ _. i)

-- it does, or loses its mark
pub left_file_keeps : (s : Server) (f : ℕ) → Fits s → Fits (left_file s f)
left_file_keeps s f i = either (λ t. Fits t) (is_kept_back s f) _ _ (λ _. set_delete_pending_keeps s f false (λ e. absurd (cc)) i)
    (λ _. gone_keeps s f i)

pub leave_open_keeps : (s : Server) (o : ℕ) → s.standing o ≡ true → Fits s → Fits (leave_open s o)
leave_open_keeps s o stands i =
    either (λ t. Fits (left_file (drop_open t o) (s.opened o).file)) (deletes_on_close (s.opened o).options) _ _
    (λ d. left_file_keeps _ _ (drop_open_keeps _ o stands (set_delete_pending_keeps s (s.opened o).file true (λ _. i.not_root o d) i)))
    (λ _. left_file_keeps _ _ (drop_open_keeps s o stands i))

-- ---- one open after the other, of which the files alone count

-- where these opens left, each other one stands, and its file is there
pub record AllLeft (s t : Server) (os : List ℕ) : Type 0 where
  pub opened : t.opened ≡ s.opened
  pub stays : (p : ℕ) → s.standing p ≡ true → has p os ≡ false → t.standing p ≡ true
  pub next_file : t.next_file ≡ s.next_file
  pub listed : Listed t
  pub open_files : OpenFiles t
  pub file_numbers : FileNumbers t
  pub not_pending : t.delete_pending root ≡ false

dropped : (s : Server) (o : ℕ) → Listed s → OpenFiles s → FileNumbers s → s.delete_pending root ≡ false → AllLeft s (drop_open s o) (o ∷ [])
unfolding exists
dropped s o l f n u =
    record {
      opened = refl;
      stays = λ p st h. grind arith;
      next_file = refl;
      listed = λ p. let old = l p in has-without p o s.opens ∙ (grind arith);
      open_files = λ p. let old = f p in grind arith;
      file_numbers = n;
      not_pending = u;
    }

removed : (s t : Server) (f : ℕ) (os : List ℕ) → file_has_open t f ≡ false → AllLeft s t os → AllLeft s (remove_file t f) os
unfolding exists
removed s t f os e a =
    record {
      opened = a.opened;
      stays = a.stays;
      next_file = a.next_file;
      listed = a.listed;
      open_files = λ p st. let old = a.open_files p st in let rest = exists-without f t.entries (t.opened p).file in
          let other = unopened_of t f e a.listed p st in grind arith;
      file_numbers = λ y. let old = a.file_numbers y in let rest = exists-without f t.entries y in grind arith;
      not_pending = a.not_pending;
    }

gone : (s t : Server) (f : ℕ) (os : List ℕ) → AllLeft s t os → AllLeft s (without_gone t f) os
gone s t f os a = either (λ u. AllLeft s u os) (goes t f) _ _ (λ g. removed s t f os (gone_unopened t f g) a) (λ _. a)

cleared_root : (s : Server) (f : ℕ) → s.delete_pending root ≡ false → put s.delete_pending f false root ≡ false
cleared_root s f u = grind arith

settled : (s t : Server) (f : ℕ) (os : List ℕ) → AllLeft s t os → AllLeft s (left_file t f) os
unfolding exists
settled s t f os a = either (λ u. AllLeft s u os) (is_kept_back t f) _ _ (λ _. record {
  opened = a.opened;
  stays = a.stays;
  next_file = a.next_file;
  listed = a.listed;
  open_files = a.open_files;
  file_numbers = a.file_numbers;
  not_pending = cleared_root t f a.not_pending;
}) (λ _. gone s t f os a)

pending_too : (s t : Server) (f : ℕ) (os : List ℕ) → AllLeft (set_delete_pending s f true) t os → AllLeft s t os
pending_too s t f os a = record {
  opened = a.opened;
  stays = a.stays;
  next_file = a.next_file;
  listed = a.listed;
  open_files = a.open_files;
  file_numbers = a.file_numbers;
  not_pending = a.not_pending;
}

pending_files : (s : Server) (f : ℕ) → OpenFiles s → OpenFiles (set_delete_pending s f true)
unfolding exists
pending_files s f i = i

other_pending : (s : Server) (f : ℕ) → f ≢ root → s.delete_pending root ≡ false → put s.delete_pending f true root ≡ false
other_pending s f d u = grind arith

left : (s : Server) (o : ℕ) → Listed s → OpenFiles s → FileNumbers s → NotRoot s → s.delete_pending root ≡ false
    → AllLeft s (leave_open s o) (o ∷ [])
left s o l f n r u =
    either (λ t. AllLeft s (left_file (drop_open t o) (s.opened o).file) (o ∷ [])) (deletes_on_close (s.opened o).options) _ _
    (λ d. settled s _ (s.opened o).file (o ∷ []) (pending_too s _ (s.opened o).file (o ∷ [])
    (dropped (set_delete_pending s (s.opened o).file true) o l (pending_files s (s.opened o).file f) n
    (other_pending s (s.opened o).file (r o d) u))))
    (λ _. settled s _ (s.opened o).file (o ∷ []) (dropped s o l f n u))

none_left : (s : Server) (os : List ℕ) → Listed s → OpenFiles s → FileNumbers s → s.delete_pending root ≡ false → AllLeft s s os
none_left s os l f n u = record {
  opened = refl;
  stays = λ p st h. st;
  next_file = refl;
  listed = l;
  open_files = f;
  file_numbers = n;
  not_pending = u;
}

then_left : (s t u : Server) (o : ℕ) (os : List ℕ) → AllLeft s t (o ∷ []) → AllLeft t u os → AllLeft s u (o ∷ os)
then_left s t u o os a b =
    record {
      opened = b.opened ∙ a.opened;
      stays = λ p st h. b.stays p (a.stays p st (grind arith)) (grind arith);
      next_file = b.next_file ∙ a.next_file;
      listed = b.listed;
      open_files = b.open_files;
      file_numbers = b.file_numbers;
      not_pending = b.not_pending;
    }

same_rows : (s t : Server) → t.opened ≡ s.opened → NotRoot s → NotRoot t
same_rows s t e r = subst (λ rows. (p : ℕ) → deletes_on_close (rows p).options ≡ true → (rows p).file ≢ root) (sym e) r

all_left : (s : Server) (os : List ℕ) → Listed s → OpenFiles s → FileNumbers s → NotRoot s → s.delete_pending root
    ≡ false → AllLeft s (leave_all s os) os
unfolding leave_all
all_left s [] l f n r u = none_left s [] l f n u
all_left s (o ∷ os) l f n r u =
    let a = left s o l f n r u in
    then_left s (leave_open s o) _ o os a (all_left (leave_open s o) os a.listed a.open_files a.file_numbers
    (same_rows s (leave_open s o) a.opened r) a.not_pending)

pub files_left : (s : Server) (session : ℕ) (is_quiet : Bool) → Listed s → OpenFiles s → FileNumbers s → NotRoot s
    → s.delete_pending root ≡ false → AllLeft s (files_behind s session is_quiet) (plain_of s session)
files_left s session true l f n r u = none_left s (plain_of s session) l f n u
files_left s session false l f n r u = all_left s (plain_of s session) l f n r u

pub not_plain : (s : Server) (session p : ℕ) → leaves s session p ≡ false → has p (plain_of s session) ≡ false
not_plain s session p out = let h = has-plain s session p s.opens in grind arith
