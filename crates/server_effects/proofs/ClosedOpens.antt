-- Opens of a session that are closed one behind the other: as the model closes them, and each while it stands.
use Rattle.std.proofs.Common.{◌≡◌, ◌<◌, ℕ, ◌==◌, ◌+◌, Bool, true, false, if◌then◌else◌, List, [], ◌∷◌, ◌++◌, Option, Some, None}
use Rattle.std.proofs.Common.{length, take, drop, get_or, refl, sym, ap, subst, ◌∙◌, arith, eqb-true}
use Rattle.std.proofs.lemmas.List.{take_more}
use Rattle.spec_exchange.specs.Commands.{deletes_on_close}
use Rattle.spec_exchange.specs.Effects.{close_all, keep_all_closed, keep_closed, leave_all, opens_of_tree}
use Rattle.spec_exchange.specs.Files.{set_delete_pending}
use Rattle.spec_exchange.specs.Opens.{drop_open, is_of_session, leave_open, left_file}
use Rattle.spec_exchange.specs.State.{Open, Server}
use Rattle.spec_exchange.specs.Table.{has, is_at}
use Rattle.law_server.proofs.tables.Closing.{all_left_beside, left_present, of_tree}
use Rattle.law_server.proofs.tables.Leaving.{leave_open_keeps}
use Rattle.law_server.proofs.tables.Lists.{ascending-other, ascending-rest, ascending-tree}
use Rattle.law_server.proofs.tables.Logic.{back_of, front_of}
use Rattle.law_server.proofs.tables.SessionEffects.{close_guid_keeps}
use Rattle.law_server.specs.tables.Fits.{Fits}
use Rattle.server_effects.proofs.Closes.{gone_after}
use Rattle.server_effects.proofs.leaving_opens.Each.{split_at}
use Rattle.server_effects.proofs.session_ends.Columns.{left_session}
use Rattle.server_effects.specs.Closed.{AreClosable, closed_one}

-- ---- one behind the other is as the model closes them

abbrev pub closed_each : Server → ℕ → List ℕ → Server
closed_each s x [] = s
closed_each s x (o ∷ os) = closed_each (closed_one s x o) x os

leave_kept : (s : Server) (x : ℕ) (g : Option ℕ) (o : ℕ) → leave_open (keep_closed s x g) o ≡ keep_closed (leave_open s o) x g
leave_kept s x None o = refl
leave_kept s x (Some h) o = by (deletes_on_close (s.opened o).options)
  where
    by : (b : Bool) → left_file (drop_open (if b then set_delete_pending (keep_closed s x (Some h)) (s.opened o).file true
        else keep_closed s x (Some h)) o) (s.opened o).file
        ≡ keep_closed (left_file (drop_open (if b then set_delete_pending s (s.opened o).file true else s) o) (s.opened o).file) x (Some h)
    by true = gone_after (drop_open (set_delete_pending s (s.opened o).file true) o) x (Some h) (s.opened o).file
    by false = gone_after (drop_open s o) x (Some h) (s.opened o).file

leave_all_kept : (s : Server) (x : ℕ) (g : Option ℕ) (os : List ℕ) → leave_all (keep_closed s x g) os ≡ keep_closed (leave_all s os) x g
unfolding leave_all
leave_all_kept s x g [] = refl
leave_all_kept s x g (o ∷ os) = ap (λ (v : Server). leave_all v os) (leave_kept s x g o) ∙ leave_all_kept (leave_open s o) x g os

same_opened : (s : Server) (o : ℕ) (os : List ℕ) → (leave_all (leave_open s o) os).opened ≡ s.opened
unfolding leave_all
same_opened s o os = (all_left_beside s (o ∷ os)).opened

pub close_is : (s : Server) (x : ℕ) (os : List ℕ) → closed_each s x os ≡ close_all s x os
unfolding leave_all keep_all_closed
close_is s x [] = refl
close_is s x (o ∷ os) = close_is (closed_one s x o) x os ∙ ap (λ (v : Server). keep_all_closed v x os) step
  where
    step : leave_all (closed_one s x o) os ≡ keep_closed (leave_all (leave_open s o) os) x
        ((leave_all (leave_open s o) os).opened o).create_guid
    step = leave_all_kept (leave_open s o) x (s.opened o).create_guid os
        ∙ ap (λ (f : ℕ → Open). keep_closed (leave_all (leave_open s o) os) x (f o).create_guid) (sym (same_opened s o os))

pub each_more : (s : Server) (x : ℕ) (os : List ℕ) (o : ℕ) → closed_each s x (os ++ o ∷ []) ≡ closed_one (closed_each s x os) x o
each_more s x [] o = refl
each_more s x (p ∷ os) o = each_more (closed_one s x p) x os o

-- ---- each fits and stands

kept_guid : (s : Server) (x : ℕ) (g : Option ℕ) → s.present x ≡ true → Fits s → Fits (keep_closed s x g)
kept_guid s x None present f = f
kept_guid s x (Some g) present f = close_guid_keeps s x g present f

pub one_fits : (s : Server) (x o : ℕ) → s.session_of_open o ≡ Some x → Fits s → Fits (closed_one s x o)
one_fits s x o e f = let a = f.attached o x e in
    kept_guid (leave_open s o) x (s.opened o).create_guid (ap (λ (g : ℕ → Bool). g x) (left_present s o) ∙ a.1)
    (leave_open_keeps s o a.0 f)

kept_session : (s : Server) (x : ℕ) (g : Option ℕ) → (keep_closed s x g).session_of_open ≡ s.session_of_open
kept_session s x None = refl
kept_session s x (Some g) = refl

other_attached : (s : Server) (x o p : ℕ) → (o == p) ≡ false → s.session_of_open p ≡ Some x → (closed_one s x o).session_of_open p ≡ Some x
other_attached s x o p n e =
    ap (λ (f : ℕ → Option ℕ). f p) (kept_session (leave_open s o) x (s.opened o).create_guid ∙ left_session s o false) ∙ by (p == o) (swap n)
  where
    swap : (o == p) ≡ false → (p == o) ≡ false
    swap k = grind arith

    by : (b : Bool) → b ≡ false → (if b then None else s.session_of_open p) ≡ Some x
    by false k = e
    by true k = absurd (cc)

first_has : (o : ℕ) (os : List ℕ) → has o (o ∷ os) ≡ true
first_has o os = grind arith

rest_has : (o p : ℕ) (os : List ℕ) → has p os ≡ true → has p (o ∷ os) ≡ true
rest_has o p os h = grind arith

pub rest_closable : (s : Server) (x o : ℕ) (os : List ℕ) → AreClosable s x (o ∷ os) → AreClosable (closed_one s x o) x os
rest_closable s x o os a = record {
  ascending = ascending-rest o os a.ascending;
  attached = λ p h. other_attached s x o p (ascending-other o p os a.ascending h) (a.attached p (rest_has o p os h));
}

-- behind those in front of it the next one is the session's yet
pub record NextClosable (s : Server) (x : ℕ) (os : List ℕ) (o : ℕ) : Type 0 where
  pub fits : Fits (closed_each s x os)
  pub attached : (closed_each s x os).session_of_open o ≡ Some x

next_of : (s : Server) (x : ℕ) (os : List ℕ) (o : ℕ) (more : List ℕ) → Fits s → AreClosable s x (os ++ o ∷ more) → NextClosable s x os o
next_of s x [] o more f a = record { fits = f; attached = a.attached o (first_has o more) }
next_of s x (p ∷ os) o more f a =
    let l = next_of (closed_one s x p) x os o more (one_fits s x p (a.attached p (first_has p (os ++ o ∷ more))) f)
    (rest_closable s x p (os ++ o ∷ more) a) in
    record { fits = l.fits; attached = l.attached }

pub next_closable : (s : Server) (x : ℕ) (ids : List ℕ) (i : ℕ) → i < length ids → Fits s → AreClosable s x ids
    → NextClosable s x (take i ids) (get_or ids i 0)
next_closable s x ids i h f a = next_of s x (take i ids) (get_or ids i 0) (drop (i + 1) ids) f
    (subst (λ (v : List ℕ). AreClosable s x v) (split_at ids i h) a)

pub more_closed : (s : Server) (x : ℕ) (ids : List ℕ) (i : ℕ) → i < length ids
    → closed_one (closed_each s x (take i ids)) x (get_or ids i 0) ≡ closed_each s x (take (i + 1) ids)
more_closed s x ids i h = sym (each_more s x (take i ids) (get_or ids i 0)) ∙ ap (λ (v : List ℕ). closed_each s x v) (sym (take_more ids i 0 h))

-- ---- the opens of a tree

at_session : (x : ℕ) (session : Option ℕ) → is_at x session ≡ true → session ≡ Some x
at_session x None e = absurd (cc)
at_session x (Some z) e = ap Some (eqb-true z x e)

pub tree_closable : (s : Server) (x n : ℕ) → Fits s → AreClosable s x (opens_of_tree s x n)
tree_closable s x n f = record {
  ascending = ascending-tree s x n s.opens f.ascending;
  attached = λ o h. at_session x (s.session_of_open o)
      (back_of (s.standing o) (is_at x (s.session_of_open o))
      (front_of (is_of_session s o x) (s.tree_of_open o == n) (of_tree s x n o s.opens h)));
}
