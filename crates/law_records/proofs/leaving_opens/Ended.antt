-- A session that ends, and a connection that is forgotten: of files they leave what the session's opens made of them.
use Rattle.std.proofs.Common.{◌≡◌, ℕ, ◌+◌, ◌==◌, Bool, true, false, not, ◌&&◌, if◌then◌else◌, List, [], ◌∷◌, length}
use Rattle.std.proofs.Common.{refl, sym, ap, ◌∙◌, arith}
use Rattle.spec_exchange.specs.Table.{has, without}
use Rattle.spec_exchange.specs.State.{Server}
use Rattle.spec_exchange.specs.Opens.{leave_open}
use Rattle.spec_exchange.specs.Effects.{leaves, plain_in, plain_of, staying_in, leave_all, end_session}
use Rattle.spec_exchange.specs.Step.{forget_connection}
use Rattle.law_server.specs.tables.Fits.{Fits}
use Rattle.law_server.proofs.tables.EndSession.{end_session_keeps}
use Rattle.law_server.proofs.tables.SessionEffects.{forget_keeps}
use Rattle.law_records.specs.leaving_opens.Since.{LeftSince}
use Rattle.law_server.proofs.tables.Leaving.{not_plain}
use Rattle.law_server.proofs.tables.Logic.{front_of, back_of, not_true}
use Rattle.law_records.proofs.leaving_opens.Left.{left_opens, left_opened, left_directory, left_standing, exists_same, held, has_same}

-- ---- the opens without several

abbrev pub without_all : List ℕ → List ℕ → List ℕ
without_all [] xs = xs
without_all (o ∷ os) xs = without_all os (without o xs)

pub without_none : (os : List ℕ) → without_all os [] ≡ []
without_none [] = refl
without_none (o ∷ os) = without_none os

pub without_front : (os : List ℕ) (y : ℕ) (ys : List ℕ) → without_all os (y ∷ ys)
    ≡ (if has y os then without_all os ys else y ∷ without_all os ys)
without_front [] y ys = refl
without_front (o ∷ os) y ys = by (y == o) (o == y) (grind arith) (without_front os y (without o ys))
  where
    by : (b c : Bool) → b ≡ c
        → without_all os (y ∷ without o ys) ≡ (if has y os then without_all os (without o ys) else y ∷ without_all os (without o ys))
        → without_all os (if b then without o ys else y ∷ without o ys)
        ≡ (if (if c then true else has y os) then without_all os (without o ys) else y ∷ without_all os (without o ys))
    by true true e i = refl
    by false false e i = i
    by true false e i = absurd (cc)
    by false true e i = absurd (cc)

pub has_plain : (u : Server) (x p : ℕ) (os : List ℕ) → has p (plain_in u x os) ≡ (has p os && leaves u x p)
unfolding plain_in
has_plain u x p [] = refl
has_plain u x p (o ∷ os) = let old = has_plain u x p os in grind arith

stay_as : (u : Server) (x : ℕ) (os ys : List ℕ) → ((y : ℕ) → has y ys ≡ true → has y os ≡ leaves u x y)
    → staying_in u x ys ≡ without_all os ys
unfolding staying_in
stay_as u x os [] h = sym (without_none os)
stay_as u x os (y ∷ ys) h =
    rw (without_front os y ys, h y (first y), stay_as u x os ys (λ z i. h z (later z (y == z) i))) refl
  where
    first : (n : ℕ) → (if n == n then true else has n ys) ≡ true
    first n = let e : (n == n) ≡ true = grind arith in rw e refl

    later : (z : ℕ) (b : Bool) → has z ys ≡ true → (if b then true else has z ys) ≡ true
    later z true i = refl
    later z false i = i

-- ---- what opens that leave make of the table

all_opens : (u : Server) (os : List ℕ) → (leave_all u os).opens ≡ without_all os u.opens
unfolding leave_all
all_opens u [] = refl
all_opens u (o ∷ os) = all_opens (leave_open u o) os ∙ ap (λ (v : List ℕ). without_all os v) (left_opens u o)

all_opened : (u : Server) (os : List ℕ) → (leave_all u os).opened ≡ u.opened
unfolding leave_all
all_opened u [] = refl
all_opened u (o ∷ os) = all_opened (leave_open u o) os ∙ left_opened u o

all_directory : (u : Server) (os : List ℕ) → (leave_all u os).directory ≡ u.directory
unfolding leave_all
all_directory u [] = refl
all_directory u (o ∷ os) = all_directory (leave_open u o) os ∙ left_directory u o

staying : (u : Server) (x : ℕ) → staying_in u x u.opens ≡ (leave_all u (plain_of u x)).opens
staying u x =
    stay_as u x (plain_of u x) u.opens (λ y i. has_plain u x y u.opens ∙ ap (λ (b : Bool). b && leaves u x y) i)
    ∙ sym (all_opens u (plain_of u x))

-- an open that isn't among those that leave stands behind them
others_stand : (u : Server) (os : List ℕ) (p : ℕ) → has p os ≡ false → u.standing p ≡ true → (leave_all u os).standing p ≡ true
unfolding leave_all
others_stand u [] p h e = e
others_stand u (o ∷ os) p h e = others_stand (leave_open u o) os p (behind (o == p) h)
    (rw (left_standing u o, apart (o == p) (p == o) (grind arith) h) e)
  where
    behind : (b : Bool) → (if b then true else has p os) ≡ false → has p os ≡ false
    behind true i = absurd (cc)
    behind false i = i

    apart : (b c : Bool) → b ≡ c → (if b then true else has p os) ≡ false → c ≡ false
    apart true c e i = absurd (cc)
    apart false c e i = sym e

stood_behind : (u : Server) (x p : ℕ) → u.standing p ≡ true → leaves u x p ≡ false → (leave_all u (plain_of u x)).standing p ≡ true
stood_behind u x p e l = others_stand u (plain_of u x) p (not_plain u x p l) e

-- ---- the session's end

pub ended : (left : ℕ → ℕ) (marked went : ℕ → Bool) (s u : Server) (x now : ℕ) → Fits u → LeftSince left marked went s
    (leave_all u (plain_of u x)) → LeftSince left marked went s (end_session u x now false)
ended left marked went s u x now i a =
    let t : Server = leave_all u (plain_of u x) in
    let v : Server = end_session u x now false in
    record {
      fits = end_session_keeps u x now false i;
      stood = λ o e. a.stood o (stood_behind u x o (front_of (u.standing o) (not (leaves u x o)) e)
          (not_true (leaves u x o) (back_of (u.standing o) (not (leaves u x o)) e)));
      opens = λ f e. a.opens f e ∙ ap (λ (ys : List ℕ). length ys + left f) (held t f u.opened (staying_in u x u.opens)
          (all_opened u (plain_of u x)) (sym (staying u x)));
      pending = λ f e h. a.pending f (exists_same v t f refl ∙ e)
          (has_same t v f (staying u x) (sym (all_opened u (plain_of u x))) ∙ h);
      entries = a.entries;
      directory = sym (all_directory u (plain_of u x)) ∙ a.directory;
      opened = sym (all_opened u (plain_of u x)) ∙ a.opened;
    }

pub forgotten : (left : ℕ → ℕ) (marked went : ℕ → Bool) (s u : Server) (k : ℕ) → LeftSince left marked went s u
    → LeftSince left marked went s (forget_connection u k)
forgotten left marked went s u k a =
    record {
      fits = forget_keeps u k a.fits;
      stood = a.stood;
      opens = a.opens;
      pending = λ f e h. a.pending f (exists_same (forget_connection u k) u f refl ∙ e) (has_same u (forget_connection u k) f refl refl ∙ h);
      entries = a.entries;
      directory = a.directory;
      opened = a.opened;
    }
