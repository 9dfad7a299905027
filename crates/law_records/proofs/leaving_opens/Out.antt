-- Connections that are lost one behind the other: which sessions end with them, and the state behind each.
use Rattle.std.proofs.Common.{◌≡◌, ◌≤◌, ℕ, ◌+◌, ◌==◌, nat_le, Bool, true, false, not, ◌&&◌, if◌then◌else◌, List, []}
use Rattle.std.proofs.Common.{◌∷◌, ◌++◌, Option, Some, None, refl, sym, ap, subst, ◌∙◌, append_assoc, arith, eqb-true}
use Rattle.std.proofs.lemmas.Bool.Decides.{nat_tests}
use Rattle.std.proofs.lemmas.List.{append-nil}
use Rattle.spec_exchange.specs.Table.{has, without, is_at}
use Rattle.spec_exchange.specs.State.{Server, Record}
use Rattle.spec_exchange.specs.CheckSetup.{count_channels}
use Rattle.spec_exchange.specs.Records.{origin_at}
use Rattle.spec_exchange.specs.Effects.{leaves, plain_in, plain_of, staying_in, leave_all, leave_all_records, cleared}
use Rattle.spec_exchange.specs.Effects.{end_session, end_if_named, end_records, records_if_named}
use Rattle.spec_exchange.specs.Step.{forget_connection, last_session, ends_with, take_out, take_all_out, take_all_records}
use Rattle.law_server.specs.tables.Fits.{Fits}
use Rattle.law_server.proofs.tables.Logic.{front_of, at_of}
use Rattle.law_server.proofs.tables.Lists.{has-without}
use Rattle.law_server.proofs.tables.Stepped.{take_out_keeps}
use Rattle.law_records.specs.leaving_opens.Since.{LeftSince, AllStand}
use Rattle.law_records.specs.leaving_opens.Out.{channels_left, last_left, ends_left}
use Rattle.law_records.proofs.leaving_opens.Ended.{without_all, without_none, without_front, has_plain, ended, forgotten}

-- ---- lists

has_end : (c k : ℕ) (lost : List ℕ) → has c (lost ++ k ∷ []) ≡ (if has c lost then true else k == c)
has_end c k [] = by (k == c)
  where
    by : (b : Bool) → (if b then true else false) ≡ b
    by true = refl
    by false = refl
has_end c k (x ∷ xs) = by (x == c) (has_end c k xs)
  where
    by : (b : Bool) → has c (xs ++ k ∷ []) ≡ (if has c xs then true else k == c)
        → (if b then true else has c (xs ++ k ∷ [])) ≡ (if (if b then true else has c xs) then true else k == c)
    by true old = refl
    by false old = old

has_front : (c : ℕ) (ks rest : List ℕ) → has c ks ≡ true → has c (ks ++ rest) ≡ true
has_front c [] rest h = absurd (cc)
has_front c (x ∷ xs) rest h = by (x == c) h (λ e. has_front c xs rest e)
  where
    by : (b : Bool) → (if b then true else has c xs) ≡ true → (has c xs ≡ true → has c (xs ++ rest) ≡ true)
        → (if b then true else has c (xs ++ rest)) ≡ true
    by true e old = refl
    by false e old = old e

has_first : (k : ℕ) (more : List ℕ) → has k (k ∷ more) ≡ true
has_first k more = let e : (k == k) ≡ true = grind arith in rw e refl

has_back : (c : ℕ) (ks rest : List ℕ) → has c rest ≡ true → has c (ks ++ rest) ≡ true
has_back c [] rest h = h
has_back c (x ∷ xs) rest h = by (x == c) (has_back c xs rest h)
  where
    by : (b : Bool) → has c (xs ++ rest) ≡ true → (if b then true else has c (xs ++ rest)) ≡ true
    by true old = refl
    by false old = old

without_end : (lost : List ℕ) (k : ℕ) (xs : List ℕ) → without_all (lost ++ k ∷ []) xs ≡ without k (without_all lost xs)
without_end [] k xs = refl
without_end (o ∷ os) k xs = without_end os k (without o xs)

apart_of : (c k : ℕ) (lost : List ℕ) → has c (lost ++ k ∷ []) ≡ false → (has c lost ≡ false) × ((c == k) ≡ false)
apart_of c k lost h = by (has c lost) (k == c) (sym (has_end c k lost) ∙ h) refl
  where
    by : (b d : Bool) → (if b then true else d) ≡ false → (k == c) ≡ d → (b ≡ false) × ((c == k) ≡ false)
    by true d e i = absurd (cc)
    by false true e i = absurd (cc)
    by false false e i = (refl, let n : (c == k) ≡ false = grind arith in n)

has_kept : (c : ℕ) (lost xs : List ℕ) → has c lost ≡ false → has c xs ≡ true → has c (without_all lost xs) ≡ true
has_kept c [] xs h e = e
has_kept c (o ∷ os) xs h e = by (o == c) refl h (λ i j. has_kept c os (without o xs) i j)
  where
    by : (b : Bool) → (o == c) ≡ b → (if b then true else has c os) ≡ false
        → (has c os ≡ false → has c (without o xs) ≡ true → has c (without_all os (without o xs)) ≡ true)
        → has c (without_all os (without o xs)) ≡ true
    by true i j old = absurd (cc)
    by false i j old = old j (has-without c o xs ∙ ap (λ (b : Bool). if b then false else has c xs) i ∙ e)

-- ---- channels

one_at_least : (on : ℕ → Option ℕ) (ks : List ℕ) (c x : ℕ) → has c ks ≡ true → is_at x (on c) ≡ true → 1 ≤ count_channels on ks x
unfolding count_channels
one_at_least on [] c x h i = absurd (cc)
one_at_least on (y ∷ ks) c x h i = by (y == c) refl h (λ e. one_at_least on ks c x e i)
  where
    more : (b : Bool) (n : ℕ) → 1 ≤ n → 1 ≤ (if b then 1 else 0) + n
    more true n l = omega (arith, l)
    more false n l = omega (arith, l)

    first : (b : Bool) (n : ℕ) → b ≡ true → 1 ≤ (if b then 1 else 0) + n
    first true n e = omega arith
    first false n e = absurd (cc)

    by : (b : Bool) → (y == c) ≡ b → (if b then true else has c ks) ≡ true → (has c ks ≡ true → 1 ≤ count_channels on ks x)
        → 1 ≤ (if is_at x (on y) then 1 else 0) + count_channels on ks x
    by true e j old = first (is_at x (on y)) (count_channels on ks x) (subst (λ (z : ℕ). is_at x (on z) ≡ true) (sym (eqb-true y c e)) i)
    by false e j old = more (is_at x (on y)) (count_channels on ks x) (old j)

two_at_least : (on : ℕ → Option ℕ) (ks : List ℕ) (k c x : ℕ) → has k ks ≡ true → has c ks ≡ true → (c == k) ≡ false
    → is_at x (on k) ≡ true → is_at x (on c) ≡ true → 2 ≤ count_channels on ks x
unfolding count_channels
two_at_least on [] k c x h i a p q = absurd (cc)
two_at_least on (y ∷ ks) k c x h i a p q = by (y == k) (y == c) refl refl h i (λ d e. two_at_least on ks k c x d e a p q)
  where
    more : (b : Bool) (n : ℕ) → 2 ≤ n → 2 ≤ (if b then 1 else 0) + n
    more true n l = omega (arith, l)
    more false n l = omega (arith, l)

    first : (b : Bool) (n : ℕ) → b ≡ true → 1 ≤ n → 2 ≤ (if b then 1 else 0) + n
    first true n e l = omega (arith, l)
    first false n e l = absurd (cc)

    at : (z : ℕ) → (y == z) ≡ true → is_at x (on z) ≡ true → is_at x (on y) ≡ true
    at z e j = subst (λ (w : ℕ). is_at x (on w) ≡ true) (sym (eqb-true y z e)) j

    never : (y == k) ≡ true → (y == c) ≡ true → ⊥
    never d e = let f : (c == k) ≡ true = subst (λ (w : ℕ). (w == k) ≡ true) (eqb-true y c e) d in absurd (let g = sym f ∙ a in cc)

    by : (b d : Bool) → (y == k) ≡ b → (y == c) ≡ d → (if b then true else has k ks) ≡ true → (if d then true else has c ks) ≡ true
        → (has k ks ≡ true → has c ks ≡ true → 2 ≤ count_channels on ks x)
        → 2 ≤ (if is_at x (on y) then 1 else 0) + count_channels on ks x
    by true true e f u v old = absurd (never e f)
    by true false e f u v old = first (is_at x (on y)) (count_channels on ks x) (at k e p) (one_at_least on ks c x v q)
    by false true e f u v old = first (is_at x (on y)) (count_channels on ks x) (at c f q) (one_at_least on ks k x u p)
    by false false e f u v old = more (is_at x (on y)) (count_channels on ks x) (old u v)

-- what a connection tells on which a session has its last channel
last_of : (u : Server) (k x : ℕ) (o : Option ℕ) → last_session u k o ≡ Some x → (o ≡ Some x)
    × (nat_le (count_channels u.session_on u.connections x) 1 ≡ true)
last_of u k x None e = absurd (cc)
last_of u k x (Some y) e = by (nat_le (count_channels u.session_on u.connections y) 1) refl e
  where
    by : (b : Bool) → nat_le (count_channels u.session_on u.connections y) 1 ≡ b → (if b then Some y else None) ≡ Some x
        → (Some y ≡ Some x) × (nat_le (count_channels u.session_on u.connections x) 1 ≡ true)
    by true i j = (j, subst (λ (z : ℕ). nat_le (count_channels u.session_on u.connections z) 1 ≡ true) (same j) i)
      where
        same : Some y ≡ Some x → y ≡ x
        same p = cc
    by false i j = absurd (cc)

-- no other connection has a channel of the session that ends
others_off : (u : Server) (k c x : ℕ) → ends_with u k ≡ Some x → has k u.connections ≡ true → has c u.connections ≡ true
    → (c == k) ≡ false → is_at x (u.session_on c) ≡ false
others_off u k c x e h i a = by (is_at x (u.session_on c)) refl
  where
    itself : (n : ℕ) → (n == n) ≡ true
    itself n = grind arith

    here : is_at x (u.session_on k) ≡ true
    here = ap (λ (o : Option ℕ). is_at x o) (last_of u k x (u.session_on k) e).0 ∙ itself x

    few : (n : ℕ) → nat_le n 1 ≡ true → 2 ≤ n → ⊥
    few n l m = absurd (let f : nat_le n 1 ≡ false = grind (arith, nat_tests) in let g = sym f ∙ l in cc)

    by : (b : Bool) → is_at x (u.session_on c) ≡ b → b ≡ false
    by false j = refl
    by true j = absurd (few (count_channels u.session_on u.connections x) (last_of u k x (u.session_on k) e).1
        (two_at_least u.session_on u.connections k c x h i a here j))

-- ---- a session that may end

named_connections : (u : Server) (now : ℕ) (o : Option ℕ) → (end_if_named u now o false).connections ≡ u.connections
named_connections u now None = refl
named_connections u now (Some x) = refl

named_none : (u : Server) (now c : ℕ) (o : Option ℕ) → u.session_on c ≡ None → (end_if_named u now o false).session_on c ≡ None
named_none u now c None h = h
named_none u now c (Some x) h = ap (λ (a : Option ℕ). cleared x a) h

named_live : (u : Server) (now c : ℕ) (o : Option ℕ) → ((x : ℕ) → o ≡ Some x → is_at x (u.session_on c) ≡ false)
    → (end_if_named u now o false).session_on c ≡ u.session_on c
named_live u now c None h = refl
named_live u now c (Some x) h = ap (λ (b : Bool). if b then None else u.session_on c) (h x refl)

plain_same : (w v : Server) (x : ℕ) (os : List ℕ) → ((o : ℕ) → leaves w x o ≡ leaves v x o) → plain_in w x os ≡ plain_in v x os
unfolding plain_in
plain_same w v x [] h = refl
plain_same w v x (o ∷ os) h =
    ap (λ (b : Bool). if b then o ∷ plain_in w x os else plain_in w x os) (h o)
    ∙ ap (λ (ms : List ℕ). if leaves v x o then o ∷ ms else ms) (plain_same w v x os h)

-- the opens of another session leave its own as they are
cleared_other : (x y : ℕ) (a : Option ℕ) → (x == y) ≡ false → is_at x (cleared y a) ≡ is_at x a
cleared_other x y None n = refl
cleared_other x y (Some z) n = by (z == y) refl
  where
    other : (b : Bool) → (z == y) ≡ true → (z == x) ≡ b → false ≡ b
    other false e f = refl
    other true e f = absurd (let g : (x == y) ≡ true = subst (λ (w : ℕ). (w == y) ≡ true) (eqb-true z x f) e in let h = sym g ∙ n in cc)

    by : (b : Bool) → (z == y) ≡ b → is_at x (if b then None else Some z) ≡ (z == x)
    by true e = other (z == x) e refl
    by false e = refl

other_off : (u : Server) (x y o : ℕ) → (x == y) ≡ false → leaves u y o ≡ true → leaves u x o ≡ false
other_off u x y o n l = by (is_at x (u.session_of_open o)) refl
  where
    at_y : u.session_of_open o ≡ Some y
    at_y = at_of y (u.session_of_open o) (front_of (is_at y (u.session_of_open o)) (not (u.opened o).persistent) l)

    clash : Some x ≡ Some y → (x == y) ≡ true
    clash e = let f : x ≡ y = cc in subst (λ (z : ℕ). (x == z) ≡ true) f (itself x)
      where
        itself : (m : ℕ) → (m == m) ≡ true
        itself m = grind arith

    by : (b : Bool) → is_at x (u.session_of_open o) ≡ b → (b && not (u.opened o).persistent) ≡ false
    by false e = refl
    by true e = absurd (let g = sym (clash (sym (at_of x (u.session_of_open o) e) ∙ at_y)) ∙ n in cc)

ended_plain : (u : Server) (x y now : ℕ) (os : List ℕ) → (x == y) ≡ false
    → plain_in (end_session u y now false) x (staying_in u y os) ≡ plain_in u x os
unfolding plain_in staying_in
ended_plain u x y now [] n = refl
ended_plain u x y now (o ∷ os) n = by (leaves u y o) refl (ended_plain u x y now os n)
  where
    skip : (b : Bool) (ms : List ℕ) → b ≡ false → ms ≡ (if b then o ∷ ms else ms)
    skip true ms e = absurd (cc)
    skip false ms e = refl

    same : leaves (end_session u y now false) x o ≡ leaves u x o
    same = ap (λ (b : Bool). b && not (u.opened o).persistent) (cleared_other x y (u.session_of_open o) n)

    by : (b : Bool) → leaves u y o ≡ b → plain_in (end_session u y now false) x (staying_in u y os) ≡ plain_in u x os
        → plain_in (end_session u y now false) x (if b then staying_in u y os else o ∷ staying_in u y os)
        ≡ (if leaves u x o then o ∷ plain_in u x os else plain_in u x os)
    by true l old = old ∙ skip (leaves u x o) (plain_in u x os) (other_off u x y o n l)
    by false l old =
        ap (λ (b : Bool). if b then o ∷ plain_in (end_session u y now false) x (staying_in u y os)
        else plain_in (end_session u y now false) x (staying_in u y os)) same
        ∙ ap (λ (ms : List ℕ). if leaves u x o then o ∷ ms else ms) old

named_plain : (u : Server) (now k x : ℕ) (o : Option ℕ) → ((y : ℕ) → o ≡ Some y → (x == y) ≡ false)
    → plain_of (forget_connection (end_if_named u now o false) k) x ≡ plain_of u x
named_plain u now k x None h = plain_same (forget_connection u k) u x u.opens (λ p. refl)
named_plain u now k x (Some y) h =
    plain_same (forget_connection (end_session u y now false) k) (end_session u y now false) x (staying_in u y u.opens) (λ p. refl)
    ∙ ended_plain u x y now u.opens (h y refl)

-- ---- one more connection

-- from the state s to the state u behind connections that were lost
pub record OutSince (lost : List ℕ) (s u : Server) : Type 0 where
  pub fits : Fits u
  pub connections : u.connections ≡ without_all lost s.connections
  pub gone : (c : ℕ) → has c lost ≡ true → u.session_on c ≡ None
  pub live : (c : ℕ) → has c s.connections ≡ true → has c lost ≡ false → u.session_on c ≡ s.session_on c
  pub plain : (c x : ℕ) → has c s.connections ≡ true → has c lost ≡ false → s.session_on c ≡ Some x → plain_of u x ≡ plain_of s x

none_out : (s : Server) → Fits s → OutSince [] s s
none_out s i = record {
  fits = i;
  connections = refl;
  gone = λ c h. absurd (cc);
  live = λ c h e. refl;
  plain = λ c x h e j. refl;
}

one_out : (lost : List ℕ) (s u : Server) (k now : ℕ) → has k s.connections ≡ true → OutSince lost s u
    → OutSince (lost ++ k ∷ []) s (take_out u k now false)
one_out lost s u k now there a = record {
  fits = take_out_keeps u k now false a.fits;
  connections = ap (λ (v : List ℕ). without k v) (named_connections u now (ends_with u k) ∙ a.connections)
      ∙ sym (without_end lost k s.connections);
  gone = λ c h. gone_at c (c == k) refl (sym (has_end c k lost) ∙ h);
  live = λ c h e. let n = apart_of c k lost e in live_at c (c == k) n.1 (off c h n.0 n.1) ∙ a.live c h n.0;
  plain = λ c x h e j. let n = apart_of c k lost e in
      named_plain u now k x (ends_with u k) (λ y i. other c x y j (a.live c h n.0) (off c h n.0 n.1 y i)) ∙ a.plain c x h n.0 j;
}
  where
    inside : (c : ℕ) → has c s.connections ≡ true → has c lost ≡ false → has c u.connections ≡ true
    inside c h e = subst (λ (v : List ℕ). has c v ≡ true) (sym a.connections) (has_kept c lost s.connections e h)

    -- a connection on which a session ends wasn't lost before
    not_lost : (x : ℕ) → ends_with u k ≡ Some x → has k lost ≡ false
    not_lost x e = by (has k lost) refl
      where
        by : (b : Bool) → has k lost ≡ b → b ≡ false
        by false i = refl
        by true i = absurd (let f = sym (a.gone k i) ∙ (last_of u k x (u.session_on k) e).0 in cc)

    off : (c : ℕ) → has c s.connections ≡ true → has c lost ≡ false → (c == k) ≡ false
        → (x : ℕ) → ends_with u k ≡ Some x → is_at x (u.session_on c) ≡ false
    off c h e n x i = others_off u k c x i (inside k there (not_lost x i)) (inside c h e) n

    gone_at : (c : ℕ) (b : Bool) → (c == k) ≡ b → (if has c lost then true else k == c) ≡ true
        → (if b then None else (end_if_named u now (ends_with u k) false).session_on c) ≡ None
    gone_at c true e h = refl
    gone_at c false e h = named_none u now c (ends_with u k) (a.gone c (by (has c lost) (k == c) refl h))
      where
        by : (d f : Bool) → (k == c) ≡ f → (if d then true else f) ≡ true → d ≡ true
        by true f i j = refl
        by false true i j = absurd (let m : (c == k) ≡ true = grind arith in let g = sym m ∙ e in cc)
        by false false i j = absurd (cc)

    live_at : (c : ℕ) (b : Bool) → b ≡ false → ((x : ℕ) → ends_with u k ≡ Some x → is_at x (u.session_on c) ≡ false)
        → (if b then None else (end_if_named u now (ends_with u k) false).session_on c) ≡ u.session_on c
    live_at c true n h = absurd (cc)
    live_at c false n h = named_live u now c (ends_with u k) h

    other : (c x y : ℕ) → s.session_on c ≡ Some x → u.session_on c ≡ s.session_on c → is_at y (u.session_on c) ≡ false → (x == y) ≡ false
    other c x y j l o = sym (ap (λ (v : Option ℕ). is_at y v) (l ∙ j)) ∙ o

all_out : (lost ks : List ℕ) (s u : Server) (now : ℕ) → ((c : ℕ) → has c ks ≡ true → has c s.connections ≡ true)
    → OutSince lost s u → OutSince (lost ++ ks) s (take_all_out u ks now false)
unfolding take_all_out
all_out lost [] s u now h a = subst (λ (v : List ℕ). OutSince v s u) (sym (append-nil lost)) a
all_out lost (k ∷ ks) s u now h a =
    subst (λ (v : List ℕ). OutSince v s (take_all_out (take_out u k now false) ks now false)) (append_assoc lost (k ∷ []) ks)
    (all_out (lost ++ k ∷ []) ks s (take_out u k now false) now (λ c e. h c (later c (k == c) e))
    (one_out lost s u k now (h k (has_first k ks)) a))
  where
    later : (c : ℕ) (b : Bool) → has c ks ≡ true → (if b then true else has c ks) ≡ true
    later c true e = refl
    later c false e = e

pub out_since : (s : Server) (ks rest : List ℕ) (now : ℕ) → Fits s → s.connections ≡ ks ++ rest
    → OutSince ks s (take_all_out s ks now false)
out_since s ks rest now i e =
    all_out [] ks s s now (λ c h. subst (λ (v : List ℕ). has c v ≡ true) (sym e) (has_front c ks rest h)) (none_out s i)

-- ---- which session ends

counted : (lost : List ℕ) (s u : Server) (x : ℕ) (xs : List ℕ) → OutSince lost s u
    → ((c : ℕ) → has c xs ≡ true → has c s.connections ≡ true)
    → count_channels u.session_on (without_all lost xs) x ≡ channels_left s.session_on lost xs x
unfolding count_channels channels_left
counted lost s u x [] a h = ap (λ (v : List ℕ). count_channels u.session_on v x) (without_none lost)
counted lost s u x (y ∷ ys) a h =
    ap (λ (v : List ℕ). count_channels u.session_on v x) (without_front lost y ys)
    ∙ by (has y lost) refl (counted lost s u x ys a (λ c e. h c (later c (y == c) e)))
  where
    later : (c : ℕ) (b : Bool) → has c ys ≡ true → (if b then true else has c ys) ≡ true
    later c true e = refl
    later c false e = e

    zero_more : (n m : ℕ) → n ≡ m → n ≡ 0 + m
    zero_more n m e = omega (arith, e)

    by : (b : Bool) → has y lost ≡ b → count_channels u.session_on (without_all lost ys) x ≡ channels_left s.session_on lost ys x
        → count_channels u.session_on (if b then without_all lost ys else y ∷ without_all lost ys) x
        ≡ (if not b && is_at x (s.session_on y) then 1 else 0) + channels_left s.session_on lost ys x
    by true e old = zero_more _ _ old
    by false e old =
        ap (λ (o : Option ℕ). (if is_at x o then 1 else 0) + count_channels u.session_on (without_all lost ys) x)
        (a.live y (h y (has_first y ys)) e)
        ∙ ap (λ (n : ℕ). (if is_at x (s.session_on y) then 1 else 0) + n) old

skipped : (on : ℕ → Option ℕ) (lost ks rest : List ℕ) (x : ℕ) → ((c : ℕ) → has c ks ≡ true → has c lost ≡ true)
    → channels_left on lost (ks ++ rest) x ≡ channels_left on lost rest x
unfolding channels_left
skipped on lost [] rest x h = refl
skipped on lost (k ∷ ks) rest x h =
    ap (λ (b : Bool). (if not b && is_at x (on k) then 1 else 0) + channels_left on lost (ks ++ rest) x) (h k (has_first k ks))
    ∙ zero_less _ _ (skipped on lost ks rest x (λ c e. h c (later c (k == c) e)))
  where
    later : (c : ℕ) (b : Bool) → has c ks ≡ true → (if b then true else has c ks) ≡ true
    later c true e = refl
    later c false e = e

    zero_less : (n m : ℕ) → n ≡ m → 0 + n ≡ m
    zero_less n m e = omega (arith, e)

channels : (s u : Server) (ks rest : List ℕ) (x : ℕ) → OutSince ks s u → s.connections ≡ ks ++ rest
    → count_channels u.session_on u.connections x ≡ channels_left s.session_on ks rest x
channels s u ks rest x a e =
    ap (λ (v : List ℕ). count_channels u.session_on v x) a.connections
    ∙ counted ks s u x s.connections a (λ c h. h)
    ∙ ap (λ (v : List ℕ). channels_left s.session_on ks v x) e
    ∙ skipped s.session_on ks ks rest x (λ c h. h)

pub ends_there : (s : Server) (ks : List ℕ) (k : ℕ) (more : List ℕ) (now : ℕ) → Fits s → s.connections ≡ ks ++ k ∷ more
    → ends_with (take_all_out s ks now false) k ≡ ends_left s ks k more
ends_there s ks k more now i e = by (has k ks) refl
  where
    u : Server
    u = take_all_out s ks now false

    a : OutSince ks s u
    a = out_since s ks (k ∷ more) now i e

    last : (o : Option ℕ) → last_session u k o ≡ last_left s ks (k ∷ more) o
    last None = refl
    last (Some x) = ap (λ (n : ℕ). if nat_le n 1 then Some x else None) (channels s u ks (k ∷ more) x a e)

    there : has k s.connections ≡ true
    there = subst (λ (v : List ℕ). has k v ≡ true) (sym e) (has_back k ks (k ∷ more) (has_first k more))

    by : (b : Bool) → has k ks ≡ b → last_session u k (u.session_on k)
        ≡ (if b then None else last_left s ks (k ∷ more) (s.session_on k))
    by true h = ap (λ (o : Option ℕ). last_session u k o) (a.gone k h)
    by false h = ap (λ (o : Option ℕ). last_session u k o) (a.live k there h) ∙ last (s.session_on k)

-- ---- one more at the end

next_out : (s : Server) (ks : List ℕ) (k now : ℕ) → take_all_out s (ks ++ k ∷ []) now false
    ≡ take_out (take_all_out s ks now false) k now false
unfolding take_all_out
next_out s [] k now = refl
next_out s (p ∷ ks) k now = next_out (take_out s p now false) ks k now

next_records : (s : Server) (ks : List ℕ) (k now : ℕ) → take_all_records s (ks ++ k ∷ []) now false
    ≡ take_all_records s ks now false
    ++ records_if_named (take_all_out s ks now false) (origin_at 0) (ends_with (take_all_out s ks now false) k) false
unfolding take_all_out take_all_records
next_records s [] k now = append-nil (records_if_named s (origin_at 0) (ends_with s k) false)
next_records s (p ∷ ks) k now =
    ap (λ (v : List Record). records_if_named s (origin_at 0) (ends_with s p) false ++ v) (next_records (take_out s p now false) ks k now)
    ∙ sym (append_assoc (records_if_named s (origin_at 0) (ends_with s p) false)
    (take_all_records (take_out s p now false) ks now false)
    (records_if_named (take_all_out (take_out s p now false) ks now false) (origin_at 0)
    (ends_with (take_all_out (take_out s p now false) ks now false) k) false))

-- ---- the two ways

pub stays_left : (left : ℕ → ℕ) (marked went : ℕ → Bool) (s : Server) (ks : List ℕ) (k : ℕ) (more : List ℕ) (now : ℕ)
    → Fits s → s.connections ≡ ks ++ k ∷ more → ends_left s ks k more ≡ None
    → LeftSince left marked went s (take_all_out s ks now false)
    → LeftSince left marked went s (take_all_out s (ks ++ k ∷ []) now false)
    × (take_all_records s (ks ++ k ∷ []) now false ≡ take_all_records s ks now false)
stays_left left marked went s ks k more now i e none a = (
  subst (λ (t : Server). LeftSince left marked went s t) (sym behind) (forgotten left marked went s u k a),
  next_records s ks k now
      ∙ ap (λ (o : Option ℕ). take_all_records s ks now false ++ records_if_named u (origin_at 0) o false) ends
      ∙ append-nil (take_all_records s ks now false),
)
  where
    u : Server
    u = take_all_out s ks now false

    ends : ends_with u k ≡ None
    ends = ends_there s ks k more now i e ∙ none

    behind : take_all_out s (ks ++ k ∷ []) now false ≡ forget_connection u k
    behind = next_out s ks k now ∙ ap (λ (o : Option ℕ). forget_connection (end_if_named u now o false) k) ends

-- where a session ends its connection wasn't lost, and it was the session's
on_it : (s : Server) (ks : List ℕ) (k x : ℕ) (more : List ℕ) → ends_left s ks k more ≡ Some x
    → (has k ks ≡ false) × (s.session_on k ≡ Some x)
on_it s ks k x more e = by (has k ks) refl e
  where
    last : (o : Option ℕ) → last_left s ks (k ∷ more) o ≡ Some x → o ≡ Some x
    last None i = absurd (cc)
    last (Some y) i = one (nat_le (channels_left s.session_on ks (k ∷ more) y) 1) i
      where
        one : (b : Bool) → (if b then Some y else None) ≡ Some x → Some y ≡ Some x
        one true j = j
        one false j = absurd (cc)

    by : (b : Bool) → has k ks ≡ b → (if b then None else last_left s ks (k ∷ more) (s.session_on k)) ≡ Some x
        → (b ≡ false) × (s.session_on k ≡ Some x)
    by true h i = absurd (cc)
    by false h i = (refl, last (s.session_on k) i)

plain_there : (s : Server) (ks : List ℕ) (k x : ℕ) (more : List ℕ) (now : ℕ) → Fits s → s.connections ≡ ks ++ k ∷ more
    → ends_left s ks k more ≡ Some x → plain_of (take_all_out s ks now false) x ≡ plain_of s x
plain_there s ks k x more now i e h =
    (out_since s ks (k ∷ more) now i e).plain k x
    (subst (λ (v : List ℕ). has k v ≡ true) (sym e) (has_back k ks (k ∷ more) (has_first k more)))
    (on_it s ks k x more h).0 (on_it s ks k x more h).1

pub stand_yet : (s : Server) (ks : List ℕ) (k : ℕ) (more : List ℕ) (now x : ℕ) → Fits s → s.connections ≡ ks ++ k ∷ more
    → ends_left s ks k more ≡ Some x → AllStand (take_all_out s ks now false) (plain_of s x)
stand_yet s ks k more now x i e h =
    subst (λ (os : List ℕ). AllStand (take_all_out s ks now false) os) (plain_there s ks k x more now i e h) own
  where
    own : AllStand (take_all_out s ks now false) (plain_of (take_all_out s ks now false) x)
    own o there =
        let u = take_all_out s ks now false in
        sym ((out_since s ks (k ∷ more) now i e).fits.listed o)
        ∙ front_of (has o u.opens) (leaves u x o) (sym (has_plain u x o u.opens) ∙ there)

pub ended_there : (left : ℕ → ℕ) (marked went : ℕ → Bool) (s : Server) (ks : List ℕ) (k : ℕ) (more : List ℕ) (now x : ℕ)
    → Fits s → s.connections ≡ ks ++ k ∷ more → ends_left s ks k more ≡ Some x
    → LeftSince left marked went s (leave_all (take_all_out s ks now false) (plain_of s x))
    → LeftSince left marked went s (take_all_out s (ks ++ k ∷ []) now false)
    × (take_all_records s (ks ++ k ∷ []) now false ≡ take_all_records s ks now false
    ++ leave_all_records (take_all_out s ks now false) (origin_at 0) (plain_of s x))
unfolding end_records
ended_there left marked went s ks k more now x i e h a = (
  subst (λ (t : Server). LeftSince left marked went s t) (sym behind)
      (forgotten left marked went s (end_session u x now false) k
      (ended left marked went s u x now (out_since s ks (k ∷ more) now i e).fits
      (subst (λ (os : List ℕ). LeftSince left marked went s (leave_all u os)) (sym plain) a))),
  next_records s ks k now
      ∙ ap (λ (o : Option ℕ). take_all_records s ks now false ++ records_if_named u (origin_at 0) o false) ends
      ∙ ap (λ (os : List ℕ). take_all_records s ks now false ++ leave_all_records u (origin_at 0) os) plain,
)
  where
    u : Server
    u = take_all_out s ks now false

    ends : ends_with u k ≡ Some x
    ends = ends_there s ks k more now i e ∙ h

    plain : plain_of u x ≡ plain_of s x
    plain = plain_there s ks k x more now i e h

    behind : take_all_out s (ks ++ k ∷ []) now false ≡ forget_connection (end_session u x now false) k
    behind = next_out s ks k now ∙ ap (λ (o : Option ℕ). forget_connection (end_if_named u now o false) k) ends
