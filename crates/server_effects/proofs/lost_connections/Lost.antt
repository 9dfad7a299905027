-- All connections are lost in turns: each turn takes out the first that is left. One that stands twice goes once.
use Rattle.std.proofs.Common.{◌≡◌, ◌⊎◌, inl, inr, ℕ, ◌+◌, ◌==◌, ◌≤◌, nat_le, Bool, true, false, ◌||◌, if◌then◌else◌, List, [], ◌∷◌, length}
use Rattle.std.proofs.Common.{Option, Some, None, slice_get, eqb-true, refl, sym, ap, subst, arith, ◌∙◌}
use Rattle.spec_exchange.specs.CheckSetup.{count_channels}
use Rattle.spec_exchange.specs.Effects.{acts_if_named, end_if_named}
use Rattle.spec_exchange.specs.State.{Making, Server}
use Rattle.spec_exchange.specs.Step.{ends_with, forget_connection, last_session, take_all_acts, take_all_out, take_out}
use Rattle.spec_exchange.specs.Table.{has, is_at, put, without}
use Rattle.server_checks.specs.Shown.{TablesShown}
use Rattle.server_checks.specs.declared.tables.Tables.{Tables}
use Rattle.server_effects.specs.lost_connections.Lost.{first_acts, first_out}
use Rattle.law_server.proofs.tables.Stepped.{take_out_keeps}
use Rattle.law_server.specs.tables.Fits.{Fits}

-- ---- a connection that is lost

pub record IsLost (u : Server) (k : ℕ) : Type 0 where
  pub listed : has k u.connections ≡ false
  pub live : u.session_on k ≡ None
  pub making : u.making k ≡ None

without_none : (k : ℕ) (ks : List ℕ) → has k ks ≡ false → without k ks ≡ ks
without_none k [] h = refl
without_none k (x ∷ xs) h = by (x == k) h (λ i. without_none k xs i)
  where
    by : (b : Bool) → (if b then true else has k xs) ≡ false → (has k xs ≡ false → without k xs ≡ xs)
        → (if b then without k xs else x ∷ without k xs) ≡ x ∷ xs
    by true e old = absurd (cc)
    by false e old = ap (λ (ys : List ℕ). x ∷ ys) (old e)

put_none : {X : Type 0} (f : ℕ → Option X) (k : ℕ) → f k ≡ None → put f k None ≡ f
put_none f k e = λ t q. by q (q == k) refl t
  where
    by : (q : ℕ) (b : Bool) → (q == k) ≡ b → (if b then None else f q) ≡ f q
    by q true h = let j : q ≡ k = eqb-true q k h in sym (ap f j ∙ e)
    by q false h = refl

put_here : {X : Type 0} (f : ℕ → X) (k : ℕ) (v : X) → put f k v k ≡ v
put_here f k v = grind arith

forgets_none : (u : Server) (k : ℕ) → IsLost u k → forget_connection u k ≡ u
forgets_none u k l =
    ap (λ (ks : List ℕ). record u { connections = ks; session_on = put u.session_on k None; making = put u.making k None })
    (without_none k u.connections l.listed)
    ∙ (ap (λ (f : ℕ → Option ℕ). record u { session_on = f; making = put u.making k None }) (put_none u.session_on k l.live)
    ∙ ap (λ (f : ℕ → Option Making). record u { making = f }) (put_none u.making k l.making))

-- where it is taken out again nothing changes, and nothing is done
pub out_again : (u : Server) (k now : ℕ) (q : Bool) → IsLost u k → take_out u k now q ≡ u
out_again u k now q l = ap (λ (o : Option ℕ). forget_connection (end_if_named u now (last_session u k o) q) k) l.live ∙ forgets_none u k l

pub acts_again : (u : Server) (k : ℕ) → IsLost u k → acts_if_named u (ends_with u k) ≡ false
acts_again u k l = ap (λ (o : Option ℕ). acts_if_named u (last_session u k o)) l.live

-- ---- it stays lost behind others

has_without : (k x : ℕ) (ks : List ℕ) → has k ks ≡ false → has k (without x ks) ≡ false
has_without k x [] h = refl
has_without k x (y ∷ ys) h = by (y == k) (y == x) refl h (λ i. has_without k x ys i)
  where
    by : (b c : Bool) → (y == k) ≡ b → (if b then true else has k ys) ≡ false → (has k ys ≡ false → has k (without x ys) ≡ false)
        → has k (if c then without x ys else y ∷ without x ys) ≡ false
    by true c e f old = absurd (cc)
    by false true e f old = old f
    by false false e f old = ap (λ (b : Bool). if b then true else has k (without x ys)) e ∙ old f

put_stays : {X : Type 0} (f : ℕ → Option X) (x k : ℕ) → f k ≡ None → put f x None k ≡ None
put_stays f x k e = by (k == x)
  where
    by : (b : Bool) → (if b then None else f k) ≡ None
    by true = refl
    by false = e

named_live : (u : Server) (now k : ℕ) (o : Option ℕ) (q : Bool) → u.session_on k ≡ None → (end_if_named u now o q).session_on k ≡ None
named_live u now k None q e = e
named_live u now k (Some x) q e = by (is_at x (u.session_on k))
  where
    by : (b : Bool) → (if b then None else u.session_on k) ≡ None
    by true = refl
    by false = e

named_list : (u : Server) (now : ℕ) (o : Option ℕ) (q : Bool) → (end_if_named u now o q).connections ≡ u.connections
named_list u now None q = refl
named_list u now (Some x) q = refl

named_making : (u : Server) (now : ℕ) (o : Option ℕ) (q : Bool) → (end_if_named u now o q).making ≡ u.making
named_making u now None q = refl
named_making u now (Some x) q = refl

lost_yet : (u : Server) (k x now : ℕ) (q : Bool) → IsLost u k → IsLost (take_out u x now q) k
lost_yet u k x now q l = record {
  listed = has_without k x (end_if_named u now (ends_with u x) q).connections
      (ap (has k) (named_list u now (ends_with u x) q) ∙ l.listed);
  live = put_stays (end_if_named u now (ends_with u x) q).session_on x k (named_live u now k (ends_with u x) q l.live);
  making = put_stays (end_if_named u now (ends_with u x) q).making x k
      (ap (λ (f : ℕ → Option Making). f k) (named_making u now (ends_with u x) q) ∙ l.making);
}

gone_from : (k : ℕ) (ks : List ℕ) → has k (without k ks) ≡ false
gone_from k [] = refl
gone_from k (x ∷ xs) = by (x == k) refl (gone_from k xs)
  where
    by : (b : Bool) → (x == k) ≡ b → has k (without k xs) ≡ false → has k (if b then without k xs else x ∷ without k xs) ≡ false
    by true e old = old
    by false e old = ap (λ (b : Bool). if b then true else has k (without k xs)) e ∙ old

lost_here : (u : Server) (k now : ℕ) (q : Bool) → IsLost (take_out u k now q) k
lost_here u k now q = record {
  listed = gone_from k (end_if_named u now (ends_with u k) q).connections;
  live = put_here (end_if_named u now (ends_with u k) q).session_on k None;
  making = put_here (end_if_named u now (ends_with u k) q).making k None;
}

-- ---- the list without one that is lost

pub skip_lost : (ks : List ℕ) (u : Server) (k now : ℕ) (q : Bool) → IsLost u k
    → take_all_out u ks now q ≡ take_all_out u (without k ks) now q
unfolding take_all_out
skip_lost [] u k now q l = refl
skip_lost (x ∷ xs) u k now q l =
    by (x == k) refl (skip_lost xs u k now q l) (skip_lost xs (take_out u x now q) k now q (lost_yet u k x now q l))
  where
    by : (b : Bool) → (x == k) ≡ b → take_all_out u xs now q ≡ take_all_out u (without k xs) now q
        → take_all_out (take_out u x now q) xs now q ≡ take_all_out (take_out u x now q) (without k xs) now q
        → take_all_out (take_out u x now q) xs now q ≡ take_all_out u (if b then without k xs else x ∷ without k xs) now q
    by true e here behind = let j : x ≡ k = eqb-true x k e in
        ap (λ (v : Server). take_all_out v xs now q) (ap (λ (y : ℕ). take_out u y now q) j ∙ out_again u k now q l) ∙ here
    by false e here behind = behind

pub skip_acts : (ks : List ℕ) (u : Server) (k now : ℕ) (q : Bool) → IsLost u k
    → take_all_acts u ks now q ≡ take_all_acts u (without k ks) now q
unfolding take_all_acts
skip_acts [] u k now q l = refl
skip_acts (x ∷ xs) u k now q l =
    by (x == k) refl (skip_acts xs u k now q l) (skip_acts xs (take_out u x now q) k now q (lost_yet u k x now q l))
  where
    by : (b : Bool) → (x == k) ≡ b → take_all_acts u xs now q ≡ take_all_acts u (without k xs) now q
        → take_all_acts (take_out u x now q) xs now q ≡ take_all_acts (take_out u x now q) (without k xs) now q
        → (acts_if_named u (ends_with u x) || take_all_acts (take_out u x now q) xs now q)
        ≡ take_all_acts u (if b then without k xs else x ∷ without k xs) now q
    by true e here behind = let j : x ≡ k = eqb-true x k e in
        ap (λ (y : ℕ). acts_if_named u (ends_with u y) || take_all_acts (take_out u y now q) xs now q) j
        ∙ (ap (λ (b : Bool). b || take_all_acts (take_out u k now q) xs now q) (acts_again u k l)
        ∙ (ap (λ (v : Server). take_all_acts v xs now q) (out_again u k now q l) ∙ here))
    by false e here behind = ap (λ (b : Bool). acts_if_named u (ends_with u x) || b) behind

-- ---- the first of them

pub first_told : (s : Server) (k : ℕ) (b : Bool) → Some k ≡ slice_get s.connections 0 → b ≡ acts_if_named s (ends_with s k)
    → b ≡ first_acts s s.connections
first_told s k b e h = by s.connections e
  where
    by : (ks : List ℕ) → Some k ≡ slice_get ks 0 → b ≡ first_acts s ks
    by [] i = absurd (cc)
    by (x ∷ xs) i = let j : k ≡ x = cc in h ∙ ap (λ (y : ℕ). acts_if_named s (ends_with s y)) j

pub first_taken : (t : Tables) (s : Server) (k now : ℕ) (q : Bool) → Some k ≡ slice_get s.connections 0
    → TablesShown t (take_out s k now q) → TablesShown t (first_out s s.connections now q)
first_taken t s k now q e h = by s.connections e
  where
    by : (ks : List ℕ) → Some k ≡ slice_get ks 0 → TablesShown t (first_out s ks now q)
    by [] i = absurd (cc)
    by (x ∷ xs) i = let j : k ≡ x = cc in subst (λ (y : ℕ). TablesShown t (take_out s y now q)) j h

pub none_told : (s : Server) → None ≡ slice_get s.connections 0 → false ≡ first_acts s s.connections
none_told s e = by s.connections e
  where
    by : (ks : List ℕ) → None ≡ slice_get ks 0 → false ≡ first_acts s ks
    by [] i = refl
    by (x ∷ xs) i = absurd (cc)

pub none_taken : (t : Tables) (s : Server) (now : ℕ) (q : Bool) → None ≡ slice_get s.connections 0 → TablesShown t s
    → TablesShown t (first_out s s.connections now q)
none_taken t s now q e h = by s.connections e
  where
    by : (ks : List ℕ) → None ≡ slice_get ks 0 → TablesShown t (first_out s ks now q)
    by [] i = h
    by (x ∷ xs) i = absurd (cc)

-- ---- turns

-- behind so many turns: what is left is lost yet, and none is left or so many fewer are
pub record InTurn (n : ℕ) (s : Server) (t : Tables) (now : ℕ) (q acted : Bool) : Type 0 where
  pub state : Server
  pub left : take_all_out s s.connections now q ≡ take_all_out state state.connections now q
  pub acts : take_all_acts s s.connections now q ≡ (acted || take_all_acts state state.connections now q)
  pub fits : Fits state
  pub count : (state.connections ≡ []) ⊎ (length state.connections + n ≤ length s.connections)
  pub shows : TablesShown t state

pub begun : (s : Server) (t : Tables) (now : ℕ) (q : Bool) → Fits s → TablesShown t s → InTurn 0 s t now q false
begun s t now q f h = record {
  state = s;
  left = refl;
  acts = refl;
  fits = f;
  count = inr (omega arith);
  shows = h;
}

without_few : (k : ℕ) (ks : List ℕ) → length (without k ks) ≤ length ks
without_few k [] = omega arith
without_few k (x ∷ xs) = by (x == k) (without_few k xs)
  where
    by : (b : Bool) → length (without k xs) ≤ length xs → length (if b then without k xs else x ∷ without k xs) ≤ length (x ∷ xs)
    by true old = omega arith
    by false old = omega arith

or_off : (b c : Bool) → (b || c) ≡ ((b || false) || c)
or_off true c = refl
or_off false c = refl

or_moved : (a b c : Bool) → (a || (b || c)) ≡ ((a || b) || c)
or_moved true b c = refl
or_moved false b c = refl

itself : (n : ℕ) → (n == n) ≡ true
itself n = grind arith

-- the list behind the first one
behind_first : (u : Server) (k : ℕ) (ks : List ℕ) (now : ℕ) (q : Bool) → u.connections ≡ k ∷ ks
    → without k ks ≡ (take_out u k now q).connections
behind_first u k ks now q e =
    ap (λ (b : Bool). if b then without k ks else k ∷ without k ks) (sym (itself k))
    ∙ ap (without k) (sym (named_list u now (ends_with u k) q ∙ e))

pub next : (n : ℕ) (s : Server) (t : Tables) (now : ℕ) (q acted one : Bool) (u : Tables) → InTurn n s t now q acted
    → ((v : Server) → Fits v → TablesShown t v → one ≡ first_acts v v.connections)
    → ((v : Server) → Fits v → TablesShown t v → TablesShown u (first_out v v.connections now q))
    → InTurn (n + 1) s u now q (acted || one)
unfolding take_all_out take_all_acts
next n s t now q acted one u l told h = by l.state.connections refl
  where
    v : Server
    v = l.state

    by : (ks : List ℕ) → v.connections ≡ ks → InTurn (n + 1) s u now q (acted || one)
    by [] e = record {
      state = v;
      left = l.left;
      acts = l.acts ∙ (or_off acted (take_all_acts v v.connections now q)
          ∙ ap (λ (b : Bool). (acted || b) || take_all_acts v v.connections now q) (sym (told v l.fits l.shows ∙ ap (first_acts v) e)));
      fits = l.fits;
      count = inl e;
      shows = subst (λ (ks : List ℕ). TablesShown u (first_out v ks now q)) e (h v l.fits l.shows);
    }
    by (k ∷ ks) e = let w : Server = take_out v k now q in let lost = lost_here v k now q in let rest = behind_first v k
        ks now q e in record {
          state = w;
          left = l.left ∙ (ap (λ (cs : List ℕ). take_all_out v cs now q) e
              ∙ (skip_lost ks w k now q lost ∙ ap (λ (cs : List ℕ). take_all_out w cs now q) rest));
          acts = l.acts ∙ (ap (λ (cs : List ℕ). acted || take_all_acts v cs now q) e
              ∙ (ap (λ (b : Bool). acted || (acts_if_named v (ends_with v k) || b))
              (skip_acts ks w k now q lost ∙ ap (λ (cs : List ℕ). take_all_acts w cs now q) rest)
              ∙ (or_moved acted (acts_if_named v (ends_with v k)) (take_all_acts w w.connections now q)
              ∙ ap (λ (b : Bool). (acted || b) || take_all_acts w w.connections now q) (sym (told v l.fits l.shows ∙ ap (first_acts v) e)))));
          fits = take_out_keeps v k now q l.fits;
          count = inr (fewer k ks e rest l.count);
          shows = subst (λ (cs : List ℕ). TablesShown u (first_out v cs now q)) e (h v l.fits l.shows);
        }
      where
        fewer : (k : ℕ) (ks : List ℕ) → v.connections ≡ k ∷ ks → without k ks ≡ (take_out v k now q).connections
            → (v.connections ≡ []) ⊎ (length v.connections + n ≤ length s.connections)
            → length (take_out v k now q).connections + (n + 1) ≤ length s.connections
        fewer k ks e rest (inl m) = absurd (let j = sym e ∙ m in cc)
        fewer k ks e rest (inr m) = let a = without_few k ks in let b = ap length rest in let c = ap length e in omega (arith, a, b, c, m)

empty : (xs : List ℕ) → length xs ≤ 0 → xs ≡ []
empty [] h = refl
empty (x ∷ xs) h = absurd (omega arith)

pub none_left : (n : ℕ) (s : Server) (t : Tables) (now : ℕ) (q acted : Bool) (l : InTurn n s t now q acted) → length s.connections ≤ n
    → l.state.connections ≡ []
none_left n s t now q acted l e = by l.count
  where
    by : (l.state.connections ≡ []) ⊎ (length l.state.connections + n ≤ length s.connections) → l.state.connections ≡ []
    by (inl k) = k
    by (inr k) = empty l.state.connections (omega (arith, k, e))

pub all_out : (n : ℕ) (s : Server) (t : Tables) (now : ℕ) (q acted : Bool) → InTurn n s t now q acted → length s.connections ≤ n
    → TablesShown t (take_all_out s s.connections now q)
unfolding take_all_out
all_out n s t now q acted l e = subst (λ (v : Server). TablesShown t v)
    (sym (l.left ∙ ap (λ (cs : List ℕ). take_all_out l.state cs now q) (none_left n s t now q acted l e))) l.shows

pub all_acts : (n : ℕ) (s : Server) (t : Tables) (now : ℕ) (q acted : Bool) → InTurn n s t now q acted → length s.connections ≤ n
    → acted ≡ take_all_acts s s.connections now q
unfolding take_all_acts
all_acts n s t now q acted l e =
    off acted ∙ sym (l.acts ∙ ap (λ (cs : List ℕ). acted || take_all_acts l.state cs now q) (none_left n s t now q acted l e))
  where
    off : (b : Bool) → b ≡ (b || false)
    off true = refl
    off false = refl

-- the session that ends with a connection is there
pub ends_present : (s : Server) (k x : ℕ) → Fits s → ends_with s k ≡ Some x → s.present x ≡ true
ends_present s k x f e = by (s.session_on k) refl e
  where
    by : (o : Option ℕ) → s.session_on k ≡ o → last_session s k o ≡ Some x → s.present x ≡ true
    by None a h = absurd (cc)
    by (Some y) a h = f.on_present k x (a ∙ named (nat_le (count_channels s.session_on s.connections y) 1) y h)
      where
        named : (b : Bool) (y : ℕ) → (if b then Some y else None) ≡ Some x → Some y ≡ Some x
        named true y h = h
        named false y h = absurd (cc)
