-- A message of a frame that takes over what was handed on, and the others of its frame.
use Rattle.std.proofs.Common.{◌≡◌, ℕ, zero, suc, ◌+◌, ◌-◌, ◌≤◌, ◌<◌, ◌==◌, Bool, true, false, if◌then◌else◌, List, [], ◌∷◌, ◌++◌, set}
use Rattle.std.proofs.Common.{length, take, drop, Option, Some, None, slice_get, inl, inr, refl, sym, ap, subst, ◌∙◌, arith}
use Rattle.std.specs.Prelude.{is_some, not, ◌||◌}
use Rattle.spec_wire.specs.declared.messages.header.Header.{Header}
use Rattle.spec_wire.specs.declared.messages.header.Span.{Span}
use Rattle.spec_world.specs.Hearing as hearing
use Rattle.spec_world.specs.Related as related
use Rattle.conn_core.specs.declared.frame_messages.checked.Checked.{Checked}
use Rattle.conn_core.specs.declared.frame_messages.checked.CheckedFrame.{CheckedFrame}
use Rattle.conn_core.specs.frame_messages.Checking.{InOrder, AreInOrder, HasMessage, holds_setup, places_of, bytes_of, message_in}
use Rattle.conn_core.specs.declared.related.related.Carry.{Carry}
use Rattle.conn_core.specs.related.Carrying.{carry_of, follows, IsCarried, Inherits, TakesOver, SameOthers, AreApart}
use Rattle.conn_core.proofs.related.Placed.{itself, before_it, behind_it, put_long}

-- ---- lists

abbrev or_this : Checked → Option Checked → Checked
or_this d None = d
or_this d (Some m) = m

pub some_same : (m n : Checked) → Some m ≡ Some n → m ≡ n
some_same m n e = ap (λ (o : Option Checked). or_this m o) e

pub set_here : (ms : List Checked) (i : ℕ) (n : Checked) → i < length ms → slice_get (set ms i n) i ≡ Some n
set_here [] i n less = absurd (omega (arith, less))
set_here (m ∷ ms) zero n less = refl
set_here (m ∷ ms) (suc i) n less = set_here ms i n (omega (arith, less))

set_other : (ms : List Checked) (i j : ℕ) (n : Checked) → (j ≡ i → ⊥) → slice_get (set ms i n) j ≡ slice_get ms j
set_other [] zero j n differs = refl
set_other [] (suc i) j n differs = refl
set_other (m ∷ ms) zero zero n differs = absurd (differs refl)
set_other (m ∷ ms) zero (suc j) n differs = refl
set_other (m ∷ ms) (suc i) zero n differs = refl
set_other (m ∷ ms) (suc i) (suc j) n differs = set_other ms i j n (λ e. differs (ap (λ (k : ℕ). suc k) e))

set_long : (ms : List Checked) (i : ℕ) (n : Checked) → length (set ms i n) ≡ length ms
set_long [] zero n = refl
set_long [] (suc i) n = refl
set_long (m ∷ ms) zero n = refl
set_long (m ∷ ms) (suc i) n = ap (λ (k : ℕ). suc k) (set_long ms i n)

same_places : (ms : List Checked) (i : ℕ) (m n : Checked) → slice_get ms i ≡ Some m → n.span ≡ m.span
    → places_of (set ms i n) ≡ places_of ms
same_places [] zero m n e s = refl
same_places [] (suc i) m n e s = refl
same_places (x ∷ xs) zero m n e s =
    let place : n.span ≡ x.span = s ∙ sym (ap (λ (y : Checked). y.span) (some_same x m e)) in
    ap (λ (p : Span). p ∷ places_of xs) place
same_places (x ∷ xs) (suc i) m n e s = ap (λ (ps : List Span). x.span ∷ ps) (same_places xs i m n e s)

-- the commands stay, so it holds a SESSION_SETUP as before
some_setups : (ms : List Checked) (i : ℕ) (m n : Checked) → slice_get ms i ≡ Some m → n.header.command ≡ m.header.command
    → holds_setup (set ms i n) ≡ holds_setup ms
some_setups [] zero m n e s = refl
some_setups [] (suc i) m n e s = refl
some_setups (x ∷ xs) zero m n e s =
    let same : n.header.command ≡ x.header.command = s ∙ sym (ap (λ (y : Checked). y.header.command) (some_same x m e)) in
    ap (λ (k : ℕ). k == 1 || holds_setup xs) same
some_setups (x ∷ xs) (suc i) m n e s = ap (λ (b : Bool). x.header.command == 1 || b) (some_setups xs i m n e s)

pub set_setups : (old new : List Checked) (at : ℕ) (a b : Checked) → slice_get old at ≡ Some a → new ≡ set old at b
    → b.header.command ≡ a.header.command → holds_setup new ≡ holds_setup old
set_setups old new at a b here is same = ap (λ (ms : List Checked). holds_setup ms) is ∙ some_setups old at a b here same

-- ---- what becomes of a message

pub stays : (y : Carry) (m : Checked) (bytes : List ℕ) (c : hearing.Checked) → m.related ≡ false → c.related ≡ m.related
    → IsCarried m bytes c → m.fails ≡ None
    → Inherits (related.turn_of (Some (carry_of y)) c) true (related.failed_as (Some (carry_of y)) c) m bytes
stays y m bytes c apart same is none =
    subst (λ (b : Bool). Inherits (if b then related.related_turn c (carry_of y) else related.Goes c) true
    (related.failed_as (Some (carry_of y)) c) m bytes) (sym (same ∙ apart)) (is, none)

-- the header that it tells
told : (y : Carry) (m n : Checked) (c : hearing.Checked) (goes : Bool) → c.header ≡ m.header → TakesOver m y goes n
    → n.header ≡ record c.header { session = y.session; tree = y.tree }
told y m n c goes same t = t.header ∙ ap (λ (h : Header). record h { session = y.session; tree = y.tree }) (sym same)

-- whether it goes its way
followed : (y : Carry) (m : Checked) (c : hearing.Checked) → c.header ≡ m.header → related.can_follow c (carry_of y) ≡ follows m y
followed y m c same = ap (λ (h : Header). not (is_some (related.file_place h.command)) || (y.status == 0)) same

pub fails : (y : Carry) (m n : Checked) (bytes new : List ℕ) (c : hearing.Checked) → m.related ≡ true → c.related ≡ m.related
    → IsCarried m bytes c → TakesOver m y false n → new ≡ bytes
    → Inherits (related.turn_of (Some (carry_of y)) c) false (related.failed_as (Some (carry_of y)) c) n new
fails y m n bytes new c is_related same is t kept =
    let same_follows : related.can_follow c (carry_of y) ≡ follows m y = followed y m c is.header in
    let failed : follows m y ≡ false = sym t.goes_is in
    let header : n.header ≡ record c.header { session = y.session; tree = y.tree } = told y m n c false is.header t in
    let status : n.fails ≡ Some y.status =
    t.fails ∙ ap (λ (b : Bool). if b then m.fails else Some y.status) failed in
    let shown : IsCarried n new (related.failed_as (Some (carry_of y)) c) = record {
      header = sym header;
      bytes_are = is.bytes_are ∙ sym kept;
      fault = is.fault ∙ sym t.fault;
      related = is.related ∙ sym t.related;
    } in
    subst (λ (b : Bool). Inherits (if b then related.related_turn c (carry_of y) else related.Goes c) false
    (related.failed_as (Some (carry_of y)) c) n new) (sym (same ∙ is_related))
    (subst (λ (b : Bool). Inherits (if b then related.Goes (related.with_ids c (carry_of y)) else related.Fails y.status) false
    (related.failed_as (Some (carry_of y)) c) n new) (sym (same_follows ∙ failed)) (shown, status))

pub goes : (y : Carry) (m n : Checked) (bytes new : List ℕ) (c : hearing.Checked) → m.related ≡ true → c.related ≡ m.related
    → IsCarried m bytes c → m.fails ≡ None → TakesOver m y true n → new ≡ related.with_file n.header.command y.file bytes
    → Inherits (related.turn_of (Some (carry_of y)) c) true (related.failed_as (Some (carry_of y)) c) n new
goes y m n bytes new c is_related same is none t made =
    let same_follows : related.can_follow c (carry_of y) ≡ follows m y = followed y m c is.header in
    let went : follows m y ≡ true = sym t.goes_is in
    let header : n.header ≡ record c.header { session = y.session; tree = y.tree } = told y m n c true is.header t in
    let command : n.header.command ≡ c.header.command = ap (λ (h : Header). h.command) header in
    let mine : related.with_file c.header.command y.file c.bytes ≡ new =
    ap (λ (b : List ℕ). related.with_file c.header.command y.file b) is.bytes_are
    ∙ (ap (λ (k : ℕ). related.with_file k y.file bytes) (sym command) ∙ sym made) in
    let status : n.fails ≡ None =
    t.fails ∙ (ap (λ (b : Bool). if b then m.fails else Some y.status) went ∙ none) in
    let shown : IsCarried n new (related.with_ids c (carry_of y)) = record {
      header = sym header;
      bytes_are = mine;
      fault = is.fault ∙ sym t.fault;
      related = is.related ∙ sym t.related;
    } in
    subst (λ (b : Bool). Inherits (if b then related.related_turn c (carry_of y) else related.Goes c) true
    (related.failed_as (Some (carry_of y)) c) n new) (sym (same ∙ is_related))
    (subst (λ (b : Bool). Inherits (if b then related.Goes (related.with_ids c (carry_of y)) else related.Fails y.status) true
    (related.failed_as (Some (carry_of y)) c) n new) (sym (same_follows ∙ went)) (shown, status))

-- ---- a frame in which one message changed, in its place

pub record Changes (at : ℕ) (old new : CheckedFrame) (m n : Checked) : Type 0 where
  pub was : slice_get old.messages.items at ≡ Some m
  pub list : new.messages.items ≡ set old.messages.items at n
  pub span : n.span ≡ m.span
  pub size : length new.bytes.items ≡ length old.bytes.items
  pub sealed : new.sealed ≡ old.sealed
  pub moment : new.moment ≡ old.moment
  pub bytes : (t : Span) → AreApart t m.span → t.start ≤ t.end → bytes_of new.bytes.items t ≡ bytes_of old.bytes.items t

pub is_there : (at : ℕ) (old new : CheckedFrame) (m n k : Checked) → at < length old.messages.items → Changes at old new m n
    → slice_get new.messages.items at ≡ Some k → n ≡ k
is_there at old new m n k less x e =
    some_same n k (sym (ap (λ (ms : List Checked). slice_get ms at) x.list ∙ set_here old.messages.items at n less) ∙ e)

pub others_of : (at : ℕ) (old new : CheckedFrame) (m n : Checked) → Changes at old new m n → SameOthers at old new
others_of at old new m n x = record {
  count = ap (λ (ms : List Checked). length ms) x.list ∙ set_long old.messages.items at n;
  size = x.size;
  sealed = x.sealed;
  moment = x.moment;
  messages = λ i k differs e.
      ap (λ (ms : List Checked). slice_get ms i) x.list ∙ (set_other old.messages.items at i n differs ∙ e);
  bytes = λ k o e apart order.
      x.bytes k.span (subst (λ (y : Checked). AreApart k.span y.span) (some_same o m (sym e ∙ x.was)) apart) order;
}

pub order_of : (at : ℕ) (old new : CheckedFrame) (m n : Checked) → Changes at old new m n → AreInOrder old → AreInOrder new
order_of at old new m n x order =
    let same : places_of new.messages.items ≡ places_of old.messages.items =
    ap (λ (ms : List Checked). places_of ms) x.list ∙ same_places old.messages.items at m n x.was x.span in
    subst (λ (k : ℕ). InOrder 0 k (places_of new.messages.items)) (sym x.size)
    (subst (λ (ps : List Span). InOrder 0 (length old.bytes.items) ps) (sym same) order)

-- the frame as it was
pub nothing : (at : ℕ) (x : CheckedFrame) → SameOthers at x x
nothing at x = record {
  count = refl;
  size = refl;
  sealed = refl;
  moment = refl;
  messages = λ i k differs e. e;
  bytes = λ k o e apart order. refl;
}

-- ---- the frame behind a message that was put in its place, and behind bytes that were put into it

pub changed : (at : ℕ) (x y : CheckedFrame) (a b : Checked) → slice_get x.messages.items at ≡ Some a
    → y.messages.items ≡ set x.messages.items at b → b.span ≡ a.span → y.bytes.items ≡ x.bytes.items → y.sealed ≡ x.sealed
    → y.moment ≡ x.moment → Changes at x y a b
changed at x y a b was list span bytes sealed moment = record {
  was = was;
  list = list;
  span = span;
  size = ap (λ (v : List ℕ). length v) bytes;
  sealed = sealed;
  moment = moment;
  bytes = λ t apart order. ap (λ (v : List ℕ). bytes_of v t) bytes;
}

put_apart : (s t : Span) (old new part : List ℕ) → s.start ≤ s.end → s.end ≤ length old → length part ≡ s.end - s.start
    → new ≡ take s.start old ++ (part ++ drop s.end old) → AreApart t s → t.start ≤ t.end → bytes_of new t ≡ bytes_of old t
put_apart s t old new part order inside long e (inl before) first = before_it s t old new part first before order inside e
put_apart s t old new part order inside long e (inr past) first = behind_it s t old new part past order inside long e

pub put_into : (at : ℕ) (x y w : CheckedFrame) (a b : Checked) (part : List ℕ) → Changes at x y a b → y.bytes.items ≡ x.bytes.items
    → w.messages.items ≡ y.messages.items → w.sealed ≡ y.sealed → w.moment ≡ y.moment
    → w.bytes.items ≡ take b.span.start y.bytes.items ++ (part ++ drop b.span.end y.bytes.items)
    → length w.bytes.items ≡ length y.bytes.items → b.span.start ≤ b.span.end → b.span.end ≤ length y.bytes.items
    → Changes at x w a b
put_into at x y w a b part c same list sealed moment put long order inside = record {
  was = c.was;
  list = list ∙ c.list;
  span = c.span;
  size = long ∙ c.size;
  sealed = sealed ∙ c.sealed;
  moment = moment ∙ c.moment;
  bytes = λ t apart first.
      put_apart b.span t y.bytes.items w.bytes.items part order inside (put_long b.span y.bytes.items w.bytes.items part
      order inside put long)
      put (subst (λ (s : Span). AreApart t s) (sym c.span) apart) first
      ∙ ap (λ (v : List ℕ). bytes_of v t) same;
}

-- ---- the three ends of a call

pub is_it : (x : CheckedFrame) (at : ℕ) (a m : Checked) → slice_get x.messages.items at ≡ Some a → slice_get x.messages.items at ≡ Some m
    → a ≡ m
is_it x at a m e f = some_same a m (sym e ∙ f)

pub ends_apart : (x : CheckedFrame) (at : ℕ) (y : Carry) (a m n : Checked) (c : hearing.Checked) → slice_get x.messages.items at ≡ Some a
    → a.related ≡ false → slice_get x.messages.items at ≡ Some m → slice_get x.messages.items at ≡ Some n
    → IsCarried m (message_in x.bytes.items m) c → c.related ≡ m.related → m.fails ≡ None
    → Inherits (related.turn_of (Some (carry_of y)) c) true (related.failed_as (Some (carry_of y)) c) n (message_in x.bytes.items n)
ends_apart x at y a m n c here apart is_m is_n is same none =
    let mine : m.related ≡ false = sym (ap (λ (k : Checked). k.related) (is_it x at a m here is_m)) ∙ apart in
    subst (λ (k : Checked). Inherits (related.turn_of (Some (carry_of y)) c) true (related.failed_as (Some (carry_of y)) c) k
    (message_in x.bytes.items k)) (is_it x at m n is_m is_n) (stays y m (message_in x.bytes.items m) c mine same is none)

pub ends_failed : (x w : CheckedFrame) (at : ℕ) (y : Carry) (a b m n : Checked) (c : hearing.Checked) → at < length x.messages.items
    → Changes at x w a b → a.related ≡ true → TakesOver a y false b → w.bytes.items ≡ x.bytes.items
    → slice_get x.messages.items at ≡ Some m → slice_get w.messages.items at ≡ Some n → IsCarried m (message_in x.bytes.items m) c
    → c.related ≡ m.related
    → Inherits (related.turn_of (Some (carry_of y)) c) false (related.failed_as (Some (carry_of y)) c) n (message_in w.bytes.items n)
ends_failed x w at y a b m n c less moved is_related over bytes is_m is_n is same =
    let e : m ≡ a = sym (is_it x at a m moved.was is_m) in
    let mine : IsCarried a (message_in x.bytes.items a) c =
    subst (λ (k : Checked). IsCarried k (message_in x.bytes.items k) c) e is in
    let linked : c.related ≡ a.related = same ∙ ap (λ (k : Checked). k.related) e in
    let kept : message_in w.bytes.items b ≡ message_in x.bytes.items a =
    ap (λ (t : List ℕ). bytes_of t b.span) bytes ∙ ap (λ (s : Span). bytes_of x.bytes.items s) over.span in
    subst (λ (k : Checked). Inherits (related.turn_of (Some (carry_of y)) c) false (related.failed_as (Some (carry_of y)) c) k
    (message_in w.bytes.items k)) (is_there at x w a b n less moved is_n)
    (fails y a b (message_in x.bytes.items a) (message_in w.bytes.items b) c is_related linked mine over kept)

pub ends_well : (x v w : CheckedFrame) (at : ℕ) (y : Carry) (a b m n : Checked) (c : hearing.Checked) → at < length x.messages.items
    → Changes at x w a b → a.related ≡ true → TakesOver a y true b → v.bytes.items ≡ x.bytes.items
    → w.bytes.items ≡ take b.span.start v.bytes.items
    ++ (related.with_file b.header.command y.file (bytes_of v.bytes.items b.span) ++ drop b.span.end v.bytes.items)
    → length w.bytes.items ≡ length v.bytes.items → b.span.start ≤ b.span.end → b.span.end ≤ length v.bytes.items
    → slice_get x.messages.items at ≡ Some m → slice_get w.messages.items at ≡ Some n → IsCarried m (message_in x.bytes.items m) c
    → c.related ≡ m.related → m.fails ≡ None
    → Inherits (related.turn_of (Some (carry_of y)) c) true (related.failed_as (Some (carry_of y)) c) n (message_in w.bytes.items n)
ends_well x v w at y a b m n c less moved is_related over bytes put long order inside is_m is_n is same none =
    let e : m ≡ a = sym (is_it x at a m moved.was is_m) in
    let mine : IsCarried a (message_in x.bytes.items a) c =
    subst (λ (k : Checked). IsCarried k (message_in x.bytes.items k) c) e is in
    let linked : c.related ≡ a.related = same ∙ ap (λ (k : Checked). k.related) e in
    let well : a.fails ≡ None = sym (ap (λ (k : Checked). k.fails) e) ∙ none in
    let part = related.with_file b.header.command y.file (bytes_of v.bytes.items b.span) in
    let size : length part ≡ b.span.end - b.span.start = put_long b.span v.bytes.items w.bytes.items part order inside put long in
    let there : bytes_of w.bytes.items b.span ≡ part = itself b.span v.bytes.items w.bytes.items part order inside size put in
    let old : bytes_of v.bytes.items b.span ≡ message_in x.bytes.items a =
    ap (λ (t : List ℕ). bytes_of t b.span) bytes ∙ ap (λ (s : Span). bytes_of x.bytes.items s) over.span in
    let made : message_in w.bytes.items b ≡ related.with_file b.header.command y.file (message_in x.bytes.items a) =
    there ∙ ap (λ (t : List ℕ). related.with_file b.header.command y.file t) old in
    subst (λ (k : Checked). Inherits (related.turn_of (Some (carry_of y)) c) true (related.failed_as (Some (carry_of y)) c) k
    (message_in w.bytes.items k)) (is_there at x w a b n less moved is_n)
    (goes y a b (message_in x.bytes.items a) (message_in w.bytes.items b) c is_related linked mine well over made)

-- the place and the relation of what stands there
pub stays_there : (x w : CheckedFrame) (at : ℕ) (y : Carry) (goes : Bool) (a b m n : Checked) → at < length x.messages.items
    → Changes at x w a b → TakesOver a y goes b → slice_get x.messages.items at ≡ Some m → slice_get w.messages.items at ≡ Some n
    → (n.span ≡ m.span) × (n.related ≡ m.related)
stays_there x w at y goes a b m n less moved over is_m is_n =
    let e : a ≡ m = is_it x at a m moved.was is_m in
    let f : n ≡ b = sym (is_there at x w a b n less moved is_n) in (
      ap (λ (k : Checked). k.span) f ∙ (over.span ∙ ap (λ (k : Checked). k.span) e),
      ap (λ (k : Checked). k.related) f ∙ (over.related ∙ ap (λ (k : Checked). k.related) e),
    )

pub stays_same : (x : CheckedFrame) (at : ℕ) (m n : Checked) → slice_get x.messages.items at ≡ Some m
    → slice_get x.messages.items at ≡ Some n → (n.span ≡ m.span) × (n.related ≡ m.related)
stays_same x at m n is_m is_n =
    let e : n ≡ m = is_it x at n m is_n is_m in (ap (λ (k : Checked). k.span) e, ap (λ (k : Checked). k.related) e)

-- a message's place, as it was and as it is told
pub inside_of : (x : CheckedFrame) (at : ℕ) (a : Checked) (s : Span) (bytes : List ℕ) → HasMessage x at
    → slice_get x.messages.items at ≡ Some a → s ≡ a.span → bytes ≡ x.bytes.items → (s.start ≤ s.end) × (s.end ≤ length bytes)
inside_of x at a s bytes has here is same =
    let e : s ≡ has.0.span = is ∙ ap (λ (k : Checked). k.span) (is_it x at a has.0 here has.1) in
    let start : s.start ≡ has.0.span.start = ap (λ (p : Span). p.start) e in
    let end : s.end ≡ has.0.span.end = ap (λ (p : Span). p.end) e in
    let size : length bytes ≡ length x.bytes.items = ap (λ (b : List ℕ). length b) same in
    let whole : has.0.span.start + 64 ≤ has.0.span.end = has.2 in
    let last : has.0.span.end ≤ length x.bytes.items = has.3 in
    (omega (arith, start, end, whole), omega (arith, end, size, last))

-- a message as the code looks at it, with its bytes
pub looked_at : (x : CheckedFrame) (at : ℕ) (a m : Checked) (bytes : List ℕ) (c : hearing.Checked) → slice_get x.messages.items at ≡ Some a
    → slice_get x.messages.items at ≡ Some m → bytes ≡ message_in x.bytes.items m → IsCarried m (message_in x.bytes.items m) c
    → IsCarried a bytes c
looked_at x at a m bytes c here is_m same is =
    subst (λ (b : List ℕ). IsCarried a b c) (sym same)
    (subst (λ (k : Checked). IsCarried k (message_in x.bytes.items m) c) (sym (is_it x at a m here is_m)) is)
