-- The front and its connection, among all.
use Rattle.std.proofs.Common.{◌≡◌, ℕ, ◌≤◌, ◌==◌, not, true, ap, subst, ◌∙◌, arith, List, [], ◌∷◌, length, set, get_or}
use Rattle.std.proofs.Common.{Bool, Option, Some, None, IfSome, Result, Ok, Err, OnOk, MatchResult}
use Rattle.conn_core.specs.Shown.{ShowsEnd}
use Rattle.conn_core.specs.declared.conn.Conn.{Conn}
use Rattle.spec_exchange.specs.Network.{Sent}
use Rattle.spec_exchange.specs.Table.{is_filled}
use Rattle.spec_crypto.specs.sessions.Nonces.{last_counter}
use Rattle.spec_world.specs.Ends.{ServerEnd}
use Rattle.world_ends.specs.Channels.{AreUp, ShowsServerSide}
use Rattle.world_ends.specs.declared.sides.Channel.{Channel}
use Rattle.world_ends.specs.declared.sides.Up.{Up}
use Rattle.world_steps.proofs.Setting.{one_set}
use Rattle.world_steps.specs.Lists.{ChangedAt, ClosesServer}
use Rattle.world_steps.specs.serving.Fronted.{FrontTaken, FrontGoesOn}
use Rattle.world_steps.specs.declared.serving.fronts.Front.{Front}
use Rattle.world_steps.proofs.serving.Puts.{other_number}

pub some_with : {X : Type 0} {P Q : X → Type 0} (o : Option X) → ((x : X) → P x → Q x) → IfSome o P → IfSome o Q
some_with (Some x) f h = f x h
some_with None f h = h

pub ok_with : {T E : Type 0} {P Q : Type 0} (r : Result T E) → (P → Q) → OnOk r P → OnOk r Q
ok_with (Ok x) f h = f h
ok_with (Err e) f h = h

none_empty : {X : Type 0} (x : X) (xs : List X) (n : ℕ) → n ≡ length (x ∷ xs) → n ≡ 0 → ⊥
none_empty x xs n e d = omega (arith, e, d)

-- whether a list is empty, by its length
pub filled_by : {X : Type 0} (xs : List X) (n : ℕ) → n ≡ length xs → not (n == 0) ≡ is_filled xs
unfolding is_filled
filled_by [] n e = ap (λ (k : ℕ). not (k == 0)) e
filled_by (x ∷ xs) n e = ap not (other_number n 0 (none_empty x xs n e))

pub result_on : {T E : Type 0} {P Q : T → Type 0} (R : E → Type 0) (r : Result T E) → ((x : T) → P x → Q x) → MatchResult r P R
    → MatchResult r Q R
result_on R (Ok x) f h = f x h
result_on R (Err e) f h = h

-- ---- two changes of one connection

-- the one at a place is written
pub one_put : (R : Channel → Channel → Type 0) (k : ℕ) (xs : List Channel) (old v : Channel) → old ≡ get_or xs k old → R old v
    → ChangedAt R k xs (set xs k v)
one_put R k xs old v is r = one_set R k xs v old (subst (λ (u : Channel). R u v) is r)

pub changed_twice : (P Q R : Channel → Channel → Type 0) (k : ℕ) (xs ys zs : List Channel)
    → ((x y v : Channel) → P x y → Q y v → R x v) → ChangedAt P k xs ys → ChangedAt Q k ys zs → ChangedAt R k xs zs
changed_twice P Q R k xs ys zs join p q = record {
  counted = q.counted ∙ p.counted;
  here = λ x e. (let one = p.here x e in let two = q.here one.0 one.1 in (two.0, two.1, join x one.0 two.0 one.2 two.2));
  there = λ j other. q.there j other ∙ p.there j other;
}

-- it closes
pub closes : (f : Front) (x y v : Channel) → FrontTaken x f y → ClosesServer y v → ClosesServer x v
closes f x y v p q = record {
  client = q.client ∙ p.client;
  server = q.server;
  up = q.up;
  down = q.down ∙ p.down;
}

-- or it goes on, and its client's end is as it was
pub record Passes (f : Front) (conn : Conn) (place : ℕ) (answer : List ℕ) (x v : Channel) : Type 0 where
  pub mid : Channel
  pub taken : FrontTaken x f mid
  pub goes : FrontGoesOn mid conn place answer v

pub passes : (f : Front) (conn : Conn) (place : ℕ) (answer : List ℕ) (x y v : Channel) → FrontTaken x f y
    → FrontGoesOn y conn place answer v
    → Passes f conn place answer x v
passes f conn place answer x y v p q = record { mid = y; taken = p; goes = q }

-- ---- what is known of the front

pub record IsFront (k : ℕ) (guid : List ℕ) (taken : ℕ) (there : Bool) (e : ServerEnd) (bs : List (List ℕ)) (xs : List Sent) (f : Front)
    (us : List Up) : Type 0 where
  pub is_there : there ≡ true
  pub shown : ShowsEnd k guid f.conn e
  pub bound : e.counter ≤ last_counter
  pub up : AreUp taken (f.up ∷ us) bs xs

pub front_is : (k : ℕ) (guid : List ℕ) (taken : ℕ) (there : Bool) (e : ServerEnd) (bs : List (List ℕ)) (xs : List Sent) (x : Channel)
    (f : Front) (y : Channel) → FrontTaken x f y → ShowsServerSide k guid there e x.server → AreUp taken x.up.items bs xs
    → IsFront k guid taken there e bs xs f y.up.items
front_is k guid taken there e bs xs x f y r server up =
    let s : ShowsServerSide k guid there e (Some f.conn) = subst (λ (o : Option Conn). ShowsServerSide k guid there e o) r.conn server in
    record {
      is_there = s.0;
      shown = s.1;
      bound = s.2;
      up = subst (λ (l : List Up). AreUp taken l bs xs) r.up up;
    }
