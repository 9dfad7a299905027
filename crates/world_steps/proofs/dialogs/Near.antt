-- What other connections see of the client behind a step of a dialog, and lists and tables of which one place changes.
use Rattle.std.proofs.Common.{◌≡◌, ℕ, ◌<◌, ◌==◌, Bool, true, false, if◌then◌else◌, refl, sym, ap, ◌∙◌, arith}
use Rattle.std.proofs.Common.{List, length, get_or, set, slice_get, Option, Some, None}
use Rattle.std.proofs.lemmas.Option.{slice_get-get_or}
use Rattle.std.proofs.Math.ListN.{length-set}
use Rattle.std.proofs.lemmas.Bool.Decides.{nat_tests}
use Rattle.spec_exchange.specs.Network.{Conn as Link}
use Rattle.spec_exchange.specs.Table.{put}
use Rattle.client_ends.specs.declared.ends.config.Bound.{Bound}
use Rattle.client_ends.specs.declared.ends.config.ClientConfig.{ClientConfig}
use Rattle.client_ends.specs.declared.ends.dialog.Dialog.{Dialog}
use Rattle.spec_crypto.specs.declared.sessions.material.Keys.{Keys}
use Rattle.spec_world.specs.Ends.{ClientEnd}
use Rattle.spec_world.specs.World.{Wires}
use Rattle.world_ends.specs.Channels.{IsChannelFor, ChannelSeen, ShowsChannel, ShowsClientSide}
use Rattle.world_ends.specs.declared.sides.Channel.{Channel}
use Rattle.world_ends.specs.declared.sides.ClientSide.{ClientSide}
use Rattle.world_ends.specs.declared.sides.ClientSide.TheVariants.{Closed, Talks, Ready}
use Rattle.world_steps.specs.opening.Putting.{Becomes}
use Rattle.world_steps.specs.Lists.{ChangedAt}
use Rattle.world_steps.proofs.Setting.{one_set}

-- ---- another connection, on which no session is in the making; a binding's session stays

pub record Near (j : ℕ) (c d : ChannelSeen) : Type 0 where
  pub making : c.making ≡ Some j → ⊥
  pub ready : d.ready j ≡ c.ready j
  pub stage : d.stage j ≡ c.stage j
  pub live : c.live ≡ true → d.live ≡ true
  pub session : c.live ≡ true → d.session ≡ c.session
  pub tree : c.live ≡ true → d.tree ≡ c.tree

own_near : (j : ℕ) (keys : Keys) (c d : ChannelSeen) (x : Dialog) (o : Option Bound) → Near j c d
    → IsChannelFor j keys c x o → IsChannelFor j keys d x o
own_near j keys c d x None a h = absurd (a.making h.making)
own_near j keys c d x (Some b) a h = record {
  live = a.live h.live;
  session = h.session ∙ sym (a.session h.live);
  tree = h.tree ∙ sym (a.tree h.live);
  keys_are = h.keys_are;
  known = h.known;
}

side_near : (j : ℕ) (s : ClientConfig) (keys : Keys) (c d : ChannelSeen) (there : Bool) (n : ClientEnd) (v : ClientSide) → Near j c d
    → ShowsClientSide j s keys c there n v → ShowsClientSide j s keys d there n v
side_near j s keys c d there n Closed a h = (h.0, a.ready ∙ h.1)
side_near j s keys c d there n (Talks x) a h = (
  h.0,
  record {
    goes_on = h.1.goes_on;
    shown = h.1.shown;
    stage = a.stage ∙ h.1.stage;
    unready = a.ready ∙ h.1.unready;
    config = h.1.config;
    own = own_near j keys c d x x.bound a h.1.own;
  },
)
side_near j s keys c d there n (Ready l) a h = (
  h.0,
  record {
    shown = h.1.shown;
    over = h.1.over;
    apart = a.stage ∙ h.1.apart;
    ready = a.ready ∙ h.1.ready;
  },
)

pub seen_near : (j : ℕ) (s : ClientConfig) (guid : List ℕ) (keys : Keys) (t : ℕ) (c d : ChannelSeen) (i : Link) (u : Wires) (x : Channel)
    → Near j c d → ShowsChannel j s guid keys t c i u x → ShowsChannel j s guid keys t d i u x
seen_near j s guid keys t c d i u x a h = record {
  client = side_near j s keys c d i.client_open u.client_end x.client a h.client;
  server = h.server;
  up = h.up;
  down = h.down;
}

-- ---- a table of which one place changes twice, or becomes what it was

same_number : (n k : ℕ) → (n == k) ≡ true → n ≡ k
same_number n k h = grind (arith, nat_tests)

own_number : (n : ℕ) → (n == n) ≡ true
own_number n = grind (arith, nat_tests)

pub put_here : {X : Type 0} (f : ℕ → X) (k : ℕ) (v : X) → put f k v k ≡ v
put_here f k v = ap (λ (b : Bool). if b then v else f k) (own_number k)

other_number : (n k : ℕ) → (n ≡ k → ⊥) → (n == k) ≡ false
other_number n k h = grind (arith, nat_tests)

pub put_there : {X : Type 0} (f : ℕ → X) (k : ℕ) (v : X) (j : ℕ) → (j ≡ k → ⊥) → put f k v j ≡ f j
put_there f k v j other = ap (λ (b : Bool). if b then v else f j) (other_number j k other)

last_by : {X : Type 0} (b : Bool) (p q r : X) → (if b then p else (if b then q else r)) ≡ (if b then p else r)
last_by true p q r = refl
last_by false p q r = refl

pub put_last : {X : Type 0} (f : ℕ → X) (k : ℕ) (u v : X) → put (put f k u) k v ≡ put f k v
put_last f k u v = λ t. λ j. last_by (j == k) v u (f j) t

same_by : {X : Type 0} (b : Bool) (f : ℕ → X) (j k : ℕ) → (b ≡ true → j ≡ k) → (if b then f k else f j) ≡ f j
same_by true f j k e = ap f (sym (e refl))
same_by false f j k e = refl

pub put_same : {X : Type 0} (f : ℕ → X) (k : ℕ) → put f k (f k) ≡ f
put_same f k = λ t. λ j. same_by (j == k) f j k (same_number j k) t

-- ---- connections of which one is taken out and becomes another one

pub set_becomes : (k : ℕ) (xs : List Channel) (p : Channel) → ChangedAt (Becomes p) k xs (set xs k p)
set_becomes k xs p = one_set (Becomes p) k xs p p refl

pub both_changed : (k : ℕ) (xs ys zs : List Channel) (x p blank v : Channel) → slice_get xs k ≡ Some x → ChangedAt (Becomes blank) k xs ys
    → ChangedAt (Becomes v) k ys zs → ChangedAt (Becomes v) k (set xs k p) zs
both_changed k xs ys zs x p blank v e out placed =
    let mid = out.here x e in
    record {
      counted = placed.counted ∙ (out.counted ∙ sym (length-set xs k p));
      here = λ q f. placed.here mid.0 mid.1;
      there = λ j other. placed.there j other ∙ (out.there j other ∙ sym ((set_becomes k xs p).there j other));
    }

-- the one at a place that there is
pub there_is : (xs : List Channel) (k : ℕ) (x d : Channel) → k < length xs → x ≡ get_or xs k d → slice_get xs k ≡ Some x
there_is xs k x d l e = slice_get-get_or xs k d l ∙ ap (λ (v : Channel). Some v) (sym e)
