-- Tables that are written twice at one place, and connections that are the same one by one.
use Rattle.std.proofs.Common.{◌≡◌, ℕ, ◌==◌, Bool, true, false, if◌then◌else◌, refl, sym, ap, subst, ◌∙◌, arith, List}
use Rattle.std.proofs.lemmas.Bool.Decides.{nat_tests}
use Rattle.spec_exchange.specs.Network.{Conn as Link}
use Rattle.spec_exchange.specs.Table.{put}
use Rattle.client_ends.specs.declared.ends.config.ClientConfig.{ClientConfig}
use Rattle.spec_crypto.specs.declared.sessions.material.Keys.{Keys}
use Rattle.spec_world.specs.World.{Wires}
use Rattle.world_ends.specs.Channels.{ChannelSeen, ShowsChannel, ShowsChannels}
use Rattle.world_ends.specs.declared.sides.Channel.{Channel}

pub own_number : (n : ℕ) → (n == n) ≡ true
own_number n = grind (arith, nat_tests)

pub same_number : (n k : ℕ) → (n == k) ≡ true → n ≡ k
same_number n k h = grind (arith, nat_tests)

pub other_number : (n k : ℕ) → (n ≡ k → ⊥) → (n == k) ≡ false
other_number n k h = grind (arith, nat_tests)

pub put_own : {X : Type 0} (f : ℕ → X) (k : ℕ) (v : X) → put f k v k ≡ v
put_own f k v = ap (λ (b : Bool). if b then v else f k) (own_number k)

pub put_other : {X : Type 0} (f : ℕ → X) (k : ℕ) (v : X) (j : ℕ) → (j ≡ k → ⊥) → put f k v j ≡ f j
put_other f k v j other = ap (λ (b : Bool). if b then v else f j) (other_number j k other)

over : {X : Type 0} (b : Bool) (u v a : X) → (if b then v else (if b then u else a)) ≡ (if b then v else a)
over true u v a = refl
over false u v a = refl

pub put_twice : {X : Type 0} (f : ℕ → X) (k : ℕ) (u v : X) (j : ℕ) → put (put f k u) k v j ≡ put f k v j
put_twice f k u v j = over (j == k) u v (f j)

same_by : {X : Type 0} (b : Bool) (v a : X) → (b ≡ true → a ≡ v) → a ≡ (if b then v else a)
same_by true v a e = e refl
same_by false v a e = refl

-- what stands there is written
pub put_same : {X : Type 0} (f : ℕ → X) (k : ℕ) (v : X) (j : ℕ) → f k ≡ v → f j ≡ put f k v j
put_same f k v j e = same_by (j == k) v (f j) (λ b. ap f (same_number j k b) ∙ e)

pub channels_alike : (s : ClientConfig) (guid : List ℕ) (keys : Keys) (t : ℕ) (c : ChannelSeen) (conns other : ℕ → Link)
    (wires others : ℕ → Wires)
    (xs : List Channel) → ((j : ℕ) → other j ≡ conns j) → ((j : ℕ) → others j ≡ wires j)
    → ShowsChannels s guid keys t c conns wires xs → ShowsChannels s guid keys t c other others xs
channels_alike s guid keys t c conns other wires others xs links lines h = record {
  counted = h.counted;
  each = λ j y e. subst (λ (i : Link). ShowsChannel j s guid keys t c i (others j) y) (sym (links j))
      (subst (λ (u : Wires). ShowsChannel j s guid keys t c (conns j) u y) (sym (lines j)) (h.each j y e));
  beyond = λ j e. subst (λ (i : Link). (i.client_open ≡ false) × (i.server_open ≡ false) × (c.ready j ≡ false))
      (sym (links j)) (h.beyond j e);
}

-- what is written there is read and written again
pub put_over : {X : Type 0} (g : X → X) (f old : ℕ → X) (k : ℕ) (u : X) → f ≡ put old k u → (j : ℕ)
    → put f k (g (f k)) j ≡ put old k (g u) j
put_over {X = X} g f old k u e j =
    ap (λ (c : ℕ → X). put c k (g (c k)) j) e ∙ (put_twice old k u (g (put old k u k)) j
    ∙ ap (λ (v : X). put old k (g v) j) (put_own old k u))

through : {X : Type 0} (g : X → X) → ((u : X) → g (g u) ≡ g u) → (b : Bool) (u v : X) → g (if b then u else v) ≡ g (if b then g u else v)
through g same true u v = sym (same u)
through g same false u v = refl

pub put_through : {X : Type 0} (g : X → X) → ((u : X) → g (g u) ≡ g u) → (f : ℕ → X) (k : ℕ) (u : X) (j : ℕ)
    → g (put f k u j) ≡ g (put f k (g u) j)
put_through g same f k u j = through g same (j == k) u (f j)
