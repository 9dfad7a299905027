-- What each kind of change leaves of it: none, an end that closes, a dialog that goes on, and a channel that becomes ready.
use Rattle.std.proofs.Common.{◌≡◌, ℕ, ◌+◌, ◌<◌, ◌≤◌, ◌==◌, Bool, true, false, if◌then◌else◌, refl, sym, ap, ◌∙◌, subst, eqb-true}
use Rattle.std.proofs.Common.{arith, Some, None, List, [], ◌∷◌, ◌++◌, ◌⊎◌, inl, inr, slice_get, zero, suc}
use Rattle.spec_exchange.specs.Table.{put}
use Rattle.spec_exchange.specs.Client.{Stage, Apart, AskedTree}
use Rattle.spec_crypto.specs.declared.sessions.material.Signer.{Signer}
use Rattle.spec_world.specs.Ends.{ClientEnd}
use Rattle.spec_world.specs.Answering.{Ending}
use Rattle.spec_world.specs.World.{World}
use Rattle.spec_world.specs.Statements.{signer_of_ending, NumbersRise}
use Rattle.law_ties.specs.channel_numbers.Counted.{makes_new, binds, Counted}

-- ---- tables

pub by_key : (P : ℕ → Type 0) (k : ℕ) → P k → ((j : ℕ) → (j == k) ≡ false → P j) → (j : ℕ) → P j
by_key P k here there j = elim (j == k) as (λ b. j == k ≡ b → P j) [
  | true ↦ λ e. subst P (sym (eqb-true j k e)) here
  | false ↦ λ e. there j e
] refl

pub put_same : {X : Type 0} (f : ℕ → X) (k : ℕ) (v : X) → put f k v k ≡ v
put_same f k v = grind arith

pub put_other : {X : Type 0} (f : ℕ → X) (k j : ℕ) (v : X) → (j == k) ≡ false → put f k v j ≡ f j
put_other f k j v e = ap (λ b. if b then v else f j) e

-- a change that a field doesn't see
pub put_field : {X Y : Type 0} (g : X → Y) (f : ℕ → X) (k : ℕ) (v : X) → g v ≡ g (f k) → (j : ℕ) → g (put f k v j) ≡ g (f j)
put_field g f k v e j = elim (j == k) as (λ b. j == k ≡ b → g (if b then v else f j) ≡ g (f j)) [
  | true ↦ λ q. subst (λ i. g v ≡ g (f i)) (sym (eqb-true j k q)) e
  | false ↦ λ q. refl
] refl

pub same_key : (j k : ℕ) → j ≡ k → (j == k) ≡ true
same_key j k e = grind arith

pub not_both : {P : Type 0} (b : Bool) → b ≡ true → b ≡ false → P
not_both b e f = absurd (let h : true ≡ false = sym e ∙ f in cc)

-- ---- what an end remembers of its logon

pub record Remembered : Type 0 where
  pub transcript : List (List ℕ)
  pub base : List ℕ
  pub signing : Signer

abbrev pub remembered : ClientEnd → Remembered
remembered n = record { transcript = n.transcript; base = n.base; signing = n.keys.signing }

-- an accepted final response is that logon's
abbrev pub IsKeptIn : List Ending → Remembered → Type 0
IsKeptIn accepted r =
    (i : ℕ) × (a : Ending) × (slice_get accepted i ≡ Some a) × (a.transcript ≡ r.transcript) × (a.base ≡ r.base)
    × (signer_of_ending a ≡ r.signing)

-- of a ready channel, and of a session whose TREE_CONNECT was asked
abbrev pub HasKeys : World → ℕ → Type 0
HasKeys w k = (w.values.client.ready k ≡ true) ⊎ (w.values.client.stage k ≡ AskedTree)

abbrev pub KeptAt : World → ℕ → Type 0
KeptAt w k = IsKeptIn w.accepted (remembered (w.wires k).client_end)

abbrev pub AreKept : World → Type 0
AreKept w = (k : ℕ) → HasKeys w k → KeptAt w k

found_more : (xs ys : List Ending) (i : ℕ) (a : Ending) → slice_get xs i ≡ Some a → slice_get (xs ++ ys) i ≡ Some a
found_more [] ys zero a e = absurd (let q : None ≡ Some a = e in cc)
found_more [] ys (suc i) a e = absurd (let q : None ≡ Some a = e in cc)
found_more (x ∷ xs) ys zero a e = e
found_more (x ∷ xs) ys (suc i) a e = found_more xs ys i a e

last_found : (xs : List Ending) (y : Ending) → (i : ℕ) × (slice_get (xs ++ y ∷ []) i ≡ Some y)
last_found [] y = (zero, refl)
last_found (x ∷ xs) y = (let r = last_found xs y in (suc r.0, r.1))

pub kept_more : (xs : List Ending) (y : Ending) (r : Remembered) → IsKeptIn xs r → IsKeptIn (xs ++ y ∷ []) r
kept_more xs y r k = (k.0, k.1, found_more xs (y ∷ []) k.0 k.1 k.2, k.3, k.4, k.5)

-- the last one is its own
pub kept_last : (xs : List Ending) (y : Ending) (r : Remembered) → y.transcript ≡ r.transcript → y.base ≡ r.base
    → signer_of_ending y ≡ r.signing → IsKeptIn (xs ++ y ∷ []) r
kept_last xs y r t b s = (let f = last_found xs y in (f.0, y, f.1, t, b, s))

carried : (xs ys : List Ending) (r t : Remembered) → ys ≡ xs → t ≡ r → IsKeptIn xs r → IsKeptIn ys t
carried xs ys r t e f k = subst (λ v. IsKeptIn v t) (sym e) (subst (λ v. IsKeptIn xs v) (sym f) k)

-- by whether its channel is ready
pub no_keys_at : {P : Type 0} (w : World) (k : ℕ) → w.values.client.ready k ≡ false → (w.values.client.stage k ≡ AskedTree → ⊥)
    → HasKeys w k → P
no_keys_at w k idle off (inl e) = not_both (w.values.client.ready k) e idle
no_keys_at w k idle off (inr e) = absurd (off e)

-- ---- nothing of it changes

pub record Unmoved (w v : World) : Type 0 where
  pub live : v.values.client.live ≡ w.values.client.live
  pub making : v.values.client.making ≡ w.values.client.making
  pub ready : (k : ℕ) → v.values.client.ready k ≡ w.values.client.ready k
  pub stage : (k : ℕ) → v.values.client.stage k ≡ w.values.client.stage k
  pub is_open : (k : ℕ) → (v.values.conns k).client_open ≡ (w.values.conns k).client_open
  pub end_stage : (k : ℕ) → (v.wires k).client_end.stage ≡ (w.wires k).client_end.stage
  pub channel : (k : ℕ) → (v.wires k).client_end.channel ≡ (w.wires k).client_end.channel
  pub ends : (k : ℕ) → remembered (v.wires k).client_end ≡ remembered (w.wires k).client_end
  pub numbers : v.numbers ≡ w.numbers
  pub accepted : v.accepted ≡ w.accepted

pub record Next (w v : World) : Type 0 where
  pub counted : Counted v
  pub rises : NumbersRise w v
  pub kept : AreKept w → AreKept v

kept_unmoved : (w v : World) → Unmoved w v → AreKept w → AreKept v
kept_unmoved w v u old k h =
    carried w.accepted v.accepted (remembered (w.wires k).client_end) (remembered (v.wires k).client_end) u.accepted (u.ends k)
    (old k (before h))
  where
    before : HasKeys v k → HasKeys w k
    before (inl e) = inl (sym (u.ready k) ∙ e)
    before (inr e) = inr (sym (u.stage k) ∙ e)

-- what is unmoved before or behind it doesn't count
pub rises_from : (w v f : World) → Unmoved w v → NumbersRise v f → NumbersRise w f
rises_from w v f u r = record {
  first = λ k dead e. r.first k (u.live ∙ dead) e;
  kept = λ live more. (let g = r.kept (u.live ∙ live) more in let e = u.numbers in omega (arith, g, e));
  further = λ k live old e. (let g = r.further k (u.live ∙ live) (u.ready k ∙ old) e in
      let less = g.0 in let a = u.numbers in (omega (arith, less, a), g.1));
}

pub rises_to : (w v f : World) → Unmoved v f → NumbersRise w v → NumbersRise w f
rises_to w v f u r = record {
  first = λ k dead e. u.channel k ∙ r.first k dead (sym (u.ready k) ∙ e);
  kept = λ live more. (let g = r.kept live (sym u.live ∙ more) in let e = u.numbers in omega (arith, g, e));
  further = λ k live old e. (let g = r.further k live old (sym (u.ready k) ∙ e) in
      let less = g.0 in let a = u.numbers in (omega (arith, less, a), u.channel k ∙ (g.1 ∙ sym a)));
}

-- no channel becomes ready, and no number is given
pub rises_still : (w v : World) → Counted w → ((k : ℕ) → v.values.client.ready k ≡ true → w.values.client.ready k ≡ true)
    → v.numbers ≡ w.numbers → NumbersRise w v
rises_still w v i ready same = record {
  first = λ k dead e. not_both (w.values.client.ready k) (ready k e) (i.none_ready dead k);
  kept = λ live more. (let e = same in omega (arith, e));
  further = λ k live old e. not_both (w.values.client.ready k) (ready k e) old;
}

pub unmoved : (w v : World) → Unmoved w v → Counted w → Next w v
unmoved w v u i =
    let c = w.values.client in record {
      counted = record {
        making = λ k e. u.making ∙ i.making k (ap makes_new (sym (u.stage k)) ∙ e);
        not_live = λ k e. u.live ∙ i.not_live k (sym u.making ∙ e);
        none_ready = λ e k. u.ready k ∙ i.none_ready (sym u.live ∙ e) k;
        none_binds = λ e k. ap binds (u.stage k) ∙ i.none_binds (sym u.live ∙ e) k;
        apart = λ k e. (let a = i.apart k (sym (u.ready k) ∙ e) in (u.stage k ∙ a.0, u.is_open k ∙ a.1));
        stages = λ k e. u.end_stage k ∙ (i.stages k (sym (u.is_open k) ∙ e) ∙ sym (u.stage k));
        given = λ k e. (let g = i.given k (sym (u.ready k) ∙ e) in let a = u.channel k in let b = u.numbers in omega (arith, g, a, b));
        own = λ j k a b e. i.own j k (sym (u.ready j) ∙ a) (sym (u.ready k) ∙ b) (sym (u.channel j) ∙ (e ∙ u.channel k));
        asked = λ k e. (let a = i.asked k (sym (u.stage k) ∙ e) in (u.channel k ∙ a.0, u.numbers ∙ a.1));
      };
      rises = rises_still w v i (λ k e. sym (u.ready k) ∙ e) u.numbers;
      kept = kept_unmoved w v u;
    }

pub unmoved_then : (w v f : World) → Unmoved v f → Next w v → Next w f
unmoved_then w v f u n =
    let next = unmoved v f u n.counted in
    record { counted = next.counted; rises = rises_to w v f u n.rises; kept = λ old. next.kept (n.kept old) }

pub then_next : (w v f : World) → Unmoved w v → Next v f → Next w f
then_next w v f u n =
    record { counted = n.counted; rises = rises_from w v f u n.rises; kept = λ old. n.kept (kept_unmoved w v u old) }

-- ---- the other connections stay as they are

pub record Elsewhere (w v : World) (k : ℕ) : Type 0 where
  pub ready : (j : ℕ) → (j == k) ≡ false → v.values.client.ready j ≡ w.values.client.ready j
  pub stage : (j : ℕ) → (j == k) ≡ false → v.values.client.stage j ≡ w.values.client.stage j
  pub is_open : (j : ℕ) → (j == k) ≡ false → (v.values.conns j).client_open ≡ (w.values.conns j).client_open
  pub end_stage : (j : ℕ) → (j == k) ≡ false → (v.wires j).client_end.stage ≡ (w.wires j).client_end.stage
  pub channel : (j : ℕ) → (j == k) ≡ false → (v.wires j).client_end.channel ≡ (w.wires j).client_end.channel
  pub ends : (j : ℕ) → (j == k) ≡ false → remembered (v.wires j).client_end ≡ remembered (w.wires j).client_end

has_before : (w v : World) (k j : ℕ) → Elsewhere w v k → (j == k) ≡ false → HasKeys v j → HasKeys w j
has_before w v k j s q (inl e) = inl (sym (s.ready j q) ∙ e)
has_before w v k j s q (inr e) = inr (sym (s.stage j q) ∙ e)

-- what is kept elsewhere stays
kept_elsewhere : (w v : World) (k j : ℕ) → Elsewhere w v k → v.accepted ≡ w.accepted → (j == k) ≡ false → AreKept w → HasKeys v j
    → KeptAt v j
kept_elsewhere w v k j s a q old h =
    carried w.accepted v.accepted (remembered (w.wires j).client_end) (remembered (v.wires j).client_end) a (s.ends j q)
    (old j (has_before w v k j s q h))

-- where the channel itself isn't ready, numbers are those of the others
others_given : (w v : World) (k : ℕ) → Elsewhere w v k → v.values.client.ready k ≡ false → w.numbers ≤ v.numbers → Counted w
    → (j : ℕ) → v.values.client.ready j ≡ true → (v.wires j).client_end.channel ≤ v.numbers
others_given w v k s off more i =
    by_key (λ j. v.values.client.ready j ≡ true → (v.wires j).client_end.channel ≤ v.numbers) k
    (λ e. not_both (v.values.client.ready k) e off)
    (λ j q e. (let g = i.given j (sym (s.ready j q) ∙ e) in let a = s.channel j q in omega (arith, g, a, more)))

others_own : (w v : World) (k : ℕ) → Elsewhere w v k → v.values.client.ready k ≡ false → Counted w
    → (j h : ℕ) → v.values.client.ready j ≡ true → v.values.client.ready h ≡ true
    → (v.wires j).client_end.channel ≡ (v.wires h).client_end.channel → j ≡ h
others_own w v k s off i j h a b e =
    by_key (λ j. v.values.client.ready j ≡ true → (v.wires j).client_end.channel ≡ (v.wires h).client_end.channel → j ≡ h) k
    (λ a e. not_both (v.values.client.ready k) a off)
    (λ j q a e. by_key (λ h. v.values.client.ready h ≡ true → (v.wires j).client_end.channel ≡ (v.wires h).client_end.channel → j ≡ h) k
    (λ b e. not_both (v.values.client.ready k) b off)
    (λ h r b e. i.own j h (sym (s.ready j q) ∙ a) (sym (s.ready h r) ∙ b) (sym (s.channel j q) ∙ (e ∙ s.channel h r))) h b e)
    j a e

-- ---- an end closes

pub record Closes (w v : World) (k : ℕ) : Type 0 where
  pub elsewhere : Elsewhere w v k
  pub live : v.values.client.live ≡ w.values.client.live
  pub kept : (j : ℕ) → (j == k) ≡ false → w.values.client.making ≡ Some j → v.values.client.making ≡ Some j
  pub left : (j : ℕ) → v.values.client.making ≡ Some j → w.values.client.making ≡ Some j
  pub ready : v.values.client.ready k ≡ false
  pub stage : v.values.client.stage k ≡ Apart
  pub is_open : (v.values.conns k).client_open ≡ false
  pub numbers : v.numbers ≡ w.numbers
  pub accepted : v.accepted ≡ w.accepted

pub closes : (w v : World) (k : ℕ) → Closes w v k → Counted w → Next w v
closes w v k u i =
    let s = u.elsewhere in
    let c = v.values.client in record {
      counted = record {
        making = by_key (λ j. makes_new (c.stage j) ≡ true → c.making ≡ Some j) k
            (λ e. not_both (makes_new (c.stage k)) e (ap makes_new u.stage))
            (λ j q e. u.kept j q (i.making j (ap makes_new (sym (s.stage j q)) ∙ e)));
        not_live = λ j e. u.live ∙ i.not_live j (u.left j e);
        none_ready = λ e. by_key (λ j. c.ready j ≡ false) k u.ready (λ j q. s.ready j q ∙ i.none_ready (sym u.live ∙ e) j);
        none_binds = λ e. by_key (λ j. binds (c.stage j) ≡ false) k (ap binds u.stage)
            (λ j q. ap binds (s.stage j q) ∙ i.none_binds (sym u.live ∙ e) j);
        apart = by_key (λ j. c.ready j ≡ true → (c.stage j ≡ Apart) × ((v.values.conns j).client_open ≡ true)) k
            (λ e. not_both (c.ready k) e u.ready)
            (λ j q e. (let a = i.apart j (sym (s.ready j q) ∙ e) in (s.stage j q ∙ a.0, s.is_open j q ∙ a.1)));
        stages = by_key (λ j. (v.values.conns j).client_open ≡ true → (v.wires j).client_end.stage ≡ c.stage j) k
            (λ e. not_both (v.values.conns k).client_open e u.is_open)
            (λ j q e. s.end_stage j q ∙ (i.stages j (sym (s.is_open j q) ∙ e) ∙ sym (s.stage j q)));
        given = others_given w v k s u.ready (let e = u.numbers in omega (arith, e)) i;
        own = others_own w v k s u.ready i;
        asked = by_key (λ j. c.stage j ≡ AskedTree → ((v.wires j).client_end.channel ≡ 1) × (v.numbers ≡ 1)) k
            (λ e. absurd (let h : Apart ≡ AskedTree = sym u.stage ∙ e in cc))
            (λ j q e. (let a = i.asked j (sym (s.stage j q) ∙ e) in (s.channel j q ∙ a.0, u.numbers ∙ a.1)));
      };
      rises = rises_still w v i
          (by_key (λ j. c.ready j ≡ true → w.values.client.ready j ≡ true) k (λ e. not_both (c.ready k) e u.ready)
          (λ j q e. sym (s.ready j q) ∙ e)) u.numbers;
      kept = λ old. by_key (λ j. HasKeys v j → KeptAt v j) k
          (no_keys_at v k u.ready (λ e. (let h : Apart ≡ AskedTree = sym u.stage ∙ e in cc)))
          (λ j q h. kept_elsewhere w v k j s u.accepted q old h);
    }

-- ---- the session ends, and every end closes

pub record Ended (w v : World) : Type 0 where
  pub live : v.values.client.live ≡ false
  pub making : v.values.client.making ≡ None
  pub ready : (k : ℕ) → v.values.client.ready k ≡ false
  pub stage : (k : ℕ) → v.values.client.stage k ≡ Apart
  pub is_open : (k : ℕ) → (v.values.conns k).client_open ≡ false
  pub numbers : v.numbers ≡ w.numbers

pub ended : (w v : World) → Ended w v → Counted w → Next w v
ended w v u i =
    let c = v.values.client in record {
      counted = record {
        making = λ j e. not_both (makes_new (c.stage j)) e (ap makes_new (u.stage j));
        not_live = λ j e. u.live;
        none_ready = λ e j. u.ready j;
        none_binds = λ e j. ap binds (u.stage j);
        apart = λ j e. not_both (c.ready j) e (u.ready j);
        stages = λ j e. not_both (v.values.conns j).client_open e (u.is_open j);
        given = λ j e. not_both (c.ready j) e (u.ready j);
        own = λ j h a b e. not_both (c.ready j) a (u.ready j);
        asked = λ j e. absurd (let h : Apart ≡ AskedTree = sym (u.stage j) ∙ e in cc);
      };
      rises = rises_still w v i (λ k e. not_both (c.ready k) e (u.ready k)) u.numbers;
      kept = λ old j. no_keys_at v j (u.ready j) (λ e. (let h : Apart ≡ AskedTree = sym (u.stage j) ∙ e in cc));
    }

-- ---- a dialog begins or goes on, at a stage before TREE_CONNECT

pub record GoesTo (w v : World) (k : ℕ) (stage : Stage) : Type 0 where
  pub elsewhere : Elsewhere w v k
  pub live : v.values.client.live ≡ w.values.client.live
  pub kept : (j : ℕ) → (j == k) ≡ false → w.values.client.making ≡ Some j → v.values.client.making ≡ Some j
  pub made : makes_new stage ≡ true → v.values.client.making ≡ Some k
  pub dead : (j : ℕ) → v.values.client.making ≡ Some j → w.values.client.live ≡ false
  pub bound : w.values.client.live ≡ false → binds stage ≡ false
  pub before : stage ≡ AskedTree → ⊥
  pub ready : v.values.client.ready k ≡ false
  pub is : v.values.client.stage k ≡ stage
  pub end_stage : (v.wires k).client_end.stage ≡ stage
  pub numbers : v.numbers ≡ w.numbers
  pub accepted : v.accepted ≡ w.accepted

pub goes_to : (w v : World) (k : ℕ) (stage : Stage) → GoesTo w v k stage → Counted w → Next w v
goes_to w v k stage u i =
    let s = u.elsewhere in
    let c = v.values.client in record {
      counted = record {
        making = by_key (λ j. makes_new (c.stage j) ≡ true → c.making ≡ Some j) k
            (λ e. u.made (ap makes_new (sym u.is) ∙ e))
            (λ j q e. u.kept j q (i.making j (ap makes_new (sym (s.stage j q)) ∙ e)));
        not_live = λ j e. u.live ∙ u.dead j e;
        none_ready = λ e. by_key (λ j. c.ready j ≡ false) k u.ready (λ j q. s.ready j q ∙ i.none_ready (sym u.live ∙ e) j);
        none_binds = λ e. by_key (λ j. binds (c.stage j) ≡ false) k (ap binds u.is ∙ u.bound (sym u.live ∙ e))
            (λ j q. ap binds (s.stage j q) ∙ i.none_binds (sym u.live ∙ e) j);
        apart = by_key (λ j. c.ready j ≡ true → (c.stage j ≡ Apart) × ((v.values.conns j).client_open ≡ true)) k
            (λ e. not_both (c.ready k) e u.ready)
            (λ j q e. (let a = i.apart j (sym (s.ready j q) ∙ e) in (s.stage j q ∙ a.0, s.is_open j q ∙ a.1)));
        stages = by_key (λ j. (v.values.conns j).client_open ≡ true → (v.wires j).client_end.stage ≡ c.stage j) k
            (λ e. u.end_stage ∙ sym u.is)
            (λ j q e. s.end_stage j q ∙ (i.stages j (sym (s.is_open j q) ∙ e) ∙ sym (s.stage j q)));
        given = others_given w v k s u.ready (let e = u.numbers in omega (arith, e)) i;
        own = others_own w v k s u.ready i;
        asked = by_key (λ j. c.stage j ≡ AskedTree → ((v.wires j).client_end.channel ≡ 1) × (v.numbers ≡ 1)) k
            (λ e. absurd (u.before (sym u.is ∙ e)))
            (λ j q e. (let a = i.asked j (sym (s.stage j q) ∙ e) in (s.channel j q ∙ a.0, u.numbers ∙ a.1)));
      };
      rises = rises_still w v i
          (by_key (λ j. c.ready j ≡ true → w.values.client.ready j ≡ true) k (λ e. not_both (c.ready k) e u.ready)
          (λ j q e. sym (s.ready j q) ∙ e)) u.numbers;
      kept = λ old. by_key (λ j. HasKeys v j → KeptAt v j) k (no_keys_at v k u.ready (λ e. u.before (sym u.is ∙ e)))
          (λ j q h. kept_elsewhere w v k j s u.accepted q old h);
    }

-- ---- a new session is accepted, and its TREE_CONNECT asked

pub record Asks (w v : World) (k : ℕ) : Type 0 where
  pub elsewhere : Elsewhere w v k
  pub live : v.values.client.live ≡ w.values.client.live
  pub making : v.values.client.making ≡ w.values.client.making
  pub ready : (j : ℕ) → v.values.client.ready j ≡ w.values.client.ready j
  pub is : v.values.client.stage k ≡ AskedTree
  pub end_stage : (v.wires k).client_end.stage ≡ AskedTree
  pub channel : (v.wires k).client_end.channel ≡ 1
  pub numbers : v.numbers ≡ 1
  pub mine : KeptAt v k

-- the dialog made a session, so none is live, and no other dialog makes one
pub asks : (w v : World) (k : ℕ) → makes_new (w.values.client.stage k) ≡ true → Asks w v k → Counted w → Next w v
asks w v k makes u i =
    let s = u.elsewhere in
    let c = v.values.client in
    let mine : w.values.client.making ≡ Some k = i.making k makes in
    let dead : w.values.client.live ≡ false = i.not_live k mine in
    let none : (j : ℕ) → c.ready j ≡ false = λ j. u.ready j ∙ i.none_ready dead j in record {
      counted = record {
        making = by_key (λ j. makes_new (c.stage j) ≡ true → c.making ≡ Some j) k (λ e. u.making ∙ mine)
            (λ j q e. u.making ∙ i.making j (ap makes_new (sym (s.stage j q)) ∙ e));
        not_live = λ j e. u.live ∙ dead;
        none_ready = λ e j. none j;
        none_binds = λ e. by_key (λ j. binds (c.stage j) ≡ false) k (ap binds u.is) (λ j q. ap binds (s.stage j q) ∙ i.none_binds dead j);
        apart = λ j e. not_both (c.ready j) e (none j);
        stages = by_key (λ j. (v.values.conns j).client_open ≡ true → (v.wires j).client_end.stage ≡ c.stage j) k
            (λ e. u.end_stage ∙ sym u.is)
            (λ j q e. s.end_stage j q ∙ (i.stages j (sym (s.is_open j q) ∙ e) ∙ sym (s.stage j q)));
        given = λ j e. not_both (c.ready j) e (none j);
        own = λ j h a b e. not_both (c.ready j) a (none j);
        asked = by_key (λ j. c.stage j ≡ AskedTree → ((v.wires j).client_end.channel ≡ 1) × (v.numbers ≡ 1)) k
            (λ e. (u.channel, u.numbers)) (λ j q e. absurd (other j q (sym (s.stage j q) ∙ e)));
      };
      rises = record {
        first = λ j d e. not_both (c.ready j) e (none j);
        kept = λ a b. not_both w.values.client.live a dead;
        further = λ j a b e. not_both (c.ready j) e (none j);
      };
      kept = λ old. by_key (λ j. HasKeys v j → KeptAt v j) k (λ h. u.mine)
          (λ j q. no_keys_at v j (none j) (λ e. other j q (sym (s.stage j q) ∙ e)));
    }
  where
    other : (j : ℕ) → (j == k) ≡ false → w.values.client.stage j ≡ AskedTree → ⊥
    other j q e =
        let one : w.values.client.making ≡ Some j = i.making j (ap makes_new e) in
        let same : Some j ≡ Some k = sym one ∙ i.making k makes in
        let is : j ≡ k = (cc) in
        let h : true ≡ false = sym (same_key j k is) ∙ q in cc

-- ---- a channel becomes ready: a session's first one

pub record Begins (w v : World) (k : ℕ) : Type 0 where
  pub elsewhere : Elsewhere w v k
  pub making : v.values.client.making ≡ None
  pub live : v.values.client.live ≡ true
  pub ready : v.values.client.ready k ≡ true
  pub is : v.values.client.stage k ≡ Apart
  pub is_open : (v.values.conns k).client_open ≡ true
  pub end_stage : (v.wires k).client_end.stage ≡ Apart
  pub channel : (v.wires k).client_end.channel ≡ (w.wires k).client_end.channel
  pub ends : remembered (v.wires k).client_end ≡ remembered (w.wires k).client_end
  pub numbers : v.numbers ≡ w.numbers
  pub accepted : v.accepted ≡ w.accepted

pub begins : (w v : World) (k : ℕ) → w.values.client.stage k ≡ AskedTree → Begins w v k → Counted w → Next w v
begins w v k at u i =
    let s = u.elsewhere in
    let c = v.values.client in
    let mine : w.values.client.making ≡ Some k = i.making k (ap makes_new at) in
    let dead : w.values.client.live ≡ false = i.not_live k mine in
    let one = i.asked k at in
    let others : (j : ℕ) → (j == k) ≡ false → c.ready j ≡ false = λ j q. s.ready j q ∙ i.none_ready dead j in
    let number : (v.wires k).client_end.channel ≡ 1 = u.channel ∙ one.0 in record {
      counted = record {
        making = by_key (λ j. makes_new (c.stage j) ≡ true → c.making ≡ Some j) k
            (λ e. not_both (makes_new (c.stage k)) e (ap makes_new u.is))
            (λ j q e. absurd (other j q (ap makes_new (sym (s.stage j q)) ∙ e)));
        not_live = λ j e. absurd (let h : None ≡ Some j = sym u.making ∙ e in cc);
        none_ready = λ e. not_both c.live u.live e;
        none_binds = λ e. not_both c.live u.live e;
        apart = by_key (λ j. c.ready j ≡ true → (c.stage j ≡ Apart) × ((v.values.conns j).client_open ≡ true)) k
            (λ e. (u.is, u.is_open)) (λ j q e. not_both (c.ready j) e (others j q));
        stages = by_key (λ j. (v.values.conns j).client_open ≡ true → (v.wires j).client_end.stage ≡ c.stage j) k
            (λ e. u.end_stage ∙ sym u.is)
            (λ j q e. s.end_stage j q ∙ (i.stages j (sym (s.is_open j q) ∙ e) ∙ sym (s.stage j q)));
        given = by_key (λ j. c.ready j ≡ true → (v.wires j).client_end.channel ≤ v.numbers) k
            (λ e. (let a = u.numbers in let b = one.1 in omega (arith, number, a, b)))
            (λ j q e. not_both (c.ready j) e (others j q));
        own = λ j h a b e. alone j a ∙ sym (alone h b);
        asked = by_key (λ j. c.stage j ≡ AskedTree → ((v.wires j).client_end.channel ≡ 1) × (v.numbers ≡ 1)) k
            (λ e. absurd (let h : Apart ≡ AskedTree = sym u.is ∙ e in cc))
            (λ j q e. absurd (other j q (ap makes_new (sym (s.stage j q) ∙ e))));
      };
      rises = record {
        first = λ j d. by_key (λ j. c.ready j ≡ true → (v.wires j).client_end.channel ≡ 1) k (λ e. number)
            (λ j q e. not_both (c.ready j) e (others j q)) j;
        kept = λ a b. not_both w.values.client.live a dead;
        further = λ j a b e. not_both w.values.client.live a dead;
      };
      kept = λ old. by_key (λ j. HasKeys v j → KeptAt v j) k
          (λ h. carried w.accepted v.accepted (remembered (w.wires k).client_end) (remembered (v.wires k).client_end) u.accepted u.ends
          (old k (inr at)))
          (λ j q. no_keys_at v j (others j q) (λ e. other j q (ap makes_new (sym (s.stage j q) ∙ e))));
    }
  where
    other : (j : ℕ) → (j == k) ≡ false → makes_new (w.values.client.stage j) ≡ true → ⊥
    other j q e =
        let one : w.values.client.making ≡ Some j = i.making j e in
        let same : Some j ≡ Some k = sym one ∙ i.making k (ap makes_new at) in
        let is : j ≡ k = (cc) in
        let h : true ≡ false = sym (same_key j k is) ∙ q in cc

    alone : (j : ℕ) → v.values.client.ready j ≡ true → j ≡ k
    alone = by_key (λ j. v.values.client.ready j ≡ true → j ≡ k) k (λ e. refl)
        (λ j q e. not_both (v.values.client.ready j) e
        (let s = u.elsewhere in s.ready j q ∙ i.none_ready (i.not_live k (i.making k (ap makes_new at))) j))

-- ---- and a further one, of the next number

pub record Binds (w v : World) (k : ℕ) : Type 0 where
  pub elsewhere : Elsewhere w v k
  pub live : v.values.client.live ≡ w.values.client.live
  pub making : v.values.client.making ≡ w.values.client.making
  pub ready : v.values.client.ready k ≡ true
  pub is : v.values.client.stage k ≡ Apart
  pub is_open : (v.values.conns k).client_open ≡ true
  pub end_stage : (v.wires k).client_end.stage ≡ Apart
  pub channel : (v.wires k).client_end.channel ≡ w.numbers + 1
  pub numbers : v.numbers ≡ w.numbers + 1
  pub mine : KeptAt v k
  pub grown : (r : Remembered) → IsKeptIn w.accepted r → IsKeptIn v.accepted r

pub binds_one : (w v : World) (k : ℕ) → w.values.client.live ≡ true → Binds w v k → Counted w → Next w v
binds_one w v k alive u i =
    let s = u.elsewhere in
    let c = v.values.client in
    let more : w.numbers + 1 ≡ v.numbers = sym u.numbers in record {
      counted = record {
        making = by_key (λ j. makes_new (c.stage j) ≡ true → c.making ≡ Some j) k
            (λ e. not_both (makes_new (c.stage k)) e (ap makes_new u.is))
            (λ j q e. u.making ∙ i.making j (ap makes_new (sym (s.stage j q)) ∙ e));
        not_live = λ j e. u.live ∙ i.not_live j (sym u.making ∙ e);
        none_ready = λ e. not_both w.values.client.live alive (sym u.live ∙ e);
        none_binds = λ e. not_both w.values.client.live alive (sym u.live ∙ e);
        apart = by_key (λ j. c.ready j ≡ true → (c.stage j ≡ Apart) × ((v.values.conns j).client_open ≡ true)) k (λ e. (u.is, u.is_open))
            (λ j q e. (let a = i.apart j (sym (s.ready j q) ∙ e) in (s.stage j q ∙ a.0, s.is_open j q ∙ a.1)));
        stages = by_key (λ j. (v.values.conns j).client_open ≡ true → (v.wires j).client_end.stage ≡ c.stage j) k
            (λ e. u.end_stage ∙ sym u.is)
            (λ j q e. s.end_stage j q ∙ (i.stages j (sym (s.is_open j q) ∙ e) ∙ sym (s.stage j q)));
        given = by_key (λ j. c.ready j ≡ true → (v.wires j).client_end.channel ≤ v.numbers) k
            (λ e. (let a = u.channel in omega (arith, a, more)))
            (λ j q e. (let g = below j q e in omega (arith, g, more)));
        own = λ j h a b e. one_owner j h a b e;
        asked = by_key (λ j. c.stage j ≡ AskedTree → ((v.wires j).client_end.channel ≡ 1) × (v.numbers ≡ 1)) k
            (λ e. absurd (let h : Apart ≡ AskedTree = sym u.is ∙ e in cc))
            (λ j q e. absurd (let d = i.not_live j (i.making j (ap makes_new (sym (s.stage j q) ∙ e))) in
            let h : true ≡ false = sym alive ∙ d in cc));
      };
      rises = record {
        first = λ j d e. not_both w.values.client.live alive d;
        kept = λ a b. omega (arith, more);
        further = λ j a. by_key (λ j. w.values.client.ready j ≡ false → c.ready j ≡ true
            → (w.numbers < v.numbers) × ((v.wires j).client_end.channel ≡ v.numbers)) k
            (λ b e. (omega (arith, more), u.channel ∙ more))
            (λ j q b e. not_both (w.values.client.ready j) (sym (s.ready j q) ∙ e) b) j;
      };
      kept = λ old. by_key (λ j. HasKeys v j → KeptAt v j) k (λ h. u.mine)
          (λ j q h. subst (λ r. IsKeptIn v.accepted r) (sym (s.ends j q))
          (u.grown (remembered (w.wires j).client_end) (old j (has_before w v k j s q h))));
    }
  where
    below : (j : ℕ) → (j == k) ≡ false → v.values.client.ready j ≡ true → (v.wires j).client_end.channel ≤ w.numbers
    below j q e =
        let s = u.elsewhere in
        let g = i.given j (sym (s.ready j q) ∙ e) in
        let a = s.channel j q in
        omega (arith, g, a)

    clash : (j : ℕ) → (j == k) ≡ false → v.values.client.ready j ≡ true
        → (v.wires j).client_end.channel ≡ (v.wires k).client_end.channel → ⊥
    clash j q e same = (let g = below j q e in let a = u.channel in omega (arith, g, a, same))

    one_owner : (j h : ℕ) → v.values.client.ready j ≡ true → v.values.client.ready h ≡ true
        → (v.wires j).client_end.channel ≡ (v.wires h).client_end.channel → j ≡ h
    one_owner j h a b e =
        let s = u.elsewhere in
        by_key (λ j. v.values.client.ready j ≡ true → (v.wires j).client_end.channel ≡ (v.wires h).client_end.channel → j ≡ h) k
        (λ a e. by_key (λ h. v.values.client.ready h ≡ true → (v.wires k).client_end.channel ≡ (v.wires h).client_end.channel → k ≡ h) k
        (λ b e. refl) (λ h r b e. absurd (clash h r b (sym e))) h b e)
        (λ j q a e. by_key (λ h. v.values.client.ready h ≡ true → (v.wires j).client_end.channel ≡ (v.wires h).client_end.channel → j ≡ h) k
        (λ b e. absurd (clash j q a e))
        (λ h r b e. i.own j h (sym (s.ready j q) ∙ a) (sym (s.ready h r) ∙ b) (sym (s.channel j q) ∙ (e ∙ s.channel h r))) h b e)
        j a e
