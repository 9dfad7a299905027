-- What opens that leave with their session make of the table of opens.
use Rattle.std.proofs.Common.{◌≡◌, ℕ, ◌==◌, Bool, true, false, not, ◌&&◌, if◌then◌else◌, List, [], ◌∷◌, Option, Some, None}
use Rattle.std.proofs.Common.{slice_get, suc, refl, sym, ap, subst, arith, eqb-true, ◌∙◌}
use Rattle.spec_exchange.specs.Effects.{cleared, dated, guid_staying, leaves, plain_of, ranges_staying, staying_in}
use Rattle.spec_exchange.specs.Opens.{drop_open}
use Rattle.spec_exchange.specs.Ranges.{without_owner}
use Rattle.spec_exchange.specs.State.{Range, Server}
use Rattle.spec_exchange.specs.Table.{has, is_at}
use Rattle.law_records.proofs.leaving_opens.All.{plain_in_order}
use Rattle.law_records.proofs.leaving_opens.Ended.{has_plain, without_all, without_front, without_none}
use Rattle.law_records.proofs.leaving_opens.Opens.{away, rest}
use Rattle.law_server.proofs.tables.DropOpen.{drop_open_keeps}
use Rattle.law_server.proofs.tables.Logic.{back_of, front_of, not_true}
use Rattle.law_server.specs.tables.Fits.{Fits, is_ascending}
use Rattle.server_effects.proofs.session_ends.Columns.{dropped}
use Rattle.server_effects.proofs.session_ends.Left.{here, plain_stands}

-- ---- the list

dropped_opens : (s : Server) (os : List ℕ) → (dropped s os).opens ≡ without_all os s.opens
dropped_opens s [] = refl
dropped_opens s (o ∷ os) = dropped_opens (drop_open s o) os

stay_as : (s : Server) (x : ℕ) (os ys : List ℕ) → ((y : ℕ) → has y ys ≡ true → has y os ≡ leaves s x y)
    → staying_in s x ys ≡ without_all os ys
unfolding staying_in
stay_as s x os [] h = sym (without_none os)
stay_as s x os (y ∷ ys) h = rw (without_front os y ys, h y (here y ys), stay_as s x os ys (λ z i. h z (later z (y == z) i))) refl
  where
    later : (z : ℕ) (b : Bool) → has z ys ≡ true → (if b then true else has z ys) ≡ true
    later z true i = refl
    later z false i = i

both_is : (a b : Bool) → a ≡ true → (a && b) ≡ b
both_is true b e = refl
both_is false b e = absurd (cc)

-- an open that stands is among those that leave exactly where it leaves
pub plain_has : (s : Server) (x p : ℕ) → Fits s → s.standing p ≡ true → has p (plain_of s x) ≡ leaves s x p
plain_has s x p f st = has_plain s x p s.opens ∙ both_is (has p s.opens) (leaves s x p) (f.listed p ∙ st)

pub opens_left : (s : Server) (x : ℕ) → Fits s → (dropped s (plain_of s x)).opens ≡ staying_in s x s.opens
opens_left s x f = dropped_opens s (plain_of s x)
    ∙ sym (stay_as s x (plain_of s x) s.opens (λ y i. plain_has s x y f (sym (f.listed y) ∙ i)))

-- ---- single columns

swap : (p o : ℕ) → (p == o) ≡ (o == p)
swap p o = grind arith

off_twice : (a b c d : Bool) → a ≡ b → ((if a then false else d) && not c) ≡ (d && not (if b then true else c))
off_twice true true c true e = refl
off_twice true true c false e = refl
off_twice false false c d e = refl
off_twice true false c d e = absurd (cc)
off_twice false true c d e = absurd (cc)

on_alone : (d : Bool) → d ≡ (d && not false)
on_alone true = refl
on_alone false = refl

dropped_standing : (s : Server) (os : List ℕ) (p : ℕ) → (dropped s os).standing p ≡ (s.standing p && not (has p os))
dropped_standing s [] p = on_alone (s.standing p)
dropped_standing s (o ∷ os) p = dropped_standing (drop_open s o) os p ∙ off_twice (p == o) (o == p) (has p os) (s.standing p) (swap p o)

none_twice : (a b c : Bool) (k : Option ℕ) → a ≡ b
    → (if c then None else (if a then None else k)) ≡ (if (if b then true else c) then None else k)
none_twice true true true k e = refl
none_twice true true false k e = refl
none_twice false false c k e = refl
none_twice true false c k e = absurd (cc)
none_twice false true c k e = absurd (cc)

pub dropped_session : (s : Server) (os : List ℕ) (p : ℕ)
    → (dropped s os).session_of_open p ≡ (if has p os then None else s.session_of_open p)
dropped_session s [] p = refl
dropped_session s (o ∷ os) p = dropped_session (drop_open s o) os p
    ∙ none_twice (p == o) (o == p) (has p os) (s.session_of_open p) (swap p o)

dropped_deadline : (s : Server) (os : List ℕ) (p : ℕ) → (dropped s os).deadline p ≡ (if has p os then None else s.deadline p)
dropped_deadline s [] p = refl
dropped_deadline s (o ∷ os) p = dropped_deadline (drop_open s o) os p
    ∙ none_twice (p == o) (o == p) (has p os) (s.deadline p) (swap p o)

same_off : (d h l : Bool) → (d ≡ true → h ≡ l) → (d && not h) ≡ (d && not l)
same_off true h l e = ap not (e refl)
same_off false h l e = refl

pub standing_left : (s : Server) (x p : ℕ) → Fits s
    → (dropped s (plain_of s x)).standing p ≡ (s.standing p && not (leaves s x p))
standing_left s x p f = dropped_standing s (plain_of s x) p
    ∙ same_off (s.standing p) (has p (plain_of s x)) (leaves s x p) (λ st. plain_has s x p f st)

leaving : (s : Server) (x p : ℕ) → has p (plain_of s x) ≡ true → leaves s x p ≡ true
leaving s x p h = back_of (has p s.opens) (leaves s x p) (sym (has_plain s x p s.opens) ∙ h)

pub session_left : (s : Server) (x p : ℕ) → cleared x ((dropped s (plain_of s x)).session_of_open p) ≡ cleared x (s.session_of_open p)
session_left s x p = ap (cleared x) (dropped_session s (plain_of s x) p) ∙ by (has p (plain_of s x)) refl
  where
    by : (b : Bool) → has p (plain_of s x) ≡ b → cleared x (if b then None else s.session_of_open p) ≡ cleared x (s.session_of_open p)
    by true e = let l : is_at x (s.session_of_open p) ≡ true = front_of (is_at x (s.session_of_open p)) (not (s.opened p).persistent)
        (leaving s x p e) in rw l refl
    by false e = refl

pub deadline_left : (s : Server) (x now p : ℕ)
    → dated x now (s.opened p) ((dropped s (plain_of s x)).session_of_open p) ((dropped s (plain_of s x)).deadline p)
    ≡ dated x now (s.opened p) (s.session_of_open p) (s.deadline p)
deadline_left s x now p = rw (dropped_session s (plain_of s x) p, dropped_deadline s (plain_of s x) p) (by (has p (plain_of s x)) refl)
  where
    by : (b : Bool) → has p (plain_of s x) ≡ b
        → dated x now (s.opened p) (if b then None else s.session_of_open p) (if b then None else s.deadline p)
        ≡ dated x now (s.opened p) (s.session_of_open p) (s.deadline p)
    by true e =
        let l : is_at x (s.session_of_open p) ≡ true = front_of (is_at x (s.session_of_open p)) (not (s.opened p).persistent)
        (leaving s x p e) in
        let k : (s.opened p).persistent ≡ false = not_true (s.opened p).persistent
        (back_of (is_at x (s.session_of_open p)) (not (s.opened p).persistent) (leaving s x p e)) in
        rw (l, k) refl
    by false e = refl

-- ---- guids

abbrev guid_out : List ℕ → Option ℕ → Option ℕ
guid_out os None = None
guid_out os (Some o) = if has o os then None else Some o

none_any : (a b : Bool) → (if a then (if b then None else None) else None) ≡ guid_out [] None
none_any true true = refl
none_any true false = refl
none_any false b = refl

named_case : (a b w : Bool) (y : ℕ) → (w ≡ true → a ≡ true) → (w ≡ true → b ≡ true) → (a ≡ true → b ≡ true → w ≡ true)
    → (if a then (if b then None else Some y) else Some y) ≡ (if (if w then true else false) then None else Some y)
named_case true true true y f g h = refl
named_case true true false y f g h = absurd (let k = h refl refl in cc)
named_case true false true y f g h = absurd (let k = g refl in cc)
named_case true false false y f g h = refl
named_case false b true y f g h = absurd (let k = f refl in cc)
named_case false b false y f g h = refl

-- an open without a guid isn't the one that is named
apart_none : (s : Server) (o y g : ℕ) → (s.opened o).create_guid ≡ None → (s.opened y).create_guid ≡ Some g → (o == y) ≡ false
apart_none s o y g i b = by (o == y) refl
  where
    by : (w : Bool) → (o == y) ≡ w → w ≡ false
    by false z = refl
    by true z = absurd (let m : None ≡ Some g = sym i ∙ (ap (λ (n : ℕ). (s.opened n).create_guid) (eqb-true o y z) ∙ b) in cc)

guidless : (s : Server) (o c g : ℕ) (u : Option ℕ) → Fits s → (s.opened o).create_guid ≡ None → s.by_guid c g ≡ u
    → (drop_open s o).by_guid c g ≡ guid_out (o ∷ []) (s.by_guid c g)
guidless s o c g None f e k = rw (e, k) refl
guidless s o c g (Some y) f e k =
    let n : (o == y) ≡ false = apart_none s o y g e (f.guid_open c g y k).2 in rw (e, k, n) refl

guided : (s : Server) (o c g h : ℕ) (u : Option ℕ) → Fits s → s.standing o ≡ true → (s.opened o).create_guid ≡ Some h → s.by_guid c g ≡ u
    → (drop_open s o).by_guid c g ≡ guid_out (o ∷ []) (s.by_guid c g)
guided s o c g h None f st e k = rw (e, k) (none_any (c == (s.opened o).client_guid) (g == h))
guided s o c g h (Some y) f st e k = rw (e, k) (named_case (c == (s.opened o).client_guid) (g == h) (o == y) y client guid both)
  where
    client : (o == y) ≡ true → (c == (s.opened o).client_guid) ≡ true
    client z = let m : (s.opened o).client_guid ≡ c = ap (λ (n : ℕ). (s.opened n).client_guid) (eqb-true o y z) ∙ (f.guid_open c g y k).1 in
        grind arith

    guid : (o == y) ≡ true → (g == h) ≡ true
    guid z =
        let m : Some h ≡ Some g = sym e ∙ (ap (λ (n : ℕ). (s.opened n).create_guid) (eqb-true o y z) ∙ (f.guid_open c g y k).2) in
        let r : h ≡ g = cc in grind arith

    both : (c == (s.opened o).client_guid) ≡ true → (g == h) ≡ true → (o == y) ≡ true
    both a b =
        let n : s.by_guid (s.opened o).client_guid h ≡ Some o = f.open_guid o h st e in
        let m : Some o ≡ Some y = sym n ∙ (ap (λ (z : ℕ). s.by_guid z h) (sym (eqb-true c (s.opened o).client_guid a))
        ∙ (ap (s.by_guid c) (sym (eqb-true g h b)) ∙ k)) in
        let r : o ≡ y = cc in grind arith

one_out : (s : Server) (o c g : ℕ) → Fits s → s.standing o ≡ true → (drop_open s o).by_guid c g ≡ guid_out (o ∷ []) (s.by_guid c g)
one_out s o c g f st = by (s.opened o).create_guid refl
  where
    by : (h : Option ℕ) → (s.opened o).create_guid ≡ h → (drop_open s o).by_guid c g ≡ guid_out (o ∷ []) (s.by_guid c g)
    by None e = guidless s o c g (s.by_guid c g) f e refl
    by (Some h) e = guided s o c g h (s.by_guid c g) f st e refl

out_twice : (o : ℕ) (os : List ℕ) (u : Option ℕ) → guid_out os (guid_out (o ∷ []) u) ≡ guid_out (o ∷ os) u
out_twice o os None = refl
out_twice o os (Some y) = by (o == y)
  where
    by : (b : Bool) → guid_out os (if (if b then true else false) then None else Some y)
        ≡ (if (if b then true else has y os) then None else Some y)
    by true = refl
    by false = refl

-- each stands, and none stands twice in the list
abbrev pub AllStand : Server → List ℕ → Type 0
AllStand s os = (p : ℕ) → has p os ≡ true → s.standing p ≡ true

pub rest_stand : (s : Server) (o : ℕ) (os : List ℕ) → is_ascending (o ∷ os) ≡ true → AllStand s (o ∷ os) → AllStand (drop_open s o) os
rest_stand s o os a h p i = by (p == o) refl
  where
    behind : (b : Bool) → (if b then true else has p os) ≡ true
    behind true = refl
    behind false = i

    by : (b : Bool) → (p == o) ≡ b → (if b then false else s.standing p) ≡ true
    by true e = absurd (let m = sym i ∙ subst (λ (z : ℕ). has z os ≡ false) (sym (eqb-true p o e)) (away o os a) in cc)
    by false e = h p (behind (o == p))

dropped_guid : (s : Server) (os : List ℕ) (c g : ℕ) → Fits s → is_ascending os ≡ true → AllStand s os
    → (dropped s os).by_guid c g ≡ guid_out os (s.by_guid c g)
dropped_guid s [] c g f a h = by (s.by_guid c g)
  where
    by : (u : Option ℕ) → u ≡ guid_out [] u
    by None = refl
    by (Some y) = refl
dropped_guid s (o ∷ os) c g f a h =
    let st : s.standing o ≡ true = h o (here o os) in
    dropped_guid (drop_open s o) os c g (drop_open_keeps s o st f) (rest o os a) (rest_stand s o os a h)
    ∙ (ap (guid_out os) (one_out s o c g f st) ∙ out_twice o os (s.by_guid c g))

pub guid_left : (s : Server) (x c g : ℕ) → Fits s → (dropped s (plain_of s x)).by_guid c g ≡ guid_staying s x (s.by_guid c g)
guid_left s x c g f = dropped_guid s (plain_of s x) c g f (plain_in_order s x f) (λ p i. plain_stands s x p f i) ∙ by (s.by_guid c g) refl
  where
    by : (u : Option ℕ) → s.by_guid c g ≡ u → guid_out (plain_of s x) u ≡ guid_staying s x u
    by None e = refl
    by (Some y) e = ap (λ (b : Bool). if b then None else Some y) (plain_has s x y f (f.guid_open c g y e).0)

-- ---- ranges

abbrev owners_out : List ℕ → List Range → List Range
owners_out [] rs = rs
owners_out (o ∷ os) rs = owners_out os (without_owner o rs)

-- each range of the list is owned by an open of this file
abbrev OwnedAt : Server → ℕ → List Range → Type 0
OwnedAt s f rs = (n : ℕ) (r : Range) → slice_get rs n ≡ Some r → s.standing r.owner ≡ true × (s.opened r.owner).file ≡ f

no_owner : (s : Server) (o f : ℕ) (rs : List Range) → (f == (s.opened o).file) ≡ false → OwnedAt s f rs → without_owner o rs ≡ rs
unfolding without_owner
no_owner s o f [] e h = refl
no_owner s o f (r ∷ rs) e h = by (r.owner == o) refl (no_owner s o f rs e (λ n. h (suc n)))
  where
    by : (b : Bool) → (r.owner == o) ≡ b → without_owner o rs ≡ rs → (if b then without_owner o rs else r ∷ without_owner o rs) ≡ r ∷ rs
    by true k old = absurd (let u = h 0 r refl in let m = ap (λ (z : ℕ). (s.opened z).file) (eqb-true r.owner o k) in
        let w : f ≡ (s.opened o).file = sym u.1 ∙ m in let v : (f == (s.opened o).file) ≡ true = grind arith in cc)
    by false k old = ap (λ (qs : List Range). r ∷ qs) old

one_ranges : (s : Server) (o f : ℕ) → Fits s → (drop_open s o).ranges f ≡ without_owner o (s.ranges f)
one_ranges s o f i = by (f == (s.opened o).file) refl
  where
    by : (b : Bool) → (f == (s.opened o).file) ≡ b
        → (if b then without_owner o (s.ranges (s.opened o).file) else s.ranges f) ≡ without_owner o (s.ranges f)
    by true e = ap (λ (z : ℕ). without_owner o (s.ranges z)) (sym (eqb-true f (s.opened o).file e))
    by false e = sym (no_owner s o f (s.ranges f) e (λ n r h. i.range_owners f n r h))

dropped_ranges : (s : Server) (os : List ℕ) (f : ℕ) → Fits s → is_ascending os ≡ true → AllStand s os
    → (dropped s os).ranges f ≡ owners_out os (s.ranges f)
dropped_ranges s [] f i a h = refl
dropped_ranges s (o ∷ os) f i a h =
    let st : s.standing o ≡ true = h o (here o os) in
    dropped_ranges (drop_open s o) os f (drop_open_keeps s o st i) (rest o os a) (rest_stand s o os a h)
    ∙ ap (owners_out os) (one_ranges s o f i)

out_none : (os : List ℕ) → owners_out os [] ≡ []
unfolding without_owner
out_none [] = refl
out_none (o ∷ os) = out_none os

out_front : (os : List ℕ) (r : Range) (rs : List Range) → owners_out os (r ∷ rs)
    ≡ (if has r.owner os then owners_out os rs else r ∷ owners_out os rs)
unfolding without_owner
out_front [] r rs = refl
out_front (o ∷ os) r rs = by (r.owner == o) (o == r.owner) (swap r.owner o) (out_front os r (without_owner o rs))
  where
    by : (b c : Bool) → b ≡ c
        → owners_out os (r ∷ without_owner o rs)
        ≡ (if has r.owner os then owners_out os (without_owner o rs) else r ∷ owners_out os (without_owner o rs))
        → owners_out os (if b then without_owner o rs else r ∷ without_owner o rs)
        ≡ (if (if c then true else has r.owner os) then owners_out os (without_owner o rs) else r ∷ owners_out os (without_owner o rs))
    by true true e k = refl
    by false false e k = k
    by true false e k = absurd (cc)
    by false true e k = absurd (cc)

out_staying : (s : Server) (x : ℕ) (os : List ℕ) (rs : List Range)
    → ((n : ℕ) (r : Range) → slice_get rs n ≡ Some r → has r.owner os ≡ leaves s x r.owner) → owners_out os rs ≡ ranges_staying s x rs
unfolding ranges_staying
out_staying s x os [] h = out_none os
out_staying s x os (r ∷ rs) h = rw (out_front os r rs, h 0 r refl, out_staying s x os rs (λ n. h (suc n))) refl

pub ranges_left : (s : Server) (x f : ℕ) → Fits s → (dropped s (plain_of s x)).ranges f ≡ ranges_staying s x (s.ranges f)
ranges_left s x f i = dropped_ranges s (plain_of s x) f i (plain_in_order s x i) (λ p h. plain_stands s x p i h)
    ∙ out_staying s x (plain_of s x) (s.ranges f) (λ n r h. plain_has s x r.owner i (i.range_owners f n r h).0)
