-- The table behind opens, ranges and guids that are put back, and what it tells of its persistent opens.
use Rattle.std.proofs.Common.{◌≡◌, ℕ, ◌+◌, ◌*◌, ◌<◌, ◌≤◌, ◌==◌, nat_eq, nat_lt, nat_le, Bool, true, false, not, ◌&&◌, ◌||◌}
use Rattle.std.proofs.Common.{if◌then◌else◌, List, [], ◌∷◌, ◌++◌, length, map, Option, Some, None, refl, sym, ap, subst, ◌∙◌, arith, eqb-true}
use Rattle.std.proofs.lemmas.Grind.{common_steps}
use Rattle.std.proofs.lemmas.Bool.Decides.{nat_tests}
use Rattle.std.specs.HashMap.{get, hash_map_len}
use Rattle.std.specs.Map.{keys_of}
use Rattle.std.specs.List.{slice_get}
use Rattle.spec_exchange.specs.Table.{has}
use Rattle.spec_exchange.specs.State as model
use Rattle.spec_exchange.specs.Opens.{id_of, add_open, file_has_open}
use Rattle.spec_exchange.specs.Fold.{persistent_in}
use Rattle.law_server.specs.tables.Fits.{Fits, is_ascending}
use Rattle.store_opens.specs.declared.share_modes.lists.Range.{Range}
use Rattle.store_opens.specs.declared.share_modes.lists.Open.{Open}
use Rattle.store_opens.specs.declared.open_index.held.FileOpens.{FileOpens}
use Rattle.store_opens.specs.declared.open_table.row.Row.{Row}
use Rattle.store_opens.specs.declared.open_table.row.OpenParts.{OpenParts}
use Rattle.store_opens.specs.declared.open_table.table.Opens.{Opens}
use Rattle.store_opens.specs.share_modes.Locking.{range_of}
use Rattle.store_opens.specs.open_index.Held.{HeldShown, sharing_in}
use Rattle.store_opens.specs.open_index.Keep.{guids_with}
use Rattle.store_opens.specs.open_table.Rows.{OpenRowShown, IsRestoredRow, open_of, parts_of}
use Rattle.store_opens.specs.open_table.Shown.{ShowsOpens}
use Rattle.store_opens.specs.open_table.Stood.{has_free_id, has_free_name, may_stand_again, stood, with_range, with_pushed, keeps_in}
use Rattle.store_opens.specs.open_table.Stood.{may_expire_once}
use Rattle.store_opens.proofs.open_index.HeldLemmas.{open_is}
use Rattle.store_opens.proofs.open_index.SetLemmas.{ascending_same}
use Rattle.store_opens.proofs.open_table.DueLemmas.{passing, has_passing, passing_ascends}
use Rattle.store_opens.proofs.open_table.Least.{has_key}
use Prim.Native.Nat.{zero, suc}

-- ---- ids

front_on : (a b : Bool) → (a && b) ≡ true → a ≡ true
front_on true b e = refl
front_on false b e = absurd (cc)

back_on : (a b : Bool) → (a && b) ≡ true → b ≡ true
back_on true b e = e
back_on false b e = absurd (cc)

not_on : (b : Bool) → not b ≡ true → b ≡ false
not_on true e = absurd (cc)
not_on false e = refl

pub standing_off : (s : model.Server) (o : ℕ) (p : OpenParts) → may_stand_again s o p ≡ true → s.standing o ≡ false
standing_off s o p e =
    let f = front_on (has_free_id s o) (p.persistent && has_free_name s p.client p.guid) e in
    let g = back_on (nat_lt 0 o) (nat_le o (id_of s.epoch s.open_ids_given) && not (s.standing o)) f in
    not_on (s.standing o) (back_on (nat_le o (id_of s.epoch s.open_ids_given)) (not (s.standing o)) g)

pub id_free : (s : model.Server) (o e g : ℕ) (b : Bool) → 0 < o → o ≤ e * 0x1_0000_0000 + g → s.epoch ≡ e → s.open_ids_given ≡ g
    → b ≡ s.standing o → not b ≡ has_free_id s o
id_free s o e g b l m i j k =
    let low : nat_lt 0 o ≡ true = grind (arith, nat_tests) in
    let high : nat_le o (s.epoch * 0x1_0000_0000 + s.open_ids_given) ≡ true = rw (i, j) (grind (arith, nat_tests)) in
    ap not k ∙ sym (ap (λ (x : Bool). x && (nat_le o (id_of s.epoch s.open_ids_given) && not (s.standing o))) low
    ∙ ap (λ (x : Bool). x && not (s.standing o)) high)

pub id_past : (s : model.Server) (o e g : ℕ) → e * 0x1_0000_0000 + g < o → s.epoch ≡ e → s.open_ids_given ≡ g → false ≡ has_free_id s o
id_past s o e g m i j = by (nat_lt 0 o) (nat_le o (id_of s.epoch s.open_ids_given)) high
  where
    high : nat_le o (s.epoch * 0x1_0000_0000 + s.open_ids_given) ≡ false
    high = rw (i, j) (grind (arith, nat_tests))

    by : (a b : Bool) → b ≡ false → false ≡ (a && (b && not (s.standing o)))
    by true true e = absurd (cc)
    by true false e = refl
    by false b e = refl

-- ---- guids

lesser : (a b : ℕ) → nat_lt a b ≡ true → a < b
lesser a b e = grind (arith, nat_tests)

pub few_expired : (s : model.Server) (client guid : ℕ) → may_expire_once s client guid ≡ true → s.expired_count < 0xffff_ffff
few_expired s client guid e = lesser s.expired_count 0xffff_ffff
    (back_on (not (s.expired_guids client guid)) (nat_lt s.expired_count 0xffff_ffff) e)

pub fewer : (n : ℕ) → nat_lt n 65536 ≡ true → n < 0xffff_ffff
fewer n e = let l = lesser n 65536 e in omega (arith, l)

-- ---- a row that is put back

pub stood_is : (u : Opens) (s : model.Server) (w : Row) (p : OpenParts) (o : ℕ) (user : List ℕ) → IsRestoredRow w p user
    → ShowsOpens u (record (add_open s o (open_of w) w.session w.sequence) {
      open_ids_given = s.open_ids_given;
      guids = guids_with w.session w.guid s.guids;
    }) → ShowsOpens u (stood s o p user)
stood_is u s w p o user new h =
    subst (λ (q : OpenParts). ShowsOpens u (stood s o q user)) new.parts_are
    (subst (λ (z : List ℕ). ShowsOpens u (stood s o (parts_of (record w { session = p.session })) z)) new.user_is
    (subst (λ (v : Option ℕ). ShowsOpens u (record (add_open s o (open_of w) v w.sequence) {
      open_ids_given = s.open_ids_given;
      guids = guids_with v w.guid s.guids;
    })) new.no_session h))

-- ---- a range behind the others

map_end : (rs : List Range) (x : Range) → map range_of (rs ++ x ∷ []) ≡ map range_of rs ++ range_of x ∷ []
map_end [] x = refl
map_end (r ∷ rs) x = ap (λ l. range_of r ∷ l) (map_end rs x)

held_pushed : (b : Bool) (r : Option FileOpens) (os : List Open) (old new : List model.Range) (x : Range)
    → (b ≡ true → nat_lt 0 (length os) ≡ true) → (b ≡ true → new ≡ old ++ range_of x ∷ []) → HeldShown r os old
    → HeldShown (if b then with_pushed x r else r) os (if b then new else old)
held_pushed true None os old new x f e h = absurd (let m = ap (λ (v : List Open). nat_lt 0 (length v)) h.0 in let k = f refl in cc)
held_pushed true (Some r) os old new x f e h = record {
  count_is = h.count_is;
  shares_are = h.shares_are;
  ranges_are = e refl ∙ (ap (λ l. l ++ range_of x ∷ []) h.ranges_are ∙ sym (map_end r.ranges x));
}
held_pushed false r os old new x f e h = h

pub shows_pushed : (t u : Opens) (s : model.Server) (f : ℕ) (x : Range) → u ≡ record t { files = u.files }
    → ((q : ℕ) → get nat_eq u.files q ≡ (if q == f then with_pushed x (get nat_eq t.files q) else get nat_eq t.files q))
    → f ≡ (s.opened x.owner).file → ShowsOpens t s → file_has_open s f ≡ true → ShowsOpens u (with_range s x)
unfolding file_has_open
shows_pushed t u s f x e files same h there =
    subst (λ (v : Opens). ShowsOpens v (with_range s x)) (sym e) (record {
      epoch_is = h.epoch_is;
      given_is = h.given_is;
      count_is = h.count_is;
      rows_are = h.rows_are;
      trees_are = h.trees_are;
      guids_are = h.guids_are;
      files_are = λ g. subst (λ (z : ℕ). HeldShown (get nat_eq u.files g) (sharing_in s.opened s.opens g)
          (if g == z then s.ranges z ++ range_of x ∷ [] else s.ranges g)) same
          (rw (files g) (held_pushed (g == f) (get nat_eq t.files g) (sharing_in s.opened s.opens g) (s.ranges g)
          (s.ranges f ++ range_of x ∷ []) x (filled g) (λ q. ap (λ (z : ℕ). s.ranges z ++ range_of x ∷ []) (sym (eqb-true g f q)))
          (h.files_are g)));
      sessions_are = h.sessions_are;
      listed = h.listed;
      plain_listed = h.plain_listed;
      named = h.named;
      expired_are = h.expired_are;
      expired_count_is = h.expired_count_is;
      indexed = h.indexed;
      undated = h.undated;
    })
  where
    filled : (g : ℕ) → (g == f) ≡ true → nat_lt 0 (length (sharing_in s.opened s.opens g)) ≡ true
    filled g q = subst (λ (z : ℕ). nat_lt 0 (length (sharing_in s.opened s.opens z)) ≡ true) (sym (eqb-true g f q))
        (sym (open_is s.opened s.opens f) ∙ there)

-- ---- the persistent opens

abbrev persistent_of : Option Row → Bool
persistent_of None = false
persistent_of (Some r) = r.persistent

keeps_by : (es : List (ℕ × Row)) (q : ℕ) (o : Option Row)
    → ((k : ℕ) (e : ℕ × Row) → slice_get es k ≡ Some e → (e.0 == q) ≡ true → Some e.1 ≡ o)
    → keeps_in es q ≡ (has q (keys_of es) && persistent_of o)
keeps_by [] q o h = refl
keeps_by (e ∷ es) q o h = by (e.0 == q) (λ i. h zero e refl i) (keeps_by es q o (λ k d g i. h (suc k) d g i))
  where
    absorbed : (a b : Bool) → (a || (b && a)) ≡ a
    absorbed true b = refl
    absorbed false true = refl
    absorbed false false = refl

    by : (b : Bool) → (b ≡ true → Some e.1 ≡ o) → keeps_in es q ≡ (has q (keys_of es) && persistent_of o)
        → (if b then (e.1.persistent || keeps_in es q) else keeps_in es q) ≡ ((if b then true else has q (keys_of es)) && persistent_of o)
    by true own rest =
        let p : e.1.persistent ≡ persistent_of o = ap persistent_of (own refl) in
        ap (λ x. e.1.persistent || x) rest ∙ (ap (λ x. x || (has q (keys_of es) && persistent_of o)) p
        ∙ absorbed (persistent_of o) (has q (keys_of es)))
    by false own rest = rest

pub keeps_is : (t : Opens) (s : model.Server) → ShowsOpens t s
    → ((k : ℕ) (e : ℕ × Row) → slice_get t.rows.entries k ≡ Some e → get nat_eq t.rows e.0 ≡ Some e.1)
    → (q : ℕ) → keeps_in t.rows.entries q ≡ (s.standing q && (s.opened q).persistent)
keeps_is t s h found q =
    keeps_by t.rows.entries q (get nat_eq t.rows q)
    (λ k e g i. sym (found k e g) ∙ ap (λ (z : ℕ). get nat_eq t.rows z) (eqb-true e.0 q i))
    ∙ by (get nat_eq t.rows q) refl (h.rows_are q)
  where
    none : (b : Bool) → (b && false) ≡ false
    none true = refl
    none false = refl

    by : (o : Option Row) → get nat_eq t.rows q ≡ o → OpenRowShown o (s.standing q) (s.opened q) (s.session_of_open q) (s.sequence q)
        (s.deadline q) (s.enumeration_location q, s.current_byte_offset q) (s.lock_sequences q)
        → (has q (keys_of t.rows.entries) && persistent_of o) ≡ (s.standing q && (s.opened q).persistent)
    by None e k = none (has q (keys_of t.rows.entries)) ∙ sym (ap (λ x. x && (s.opened q).persistent) k)
    by (Some r) e k = ap (λ x. x && r.persistent) (has_key q t.rows.entries r e)
        ∙ sym (ap (λ x. x && (s.opened q).persistent) k.0 ∙ ap (λ (w : model.Open). w.persistent) k.1.opened_is)

pub persistent_is : (opened : ℕ → model.Open) (os : List ℕ) → persistent_in opened os ≡ passing (λ o. (opened o).persistent) os
unfolding persistent_in
persistent_is opened [] = refl
persistent_is opened (o ∷ os) = let e = persistent_is opened os in grind (arith, common_steps)

pub ids_are : (t : Opens) (s : model.Server) (ids : List ℕ) → ShowsOpens t s → Fits s
    → ((k : ℕ) (e : ℕ × Row) → slice_get t.rows.entries k ≡ Some e → get nat_eq t.rows e.0 ≡ Some e.1)
    → is_ascending ids ≡ true → ((q : ℕ) → has q ids ≡ keeps_in t.rows.entries q) → ids ≡ persistent_in s.opened s.opens
ids_are t s ids h i found ascends same =
    ascending_same ids (passing (λ o. (s.opened o).persistent) s.opens) ascends
    (passing_ascends (λ o. (s.opened o).persistent) s.opens i.ascending)
    (λ q. same q ∙ (keeps_is t s h found q ∙ sym (has_passing (λ o. (s.opened o).persistent) q s.opens
    ∙ ap (λ x. x && (s.opened q).persistent) (i.listed q))))
    ∙ sym (persistent_is s.opened s.opens)

-- ---- the walk over the rows

pub keeps_on : (is was : ℕ → Bool) (all : ℕ → Bool) (it rest : List (ℕ × Row)) (id : ℕ) (row : Row) → it ≡ (id, row) ∷ rest
    → ((q : ℕ) → (was q || keeps_in it q) ≡ all q)
    → ((q : ℕ) → is q ≡ (if id == q then (row.persistent || was q) else was q)) → (q : ℕ) → (is q || keeps_in rest q) ≡ all q
keeps_on is was all it rest id row e h step q =
    ap (λ x. x || keeps_in rest q) (step q) ∙ (by (id == q) row.persistent (was q) (keeps_in rest q)
    ∙ (ap (λ (l : List (ℕ × Row)). was q || keeps_in l q) (sym e) ∙ h q))
  where
    by : (b p w r : Bool) → ((if b then (p || w) else w) || r) ≡ (w || (if b then (p || r) else r))
    by true true true r = refl
    by true true false r = refl
    by true false w r = refl
    by false p w r = refl

pub keeps_end : (is all : ℕ → Bool) (it : List (ℕ × Row)) → it ≡ [] → ((q : ℕ) → (is q || keeps_in it q) ≡ all q) → (q : ℕ) → is q ≡ all q
keeps_end is all it e h q = none (is q) ∙ (ap (λ (l : List (ℕ × Row)). is q || keeps_in l q) (sym e) ∙ h q)
  where
    none : (b : Bool) → b ≡ (b || false)
    none true = refl
    none false = refl
