-- Frames that begin as sealed ones are spelled by seals that are noted.
use Rattle.std.proofs.Common.{◌≡◌, ℕ, zero, suc, Bool, true, false, List, [], ◌∷◌, ◌++◌, refl, sym, ◌∙◌, subst, Option}
use Rattle.std.proofs.Common.{Some, None, slice_get}
use Rattle.spec_exchange.specs.Table.{put}
use Rattle.spec_exchange.specs.ClientStep.{Act, Nothing, Sends, Asks, CloseChannel, CloseChannels, AllSettled}
use Rattle.spec_crypto.specs.declared.sessions.material.Keys.{Keys}
use Rattle.spec_world.specs.Ends.{ClientEnd}
use Rattle.spec_world.specs.Hearing.{begins_sealed}
use Rattle.spec_world.specs.Answering.{Seal}
use Rattle.spec_world.specs.World.{World, Wires, with_client_end, client_end_off, all_off, one_off, closed_wires, off_by}
use Rattle.spec_world.specs.Statements.{IsSpelledBy}
use Rattle.law_nonces.proofs.negotiation.Tables.{by_key}

-- ---- a frame

abbrev pub IsKept : List Seal → Keys → Bool → List ℕ → Type 0
IsKept seals keys to_server frame = (j : ℕ) × (a : Seal) × (slice_get seals j ≡ Some a) × IsSpelledBy keys to_server frame a

-- under the keys of a server's end
abbrev pub Told : List Seal → Option Keys → List ℕ → Type 0
Told seals o frame = (keys : Keys) × (o ≡ Some keys) × IsKept seals keys false frame

none_there : {X : Type 0} (j : ℕ) (a : Seal) → slice_get [] j ≡ Some a → X
none_there zero a e = absurd (let h : None ≡ Some a = e in cc)
none_there (suc j) a e = absurd (let h : None ≡ Some a = e in cc)

still_there : (xs ys : List Seal) (j : ℕ) (a : Seal) → slice_get xs j ≡ Some a → slice_get (xs ++ ys) j ≡ Some a
still_there [] ys j a e = none_there j a e
still_there (x ∷ xs) ys zero a e = e
still_there (x ∷ xs) ys (suc j) a e = still_there xs ys j a e

pub last_there : (xs : List Seal) (a : Seal) → (j : ℕ) × (slice_get (xs ++ a ∷ []) j ≡ Some a)
last_there [] a = (0, refl)
last_there (x ∷ xs) a = let h = last_there xs a in (suc h.0, h.1)

kept_more : (xs ys : List Seal) (keys : Keys) (d : Bool) (frame : List ℕ) → IsKept xs keys d frame → IsKept (xs ++ ys) keys d frame
kept_more xs ys keys d frame h = (h.0, h.1, still_there xs ys h.0 h.1 h.2, h.3)

pub told_more : (xs ys : List Seal) (o : Option Keys) (frame : List ℕ) → Told xs o frame → Told (xs ++ ys) o frame
told_more xs ys o frame h = (h.0, h.1, kept_more xs ys h.0 false frame h.2)

-- ---- frames

abbrev pub AllKept : (List ℕ → Type 0) → List (List ℕ) → Type 0
AllKept P [] = Unit {0}
AllKept P (b ∷ bs) = (begins_sealed b ≡ true → P b) × AllKept P bs

pub all_none : (P : List ℕ → Type 0) (bs : List (List ℕ)) → bs ≡ [] → AllKept P bs
all_none P bs e = subst (AllKept P) (sym e) tt

pub all_plain : (P : List ℕ → Type 0) (b : List ℕ) → begins_sealed b ≡ false → AllKept P (b ∷ [])
all_plain P b e = ((λ s. absurd (let h : true ≡ false = sym s ∙ e in cc)), tt)

pub all_more : (P : List ℕ → Type 0) (xs ys : List (List ℕ)) → AllKept P xs → AllKept P ys → AllKept P (xs ++ ys)
all_more P [] ys h i = i
all_more P (x ∷ xs) ys h i = (h.0, all_more P xs ys h.1 i)

pub all_by : (P Q : List ℕ → Type 0) (xs : List (List ℕ)) → ((b : List ℕ) → P b → Q b) → AllKept P xs → AllKept Q xs
all_by P Q [] f h = tt
all_by P Q (x ∷ xs) f h = ((λ s. f x (h.0 s)), all_by P Q xs f h.1)

no_frame : {X : Type 0} (i : ℕ) (b : List ℕ) → slice_get [] i ≡ Some b → X
no_frame zero b e = absurd (let h : None ≡ Some b = e in cc)
no_frame (suc i) b e = absurd (let h : None ≡ Some b = e in cc)

same_frame : (x b : List ℕ) → Some x ≡ Some b → x ≡ b
same_frame x b e = cc

pub all_at : (P : List ℕ → Type 0) (xs : List (List ℕ)) (i : ℕ) (b : List ℕ) → AllKept P xs → slice_get xs i ≡ Some b
    → begins_sealed b ≡ true → P b
all_at P [] i b h e s = no_frame i b e
all_at P (x ∷ xs) zero b h e s =
    let is : x ≡ b = same_frame x b e in
    subst P is (h.0 (subst (λ q. begins_sealed q ≡ true) (sym is) s))
all_at P (x ∷ xs) (suc i) b h e s = all_at P xs i b h.1 e s

-- ---- the whole world

abbrev pub UpKept : List Seal → Keys → List (List ℕ) → Type 0
UpKept seals keys up = AllKept (IsKept seals keys true) up

abbrev pub DownKept : List Seal → Option Keys → List (List ℕ) → Type 0
DownKept seals o down = AllKept (Told seals o) down

pub record Spells (seals : List Seal) (wires : ℕ → Wires) : Type 0 where
  pub ups : (j : ℕ) → UpKept seals (wires j).client_end.keys (wires j).up
  pub downs : (j : ℕ) → DownKept seals (wires j).server_end.keys (wires j).down

abbrev pub SpellsOf : World → Type 0
SpellsOf w = Spells w.sealings w.wires

pub up_more : (seals more : List Seal) (keys : Keys) (up : List (List ℕ)) → UpKept seals keys up → UpKept (seals ++ more) keys up
up_more seals more keys up h =
    all_by (IsKept seals keys true) (IsKept (seals ++ more) keys true) up (λ b e. kept_more seals more keys true b e) h

pub down_more : (seals more : List Seal) (o : Option Keys) (down : List (List ℕ)) → DownKept seals o down → DownKept (seals ++ more) o down
down_more seals more o down h =
    all_by (Told seals o) (Told (seals ++ more) o) down (λ b e. told_more seals more o b e) h

pub one : (seals : List Seal) (wires : ℕ → Wires) (k : ℕ) (u : Wires) → UpKept seals u.client_end.keys u.up
    → DownKept seals u.server_end.keys u.down → Spells seals wires → Spells seals (put wires k u)
one seals wires k u up down h =
    record {
      ups = by_key (λ j (v : Wires). UpKept seals v.client_end.keys v.up) wires k u up (λ j off. h.ups j);
      downs = by_key (λ j (v : Wires). DownKept seals v.server_end.keys v.down) wires k u down (λ j off. h.downs j);
    }

pub grown : (seals more : List Seal) (wires : ℕ → Wires) → Spells seals wires → Spells (seals ++ more) wires
grown seals more wires h =
    record {
      ups = λ j. up_more seals more (wires j).client_end.keys (wires j).up (h.ups j);
      downs = λ j. down_more seals more (wires j).server_end.keys (wires j).down (h.downs j);
    }

-- ---- ends that close

pub one_closed : (x : World) (k : ℕ) → SpellsOf x → SpellsOf (one_off x k)
one_closed x k h = one x.sealings x.wires k (client_end_off (x.wires k)) (h.ups k) tt h

pub all_closed : (x : World) → SpellsOf x → SpellsOf (all_off x)
all_closed x h = record { ups = h.ups; downs = λ j. tt }

pub closed : (x : World) (k : ℕ) (a : Act) → SpellsOf x → SpellsOf (closed_wires x k a)
closed x k CloseChannels h = all_closed x h
closed x k CloseChannel h = one_closed x k h
closed x k Nothing h = h
closed x k (Sends g) h = h
closed x k (Asks g) h = h
closed x k AllSettled h = h

pub off_closed : (x : World) (k : ℕ) (a : Act) → SpellsOf x → SpellsOf (off_by x k a)
off_closed x k CloseChannels h = all_closed x h
off_closed x k CloseChannel h = one_closed x k h
off_closed x k Nothing h = one_closed x k h
off_closed x k (Sends g) h = one_closed x k h
off_closed x k (Asks g) h = one_closed x k h
off_closed x k AllSettled h = one_closed x k h

pub moved : (x : World) (k : ℕ) (n : ClientEnd) → UpKept x.sealings n.keys (x.wires k).up → SpellsOf x → SpellsOf (with_client_end x k n)
moved x k n up h = one x.sealings x.wires k (record (x.wires k) { client_end = n }) up (h.downs k) h
