-- What an answer does to the bytes of files and to the opens that stand, for whichever check answered.
use Rattle.law_order.proofs.order.Pairs.{tree_moves, content_drop}
use Rattle.std.proofs.lemmas.Bool.{eqb-false}
use Rattle.std.proofs.Common.{eqb-true, ◌⊎◌, inl, inr, ◌≡◌, ◌≢◌, ℕ, ◌≤◌, ◌<◌, ◌==◌, Bool, true, false, not, ◌&&◌, ◌||◌}
use Rattle.std.proofs.Common.{List, [], refl, arith, sym, subst, ◌∙◌, ap, Option, Some, None}
use Rattle.spec_exchange.specs.Table.{put, has}
use Rattle.spec_exchange.specs.Content.{written, ended}
use Rattle.spec_exchange.proofs.Content.{same_bytes-true}
use Rattle.spec_exchange.specs.Commands.{Command, Aside, Unreadable, Setup, Logoff, TreeConnect, TreeDisconnect, Create}
use Rattle.spec_exchange.specs.Commands.{Close, Flush, Read, Write, Lock, Ioctl, ListDirectory, QueryFile, QueryVolume}
use Rattle.spec_exchange.specs.Commands.{SetInfo, CreateRequest, Setting, SetBasic, Rename, SetDelete, SetAllocation}
use Rattle.spec_exchange.specs.Commands.{SetEnd}
use Rattle.spec_exchange.specs.Commands.{SetPosition, SetMode}
use Rattle.spec_exchange.specs.State.{Server, Message, Heard, Record, Answer, Body, Open}
use Rattle.spec_exchange.specs.Files.{root, exists, exists_in, empty_file}
use Rattle.spec_exchange.specs.Files.{file_attributes}
use Rattle.spec_exchange.specs.Opens.{id_of, denies_writers, writes, granted}
use Rattle.spec_exchange.specs.CheckCreate.{empties, shares}
use Rattle.spec_exchange.specs.CheckOpen.{file_of, has_access}
use Rattle.spec_exchange.specs.Effects.{apply, reach, change_file, change_acts, file_made, make_open, next_open}
use Rattle.spec_exchange.specs.Effects.{new_file, open_row, is_touched_at, set_ranges}
use Rattle.spec_exchange.specs.Verdict.{Verdict, Refuse, Give, KeepRefusal, Repeat, Attach, Make, TurnDown, Tell, Show}
use Rattle.spec_exchange.specs.Verdict.{KeepSlot, PutRanges, Alter, CloseOpen, Challenge, ChallengeBinding, Begin, Join}
use Rattle.spec_exchange.specs.Verdict.{EndSession, AddTree, DropTree, Change, PutBytes, PutEnd, PutBasic}
use Rattle.spec_exchange.specs.Verdict.{PutDeletePending, PutPath, PutNothing}
use Rattle.spec_exchange.specs.Step.{step}
use Rattle.spec_exchange.specs.Network.{answer_to}
use Rattle.law_server.proofs.tables.Doors.{by_verdict, recorded, Before}
use Rattle.law_server.proofs.tables.Logic.{either}
use Rattle.law_server.proofs.tables.Found.{Facts as Found, MakeFacts, AlterFacts, WriteFacts, SettingFacts, SettingSays, setting_change}
use Rattle.law_server.specs.tables.Fits.{Fits}
use Rattle.law_server.proofs.tables.Checked.{found}
use Rattle.law_server.proofs.tables.Stepped.{front_fits}
use Rattle.law_order.specs.order.Newest.{LowSequences}
use Rattle.law_order.specs.order.Contents.{Denied}
use Rattle.law_order.proofs.order.Pairs.{Moves, content_reach, content_attached, content_shut, content_end_named}
use Rattle.law_order.proofs.order.Pairs.{content_slot, file_alike, change_alike, slot_alike, attached_moves, reach_moves}
use Rattle.law_order.proofs.order.Pairs.{shut_moves, end_moves, end_named_moves}
use Rattle.law_order.proofs.order.Answers.{Earlier, earlier, Given, given_behind, verdict_facts, found_sound}
use Rattle.law_order.proofs.order.Sharing.{not_shared, admitted, emptying_writes, narrow_writes}

-- a command that may change the bytes of the open p's file
abbrev pub writes_to : Command → ℕ → Bool
writes_to (Write o at bytes channel) p = o == p
writes_to (SetInfo o (SetEnd size)) p = o == p
writes_to (SetInfo o (SetAllocation size)) p = o == p
writes_to _ p = false

pub record Writer (s : Server) (m : Message) (A : Answer) (f : ℕ) : Type 0 where
  pub open_id : ℕ
  pub standing : s.standing open_id ≡ true
  pub file : (s.opened open_id).file ≡ f
  pub access : writes (s.opened open_id).access ≡ true
  pub command : writes_to m.command open_id ≡ true
  pub acted : A.acted ≡ true

pub record Changing (s : Server) (m : Message) (A : Answer) : Type 0 where
  pub same : A.acted ≡ false → (f : ℕ) → A.server.content f ≡ s.content f
  -- under an open that denies writers only another's write changes bytes
  pub spared : (o : ℕ) → s.standing o ≡ true → A.server.standing o ≡ true → denies_writers (s.opened o).share ≡ true
      → (A.server.content (s.opened o).file ≡ s.content (s.opened o).file) ⊎ Writer s m A (s.opened o).file
  pub denied : Denied s → Denied A.server

-- what they need of the state
pub record Kept (s : Server) : Type 0 where
  pub listed : (o : ℕ) → has o s.opens ≡ s.standing o
  pub fresh : (o : ℕ) → s.standing o ≡ true → (s.opened o).file ≢ s.next_file
  pub ids : (o : ℕ) → s.standing o ≡ true → o ≤ id_of s.epoch s.open_ids_given

-- no open is made, and rows stay
denied_kept : (s t : Server) → ((o : ℕ) → t.standing o ≡ true → s.standing o ≡ true) → t.opened ≡ s.opened → Denied s → Denied t
denied_kept s t back row d o p so sp ne fe dn =
    let ro = ap (λ g. g o) row in let rp = ap (λ g. g p) row in
    ap (λ (r : Open). writes r.access) rp ∙ d o p (back o so) (back p sp) ne (ap (λ (r : Open). r.file) (sym ro)
    ∙ (fe ∙ ap (λ (r : Open). r.file) rp)) (ap (λ (r : Open). denies_writers r.share) (sym ro) ∙ dn)

-- no byte changes
-- no open is made
record Rows (s t : Server) : Type 0 where
  opened : t.opened ≡ s.opened
  stands : (o : ℕ) → t.standing o ≡ true → s.standing o ≡ true

rows_of : (s t : Server) → Moves s t → Rows s t
rows_of s t h = record { opened = h.row; stands = h.stands }

rows_on : (s t u : Server) → Rows s t → Rows t u → Rows s u
rows_on s t u a b = record { opened = b.opened ∙ a.opened; stands = λ o h. a.stands o (b.stands o h) }

rows_same : (s t : Server) → t.opened ≡ s.opened → t.standing ≡ s.standing → Rows s t
rows_same s t o st = record { opened = o; stands = λ q h. ap (λ f. f q) (sym st) ∙ h }

quiet_changing : (s : Server) (m : Message) (A : Answer) → Rows s A.server → A.server.content ≡ s.content → Changing s m A
quiet_changing s m A h c =
    record {
      same = λ a f. ap (λ g. g f) c;
      spared = λ o st sa dn. inl (ap (λ g. g (s.opened o).file) c);
      denied = denied_kept s A.server h.stands h.opened;
    }

-- ---- WRITE and SET_INFO

other_file : (s : Server) (f g now : ℕ) (change : Change) → g ≢ f → (change_file s f now change).content g ≡ s.content g
other_file s f g now (PutBytes at bytes) n = put_apart s.content f (written at bytes (s.content f)) g n
  where
    put_apart : (h : ℕ → List ℕ) (k : ℕ) (v : List ℕ) (q : ℕ) → q ≢ k → put h k v q ≡ h q
    put_apart h k v q n = grind arith
other_file s f g now (PutEnd size) n = put_apart s.content f (ended size (s.content f)) g n
  where
    put_apart : (h : ℕ → List ℕ) (k : ℕ) (v : List ℕ) (q : ℕ) → q ≢ k → put h k v q ≡ h q
    put_apart h k v q n = grind arith
other_file s f g now (PutBasic basic) n = refl
other_file s f g now (PutDeletePending flag) n = refl
other_file s f g now (PutPath replaced path) n = refl
other_file s f g now PutNothing n = refl

-- one that doesn't act leaves the bytes
own_file : (s t : Server) (f now : ℕ) (change : Change) → t.content ≡ s.content → change_acts s f now change ≡ false
    → (change_file t f now change).content f ≡ s.content f
own_file s t f now (PutBytes at bytes) c a = put_here t.content f (written at bytes (t.content f))
    ∙ (ap (λ g. written at bytes (g f)) c ∙ same_bytes-true (written at bytes (s.content f)) (s.content f)
    (first_of _ (is_touched_at (s.basic f) now) a))
  where
    put_here : (h : ℕ → List ℕ) (k : ℕ) (v : List ℕ) → put h k v k ≡ v
    put_here h k v = grind arith

    first_of : (x y : Bool) → not (x && y) ≡ false → x ≡ true
    first_of x y e = grind arith
own_file s t f now (PutEnd size) c a = put_here t.content f (ended size (t.content f))
    ∙ (ap (λ g. ended size (g f)) c ∙ same_bytes-true (ended size (s.content f)) (s.content f)
    (first_of _ (is_touched_at (s.basic f) now) a))
  where
    put_here : (h : ℕ → List ℕ) (k : ℕ) (v : List ℕ) → put h k v k ≡ v
    put_here h k v = grind arith

    first_of : (x y : Bool) → not (x && y) ≡ false → x ≡ true
    first_of x y e = grind arith
own_file s t f now (PutBasic basic) c a = ap (λ g. g f) c
own_file s t f now (PutDeletePending flag) c a = ap (λ g. g f) c
own_file s t f now (PutPath replaced path) c a = ap (λ g. g f) c
own_file s t f now PutNothing c a = ap (λ g. g f) c

alters_bytes : Change → Bool
alters_bytes (PutBytes at bytes) = true
alters_bytes (PutEnd size) = true
alters_bytes _ = false

unaltered : (s t : Server) (f now : ℕ) (change : Change) → t.content ≡ s.content → alters_bytes change ≡ false
    → (change_file t f now change).content f ≡ s.content f
unfolding alters_bytes
unaltered s t f now (PutBytes at bytes) c a = absurd (cc)
unaltered s t f now (PutEnd size) c a = absurd (cc)
unaltered s t f now (PutBasic basic) c a = ap (λ g. g f) c
unaltered s t f now (PutDeletePending flag) c a = ap (λ g. g f) c
unaltered s t f now (PutPath replaced path) c a = ap (λ g. g f) c
unaltered s t f now PutNothing c a = ap (λ g. g f) c

-- one that may change bytes is a write or an end of this open, which has write access
Asks : Server → Message → ℕ → Change → Type 0
Asks s m o change = (alters_bytes change ≡ false) ⊎ (has_access s o 0x2 ≡ true × writes_to m.command o ≡ true)

setting_asks : (s : Server) (m : Message) (o : ℕ) (setting : Setting) (change : Change) → m.command ≡ SetInfo o setting
    → change ≡ setting_change s o setting → SettingSays s o setting → Asks s m o change
unfolding Asks alters_bytes
setting_asks s m o (SetBasic basic) change e c h = inl (ap alters_bytes c)
setting_asks s m o (Rename replace path) change e c h = inl (ap alters_bytes c)
setting_asks s m o (SetDelete flag) change e c h = inl (ap alters_bytes c)
setting_asks s m o (SetAllocation size) change e c h = inr (h.access, ap (λ x. writes_to x o) e ∙ same_test o)
  where
    same_test : (o : ℕ) → (o == o) ≡ true
    same_test o = grind arith
setting_asks s m o (SetEnd size) change e c h = inr (h.access, ap (λ x. writes_to x o) e ∙ same_test o)
  where
    same_test : (o : ℕ) → (o == o) ≡ true
    same_test o = grind arith
setting_asks s m o (SetPosition position) change e c h = inl (ap alters_bytes c)
setting_asks s m o SetMode change e c h = inl (ap alters_bytes c)

alter_asks : (s : Server) (m : Message) (o : ℕ) (change : Change) (body : Body) → WriteFacts s m o change body
    ⊎ SettingFacts s m o change body → Asks s m o change
unfolding Asks
alter_asks s m o change body (inl w) = inr (w.access, ap (λ x. writes_to x o) w.command ∙ same_test o)
  where
    same_test : (o : ℕ) → (o == o) ≡ true
    same_test o = grind arith
alter_asks s m o change body (inr w) = setting_asks s m o w.setting change w.command w.change_is w.says

has_writes : (s : Server) (o : ℕ) → has_access s o 0x2 ≡ true → writes (s.opened o).access ≡ true
unfolding writes
has_writes s o e = grind arith

alter_changing : (s : Server) (m : Message) (o now : ℕ) (change : Change) (body : Body) → AlterFacts s m o change body
    → Rows s (apply s m now (Alter o change body)).server → Changing s m (apply s m now (Alter o change body))
unfolding Asks
alter_changing s m o now change body h mv =
    record {
      same = λ a f. all_same a f;
      spared = λ q st sa dn. by_acts (change_acts s (file_of s o) now change) refl q;
      denied = denied_kept s (apply s m now (Alter o change body)).server mv.stands mv.opened;
    }
  where
    all_same : change_acts s (file_of s o) now change ≡ false → (f : ℕ)
        → (change_file (reach s m o) (file_of s o) now change).content f ≡ s.content f
    all_same a f =
        elim (f == file_of s o) as (λ b. f == file_of s o ≡ b
        → (change_file (reach s m o) (file_of s o) now change).content f ≡ s.content f) [
          | true ↦ λ z. subst (λ g. (change_file (reach s m o) (file_of s o) now change).content g ≡ s.content g)
              (sym (eqb-true f (file_of s o) z)) (own_file s (reach s m o) (file_of s o) now change
              (content_reach s m o) a)
          | false ↦ λ z. other_file (reach s m o) (file_of s o) f now change (eqb-false f (file_of s o) z)
              ∙ ap (λ g. g f) (content_reach s m o)
        ] refl

    by_asks : Asks s m o change → (f : ℕ) → (apply s m now (Alter o change body)).acted ≡ true → f ≡ file_of s o
        → ((change_file (reach s m o) (file_of s o) now change).content f ≡ s.content f)
        ⊎ Writer s m (apply s m now (Alter o change body)) f
    by_asks (inl n) f a e = inl (subst (λ g. (change_file (reach s m o) (file_of s o) now change).content g
        ≡ s.content g) (sym e) (unaltered s (reach s m o) (file_of s o) now change (content_reach s m o) n))
    by_asks (inr w) f a e = inr (record {
      open_id = o;
      standing = h.opened.standing;
      file = sym e;
      access = has_writes s o w.0;
      command = w.1;
      acted = a;
    })

    by_acts : (b : Bool) → change_acts s (file_of s o) now change ≡ b → (q : ℕ)
        → ((change_file (reach s m o) (file_of s o) now change).content (s.opened q).file ≡ s.content (s.opened q).file)
        ⊎ Writer s m (apply s m now (Alter o change body)) (s.opened q).file
    by_acts false a q = inl (all_same a (s.opened q).file)
    by_acts true a q =
        elim ((s.opened q).file == file_of s o) as (λ b. (s.opened q).file == file_of s o ≡ b
        → ((change_file (reach s m o) (file_of s o) now change).content (s.opened q).file
        ≡ s.content (s.opened q).file) ⊎ Writer s m (apply s m now (Alter o change body)) (s.opened q).file) [
          | true ↦ λ z. by_asks (alter_asks s m o change body h.asked) (s.opened q).file a (eqb-true _ _ z)
          | false ↦ λ z. inl (other_file (reach s m o) (file_of s o) (s.opened q).file now change (eqb-false _ _ z)
              ∙ ap (λ g. g (s.opened q).file) (content_reach s m o))
        ] refl

-- ---- CREATE

made_bytes : (s : Server) (r : CreateRequest) (found : Option ℕ) (now f o : ℕ) → Kept s → s.standing o ≡ true
    → (s.opened o).file ≡ f → denies_writers (s.opened o).share ≡ true → shares s r found ≡ true
    → (file_made s r found now).content f ≡ s.content f
made_bytes s r None now f o k st e dn sh = put_apart s.content s.next_file _ f (λ z. k.fresh o st (e ∙ z))
  where
    put_apart : (h : ℕ → List ℕ) (j : ℕ) (v : List ℕ) (q : ℕ) → q ≢ j → put h j v q ≡ h q
    put_apart h j v q n = grind arith
made_bytes s r (Some g) now f o k st e dn sh =
    either (λ (t : Server). t.content f ≡ s.content f) (empties r.disposition) (empty_file s g (file_attributes r.attributes) now) s
    (λ em. put_apart s.content g _ f (λ z. absurd (clash em z))) (λ _. refl)
  where
    put_apart : (h : ℕ → List ℕ) (j : ℕ) (v : List ℕ) (q : ℕ) → q ≢ j → put h j v q ≡ h q
    put_apart h j v q n = grind arith

    clash : empties r.disposition ≡ true → f ≡ g → ⊥
    clash em z = let a = admitted s r g o sh (k.listed o ∙ st) (e ∙ z) in not_shared _ _ a.0 (emptying_writes s r g em) dn

abbrev Apart : (ℕ → Bool) → (ℕ → Open) → Type 0
Apart standing opened = (o p : ℕ) → standing o ≡ true → standing p ≡ true → o ≢ p → (opened o).file ≡ (opened p).file
    → denies_writers (opened o).share ≡ true → writes (opened p).access ≡ false

-- one more open stands
apart_more : (standing : ℕ → Bool) (opened : ℕ → Open) (n : ℕ) (row : Open) → Apart standing opened
    → ((p : ℕ) → standing p ≡ true → (opened p).file ≡ row.file → denies_writers row.share ≡ true → writes (opened p).access ≡ false)
    → ((o : ℕ) → standing o ≡ true → (opened o).file ≡ row.file → denies_writers (opened o).share ≡ true
    → writes row.access ≡ false) → Apart (put standing n true) (put opened n row)
apart_more standing opened n row d from_new to_new o p so sp ne fe dn =
    elim (o == n) as (λ b. o == n ≡ b → writes (put opened n row p).access ≡ false) [
      | true ↦ λ zo. let on : o ≡ n = eqb-true o n zo in let ro = new_row o on in
          elim (p == n) as (λ b. p == n ≡ b → writes (put opened n row p).access ≡ false) [
            | true ↦ λ zp. absurd (ne (on ∙ sym (eqb-true p n zp)))
            | false ↦ λ zp. let rp = old_row p (eqb-false p n zp) in
                ap (λ (r : Open). writes r.access) rp ∙ from_new p (old_standing p (eqb-false p n zp) sp)
                (ap (λ (r : Open). r.file) (sym rp) ∙ (sym fe ∙ ap (λ (r : Open). r.file) ro))
                (ap (λ (r : Open). denies_writers r.share) (sym ro) ∙ dn)
          ] refl
      | false ↦ λ zo. let ro = old_row o (eqb-false o n zo) in let st = old_standing o (eqb-false o n zo) so in
          elim (p == n) as (λ b. p == n ≡ b → writes (put opened n row p).access ≡ false) [
            | true ↦ λ zp. let rp = new_row p (eqb-true p n zp) in
                ap (λ (r : Open). writes r.access) rp ∙ to_new o st (ap (λ (r : Open). r.file) (sym ro)
                ∙ (fe ∙ ap (λ (r : Open). r.file) rp)) (ap (λ (r : Open). denies_writers r.share) (sym ro) ∙ dn)
            | false ↦ λ zp. let rp = old_row p (eqb-false p n zp) in
                ap (λ (r : Open). writes r.access) rp ∙ d o p st (old_standing p (eqb-false p n zp) sp) ne
                (ap (λ (r : Open). r.file) (sym ro) ∙ (fe ∙ ap (λ (r : Open). r.file) rp))
                (ap (λ (r : Open). denies_writers r.share) (sym ro) ∙ dn)
          ] refl
    ] refl
  where
    new_row : (q : ℕ) → q ≡ n → put opened n row q ≡ row
    new_row q e = grind arith

    old_row : (q : ℕ) → q ≢ n → put opened n row q ≡ opened q
    old_row q e = grind arith

    old_standing : (q : ℕ) → q ≢ n → put standing n true q ≡ true → standing q ≡ true
    old_standing q e h = grind arith

by_bool : (b : Bool) → (b ≡ true → ⊥) → b ≡ false
by_bool true f = absurd (f refl)
by_bool false f = refl

file_of_new : (s : Server) (found : Option ℕ) (o : ℕ) → Kept s → s.standing o ≡ true → (s.opened o).file
    ≡ new_file s found → found ≡ Some (s.opened o).file
file_of_new s None o k st e = absurd (k.fresh o st e)
file_of_new s (Some f) o k st e = ap Some (sym e)

made_denied : (s : Server) (m : Message) (r : CreateRequest) (found : Option ℕ) (action now : ℕ) → Kept s
    → shares s r found ≡ true → Denied s → Denied (make_open s m r found action now)
made_denied s m r found action now k sh d =
    let u = file_made s r found now in let al = file_alike s r found now in let row = open_row s m r (new_file s found) action in
    subst (λ st. Apart (put st (next_open s) true) (put u.opened (next_open s) row)) (sym al.standing)
    (subst (λ op. Apart (put s.standing (next_open s) true) (put op (next_open s) row)) (sym al.opened)
    (apart_more s.standing s.opened (next_open s) row d
    (λ p st e dn. by_bool (writes (s.opened p).access) (λ w. let a = admitted s r (s.opened p).file p
    (subst (λ f. shares s r f ≡ true) (file_of_new s found p k st e) sh) (k.listed p ∙ st) refl in
    not_shared _ _ a.1 w dn))
    (λ o st e dn. by_bool (writes (granted s (new_file s found) r.access)) (λ w. let a = admitted s r (s.opened o).file o
    (subst (λ f. shares s r f ≡ true) (file_of_new s found o k st e) sh) (k.listed o ∙ st) refl in
    not_shared _ _ a.0 (narrow_writes s r (s.opened o).file
    (subst (λ f. writes (granted s f r.access) ≡ true) (sym e) w)) dn))))

make_changing : (s : Server) (m : Message) (r : CreateRequest) (found : Option ℕ) (action now : ℕ) → Kept s
    → MakeFacts s m r found action → Changing s m (apply s m now (Make r found action))
make_changing s m r found action now k h =
    record {
      same = λ a. absurd (cc);
      spared = λ o st sa dn. inl (made_bytes s r found now (s.opened o).file o k st refl dn h.shared);
      denied = made_denied s m r found action now k h.shared;
    }

-- ---- by verdict

verdict_changing : (s : Server) (m : Message) (now : ℕ) → Kept s → Given s m → (v : Verdict) → Found s m v → Changing s m (apply s m now v)
verdict_changing s m now k g (Refuse status) h = quiet_changing s m _ (record { opened = refl; stands = λ o h. h }) refl
verdict_changing s m now k g (Give body) h = quiet_changing s m _ (record { opened = refl; stands = λ o h. h }) refl
verdict_changing s m now k g (KeepRefusal guid status) h = quiet_changing s m _ (record { opened = refl; stands = λ o h. h }) refl
verdict_changing s m now k g (Repeat o r) h = quiet_changing s m _ (rows_of s _ (attached_moves s m o g.sequence)) (content_attached s m o)
verdict_changing s m now k g (Attach o r) h = quiet_changing s m _ (rows_of s _ (attached_moves s m o g.sequence)) (content_attached s m o)
verdict_changing s m now k g (Make r found action) h = make_changing s m r found action now k h
verdict_changing s m now k g (TurnDown o status) h = quiet_changing s m _
    (rows_of s _ (reach_moves s m o g.low g.sequence)) (content_reach s m o)
verdict_changing s m now k g (Tell o body) h = quiet_changing s m _ (rows_of s _ (reach_moves s m o g.low g.sequence)) (content_reach s m o)
verdict_changing s m now k g (Show o last body) h = quiet_changing s m _
    (rows_on s (reach s m o) _ (rows_of s _ (reach_moves s m o g.low g.sequence)) (rows_same (reach s m o) _ refl refl))
    (content_reach s m o)
verdict_changing s m now k g (KeepSlot o index number status elements) h = quiet_changing s m _
    (rows_on s (reach s m o) _ (rows_of s _ (reach_moves s m o g.low g.sequence))
    (let a = slot_alike (reach s m o) o index number status in rows_same (reach s m o) _ a.opened a.standing))
    (content_slot (reach s m o) o index number status ∙ content_reach s m o)
verdict_changing s m now k g (PutRanges o index number ranges elements) h = quiet_changing s m _
    (rows_on s (reach s m o) _ (rows_of s _ (reach_moves s m o g.low g.sequence))
    (let a = slot_alike (set_ranges (reach s m o) (file_of s o) ranges) o index number 0 in rows_same (reach s m o) _
    a.opened a.standing)) (content_slot (set_ranges (reach s m o) (file_of s o) ranges) o index number 0
    ∙ content_reach s m o)
verdict_changing s m now k g (Alter o change body) h = alter_changing s m o now change body h
    (rows_on s (reach s m o) _ (rows_of s _ (reach_moves s m o g.low g.sequence))
    (let a = change_alike (reach s m o) (file_of s o) now change in rows_same (reach s m o) _ a.opened a.standing))
verdict_changing s m now k g (CloseOpen o body) h = quiet_changing s m _
    (rows_of s _ (shut_moves s o m.session_id (s.opened o).create_guid))
    (content_shut s o m.session_id (s.opened o).create_guid)
verdict_changing s m now k g Challenge h = quiet_changing s m _ (record { opened = refl; stands = λ o h. h }) refl
verdict_changing s m now k g (ChallengeBinding session) h = quiet_changing s m _ (record { opened = refl; stands = λ o h. h }) refl
verdict_changing s m now k g (Begin session user previous r is_quiet) h = quiet_changing s m _
    (let e = end_named_moves s now previous is_quiet in record { opened = e.row; stands = e.stands })
    (content_end_named s now previous is_quiet)
verdict_changing s m now k g (Join session) h = quiet_changing s m _ (record { opened = refl; stands = λ o h. h }) refl
verdict_changing s m now k g (EndSession session is_quiet) h = quiet_changing s m _ (rows_of s _ (end_moves s session now is_quiet)) refl
verdict_changing s m now k g (AddTree pipes) h = quiet_changing s m _ (record { opened = refl; stands = λ o h. h }) refl
verdict_changing s m now k g DropTree h = quiet_changing s m _ (rows_of s _ (tree_moves s m.session_id m.tree_id))
    (content_drop s m.session_id m.tree_id)

-- ---- the event

writer_before : (s t : Server) (m : Message) (A : Answer) (f : ℕ) → Earlier s t → Writer t m A f → Writer s m A f
writer_before s t m A f k w =
    let row = ap (λ g. g w.open_id) k.moves.row in
    record {
      open_id = w.open_id;
      standing = k.moves.stands w.open_id w.standing;
      file = ap (λ (r : Open). r.file) (sym row) ∙ w.file;
      access = ap (λ (r : Open). writes r.access) (sym row) ∙ w.access;
      command = w.command;
      acted = w.acted;
    }

changing_before : (s t : Server) (m : Message) (A : Answer) → Earlier s t
    → ((o : ℕ) → s.standing o ≡ true → A.server.standing o ≡ true → t.standing o ≡ true) → Changing t m A
    → Changing s m A
changing_before s t m A k back f =
    record {
      same = λ a g. f.same a g ∙ ap (λ h. h g) k.content;
      spared = λ o st sa dn. by_side o (f.spared o (back o st sa) sa (ap (λ g. denies_writers (g o).share) k.moves.row ∙ dn));
      denied = λ d. f.denied (denied_kept s t k.moves.stands k.moves.row d);
    }
  where
    by_side : (o : ℕ) → (A.server.content (t.opened o).file ≡ t.content (t.opened o).file)
        ⊎ Writer t m A (t.opened o).file → (A.server.content (s.opened o).file ≡ s.content (s.opened o).file)
        ⊎ Writer s m A (s.opened o).file
    by_side o (inl e) = let row : (t.opened o).file ≡ (s.opened o).file = ap (λ g. (g o).file) k.moves.row in
        inl (subst (λ f. A.server.content f ≡ s.content f) row (e ∙ ap (λ h. h (t.opened o).file) k.content))
    by_side o (inr w) = let row : (t.opened o).file ≡ (s.opened o).file = ap (λ g. (g o).file) k.moves.row in
        inr (subst (Writer s m A) row (writer_before s t m A (t.opened o).file k w))

changing_recorded : (s : Server) (m : Message) (A : Answer) (records : List Record) → Changing s m A → Changing s m (recorded A records)
changing_recorded s m A records f =
    record { same = f.same; spared = λ o st sa dn. by_side o (f.spared o st sa dn); denied = f.denied }
  where
    by_side : (o : ℕ) → (A.server.content (s.opened o).file ≡ s.content (s.opened o).file)
        ⊎ Writer s m A (s.opened o).file → (A.server.content (s.opened o).file ≡ s.content (s.opened o).file)
        ⊎ Writer s m (recorded A records) (s.opened o).file
    by_side o (inl e) = inl e
    by_side o (inr w) = inr (record {
      open_id = w.open_id;
      standing = w.standing;
      file = w.file;
      access = w.access;
      command = w.command;
      acted = w.acted;
    })

-- what fits behind an expiry too
pub fits_before : (s : Server) (now : ℕ) (m : Message) (t : Server) → Before s now t → Fits s → Fits t
fits_before s now m t (inl e) f = (front_fits s now (Heard m) t [] (inl (e, refl)) f).0
fits_before s now m t (inr (o, d, e)) f = (front_fits s now (Heard m) t _ (inr (o, d, e, refl)) f).0

other_number : (s : Server) (f : ℕ) → exists s f ≡ true → 0 < s.next_file
    → (exists_in s.entries f ≡ true → f < s.next_file) → f ≢ s.next_file
unfolding exists
other_number s f e n l z = elim (f == root) as (λ b. f == root ≡ b → ⊥) [
  | true ↦ λ r. let q : f ≡ 0 = eqb-true f root r in absurd (omega (arith, q, n, z))
  | false ↦ λ r. let q = l (rest_of (f == root) (exists_in s.entries f) r e) in absurd (omega (arith, q, z))
] refl
  where
    rest_of : (a b : Bool) → a ≡ false → (a || b) ≡ true → b ≡ true
    rest_of a b x y = grind arith

pub kept_of : (s : Server) → Fits s → Kept s
kept_of s f =
    record {
      listed = f.listed;
      fresh = λ o st. other_number s (s.opened o).file (f.open_files o st) f.next_file
          (λ e. (f.file_numbers (s.opened o).file e).1);
      ids = λ o st. (f.open_ids o st).1;
    }

pub given_of : (s : Server) (m : Message) → Fits s → LowSequences s → m.channel_sequence ≤ 32767 → Given s m
given_of s m f low l =
    record {
      low = low;
      sequence = l;
      attached = λ o x e. (f.attached o x e).1;
      named = λ c g o e. (f.open_ids o (f.guid_open c g o e).0).1;
      ids = λ o e. (f.open_ids o e).1;
    }

changing_step : (s : Server) (now : ℕ) (m : Message) → Fits s → LowSequences s → m.channel_sequence ≤ 32767
    → Changing s m (step s now (Heard m))
changing_step s now m f low l =
    by_verdict (Changing s m) s now m
    (λ t v records b h. let k = earlier s now t b in let ft = fits_before s now m t b f in let g = given_behind s t m
    (given_of s m f low l) k in
    let pf = verdict_facts t m now g v (found_sound t m v h) in
    changing_recorded s m _ records
    (changing_before s t m _ k (λ o st sa. pf.stands o (same_ids s t k o (f.open_ids o st).1) sa)
    (verdict_changing t m now (kept_of t ft) g v (found t m v h))))
  where
    same_ids : (s t : Server) → Earlier s t → (o : ℕ) → o ≤ id_of s.epoch s.open_ids_given → o ≤ id_of t.epoch t.open_ids_given
    same_ids s t k o l = let a = k.moves.epoch in let b = k.moves.given in same s.epoch s.open_ids_given t.epoch t.open_ids_given o a b l
      where
        same : (e g e2 g2 o : ℕ) → e2 ≡ e → g2 ≡ g → o ≤ id_of e g → o ≤ id_of e2 g2
        same e g e2 g2 o a b l = omega (arith, a, b, l)

pub changing : (s : Server) (now : ℕ) (m : Message) (c : Command) → Fits s → LowSequences s → m.channel_sequence ≤ 32767
    → Changing s m (answer_to s now m c)
changing s now m (Aside status) f low l = quiet_changing s m _ (rows_same s s refl refl) refl
changing s now m (Unreadable status) f low l = changing_step s now m f low l
changing s now m (Setup request) f low l = changing_step s now m f low l
changing s now m Logoff f low l = changing_step s now m f low l
changing s now m (TreeConnect share) f low l = changing_step s now m f low l
changing s now m TreeDisconnect f low l = changing_step s now m f low l
changing s now m (Create request) f low l = changing_step s now m f low l
changing s now m (Close file query) f low l = changing_step s now m f low l
changing s now m (Flush file) f low l = changing_step s now m f low l
changing s now m (Read file at size minimum channel) f low l = changing_step s now m f low l
changing s now m (Write file at bytes channel) f low l = changing_step s now m f low l
changing s now m (Lock file index number elements) f low l = changing_step s now m f low l
changing s now m (Ioctl file code room) f low l = changing_step s now m f low l
changing s now m (ListDirectory file class restart single pattern room) f low l = changing_step s now m f low l
changing s now m (QueryFile file class room) f low l = changing_step s now m f low l
changing s now m (QueryVolume file class room) f low l = changing_step s now m f low l
changing s now m (SetInfo file setting) f low l = changing_step s now m f low l
