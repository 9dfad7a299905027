-- A frame of which each message has a fault doesn't act.
use Rattle.std.proofs.Common.{◌≡◌, ℕ, zero, suc, ◌+◌, Bool, true, false, not, ◌&&◌, ◌||◌, List, [], ◌∷◌, ◌⊎◌, inl, inr}
use Rattle.std.proofs.Common.{refl, sym, ◌∙◌, ap, subst, Option, Some, None, slice_get, Result, Ok, Err, add-one, option_map}
use Rattle.std.specs.Prelude.{is_some}
use Rattle.spec_wire.specs.declared.messages.header.Header.{Header}
use Rattle.spec_exchange.specs.Commands.{Command, Aside, Unreadable, Setup, Logoff, TreeConnect, TreeDisconnect, Create, Close, Flush}
use Rattle.spec_exchange.specs.Commands.{Read, Write, Lock, Ioctl, ListDirectory, QueryFile, QueryVolume, SetInfo}
use Rattle.spec_exchange.specs.State.{Server, Message, Answer}
use Rattle.spec_exchange.specs.Network.{answer_to}
use Rattle.spec_commands.specs.CommandOf.{Told, heard_as, command_of, message_of}
use Rattle.law_server.proofs.tables.Logic.{either, back_of}
use Rattle.spec_world.specs.Settings.{WorldSettings, ServerSettings}
use Rattle.spec_world.specs.Ends.{ServerEnd, Logons, ConnEnd}
use Rattle.spec_world.specs.Hearing.{Checked, Frame, check_frame, is_misplaced}
use Rattle.spec_world.specs.Related.{Carry, Turn, Goes, Fails, turn_of, can_follow, with_ids}
use Rattle.spec_world.specs.Answering.{has_nonces}
use Rattle.spec_world.specs.Connection.{ConnectionStep, LastTaken, Going, went_all, went_turn, went_heard, heard_message, placed, misplaced}
use Rattle.spec_world.specs.Connection.{told_of, taken_with, beginning, answered, step_of}
use Rattle.law_nonces.proofs.negotiation.Guarded.{guarded}
use Rattle.spec_hostile.specs.RepeatRuns.{RepeatWorld, UpFrame, is_served, loaded_up}
use Rattle.spec_hostile.specs.HostileNetwork.{took_acts, is_own_send, put_acts}
use Rattle.law_hostile.specs.acts.Acting.{HasGuarded, ActsAreGuarded}
use Rattle.law_hostile.proofs.acts.Faulty.{faulty_acts_not}
use Rattle.law_hostile.proofs.taken_ids.Ends.{put_ends}

-- ---- what is heard has the fault that was found

placed_fault : (b : Bool) (t : Told) (h : Header) (o : Option Command) (m : Message) → placed b (option_map (heard_as t h) o) ≡ Some m
    → m.fault ≡ t.fault
placed_fault true t h None m e = absurd (let q : None ≡ Some m = e in cc)
placed_fault false t h None m e = absurd (let q : None ≡ Some m = e in cc)
placed_fault true t h (Some c) m e =
    let q : Some (misplaced (heard_as t h c)) ≡ Some m = e in
    let r : misplaced (heard_as t h c) ≡ m = cc in
    ap (λ (x : Message). x.fault) (sym r)
placed_fault false t h (Some c) m e =
    let q : Some (heard_as t h c) ≡ Some m = e in
    let r : heard_as t h c ≡ m = cc in
    ap (λ (x : Message). x.fault) (sym r)

heard_fault : (z : ServerSettings) (L : Logons) (k : ℕ) (f : ServerEnd) (c : Checked) (m : Message) → heard_message z L k f c ≡ Some m
    → m.fault ≡ c.fault
unfolding message_of
heard_fault z L k f c m e =
    placed_fault (is_misplaced c) (told_of z L k f c) c.header (command_of (told_of z L k f c) c.header c.bytes) m e

-- ---- one message after the other

answer_acts_not : (s : Server) (now : ℕ) (m : Message) (c : Command) → is_some m.fault ≡ true → (answer_to s now m c).acted ≡ false
answer_acts_not s now m (Aside status) e = refl
answer_acts_not s now m (Unreadable status) e = faulty_acts_not s now m e
answer_acts_not s now m (Setup request) e = faulty_acts_not s now m e
answer_acts_not s now m Logoff e = faulty_acts_not s now m e
answer_acts_not s now m (TreeConnect share) e = faulty_acts_not s now m e
answer_acts_not s now m TreeDisconnect e = faulty_acts_not s now m e
answer_acts_not s now m (Create request) e = faulty_acts_not s now m e
answer_acts_not s now m (Close file query) e = faulty_acts_not s now m e
answer_acts_not s now m (Flush file) e = faulty_acts_not s now m e
answer_acts_not s now m (Read file at size minimum channel) e = faulty_acts_not s now m e
answer_acts_not s now m (Write file at bytes channel) e = faulty_acts_not s now m e
answer_acts_not s now m (Lock file index number elements) e = faulty_acts_not s now m e
answer_acts_not s now m (Ioctl file code room) e = faulty_acts_not s now m e
answer_acts_not s now m (ListDirectory file class restart single pattern room) e = faulty_acts_not s now m e
answer_acts_not s now m (QueryFile file class room) e = faulty_acts_not s now m e
answer_acts_not s now m (QueryVolume file class room) e = faulty_acts_not s now m e
answer_acts_not s now m (SetInfo file setting) e = faulty_acts_not s now m e

with_acts_not : (o : Option LastTaken) (m : Message) (A : Answer) → took_acts o ≡ false → A.acted ≡ false
    → took_acts (Some (taken_with o m A)) ≡ false
with_acts_not None m A p q = q
with_acts_not (Some t) m A p q = neither t.answer.acted A.acted p q
  where
    neither : (a b : Bool) → a ≡ false → b ≡ false → (a || b) ≡ false
    neither true b e f = absurd (cc)
    neither false b e f = f

heard_acts_not : (z : ServerSettings) (k now : ℕ) (fresh : List ℕ) (f : ServerEnd) (g : Going) (c : Checked) (o : Option Message)
    → heard_message z g.logons k f c ≡ o → is_some c.fault ≡ true → took_acts g.taken ≡ false
    → took_acts (went_heard z k now fresh f g c o).taken ≡ false
heard_acts_not z k now fresh f g c None is e p = p
heard_acts_not z k now fresh f g c (Some m) is e p =
    with_acts_not g.taken m (answer_to g.server now m m.command) p
    (answer_acts_not g.server now m m.command
    (subst (λ o. is_some o ≡ true) (sym (heard_fault z g.logons k f c m is)) e))

by_turn : (P : Turn → Type 0) (o : Option Carry) (c : Checked) → P (Goes c) → ((y : Carry) → P (Goes (with_ids c y)))
    → ((status : ℕ) → P (Fails status)) → P (turn_of o c)
by_turn P None c a b d = a
by_turn P (Some y) c a b d =
    either P c.related _ _ (λ _. either P (can_follow c y) _ _ (λ _. b y) (λ _. d y.status)) (λ _. a)

turn_acts_not : (z : ServerSettings) (k now : ℕ) (fresh : List ℕ) (f : ServerEnd) (g : Going) (c : Checked) → is_some c.fault ≡ true
    → took_acts g.taken ≡ false → took_acts (went_turn z k now fresh f g c (turn_of g.carried c)).taken ≡ false
turn_acts_not z k now fresh f g c e p =
    by_turn (λ t. took_acts (went_turn z k now fresh f g c t).taken ≡ false) g.carried c
    (heard_acts_not z k now fresh f g c (heard_message z g.logons k f c) refl e p)
    (λ y. heard_acts_not z k now fresh f g (with_ids c y) (heard_message z g.logons k f (with_ids c y)) refl e p)
    (λ status. p)

abbrev AllFaulty : List Checked → Type 0
AllFaulty cs = (i : ℕ) (c : Checked) → slice_get cs i ≡ Some c → is_some c.fault ≡ true

all_act_not : (z : ServerSettings) (k now : ℕ) (fresh : List ℕ) (f : ServerEnd) (g : Going) (cs : List Checked) → AllFaulty cs
    → took_acts g.taken ≡ false → took_acts (went_all z k now fresh f g cs).taken ≡ false
unfolding went_all
all_act_not z k now fresh f g [] all p = p
all_act_not z k now fresh f g (c ∷ cs) all p =
    all_act_not z k now fresh f (went_turn z k now fresh f g c (turn_of g.carried c)) cs (λ i d h. all (suc i) d h)
    (turn_acts_not z k now fresh f g c (all 0 c refl) p)

answered_taken : (f : ServerEnd) (sealed : Bool) (g : Going) → (answered f sealed g).taken ≡ g.taken
answered_taken f sealed g =
    either (λ (S : ConnectionStep). S.taken ≡ g.taken) (sealed && not (has_nonces f _)) _ _ (λ _. refl) (λ _. refl)

-- ---- a message without a fault, or all have one

abbrev Faultless : List Checked → Type 0
Faultless cs = (i : ℕ) × (c : Checked) × (slice_get cs i ≡ Some c) × (c.fault ≡ None)

none_faulty : AllFaulty []
none_faulty zero c h = absurd (let q : None ≡ Some c = h in cc)
none_faulty (suc i) c h = absurd (let q : None ≡ Some c = h in cc)

with_faulty : (c : Checked) (cs : List Checked) → is_some c.fault ≡ true → AllFaulty cs → AllFaulty (c ∷ cs)
with_faulty c cs e all zero d h =
    let q : Some c ≡ Some d = h in
    let r : c ≡ d = cc in
    subst (λ (x : Checked). is_some x.fault ≡ true) r e
with_faulty c cs e all (suc i) d h = all i d h

by_first : (c : Checked) (cs : List Checked) (o : Option ℕ) → c.fault ≡ o → Faultless cs ⊎ AllFaulty cs
    → Faultless (c ∷ cs) ⊎ AllFaulty (c ∷ cs)
by_first c cs None e rest = inl (0, c, refl, e)
by_first c cs (Some status) e (inl h) = inl (h.0 + 1, h.1, rw (add-one) h.2, h.3)
by_first c cs (Some status) e (inr h) = inr (with_faulty c cs (ap is_some e) h)

searched : (cs : List Checked) → Faultless cs ⊎ AllFaulty cs
searched [] = inr none_faulty
searched (c ∷ cs) = by_first c cs c.fault refl (searched cs)

-- ---- a step that acts

abbrev ActsIn : Result Frame ConnEnd → Type 0
ActsIn r = (x : Frame) × (r ≡ Ok x) × Faultless x.messages

found : (z : ServerSettings) (k now : ℕ) (fresh : List ℕ) (s : Server) (L : Logons) (x : Frame)
    → Faultless x.messages ⊎ AllFaulty x.messages
    → took_acts (went_all z k now fresh x.server_end (beginning s L x.server_end) x.messages).taken ≡ true → ActsIn (Ok x)
found z k now fresh s L x (inl h) on = (x, refl, h)
found z k now fresh s L x (inr all) on =
    let off = all_act_not z k now fresh x.server_end (beginning s L x.server_end) x.messages all refl in absurd (cc)

acting : (z : ServerSettings) (k now : ℕ) (fresh : List ℕ) (s : Server) (L : Logons) (f : ServerEnd) (r : Result Frame ConnEnd)
    → took_acts (step_of z k now fresh s L f r).taken ≡ true → ActsIn r
acting z k now fresh s L f (Err why) e = absurd (let q : false ≡ true = e in cc)
acting z k now fresh s L f (Ok x) e =
    let g = went_all z k now fresh x.server_end (beginning s L x.server_end) x.messages in
    found z k now fresh s L x (searched x.messages) (ap took_acts (sym (answered_taken x.server_end x.sealed g)) ∙ e)

put_acting : (z : WorldSettings) (r : RepeatWorld) (k place g : ℕ) (o : Option UpFrame) → slice_get r.ups place ≡ o
    → put_acts z r k o g ≡ true → HasGuarded r k place
put_acting z r k place g None is e = absurd (let q : false ≡ true = e in cc)
put_acting z r k place g (Some u) is e =
    let w = loaded_up r k u in
    let a = back_of (is_served r.world k) _ e in
    let b = back_of (is_own_send k (r.openings k) g u.frame r.ups) _ a in
    let h = acting z.server k w.values.moment _ w.values.server w.logons (w.wires k).server_end
    (check_frame (w.wires k).server_end u.frame) b in
    let same : (w.wires k).server_end ≡ (r.world.wires k).server_end = put_ends r.world.wires k _ refl k in
    let ok = subst (λ (f : ServerEnd). check_frame f u.frame ≡ Ok h.0) same h.1 in
    (u, h.0, h.2.0, h.2.1, is, ok, h.2.2, h.2.3, guarded (r.world.wires k).server_end u.frame h.0 h.2.0 h.2.1 ok h.2.2 h.2.3)

pub acts_are_guarded : ActsAreGuarded
acts_are_guarded z r k place g e = put_acting z r k place g (slice_get r.ups place) refl e
