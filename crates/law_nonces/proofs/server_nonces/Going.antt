-- The messages of a frame, one after the other: the server's tables, the numbers that are drawn, and the replies that tell them.
use Rattle.std.proofs.Common.{◌≡◌, ℕ, ◌==◌, ◌<◌, ◌^◌, Bool, true, false, if◌then◌else◌, List, [], ◌∷◌, ◌++◌, append_assoc}
use Rattle.std.proofs.Common.{refl, sym, ◌∙◌, ap, subst, Option, Some, None}
use Rattle.std.specs.Prelude.{option_map}
use Rattle.spec_exchange.specs.Table.{put}
use Rattle.spec_exchange.specs.Commands.{Command, Aside}
use Rattle.spec_exchange.specs.State.{Server, Message, ServerEvent, Heard, Record, Answer}
use Rattle.spec_exchange.specs.Fold.{nothing_yet}
use Rattle.spec_exchange.specs.Step.{step}
use Rattle.spec_exchange.specs.Network.{answer_to}
use Rattle.spec_commands.specs.CommandOf.{Told, command_of, message_of, heard_as}
use Rattle.spec_wire.specs.credits.Window.{after_grant}
use Rattle.spec_crypto.specs.declared.sessions.material.Keys.{Keys}
use Rattle.spec_crypto.specs.tokens.Tokens.{Users}
use Rattle.law_server.proofs.tables.Folded.{sound_more, sound_none}
use Rattle.law_server.proofs.tables.Stepped.{stepped}
use Rattle.law_records.specs.recovery.Recovers.{Mirrors}
use Rattle.law_records.proofs.recovery.Leaves.{fold_append}
use Rattle.law_records.proofs.recovery.Verdicts.{nothing_owed}
use Rattle.law_records.proofs.recovery.Steps.{Runs}
use Rattle.law_records.proofs.recovery.Worlds.{stepped as still_recovers}
use Rattle.spec_world.specs.Settings.{ServerSettings}
use Rattle.spec_world.specs.Ends.{ServerEnd, Logons}
use Rattle.spec_world.specs.Hearing.{Checked, is_misplaced}
use Rattle.spec_world.specs.Related.{Turn, Goes, Fails, turn_of, failed_as}
use Rattle.spec_world.specs.Logon.{Progress, Stays, Interim, Final, progress, logons_behind, final_keys}
use Rattle.spec_world.specs.Answering.{SaidReply}
use Rattle.spec_world.specs.Connection.{told_of, heard_message, LastTaken, taken_with, Going, went_by, went_heard}
use Rattle.spec_world.specs.Connection.{went_turn, went_all, said_to, said_failed, keys_said, misplaced, placed}
use Rattle.law_nonces.proofs.negotiation.Making.{FaultFine}
use Rattle.law_nonces.proofs.negotiation.Checked.{IsFine, AreFine}
use Rattle.law_nonces.proofs.negotiation.Going.{IsHeard, heard_is, TurnFine, turn_fine, answer_server, taken_server}
use Rattle.law_nonces.specs.server_nonces.Numbering.{AreTables, NonceDraws, next_drawn, DrawsOn, AreNamed, key_sessions}
use Rattle.law_nonces.specs.server_nonces.Numbering.{next_names, IsKeyed}
use Rattle.law_nonces.proofs.server_nonces.Drawing.{DrewBy, Drew, drew}

-- ---- the tables behind an event

pub tables_step : (rs : List Record) (s : Server) (now : ℕ) (e : ServerEvent) → Runs e → AreTables rs s
    → AreTables (rs ++ (step s now e).records) (step s now e).server
tables_step rs s now e ok i =
    let g = stepped s now e i.fit in
    record {
      fit = g.0;
      sound = sound_more rs (step s now e).records i.sound g.1;
      recovers = still_recovers rs s now e ok i.fit i.recovers;
    }

nothing_more : (rs : List Record) (s : Server) → AreTables rs s → AreTables (rs ++ []) s
nothing_more rs s i =
    record {
      fit = i.fit;
      sound = sound_more rs [] i.sound sound_none;
      recovers = subst (λ (x : Server). Mirrors x s) (sym (fold_append nothing_yet rs [])) (nothing_owed _ s i.recovers);
    }

tables_answer : (rs : List Record) (s : Server) (now : ℕ) (m : Message) (c : Command) → AreTables rs s
    → AreTables (rs ++ (answer_to s now m c).records) (answer_to s now m c).server
tables_answer rs s now m (Aside status) i = nothing_more rs s i
tables_answer rs s now m c i = tables_step rs s now (Heard m) tt i

-- the records behind what was taken of a frame
abbrev pub with_taken : List Record → Option LastTaken → List Record
with_taken rs None = rs
with_taken rs (Some t) = rs ++ t.answer.records

tables_with : (rs : List Record) (o : Option LastTaken) (m : Message) (A : Answer) → AreTables (with_taken rs o ++ A.records) A.server
    → AreTables (with_taken rs (Some (taken_with o m A))) A.server
tables_with rs None m A i = i
tables_with rs (Some t) m A i = subst (λ x. AreTables x A.server) (append_assoc rs t.answer.records A.records) i

-- ---- the numbers that the replies tell

abbrev pub drawn_behind : (ℕ → ℕ) → List SaidReply → ℕ → ℕ
drawn_behind drawn [] = drawn
drawn_behind drawn (r ∷ rs) = drawn_behind (next_drawn drawn r.keys.session r.progress) rs

abbrev pub AllDraw : (ℕ → ℕ) → List SaidReply → Type 0
AllDraw drawn [] = Unit {0}
AllDraw drawn (r ∷ rs) = DrawsOn drawn r.keys.session r.progress × AllDraw (next_drawn drawn r.keys.session r.progress) rs

drawn_with : (drawn : ℕ → ℕ) (rs : List SaidReply) (r : SaidReply) → drawn_behind drawn (rs ++ r ∷ [])
    ≡ next_drawn (drawn_behind drawn rs) r.keys.session r.progress
drawn_with drawn [] r = refl
drawn_with drawn (x ∷ rs) r = drawn_with (next_drawn drawn x.keys.session x.progress) rs r

all_draw_with : (drawn : ℕ → ℕ) (rs : List SaidReply) (r : SaidReply) → AllDraw drawn rs
    → DrawsOn (drawn_behind drawn rs) r.keys.session r.progress → AllDraw drawn (rs ++ r ∷ [])
all_draw_with drawn [] r all new = (new, tt)
all_draw_with drawn (x ∷ rs) r all new = (all.0, all_draw_with (next_drawn drawn x.keys.session x.progress) rs r all.1 new)

-- a final reply's keys name its session
abbrev pub IsAt : Progress → ℕ → ℕ → Type 0
IsAt Stays x y = Unit {0}
IsAt (Interim binding) x y = Unit {0}
IsAt (Final binding channel encrypts) x y = x ≡ y

pub drawn_at : (drawn : ℕ → ℕ) (p : Progress) (x y : ℕ) → IsAt p x y → next_drawn drawn x p ≡ next_drawn drawn y p
drawn_at drawn Stays x y e = refl
drawn_at drawn (Interim binding) x y e = refl
drawn_at drawn (Final binding channel encrypts) x y e = ap (λ z. put drawn z channel) e

pub draws_at : (drawn : ℕ → ℕ) (p : Progress) (x y : ℕ) → IsAt p x y → DrawsOn drawn y p → DrawsOn drawn x p
draws_at drawn Stays x y e d = tt
draws_at drawn (Interim binding) x y e d = tt
draws_at drawn (Final binding channel encrypts) x y e d = subst (λ z. (drawn z < channel) × (channel < 2 ^ 16)) (sym e) d

final_session : (users : Users) (L : Logons) (k : ℕ) (f : ServerEnd) (c : Checked) (binding : Bool)
    → (final_keys users L k f c binding).session ≡ (if binding then key_sessions L c.header.session else c.header.session)
final_session users L k f c true = refl
final_session users L k f c false = refl

pub said_at : (z : ServerSettings) (L : Logons) (k : ℕ) (f : ServerEnd) (c : Checked) (p : Progress)
    → IsKeyed (key_sessions L) c.header.session p → IsAt p (keys_said z L k f c p).session c.header.session
said_at z L k f c Stays e = tt
said_at z L k f c (Interim binding) e = tt
said_at z L k f c (Final binding channel encrypts) e = final_session z.users L k f c binding ∙ e

-- ---- the logons behind a reply

put_named : (keys : ℕ → Keys) (x : ℕ) (new : Keys) (y : ℕ) → new.session ≡ x → put (λ z. (keys z).session) x x y ≡ y
    → (put keys x new y).session ≡ y
put_named keys x new y is = elim (y == x) as (λ b. (if b then x else (keys y).session) ≡ y → (if b then new else keys y).session ≡ y) [
  | true ↦ λ e. is ∙ e
  | false ↦ λ e. e
]

begun_named : (s : Server) (users : Users) (L : Logons) (k : ℕ) (f : ServerEnd) (c : Checked) (fresh : List ℕ)
    (now channel : ℕ) (encrypts binding : Bool)
    → AreNamed s (next_names (key_sessions L) c.header.session (Final binding channel encrypts))
    → AreNamed s (key_sessions (logons_behind users L k f c fresh now (Final binding channel encrypts)))
begun_named s users L k f c fresh now channel encrypts true n = n
begun_named s users L k f c fresh now channel encrypts false n =
    λ y p. put_named L.keys c.header.session (final_keys users L k f c false) y refl (n y p)

behind_named : (s : Server) (users : Users) (L : Logons) (k : ℕ) (f : ServerEnd) (c : Checked) (fresh : List ℕ) (now : ℕ) (p : Progress)
    → AreNamed s (next_names (key_sessions L) c.header.session p) → AreNamed s (key_sessions (logons_behind users L k f c fresh now p))
behind_named s users L k f c fresh now Stays n = n
behind_named s users L k f c fresh now (Interim binding) n = n
behind_named s users L k f c fresh now (Final binding channel encrypts) n =
    begun_named s users L k f c fresh now channel encrypts binding n

-- ---- a message is of its header's session

told_session : (c : Checked) (t : Told) (o : Option Command) (m : Message) → option_map (heard_as t c.header) o ≡ Some m
    → m.session_id ≡ c.header.session
told_session c t None m e = absurd (let h : None ≡ Some m = e in cc)
told_session c t (Some x) m e =
    let same : heard_as t c.header x ≡ m = (let h : Some (heard_as t c.header x) ≡ Some m = e in cc) in
    ap (λ (y : Message). y.session_id) (sym same)

-- misplaced or not
placed_session : (session : ℕ) (broken : Bool) (o : Option Message) (m : Message)
    → ((n : Message) → o ≡ Some n → n.session_id ≡ session) → placed broken o ≡ Some m → m.session_id ≡ session
placed_session session false o m f e = f m e
placed_session session true None m f e = absurd (let h : None ≡ Some m = e in cc)
placed_session session true (Some n) m f e =
    let same : misplaced n ≡ m = (let h : Some (misplaced n) ≡ Some m = e in cc) in
    ap (λ (y : Message). y.session_id) (sym same) ∙ f n refl

pub heard_session : (z : ServerSettings) (L : Logons) (k : ℕ) (f : ServerEnd) (c : Checked) (m : Message)
    → heard_message z L k f c ≡ Some m → m.session_id ≡ c.header.session
unfolding message_of
heard_session z L k f c m e =
    placed_session c.header.session (is_misplaced c) (message_of (told_of z L k f c) c.header c.bytes) m
    (λ n d. told_session c (told_of z L k f c) (command_of (told_of z L k f c) c.header c.bytes) n d) e

-- ---- behind some of the messages

pub record GoesOn (rs : List Record) (s : Server) (drawn : ℕ → ℕ) (g : Going) : Type 0 where
  pub tables : AreTables (with_taken rs g.taken) g.server
  pub draws : NonceDraws g.server (drawn_behind drawn g.replies)
  pub on : AllDraw drawn g.replies
  pub named : AreNamed g.server (key_sessions g.logons)
  pub taken : g.server ≡ answer_server g.taken s

went_keeps : (rs : List Record) (s : Server) (drawn : ℕ → ℕ) (z : ServerSettings) (k now : ℕ) (fresh : List ℕ) (f : ServerEnd)
    (g : Going) (c : Checked) (m : Message) (A : Answer) → m.session_id ≡ c.header.session
    → AreTables (with_taken rs g.taken ++ A.records) A.server
    → Drew m A (drawn_behind drawn g.replies) (key_sessions g.logons) → GoesOn rs s drawn g
    → GoesOn rs s drawn (went_by z k now fresh f g c m A)
went_keeps rs s drawn z k now fresh f g c m A session tables d i =
    let r = said_to z k now fresh f g.logons g.window c m.command A in
    let p = progress m.command A.reply in
    let now_drawn = drawn_behind drawn g.replies in
    let e : DrewBy A.server c.header.session p now_drawn (key_sessions g.logons) =
    subst (λ x. DrewBy A.server x p now_drawn (key_sessions g.logons)) session d in
    let at : IsAt p r.keys.session c.header.session = said_at z g.logons k f c p e.keyed in
    record {
      tables = tables_with rs g.taken m A tables;
      draws = subst (NonceDraws A.server)
          (sym (drawn_with drawn g.replies r ∙ drawn_at now_drawn p r.keys.session c.header.session at)) e.draws;
      on = all_draw_with drawn g.replies r i.on (draws_at now_drawn p r.keys.session c.header.session at e.on);
      named = behind_named A.server z.users g.logons k f c fresh now p e.named;
      taken = taken_server g.taken m A s;
    }

heard_keeps : (rs : List Record) (s : Server) (drawn : ℕ → ℕ) (z : ServerSettings) (k now : ℕ) (fresh : List ℕ) (f : ServerEnd)
    (g : Going) (c : Checked) (o : Option Message) → IsFine f.greeting c → ((m : Message) → o ≡ Some m → IsHeard k c m)
    → ((m : Message) → o ≡ Some m → m.session_id ≡ c.header.session) → GoesOn rs s drawn g
    → GoesOn rs s drawn (went_heard z k now fresh f g c o)
heard_keeps rs s drawn z k now fresh f g c None fine is at i =
    record { tables = i.tables; draws = i.draws; on = i.on; named = i.named; taken = i.taken }
heard_keeps rs s drawn z k now fresh f g c (Some m) fine is at i =
    let h = is m refl in
    let t = i.tables in
    went_keeps rs s drawn z k now fresh f g c m (answer_to g.server now m m.command) (at m refl)
    (tables_answer (with_taken rs g.taken) g.server now m m.command t)
    (drew g.server now m m.command (drawn_behind drawn g.replies) (key_sessions g.logons) refl (subst FaultFine (sym h.fault) fine.fault)
    t.fit i.draws i.named) i

said_keeps : (rs : List Record) (s : Server) (drawn : ℕ → ℕ) (f : ServerEnd) (g : Going) (c : Checked) (status : ℕ)
    → GoesOn rs s drawn g
    → GoesOn rs s drawn (record g {
      window = after_grant c.header.credits g.window;
      replies = g.replies ++ said_failed f g.window c status ∷ [];
    })
said_keeps rs s drawn f g c status i =
    let r = said_failed f g.window c status in
    record {
      tables = i.tables;
      draws = subst (NonceDraws g.server) (sym (drawn_with drawn g.replies r)) i.draws;
      on = all_draw_with drawn g.replies r i.on tt;
      named = i.named;
      taken = i.taken;
    }

failed_keeps : (rs : List Record) (s : Server) (drawn : ℕ → ℕ) (z : ServerSettings) (k now : ℕ) (fresh : List ℕ) (f : ServerEnd)
    (g : Going) (c : Checked) (status : ℕ) → GoesOn rs s drawn g
    → GoesOn rs s drawn (went_turn z k now fresh f g c (Fails status))
failed_keeps rs s drawn z k now fresh f g c status i =
    said_keeps rs s drawn f g (failed_as g.carried c) status i

turn_keeps : (rs : List Record) (s : Server) (drawn : ℕ → ℕ) (z : ServerSettings) (k now : ℕ) (fresh : List ℕ) (f : ServerEnd)
    (g : Going) (c : Checked) (t : Turn) → TurnFine f.greeting t → GoesOn rs s drawn g
    → GoesOn rs s drawn (went_turn z k now fresh f g c t)
turn_keeps rs s drawn z k now fresh f g c (Fails status) fine i = failed_keeps rs s drawn z k now fresh f g c status i
turn_keeps rs s drawn z k now fresh f g c (Goes d) fine i =
    heard_keeps rs s drawn z k now fresh f g d (heard_message z g.logons k f d) fine (λ m e. heard_is z g.logons k f d m e)
    (λ m e. heard_session z g.logons k f d m e) i

pub all_keep : (rs : List Record) (s : Server) (drawn : ℕ → ℕ) (z : ServerSettings) (k now : ℕ) (fresh : List ℕ) (f : ServerEnd)
    (cs : List Checked) (g : Going) → AreFine f.greeting cs → GoesOn rs s drawn g
    → GoesOn rs s drawn (went_all z k now fresh f g cs)
unfolding went_all
all_keep rs s drawn z k now fresh f [] g fine i = i
all_keep rs s drawn z k now fresh f (c ∷ cs) g fine i =
    all_keep rs s drawn z k now fresh f cs (went_turn z k now fresh f g c (turn_of g.carried c)) fine.1
    (turn_keeps rs s drawn z k now fresh f g c (turn_of g.carried c) (turn_fine f.greeting g.carried c fine.0) i)
