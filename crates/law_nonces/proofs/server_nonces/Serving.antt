-- A frame that a server takes, a server's end that closes, and a restart.
use Rattle.std.proofs.Common.{◌≡◌, ℕ, ◌+◌, ◌==◌, ◌≤◌, Bool, true, false, not, ◌&&◌, if◌then◌else◌, List, [], ◌∷◌}
use Rattle.std.proofs.Common.{◌++◌, length, take, refl, sym, ◌∙◌, ap, subst, arith, eqb-true, Option, Some, None, is_some, Result, Ok, Err}
use Rattle.std.proofs.lemmas.Bool.Decides.{nat_tests}
use Rattle.spec_exchange.specs.Table.{put}
use Rattle.spec_exchange.specs.State.{Server, End, NewSession, Record}
use Rattle.spec_exchange.specs.Opens.{id_of}
use Rattle.spec_exchange.specs.Fold.{fold, recovered_from, recovery_records}
use Rattle.spec_exchange.specs.Step.{step}
use Rattle.spec_exchange.specs.Network.{World as Values, Conn, Sent, Received, Token, server_off, replied}
use Rattle.spec_crypto.specs.declared.sessions.material.Keys.{Keys}
use Rattle.spec_crypto.specs.sessions.Nonces.{last_counter}
use Rattle.law_server.proofs.tables.Logic.{either, not_false}
use Rattle.law_server.proofs.tables.Folded.{sound_more, sound_recovery, recovered_fits}
use Rattle.law_records.proofs.recovery.Durable.{restarts}
use Rattle.law_records.proofs.recovery.Restarts.{restarted}
use Rattle.spec_world.specs.Settings.{ServerSettings, WorldSettings, draw}
use Rattle.spec_world.specs.Messages.{HeardMessage}
use Rattle.spec_world.specs.Ends.{ServerEnd, Logons, ConnEnd, Spent}
use Rattle.spec_world.specs.Hearing.{FrameText, text_of, turn_end, behind_turn, Checked, checked_as, Frame, in_front, bars}
use Rattle.spec_world.specs.Hearing.{if_in_turn, checked_behind, checked_in, checked_text, check_frame}
use Rattle.spec_world.specs.Answering.{all_texts, joined_in, text_limit, each_joined, concatenated, has_nonces, Seal}
use Rattle.spec_world.specs.Connection.{LastTaken, Going, ConnectionStep, ended_by, counted_on, answered_with}
use Rattle.spec_world.specs.Connection.{answered, beginning, step_of, connection_step, went_all}
use Rattle.spec_world.specs.World.{World, Wires, served_on, served_mutely, served_by, dropped_wires, server_end_off}
use Rattle.spec_world.specs.World.{values_took, values_said, replied_each, answered_wires, step_at, serve_frame}
use Rattle.spec_world.specs.World.{absorb_frame, restarted_wires, last_reply}
use Rattle.law_nonces.proofs.negotiation.Tables.{put_same, SameOpen}
use Rattle.law_nonces.proofs.negotiation.Checked.{FrameFine, AreFine, frame_fine}
use Rattle.law_nonces.proofs.negotiation.Going.{answer_server}
use Rattle.law_nonces.proofs.negotiation.Serving.{took_server, took_open, said_server, said_open}
use Rattle.law_nonces.specs.server_nonces.Numbering.{AreTables, NonceDraws, AreNamed, key_sessions, Sealer, session_of}
use Rattle.law_nonces.specs.server_nonces.Numbering.{sealer_of, sealers, NonceNumbered, NonceKeeps}
use Rattle.law_nonces.proofs.server_nonces.Numbers.{alike, off_keeps, grow_keeps, all_off_keeps}
use Rattle.law_nonces.proofs.server_nonces.Drawing.{same_draws, same_named, end_numbers}
use Rattle.law_nonces.proofs.server_nonces.Going.{GoesOn, all_keep, with_taken, drawn_behind, tables_step}
use Rattle.law_nonces.proofs.server_nonces.Telling.{sealed_keep, joined_length, told_keep, all_grown, put_twice, counted_by}

-- ---- the whole look at a frame leaves keys, channel and counter

abbrev pub SameSealing : ServerEnd → ServerEnd → Type 0
SameSealing f g = (g.keys ≡ f.keys) × (g.channel ≡ f.channel) × (g.counter ≡ f.counter)

abbrev pub FrameSame : ServerEnd → Result Frame ConnEnd → Type 0
FrameSame f (Err e) = Unit {0}
FrameSame f (Ok x) = SameSealing f x.server_end

front_same : (f : ServerEnd) (c : Checked) (r : Result Frame ConnEnd) → FrameSame f r → FrameSame f (in_front c r)
front_same f c (Err e) s = tt
front_same f c (Ok x) s = s

turn_same : (f : ServerEnd) (o : Option ConnEnd) (r : Result Frame ConnEnd) → FrameSame f r → FrameSame f (if_in_turn o r)
turn_same f (Some e) r s = tt
turn_same f None r s = s

behind_same : (f : ServerEnd) (sealed behind : Bool) (xs : List HeardMessage) → FrameSame f (checked_behind f sealed behind xs)
unfolding checked_behind
behind_same f sealed behind [] = (refl, refl, refl)
behind_same f sealed behind (x ∷ xs) =
    turn_same f (turn_end f x.header) _ (front_same f (checked_as f sealed behind false x) _
    (behind_same (behind_turn f x.header) sealed (bars f sealed behind x) xs))

in_same : (f : ServerEnd) (sealed : Bool) (xs : List HeardMessage) → FrameSame f (checked_in f sealed xs)
in_same f sealed [] = tt
in_same f sealed (x ∷ xs) =
    turn_same f (turn_end f x.header) _ (front_same f (checked_as f sealed false true x) _
    (behind_same (behind_turn f x.header) sealed (bars f sealed false x) xs))

text_same : (f : ServerEnd) (t : Result FrameText ConnEnd) → FrameSame f (checked_text f t)
text_same f (Err e) = tt
text_same f (Ok t) = in_same f t.sealed t.messages

pub frame_same : (f : ServerEnd) (frame : List ℕ) → FrameSame f (check_frame f frame)
frame_same f frame = text_same f (text_of f.keys frame)

pub sealer_same : (f g : ServerEnd) → SameSealing f g → sealer_of true f ≡ sealer_of true g
sealer_same f g s =
    ap (λ (o : Option Keys). record { is_on = is_some o; session = session_of o; channel = f.channel; counter = f.counter }) (sym s.0)
    ∙ ap (λ n. record { is_on = is_some g.keys; session = session_of g.keys; channel = n; counter = f.counter }) (sym s.1)
    ∙ ap (λ n. record { is_on = is_some g.keys; session = session_of g.keys; channel = g.channel; counter = n }) (sym s.2)

-- ---- the step of one connection

pub record StepKept (rs : List Record) (s : Server) (k : ℕ) (us : List Seal) (ends : ℕ → Sealer) (drawn : ℕ → ℕ) (S : ConnectionStep)
    : Type 0 where
  pub more : ℕ → ℕ
  pub tables : AreTables (with_taken rs S.taken) S.server
  pub draws : NonceDraws S.server more
  pub named : AreNamed S.server (key_sessions S.logons)
  pub taken : S.server ≡ answer_server S.taken s
  pub grown : (x : ℕ) → drawn x ≤ more x
  pub numbered : S.ends ≡ None → NonceNumbered (us ++ S.sealings) (put ends k (sealer_of true S.server_end)) more

ended_kept : (rs : List Record) (s : Server) (k : ℕ) (us : List Seal) (ends : ℕ → Sealer) (drawn : ℕ → ℕ) (f : ServerEnd) (g : Going)
    (why : ConnEnd) → GoesOn rs s drawn g → StepKept rs s k us ends drawn (ended_by g.server g.logons f g.taken why)
ended_kept rs s k us ends drawn f g why i =
    record {
      more = drawn_behind drawn g.replies;
      tables = i.tables;
      draws = i.draws;
      named = i.named;
      taken = i.taken;
      grown = all_grown drawn g.replies i.on;
      numbered = λ e. absurd (let q : Some why ≡ None = e in cc);
    }

-- where the counter has a nonce for each
pub has_room : (f : ServerEnd) (sealed : Bool) (count : ℕ) → (sealed && not (has_nonces f count)) ≡ false → sealed ≡ true
    → f.counter + count ≤ last_counter
has_room f true count e on = let h : has_nonces f count ≡ true = not_false (has_nonces f count) e in grind (arith, nat_tests)
has_room f false count e on = absurd (cc)

answered_kept : (rs : List Record) (s : Server) (k : ℕ) (us : List Seal) (ends : ℕ → Sealer) (drawn : ℕ → ℕ) (f : ServerEnd)
    (sealed : Bool) (g : Going) → ends k ≡ sealer_of true f → NonceNumbered us ends drawn → GoesOn rs s drawn g
    → StepKept rs s k us ends drawn (answered f sealed g)
answered_kept rs s k us ends drawn f sealed g is n i =
    let rows = all_texts sealed (joined_in (text_limit sealed) g.replies) in
    let texts = each_joined rows in
    let f2 = counted_on f sealed g (length texts) in
    let last = sealer_of true (answered_with f sealed g rows texts).server_end in
    let now = put ends k (counted_by f sealed (length texts)) in
    either (StepKept rs s k us ends drawn) (sealed && not (has_nonces f (length rows))) _ (answered_with f sealed g rows texts)
    (λ _. ended_kept rs s k us ends drawn f g Spent i)
    (λ room. (let sealings = (answered_with f sealed g rows texts).sealings in
    let one : NonceNumbered (us ++ sealings) now drawn =
    sealed_keep us ends drawn k f sealed texts is
    (λ on. (let h = has_room f sealed (length rows) room on in let l = joined_length rows in omega (arith, h, l))) n in
    let told = told_keep (us ++ sealings) now drawn k sealed f2 g.replies (concatenated rows)
    (put_same ends k (counted_by f sealed (length texts))) i.on one in
    record {
      more = drawn_behind drawn g.replies;
      tables = i.tables;
      draws = i.draws;
      named = i.named;
      taken = i.taken;
      grown = all_grown drawn g.replies i.on;
      numbered = λ _. alike (us ++ sealings) (put now k last) (put ends k last) (drawn_behind drawn g.replies)
          (put_twice ends k (counted_by f sealed (length texts)) last) told;
    }))

starts : (rs : List Record) (s : Server) (L : Logons) (f : ServerEnd) (drawn : ℕ → ℕ) → AreTables rs s → NonceDraws s drawn
    → AreNamed s (key_sessions L) → GoesOn rs s drawn (beginning s L f)
starts rs s L f drawn tables draws named = record { tables = tables; draws = draws; on = tt; named = named; taken = refl }

by_frame : (rs : List Record) (s : Server) (L : Logons) (f : ServerEnd) (z : ServerSettings) (k now : ℕ) (fresh : List ℕ)
    (us : List Seal) (ends : ℕ → Sealer) (drawn : ℕ → ℕ) (r : Result Frame ConnEnd) → FrameSame f r
    → FrameFine f.greeting f.making r → AreTables rs s → NonceDraws s drawn → AreNamed s (key_sessions L)
    → ends k ≡ sealer_of true f → NonceNumbered us ends drawn → StepKept rs s k us ends drawn (step_of z k now fresh s L f r)
by_frame rs s L f z k now fresh us ends drawn (Err why) same fine tables draws named is n =
    ended_kept rs s k us ends drawn f (beginning s L f) why (starts rs s L f drawn tables draws named)
by_frame rs s L f z k now fresh us ends drawn (Ok x) same fine tables draws named is n =
    let g = x.server_end in
    answered_kept rs s k us ends drawn g x.sealed (went_all z k now fresh g (beginning s L g) x.messages)
    (is ∙ sealer_same f g same) n
    (all_keep rs s drawn z k now fresh g x.messages (beginning s L g) (subst (λ o. AreFine o x.messages) (sym fine.0) fine.2)
    (starts rs s L g drawn tables draws named))

step_kept : (rs : List Record) (s : Server) (L : Logons) (f : ServerEnd) (z : ServerSettings) (k now : ℕ) (fresh : List ℕ)
    (us : List Seal) (ends : ℕ → Sealer) (drawn : ℕ → ℕ) (frame : List ℕ) → AreTables rs s → NonceDraws s drawn
    → AreNamed s (key_sessions L) → ends k ≡ sealer_of true f → NonceNumbered us ends drawn
    → StepKept rs s k us ends drawn (connection_step z k now fresh s L f frame)
step_kept rs s L f z k now fresh us ends drawn frame tables draws named is n =
    by_frame rs s L f z k now fresh us ends drawn (check_frame f frame) (frame_same f frame) (frame_fine f frame) tables draws named is n

-- ---- the records behind it

took_records : (v : Values) (k : ℕ) (token : Token) (xs : List Sent) (o : Option LastTaken)
    → (values_took v k token xs o).records ≡ with_taken v.records o
took_records v k token xs None = refl
took_records v k token xs (Some t) = refl

each_records : (v : Values) (k : ℕ) (y : Received) (fs : List (List ℕ)) → (replied_each v k y fs).records ≡ v.records
unfolding replied_each
each_records v k y [] = refl
each_records v k y (f ∷ fs) = each_records (replied v k y) k y fs

-- ---- the ends of a world

-- where one connection changes
pub ends_put : (conns new : ℕ → Conn) (wires : ℕ → Wires) (k : ℕ) (u : Wires) (b : Bool) → (new k).server_open ≡ b
    → ((j : ℕ) → (j == k) ≡ false → (new j).server_open ≡ (conns j).server_open)
    → (j : ℕ) → sealers new (put wires k u) j ≡ put (sealers conns wires) k (sealer_of b u.server_end) j
ends_put conns new wires k u b here there j = elim (j == k) as (λ x. j == k ≡ x → sealer_of (new j).server_open
    (if x then u else wires j).server_end
    ≡ (if x then sealer_of b u.server_end else sealer_of (conns j).server_open (wires j).server_end)) [
      | true ↦ λ e. ap (λ y. sealer_of y u.server_end) (ap (λ i. (new i).server_open) (eqb-true j k e) ∙ here)
      | false ↦ λ e. ap (λ y. sealer_of y (wires j).server_end) (there j e)
    ] refl

-- ---- a world in which one server's end is about to close, or all of them

abbrev pub off_end : Sealer
off_end = record { is_on = false; session = 0; channel = 0; counter = 0 }

pub record MutelyKept (k : ℕ) (x : World) : Type 0 where
  pub drawn : ℕ → ℕ
  pub tables : AreTables x.values.records x.values.server
  pub draws : NonceDraws x.values.server drawn
  pub named : AreNamed x.values.server (key_sessions x.logons)
  pub numbered : NonceNumbered x.sealings (put (sealers x.values.conns x.wires) k off_end) drawn

pub plainly_kept : (w : World) (k : ℕ) → NonceKeeps w → MutelyKept k w
plainly_kept w k i =
    record {
      drawn = i.drawn;
      tables = i.tables;
      draws = i.draws;
      named = i.named;
      numbered = off_keeps w.sealings (sealers w.values.conns w.wires) i.drawn k off_end refl i.numbered;
    }

-- ---- the world behind a frame

at_step : (z : WorldSettings) (w : World) (k : ℕ) (b : List ℕ) (i : NonceKeeps w) → (w.values.conns k).server_open ≡ true
    → StepKept w.values.records w.values.server k w.sealings (sealers w.values.conns w.wires) i.drawn (step_at z w k b)
at_step z w k b i open_is =
    step_kept w.values.records w.values.server w.logons (w.wires k).server_end z.server k w.values.moment
    (take 8 (draw z.seed w.draws)) w.sealings (sealers w.values.conns w.wires) i.drawn b i.tables i.draws i.named
    (ap (λ y. sealer_of y (w.wires k).server_end) open_is) i.numbered

on_keeps : (w : World) (k : ℕ) (bs : List (List ℕ)) (xs : List Sent) (token : Token) (S : ConnectionStep) (i : NonceKeeps w)
    → (w.values.conns k).server_open ≡ true → S.ends ≡ None
    → StepKept w.values.records w.values.server k w.sealings (sealers w.values.conns w.wires) i.drawn S
    → NonceKeeps (served_on w k bs xs token S)
on_keeps w k bs xs token S i open_is none q =
    let v = values_said w.values k token xs S in
    let new = answered_wires (w.wires k) (w.values.conns k).client_open S.server_end bs S.frames in
    let same : SameOpen w.values.conns v.conns = said_open w.values k token xs S in
    let server : S.server ≡ v.server = q.taken ∙ sym (said_server w.values k token xs S) in
    let records : with_taken w.values.records S.taken ≡ v.records = sym (said_records w.values k token xs S) in
    record {
      drawn = q.more;
      tables = subst (λ rs. AreTables rs v.server) records (subst (AreTables (with_taken w.values.records S.taken)) server q.tables);
      draws = subst (λ s. NonceDraws s q.more) server q.draws;
      named = subst (λ s. AreNamed s (key_sessions S.logons)) server q.named;
      numbered = alike (w.sealings ++ S.sealings) (put (sealers w.values.conns w.wires) k (sealer_of true S.server_end))
          (sealers v.conns (put w.wires k new)) q.more
          (ends_put w.values.conns v.conns w.wires k new true (same k ∙ open_is) (λ j off. same j)) (q.numbered none);
    }
  where
    said_records : (v : Values) (k : ℕ) (token : Token) (xs : List Sent) (S : ConnectionStep)
        → (values_said v k token xs S).records ≡ with_taken v.records S.taken
    said_records v k token xs S = each_records (values_took v k token xs S.taken) k (record {
      token = token;
      reply = last_reply S.taken;
      place = v.log.places;
    }) S.frames ∙ took_records v k token xs S.taken

-- of what is said of nothing, the other ends are as they were
others_same : (conns new : ℕ → Conn) (wires : ℕ → Wires) (k : ℕ) (u : Wires)
    → ((j : ℕ) → (new j).server_open ≡ (conns j).server_open) → (j : ℕ)
    → put (sealers new (put wires k u)) k off_end j ≡ put (sealers conns wires) k off_end j
others_same conns new wires k u same j = elim (j == k) as (λ x. j == k ≡ x → (if x then off_end else sealer_of (new j).server_open
    (if x then u else wires j).server_end) ≡ (if x then off_end else sealer_of (conns j).server_open (wires j).server_end)) [
      | true ↦ λ e. refl
      | false ↦ λ e. ap (λ y. sealer_of y (wires j).server_end) (same j)
    ] refl

mutely_keeps : (w : World) (k : ℕ) (bs : List (List ℕ)) (xs : List Sent) (token : Token) (S : ConnectionStep) (i : NonceKeeps w)
    → StepKept w.values.records w.values.server k w.sealings (sealers w.values.conns w.wires) i.drawn S
    → MutelyKept k (served_mutely w k bs xs token S)
mutely_keeps w k bs xs token S i q =
    let v = values_took w.values k token xs S.taken in
    let new = record (w.wires k) { server_end = S.server_end; up = bs } in
    let same : SameOpen w.values.conns v.conns = took_open w.values k token xs S.taken in
    let server : S.server ≡ v.server = q.taken ∙ sym (took_server w.values k token xs S.taken) in
    let records : with_taken w.values.records S.taken ≡ v.records = sym (took_records w.values k token xs S.taken) in
    let old = sealers w.values.conns w.wires in
    record {
      drawn = q.more;
      tables = subst (λ rs. AreTables rs v.server) records (subst (AreTables (with_taken w.values.records S.taken)) server q.tables);
      draws = subst (λ s. NonceDraws s q.more) server q.draws;
      named = subst (λ s. AreNamed s (key_sessions S.logons)) server q.named;
      numbered = alike w.sealings (put old k off_end) (put (sealers v.conns (put w.wires k new)) k off_end) q.more
          (others_same w.values.conns v.conns w.wires k new same)
          (off_keeps w.sealings old q.more k off_end refl (grow_keeps w.sealings old i.drawn q.more q.grown i.numbered));
    }

-- ---- a server's end closes

closed_same : (conns : ℕ → Conn) (wires : ℕ → Wires) (k : ℕ) (j : ℕ)
    → sealers (put conns k (server_off (conns k))) (put wires k (server_end_off (wires k))) j
    ≡ put (put (sealers conns wires) k off_end) k (sealer_of false (wires k).server_end) j
closed_same conns wires k j = elim (j == k) as (λ x. sealer_of (if x then server_off (conns k) else conns j).server_open
    (if x then server_end_off (wires k) else wires j).server_end ≡ (if x then sealer_of false (wires k).server_end else
    (if x then off_end else sealer_of (conns j).server_open (wires j).server_end))) [
      | true ↦ refl
      | false ↦ refl
    ]

pub closes_keeps : (k : ℕ) (x : World) → MutelyKept k x → NonceKeeps (dropped_wires x k)
closes_keeps k x q =
    let v = x.values in
    let n = end_numbers v.server v.moment k in
    let t = (step v.server v.moment (End k)).server in
    let ends = put (sealers v.conns x.wires) k off_end in
    let off = sealer_of false (x.wires k).server_end in
    record {
      drawn = q.drawn;
      tables = tables_step v.records v.server v.moment (End k) tt q.tables;
      draws = same_draws v.server t q.drawn n q.draws;
      named = same_named v.server t (key_sessions x.logons) n q.named;
      numbered = alike x.sealings (put ends k off) (sealers (put v.conns k (server_off (v.conns k)))
          (put x.wires k (server_end_off (x.wires k)))) q.drawn (closed_same v.conns x.wires k)
          (off_keeps x.sealings ends q.drawn k off refl q.numbered);
    }

by_end : (w : World) (k : ℕ) (bs : List (List ℕ)) (xs : List Sent) (token : Token) (S : ConnectionStep) (o : Option ConnEnd)
    → S.ends ≡ o → (i : NonceKeeps w) → (w.values.conns k).server_open ≡ true
    → StepKept w.values.records w.values.server k w.sealings (sealers w.values.conns w.wires) i.drawn S
    → NonceKeeps (served_by w k bs xs token S o)
by_end w k bs xs token S None e i open_is q = on_keeps w k bs xs token S i open_is e q
by_end w k bs xs token S (Some why) e i open_is q =
    closes_keeps k (served_mutely w k bs xs token S) (mutely_keeps w k bs xs token S i q)

pub serve_keeps : (z : WorldSettings) (w : World) (k : ℕ) (bs : List (List ℕ)) (xs : List Sent) → NonceKeeps w
    → (w.values.conns k).server_open ≡ true → NonceKeeps (serve_frame z w k bs xs)
serve_keeps z w k [] xs i open_is = i
serve_keeps z w k (b ∷ bs) [] i open_is = i
serve_keeps z w k (b ∷ bs) (x ∷ xs) i open_is =
    by_end w k bs xs x.token (step_at z w k b) (step_at z w k b).ends refl i open_is (at_step z w k b i open_is)

pub absorb_keeps : (z : WorldSettings) (w : World) (k : ℕ) (bs : List (List ℕ)) (xs : List Sent) → NonceKeeps w
    → (w.values.conns k).server_open ≡ true → MutelyKept k (absorb_frame z w k bs xs)
absorb_keeps z w k [] xs i open_is = plainly_kept w k i
absorb_keeps z w k (b ∷ bs) [] i open_is = plainly_kept w k i
absorb_keeps z w k (b ∷ bs) (x ∷ xs) i open_is =
    mutely_keeps w k bs xs x.token (step_at z w k b) i (at_step z w k b i open_is)

-- ---- Drop and Restart

pub dropped_keeps : (w : World) (k : ℕ) → NonceKeeps w → NonceKeeps (dropped_wires w k)
dropped_keeps w k i = closes_keeps k w (plainly_kept w k i)

-- ids of the next epoch are above all before it
next_epoch : (e n d m : ℕ) → n ≤ 0xffff_ffff → d ≡ e + 1 → m ≡ 0 → id_of e n ≤ id_of d m
next_epoch e n d m few a b = omega (arith, few, a, b)

pub restarted_keeps : (k : ℕ) (x : World) → MutelyKept k x → NonceKeeps (restarted_wires x)
restarted_keeps k x q =
    let s = x.values.server in
    let rs = x.values.records in
    let u = recovered_from s rs in
    let i = q.tables in
    let fit = i.fit in
    let r = restarted s rs i.recovers in
    let bare = r.bare in
    let d = q.draws in
    record {
      drawn = q.drawn;
      tables = record {
        fit = recovered_fits s rs fit.room i.sound;
        sound = sound_more rs (recovery_records rs) i.sound (sound_recovery (fold rs));
        recovers = restarts s rs fit.listed i.recovers;
      };
      draws = record {
        present = λ y p. absurd (let h = bare.absent y in let g : true ≡ false = sym p ∙ h in cc);
        making = λ j y e. absurd (let h = bare.unmade j in let g : Some (NewSession y) ≡ None = sym e ∙ h in cc);
        fresh = λ y above. d.fresh y (let l = next_epoch s.epoch s.session_ids_given u.epoch u.session_ids_given fit.begun r.epoch
            r.session_ids_given in omega (arith, l, above));
      };
      named = λ y p. absurd (let h = bare.absent y in let g : true ≡ false = sym p ∙ h in cc);
      numbered = all_off_keeps x.sealings (put (sealers x.values.conns x.wires) k off_end) _ q.drawn (λ j. refl) q.numbered;
    }
