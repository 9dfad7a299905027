-- A frame that the server's end takes keeps what holds of ends and endings.
use Rattle.std.proofs.Common.{◌≡◌, ℕ, ◌==◌, Bool, true, false, not, ◌&&◌, if◌then◌else◌, List, [], ◌∷◌, ◌++◌, refl}
use Rattle.std.proofs.Common.{sym, ◌∙◌, ap, subst, take, length}
use Rattle.std.proofs.Common.{Option, Some, None, is_some, Result, Ok, Err}
use Rattle.spec_exchange.specs.Table.{put}
use Rattle.spec_exchange.specs.State.{Server, Making, End}
use Rattle.spec_exchange.specs.Step.{step}
use Rattle.spec_exchange.specs.Network.{World as Values, Conn, Sent, Received, Token, behind_front, replied, server_off}
use Rattle.law_server.proofs.tables.Logic.{either}
use Rattle.spec_world.specs.Settings.{ServerSettings, WorldSettings, draw}
use Rattle.spec_world.specs.Ends.{ServerEnd, Logons, ConnEnd, Spent}
use Rattle.spec_world.specs.Hearing.{Frame, check_frame}
use Rattle.spec_world.specs.Answering.{all_texts, joined_in, text_limit, each_joined, concatenated, has_nonces}
use Rattle.spec_world.specs.Connection.{LastTaken, Going, ConnectionStep, ended_by, counted_on, answered_with}
use Rattle.spec_world.specs.Connection.{answered, beginning, step_of, connection_step, went_all}
use Rattle.spec_world.specs.World.{World, Wires, served_on, served_mutely, served_by, dropped_wires, server_end_off}
use Rattle.spec_world.specs.World.{values_took, values_said, replied_each, answered_wires, step_at, serve_frame}
use Rattle.spec_world.specs.World.{absorb_frame, last_reply, restarted_wires}
use Rattle.spec_world.specs.Statements.{IsWhole}
use Rattle.law_nonces.specs.negotiation.Keeping.{GreetingFits, MakingFits, EndsFit, IsSynced, AreWhole, AreVerified}
use Rattle.law_nonces.specs.negotiation.Keeping.{NegotiationKept, NegotiationKeeps}
use Rattle.law_nonces.proofs.negotiation.Tables.{by_key, put_other, SameOpen, put_open, same_open, none_there, all_joined}
use Rattle.law_nonces.proofs.negotiation.Values.{absorbed_open, replied_open, end_making, recovered_making}
use Rattle.law_nonces.proofs.negotiation.Checked.{FrameFine, AreFine, frame_fine}
use Rattle.law_nonces.proofs.negotiation.Telling.{told_fits}
use Rattle.law_nonces.proofs.negotiation.Going.{GoesOn, answer_server, all_keep}

-- ---- the step of one connection, by what was in the making before it

pub record StepKept (old : ℕ → Option Making) (s : Server) (k : ℕ) (S : ConnectionStep) : Type 0 where
  pub greeting : GreetingFits S.server_end.greeting
  pub making : MakingFits S.server_end.making
  pub here : S.ends ≡ None → is_some (S.server.making k) ≡ true → is_some S.server_end.making ≡ true
  pub elsewhere : (j : ℕ) → (j == k) ≡ false → is_some (S.server.making j) ≡ true → is_some (old j) ≡ true
  pub taken : S.server ≡ answer_server S.taken s
  pub made : AreWhole S.made

ended_kept : (old : ℕ → Option Making) (s : Server) (k : ℕ) (u : Server) (L : Logons) (f : ServerEnd)
    (taken : Option LastTaken) (why : ConnEnd) → GreetingFits f.greeting → MakingFits f.making
    → ((j : ℕ) → (j == k) ≡ false → is_some (u.making j) ≡ true → is_some (old j) ≡ true) → u ≡ answer_server taken s
    → StepKept old s k (ended_by u L f taken why)
ended_kept old s k u L f taken why greeting making elsewhere is =
    record {
      greeting = greeting;
      making = making;
      here = λ e h. absurd (let q : Some why ≡ None = e in cc);
      elsewhere = elsewhere;
      taken = is;
      made = none_there IsWhole;
    }

answered_kept : (old : ℕ → Option Making) (s : Server) (k : ℕ) (f : ServerEnd) (sealed : Bool) (g : Going)
    → GreetingFits f.greeting → MakingFits f.making → GoesOn old s k f g → StepKept old s k (answered f sealed g)
answered_kept old s k f sealed g greeting making i =
    let rows = all_texts sealed (joined_in (text_limit sealed) g.replies) in
    let f2 = counted_on f sealed g (length (each_joined rows)) in
    let t = told_fits sealed f2 g.replies (concatenated rows) greeting making i.follows in
    either (StepKept old s k) (sealed && not (has_nonces f (length rows))) _ (answered_with f sealed g rows (each_joined rows))
    (λ _. ended_kept old s k g.server g.logons f g.taken Spent greeting making i.elsewhere i.taken)
    (λ _. record {
      greeting = t.greeting;
      making = t.making;
      here = λ _ h. t.made ∙ i.here h;
      elsewhere = i.elsewhere;
      taken = i.taken;
      made = t.whole;
    })

by_frame : (old : ℕ → Option Making) (s : Server) (L : Logons) (f : ServerEnd) (z : ServerSettings) (k now : ℕ)
    (fresh : List ℕ) (r : Result Frame ConnEnd)
    → GreetingFits f.greeting → MakingFits f.making → FrameFine f.greeting f.making r → old ≡ s.making
    → (is_some (s.making k) ≡ true → is_some f.making ≡ true)
    → StepKept old s k (step_of z k now fresh s L f r)
by_frame old s L f z k now fresh (Err why) greeting making fine same held =
    ended_kept old s k s L f None why greeting making (λ j _ e. ap (λ m. is_some (m j)) same ∙ e) refl
by_frame old s L f z k now fresh (Ok x) greeting making fine same held =
    let g = x.server_end in
    answered_kept old s k g x.sealed (went_all z k now fresh g (beginning s L g) x.messages)
    (subst GreetingFits (sym fine.0) greeting) (subst MakingFits (sym fine.1) making)
    (all_keep old s z k now fresh g x.messages (beginning s L g) (subst (λ o. AreFine o x.messages) (sym fine.0) fine.2) (record {
      follows = tt;
      here = λ e. ap is_some fine.1 ∙ held e;
      elsewhere = λ j _ e. ap (λ m. is_some (m j)) same ∙ e;
      taken = refl;
    }))

pub step_kept : (z : ServerSettings) (k now : ℕ) (fresh : List ℕ) (s : Server) (L : Logons) (f : ServerEnd) (frame : List ℕ)
    → GreetingFits f.greeting → MakingFits f.making → (is_some (s.making k) ≡ true → is_some f.making ≡ true)
    → StepKept s.making s k (connection_step z k now fresh s L f frame)
step_kept z k now fresh s L f frame greeting making held =
    by_frame s.making s L f z k now fresh (check_frame f frame) greeting making (frame_fine f frame) refl held

-- ---- the values behind it

pub took_server : (v : Values) (k : ℕ) (token : Token) (xs : List Sent) (o : Option LastTaken)
    → (values_took v k token xs o).server ≡ answer_server o v.server
took_server v k token xs None = refl
took_server v k token xs (Some t) = refl

pub took_open : (v : Values) (k : ℕ) (token : Token) (xs : List Sent) (o : Option LastTaken)
    → SameOpen v.conns (values_took v k token xs o).conns
took_open v k token xs None = put_open v.conns k (behind_front (v.conns k) xs) refl
took_open v k token xs (Some t) = absorbed_open v k (record { token = token; message = t.message }) xs t.answer

each_server : (v : Values) (k : ℕ) (y : Received) (fs : List (List ℕ)) → (replied_each v k y fs).server ≡ v.server
unfolding replied_each
each_server v k y [] = refl
each_server v k y (f ∷ fs) = each_server (replied v k y) k y fs

each_open : (v : Values) (k : ℕ) (y : Received) (fs : List (List ℕ)) → SameOpen v.conns (replied_each v k y fs).conns
unfolding replied_each
each_open v k y [] = λ j. refl
each_open v k y (f ∷ fs) = same_open v.conns (replied v k y).conns (replied_each (replied v k y) k y fs).conns
    (replied_open v k y) (each_open (replied v k y) k y fs)

pub said_server : (v : Values) (k : ℕ) (token : Token) (xs : List Sent) (S : ConnectionStep)
    → (values_said v k token xs S).server ≡ answer_server S.taken v.server
said_server v k token xs S = each_server (values_took v k token xs S.taken) k (record {
  token = token;
  reply = last_reply S.taken;
  place = v.log.places;
}) S.frames ∙ took_server v k token xs S.taken

pub said_open : (v : Values) (k : ℕ) (token : Token) (xs : List Sent) (S : ConnectionStep)
    → SameOpen v.conns (values_said v k token xs S).conns
said_open v k token xs S =
    same_open v.conns (values_took v k token xs S.taken).conns (values_said v k token xs S).conns
    (took_open v k token xs S.taken) (each_open (values_took v k token xs S.taken) k (record {
      token = token;
      reply = last_reply S.taken;
      place = v.log.places;
    }) S.frames)

-- ---- the world

-- an end, as it stands at its connection
abbrev SyncedAt : (ℕ → Conn) → (ℕ → Option Making) → ℕ → Wires → Type 0
SyncedAt conns making j u = IsSynced (conns j).server_open (making j) u.server_end

abbrev FitsAt : ℕ → Wires → Type 0
FitsAt j u = EndsFit u.client_end u.server_end

-- elsewhere what is in the making was there before
there : (w : World) (conns : ℕ → Conn) (making : ℕ → Option Making) (k j : ℕ) → NegotiationKeeps w → SameOpen w.values.conns conns
    → (is_some (making j) ≡ true → is_some (w.values.server.making j) ≡ true)
    → SyncedAt conns making j (w.wires j)
there w conns making k j i same less =
    let old = i.synced j in
    record { opened = λ e. same j ∙ old.opened (less e); held = λ e. old.held (less e) }

on_keeps : (w : World) (k : ℕ) (bs : List (List ℕ)) (xs : List Sent) (token : Token) (S : ConnectionStep) → NegotiationKeeps w
    → (w.values.conns k).server_open ≡ true → S.ends ≡ None
    → StepKept w.values.server.making w.values.server k S → NegotiationKeeps (served_on w k bs xs token S)
on_keeps w k bs xs token S i open_is none q =
    let v = values_said w.values k token xs S in
    let new = answered_wires (w.wires k) (w.values.conns k).client_open S.server_end bs S.frames in
    let same : SameOpen w.values.conns v.conns = said_open w.values k token xs S in
    let server : v.server ≡ S.server = said_server w.values k token xs S ∙ sym q.taken in
    let old = i.fits k in
    subst (λ (m : ℕ → Option Making). NegotiationKept (put w.wires k new) v.conns m (w.made ++ S.made) w.accepted)
    (ap (λ (x : Server). x.making) (sym server))
    (record {
      fits = by_key FitsAt w.wires k new (record { client = old.client; greeting = q.greeting; making = q.making }) (λ j off. i.fits j);
      synced = by_key (SyncedAt v.conns S.server.making) w.wires k new
          (record { opened = λ _. same k ∙ open_is; held = λ e. q.here none e })
          (λ j off. there w v.conns S.server.making k j i same (q.elsewhere j off));
      made_whole = all_joined IsWhole w.made S.made i.made_whole q.made;
      accepted_whole = i.accepted_whole;
    })

-- of what is said of nothing, and the server's end closes then
pub record MutelyKept (w : World) (k : ℕ) (x : World) : Type 0 where
  pub fits : (j : ℕ) → EndsFit (x.wires j).client_end (x.wires j).server_end
  pub synced : (j : ℕ) → (j == k) ≡ false → IsSynced (x.values.conns j).server_open (x.values.server.making j) (x.wires j).server_end
  pub made : x.made ≡ w.made
  pub accepted : x.accepted ≡ w.accepted

mutely_keeps : (w : World) (k : ℕ) (bs : List (List ℕ)) (xs : List Sent) (token : Token) (S : ConnectionStep) → NegotiationKeeps w
    → StepKept w.values.server.making w.values.server k S → MutelyKept w k (served_mutely w k bs xs token S)
mutely_keeps w k bs xs token S i q =
    let v = values_took w.values k token xs S.taken in
    let new = record (w.wires k) { server_end = S.server_end; up = bs } in
    let same : SameOpen w.values.conns v.conns = took_open w.values k token xs S.taken in
    let server : v.server ≡ S.server = took_server w.values k token xs S.taken ∙ sym q.taken in
    let old = i.fits k in
    record {
      fits = by_key FitsAt w.wires k new (record { client = old.client; greeting = q.greeting; making = q.making }) (λ j off. i.fits j);
      synced = λ j off. subst (λ (u : Wires). IsSynced (v.conns j).server_open (v.server.making j) u.server_end)
          (sym (put_other w.wires k j new off))
          (subst (λ (x : Server). IsSynced (v.conns j).server_open (x.making j) (w.wires j).server_end) (sym server)
          (there w v.conns S.server.making k j i same (q.elsewhere j off)));
      made = refl;
      accepted = refl;
    }

-- the server's end closes: nothing is in the making there any more
pub closes_keeps : (w : World) (k : ℕ) (x : World) → NegotiationKeeps w → MutelyKept w k x → NegotiationKeeps (dropped_wires x k)
closes_keeps w k x i q =
    let v = x.values in
    let off = server_end_off (x.wires k) in
    let gone : (step v.server v.moment (End k)).server.making ≡ put v.server.making k None = end_making v.server v.moment k in
    subst (λ (m : ℕ → Option Making). NegotiationKept (put x.wires k off) (put v.conns k (server_off (v.conns k))) m
    x.made x.accepted) (sym gone)
    (record {
      fits = by_key FitsAt x.wires k off (q.fits k) (λ j apart. q.fits j);
      synced = λ j. closed j;
      made_whole = subst AreWhole (sym q.made) i.made_whole;
      accepted_whole = subst AreVerified (sym q.accepted) i.accepted_whole;
    })
  where
    closed : (j : ℕ) → IsSynced (put x.values.conns k (server_off (x.values.conns k)) j).server_open
        (put x.values.server.making k None j) (put x.wires k (server_end_off (x.wires k)) j).server_end
    closed j = elim (j == k) as (λ b. j == k ≡ b → IsSynced (if b then server_off (x.values.conns k) else x.values.conns
        j).server_open (if b then None else x.values.server.making j) (if b then server_end_off (x.wires k) else x.wires
        j).server_end) [
          | true ↦ λ e. record { opened = λ h. absurd (cc); held = λ h. absurd (cc) }
          | false ↦ λ e. q.synced j e
        ] refl

-- a world of which nothing was changed
pub plainly_kept : (w : World) (k : ℕ) → NegotiationKeeps w → MutelyKept w k w
plainly_kept w k i = record { fits = i.fits; synced = λ j off. i.synced j; made = refl; accepted = refl }

at_step : (z : WorldSettings) (w : World) (k : ℕ) (b : List ℕ) → NegotiationKeeps w → StepKept w.values.server.making
    w.values.server k (step_at z w k b)
at_step z w k b i =
    let old = i.fits k in
    let so = i.synced k in
    step_kept z.server k w.values.moment (take 8 (draw z.seed w.draws)) w.values.server w.logons (w.wires k).server_end
    b old.greeting old.making so.held

by_end : (w : World) (k : ℕ) (bs : List (List ℕ)) (xs : List Sent) (token : Token) (S : ConnectionStep)
    (o : Option ConnEnd) → S.ends ≡ o → NegotiationKeeps w → (w.values.conns k).server_open ≡ true
    → StepKept w.values.server.making w.values.server k S → NegotiationKeeps (served_by w k bs xs token S o)
by_end w k bs xs token S None e i open_is q = on_keeps w k bs xs token S i open_is e q
by_end w k bs xs token S (Some why) e i open_is q = closes_keeps w k (served_mutely w k bs xs token S) i
    (mutely_keeps w k bs xs token S i q)

pub serve_keeps : (z : WorldSettings) (w : World) (k : ℕ) (bs : List (List ℕ)) (xs : List Sent) → NegotiationKeeps w
    → (w.values.conns k).server_open ≡ true → NegotiationKeeps (serve_frame z w k bs xs)
serve_keeps z w k [] xs i open_is = i
serve_keeps z w k (b ∷ bs) [] i open_is = i
serve_keeps z w k (b ∷ bs) (x ∷ xs) i open_is =
    by_end w k bs xs x.token (step_at z w k b) (step_at z w k b).ends refl i open_is (at_step z w k b i)

pub absorb_keeps : (z : WorldSettings) (w : World) (k : ℕ) (bs : List (List ℕ)) (xs : List Sent) → NegotiationKeeps w
    → MutelyKept w k (absorb_frame z w k bs xs)
absorb_keeps z w k [] xs i = plainly_kept w k i
absorb_keeps z w k (b ∷ bs) [] i = plainly_kept w k i
absorb_keeps z w k (b ∷ bs) (x ∷ xs) i = mutely_keeps w k bs xs x.token (step_at z w k b) i (at_step z w k b i)

-- ---- Drop and Restart

pub dropped_keeps : (w : World) (k : ℕ) → NegotiationKeeps w → NegotiationKeeps (dropped_wires w k)
dropped_keeps w k i = closes_keeps w k w i (plainly_kept w k i)

pub restarted_keeps : (w : World) (k : ℕ) (x : World) → NegotiationKeeps w → MutelyKept w k x → NegotiationKeeps (restarted_wires x)
restarted_keeps w k x i q =
    record {
      fits = q.fits;
      synced = λ j. record {
        opened = λ e. absurd (let h = recovered_making x.values.server x.values.records j in cc);
        held = λ e. absurd (let h = recovered_making x.values.server x.values.records j in cc);
      };
      made_whole = subst AreWhole (sym q.made) i.made_whole;
      accepted_whole = subst AreVerified (sym q.accepted) i.accepted_whole;
    }
