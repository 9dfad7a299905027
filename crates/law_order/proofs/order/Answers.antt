-- What an answer to a message does to the pairs that reached the opens, for whichever check answered.
use Rattle.law_order.proofs.order.Pairs.{tree_moves, still_drop_tree}
use Rattle.std.proofs.lemmas.Bool.{eqb-false}
use Rattle.std.proofs.Common.{eqb-true, ◌⊎◌, ◌==◌, ◌≢◌, ◌≡◌, ℕ, Bool, ◌+◌, ◌≤◌, true, false, List, refl, arith, sym}
use Rattle.std.proofs.Common.{subst, ◌∙◌, ap, Option, Some, None, is_some, inl, inr}
use Rattle.spec_exchange.specs.Table.{put}
use Rattle.spec_exchange.specs.Commands.{Command, Aside, Unreadable, Setup, Logoff, TreeConnect, TreeDisconnect, Create}
use Rattle.spec_exchange.specs.Commands.{Close, Flush, Read, Write, Lock, Ioctl, ListDirectory, QueryFile, QueryVolume}
use Rattle.spec_exchange.specs.Commands.{SetInfo, CreateRequest, SetupRequest}
use Rattle.spec_exchange.specs.State.{Server, Message, Heard, Record, Answer}
use Rattle.spec_exchange.specs.Opens.{id_of, is_of_session, leave_open, drop_open, pending_behind}
use Rattle.spec_exchange.specs.CheckOpen.{is_late, file_of}
use Rattle.spec_exchange.specs.CheckSetup.{is_new}
use Rattle.spec_exchange.specs.Check.{check}
use Rattle.spec_exchange.specs.Effects.{apply, reach, reaches, attached, attaches, set_ranges, make_open, next_open}
use Rattle.spec_exchange.specs.Effects.{end_if_named, add_session, keep_closed}
use Rattle.spec_exchange.specs.Verdict.{Verdict, Refuse, Give, KeepRefusal, Repeat, Attach, Make, TurnDown, Tell, Show}
use Rattle.spec_exchange.specs.Verdict.{KeepSlot, PutRanges, Alter, CloseOpen, Challenge, ChallengeBinding, Begin, Join}
use Rattle.spec_exchange.specs.Verdict.{EndSession, AddTree, DropTree}
use Rattle.spec_exchange.specs.Step.{step, with_deadlines, due, expire}
use Rattle.spec_exchange.specs.Network.{answer_to}
use Rattle.law_server.proofs.tables.Doors.{by_verdict, recorded, Before, Finds}
use Rattle.law_order.specs.order.Newest.{Pair, LowSequences}
use Rattle.law_order.proofs.order.Sound.{Sound, sound, sound_without_room}
use Rattle.law_order.proofs.order.Pairs.{shut_left, Alike, Moves, same, moves_alike, moves_on, expire_moves, shut_moves}
use Rattle.law_order.proofs.order.Pairs.{in_time, reach_moves, attached_moves, slot_alike, change_alike, file_alike}
use Rattle.law_order.proofs.order.Pairs.{end_moves, end_named_moves, begun_pair, deadlines_moves, settled_alike, pending_alike}
use Rattle.law_order.proofs.order.Pairs.{expired_alike, Still, still_same, still_alike, still_on, still_shut, still_end}
use Rattle.law_order.proofs.order.Pairs.{still_end_named, still_expire, still_deadlines, content_expire}

-- every pair is kept of which the session isn't in the making where the message came from
pub record Facts (s : Server) (m : Message) (A : Answer) : Type 0 where
  pub pair : (x q o : ℕ) → is_new x (s.making m.connection) ≡ false → o ≤ id_of s.epoch s.open_ids_given → Pair s x q o
      → Pair A.server x q o
  pub ids : id_of s.epoch s.open_ids_given ≤ id_of A.server.epoch A.server.open_ids_given
  pub low : LowSequences A.server
  pub stands : (o : ℕ) → o ≤ id_of s.epoch s.open_ids_given → A.server.standing o ≡ true → s.standing o ≡ true
  pub there : (x : ℕ) → is_new x (s.making m.connection) ≡ false → A.server.present x ≡ true → s.present x ≡ true
  pub row : (o : ℕ) → o ≤ id_of s.epoch s.open_ids_given → A.server.opened o ≡ s.opened o
  pub session_of_open : (o x : ℕ) → A.server.session_of_open o ≡ Some x
      → (s.session_of_open o ≡ Some x × A.server.sequence o ≤ s.sequence o)
      ⊎ (A.reached ≡ Some o × x ≡ m.session_id × A.server.sequence o ≤ m.channel_sequence)
  pub reached : (o : ℕ) → A.reached ≡ Some o → o ≤ id_of A.server.epoch A.server.open_ids_given
      × Pair A.server m.session_id m.channel_sequence o
  -- a change is of the open's own session, and no older than any pair of it
  pub altered : (o : ℕ) → A.altered ≡ Some o → (s.present m.session_id ≡ true) × ((x q : ℕ) → Pair s x q o → s.present x
      ≡ true → (x ≡ m.session_id) × (q ≤ m.channel_sequence))

-- what the facts need of the state and the message
pub record Given (s : Server) (m : Message) : Type 0 where
  pub low : LowSequences s
  pub sequence : m.channel_sequence ≤ 32767
  pub attached : (o x : ℕ) → s.session_of_open o ≡ Some x → s.present x ≡ true
  pub named : (c g o : ℕ) → s.by_guid c g ≡ Some o → o ≤ id_of s.epoch s.open_ids_given
  pub ids : (o : ℕ) → s.standing o ≡ true → o ≤ id_of s.epoch s.open_ids_given

same_ids : (s t : Server) → Moves s t → id_of t.epoch t.open_ids_given ≡ id_of s.epoch s.open_ids_given
same_ids s t h = let a = h.epoch in let b = h.given in grind arith

-- the server moved, and no sequence reached an open
quiet_facts : (s : Server) (m : Message) (A : Answer) → Given s m → Moves s A.server → Still s A.server → A.reached
    ≡ None → A.altered ≡ None → Facts s m A
quiet_facts s m A g h still r a =
    record {
      pair = λ x q o n l p. h.pair x q o p;
      ids = let e = same_ids s A.server h in omega (arith, e);
      low = h.low g.low;
      stands = λ o l f. h.stands o f;
      there = λ x n f. h.there x f;
      row = λ o l. ap (λ f. f o) h.row;
      session_of_open = λ o x e. inl (still.session_of_open o x e, still.sequence o);
      reached = λ o e. absurd (let f = r in grind arith);
      altered = λ o e. absurd (let f = a in grind arith);
    }

on_open : (s : Server) (o x : ℕ) → is_of_session s o x ≡ true → s.standing o ≡ true × s.session_of_open o ≡ Some x
on_open s o x e = (grind arith, grind arith)

-- the message's own pair is one of the open, behind its sequence
own_pair : (s : Server) (m : Message) (o : ℕ) → Given s m → is_of_session s o m.session_id ≡ true → (p : ℕ)
    → reaches s m o ≡ Some p → p ≤ id_of s.epoch s.open_ids_given × Pair (reach s m o) m.session_id m.channel_sequence p
own_pair s m o g on p e =
    elim (is_late s m o) as (λ b. is_late s m o ≡ b → p ≤ id_of s.epoch s.open_ids_given
    × Pair (reach s m o) m.session_id m.channel_sequence p) [
      | true ↦ λ l. absurd (grind arith)
      | false ↦ λ l. let h = on_open s o m.session_id on in let i = g.ids o h.0 in (grind arith, λ st pr. (grind arith, grind arith))
    ] refl

other_id : (o n : ℕ) → o ≤ n → o ≢ n + 1
other_id o n l e = absurd (omega (arith, l, e))

-- the open whose sequence rises is the message's
at_reached : (s : Server) (m : Message) (o : ℕ) (A : Answer) → Given s m → is_of_session s o m.session_id ≡ true
    → Still (reach s m o) A.server → A.reached ≡ reaches s m o
    → (p x : ℕ) → A.server.session_of_open p ≡ Some x → (s.session_of_open p ≡ Some x × A.server.sequence p ≤ s.sequence
    p) ⊎ (A.reached ≡ Some p × x ≡ m.session_id × A.server.sequence p ≤ m.channel_sequence)
at_reached s m o A g on still r p x e =
    let at : s.session_of_open p ≡ Some x = same_at (still.session_of_open p x e) in let up = still.sequence p in
    elim (is_late s m o) as (λ b. is_late s m o ≡ b → (s.session_of_open p ≡ Some x × A.server.sequence p ≤ s.sequence
    p) ⊎ (A.reached ≡ Some p × x ≡ m.session_id × A.server.sequence p ≤ m.channel_sequence)) [
      | true ↦ λ l. inl (at, grind arith)
      | false ↦ λ l. elim (p == o) as (λ b. p == o ≡ b
          → (s.session_of_open p ≡ Some x × A.server.sequence p ≤ s.sequence p)
          ⊎ (A.reached ≡ Some p × x ≡ m.session_id × A.server.sequence p ≤ m.channel_sequence)) [
            | true ↦ λ z. let q : p ≡ o = eqb-true p o z in let own = (on_open s o m.session_id on).1 in
                inr (grind arith, some_same x m.session_id (sym at ∙ (ap s.session_of_open q ∙ own)), grind arith)
            | false ↦ λ z. let q : p ≢ o = eqb-false p o z in inl (at, grind arith)
          ] refl
    ] refl
  where
    same_at : (reach s m o).session_of_open p ≡ Some x → s.session_of_open p ≡ Some x
    same_at e = grind arith

    some_same : (x y : ℕ) → Some x ≡ Some y → x ≡ y
    some_same x y h = grind arith

at_attached : (s : Server) (m : Message) (o p x : ℕ) (r : Option ℕ) → r ≡ attaches s o
    → (attached s m o).session_of_open p ≡ Some x
    → (s.session_of_open p ≡ Some x × (attached s m o).sequence p ≤ s.sequence p)
    ⊎ (r ≡ Some p × x ≡ m.session_id × (attached s m o).sequence p ≤ m.channel_sequence)
at_attached s m o p x r a e =
    elim (is_some (s.session_of_open o)) as (λ b. is_some (s.session_of_open o) ≡ b
    → (s.session_of_open p ≡ Some x × (attached s m o).sequence p ≤ s.sequence p)
    ⊎ (r ≡ Some p × x ≡ m.session_id × (attached s m o).sequence p ≤ m.channel_sequence)) [
      | true ↦ λ l. inl (grind arith, grind arith)
      | false ↦ λ l. elim (p == o) as (λ b. p == o ≡ b
          → (s.session_of_open p ≡ Some x × (attached s m o).sequence p ≤ s.sequence p)
          ⊎ (r ≡ Some p × x ≡ m.session_id × (attached s m o).sequence p ≤ m.channel_sequence)) [
            | true ↦ λ z. let q : p ≡ o = eqb-true p o z in inr (grind arith, grind arith, grind arith)
            | false ↦ λ z. let q : p ≢ o = eqb-false p o z in inl (grind arith, grind arith)
          ] refl
    ] refl

-- the sequence came to its open
reached_facts : (s : Server) (m : Message) (o : ℕ) (A : Answer) → Given s m → is_of_session s o m.session_id ≡ true
    → Moves (reach s m o) A.server → Still (reach s m o) A.server → A.reached ≡ reaches s m o → A.altered ≡ None
    → Facts s m A
reached_facts s m o A g on h still r a =
    let k = moves_on s (reach s m o) A.server (reach_moves s m o g.low g.sequence) h in
    record {
      pair = λ x q p n l f. k.pair x q p f;
      ids = let e = same_ids s A.server k in omega (arith, e);
      low = k.low g.low;
      stands = λ o l h. k.stands o h;
      there = λ x n h. k.there x h;
      row = λ o l. ap (λ f. f o) k.row;
      session_of_open = λ p x e. at_reached s m o A g on still r p x e;
      reached = λ p e. let own = own_pair s m o g on p (sym r ∙ e) in (
        let i = own.0 in let j = same_ids s A.server k in
            omega (arith, i, j),
        h.pair m.session_id m.channel_sequence p own.1,
      );
      altered = λ p e. absurd (let f = a in grind arith);
    }

alter_facts : (s : Server) (m : Message) (o : ℕ) (A : Answer) → Given s m → is_of_session s o m.session_id ≡ true
    → is_late s m o ≡ false → Moves (reach s m o) A.server → Still (reach s m o) A.server → A.reached ≡ reaches s m o
    → A.altered ≡ Some o → Facts s m A
alter_facts s m o A g on late h still r a =
    let k = moves_on s (reach s m o) A.server (reach_moves s m o g.low g.sequence) h in
    let at = on_open s o m.session_id on in let t = in_time s m o g.low g.sequence late in
    record {
      pair = λ x q p n l f. k.pair x q p f;
      ids = let e = same_ids s A.server k in omega (arith, e);
      low = k.low g.low;
      stands = λ o l h. k.stands o h;
      there = λ x n h. k.there x h;
      row = λ o l. ap (λ f. f o) k.row;
      session_of_open = λ p x e. at_reached s m o A g on still r p x e;
      reached = λ p e. let own = own_pair s m o g on p (sym r ∙ e) in (
        let i = own.0 in let j = same_ids s A.server k in
            omega (arith, i, j),
        h.pair m.session_id m.channel_sequence p own.1,
      );
      altered = λ p e. let z : p ≡ o = some_same p o (sym e ∙ a) in (
        g.attached o m.session_id at.1,
        λ x q f pr. let old = f (subst (λ p. s.standing p ≡ true) (sym z) at.0) pr in (
          some_same x m.session_id (sym (subst (λ p. s.session_of_open p ≡ Some x) z old.0) ∙ at.1),
          let l : q ≤ s.sequence o = subst (λ p. q ≤ s.sequence p) z old.1 in omega (arith, l, t),
        ),
      );
    }
  where
    some_same : (x y : ℕ) → Some x ≡ Some y → x ≡ y
    some_same x y h = grind arith

-- an open that is attached or given again
attach_facts : (s : Server) (m : Message) (o : ℕ) (A : Answer) → Given s m → o ≤ id_of s.epoch s.open_ids_given
    → A.server ≡ attached s m o → A.reached ≡ attaches s o → A.altered ≡ None → Facts s m A
attach_facts s m o A g i h r a =
    let k : Moves s A.server = subst (λ t. Moves s t) (sym h) (attached_moves s m o g.sequence) in
    record {
      pair = λ x q p n l f. k.pair x q p f;
      ids = let e = same_ids s A.server k in omega (arith, e);
      low = k.low g.low;
      stands = λ o l h. k.stands o h;
      there = λ x n h. k.there x h;
      row = λ o l. ap (λ f. f o) k.row;
      session_of_open = λ p x e.
          subst (λ t. t.session_of_open p ≡ Some x → (s.session_of_open p ≡ Some x × t.sequence p ≤ s.sequence p)
          ⊎ (A.reached ≡ Some p × x ≡ m.session_id × t.sequence p ≤ m.channel_sequence)) (sym h)
          (at_attached s m o p x A.reached r) e;
      reached = λ p e. subst (λ t. p ≤ id_of t.epoch t.open_ids_given × Pair t m.session_id m.channel_sequence p)
          (sym h) (own s m o p i (sym r ∙ e));
      altered = λ p e. absurd (let f = a in grind arith);
    }
  where
    own : (s : Server) (m : Message) (o p : ℕ) → o ≤ id_of s.epoch s.open_ids_given → attaches s o ≡ Some p
        → p ≤ id_of (attached s m o).epoch (attached s m o).open_ids_given × Pair (attached s m o) m.session_id
        m.channel_sequence p
    own s m o p i e =
        elim (is_some (s.session_of_open o)) as (λ b. is_some (s.session_of_open o) ≡ b
        → p ≤ id_of (attached s m o).epoch (attached s m o).open_ids_given × Pair (attached s m o) m.session_id
        m.channel_sequence p) [
          | true ↦ λ l. absurd (grind arith)
          | false ↦ λ l. (grind arith, λ st pr. (grind arith, grind arith))
        ] refl

-- a new open
make_facts : (s : Server) (m : Message) (r : CreateRequest) (found : Option ℕ) (action now : ℕ) (A : Answer) → Given s m
    → A.server ≡ make_open s m r found action now → A.reached ≡ Some (next_open s) → A.altered ≡ None → Facts s m A
make_facts s m r found action now A g h e a =
    record {
      pair = λ x q o n l f. subst (λ t. Pair t x q o) (sym h) (made_pair x q o l f);
      ids = subst (λ t. id_of s.epoch s.open_ids_given ≤ id_of t.epoch t.open_ids_given) (sym h)
          (let al = file_alike s r found now in let ep = al.epoch in grind arith);
      low = subst LowSequences (sym h) made_low;
      stands = λ o l f. made_stands o l (subst (λ t. t.standing o ≡ true) h f);
      there = λ x n f. made_there x (subst (λ t. t.present x ≡ true) h f);
      row = λ o l. ap (λ t. t.opened o) h ∙ made_row o l;
      session_of_open = λ o x f. made_at o x (subst (λ t. t.session_of_open o ≡ Some x) h f);
      reached = λ p f. subst (λ t. p ≤ id_of t.epoch t.open_ids_given × Pair t m.session_id m.channel_sequence p)
          (sym h) (made_own p (sym e ∙ f));
      altered = λ p f. absurd (let b = a in grind arith);
    }
  where
    made_pair : (x q o : ℕ) → o ≤ id_of s.epoch s.open_ids_given → Pair s x q o → Pair (make_open s m r found action now) x q o
    made_pair x q o l f = let al = file_alike s r found now in let st = al.standing in let pr = al.present in let at =
        al.session_of_open in let sq = al.sequence in λ t p. (grind arith, grind arith)

    made_stands : (o : ℕ) → o ≤ id_of s.epoch s.open_ids_given → (make_open s m r found action now).standing o ≡ true → s.standing o ≡ true
    made_stands o l f = let al = file_alike s r found now in let st = al.standing in grind arith

    made_there : (x : ℕ) → (make_open s m r found action now).present x ≡ true → s.present x ≡ true
    made_there x f = let al = file_alike s r found now in let pr = al.present in grind arith

    made_row : (o : ℕ) → o ≤ id_of s.epoch s.open_ids_given → (make_open s m r found action now).opened o ≡ s.opened o
    made_row o l = let al = file_alike s r found now in let op = al.opened in grind arith

    made_at : (o x : ℕ) → (make_open s m r found action now).session_of_open o ≡ Some x
        → (s.session_of_open o ≡ Some x × A.server.sequence o ≤ s.sequence o)
        ⊎ (A.reached ≡ Some o × x ≡ m.session_id × A.server.sequence o ≤ m.channel_sequence)
    made_at o x f =
        let al = file_alike s r found now in let at = al.session_of_open in let sq = al.sequence in
        elim (o == next_open s) as (λ b. o == next_open s ≡ b
        → (s.session_of_open o ≡ Some x × A.server.sequence o ≤ s.sequence o)
        ⊎ (A.reached ≡ Some o × x ≡ m.session_id × A.server.sequence o ≤ m.channel_sequence)) [
          | true ↦ λ z. let on : o ≡ next_open s = eqb-true o (next_open s) z in
              inr (
                e ∙ ap Some (sym on),
                grind arith,
                subst (λ t. t.sequence o ≤ m.channel_sequence) (sym h)
                    (grind arith),
              )
          | false ↦ λ z. let on : o ≢ next_open s = eqb-false o (next_open s) z in
              inl (grind arith, subst (λ t. t.sequence o ≤ s.sequence o) (sym h) (grind arith))
        ] refl

    made_low : LowSequences (make_open s m r found action now)
    made_low = λ o. let al = file_alike s r found now in let sq = al.sequence in let old = g.low o in let l = g.sequence in grind arith

    made_own : (p : ℕ) → Some (next_open s) ≡ Some p → p ≤ id_of (make_open s m r found action now).epoch
        (make_open s m r found action now).open_ids_given × Pair (make_open s m r found action now) m.session_id
        m.channel_sequence p
    made_own p e = let al = file_alike s r found now in let ep = al.epoch in (grind arith, λ t q. (grind arith, grind arith))

-- a new session, of which no pair is; the one that it names as its previous one ends before
begin_facts : (s t : Server) (m : Message) (user : List ℕ) (r : SetupRequest) (A : Answer) → Given s m → Moves s t
    → Still s t → is_new m.session_id (s.making m.connection) ≡ true → A.server ≡ add_session t m user r → A.reached
    ≡ None → A.altered ≡ None → Facts s m A
begin_facts s t m user r A g k still new h e a =
    record {
      pair = λ x q o n l f. subst (λ u. Pair u x q o) (sym h) (begun_pair t m user r x q o (λ z. apart x z n) (k.pair x q o f));
      ids = subst (λ u. id_of s.epoch s.open_ids_given ≤ id_of u.epoch u.open_ids_given) (sym h)
          (let j = same_ids s t k in let w : id_of s.epoch s.open_ids_given ≤ id_of t.epoch t.open_ids_given = omega
          (arith, j) in w);
      low = subst LowSequences (sym h) (k.low g.low);
      stands = λ o l f. k.stands o (subst (λ (u : Server). u.standing o ≡ true) h f);
      there = λ x n f. k.there x (other_there x n (subst (λ (u : Server). u.present x ≡ true) h f));
      row = λ o l. ap (λ (u : Server). u.opened o) h ∙ ap (λ f. f o) k.row;
      session_of_open = λ o x f.
          inl (
            still.session_of_open o x (subst (λ (u : Server). u.session_of_open o ≡ Some x) h f),
            subst (λ (u : Server). u.sequence o ≤ s.sequence o) (sym h) (still.sequence o),
          );
      reached = λ o f. absurd (let b = e in grind arith);
      altered = λ o f. absurd (let b = a in grind arith);
    }
  where
    apart : (x : ℕ) → x ≡ m.session_id → is_new x (s.making m.connection) ≡ false → ⊥
    apart x z n = absurd (let w = subst (λ y. is_new y (s.making m.connection) ≡ false) z n in grind arith)

    other_there : (x : ℕ) → is_new x (s.making m.connection) ≡ false → put t.present m.session_id true x ≡ true → t.present x ≡ true
    other_there x n e =
        elim (x == m.session_id) as (λ b. x == m.session_id ≡ b → t.present x ≡ true) [
          | true ↦ λ z. absurd (apart x (eqb-true x m.session_id z) n)
          | false ↦ λ z. let ne : x ≢ m.session_id = eqb-false x m.session_id z in grind arith
        ] refl

alike_facts : (s : Server) (m : Message) (A : Answer) → Given s m → Alike s A.server → A.reached ≡ None → A.altered ≡ None → Facts s m A
alike_facts s m A g h r a = quiet_facts s m A g (moves_alike s A.server h) (still_alike s A.server h.session_of_open h.sequence) r a

-- what a challenge makes is a new session of its own; no pair is asked for it
making_moves : (s t : Server) → t.standing ≡ s.standing → t.present ≡ s.present → t.session_of_open ≡ s.session_of_open
    → t.sequence ≡ s.sequence → t.epoch ≡ s.epoch → t.open_ids_given ≡ s.open_ids_given → t.opened ≡ s.opened
    → (m : Message) (A : Answer) → Given s m → A.server ≡ t → A.reached ≡ None → A.altered ≡ None → Facts s m A
making_moves s t st pr at sq ep gi op m A g h r a =
    record {
      pair = λ x q o n l f. subst (λ u. Pair u x q o) (sym h) (let old = f in λ u v. grind arith);
      ids = subst (λ u. id_of s.epoch s.open_ids_given ≤ id_of u.epoch u.open_ids_given) (sym h) (grind arith);
      low = subst LowSequences (sym h) (λ o. let old = g.low o in grind arith);
      stands = λ o l f. ap (λ f. f o) (sym st) ∙ subst (λ (u : Server). u.standing o ≡ true) h f;
      there = λ x n f. ap (λ f. f x) (sym pr) ∙ subst (λ (u : Server). u.present x ≡ true) h f;
      row = λ o l. ap (λ (u : Server). u.opened o) h ∙ ap (λ f. f o) op;
      session_of_open = λ o x f. inl (
        ap (λ f. f o) (sym at) ∙ subst (λ (u : Server). u.session_of_open o ≡ Some x) h f,
        subst (λ (u : Server). u.sequence o ≤ s.sequence o) (sym h) (let z = ap (λ f. f o) sq in omega (arith, z)),
      );
      reached = λ o f. absurd (let b = r in grind arith);
      altered = λ o f. absurd (let b = a in grind arith);
    }

-- an open leaves, with the sequence that reached it
shut_facts : (s : Server) (m : Message) (o : ℕ) (A : Answer) → Given s m → is_of_session s o m.session_id ≡ true
    → A.server ≡ keep_closed (leave_open s o) m.session_id (s.opened o).create_guid → A.reached ≡ reaches s m o
    → A.altered ≡ None → Facts s m A
shut_facts s m o A g on h r a =
    let k : Moves s A.server = subst (λ t. Moves s t) (sym h) (shut_moves s o m.session_id (s.opened o).create_guid) in
    record {
      pair = λ x q p n l f. k.pair x q p f;
      ids = let e = same_ids s A.server k in omega (arith, e);
      low = k.low g.low;
      stands = λ o l h. k.stands o h;
      there = λ x n h. k.there x h;
      row = λ o l. ap (λ f. f o) k.row;
      session_of_open = λ p x e. let still = still_shut s o m.session_id (s.opened o).create_guid in
          inl (
            subst (λ t. t.session_of_open p ≡ Some x → s.session_of_open p ≡ Some x) (sym h)
                (still.session_of_open p x) e,
            subst (λ t. t.sequence p ≤ s.sequence p) (sym h) (still.sequence p),
          );
      reached = λ p e. let own = own_pair s m o g on p (sym r ∙ e) in let i = own.0 in let j = same_ids s A.server k in (
        omega (arith, i, j),
        λ st pr. absurd (let z = its_open p (sym r ∙ e) in let f = shut_left s o m.session_id
            (s.opened o).create_guid in let w = ap (λ t. t.standing o) h in grind arith),
      );
      altered = λ p e. absurd (let f = a in grind arith);
    }
  where
    its_open : (p : ℕ) → reaches s m o ≡ Some p → p ≡ o
    its_open p e = grind arith

pub verdict_facts : (s : Server) (m : Message) (now : ℕ) → Given s m → (v : Verdict) → Sound s m v → Facts s m (apply s m now v)
verdict_facts s m now g (Refuse status) h = alike_facts s m _ g (same s) refl refl
verdict_facts s m now g (Give body) h = alike_facts s m _ g (same s) refl refl
verdict_facts s m now g (KeepRefusal guid status) h = alike_facts s m _ g (record {
  standing = refl;
  present = refl;
  session_of_open = refl;
  sequence = refl;
  epoch = refl;
  open_ids_given = refl;
  making = refl;
  by_guid = refl;
  opened = refl;
}) refl refl
verdict_facts s m now g (Repeat o r) h = attach_facts s m o _ g (g.named m.client_guid h.is.0 o h.is.1) refl refl refl
verdict_facts s m now g (Attach o r) h = attach_facts s m o _ g (g.ids o h.is) refl refl refl
verdict_facts s m now g (Make r found action) h = make_facts s m r found action now _ g refl refl refl
verdict_facts s m now g (TurnDown o status) h = reached_facts s m o _ g h.is (moves_alike _ _ (same (reach s m o)))
    (still_same (reach s m o)) refl refl
verdict_facts s m now g (Tell o body) h = reached_facts s m o _ g h.is (moves_alike _ _ (same (reach s m o)))
    (still_same (reach s m o)) refl refl
verdict_facts s m now g (Show o last body) h = reached_facts s m o _ g h.is (moves_alike _ _ (record {
  standing = refl;
  present = refl;
  session_of_open = refl;
  sequence = refl;
  epoch = refl;
  open_ids_given = refl;
  making = refl;
  by_guid = refl;
  opened = refl;
})) (still_alike (reach s m o) _ refl refl) refl refl
verdict_facts s m now g (KeepSlot o index number status elements) h = reached_facts s m o _ g h.is
    (moves_alike _ _ (slot_alike (reach s m o) o index number status)) (let a = slot_alike (reach s m o) o index number
    status in still_alike (reach s m o) _ a.session_of_open a.sequence) refl refl
verdict_facts s m now g (PutRanges o index number ranges elements) h =
    reached_facts s m o _ g h.is
    (moves_on (reach s m o) (set_ranges (reach s m o) (file_of s o) ranges) _
    (moves_alike _ _ (record {
      standing = refl;
      present = refl;
      session_of_open = refl;
      sequence = refl;
      epoch = refl;
      open_ids_given = refl;
      making = refl;
      by_guid = refl;
      opened = refl;
    }))
    (moves_alike _ _ (slot_alike (set_ranges (reach s m o) (file_of s o) ranges) o index number 0)))
    (let a = slot_alike (set_ranges (reach s m o) (file_of s o) ranges) o index number 0 in
    still_alike (reach s m o) _ a.session_of_open a.sequence) refl refl
verdict_facts s m now g (Alter o change body) h = alter_facts s m o _ g h.is.0 h.is.1
    (moves_alike _ _ (change_alike (reach s m o) (file_of s o) now change))
    (let a = change_alike (reach s m o) (file_of s o) now change in still_alike (reach s m o) _ a.session_of_open
    a.sequence) refl refl
verdict_facts s m now g (CloseOpen o body) h = shut_facts s m o _ g h.is refl refl refl
verdict_facts s m now g Challenge h = making_moves s (apply s m now Challenge).server refl refl refl refl refl refl refl
    m _ g refl refl refl
verdict_facts s m now g (ChallengeBinding session) h = making_moves s (apply s m now (ChallengeBinding session)).server
    refl refl refl refl refl refl refl m _ g refl refl refl
verdict_facts s m now g (Begin session user previous r is_quiet) h =
    begin_facts s (end_if_named s now previous is_quiet) m user r _ g (end_named_moves s now previous is_quiet)
    (still_end_named s now previous is_quiet) h.is.0 refl refl refl
verdict_facts s m now g (Join session) h = making_moves s (apply s m now (Join session)).server refl refl refl refl refl
    refl refl m _ g refl refl refl
verdict_facts s m now g (EndSession session is_quiet) h = quiet_facts s m _ g (end_moves s session now is_quiet)
    (still_end s session now is_quiet) refl refl
verdict_facts s m now g (AddTree pipes) h = alike_facts s m _ g (record {
  standing = refl;
  present = refl;
  session_of_open = refl;
  sequence = refl;
  epoch = refl;
  open_ids_given = refl;
  making = refl;
  by_guid = refl;
  opened = refl;
}) refl refl
verdict_facts s m now g DropTree h = quiet_facts s m _ g (tree_moves s m.session_id m.tree_id)
    (still_drop_tree s m.session_id m.tree_id) refl refl

-- ---- the event: an expiry in front, and what stands in its place where the records don't fit

-- nothing but an open that expires is gone
pub record Earlier (s t : Server) : Type 0 where
  pub moves : Moves s t
  pub still : Still s t
  pub present : t.present ≡ s.present
  pub session_of_open : (o x : ℕ) → t.session_of_open o ≡ Some x → s.session_of_open o ≡ Some x
  pub content : t.content ≡ s.content
  pub sequence : t.sequence ≡ s.sequence
  pub at_on : (o : ℕ) → t.standing o ≡ true → t.session_of_open o ≡ s.session_of_open o

drop_at : (s : Server) (p o x : ℕ) → put s.session_of_open p None o ≡ Some x → s.session_of_open o ≡ Some x
drop_at s p o x e = grind arith

leave_at : (s : Server) (p o x : ℕ) → (leave_open s p).session_of_open o ≡ Some x → s.session_of_open o ≡ Some x
leave_at s p o x e = let a = settled_alike (drop_open (pending_behind s p) p) (s.opened p).file in
    let b = pending_alike s p in drop_at s p o x (ap (λ f. put f p None o) (sym b.session_of_open)
    ∙ (ap (λ f. f o) (sym a.session_of_open) ∙ e))

leave_present : (s : Server) (p : ℕ) → (leave_open s p).present ≡ s.present
leave_present s p = let a = settled_alike (drop_open (pending_behind s p) p) (s.opened p).file in let b = pending_alike s p
    in a.present ∙ b.present

leave_sequence : (s : Server) (p : ℕ) → (leave_open s p).sequence ≡ s.sequence
leave_sequence s p = let a = settled_alike (drop_open (pending_behind s p) p) (s.opened p).file in
    let b = pending_alike s p in a.sequence ∙ b.sequence

leave_on : (s : Server) (p o : ℕ) → (leave_open s p).standing o ≡ true → (leave_open s p).session_of_open o ≡ s.session_of_open o
leave_on s p o h =
    let a = settled_alike (drop_open (pending_behind s p) p) (s.opened p).file in let b = pending_alike s p in
    ap (λ f. f o) a.session_of_open ∙ dropped (pending_behind s p).standing (pending_behind s p).session_of_open p o
    (ap (λ f. f o) (sym a.standing) ∙ h) ∙ ap (λ f. f o) b.session_of_open
  where
    dropped : (f : ℕ → Bool) (g : ℕ → Option ℕ) (p o : ℕ) → put f p false o ≡ true → put g p None o ≡ g o
    dropped f g p o e = grind arith

pub earlier : (s : Server) (now : ℕ) (t : Server) → Before s now t → Earlier s t
earlier s now t (inl e) = subst (Earlier s) (sym e) (record {
  moves = deadlines_moves s now;
  still = still_deadlines s now;
  present = refl;
  session_of_open = λ o x h. h;
  content = refl;
  sequence = refl;
  at_on = λ o h. refl;
})
earlier s now t (inr (o, due, e)) =
    let d = with_deadlines s now in let l = leave_open d o in let m = expired_alike l (d.opened o).client_guid (d.opened o).create_guid in
    subst (Earlier s) (sym e) (record {
      moves = moves_on s d (expire d o) (deadlines_moves s now) (expire_moves d o);
      still = still_on s d (expire d o) (still_deadlines s now) (still_expire d o);
      present = m.present ∙ leave_present d o;
      session_of_open = λ p x h. leave_at d o p x (ap (λ f. f p) (sym m.session_of_open) ∙ h);
      content = content_expire d o;
      sequence = m.sequence ∙ leave_sequence d o;
      at_on = λ p h. ap (λ f. f p) m.session_of_open ∙ leave_on d o p (ap (λ f. f p) (sym m.standing) ∙ h);
    })

pub given_behind : (s t : Server) (m : Message) → Given s m → Earlier s t → Given t m
given_behind s t m g k =
    let e = same_ids s t k.moves in
    record {
      low = k.moves.low g.low;
      sequence = g.sequence;
      attached = λ o x h. ap (λ f. f x) k.present ∙ g.attached o x (k.session_of_open o x h);
      named = λ c h o f. let l = g.named c h o (k.moves.guid c h o f) in omega (arith, l, e);
      ids = λ o h. let l = g.ids o (k.moves.stands o h) in omega (arith, l, e);
    }

facts_before : (s t : Server) (m : Message) (A : Answer) → Earlier s t → Facts t m A → Facts s m A
facts_before s t m A k f =
    let e = same_ids s t k.moves in
    record {
      pair = λ x q o n l p. f.pair x q o (k.moves.making x m.connection n) (omega (arith, l, e)) (k.moves.pair x q o p);
      ids = let i = f.ids in omega (arith, i, e);
      low = f.low;
      stands = λ o l h. k.moves.stands o (f.stands o (omega (arith, l, e)) h);
      there = λ x n h. k.moves.there x (f.there x (k.moves.making x m.connection n) h);
      row = λ o l. f.row o (omega (arith, l, e)) ∙ ap (λ g. g o) k.moves.row;
      session_of_open = λ o x h. by_before o x (f.session_of_open o x h);
      reached = f.reached;
      altered = λ o h. let r = f.altered o h in (
        ap (λ g. g m.session_id) (sym k.present) ∙ r.0,
        λ x q p pr.
            r.1 x q (k.moves.pair x q o p) (ap (λ g. g x) k.present ∙ pr),
      );
    }
  where
    by_before : (o x : ℕ) → (t.session_of_open o ≡ Some x × A.server.sequence o ≤ t.sequence o)
        ⊎ (A.reached ≡ Some o × x ≡ m.session_id × A.server.sequence o ≤ m.channel_sequence)
        → (s.session_of_open o ≡ Some x × A.server.sequence o ≤ s.sequence o)
        ⊎ (A.reached ≡ Some o × x ≡ m.session_id × A.server.sequence o ≤ m.channel_sequence)
    by_before o x (inl h) = inl (k.still.session_of_open o x h.0, let a = h.1 in let b = k.still.sequence o in omega (arith, a, b))
    by_before o x (inr h) = inr h

recorded_facts : (s : Server) (m : Message) (A : Answer) (records : List Record) → Facts s m A → Facts s m (recorded A records)
recorded_facts s m A records f = record {
  pair = f.pair;
  ids = f.ids;
  low = f.low;
  stands = f.stands;
  there = f.there;
  row = f.row;
  session_of_open = f.session_of_open;
  reached = f.reached;
  altered = f.altered;
}

pub found_sound : (t : Server) (m : Message) (v : Verdict) → Finds t m v → Sound t m v
found_sound t m v (inl e) = subst (Sound t m) (sym e) (sound t m)
found_sound t m v (inr e) = subst (Sound t m) (sym e) (sound_without_room t m (check t m) (sound t m))

step_facts : (s : Server) (now : ℕ) (m : Message) → Given s m → Facts s m (step s now (Heard m))
step_facts s now m g =
    by_verdict (Facts s m) s now m
    (λ t v records b f. let k = earlier s now t b in recorded_facts s m _ records
    (facts_before s t m _ k (verdict_facts t m now (given_behind s t m g k) v (found_sound t m v f))))

pub facts : (s : Server) (now : ℕ) (m : Message) (c : Command) → Given s m → Facts s m (answer_to s now m c)
facts s now m (Aside status) g = alike_facts s m _ g (same s) refl refl
facts s now m (Unreadable status) g = step_facts s now m g
facts s now m (Setup request) g = step_facts s now m g
facts s now m Logoff g = step_facts s now m g
facts s now m (TreeConnect share) g = step_facts s now m g
facts s now m TreeDisconnect g = step_facts s now m g
facts s now m (Create request) g = step_facts s now m g
facts s now m (Close file query) g = step_facts s now m g
facts s now m (Flush file) g = step_facts s now m g
facts s now m (Read file at size minimum channel) g = step_facts s now m g
facts s now m (Write file at bytes channel) g = step_facts s now m g
facts s now m (Lock file index number elements) g = step_facts s now m g
facts s now m (Ioctl file code room) g = step_facts s now m g
facts s now m (ListDirectory file class restart single pattern room) g = step_facts s now m g
facts s now m (QueryFile file class room) g = step_facts s now m g
facts s now m (QueryVolume file class room) g = step_facts s now m g
facts s now m (SetInfo file setting) g = step_facts s now m g
