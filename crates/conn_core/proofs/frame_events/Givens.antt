-- One message after the other, by what was given for each event.
use Rattle.std.proofs.Common.{◌≡◌, ℕ, ◌+◌, Bool, true, false, not, if◌then◌else◌, List, [], ◌∷◌, ◌++◌, take, Option, Some, None}
use Rattle.std.proofs.Common.{slice_get, refl, sym, ap, ◌∙◌, append-nil, append_assoc}
use Rattle.std.specs.Prelude.{is_some}
use Rattle.spec_exchange.specs.State as model
use Rattle.spec_exchange.specs.Status.{no_memory, insufficient_resources}
use Rattle.spec_world.specs.Ends.{ServerEnd, Logons}
use Rattle.spec_world.specs.Settings.{ServerSettings}
use Rattle.spec_world.specs.Hearing as hearing
use Rattle.spec_world.specs.Related.{Turn, Goes, Fails, turn_of}
use Rattle.spec_world.specs.Connection.{heard_message, went_by, went_heard, went_turn}
use Rattle.spec_world.specs.Given.{Dealt, Given, Answered, NoMemory, Stops, counted_setups, dealt_all, dealt_by, dealt_heard, dealt_next}
use Rattle.spec_world.specs.Given.{dealt_turn, has_event, is_past_setups, went_answered, went_refused}
use Rattle.conn_core.proofs.frame_events.Turns.{take_more}
use Rattle.conn_core.specs.frame_events.Shared.{GivenSoFar, GivenTurn, asked_all, asked_in, asks_it, with_left}

-- ---- lists

one_on : (z : ServerSettings) (k now : ℕ) (fresh : List ℕ) (f : ServerEnd) (d : Dealt) (c : hearing.Checked) (cs : List hearing.Checked)
    → d.stopped ≡ None
    → dealt_all z k now fresh f d (c ∷ cs) ≡ dealt_all z k now fresh f (dealt_turn z k now fresh f d c (turn_of d.going.carried c)) cs
unfolding dealt_all
one_on z k now fresh f d c cs goes =
    ap (λ (o : Option ℕ). if is_some o then d
    else dealt_all z k now fresh f (dealt_turn z k now fresh f d c (turn_of d.going.carried c)) cs) goes

front_more : (cs : List hearing.Checked) (i : ℕ) (c : hearing.Checked) (rest : List hearing.Checked) → slice_get cs i ≡ Some c
    → take (i + 1) cs ++ rest ≡ take i cs ++ (c ∷ rest)
front_more cs i c rest e =
    ap (λ (l : List hearing.Checked). l ++ rest) (take_more cs i c e) ∙ append_assoc (take i cs) (c ∷ []) rest

one_asked : (z : ServerSettings) (k now : ℕ) (fresh : List ℕ) (f : ServerEnd) (d : Dealt) (c : hearing.Checked) (cs : List hearing.Checked)
    → d.stopped ≡ None
    → asked_all z k now fresh f d (c ∷ cs) ≡ asked_in z k f d (turn_of d.going.carried c)
    ++ asked_all z k now fresh f (dealt_turn z k now fresh f d c (turn_of d.going.carried c)) cs
unfolding asked_all
one_asked z k now fresh f d c cs goes =
    ap (λ (o : Option ℕ). if is_some o then []
    else asked_in z k f d (turn_of d.going.carried c)
    ++ asked_all z k now fresh f (dealt_turn z k now fresh f d c (turn_of d.going.carried c)) cs) goes

-- one more of the first messages
pub record GoneOn (z : ServerSettings) (k now : ℕ) (fresh : List ℕ) (f : ServerEnd) (first : Dealt) (cs : List hearing.Checked) (at : ℕ)
    (given xs : List Given) (asked asks : List hearing.Checked) (e : Dealt) : Type 0 where
  pub so : GivenSoFar z k now fresh f first cs at e
  pub given_is : so.given ≡ given ++ xs
  pub asks_are : so.asks ≡ asked ++ asks

pub given_on : (z : ServerSettings) (k now : ℕ) (fresh : List ℕ) (f : ServerEnd) (first : Dealt) (cs : List hearing.Checked) (at : ℕ)
    (c : hearing.Checked) (d e : Dealt) (xs : List Given) (asks : List hearing.Checked) → slice_get cs at ≡ Some c → d.stopped ≡ None
    → (b : GivenSoFar z k now fresh f first cs at d) → GivenTurn z k now fresh f d c xs asks e
    → GoneOn z k now fresh f first cs (at + 1) b.given xs b.asks asks e
given_on z k now fresh f first cs at c d e xs asks here goes b t = record {
  so = record {
    given = b.given ++ xs;
    asks = b.asks ++ asks;
    is = λ later rest.
        ap (λ (l : List Given). dealt_all z k now fresh f (with_left first l) (take (at + 1) cs ++ rest)) (append_assoc b.given xs later)
        ∙ (ap (λ (ds : List hearing.Checked). dealt_all z k now fresh f (with_left first (b.given ++ (xs ++ later))) ds)
        (front_more cs at c rest here)
        ∙ (b.is (xs ++ later) (c ∷ rest)
        ∙ (one_on z k now fresh f (with_left d (xs ++ later)) c rest goes
        ∙ ap (λ (u : Dealt). dealt_all z k now fresh f u rest) (t.is later))));
    asked = λ later rest.
        ap (λ (l : List Given). asked_all z k now fresh f (with_left first l) (take (at + 1) cs ++ rest)) (append_assoc b.given xs later)
        ∙ (ap (λ (ds : List hearing.Checked). asked_all z k now fresh f (with_left first (b.given ++ (xs ++ later))) ds)
        (front_more cs at c rest here)
        ∙ (b.asked (xs ++ later) (c ∷ rest)
        ∙ (ap (λ (l : List hearing.Checked). b.asks ++ l) (one_asked z k now fresh f (with_left d (xs ++ later)) c rest goes)
        ∙ (ap (λ (l : List hearing.Checked). b.asks ++ (l ++ asked_all z k now fresh f
        (dealt_turn z k now fresh f (with_left d (xs ++ later)) c (turn_of d.going.carried c)) rest)) (t.asked (xs ++ later))
        ∙ (ap (λ (u : Dealt). b.asks ++ (asks ++ asked_all z k now fresh f u rest)) (t.is later)
        ∙ sym (append_assoc b.asks asks (asked_all z k now fresh f (with_left e later) rest)))))));
  };
  given_is = refl;
  asks_are = refl;
}

-- ---- a message that fails, and one without an event

pub given_failed : (z : ServerSettings) (k now : ℕ) (fresh : List ℕ) (f : ServerEnd) (d : Dealt) (c : hearing.Checked) (status : ℕ)
    → turn_of d.going.carried c ≡ Fails status
    → GivenTurn z k now fresh f d c [] [] (record d { going = went_turn z k now fresh f d.going c (Fails status) })
given_failed z k now fresh f d c status e = record {
  is = λ later. ap (λ (t : Turn). dealt_turn z k now fresh f (with_left d later) c t) e;
  asked = λ later. ap (λ (t : Turn). asked_in z k f (with_left d later) t) e;
}

pub given_none : (z : ServerSettings) (k now : ℕ) (fresh : List ℕ) (f : ServerEnd) (d : Dealt) (c t : hearing.Checked)
    → turn_of d.going.carried c ≡ Goes t → heard_message z d.going.logons k f t ≡ None
    → GivenTurn z k now fresh f d c [] [] (record d { going = went_heard z k now fresh f d.going t None })
given_none z k now fresh f d c t e heard = record {
  is = λ later.
      ap (λ (u : Turn). dealt_turn z k now fresh f (with_left d later) c u) e
      ∙ ap (λ (o : Option model.Message). dealt_heard z k now fresh f (with_left d later) t o) heard;
  asked = λ later.
      ap (λ (u : Turn). asked_in z k f (with_left d later) u) e
      ∙ ap (λ (o : Option model.Message). if asks_it (with_left d later) t o then t ∷ [] else []) heard;
}

-- whether it has an event
asked_by : (z : ServerSettings) (k : ℕ) (f : ServerEnd) (d : Dealt) (c t : hearing.Checked) (m : model.Message)
    → turn_of d.going.carried c ≡ Goes t → heard_message z d.going.logons k f t ≡ Some m → (later : List Given)
    → asked_in z k f (with_left d later) (turn_of d.going.carried c)
    ≡ (if (if has_event m.command then not (is_past_setups d.setups t.header) else false) then t ∷ [] else [])
asked_by z k f d c t m e heard later =
    ap (λ (u : Turn). asked_in z k f (with_left d later) u) e
    ∙ ap (λ (o : Option model.Message). if asks_it (with_left d later) t o then t ∷ [] else []) heard

asked_one : (z : ServerSettings) (k : ℕ) (f : ServerEnd) (d : Dealt) (c t : hearing.Checked) (m : model.Message)
    → turn_of d.going.carried c ≡ Goes t → heard_message z d.going.logons k f t ≡ Some m → has_event m.command ≡ true
    → is_past_setups d.setups t.header ≡ false → (later : List Given)
    → asked_in z k f (with_left d later) (turn_of d.going.carried c) ≡ t ∷ []
asked_one z k f d c t m e heard event early later =
    asked_by z k f d c t m e heard later
    ∙ (ap (λ (b : Bool). if (if b then not (is_past_setups d.setups t.header) else false) then t ∷ [] else []) event
    ∙ ap (λ (p : Bool). if not p then t ∷ [] else []) early)

heard_by : (z : ServerSettings) (k now : ℕ) (fresh : List ℕ) (f : ServerEnd) (d : Dealt) (t : hearing.Checked) (m : model.Message) (b p : Bool)
    → Dealt
heard_by z k now fresh f d t m b p =
    if not b then record d { going = went_heard z k now fresh f d.going t (Some m) }
    else if p then record d { going = went_refused f d.going t insufficient_resources }
    else dealt_next z k f d t d.left

pub given_aside : (z : ServerSettings) (k now : ℕ) (fresh : List ℕ) (f : ServerEnd) (d : Dealt) (c t : hearing.Checked) (m : model.Message)
    → turn_of d.going.carried c ≡ Goes t → heard_message z d.going.logons k f t ≡ Some m → has_event m.command ≡ false
    → GivenTurn z k now fresh f d c [] [] (record d { going = went_heard z k now fresh f d.going t (Some m) })
unfolding heard_by
given_aside z k now fresh f d c t m e heard event = record {
  is = λ later.
      ap (λ (u : Turn). dealt_turn z k now fresh f (with_left d later) c u) e
      ∙ (ap (λ (o : Option model.Message). dealt_heard z k now fresh f (with_left d later) t o) heard
      ∙ ap (λ (b : Bool). heard_by z k now fresh f (with_left d later) t m b (is_past_setups d.setups t.header)) event);
  asked = λ later. asked_by z k f d c t m e heard later
      ∙ ap (λ (b : Bool). if (if b then not (is_past_setups d.setups t.header) else false) then t ∷ [] else []) event;
}

-- a setup past the random bytes has no event
pub given_past : (z : ServerSettings) (k now : ℕ) (fresh : List ℕ) (f : ServerEnd) (d : Dealt) (c t : hearing.Checked) (m : model.Message)
    → turn_of d.going.carried c ≡ Goes t → heard_message z d.going.logons k f t ≡ Some m → has_event m.command ≡ true
    → is_past_setups d.setups t.header ≡ true
    → GivenTurn z k now fresh f d c [] [] (record d { going = went_refused f d.going t insufficient_resources })
unfolding heard_by
given_past z k now fresh f d c t m e heard event past = record {
  is = λ later.
      ap (λ (u : Turn). dealt_turn z k now fresh f (with_left d later) c u) e
      ∙ (ap (λ (o : Option model.Message). dealt_heard z k now fresh f (with_left d later) t o) heard
      ∙ (ap (λ (b : Bool). heard_by z k now fresh f (with_left d later) t m b (is_past_setups d.setups t.header)) event
      ∙ ap (λ (p : Bool). heard_by z k now fresh f (with_left d later) t m true p) past));
  asked = λ later. asked_by z k f d c t m e heard later
      ∙ (ap (λ (b : Bool). if (if b then not (is_past_setups d.setups t.header) else false) then t ∷ [] else []) event
      ∙ ap (λ (p : Bool). if not p then t ∷ [] else []) past);
}

-- ---- one with an event, at whatever state the event found

to_given : (z : ServerSettings) (k now : ℕ) (fresh : List ℕ) (f : ServerEnd) (d : Dealt) (c t : hearing.Checked) (m : model.Message)
    (x : Given) → turn_of d.going.carried c ≡ Goes t → heard_message z d.going.logons k f t ≡ Some m → has_event m.command ≡ true
    → is_past_setups d.setups t.header ≡ false → (later : List Given)
    → dealt_turn z k now fresh f (with_left d (x ∷ later)) c (turn_of d.going.carried c)
    ≡ dealt_by z k f (counted_setups (with_left d later) t) t x
unfolding heard_by
to_given z k now fresh f d c t m x e heard event past later =
    ap (λ (u : Turn). dealt_turn z k now fresh f (with_left d (x ∷ later)) c u) e
    ∙ (ap (λ (o : Option model.Message). dealt_heard z k now fresh f (with_left d (x ∷ later)) t o) heard
    ∙ (ap (λ (b : Bool). heard_by z k now fresh f (with_left d (x ∷ later)) t m b (is_past_setups d.setups t.header)) event
    ∙ ap (λ (p : Bool). heard_by z k now fresh f (with_left d (x ∷ later)) t m true p) past))

-- the setups that had an event
abbrev pub setups_behind : Bool → ℕ → ℕ
setups_behind b n = if b then n + 1 else n

counts : (d : Dealt) (later : List Given) (b : Bool)
    → (if b then record (with_left d later) { setups = d.setups + 1 } else with_left d later)
    ≡ with_left (record d { setups = setups_behind b d.setups }) later
counts d later true = refl
counts d later false = refl

pub given_answered : (z : ServerSettings) (k now moment : ℕ) (fresh own : List ℕ) (f : ServerEnd) (d : Dealt) (c t : hearing.Checked)
    (m x : model.Message) (L : Logons) (A : model.Answer) → turn_of d.going.carried c ≡ Goes t
    → heard_message z d.going.logons k f t ≡ Some m → has_event m.command ≡ true → is_past_setups d.setups t.header ≡ false
    → heard_message z L k f t ≡ Some x
    → GivenTurn z k now fresh f d c (Answered moment own L A ∷ []) (t ∷ []) (record d {
      going = went_by z k moment own f (record d.going { logons = L }) t x A;
      setups = setups_behind (hearing.is_setup t.header) d.setups;
    })
given_answered z k now moment fresh own f d c t m x L A e heard event past found = record {
  is = λ later.
      to_given z k now fresh f d c t m (Answered moment own L A) e heard event past later
      ∙ (ap (λ (u : Dealt). dealt_by z k f u t (Answered moment own L A)) (counts d later (hearing.is_setup t.header))
      ∙ ap (λ (o : Option model.Message). record d {
        going = went_answered z k moment own f (record d.going { logons = L }) t o A;
        left = later;
        setups = setups_behind (hearing.is_setup t.header) d.setups;
      }) found);
  asked = asked_one z k f d c t m e heard event past;
}

pub given_lacks : (z : ServerSettings) (k now : ℕ) (fresh : List ℕ) (f : ServerEnd) (d : Dealt) (c t : hearing.Checked) (m : model.Message)
    (s : model.Server) → turn_of d.going.carried c ≡ Goes t → heard_message z d.going.logons k f t ≡ Some m → has_event m.command ≡ true
    → is_past_setups d.setups t.header ≡ false
    → GivenTurn z k now fresh f d c (NoMemory s ∷ []) (t ∷ []) (record d {
      going = record (went_refused f d.going t no_memory) { server = s };
      setups = setups_behind (hearing.is_setup t.header) d.setups;
      lacked = true;
    })
given_lacks z k now fresh f d c t m s e heard event past = record {
  is = λ later.
      to_given z k now fresh f d c t m (NoMemory s) e heard event past later
      ∙ ap (λ (u : Dealt). dealt_by z k f u t (NoMemory s)) (counts d later (hearing.is_setup t.header));
  asked = asked_one z k f d c t m e heard event past;
}

pub given_stops : (z : ServerSettings) (k now : ℕ) (fresh : List ℕ) (f : ServerEnd) (d : Dealt) (c t : hearing.Checked) (m : model.Message)
    (count : ℕ) → turn_of d.going.carried c ≡ Goes t → heard_message z d.going.logons k f t ≡ Some m → has_event m.command ≡ true
    → is_past_setups d.setups t.header ≡ false
    → GivenTurn z k now fresh f d c (Stops count ∷ []) (t ∷ []) (record d {
      setups = setups_behind (hearing.is_setup t.header) d.setups;
      stopped = Some count;
    })
given_stops z k now fresh f d c t m count e heard event past = record {
  is = λ later.
      to_given z k now fresh f d c t m (Stops count) e heard event past later
      ∙ ap (λ (u : Dealt). dealt_by z k f u t (Stops count)) (counts d later (hearing.is_setup t.header));
  asked = asked_one z k f d c t m e heard event past;
}

-- ---- the event of one message was carried out, but its reply is lost: nothing is given for it

pub given_lost : (z : ServerSettings) (k now : ℕ) (fresh : List ℕ) (f : ServerEnd) (first : Dealt) (cs : List hearing.Checked) (at : ℕ)
    (c t : hearing.Checked) (m : model.Message) (d : Dealt) → slice_get cs at ≡ Some c → d.stopped ≡ None
    → turn_of d.going.carried c ≡ Goes t → heard_message z d.going.logons k f t ≡ Some m → has_event m.command ≡ true
    → is_past_setups d.setups t.header ≡ false → (b : GivenSoFar z k now fresh f first cs at d)
    → asked_all z k now fresh f (with_left first b.given) (take (at + 1) cs) ≡ b.asks ++ t ∷ []
unfolding asked_all
given_lost z k now fresh f first cs at c t m d here goes e heard event early b =
    sym (ap (λ (l : List Given). asked_all z k now fresh f (with_left first l) (take (at + 1) cs)) (append-nil b.given))
    ∙ (ap (λ (ds : List hearing.Checked). asked_all z k now fresh f (with_left first (b.given ++ [])) ds) (take_more cs at c here)
    ∙ (b.asked [] (c ∷ [])
    ∙ (ap (λ (l : List hearing.Checked). b.asks ++ l) (one_asked z k now fresh f (with_left d []) c [] goes)
    ∙ (ap (λ (l : List hearing.Checked). b.asks ++ (l ++ [])) (asked_one z k f d c t m e heard event early []) ∙ refl))))
