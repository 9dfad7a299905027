-- What the client does to its operations, opens and lock slots leaves its session and dialogs as they are.
use Rattle.std.proofs.Common.{◌≡◌, ℕ, ◌≤◌, ◌<◌, ◌==◌, Bool, true, not, ◌&&◌, List, [], ◌∷◌, refl, arith, ◌∙◌}
use Rattle.spec_exchange.specs.Table.{put, put2}
use Rattle.spec_exchange.specs.Status.{disk_full}
use Rattle.spec_exchange.specs.State.{Reply, Body}
use Rattle.spec_exchange.specs.Operations.{Outcome, Unsettled, WasOk, WasRefused, NoSlot, NoOpen, Unknown, is_create}
use Rattle.spec_exchange.specs.Operations.{is_close, is_lock, id_in}
use Rattle.spec_exchange.specs.Client.{Client, create_for, settle_no_slot, settle_no_slots, lacks_slot, again, begin}
use Rattle.spec_exchange.specs.Client.{take_slot, begun, outstanding, asked}
use Rattle.spec_exchange.specs.Settling.{answered, joined, settle, settled, noted, noted_full, settles_open, with_no_opens}
use Rattle.law_server.proofs.tables.Logic.{either}
use Rattle.law_sessions.specs.sessions.Sessions.{NumberedSessions}
use Rattle.law_sessions.proofs.sessions.Words.{SameSession}

-- the columns of the session and the dialogs are the same, and what is noted by a session's number is of one that was
pub record Keeps (c d : Client) : Type 0 where
  pub same : SameSession c d
  pub numbers : NumberedSessions c → NumberedSessions d

same_so : (c d e : Client) → SameSession c d → SameSession d e → SameSession c e
same_so c d e a b =
    record {
      who = b.who ∙ a.who;
      live = b.live ∙ a.live;
      session = b.session ∙ a.session;
      number = b.number ∙ a.number;
      tree = b.tree ∙ a.tree;
      sequence = b.sequence ∙ a.sequence;
      stage = b.stage ∙ a.stage;
      making = b.making ∙ a.making;
      pending = b.pending ∙ a.pending;
      accepted = b.accepted ∙ a.accepted;
      accepted_count = b.accepted_count ∙ a.accepted_count;
      rank = b.rank ∙ a.rank;
    }

pub keeps_so : (c d e : Client) → Keeps c d → Keeps d e → Keeps c e
keeps_so c d e a b = record { same = same_so c d e a.same b.same; numbers = λ n. b.numbers (a.numbers n) }

pub unchanged : (c : Client) → SameSession c c
unchanged c = record {
  who = refl;
  live = refl;
  session = refl;
  number = refl;
  tree = refl;
  sequence = refl;
  stage = refl;
  making = refl;
  pending = refl;
  accepted = refl;
  accepted_count = refl;
  rank = refl;
}

pub keeps_itself : (c : Client) → Keeps c c
keeps_itself c = record { same = unchanged c; numbers = λ n. n }

-- ---- outcomes

pub keeps_outcomes : (c : Client) (new : ℕ → Outcome) → Keeps c (record c { outcome = new })
keeps_outcomes c new =
    record {
      same = record {
        who = refl;
        live = refl;
        session = refl;
        number = refl;
        tree = refl;
        sequence = refl;
        stage = refl;
        making = refl;
        pending = refl;
        accepted = refl;
        accepted_count = refl;
        rank = refl;
      };
      numbers = λ n. n;
    }

keeps_no_slot : (c : Client) (k g : ℕ) → Keeps c (settle_no_slot c k g)
keeps_no_slot c k g = either (λ d. Keeps c d) (lacks_slot c k g) (record c {
  outcome = put c.outcome g (NoSlot (create_for c g));
}) c (λ _. keeps_outcomes c _) (λ _. keeps_itself c)

pub keeps_no_slots : (c : Client) (k : ℕ) (gs : List ℕ) → Keeps c (settle_no_slots c k gs)
unfolding settle_no_slots
keeps_no_slots c k [] = keeps_itself c
keeps_no_slots c k (g ∷ gs) = let d = settle_no_slot c k g in keeps_so c d (settle_no_slots d k gs)
    (keeps_no_slot c k g) (keeps_no_slots d k gs)

-- ---- what goes out

retried_numbers : (c : Client) (create slot : ℕ) → NumberedSessions c → NumberedSessions (record c {
  retried = put2 c.retried create slot c.session_number;
})
retried_numbers c create slot n p q = let old = n p q in (old.0, grind arith, old.2)

keeps_again : (c : Client) (g : ℕ) → Keeps c (again c g)
keeps_again c g =
    either (λ d. Keeps c d) (is_lock (c.op g)) (record c { retried = put2 c.retried (create_for c g) (c.slot_of g) c.session_number }) c
    (λ _. record {
      same = record {
        who = refl;
        live = refl;
        session = refl;
        number = refl;
        tree = refl;
        sequence = refl;
        stage = refl;
        making = refl;
        pending = refl;
        accepted = refl;
        accepted_count = refl;
        rank = refl;
      };
      numbers = retried_numbers c (create_for c g) (c.slot_of g);
    })
    (λ _. keeps_itself c)

keeps_begin : (c : Client) (g i : ℕ) → Keeps c (begin c g i)
keeps_begin c g i =
    either (λ d. Keeps c d) (is_lock (c.op g)) (record (take_slot c g i) { sent = put c.sent g true }) (record c {
      sent = put c.sent g true;
    })
    (λ _. record {
      same = record {
        who = refl;
        live = refl;
        session = refl;
        number = refl;
        tree = refl;
        sequence = refl;
        stage = refl;
        making = refl;
        pending = refl;
        accepted = refl;
        accepted_count = refl;
        rank = refl;
      };
      numbers = λ n. n;
    })
    (λ _. record {
      same = record {
        who = refl;
        live = refl;
        session = refl;
        number = refl;
        tree = refl;
        sequence = refl;
        stage = refl;
        making = refl;
        pending = refl;
        accepted = refl;
        accepted_count = refl;
        rank = refl;
      };
      numbers = λ n. n;
    })

keeps_outstanding : (c : Client) (k g : ℕ) → Keeps c (outstanding c k g)
keeps_outstanding c k g =
    record {
      same = record {
        who = refl;
        live = refl;
        session = refl;
        number = refl;
        tree = refl;
        sequence = refl;
        stage = refl;
        making = refl;
        pending = refl;
        accepted = refl;
        accepted_count = refl;
        rank = refl;
      };
      numbers = λ n. n;
    }

pub keeps_begun : (c : Client) (k g i : ℕ) → Keeps c (outstanding (begun c g i) k g)
keeps_begun c k g i =
    let d = begun c g i in
    keeps_so c d (outstanding d k g) (either (λ e. Keeps c e) (c.sent g) (again c g) (begin c g i)
    (λ _. keeps_again c g) (λ _. keeps_begin c g i)) (keeps_outstanding d k g)

pub keeps_asked : (c : Client) (k g : ℕ) → Keeps c (asked c k g)
keeps_asked c k g =
    record {
      same = record {
        who = refl;
        live = refl;
        session = refl;
        number = refl;
        tree = refl;
        sequence = refl;
        stage = refl;
        making = refl;
        pending = refl;
        accepted = refl;
        accepted_count = refl;
        rank = refl;
      };
      numbers = λ n. n;
    }

-- ---- what a reply does

pub keeps_answered : (c : Client) (g : ℕ) → Keeps c (answered c g)
keeps_answered c g =
    record {
      same = record {
        who = refl;
        live = refl;
        session = refl;
        number = refl;
        tree = refl;
        sequence = refl;
        stage = refl;
        making = refl;
        pending = refl;
        accepted = refl;
        accepted_count = refl;
        rank = refl;
      };
      numbers = λ n. n;
    }

attached_numbers : (c : Client) (create : ℕ) → NumberedSessions c → (p q : ℕ) → put c.attached create c.session_number p
    ≤ c.session_number × c.retried p q ≤ c.session_number × (c.live ≡ true → 0 < c.session_number)
attached_numbers c create n p q = let old = n p q in (grind arith, old.1, old.2)

pub keeps_joined : (c : Client) (g : ℕ) → Keeps c (joined c g)
keeps_joined c g =
    record {
      same = record {
        who = refl;
        live = refl;
        session = refl;
        number = refl;
        tree = refl;
        sequence = refl;
        stage = refl;
        making = refl;
        pending = refl;
        accepted = refl;
        accepted_count = refl;
        rank = refl;
      };
      numbers = attached_numbers c (create_for c g);
    }

keeps_noted : (c : Client) (g : ℕ) (o : Outcome) (body : Body) → Keeps c (noted c g o body)
keeps_noted c g (WasOk reply) body =
    let P : Client → Type 0 = λ d. Keeps c d in
    either P (is_create (c.op g)) (record c { file = put c.file g (id_in body); attached = put c.attached g c.session_number }) _
    (λ _. record {
      same = record {
        who = refl;
        live = refl;
        session = refl;
        number = refl;
        tree = refl;
        sequence = refl;
        stage = refl;
        making = refl;
        pending = refl;
        accepted = refl;
        accepted_count = refl;
        rank = refl;
      };
      numbers = attached_numbers c g;
    })
    (λ _. either P (is_close (c.op g)) (record c { closed_ok = put c.closed_ok (create_for c g) true }) c
    (λ _. record {
      same = record {
        who = refl;
        live = refl;
        session = refl;
        number = refl;
        tree = refl;
        sequence = refl;
        stage = refl;
        making = refl;
        pending = refl;
        accepted = refl;
        accepted_count = refl;
        rank = refl;
      };
      numbers = λ n. n;
    })
    (λ _. keeps_itself c))
keeps_noted c g Unsettled body = keeps_itself c
keeps_noted c g (WasRefused status) body = keeps_itself c
keeps_noted c g (NoSlot create) body = keeps_itself c
keeps_noted c g (NoOpen create) body = keeps_itself c
keeps_noted c g (Unknown why) body = keeps_itself c

keeps_full : (c : Client) (g : ℕ) (asking : Bool) (status : ℕ) → Keeps c (noted_full c g asking status)
keeps_full c g asking status =
    either (λ d. Keeps c d) (is_lock (c.op g) && (not asking && (status == disk_full))) (record c {
      full = put2 c.full (create_for c g) (c.slot_of g) true;
    }) c
    (λ _. record {
      same = record {
        who = refl;
        live = refl;
        session = refl;
        number = refl;
        tree = refl;
        sequence = refl;
        stage = refl;
        making = refl;
        pending = refl;
        accepted = refl;
        accepted_count = refl;
        rank = refl;
      };
      numbers = λ n. n;
    })
    (λ _. keeps_itself c)

keeps_settled : (c : Client) (g : ℕ) (o : Outcome) (place : ℕ) → Keeps c (settled c g o place)
keeps_settled c g o place =
    record {
      same = record {
        who = refl;
        live = refl;
        session = refl;
        number = refl;
        tree = refl;
        sequence = refl;
        stage = refl;
        making = refl;
        pending = refl;
        accepted = refl;
        accepted_count = refl;
        rank = refl;
      };
      numbers = λ n. n;
    }

pub keeps_settle : (c : Client) (g : ℕ) (asking : Bool) (r : Reply) (place : ℕ) (o : Outcome) → Keeps c (settle c g asking r place o)
keeps_settle c g asking r place o =
    let n = noted c g o r.body in let f = noted_full n g asking r.status in let d = settled f g o place in
    let k = keeps_so c n d (keeps_noted c g o r.body) (keeps_so n f d (keeps_full n g asking r.status) (keeps_settled f g o place)) in
    either (λ e. Keeps c e) (settles_open (c.op g)) (with_no_opens d (create_for c g)) d
    (λ _. keeps_so c d (with_no_opens d (create_for c g)) k (keeps_outcomes d _)) (λ _. k)
