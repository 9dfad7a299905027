-- What a connection that is made or ends, and a restart, do to the server's sessions.
use Rattle.std.proofs.Common.{◌≡◌, ℕ, ◌+◌, ◌≤◌, nat_le, Bool, true, false, List, ◌++◌, inl, inr, refl, arith, sym}
use Rattle.std.proofs.Common.{subst, ◌∙◌, ap, Option, Some, None, is_some}
use Rattle.spec_exchange.specs.State.{Server, ServerEvent, Accept, End, Answer, Record, Making}
use Rattle.spec_exchange.specs.CheckSetup.{is_new, tree_in}
use Rattle.spec_exchange.specs.Opens.{id_of, max_ids}
use Rattle.spec_exchange.specs.Effects.{end_if_named}
use Rattle.spec_exchange.specs.Records.{fits, origin_at}
use Rattle.spec_exchange.specs.Step.{step, event_answer, expiring, with_deadlines, due, expire, expire_records}
use Rattle.spec_exchange.specs.Step.{connection_of, max_expired_guids, Ruling, TakesIn, TurnsAway, TakesOut, ruling}
use Rattle.spec_exchange.specs.Step.{ruling_without_room, carried_out, ends_with, take_out}
use Rattle.spec_exchange.specs.Fold.{fold, recovered_from, recovery_records}
use Rattle.spec_exchange.specs.Client.{Client}
use Rattle.law_server.proofs.tables.Doors.{Before}
use Rattle.law_server.proofs.tables.Logic.{either}
use Rattle.law_sessions.specs.sessions.Sessions.{MakingUnranked, SessionUsers, OpenUsers, OpenTrees, logon_user}
use Rattle.law_sessions.proofs.sessions.Words.{Moves}
use Rattle.law_sessions.proofs.sessions.Columns.{Stays}
use Rattle.law_sessions.proofs.sessions.Answers.{ends, none_elsewhere}
use Rattle.law_sessions.proofs.sessions.Heard.{before_stays}
use Rattle.law_sessions.proofs.sessions.Trees.{Tied, tied_so, named_tied, before_tied}
use Rattle.law_sessions.proofs.sessions.Written.{Folds, anew}
use Rattle.law_sessions.proofs.sessions.Owed.{Rules, connects, connects_by, takes_in}

-- sessions only end, and nothing is new
pub record Falls (s u : Server) : Type 0 where
  pub present : (x : ℕ) → u.present x ≡ true → s.present x ≡ true
  pub user : u.user ≡ s.user
  pub making : (k y : ℕ) → is_new y (u.making k) ≡ true → is_new y (s.making k) ≡ true
  pub epoch : u.epoch ≡ s.epoch
  pub session_ids_given : u.session_ids_given ≡ s.session_ids_given
  pub trees : (x id : ℕ) → u.present x ≡ true → is_some (tree_in (s.trees x) id) ≡ true → is_some (tree_in (u.trees x) id) ≡ true
  pub standing : (o : ℕ) → u.standing o ≡ true → s.standing o ≡ true
  pub opened : u.opened ≡ s.opened
  pub attached : Tied s u

falls_stays : (s t u : Server) → Stays s t → Tied s t → Falls t u → Falls s u
falls_stays s t u q a f =
    record {
      present = λ x p. ap (λ g. g x) (sym q.present) ∙ f.present x p;
      user = f.user ∙ q.user;
      making = λ k y e. ap (λ g. is_new y (g k)) (sym q.making) ∙ f.making k y e;
      epoch = f.epoch ∙ q.epoch;
      session_ids_given = f.session_ids_given ∙ q.session_ids_given;
      trees = λ x id p h. f.trees x id p (ap (λ g. is_some (tree_in (g x) id)) q.trees ∙ h);
      standing = λ o e. q.standing o (f.standing o e);
      opened = f.opened ∙ q.opened;
      attached = tied_so s t u a f.attached;
    }

falls_written : (s u : Server) (j : ℕ) → Falls s u → Falls s (record u { journal = j })
falls_written s u j f =
    record {
      present = f.present;
      user = f.user;
      making = f.making;
      epoch = f.epoch;
      session_ids_given = f.session_ids_given;
      trees = f.trees;
      standing = f.standing;
      opened = f.opened;
      attached = f.attached;
    }

falls_out : (s : Server) (now k : ℕ) (is_quiet : Bool) → Falls s (take_out s k now is_quiet)
falls_out s now k is_quiet =
    let u = end_if_named s now (ends_with s k) is_quiet in let q = ends s now is_quiet (ends_with s k) in
    record {
      present = q.present;
      user = q.user;
      making = λ j y e. ap (λ g. is_new y (g j)) (sym q.making) ∙ none_elsewhere u.making k j y e;
      epoch = q.epoch;
      session_ids_given = q.session_ids_given;
      trees = q.trees;
      standing = q.standing;
      opened = q.opened;
      attached = named_tied s now (ends_with s k) is_quiet;
    }

falls_rule : (s : Server) (now : ℕ) (r : Ruling) → connects r ≡ true → Falls s (carried_out s now r).server
falls_rule s now (TakesIn k) c = record {
  present = λ x p. p;
  user = refl;
  making = λ k y e. e;
  epoch = refl;
  session_ids_given = refl;
  trees = λ x id p h. h;
  standing = λ o e. e;
  opened = refl;
  attached = λ o x h. (h, refl);
}
falls_rule s now TurnsAway c = record {
  present = λ x p. p;
  user = refl;
  making = λ k y e. e;
  epoch = refl;
  session_ids_given = refl;
  trees = λ x id p h. h;
  standing = λ o e. e;
  opened = refl;
  attached = λ o x h. (h, refl);
}
falls_rule s now (TakesOut k is_quiet) c = falls_out s now k is_quiet
falls_rule s now _ c = absurd (cc)

abbrev AllFall : Server → ℕ → ServerEvent → Type 0
AllFall s now e = (t : Server) (r : Ruling) → Before s now t → Rules t e r → Falls s (carried_out t now r).server

falls_table : (s : Server) (now : ℕ) (e : ServerEvent) → AllFall s now e → Falls s (event_answer (with_deadlines s now) now e).server
falls_table s now e f =
    let d = with_deadlines s now in
    either (λ (A : Answer). Falls s A.server) (fits d (carried_out d now (ruling d e)).records)
    (carried_out d now (ruling d e)) (carried_out d now (ruling_without_room (ruling d e)))
    (λ _. f d (ruling d e) (inl refl) (inl refl)) (λ _. f d (ruling_without_room (ruling d e)) (inl refl) (inr refl))

falls_expiring : (s : Server) (now : ℕ) (e : ServerEvent) → AllFall s now e → (u : Option ℕ)
    → due (with_deadlines s now) now ≡ u → Falls s (expiring (with_deadlines s now) now e u).server
falls_expiring s now e f None is = falls_table s now e f
falls_expiring s now e f (Some o) is =
    let d = with_deadlines s now in let t = expire d o in let front = expire_records d (origin_at (connection_of e)) o
    in let A = carried_out t now (ruling t e) in let P : Answer → Type 0 = λ B. Falls s B.server in
    either P (nat_le max_expired_guids d.expired_count) (event_answer d now e) _ (λ _. falls_table s now e f)
    (λ _. either P (fits d (front ++ A.records)) (record A { records = front ++ A.records }) (event_answer d now e)
    (λ _. f t (ruling t e) (inr (o, is, refl)) (inl refl)) (λ _. falls_table s now e f))

falls_step : (s : Server) (now : ℕ) (e : ServerEvent) → ((t : Server) → connects (ruling t e) ≡ true) → Falls s (step s now e).server
falls_step s now e c =
    let d = with_deadlines s now in let B = expiring d now e (due d now) in
    falls_written s B.server _
    (falls_expiring s now e (λ t r q h. falls_stays s t (carried_out t now r).server (before_stays s now t q) (before_tied s now t q)
    (falls_rule t now r (connects_by t e r (c t) h))) (due d now) refl)

pub falls_accept : (s : Server) (now k : ℕ) → Falls s (step s now (Accept k)).server
falls_accept s now k = falls_step s now (Accept k) (λ t. takes_in t k)

pub falls_end : (s : Server) (now k : ℕ) → Falls s (step s now (End k)).server
falls_end s now k = falls_step s now (End k) (λ t. refl)

-- ---- as far as the client goes

same_given : (e d n b : ℕ) → d ≡ e → b ≡ n → id_of e n ≤ id_of d b
same_given e d n b a c = omega (arith, a, c)

pub moves_falls : (c : Client) (s u : Server) → Falls s u → MakingUnranked c s → SessionUsers c s → OpenUsers c s → OpenTrees c s → Moves c s u
moves_falls c s u f unranked users opens trees =
    record {
      present = λ x r p. f.present x p;
      users = λ x p. ap (λ g. g x) f.user ∙ users x (f.present x p);
      opens = λ o h. subst (λ g. (g o).user ≡ logon_user c.who.logon × (g o).client_guid ≡ c.who.guid) (sym f.opened)
          (opens o (f.standing o h));
      attached = λ o x h. let a = f.attached o x h in let old = trees o x a.0 in (old.0, old.1, a.1 ∙ old.2);
      making = λ k y l e. f.making k y e;
      unranked = λ k y e. unranked k y (f.making k y e);
      ids = same_given s.epoch u.epoch s.session_ids_given u.session_ids_given f.epoch f.session_ids_given;
      trees = λ x id r p h. f.trees x id p h;
    }

-- ---- a restart

later_ids : (e d n b : ℕ) → n ≤ max_ids → d ≡ e + 1 → b ≡ 0 → id_of e n ≤ id_of d b
later_ids e d n b l a c = omega (arith, l, a, c)

never : (b : Bool) → b ≡ false → b ≡ true → (P : Type 0) → P
never b e f P = absurd (cc)

none_made : (k y : ℕ) (f : ℕ → Option Making) → f k ≡ None → is_new y (f k) ≡ true → (P : Type 0) → P
none_made k y f e h P = absurd (grind arith)

unattached_of : (u : Option ℕ) (x : ℕ) → u ≡ None → u ≡ Some x → ⊥
unattached_of u x e f = cc

pub moves_restart : (c : Client) (s : Server) (rs : List Record) → s.session_ids_given ≤ max_ids
    → Folds c.who.guid (logon_user c.who.logon) s.epoch (fold rs) → Moves c s (recovered_from s rs)
moves_restart c s rs l f =
    let a = anew c.who.guid (logon_user c.who.logon) s rs f in let d = fold (rs ++ recovery_records rs) in
    record {
      present = λ x r p. never (d.present x) (a.folds.present x) p _;
      users = λ x p. never (d.present x) (a.folds.present x) p _;
      opens = a.folds.opens;
      attached = λ o x h. absurd (unattached_of (d.session_of_open o) x (a.folds.attached o) h);
      making = λ k y m e. none_made k y d.making (a.folds.making k) e _;
      unranked = λ k y e. none_made k y d.making (a.folds.making k) e _;
      ids = later_ids s.epoch d.epoch s.session_ids_given d.session_ids_given l a.folds.epoch a.session_ids_given;
      trees = λ x id r p h. never (d.present x) (a.folds.present x) p _;
    }
