-- No open deletes its file on close behind a verdict, since no request of the client asks for one.
use Rattle.std.proofs.Common.{◌≡◌, ℕ, Bool, true, false, Option, Some, None, is_some, arith, sym, ◌∙◌, subst}
use Rattle.spec_exchange.specs.Table.{put}
use Rattle.spec_exchange.specs.Commands.{deletes_on_close}
use Rattle.spec_exchange.specs.State.{Server, Message, Open}
use Rattle.spec_exchange.specs.CheckOpen.{is_slot, file_of}
use Rattle.spec_exchange.specs.Effects.{apply, reach, attached, keep_slot, set_ranges, open_row, new_file, next_open, end_if_named}
use Rattle.spec_exchange.specs.Verdict.{Verdict, Refuse, Give, KeepRefusal, Repeat, Attach, Make, TurnDown, Tell, Show}
use Rattle.spec_exchange.specs.Verdict.{KeepSlot, PutRanges, Alter, CloseOpen, Challenge, ChallengeBinding, Begin, Join}
use Rattle.spec_exchange.specs.Verdict.{EndSession, AddTree, DropTree}
use Rattle.law_server.proofs.tables.Logic.{either}
use Rattle.law_locks.proofs.Views.{View, view, reach_view, change_view, shut_view, make_view}
use Rattle.law_locks.proofs.Verdicts.{show_view}

abbrev pub NoDelete : View → Type 0
NoDelete v = (o : ℕ) → v.standing o ≡ true → deletes_on_close (v.opened o).options ≡ false

abbrev pub NewKept : Verdict → Type 0
NewKept (Make r found action) = deletes_on_close r.options ≡ false
NewKept DropTree = ⊥  -- no message gives a tree up
NewKept _ = Unit {0}

same_view : (v u : View) → u ≡ v → NoDelete v → NoDelete u
same_view v u e k = subst (λ z. NoDelete z) (sym e) k

attached_kept : (t : Server) (m : Message) (o : ℕ) → NoDelete (view t) → NoDelete (view (attached t m o))
attached_kept t m o k = either (λ u. NoDelete (view u)) (is_some (t.session_of_open o)) _ _ (λ _. k) (λ _. k)

slot_kept : (s : Server) (o index number status : ℕ) → NoDelete (view s) → NoDelete (view (keep_slot s o index number status))
slot_kept s o index number status k = either (λ u. NoDelete (view u)) (is_slot index) _ _ (λ _. k) (λ _. k)

pub end_kept : (t : Server) (now : ℕ) (named : Option ℕ) (quiet : Bool) → NoDelete (view t)
    → NoDelete (view (end_if_named t now named quiet))
end_kept t now None quiet k = k
end_kept t now (Some x) quiet k = λ o st. k o (grind arith)

new_kept : (v : View) (o0 : ℕ) (row : Open) → deletes_on_close row.options ≡ false → NoDelete v → (o : ℕ)
    → put v.standing o0 true o ≡ true → deletes_on_close (put v.opened o0 row o).options ≡ false
new_kept v o0 row d k o st = let old = k o in grind arith

left_kept : (v : View) (o0 : ℕ) → NoDelete v → (o : ℕ) → put v.standing o0 false o ≡ true → deletes_on_close (v.opened o).options ≡ false
left_kept v o0 k o st = k o (grind arith)

pub undeleting : (t : Server) (m : Message) (now : ℕ) (v : Verdict) → NewKept v → NoDelete (view t)
    → NoDelete (view (apply t m now v).server)
undeleting t m now (Refuse status) n k = k
undeleting t m now (Give body) n k = k
undeleting t m now (KeepRefusal guid status) n k = k
undeleting t m now (Repeat o r) n k = attached_kept t m o k
undeleting t m now (Attach o r) n k = attached_kept t m o k
undeleting t m now (Make r found action) n k = subst (λ z. NoDelete z) (sym (make_view t m r found action now))
    (new_kept (view t) (next_open t) (open_row t m r (new_file t found) action) n k)
undeleting t m now (TurnDown o status) n k = same_view (view t) _ (reach_view t m o) k
undeleting t m now (Tell o body) n k = same_view (view t) _ (reach_view t m o) k
undeleting t m now (Show o last body) n k = same_view (view t) _ (show_view t m o last) k
undeleting t m now (KeepSlot o index number status elements) n k = slot_kept (reach t m o) o index number status
    (same_view (view t) _ (reach_view t m o) k)
undeleting t m now (PutRanges o index number ranges elements) n k =
    slot_kept (set_ranges (reach t m o) (file_of t o) ranges) o index number 0
    (same_view (view t) _ (reach_view t m o) k)
undeleting t m now (Alter o change body) n k = same_view (view t) _ (change_view (reach t m o) (file_of t o) now change
    ∙ reach_view t m o) k
undeleting t m now (CloseOpen o body) n k = subst (λ z. NoDelete z) (sym (shut_view t o m.session_id)) (left_kept (view t) o k)
undeleting t m now Challenge n k = k
undeleting t m now (ChallengeBinding session) n k = k
undeleting t m now (Begin session user previous r is_quiet) n k = end_kept t now previous is_quiet k
undeleting t m now (Join session) n k = k
undeleting t m now (EndSession session is_quiet) n k = end_kept t now (Some session) is_quiet k
undeleting t m now (AddTree pipes) n k = k
undeleting t m now DropTree n k = absurd n
