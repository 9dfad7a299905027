-- What a frame takes from a window and what its replies add, counted for one id: taken, held, or still to be added.
use Rattle.std.proofs.Common.{◌≡◌, ℕ, ◌+◌, ◌≤◌, ◌<◌, ◌&&◌, not, Bool, true, false, if◌then◌else◌}
use Rattle.std.proofs.Common.{List, [], ◌∷◌, ◌++◌, Option, Some, None, Result, Ok, Err, ⊎_elim, refl, ap, sym, subst, ◌∙◌, arith}
use Rattle.std.specs.Prelude.{is_some}
use Rattle.std.proofs.lemmas.Bool.{cases_lt}
use Rattle.spec_exchange.specs.State.{Server, Message}
use Rattle.spec_wire.specs.credits.Ids.{counted, ids_from, is_among, times, outside}
use Rattle.spec_wire.specs.credits.Window.{HeldIds, first_window, after_take, granted, after_grant}
use Rattle.law_wire.proofs.credits.Rows.{is_among-in}
use Rattle.law_server.proofs.tables.Logic.{either}
use Rattle.law_hostile.proofs.taken_ids.Times.{times-append, times-apart, times-here, times-below, times-above, times-within, times-filter}
use Rattle.law_hostile.proofs.taken_ids.Times.{times-dropped, holds-times, outside-holds, AllAdded, first_added}
use Rattle.spec_wire.specs.declared.messages.header.Header.{Header}
use Rattle.spec_world.specs.Settings.{ServerSettings}
use Rattle.spec_world.specs.Messages.{HeardMessage}
use Rattle.spec_world.specs.Ends.{ServerEnd, Logons, ConnEnd, BadFrame, SecondNegotiate, first_server_end}
use Rattle.spec_world.specs.Hearing.{Checked, Frame, FrameText, check_frame, checked_text, checked_in, checked_behind, checked_as}
use Rattle.spec_world.specs.Hearing.{in_front, if_in_turn, turn_end, behind_turn, outside_of, end_by_id, text_of}
use Rattle.spec_world.specs.Hearing.{is_cancel, is_negotiate, bars}
use Rattle.spec_world.specs.Related.{Turn, Goes, Fails, turn_of, failed_as}
use Rattle.spec_world.specs.Logon.{Progress, Stays, Interim, Final}
use Rattle.spec_world.specs.Answering.{SaidReply, told_each, server_end_behind, server_end_moved, first_text, later_texts, has_nonces}
use Rattle.spec_world.specs.Connection.{Going, ConnectionStep, went_all, went_turn, went_heard, heard_message, beginning, answered}
use Rattle.spec_world.specs.Connection.{step_of}
use Rattle.law_hostile.specs.taken_ids.Hands.{Hand, end_past, taken_id, taken_ids_in, ids_heard, all_ids}

-- ---- taken, held, or still to be added: for one id never more than before

-- from w to v these ids were taken
pub record Spends (w v : HeldIds) (ids : List ℕ) : Type 0 where
  pub added : AllAdded w → AllAdded v
  pub next : w.next ≤ v.next
  pub old : AllAdded w → (id : ℕ) → id < w.next → times id ids + times id v.held ≤ times id w.held
  pub new : AllAdded w → (id : ℕ) → w.next ≤ id → id < v.next → times id ids + times id v.held ≤ 1
  pub far : AllAdded w → (id : ℕ) → v.next ≤ id → times id ids ≡ 0

pub stays : (w : HeldIds) → Spends w w []
stays w =
    record {
      added = λ a. a;
      next = omega arith;
      old = λ a id l. omega arith;
      new = λ a id l h. absurd (omega arith);
      far = λ a id l. refl;
    }

-- one behind the other
pub both : (w v u : HeldIds) (xs ys : List ℕ) → Spends w v xs → Spends v u ys → Spends w u (xs ++ ys)
both w v u xs ys p q =
    record {
      added = λ a. q.added (p.added a);
      next = let m = p.next in let n = q.next in omega arith;
      old = λ a id l.
          let m = p.next in let t = times-append id xs ys in let x = p.old a id l in let y = q.old (p.added a) id (omega arith) in omega arith;
      new = λ a id l h.
          let t = times-append id xs ys in ⊎_elim
          (λ (mid : id < v.next). let x = p.new a id l mid in let y = q.old (p.added a) id mid in omega arith)
          (λ (past : v.next ≤ id). let x = p.far a id past in let y = q.new (p.added a) id past h in omega arith)
          (cases_lt id v.next);
      far = λ a id l.
          let n = q.next in let t = times-append id xs ys in let x = p.far a id (omega arith) in let y = q.far (p.added a) id l in omega arith;
    }

-- ---- a grant takes none

grants : (asked : ℕ) (w : HeldIds) → Spends w (after_grant asked w) []
grants asked w =
    let g : ℕ = granted asked w in
    let more : (id : ℕ) → times id (after_grant asked w).held ≡ times id w.held + times id (ids_from w.next g) =
    λ id. times-append id w.held (ids_from w.next g) in
    record {
      added = λ a id le. let z = a id (omega arith) in let none = times-above id w.next g le in let m = more id in omega arith;
      next = omega arith;
      old = λ a id l. let none = times-below id w.next g l in let m = more id in omega arith;
      new = λ a id l h. let z = a id l in let one = times-within id w.next g l h in let m = more id in omega arith;
      far = λ a id l. refl;
    }

-- ---- a message takes its own id

takes : (first charge : ℕ) (w : HeldIds) → outside w.held first (counted charge) ≡ None → Spends w (after_take first charge w) (first ∷ [])
takes first charge w e =
    let n : ℕ = counted charge in
    let p : ℕ → Bool = λ i. not (is_among first n i) in
    let v : HeldIds = after_take first charge w in
    let fewer : (i : ℕ) → times i v.held ≤ times i w.held = λ i. times-filter p i w.held in
    let within : first < first + n = omega arith in
    let held = holds-times first w.held (outside-holds w.held first n first e (omega arith) within) in
    let gone : times first v.held ≡ 0 = times-dropped p first w.held (ap not (is_among-in first n first (omega arith) within)) in
    let other : (id : ℕ) → (first ≡ id → ⊥) → times id (first ∷ []) ≡ 0 = λ id apart. times-apart id first [] apart in
    let here : times first (first ∷ []) ≡ 1 = times-here first [] in
    let added_below : AllAdded w → first < w.next = λ a. ⊎_elim (λ (l : first < w.next). l)
    (λ (le : w.next ≤ first). let z = a first le in absurd (omega arith)) (cases_lt first w.next) in
    record {
      added = λ a id le. let z = a id le in let f = fewer id in omega arith;
      next = omega arith;
      old = λ a id l. ⊎_elim
          (λ (below : id < first). let o = other id (λ s. omega arith) in let f = fewer id in omega arith)
          (λ (from : first ≤ id). ⊎_elim
          (λ (above : first < id). let o = other id (λ s. omega arith) in let f = fewer id in omega arith)
          (λ (upto : id ≤ first). let s : first ≡ id = omega arith in
          subst (λ i. times i (first ∷ []) + times i v.held ≤ times i w.held) s (omega arith))
          (cases_lt first id))
          (cases_lt id first);
      new = λ a id l h. absurd (omega arith);
      far = λ a id l. let b = added_below a in other id (λ s. omega arith);
    }

-- ---- a message in its turn

nothing_after : (xs : List ℕ) → xs ++ [] ≡ xs
nothing_after [] = refl
nothing_after (x ∷ xs) = ap (λ ys. x ∷ ys) (nothing_after xs)

no_end : (o : Option ℕ) → end_by_id o ≡ None → o ≡ None
no_end None e = refl
no_end (Some id) e = absurd (cc)

turned : (early second : Bool) (o : Option ℕ)
    → (if early then Some BadFrame else if second then Some SecondNegotiate else end_by_id o) ≡ None → o ≡ None
turned true second o e = absurd (cc)
turned false true o e = absurd (cc)
turned false false o e = no_end o e

one_taken : (w : HeldIds) (h : Header) (cancel : Bool) → (if cancel then None else outside w.held h.message (counted h.charge)) ≡ None
    → Spends w (if cancel then w else after_take h.message h.charge w) (if cancel then [] else h.message ∷ [])
one_taken w h true e = stays w
one_taken w h false e = takes h.message h.charge w e

turn_spends : (f : ServerEnd) (h : Header) → turn_end f h ≡ None
    → Spends f.window (behind_turn f h).window (if is_cancel h then [] else h.message ∷ [])
turn_spends f h e =
    one_taken f.window h (is_cancel h)
    (turned (not (is_some f.greeting) && not (is_negotiate h)) (is_negotiate h && f.asked) (outside_of f.window h) e)

-- ---- a frame's messages

abbrev FrameSpends : HeldIds → Result Frame ConnEnd → Type 0
FrameSpends w (Err why) = Unit {0}
FrameSpends w (Ok x) = Spends w x.server_end.window (taken_ids_in x.messages)

with_front : (w v : HeldIds) (c : Checked) (r : Result Frame ConnEnd) → Spends w v (taken_id c) → FrameSpends v r
    → FrameSpends w (in_front c r)
unfolding taken_ids_in
with_front w v c (Err why) p q = tt
with_front w v c (Ok x) p q = both w v x.server_end.window (taken_id c) (taken_ids_in x.messages) p q

in_turn : (w : HeldIds) (o : Option ConnEnd) (r : Result Frame ConnEnd) → (o ≡ None → FrameSpends w r) → FrameSpends w (if_in_turn o r)
in_turn w (Some why) r all = tt
in_turn w None r all = all refl

behind_spends : (f : ServerEnd) (sealed barred : Bool) (xs : List HeardMessage) → FrameSpends f.window (checked_behind f sealed barred xs)
unfolding checked_behind taken_ids_in
behind_spends f sealed barred [] = stays f.window
behind_spends f sealed barred (x ∷ xs) =
    in_turn f.window (turn_end f x.header) _
    (λ e. with_front f.window (behind_turn f x.header).window (checked_as f sealed barred false x)
    (checked_behind (behind_turn f x.header) sealed (bars f sealed barred x) xs) (turn_spends f x.header e)
    (behind_spends (behind_turn f x.header) sealed (bars f sealed barred x) xs))

in_spends : (f : ServerEnd) (sealed : Bool) (xs : List HeardMessage) → FrameSpends f.window (checked_in f sealed xs)
in_spends f sealed [] = tt
in_spends f sealed (x ∷ xs) =
    in_turn f.window (turn_end f x.header) _
    (λ e. with_front f.window (behind_turn f x.header).window (checked_as f sealed false true x)
    (checked_behind (behind_turn f x.header) sealed (bars f sealed false x) xs) (turn_spends f x.header e)
    (behind_spends (behind_turn f x.header) sealed (bars f sealed false x) xs))

text_spends : (f : ServerEnd) (t : Result FrameText ConnEnd) → FrameSpends f.window (checked_text f t)
text_spends f (Err why) = tt
text_spends f (Ok t) = in_spends f t.sealed t.messages

pub frame_spends : (f : ServerEnd) (frame : List ℕ) → FrameSpends f.window (check_frame f frame)
frame_spends f frame = text_spends f (text_of f.keys frame)

-- ---- its replies

heard_spends : (z : ServerSettings) (k now : ℕ) (fresh : List ℕ) (f : ServerEnd) (g : Going) (c : Checked) (m : Option Message)
    → Spends g.window (went_heard z k now fresh f g c m).window []
heard_spends z k now fresh f g c None = stays g.window
heard_spends z k now fresh f g c (Some m) = grants c.header.credits g.window

turn_grants : (z : ServerSettings) (k now : ℕ) (fresh : List ℕ) (f : ServerEnd) (g : Going) (old : Checked) (t : Turn)
    → Spends g.window (went_turn z k now fresh f g old t).window []
turn_grants z k now fresh f g old (Goes c) = heard_spends z k now fresh f g c (heard_message z g.logons k f c)
turn_grants z k now fresh f g old (Fails status) = let c = failed_as g.carried old in grants c.header.credits g.window

all_grants : (z : ServerSettings) (k now : ℕ) (fresh : List ℕ) (f : ServerEnd) (g : Going) (cs : List Checked)
    → Spends g.window (went_all z k now fresh f g cs).window []
unfolding went_all
all_grants z k now fresh f g [] = stays g.window
all_grants z k now fresh f g (c ∷ cs) =
    let v = went_turn z k now fresh f g c (turn_of g.carried c) in
    both g.window v.window (went_all z k now fresh f v cs).window [] [] (turn_grants z k now fresh f g c (turn_of g.carried c))
    (all_grants z k now fresh f v cs)

moved_window : (f : ServerEnd) (r : SaidReply) (text : List ℕ) (p : Progress) → (server_end_moved f r text p).window ≡ f.window
moved_window f r text Stays = refl
moved_window f r text (Interim binding) = refl
moved_window f r text (Final binding channel encrypts) = refl

told_window : (sealed : Bool) (f : ServerEnd) (rs : List SaidReply) (texts : List (List ℕ))
    → (told_each sealed f rs texts).server_end.window ≡ f.window
unfolding told_each
told_window sealed f [] texts = refl
told_window sealed f (r ∷ rs) texts =
    told_window sealed (server_end_behind f r (first_text texts)) rs (later_texts texts)
    ∙ moved_window f r (first_text texts) r.progress

-- the end behind an answer: its window has what was granted, or the answer ends it
answer_spends : (w : HeldIds) (ids : List ℕ) (f : ServerEnd) (sealed : Bool) (g : Going) → Spends w f.window ids → Spends f.window g.window []
    → Spends w (answered f sealed g).server_end.window ids
answer_spends w ids f sealed g p q =
    either (λ (S : ConnectionStep). Spends w S.server_end.window ids) (sealed && not (has_nonces f _)) _ _ (λ _. p)
    (λ _. subst (λ v. Spends w v ids) (sym (told_window sealed _ g.replies _))
    (subst (λ xs. Spends w g.window xs) (nothing_after ids) (both w f.window g.window ids [] p q)))

pub step_spends : (z : ServerSettings) (k now : ℕ) (fresh : List ℕ) (s : Server) (L : Logons) (f : ServerEnd) (r : Result Frame ConnEnd)
    → FrameSpends f.window r → Spends f.window (step_of z k now fresh s L f r).server_end.window (ids_heard r)
step_spends z k now fresh s L f (Err why) q = stays f.window
step_spends z k now fresh s L f (Ok x) q =
    answer_spends f.window (taken_ids_in x.messages) x.server_end x.sealed
    (went_all z k now fresh x.server_end (beginning s L x.server_end) x.messages) q
    (all_grants z k now fresh x.server_end (beginning s L x.server_end) x.messages)

-- ---- all frames that one opening is given

pub all_spend : (z : ServerSettings) (k : ℕ) (f : ServerEnd) (hs : List Hand) → (v : HeldIds) × Spends f.window v (all_ids z k f hs)
unfolding all_ids
all_spend z k f [] = (f.window, stays f.window)
all_spend z k f (h ∷ hs) =
    let g = end_past z k f h in
    let rest = all_spend z k g hs in (
      rest.0,
      both f.window g.window rest.0 (ids_heard (check_frame f h.frame)) (all_ids z k g hs)
          (step_spends z k h.moment h.fresh h.server h.logons f (check_frame f h.frame) (frame_spends f h.frame)) rest.1,
    )

-- from a new window
pub once_from_first : (v : HeldIds) (ids : List ℕ) (id : ℕ) → Spends first_window v ids → times id ids ≤ 1
once_from_first v ids id p =
    ⊎_elim
    (λ (l : id < 1). let x = p.old first_added id l in let zero : 0 ≡ id = omega arith in
    let one : times id first_window.held ≡ 1 = subst (λ i. times i first_window.held ≡ 1) zero (times-here 0 []) in omega arith)
    (λ (le : 1 ≤ id). ⊎_elim (λ (l : id < v.next). let x = p.new first_added id le l in omega arith)
    (λ (far : v.next ≤ id). let x = p.far first_added id far in omega arith) (cases_lt id v.next))
    (cases_lt id 1)

pub taken_once : (z : ServerSettings) (k : ℕ) (salt : List ℕ) (hs : List Hand) (id : ℕ) → times id (all_ids z k (first_server_end salt) hs) ≤ 1
taken_once z k salt hs id =
    let a = all_spend z k (first_server_end salt) hs in once_from_first a.0 (all_ids z k (first_server_end salt) hs) id a.1
