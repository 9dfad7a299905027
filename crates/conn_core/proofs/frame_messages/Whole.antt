-- A whole frame, checked: what its text is, and what the check of its messages leaves as it was.
use Rattle.std.proofs.Common.{◌≡◌, ℕ, ◌≤◌, ◌==◌, Bool, true, false, if◌then◌else◌, List, [], ◌∷◌}
use Rattle.std.proofs.Common.{◌++◌, take, drop, length}
use Rattle.std.proofs.Common.{Option, Some, None, Result, Ok, Err, refl, sym, ap, subst, ◌∙◌, arith}
use Rattle.std.proofs.lemmas.Bool.Decides.{nat_tests}
use Rattle.std.proofs.lemmas.List.{take_at}
use Rattle.std.specs.Prelude.{is_some}
use Rattle.spec_crypto.specs.declared.sessions.material.Keys.{Keys}
use Rattle.spec_crypto.specs.sessions.Sealing.{opened}
use Rattle.spec_world.specs.Ends as ends
use Rattle.spec_world.specs.Messages.{HeardMessage, messages_in}
use Rattle.spec_world.specs.Hearing as hearing
use Rattle.conn_core.specs.declared.conn.Conn.{Conn}
use Rattle.conn_core.specs.declared.frame_messages.checked.Checked.{Checked}
use Rattle.conn_core.specs.declared.frame_messages.checked.CheckedFrame.{CheckedFrame}
use Rattle.conn_core.specs.declared.end.ConnEnd.{ConnEnd}
use Rattle.conn_core.specs.declared.end.ConnEnd.TheVariants as causes
use Rattle.conn_core.specs.Shown.{ShowsEnd, IsEnd, AreKnown, MaySeal}
use Rattle.conn_core.specs.frame_messages.Checking.{ShowsMessages, Checks, CheckGoesOn, EndsAll, AllGo, SplitBy, TextBy}
use Rattle.conn_core.proofs.frame_messages.Greets.{greets_first, in_turn}
use Rattle.conn_core.proofs.frame_messages.Prefixes.{Due}
use Rattle.conn_core.proofs.frame_messages.Steps.{by_cause}

-- ---- the text of a frame

abbrev from_some : List ℕ → Option (List ℕ) → List ℕ
from_some d None = d
from_some d (Some x) = x

text_is : (long s : Bool) (o : Option (List ℕ)) (frame text : List ℕ) → long ≡ false → (if s then o else Some frame) ≡ Some text
    → (if long then Err ends.BadFrame else if s then hearing.opened_text o else hearing.split_text false (messages_in frame))
    ≡ hearing.split_text s (messages_in text)
text_is false true o frame text h e = ap (λ (p : Option (List ℕ)). hearing.opened_text p) e
text_is false false o frame text h e = ap (λ (t : List ℕ). hearing.split_text false (messages_in t)) (ap (from_some frame) e)
text_is true s o frame text h e = absurd cc

due_is : (f : ends.ServerEnd) (frame text : List ℕ) → hearing.is_too_long f.keys frame ≡ false
    → (if hearing.begins_sealed frame then hearing.opened_by f.keys frame else Some frame) ≡ Some text
    → hearing.check_frame f frame ≡ hearing.checked_text f (hearing.split_text (hearing.begins_sealed frame) (messages_in text))
due_is f frame text short e =
    ap (λ (p : Result hearing.FrameText ends.ConnEnd). hearing.checked_text f p)
    (text_is (hearing.is_too_long f.keys frame) (hearing.begins_sealed frame) (hearing.opened_by f.keys frame) frame text
    short e)

closed_is : (long s : Bool) (o : Option (List ℕ)) (frame new : List ℕ) (e : ConnEnd) → long ≡ false
    → TextBy (if s then o else Some frame) (Err e) new
    → ((if long then Err ends.BadFrame else if s then hearing.opened_text o else hearing.split_text false (messages_in frame))
    ≡ Err ends.Unsealable) × IsEnd e ends.Unsealable
closed_is false true None frame new e h t = (refl, t)
closed_is false true (Some x) frame new e h t = absurd t
closed_is false false o frame new e h t = absurd t
closed_is true s o frame new e h t = absurd cc

-- the limit goes by the keys that the connection in code has
pub own_limit : (f : ends.ServerEnd) (conn : Conn) (frame : List ℕ) → f.keys ≡ conn.logon.keys
    → hearing.is_too_long conn.logon.keys frame ≡ false → hearing.is_too_long f.keys frame ≡ false
own_limit f conn frame same short = subst (λ (o : Option Keys). hearing.is_too_long o frame ≡ false) (sym same) short

-- ---- the exits

pub ends_long : (f : ends.ServerEnd) (frame : List ℕ) → hearing.is_too_long f.keys frame ≡ true
    → EndsAll (hearing.check_frame f frame) causes.BadFrame
ends_long f frame long =
    by_cause (hearing.check_frame f frame) causes.BadFrame ends.BadFrame
    (ap (λ (b : Bool). hearing.checked_text f (if b then Err ends.BadFrame
    else if hearing.begins_sealed frame then hearing.opened_text (hearing.opened_by f.keys frame)
    else hearing.split_text false (messages_in frame))) long) refl

pub ends_closed : (f : ends.ServerEnd) (frame new : List ℕ) (keys : Option Keys) (e : ConnEnd)
    → hearing.is_too_long f.keys frame ≡ false → f.keys ≡ keys
    → TextBy (if hearing.begins_sealed frame then hearing.opened_by keys frame else Some frame) (Err e) new
    → EndsAll (hearing.check_frame f frame) e
ends_closed f frame new keys e short same t =
    let z = closed_is (hearing.is_too_long f.keys frame) (hearing.begins_sealed frame) (hearing.opened_by f.keys frame) frame new e
    short
    (subst (λ (o : Option Keys). TextBy (if hearing.begins_sealed frame then hearing.opened_by o frame else Some frame) (Err e) new)
    (sym same) t) in
    by_cause (hearing.check_frame f frame) e ends.Unsealable
    (ap (λ (p : Result hearing.FrameText ends.ConnEnd). hearing.checked_text f p) z.0) z.1

unsplit : (f : ends.ServerEnd) (sealed : Bool) (o : Option (List HeardMessage)) (e : ConnEnd) → o ≡ None → IsEnd e ends.BadFrame
    → EndsAll (hearing.checked_text f (hearing.split_text sealed o)) e
unsplit f sealed o e none x =
    by_cause (hearing.checked_text f (hearing.split_text sealed o)) e ends.BadFrame
    (ap (λ (p : Option (List HeardMessage)). hearing.checked_text f (hearing.split_text sealed p)) none) x

pub ends_unsplit : (f : ends.ServerEnd) (sealed : Bool) (o : Option (List HeardMessage)) (text : List ℕ) (e : ConnEnd)
    → SplitBy o text (Err e) → EndsAll (hearing.checked_text f (hearing.split_text sealed o)) e
ends_unsplit f sealed o text causes.Memory x = tt
ends_unsplit f sealed o text causes.BadFrame x = unsplit f sealed o causes.BadFrame x.0 x.1
ends_unsplit f sealed o text (causes.OutsideWindow id) x = unsplit f sealed o (causes.OutsideWindow id) x.0 x.1
ends_unsplit f sealed o text causes.SecondNegotiate x = unsplit f sealed o causes.SecondNegotiate x.0 x.1
ends_unsplit f sealed o text causes.Unsealable x = unsplit f sealed o causes.Unsealable x.0 x.1
ends_unsplit f sealed o text causes.Spent x = unsplit f sealed o causes.Spent x.0 x.1
ends_unsplit f sealed o text causes.Full x = unsplit f sealed o causes.Full x.0 x.1
ends_unsplit f sealed o text (causes.LinkFault count) x = unsplit f sealed o (causes.LinkFault count) x.0 x.1
ends_unsplit f sealed o text (causes.Stopped count) x = unsplit f sealed o (causes.Stopped count) x.0 x.1

-- the messages of a text that is split
pub of_parts : (f : ends.ServerEnd) (sealed : Bool) (o : Option (List HeardMessage)) (xs : List HeardMessage) → o ≡ Some xs
    → hearing.checked_in f sealed xs ≡ hearing.checked_text f (hearing.split_text sealed o)
of_parts f sealed o xs e = ap (λ (p : Option (List HeardMessage)). hearing.checked_text f (hearing.split_text sealed p)) (sym e)

-- ---- what stays

abbrev frame_of : hearing.Frame → Due → hearing.Frame
frame_of d (Ok F) = F
frame_of d (Err e) = d

behind : (c : hearing.Checked) (r : Due) (F : hearing.Frame) → hearing.in_front c r ≡ Ok F
    → (G : hearing.Frame) × (r ≡ Ok G) × (F.sealed ≡ G.sealed) × (F.server_end ≡ G.server_end)
behind c (Ok G) F e =
    let same = ap (frame_of G) e in
    (G, refl, sym (ap (λ (x : hearing.Frame). x.sealed) same), sym (ap (λ (x : hearing.Frame). x.server_end) same))
behind c (Err why) F e = absurd cc

kept : (f : ends.ServerEnd) (sealed setup : Bool) (xs : List HeardMessage) (F : hearing.Frame)
    → hearing.checked_behind f sealed setup xs ≡ Ok F → (F.sealed ≡ sealed) × (F.server_end.keys ≡ f.keys)
unfolding hearing.checked_behind
kept f sealed setup [] F e =
    let same = ap (frame_of F) e in
    (sym (ap (λ (x : hearing.Frame). x.sealed) same), sym (ap (λ (x : hearing.Frame). x.server_end.keys) same))
kept f sealed setup (x ∷ xs) F e =
    let g = hearing.behind_turn f x.header in
    let rest = hearing.checked_behind g sealed (hearing.bars f sealed setup x) xs in
    let c = hearing.checked_as f sealed setup false x in
    let t = in_turn (hearing.turn_end f x.header) (hearing.in_front c rest) F e in
    let b = behind c rest F t.1 in
    let k = kept g sealed (hearing.bars f sealed setup x) xs b.0 b.1 in
    (b.2 ∙ k.0, ap (λ (y : ends.ServerEnd). y.keys) b.3 ∙ k.1)

kept_in : (f : ends.ServerEnd) (sealed : Bool) (xs : List HeardMessage) (F : hearing.Frame)
    → hearing.checked_in f sealed xs ≡ Ok F → (F.sealed ≡ sealed) × (F.server_end.keys ≡ f.keys)
kept_in f sealed [] F e = absurd cc
kept_in f sealed (x ∷ xs) F e =
    let g = hearing.behind_turn f x.header in
    let rest = hearing.checked_behind g sealed (hearing.bars f sealed false x) xs in
    let c = hearing.checked_as f sealed false true x in
    let t = in_turn (hearing.turn_end f x.header) (hearing.in_front c rest) F e in
    let b = behind c rest F t.1 in
    let k = kept g sealed (hearing.bars f sealed false x) xs b.0 b.1 in
    (b.2 ∙ k.0, ap (λ (y : ends.ServerEnd). y.keys) b.3 ∙ k.1)

by_due : (k : ℕ) (guid bytes : List ℕ) (d : Due) (new : Conn) (ms : List Checked) → AllGo k guid bytes d new ms
    → (F : hearing.Frame) × (d ≡ Ok F) × ShowsEnd k guid new F.server_end × ShowsMessages bytes ms F.messages
by_due k guid bytes (Ok F) new ms a = (F, refl, a.0, a.1)
by_due k guid bytes (Err why) new ms a = absurd a

by_split : (f : ends.ServerEnd) (s : Bool) (o : Option (List HeardMessage)) (F : hearing.Frame)
    → hearing.checked_text f (hearing.split_text s o) ≡ Ok F → (xs : List HeardMessage) × (hearing.checked_in f s xs ≡ Ok F)
by_split f s None F e = absurd cc
by_split f s (Some xs) F e = (xs, e)

-- ---- keys that opened a frame seal its answer

by_zero : (b flagged : Bool) (o : Option (List ℕ)) (text : List ℕ) → (if b then None else if flagged then o else None) ≡ Some text
    → b ≡ false
by_zero true flagged o text e = absurd cc
by_zero false flagged o text e = refl

some_cipher : (n : ℕ) → (n == 0) ≡ false → 1 ≤ n
some_cipher n e = grind (arith, nat_tests)

may_seal : (keys : Option Keys) (frame text : List ℕ) → AreKnown keys → hearing.opened_by keys frame ≡ Some text → MaySeal keys
may_seal None frame text known e = absurd cc
may_seal (Some keys) frame text known e =
    (some_cipher keys.cipher (by_zero (keys.cipher == 0) (hearing.is_encrypted frame) (opened keys true frame) text e), known)

text_stands : (o : Option (List ℕ)) (at : ℕ) (bytes : List ℕ) → TextBy o (Ok at) bytes → o ≡ Some (drop at bytes)
text_stands (Some text) at bytes t = ap (λ (y : List ℕ). Some y) (sym t.1)
text_stands None at bytes t = absurd t

-- ---- a frame that goes on

pub goes : (k : ℕ) (guid frame new_bytes : List ℕ) (f : ends.ServerEnd) (keys : Option Keys) (now at : ℕ) (new : Conn) (x : CheckedFrame)
    → hearing.is_too_long f.keys frame ≡ false → f.keys ≡ keys → AreKnown keys → (is_some f.greeting ≡ true → f.asked ≡ true)
    → x.sealed ≡ hearing.begins_sealed frame → x.moment ≡ now → x.bytes.items ≡ new_bytes
    → TextBy (if hearing.begins_sealed frame then hearing.opened_by keys frame else Some frame) (Ok at) new_bytes
    → AllGo k guid new_bytes (hearing.checked_text f (hearing.split_text (hearing.begins_sealed frame) (messages_in (drop at new_bytes))))
    new x.messages.items
    → Checks k guid (hearing.check_frame f frame) now new (Ok x)
goes k guid frame bytes f keys now at new x short same known met sealed moment items text all =
    let opened_text : TextBy (if hearing.begins_sealed frame then hearing.opened_by f.keys frame else Some frame) (Ok at) bytes =
    subst (λ (o : Option Keys). TextBy (if hearing.begins_sealed frame then hearing.opened_by o frame else Some frame) (Ok at) bytes)
    (sym same) text in
    let t = text_stands (if hearing.begins_sealed frame then hearing.opened_by f.keys frame else Some frame) at bytes opened_text in
    let due = due_is f frame (drop at bytes) short t in
    let d = by_due k guid bytes
    (hearing.checked_text f (hearing.split_text (hearing.begins_sealed frame) (messages_in (drop at bytes)))) new
    x.messages.items all in
    let F = d.0 in
    let parts = by_split f (hearing.begins_sealed frame) (messages_in (drop at bytes)) F d.1 in
    let stays = kept_in f (hearing.begins_sealed frame) parts.0 F parts.1 in
    subst (λ (r : Due). CheckGoesOn k guid r now new x) (sym (due ∙ d.1)) (
      d.2,
      record {
        sealed = stays.0 ∙ sym sealed;
        messages = subst (λ (b : List ℕ). ShowsMessages b x.messages.items F.messages) (sym items) d.3;
      },
      moment,
      λ s. subst (λ (o : Option Keys). MaySeal o) (sym stays.1)
          (seals f frame (drop at bytes) (subst (λ (o : Option Keys). AreKnown o) (sym same) known) (sym sealed ∙ s) t),
      greets_first f (hearing.begins_sealed frame) parts.0 F met parts.1,
    )
  where
    seals : (f : ends.ServerEnd) (frame text : List ℕ) → AreKnown f.keys → hearing.begins_sealed frame ≡ true
        → (if hearing.begins_sealed frame then hearing.opened_by f.keys frame else Some frame) ≡ Some text → MaySeal f.keys
    seals f frame text known s e =
        may_seal f.keys frame text known
        (ap (λ (b : Bool). if b then hearing.opened_by f.keys frame else Some frame) (sym s) ∙ e)

-- ---- the same, of what the code's steps gave

pub goes_by : (k : ℕ) (guid frame old new read : List ℕ) (f : ends.ServerEnd) (conn behind_it : Conn) (keys : Option Keys) (sealed : Bool)
    (now at : ℕ) (x : CheckedFrame) → hearing.is_too_long conn.logon.keys frame ≡ false → sealed ≡ hearing.begins_sealed frame → old ≡ frame → read ≡ new
    → keys ≡ conn.logon.keys → ShowsEnd k guid conn f → x.sealed ≡ sealed → x.moment ≡ now → x.bytes.items ≡ new
    → (AreKnown keys → TextBy (if sealed then hearing.opened_by keys old else Some old) (Ok at) new)
    → AllGo k guid read (hearing.checked_text f (hearing.split_text sealed (messages_in (drop at read)))) behind_it x.messages.items
    → Checks k guid (hearing.check_frame f frame) now behind_it (Ok x)
goes_by k guid frame old new read f conn behind_it keys sealed now at x short begins copied same own shown kept moment items text all =
    let known : AreKnown keys = subst (λ (o : Option Keys). AreKnown o) (sym own) shown.known in
    let mine : TextBy (if hearing.begins_sealed frame then hearing.opened_by keys frame else Some frame) (Ok at) new =
    subst (λ (b : Bool). TextBy (if b then hearing.opened_by keys frame else Some frame) (Ok at) new) begins
    (subst (λ (b : List ℕ). TextBy (if sealed then hearing.opened_by keys b else Some b) (Ok at) new) copied (text known)) in
    let whole : AllGo k guid new (hearing.checked_text f (hearing.split_text (hearing.begins_sealed frame) (messages_in (drop at new))))
    behind_it x.messages.items =
    subst (λ (b : Bool). AllGo k guid new (hearing.checked_text f (hearing.split_text b (messages_in (drop at new))))
    behind_it x.messages.items)
    begins
    (subst (λ (b : List ℕ). AllGo k guid b (hearing.checked_text f (hearing.split_text sealed (messages_in (drop at b)))) behind_it
    x.messages.items) same all) in
    goes k guid frame new f keys now at behind_it x (own_limit f conn frame shown.keys short) (shown.keys ∙ sym own) known shown.heard (kept ∙ begins) moment items mine whole

pub ends_by : (k : ℕ) (guid frame old new read : List ℕ) (f : ends.ServerEnd) (conn : Conn) (keys : Option Keys) (sealed : Bool)
    (at : ℕ) (e : ConnEnd) → hearing.is_too_long conn.logon.keys frame ≡ false → sealed ≡ hearing.begins_sealed frame → old ≡ frame
    → read ≡ new
    → keys ≡ conn.logon.keys → ShowsEnd k guid conn f
    → (AreKnown keys → TextBy (if sealed then hearing.opened_by keys old else Some old) (Ok at) new)
    → EndsAll (hearing.checked_text f (hearing.split_text sealed (messages_in (drop at read)))) e
    → EndsAll (hearing.check_frame f frame) e
ends_by k guid frame old new read f conn keys sealed at e short begins copied same own shown text all =
    let known : AreKnown keys = subst (λ (o : Option Keys). AreKnown o) (sym own) shown.known in
    let mine : TextBy (if hearing.begins_sealed frame then hearing.opened_by f.keys frame else Some frame) (Ok at) new =
    subst (λ (o : Option Keys). TextBy (if hearing.begins_sealed frame then hearing.opened_by o frame else Some frame) (Ok at) new)
    (own ∙ sym shown.keys)
    (subst (λ (b : Bool). TextBy (if b then hearing.opened_by keys frame else Some frame) (Ok at) new) begins
    (subst (λ (b : List ℕ). TextBy (if sealed then hearing.opened_by keys b else Some b) (Ok at) new) copied (text known))) in
    let due = due_is f frame (drop at new) (own_limit f conn frame shown.keys short)
    (text_stands (if hearing.begins_sealed frame then hearing.opened_by f.keys frame else Some frame)
    at new mine) in
    subst (λ (d : Due). EndsAll d e) (sym due)
    (subst (λ (b : Bool). EndsAll (hearing.checked_text f (hearing.split_text b (messages_in (drop at new)))) e) begins
    (subst (λ (b : List ℕ). EndsAll (hearing.checked_text f (hearing.split_text sealed (messages_in (drop at b)))) e) same all))

-- what was written over a vector's bytes, as long as they were
pub written : (new old : List ℕ) (n : ℕ) → n ≡ length new → take n (new ++ drop (length new) old) ≡ new
written new old n len = take_at new (drop (length new) old) n (sym len)
