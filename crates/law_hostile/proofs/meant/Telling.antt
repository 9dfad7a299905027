-- Each own request whose numbers fit is heard as it was meant, and where nothing is forged what is heard is such a request.
use Rattle.std.proofs.Common.{◌≡◌, ℕ, zero, suc, ◌<◌, ◌^◌, Bool, true, false, List, [], ◌∷◌, refl, sym, ap, ◌∙◌}
use Rattle.std.proofs.Common.{subst, Option, Some, None, slice_get, Result, Ok, Err}
use Rattle.law_server.proofs.tables.Logic.{either}
use Rattle.spec_exchange.specs.State.{Message}
use Rattle.spec_commands.specs.BodyOf.{number_of_command}
use Rattle.spec_world.specs.Settings.{WorldSettings}
use Rattle.spec_world.specs.Messages.{HeardMessage, heard_in, messages_in}
use Rattle.spec_world.specs.Ends.{ServerEnd, Logons, ConnEnd, BadFrame, client_on}
use Rattle.spec_world.specs.Hearing.{Checked, Frame, check_frame, checked_text, checked_in, checked_behind, checked_as}
use Rattle.spec_world.specs.Hearing.{behind_turn, bars, turn_end, in_front, if_in_turn, is_too_long, begins_sealed, opened_by, opened_text}
use Rattle.spec_world.specs.Hearing.{split_text}
use Rattle.spec_world.specs.Connection.{heard_message}
use Rattle.spec_hostile.specs.RepeatRuns.{RepeatWorld, repeat_start}
use Rattle.spec_hostile.specs.SignedFor.{watching}
use Rattle.spec_hostile.specs.HostileNetwork.{repeated}
use Rattle.law_ties.specs.wire_facts.Lawful.{AreHeadersLawful, AreCommandsLawful, AreTreesLawful, TreeFacts}
use Rattle.law_hostile.specs.placed.Placed.{watched_to}
use Rattle.law_hostile.specs.meant.Meant.{IsMeant, AsksNegotiate, AsksSetup, AsksLine}
use Rattle.law_hostile.specs.meant.Heard.{FitsRequest, IsHeardAs, RequestsAreHeardAsMeant, HeardIsMeant}
use Rattle.law_hostile.proofs.puts.Growing.{none_in, watches_run}
use Rattle.law_hostile.proofs.placed.Own.{heard_is_own}
use Rattle.law_hostile.proofs.ids.Frames.{own_frames_bear, own_requests_meant}
use Rattle.law_hostile.proofs.meant.Reading.{Reads, reads_frame, heard_line, fits_no_dialog}

-- ---- by the kind of request

heard_by : (z : WorldSettings) → AreHeadersLawful → AreCommandsLawful → AreTreesLawful z → (frame : List ℕ) (m : Message) (L : Logons) (k : ℕ)
    (f : ServerEnd) (x : Frame) → FitsRequest z m → m.message_id < 2 ^ 64 → check_frame f frame ≡ Ok x → IsMeant z frame m
    → IsHeardAs z L k frame x m
heard_by z heads law trees frame m L k f x fits id ok (AsksNegotiate draws command e) =
    absurd (fits_no_dialog z m.command fits.command (ap number_of_command command))
heard_by z heads law trees frame m L k f x fits id ok (AsksSetup n r token command sequence own e) =
    absurd (fits_no_dialog z m.command fits.command (ap number_of_command command))
heard_by z heads law trees frame m L k f x fits id ok (AsksLine s e) = heard_line z heads law trees s m frame L k f x fits id e ok

pub requests_heard : AreHeadersLawful → AreCommandsLawful → TreeFacts → RequestsAreHeardAsMeant
requests_heard heads law trees z es i k u L f x fitting at bare fits ok =
    let own = own_requests_meant z es i u at bare in
    heard_by z heads law (trees z fitting) u.frame u.sent.message L k f x fits own.id_fits ok own.meant

-- ---- a frame that was heard unsealed isn't sealed

abbrev SealedAs : Bool → Result Frame ConnEnd → Type 0
SealedAs b (Err why) = Unit {0}
SealedAs b (Ok x) = x.sealed ≡ b

sealed_turn : (b : Bool) (o : Option ConnEnd) (r : Result Frame ConnEnd) → SealedAs b r → SealedAs b (if_in_turn o r)
sealed_turn b None r h = h
sealed_turn b (Some e) r h = tt

sealed_front : (b : Bool) (c : Checked) (r : Result Frame ConnEnd) → SealedAs b r → SealedAs b (in_front c r)
sealed_front b c (Err e) h = tt
sealed_front b c (Ok x) h = h

sealed_behind : (f : ServerEnd) (b barred : Bool) (xs : List HeardMessage) → SealedAs b (checked_behind f b barred xs)
unfolding checked_behind
sealed_behind f b barred [] = refl
sealed_behind f b barred (x ∷ xs) =
    let rest = checked_behind (behind_turn f x.header) b (bars f b barred x) xs in
    sealed_turn b (turn_end f x.header) (in_front (checked_as f b barred false x) rest)
    (sealed_front b (checked_as f b barred false x) rest (sealed_behind (behind_turn f x.header) b (bars f b barred x) xs))

sealed_in : (f : ServerEnd) (b : Bool) (xs : List HeardMessage) → SealedAs b (checked_in f b xs)
sealed_in f b [] = tt
sealed_in f b (x ∷ xs) =
    let rest = checked_behind (behind_turn f x.header) b (bars f b false x) xs in
    sealed_turn b (turn_end f x.header) (in_front (checked_as f b false true x) rest)
    (sealed_front b (checked_as f b false true x) rest (sealed_behind (behind_turn f x.header) b (bars f b false x) xs))

sealed_split : (f : ServerEnd) (o : Option (List HeardMessage)) → SealedAs true (checked_text f (split_text true o))
sealed_split f None = tt
sealed_split f (Some xs) = sealed_in f true xs

sealed_opened : (f : ServerEnd) (o : Option (List ℕ)) → SealedAs true (checked_text f (opened_text o))
sealed_opened f None = tt
sealed_opened f (Some text) = sealed_split f (messages_in text)

sealed_frame : (f : ServerEnd) (frame : List ℕ) → begins_sealed frame ≡ true → SealedAs true (check_frame f frame)
sealed_frame f frame on =
    either (λ r. SealedAs true (checked_text f r)) (is_too_long f.keys frame) (Err BadFrame) _ (λ _. tt)
    (λ _. either (λ r. SealedAs true (checked_text f r)) (begins_sealed frame) (opened_text (opened_by f.keys frame))
    (split_text false (messages_in frame)) (λ _. sealed_opened f (opened_by f.keys frame))
    (λ off. absurd (let a = on in let b = off in cc)))

pub bare_of : (f : ServerEnd) (frame : List ℕ) (x : Frame) → check_frame f frame ≡ Ok x → x.sealed ≡ false → begins_sealed frame ≡ false
bare_of f frame x ok plain = by (begins_sealed frame) refl
  where
    by : (b : Bool) → begins_sealed frame ≡ b → b ≡ false
    by false e = refl
    by true e =
        let h : x.sealed ≡ true = subst (SealedAs true) ok (sealed_frame f frame e) in
        absurd (let q : true ≡ false = sym h ∙ plain in cc)

-- ---- of one message only it is there

pub only_get : (xs : List Checked) (y c : Checked) (i : ℕ) → xs ≡ y ∷ [] → slice_get xs i ≡ Some c → y ≡ c
only_get xs y c zero e at = let q : Some y ≡ Some c = subst (λ l. slice_get l 0 ≡ Some c) e at in cc
only_get xs y c (suc n) e at = absurd (none_in [] n c refl (subst (λ l. slice_get l (suc n) ≡ Some c) e at))

pub raw_of : (f : ServerEnd) (frame : List ℕ) (x : Frame) (c : Checked) (i : ℕ) → check_frame f frame ≡ Ok x → begins_sealed frame ≡ false
    → messages_in frame ≡ Some (heard_in frame ∷ []) → slice_get x.messages i ≡ Some c → c.raw ≡ frame
raw_of f frame x c i ok bare one at =
    let y = heard_in frame in
    let got : (x.messages ≡ checked_as f false false true y ∷ []) × (x.server_end ≡ behind_turn f y.header) =
    subst (Reads f y) ok (reads_frame f frame y bare one) in
    sym (ap (λ (d : Checked). d.raw) (only_get x.messages (checked_as f false false true y) c i got.0 at))

-- on its own connection, without a fault
own_again : (m : Message) (k who : ℕ) (o : Option ℕ) → m.connection ≡ k → m.fault ≡ o
    → record m { connection = k; client_guid = who; fault = o } ≡ record m { client_guid = who }
own_again m k who o a b = λ j. record m { connection = sym a j; client_guid = who; fault = sym b j }

pub heard_meant : AreHeadersLawful → AreCommandsLawful → TreeFacts → HeardIsMeant
heard_meant heads law trees z es k place c L fitting all h fine n s p =
    let t = watched_to z es in
    let f = (t.repeating.world.wires k).server_end in
    let x = h.frame in
    let q = heard_is_own z es k place c all h fine n s p in
    let u = q.1 in
    let same : t.repeating ≡ repeated z es = watches_run z es (watching (repeat_start z)) in
    let given : slice_get (repeated z es).ups place ≡ Some h.put =
    subst (λ (v : RepeatWorld). slice_get v.ups place ≡ Some h.put) same h.at in
    let at : slice_get (repeated z es).ups q.0 ≡ Some u = subst (λ (v : RepeatWorld). slice_get v.ups q.0 ≡ Some u) same q.2 in
    let plain = bare_of f h.put.frame x h.heard h.plain in
    let one = own_frames_bear z es place h.put given plain in
    let e : u.frame ≡ h.put.frame = q.3 ∙ raw_of f h.put.frame x c h.index h.heard plain one.alone h.message in
    let bare : begins_sealed u.frame ≡ false = ap begins_sealed e ∙ plain in
    let ok : check_frame f u.frame ≡ Ok x = ap (check_frame f) e ∙ h.heard in
    let own = own_requests_meant z es q.0 u at bare in
    let m = u.sent.message in record {
      index = q.0;
      put = u;
      at = q.2;
      frame = q.3;
      connection = q.4;
      opening = q.5;
      heard = λ fits. (
          let a = requests_heard heads law trees z es q.0 k u L f x fitting at bare fits ok in
          let d : a.checked ≡ c = only_get x.messages a.checked c h.index a.messages h.message in
          let who = client_on x.server_end.greeting in
          subst (λ (g : Checked). heard_message z.server L k x.server_end g
          ≡ Some (record m { connection = k; client_guid = who; fault = g.fault })) d a.heard
          ∙ ap Some (own_again m k who c.fault (own.connection ∙ q.4) (own.fault ∙ sym fine)));
    }
