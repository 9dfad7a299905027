-- A frame sealed and unsealed where it stands: a header of 52 bytes, and what stands behind it.
use Rattle.std.proofs.Common.{◌≡◌, ℕ, ◌-◌, ◌≤◌, Bool, true, false, List, [], ◌++◌, append_assoc, length, take, drop}
use Rattle.std.proofs.Common.{length-append, length-drop, refl, sym, ap, ◌∙◌, arith, None, Ok, Err}
use Rattle.std.proofs.lemmas.List.{append-nil, take_at, take_all, drop_at, drop_all, drop-drop, drop-take}
use Rattle.std.proofs.lemmas.List.{take-append-le, drop-append-le, take-append-drop, length-take-le}
use Rattle.std.proofs.lemmas.Slice.Eq.{bytes_eq-Decides}
use Rattle.std.specs.Str.{bytes_eq}
use borrow.Rule.Slice.PartMut.{put_mid}
use Rattle.spec_crypto.specs.ciphers.Gcm
use Rattle.spec_crypto.specs.ciphers.Ccm
use Rattle.crypto_ciphers.specs.aes_modes.InPlace.{OpensInPlace}
use Rattle.law_crypto.proofs.ciphers.Unmasking.{front_of, back_of}
use Rattle.spec_wire.specs.messages.Places.{bytes_at}
use Rattle.spec_crypto.specs.declared.sessions.error.SealError.TheVariants.{BadTag}
use Rattle.spec_crypto.specs.sessions.Sealing.{words_of, is_gcm, ciphertext, tag_of, frame_fault, shown, tag_is_right, unsealed_by}
use Rattle.crypto_sessions.specs.session_keys.Sealing.{SealsBehind}
use Rattle.crypto_sessions.specs.session_keys.Unsealing.{ShowsText}

-- ---- lists

-- what is put behind the header
pub behind : (f ys : List ℕ) → 52 ≤ length f → put_mid 52 (length f - 52) f ys ≡ take 52 f ++ ys
behind f ys h =
    let none : drop (length f - 52) (drop 52 f) ≡ [] = drop_all (length f - 52) (drop 52 f) (let l = length-drop 52 f in omega arith) in
    ap (λ (t : List ℕ). take 52 f ++ (ys ++ t)) none ∙ ap (λ (t : List ℕ). take 52 f ++ t) (append-nil ys)

take_front : (a b : List ℕ) (n k : ℕ) → n ≤ k → k ≤ length a → take n (take k a ++ b) ≡ take n a
take_front a b n k le fit =
    let front : List ℕ = take k a in
    let len : length front ≡ k = length-take-le k a fit in
    take-append-le n front b (omega arith) ∙ sym (take-append-le n front (drop k a) (omega arith)) ∙ ap (take n) (take-append-drop k a)

-- the tag is put into the header
pub tagged : (old hidden tag m : List ℕ) → 52 ≤ length old → m ≡ take 52 old ++ hidden → put_mid 4 16 m tag ≡ take 4 old
    ++ (tag ++ (take 32 (drop 20 old) ++ hidden))
tagged old hidden tag m whole is =
    let front : take 4 m ≡ take 4 old = ap (take 4) is ∙ take_front old hidden 4 52 (omega arith) whole in
    let len : length (take 52 old) ≡ 52 = length-take-le 52 old whole in
    let back : drop 16 (drop 4 m) ≡ take 32 (drop 20 old) ++ hidden =
    drop-drop 16 4 m ∙ ap (drop 20) is ∙ drop-append-le 20 (take 52 old) hidden (omega arith) ∙ ap (λ (t : List ℕ). t ++
    hidden) (drop-take 20 32 old) in
    λ t. front t ++ (tag ++ back t)

-- a frame of its parts
pub sealed_frame : (cipher : ℕ) (key nonce added text front gap old new : List ℕ) → length front ≡ 4 → length gap ≡ 16 →
    length added ≡ 32 → old ≡ ((front ++ gap) ++ added) ++ text → SealsBehind cipher key nonce added old new
    → new ≡ front ++ (tag_of cipher key nonce added text (ciphertext cipher key nonce text) ++ (added ++ ciphertext cipher key nonce text))
sealed_frame cipher key nonce added text front gap old new f g a is made =
    let two = length-append front gap in
    let three = length-append (front ++ gap) added in
    let behind_all : drop 52 old ≡ text = ap (drop 52) is ∙ drop_at ((front ++ gap) ++ added) text 52 (omega arith) in
    let begins : take 4 old ≡ front = ap (take 4) (is ∙ append_assoc (front ++ gap) added text ∙ append_assoc front gap
    (added ++ text)) ∙ take_at front (gap ++ (added ++ text)) 4 f in
    let told : take 32 (drop 20 old) ≡ added = ap (λ (x : List ℕ). take 32 (drop 20 x)) (is ∙ append_assoc (front ++
    gap) added text) ∙ ap (take 32) (drop_at (front ++ gap) (added ++ text) 20 (omega arith)) ∙ take_at added text
    32 a in
    made ∙ (λ t. begins t ++ (tag_of cipher key nonce added (behind_all t) (ciphertext cipher key nonce (behind_all t))
    ++ (told t ++ ciphertext cipher key nonce (behind_all t))))

-- ---- what opens

gcm_shown : (r : Bool) (cipher : ℕ) (key nonce added tag old new : List ℕ) → is_gcm cipher ≡ true → length tag ≡ 16
    → OpensInPlace (λ o. Gcm.Opens (words_of cipher key) (take 12 nonce) added (old ++ tag) o) old new r → ShowsText
    cipher key nonce added tag old new r
unfolding tag_of ciphertext
gcm_shown true cipher key nonce added tag old new is len h =
    let ws = words_of cipher key in
    let n = take 12 nonce in
    let front = front_of old tag 16 len in
    let same : tag ≡ Gcm.tag_of ws n added old = sym (back_of old tag 16 len) ∙ (h.0.tag ∙ ap (λ (x : List ℕ).
    Gcm.tag_of ws n added x) front) in
    (rw is same, rw is (h.1 ∙ ap (λ (x : List ℕ). Gcm.plaintext ws n x) front))
gcm_shown false cipher key nonce added tag old new is len h =
    let ws = words_of cipher key in
    let n = take 12 nonce in
    let front = front_of old tag 16 len in
    let whole = length-append old tag in
    let differ : tag ≡ Gcm.tag_of ws n added old → ⊥ = λ e. h.0 (record {
      whole = omega arith;
      tag = back_of old tag 16
          len ∙ (e ∙ ap (λ (x : List ℕ). Gcm.tag_of ws n added x) (sym front));
    }) in
    (rw is differ, h.1)

ccm_shown : (r : Bool) (cipher : ℕ) (key nonce added tag old new : List ℕ) → is_gcm cipher ≡ false → length tag ≡ 16
    → OpensInPlace (λ o. Ccm.Opens (words_of cipher key) (take 11 nonce) added (old ++ tag) 16 o) old new r → ShowsText
    cipher key nonce added tag old new r
unfolding tag_of ciphertext
ccm_shown true cipher key nonce added tag old new is len h =
    let ws = words_of cipher key in
    let n = take 11 nonce in
    let front = front_of old tag 16 len in
    let text : new ≡ Ccm.plaintext ws n old = h.1 ∙ ap (λ (x : List ℕ). Ccm.plaintext ws n x) front in
    let same : tag ≡ Ccm.tag_of ws n added new 16 = sym (back_of old tag 16 len) ∙ (h.0.same ∙ ap (λ (x : List ℕ).
    Ccm.tag_of ws n added x 16) (sym h.1)) in
    (rw is same, rw is text)
ccm_shown false cipher key nonce added tag old new is len h =
    let ws = words_of cipher key in
    let n = take 11 nonce in
    let front = front_of old tag 16 len in
    let whole = length-append old tag in
    let differ : tag ≡ Ccm.tag_of ws n added (Ccm.plaintext ws n old) 16 → ⊥ =
    λ e. h.0 (record {
      whole = omega arith;
      same = back_of old tag 16 len ∙ (e ∙ ap (λ (x : List ℕ). Ccm.tag_of ws n
          added (Ccm.plaintext ws n x) 16) (sym front));
    }) in
    (rw is differ, h.1)

pub shown_by_gcm : (r : Bool) (cipher : ℕ) (key nonce added tag old new : List ℕ) (ws : List (List ℕ)) (n : List ℕ) →
    is_gcm cipher ≡ true → length tag ≡ 16 → ws ≡ words_of cipher key → n ≡ take 12 nonce
    → OpensInPlace (λ o. Gcm.Opens ws n added (old ++ tag) o) old new r → ShowsText cipher key nonce added tag old new r
shown_by_gcm r cipher key nonce added tag old new ws n is len ew en h =
    gcm_shown r cipher key nonce added tag old new is len (let g = rw (ew, en) at h in g)

pub shown_by_ccm : (r : Bool) (cipher : ℕ) (key nonce added tag old new : List ℕ) (ws : List (List ℕ)) (size : ℕ) →
    is_gcm cipher ≡ false → length tag ≡ 16 → ws ≡ words_of cipher key → size ≡ 16
    → OpensInPlace (λ o. Ccm.Opens ws (take 11 nonce) added (old ++ tag) size o) old new r → ShowsText cipher key nonce added tag old new r
shown_by_ccm r cipher key nonce added tag old new ws size is len ew en h =
    ccm_shown r cipher key nonce added tag old new is len (let g = rw (ew, en) at h in g)

-- ---- the message of a frame

not_true : (b : Bool) → (b ≡ true → ⊥) → b ≡ false
not_true true h = absurd (h refl)
not_true false h = refl

pub right : (r : Bool) (cipher : ℕ) (key nonce frame added tag old text : List ℕ) (session : ℕ) → r ≡ true → frame_fault
    session frame ≡ None → old ≡ drop 52 frame → nonce ≡ bytes_at 16 frame 20 → added ≡ bytes_at 32 frame 20 → tag ≡
    bytes_at 16 frame 4
    → ShowsText cipher key nonce added tag old text r → unsealed_by cipher key session frame ≡ Ok text
unfolding unsealed_by tag_is_right
right false cipher key nonce frame added tag old text session same_tag none eo en ea et h = absurd cc
right true cipher key nonce frame added tag old text session same_tag none eo en ea et h =
    let is : text ≡ shown cipher key frame = h.1 ∙ (λ t. ciphertext cipher key (en t) (eo t)) in
    let due : List ℕ = tag_of cipher key (bytes_at 16 frame 20) (bytes_at 32 frame 20) (shown cipher key frame) (drop 52 frame) in
    let same : bytes_at 16 frame 4 ≡ due = sym et ∙ (h.0 ∙ (λ t. tag_of cipher key (en t) (ea t) (is t) (eo t))) in
    rw (none, (bytes_eq-Decides (bytes_at 16 frame 4) due).1 same) (ap Ok (sym is))

pub wrong : (r : Bool) (cipher : ℕ) (key nonce frame added tag old text : List ℕ) (session : ℕ) → r ≡ false →
    frame_fault session frame ≡ None → old ≡ drop 52 frame → nonce ≡ bytes_at 16 frame 20 → added ≡ bytes_at 32 frame 20
    → tag ≡ bytes_at 16 frame 4
    → ShowsText cipher key nonce added tag old text r → (unsealed_by cipher key session frame ≡ Err BadTag) × (text ≡ old)
unfolding unsealed_by tag_is_right
wrong true cipher key nonce frame added tag old text session other_tag none eo en ea et h = absurd cc
wrong false cipher key nonce frame added tag old text session other_tag none eo en ea et h =
    let due : List ℕ = tag_of cipher key (bytes_at 16 frame 20) (bytes_at 32 frame 20) (shown cipher key frame) (drop 52 frame) in
    let back : due ≡ tag_of cipher key nonce added (ciphertext cipher key nonce old) old = sym (λ t. tag_of cipher key
    (en t) (ea t) (ciphertext cipher key (en t) (eo t)) (eo t)) in
    let differ : bytes_eq (bytes_at 16 frame 4) due ≡ false = not_true (bytes_eq (bytes_at 16 frame 4) due) (λ e. h.0
    (et ∙ ((bytes_eq-Decides (bytes_at 16 frame 4) due).0 e ∙ back))) in
    (rw (none, differ) refl, h.1)

-- what was put behind the header, and the header
pub text_behind : (frame text : List ℕ) → 52 ≤ length frame → (drop 52 (put_mid 52 (length frame - 52) frame text) ≡
    text) × (take 52 (put_mid 52 (length frame - 52) frame text) ≡ take 52 frame)
text_behind frame text whole =
    let e = behind frame text whole in
    let len : length (take 52 frame) ≡ 52 = length-take-le 52 frame whole in
    (ap (drop 52) e ∙ drop_at (take 52 frame) text 52 len, ap (take 52) e ∙ take_at (take 52 frame) text 52 len)

pub put_again : (frame text : List ℕ) → 52 ≤ length frame → text ≡ drop 52 frame → put_mid 52 (length frame - 52) frame text ≡ frame
put_again frame text whole is = behind frame text whole ∙ (ap (λ (t : List ℕ). take 52 frame ++ t) is ∙ take-append-drop 52 frame)

-- a vector's elements behind a write to all of them
pub written : (new old : List ℕ) (n : ℕ) → n ≡ length new → take n (new ++ drop (length new) old) ≡ new
written new old n len = take_at new (drop (length new) old) n (sym len)

pub whole_rest : (frame : List ℕ) → take (length frame - 52) (drop 52 frame) ≡ drop 52 frame
whole_rest frame = take_all (length frame - 52) (drop 52 frame) (let l = length-drop 52 frame in omega arith)

-- what is put over the first 52 bytes
pub in_front : (frame new header : List ℕ) → 52 ≤ length frame → new ≡ header → put_mid 0 52 frame new ≡ header ++ drop 52 frame
in_front frame new header whole is = ap (λ (t : List ℕ). t ++ drop 52 frame) is
