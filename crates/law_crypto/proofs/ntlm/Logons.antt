-- One's own answer is the logon with one's own key.
use Rattle.std.proofs.Common.{◌≡◌, ℕ, ◌≤◌, nat_le, Bool, true, false, not, ◌&&◌, if◌then◌else◌, List, [], ◌∷◌, ◌++◌}
use Rattle.std.proofs.Common.{length, take, drop, replicate, refl, sym, ap, ◌∙◌, arith, Some, Ok}
use Rattle.std.proofs.lemmas.Bool.Decides.{nat_tests}
use Rattle.std.proofs.lemmas.List.{take_at, drop_at}
use Rattle.std.proofs.lemmas.Slice.Eq.{bytes_eq-Decides}
use Rattle.std.specs.Str.{bytes_eq, IsAscii}
use Rattle.spec_crypto.specs.ciphers.Md4.{md4}
use Rattle.spec_crypto.specs.ciphers.Hmac.{hmac_of_md5}
use Rattle.spec_wire.specs.messages.Places.{le}
use Rattle.spec_wire.specs.messages.Table.{Raw, Num, Any, with_fields}
use Rattle.spec_crypto.specs.tokens.Formulas.{utf16, upper, ntowf_in, proof, base_key, exchanged_key, without_mic, mic}
use Rattle.spec_crypto.specs.tokens.Messages.{Type2Value, Type3Value, ntlm_signature, type3_places, type3_in, type3_spelling}
use Rattle.spec_crypto.specs.tokens.Acceptor.{User, is_ascii_utf16, is_named, user_named, exchanges, has_form, user_key, proves}
use Rattle.spec_crypto.specs.tokens.Acceptor.{exported_key, owes_mic, logon_of, verdict}
use Rattle.spec_crypto.specs.tokens.Answer.{Credentials, client_info, time_in, temp_of, key_of, proof_of, answer_with, answer_code}
use Rattle.spec_crypto.specs.tokens.Pairs.{pair_in}
use Rattle.law_crypto.proofs.ntlm.Reading.{response_long, length-time}
use Rattle.law_crypto.proofs.ntlm.Letters.{utf16-upper, ascii_name}
use Rattle.law_crypto.proofs.ntlm.Codes.{exchanged_twice, length-exchanged, length-proof, length-mic, zeroed}

-- ---- the code

-- what stands before the code: 72 bytes
abbrev front_of : Type3Value → List ℕ
front_of w = with_fields [] ((Raw 8 ntlm_signature ∷ Num 4 3 ∷ type3_places w) ++ Num 4 w.flags ∷ Any 8 ∷ [])

spelled : (w : Type3Value) → type3_spelling w ≡ ((((((front_of w ++ w.mic) ++ w.lm) ++ w.nt) ++ w.domain) ++ w.user) ++
    w.workstation) ++ w.session_key
unfolding type3_spelling
spelled w = refl

front_size : (w : Type3Value) → length (front_of w) ≡ 72
unfolding le
front_size w = refl

uncoded : (c : Credentials) (v : Type2Value) (code : List ℕ) → length code ≡ 16 → without_mic (type3_spelling
    (answer_with c v code)) ≡ without_mic (type3_spelling (answer_with c v (replicate 16 0)))
uncoded c v code long =
    let w : Type3Value = answer_with c v code in
    let z : Type3Value = answer_with c v (replicate 16 0) in
    ap without_mic (spelled w)
    ∙ (zeroed (front_of w) code w.lm w.nt w.domain w.user w.workstation w.session_key (front_size w) long
    ∙ sym (ap without_mic (spelled z) ∙ zeroed (front_of z) (replicate 16 0) z.lm z.nt z.domain z.user z.workstation
    z.session_key (front_size z) refl))

-- the code of an answer is that of the answer with the code
coded : (c : Credentials) (first second : List ℕ) (v : Type2Value) → answer_code c first second v ≡ mic c.key first
    second (type3_spelling (answer_with c v (answer_code c first second v)))
unfolding mic
coded c first second v =
    let code : List ℕ = answer_code c first second v in
    let long : length code ≡ 16 = length-mic c.key first second (type3_spelling (answer_with c v (replicate 16 0))) in
    ap (λ (x : List ℕ). hmac_of_md5 c.key (first ++ (second ++ x))) (sym (uncoded c v code long))

-- ---- the user

found_by : (name : List ℕ) (u w : User) (us : List User) (b : Bool) → is_named name u.name ≡ b → (user_named name us ≡
    Some w → is_named name w.name ≡ true) → (if b then Some u else user_named name us) ≡ Some w → is_named name w.name ≡
    true
found_by name u w us true e later h = let same : u ≡ w = cc in ap (λ (x : User). is_named name x.name) (sym same) ∙ e
found_by name u w us false e later h = later h

-- the user who is found has the name
found_named : (name : List ℕ) (users : List User) (w : User) → user_named name users ≡ Some w → is_named name w.name ≡ true
unfolding user_named
found_named name [] w h = absurd cc
found_named name (u ∷ us) w h = found_by name u w us (is_named name u.name) refl (λ e. found_named name us w e) h

same_name : (name : List ℕ) (w : User) → is_named name w.name ≡ true → upper name ≡ utf16 (upper w.name)
unfolding is_named
same_name name w h = (bytes_eq-Decides (upper name) (utf16 (upper w.name))).0 h

-- the key that the server makes of the user is the client's
same_key : (c : Credentials) (users : List User) (u : User) → IsAscii c.user → user_named (utf16 c.user) users ≡ Some u
    → u.password ≡ c.password → ntowf_in u.password u.name (utf16 c.domain) ≡ key_of c
unfolding ntowf_in
same_key c users u ascii named password =
    let name : utf16 (upper u.name) ≡ utf16 (upper c.user) = sym (same_name (utf16 c.user) u (found_named (utf16 c.user)
    users u named)) ∙ sym (utf16-upper c.user ascii) in
    λ t. hmac_of_md5 (md4 (utf16 (password t))) (name t ++ utf16 c.domain)

-- ---- the proof and the key

fits : (k n : ℕ) → k ≤ n → nat_le k n ≡ true
fits k n h = grind (arith, nat_tests)

proved : (c : Credentials) (v : Type2Value) (code : List ℕ) (u : User) (server : List ℕ) → length c.challenge ≡ 8 →
    length c.key ≡ 16 → user_key u (answer_with c v code) ≡ key_of c → v.challenge ≡ server → proves u server
    (answer_with c v code) ≡ true
unfolding proves has_form exchanges
proved c v code u server eight long key sent =
    let shown : List ℕ = proof_of c v in
    let text : List ℕ = temp_of c v in
    let size : length shown ≡ 16 = length-proof (key_of c) v.challenge text in
    let front : take 16 (shown ++ text) ≡ shown = take_at shown text 16 size in
    let back : drop 16 (shown ++ text) ≡ text = drop_at shown text 16 size in
    let exchanged : length (exchanged_key (base_key (key_of c) shown) c.key) ≡ 16 = length-exchanged (base_key (key_of
    c) shown) c.key ∙ long in
    let due : take 16 (shown ++ text) ≡ proof (user_key u (answer_with c v code)) server (drop 16 (shown ++ text)) =
    front ∙ sym (λ t. proof (key t) (sym sent t) (back t)) in
    let same : bytes_eq (take 16 (shown ++ text)) (proof (user_key u (answer_with c v code)) server (drop 16 (shown ++
    text))) ≡ true = (bytes_eq-Decides (take 16 (shown ++ text)) (proof (user_key u (answer_with c v code)) server
    (drop 16 (shown ++ text)))).1 due in
    let room : nat_le 44 (length (shown ++ text)) ≡ true =
    fits 44 (length (shown ++ text)) (response_long shown (time_in v.target_info) c.challenge (client_info
    v.target_info) size (length-time (pair_in (length v.target_info) 7 v.target_info)) eight) in
    rw (room, exchanged, same) refl

exported : (c : Credentials) (v : Type2Value) (code : List ℕ) (u : User) → user_key u (answer_with c v code) ≡ key_of c
    → exported_key u (answer_with c v code) ≡ c.key
unfolding exported_key exchanges
exported c v code u key =
    let shown : List ℕ = proof_of c v in
    let front : take 16 (shown ++ temp_of c v) ≡ shown = take_at shown (temp_of c v) 16 (length-proof (key_of c)
    v.challenge (temp_of c v)) in
    (λ t. exchanged_key (base_key (key t) (front t)) (exchanged_key (base_key (key_of c) shown) c.key)) ∙
    exchanged_twice (base_key (key_of c) shown) c.key

-- ---- the verdict

mic_there : (o e : Bool) → e ≡ true → (o && not e) ≡ false
mic_there true true h = refl
mic_there true false h = absurd cc
mic_there false e h = refl

judged : (users : List User) (server first second third : List ℕ) (w : Type3Value) (u : User) → type3_in third ≡ Ok w →
    is_ascii_utf16 w.user ≡ true → user_named w.user users ≡ Some u → proves u server w ≡ true → w.mic ≡ mic
    (exported_key u w) first second third
    → verdict users server first second third ≡ Ok (logon_of u w)
unfolding verdict
judged users server first second third w u reads ascii named shown code =
    let due : List ℕ = mic (exported_key u w) first second third in
    let there = mic_there (owes_mic w) (bytes_eq w.mic due) ((bytes_eq-Decides w.mic due).1 code) in
    rw (reads, ascii, named, shown, there) refl

pub own_verdict : (c : Credentials) (users : List User) (u : User) (server first second third : List ℕ) (v : Type2Value)
    → length c.challenge ≡ 8 → length c.key ≡ 16 → IsAscii c.user → user_named (utf16 c.user) users ≡ Some u →
    u.password ≡ c.password → v.challenge ≡ server
    → type3_in third ≡ Ok (answer_with c v (answer_code c first second v)) → type3_spelling (answer_with c v
    (answer_code c first second v)) ≡ third
    → verdict users server first second third ≡ Ok (record { user = u.name; key = c.key; exchanged = true })
unfolding exchanges
own_verdict c users u server first second third v eight long ascii named password sent reads is =
    let code : List ℕ = answer_code c first second v in
    let w : Type3Value = answer_with c v code in
    let key : user_key u w ≡ key_of c = same_key c users u ascii named password in
    let exported_is : exported_key u w ≡ c.key = exported c v code u key in
    let mic_is : w.mic ≡ mic (exported_key u w) first second third = coded c first second v ∙ (λ t. mic (sym exported_is
    t) first second (is t)) in
    judged users server first second third w u reads (ascii_name c.user ascii) named (proved c v code u server eight long key sent) mic_is
    ∙ (λ t. Ok (record { user = u.name; key = exported_is t; exchanged = true }))
