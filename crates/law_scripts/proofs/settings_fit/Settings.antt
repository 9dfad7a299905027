-- What a script gave makes settings that fit.
use Rattle.std.proofs.Common.{ℕ, ◌≤◌, Bool, true, false, if◌then◌else◌, List, [], ◌∷◌, map, length, codes, Option, Some, None}
use Rattle.std.proofs.Common.{refl, arith}
use Rattle.law_scripts.specs.script_setup.Scripts.{ciphers_of, drill_settings, first_user, signings_of, user_of}
use Rattle.script_words.specs.text_lines.Script.{nothing_given}
use Rattle.script_words.specs.text_lines.Settings.{or_else, settings_of, users_or}
use Rattle.script_words.specs.declared.text_lines.settings.Settings.{Settings}
use Rattle.script_words.specs.Parts.{characters}
use Rattle.script_words.specs.declared.values.Cipher.{Cipher}
use Rattle.script_words.specs.declared.values.Cipher.TheVariants as ciphers
use Rattle.script_words.specs.declared.values.Given.{Given}
use Rattle.script_words.specs.declared.values.Signing.{Signing}
use Rattle.script_words.specs.declared.values.Signing.TheVariants as signings
use Rattle.script_words.specs.declared.values.User.{User}
use Rattle.spec_crypto.specs.tokens.Acceptor as acceptor
use Rattle.spec_crypto.specs.tokens.Acceptor.{is_named, user_named}
use Rattle.spec_crypto.specs.tokens.Formulas.{utf16}
use Rattle.law_ties.specs.wire_facts.Fitting.{AreCiphers, AreSignings, AreUsers, HasPassword, IsFitting}
use Rattle.law_scripts.specs.settings_fit.Fits.{DefaultsFit, ScriptsFit}
use Rattle.law_scripts.proofs.settings_fit.Lines.{given_fits}
use Rattle.law_scripts.proofs.settings_fit.Texts.{IsShare, all_ascii, ascii_text, name_fits, password_fits, plain, share_fits}
use Rattle.law_scripts.proofs.settings_fit.Words.{AtMostOne, GivenFits, IsUser, MayBeShare}

-- ---- what isn't given

few_user : characters (codes "user") ≤ 256
unfolding characters Rattle.script_words.specs.Parts.begins_character
few_user = omega arith

few_password : characters (codes "Password") ≤ 256
unfolding characters Rattle.script_words.specs.Parts.begins_character
few_password = omega arith

few_data : characters (codes "data") ≤ 256
unfolding characters Rattle.script_words.specs.Parts.begins_character
few_data = omega arith

default_user : IsUser (record { name = codes "user"; password = codes "Password" })
default_user = record {
  name = name_fits (codes "user") (all_ascii (codes "user") refl) few_user;
  password = password_fits (codes "Password") (ascii_text (codes "Password") (all_ascii (codes "Password") refl)) few_password;
}

default_share : IsShare (codes "data")
default_share = share_fits (codes "data") (ascii_text (codes "data") (all_ascii (codes "data") refl)) few_data (plain (codes "data") refl)

-- ---- one user

abbrev JustOne : List User → Type 0
JustOne [] = ⊥
JustOne (u ∷ []) = IsUser u
JustOne (u ∷ v ∷ us) = ⊥

one_user : (us : List User) → AtMostOne us → JustOne (users_or us)
one_user [] h = default_user
one_user (u ∷ []) h = h
one_user (u ∷ v ∷ us) h = absurd h

first_fits : (us : List User) → JustOne us → IsUser (first_user us)
first_fits [] h = absurd h
first_fits (u ∷ []) h = h
first_fits (u ∷ v ∷ us) h = absurd h

users_fit : (us : List User) → JustOne us → AreUsers (map user_of us)
users_fit [] h = tt
users_fit (u ∷ []) h = (h.name, h.password, tt)
users_fit (u ∷ v ∷ us) h = absurd h

-- it is found by its name or not at all
found : (b : Bool) (u : acceptor.User) → HasPassword (if b then Some u else None) u.password
found true u = refl
found false u = tt

password_is : (us : List User) → JustOne us
    → HasPassword (user_named (utf16 (first_user us).name) (map user_of us)) (first_user us).password
unfolding user_named
password_is [] h = absurd h
password_is (u ∷ []) h = found (is_named (utf16 u.name) u.name) (user_of u)
password_is (u ∷ v ∷ us) h = absurd h

share_is : (o : Option (List ℕ)) → MayBeShare o → IsShare (or_else (codes "data") o)
share_is None h = default_share
share_is (Some name) h = h

-- ---- what is offered

ciphers_fit : (c : Cipher) → AreCiphers (ciphers_of c)
ciphers_fit ciphers.None = tt
ciphers_fit ciphers.Ccm = (refl, (refl, (refl, (refl, tt))))
ciphers_fit ciphers.Gcm = (refl, (refl, (refl, (refl, tt))))
ciphers_fit ciphers.Ccm256 = (refl, (refl, (refl, (refl, tt))))
ciphers_fit ciphers.Gcm256 = (refl, (refl, (refl, (refl, tt))))

few_ciphers : (c : Cipher) → length (ciphers_of c) ≤ 4
few_ciphers ciphers.None = omega arith
few_ciphers ciphers.Ccm = omega arith
few_ciphers ciphers.Gcm = omega arith
few_ciphers ciphers.Ccm256 = omega arith
few_ciphers ciphers.Gcm256 = omega arith

signings_fit : (s : Signing) → AreSignings (signings_of s)
signings_fit signings.Cmac = (refl, (refl, tt))
signings_fit signings.Gmac = (refl, (refl, tt))

few_signings : (s : Signing) → length (signings_of s) ≤ 2
few_signings signings.Cmac = omega arith
few_signings signings.Gmac = omega arith

-- ---- all settings

drill_fits : (s : Settings) (seed : List ℕ) → JustOne s.users → IsShare s.share → IsFitting (drill_settings s seed)
unfolding drill_settings
drill_fits s seed one share =
    let first = first_fits s.users one in
    record {
      client = record {
        user = first.name;
        password = first.password;
        guid = refl;
        ciphers = ciphers_fit s.cipher;
        signings = signings_fit s.signing;
        few_ciphers = few_ciphers s.cipher;
        few_signings = few_signings s.signing;
      };
      users = users_fit s.users one;
      server_guid = refl;
      password = password_is s.users one;
      share = share.fits;
      plain_share = share.plain_name;
    }

given_settings : (g : Given) (seed : List ℕ) → GivenFits g → IsFitting (drill_settings (settings_of g) seed)
unfolding settings_of
given_settings g seed h = drill_fits (settings_of g) seed (one_user g.users h.users) (share_is g.share h.share)

pub scripts_fit : ScriptsFit
scripts_fit text r e seed = given_settings r.given seed (given_fits text r e)

pub defaults_fit : DefaultsFit
defaults_fit begun seed = given_settings (record nothing_given { begun = begun }) seed (record { users = tt; share = tt })
